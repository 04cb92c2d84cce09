-- Lists of names, of which the newest stands first.
use Rattle.std.proofs.Common.{if◌then◌else◌, Result, Ok, Err, OnOk, ◌≡◌, refl, sym, ap, ◌∙◌, arith, ℕ, ◌-◌, ◌≤◌, Bool, true, false, ◌||◌, List, [], ◌∷◌, ◌++◌, map, length, reverse, take, drop, length-append}
use Rattle.std.specs.Result.{is_ok}
use Rattle.std.specs.List.{list_any}
use Rattle.std.proofs.lemmas.List.{length-drop, length-take-le, map-append, take-map, reverse-append, length-reverse, take-append-drop, take-append-le, take_all, drop-append-le, drop_all, drop-map}
use Rattle.std.proofs.lemmas.List.Folds.{list_any-append}
pub use Rattle.hum_core.proofs.NewestItems.{drop_front, newest, truncated}

or_last : (a b : Bool) → (a || (b || false)) ≡ (b || a)
or_last true true = refl
or_last true false = refl
or_last false true = refl
or_last false false = refl

pub any_turned : {X : Type 0} (p : X → Bool) (xs : List X) → list_any p (reverse xs) ≡ list_any p xs
any_turned p [] = refl
any_turned p (x ∷ xs) =
    ap (list_any p) (reverse-append (x ∷ []) xs)
    ∙ list_any-append p (reverse xs) (x ∷ [])
    ∙ or_last (list_any p (reverse xs)) (p x)
    ∙ ap (λ b. p x || b) (any_turned p xs)

pub all_behind : {X : Type 0} (xs : List X) (k : ℕ) → take (length xs - k) (drop k xs) ≡ drop k xs
all_behind xs k = take_all (length xs - k) (drop k xs) (omega (arith, length-drop k xs))

pub where_ok : {T E X : Type 0} (x a b : X) (r : Result T E) → x ≡ (if is_ok r then a else b) → OnOk r (x ≡ a)
where_ok x a b (Ok t) h = h
where_ok x a b (Err e) h = tt

-- the values of a vector's items, the last first
abbrev shown : {X Y : Type 0} → (X → Y) → List X → List Y
shown f xs = reverse (map f xs)

pub extended : {X Y : Type 0} (f : X → Y) (xs ys : List X) (k : ℕ) → k ≤ length (shown f ys)
    → shown f (xs ++ drop k ys) ≡ take (length (shown f ys) - k) (shown f ys) ++ shown f xs
extended f xs ys k h =
    ap reverse (map-append f xs (drop k ys))
    ∙ reverse-append (map f xs) (map f (drop k ys))
    ∙ ap (λ zs. reverse zs ++ shown f xs) (sym (drop-map f k ys))
    ∙ ap (λ zs. zs ++ shown f xs) (sym (newest (map f ys) k h))

pub newest_of_all : {X : Type 0} (xs : List X) → take (length xs - 0) xs ≡ xs
newest_of_all xs = take_all (length xs - 0) xs (omega arith)
