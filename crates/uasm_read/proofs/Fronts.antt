-- The first item of a slice, and those behind it, as the pattern `[first, more @ ..]` gives them.
use Rattle.std.proofs.Common.{◌≡◌, suc, ◌+◌, ◌-◌, ◌≤◌, ◌<◌, List, [], ◌∷◌, length, take, drop, get_or, refl, ◌∙◌, arith, length-drop}
use Rattle.std.proofs.lemmas.List.{take_rest, drop_more}

abbrev pub behind : {X : Type 0} → List X → List X
behind xs = take (length xs - 1) (drop 1 xs)

pub front_item : {X : Type 0} (xs : List X) (x : X) → 1 ≤ length xs → x ≡ get_or xs 0 x → xs ≡ x ∷ behind xs
front_item xs x some is = drop_more xs 0 x (omega arith) ∙ rw (take_rest xs 1, ← is) refl

pub no_item : {X : Type 0} (xs : List X) → length xs < 1 → xs ≡ []
no_item [] none = refl
no_item (x ∷ xs) none = absurd (let e : suc (length xs) < 1 = none in omega (arith, e))

pub length-behind : {X : Type 0} (xs : List X) → 1 ≤ length xs → length (behind xs) + 1 ≡ length xs
length-behind {X = X} xs some = rw (take_rest xs 1) (omega (arith, length-drop 1 xs))
