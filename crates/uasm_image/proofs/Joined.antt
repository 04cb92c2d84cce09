-- What several calls wrote at the end of one list.
use Rattle.std.proofs.Common.{◌≡◌, ℕ, ◌+◌, ◌<◌, Bool, true, List, [], ◌∷◌, ◌++◌, length, take, get_or, Result, Ok, Err, refl, sym, ap, ◌∙◌, append_assoc}
use Rattle.std.specs.Prelude.{OnOk}
use Rattle.std.specs.List.{flat_map, list_all}
use Rattle.std.proofs.lemmas.List.Folds.{list_all_more}
use Rattle.std.proofs.lemmas.List.{flat_map_more, take_more}

-- four pieces, of which the last may fail
pub four_joined : {E : Type 0} (r : Result Unit E) (a b c d e w x y z : List ℕ) → b ≡ a ++ w → c ≡ b ++ x → d ≡ c ++ y → OnOk r (e ≡ d ++ z)
    → OnOk r (e ≡ a ++ (w ++ x ++ y ++ z))
four_joined (Ok u) a b c d e w x y z p q s t = rw (t, s, q, p) (simp append_assoc)
four_joined (Err f) a b c d e w x y z p q s t = tt

-- one more piece
pub piece_joined : {X : Type 0} (f : X → List ℕ) (front : List ℕ) (xs : List X) (i : ℕ) (x : X) (old new : List ℕ) → i < length xs
    → x ≡ get_or xs i x → old ≡ front ++ flat_map f (take i xs) → new ≡ old ++ f x
    → new ≡ front ++ flat_map f (take (i + 1) xs)
piece_joined f front xs i x old new lt is so_far more =
    let t : take (i + 1) xs ≡ take i xs ++ x ∷ [] = take_more xs i x lt ∙ ap (λ e. take i xs ++ e ∷ []) (sym is) in
    rw (more, so_far, t) (flat_map_more f front (take i xs) x)

-- one more item that passes the test
pub one_more : {X : Type 0} (test : X → Bool) (xs : List X) (i : ℕ) (x : X) → i < length xs → x ≡ get_or xs i x
    → list_all test (take i xs) ≡ true → test x ≡ true → list_all test (take (i + 1) xs) ≡ true
one_more test xs i x lt is so_far h =
    let k : test (get_or xs i x) ≡ true = ap test (sym is) ∙ h in
    rw (list_all_more test xs i x lt, so_far, k) refl
