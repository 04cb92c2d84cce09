-- The newest and the oldest items of a vector that stands for a list whose first item was pushed last.
use Rattle.std.proofs.Common.{◌≡◌, sym, ap, ◌∙◌, arith, ℕ, ◌-◌, ◌≤◌, List, ◌++◌, map, length, reverse, take, drop, length-append}
use Rattle.std.proofs.lemmas.List.{length-take-le, take-map, reverse-append, length-reverse, take-append-drop, take-append-le, take_all, drop-append-le, drop_all}

take_front : {X : Type 0} (us vs : List X) → take (length (us ++ vs) - length vs) (us ++ vs) ≡ us
take_front us vs =
    let n : length (us ++ vs) - length vs ≡ length us = omega (arith, length-append us vs) in
    ap (λ k. take k (us ++ vs)) n ∙ take-append-le (length us) us vs (omega arith) ∙ take_all (length us) us (omega arith)

pub drop_front : {X : Type 0} (us vs : List X) → drop (length (us ++ vs) - length vs) (us ++ vs) ≡ vs
drop_front us vs =
    let n : length (us ++ vs) - length vs ≡ length us = omega (arith, length-append us vs) in
    ap (λ k. drop k (us ++ vs)) n ∙ drop-append-le (length us) us vs (omega arith) ∙ ap (λ xs. xs ++ vs) (drop_all (length us) us (omega arith))

turned : {X : Type 0} (xs : List X) (k : ℕ) → reverse xs ≡ reverse (drop k xs) ++ reverse (take k xs)
turned xs k = ap reverse (sym (take-append-drop k xs)) ∙ reverse-append (take k xs) (drop k xs)

length_oldest : {X : Type 0} (xs : List X) (k : ℕ) → k ≤ length xs → length (reverse (take k xs)) ≡ k
length_oldest xs k h = length-reverse (take k xs) ∙ length-take-le k xs h

pub newest : {X : Type 0} (xs : List X) (k : ℕ) → k ≤ length (reverse xs) → take (length (reverse xs) - k) (reverse xs) ≡ reverse (drop k xs)
newest xs k h =
    let n = length_oldest xs k (omega (arith, h, length-reverse xs)) in
    ap (λ ys. take (length ys - k) ys) (turned xs k)
    ∙ ap (λ j. take (length (reverse (drop k xs) ++ reverse (take k xs)) - j) (reverse (drop k xs) ++ reverse (take k xs))) (sym n)
    ∙ take_front (reverse (drop k xs)) (reverse (take k xs))

pub oldest : {X : Type 0} (xs : List X) (k : ℕ) → k ≤ length (reverse xs) → drop (length (reverse xs) - k) (reverse xs) ≡ reverse (take k xs)
oldest xs k h =
    let n = length_oldest xs k (omega (arith, h, length-reverse xs)) in
    ap (λ ys. drop (length ys - k) ys) (turned xs k)
    ∙ ap (λ j. drop (length (reverse (drop k xs) ++ reverse (take k xs)) - j) (reverse (drop k xs) ++ reverse (take k xs))) (sym n)
    ∙ drop_front (reverse (drop k xs)) (reverse (take k xs))

pub truncated : {X Y : Type 0} (f : X → Y) (xs : List X) (k : ℕ) → k ≤ length (reverse (map f xs))
    → reverse (map f (take k xs)) ≡ drop (length (reverse (map f xs)) - k) (reverse (map f xs))
truncated f xs k h = ap reverse (sym (take-map f k xs)) ∙ sym (oldest (map f xs) k h)
