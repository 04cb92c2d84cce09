-- Laws of lists.
use Rattle.std.proofs.Common.{◌≡◌, ◌⊎◌, ⊎_elim, inl, inr, refl, ap, sym, subst, ◌∙◌, ℕ, zero, suc, ◌<◌, ◌≤◌, true, false, List, [], ◌∷◌, ◌++◌, length, Some, slice_get, slice_set, nat_eq, eq-eqb, ne_eqb, arith}
use Rattle.std.specs.Prelude.{remove}
use Rattle.std.proofs.lemmas.Bool.{cases_eq}
use Rattle.std.proofs.lemmas.Option.{none-some, same_Some}
use Rattle.instr_table.specs.Reach.{Every}
use Rattle.hum_core.specs.Alike.{Each}

abbrev pub Tested : ℕ → ℕ → Type 0
Tested a b = ((nat_eq a b ≡ true) × (a ≡ b)) ⊎ ((nat_eq a b ≡ false) × (a ≡ b → ⊥))

pub tested : (a b : ℕ) → Tested a b
tested a b = ⊎_elim (λ e. inl (eq-eqb a b e, e)) (λ n. inr (ne_eqb a b n, n)) (cases_eq a b)

-- ---- each item

module _ {A : Type 0} where
  pub every_both : (P Q R : A → Type 0) → ((x : A) → P x → Q x → R x) → (xs : List A) → Every P xs → Every Q xs → Every R xs
  every_both P Q R f [] h k = tt
  every_both P Q R f (x ∷ xs) h k = (f x h.0 k.0, every_both P Q R f xs h.1 k.1)

  pub every_set : (P : A → Type 0) (xs : List A) (i : ℕ) (y : A) → Every P (remove xs i) → P y → Every P (slice_set xs i y)
  every_set P [] i y h k = tt
  every_set P (x ∷ xs) zero y h k = (k, h)
  every_set P (x ∷ xs) (suc i) y h k = (h.0, every_set P xs i y h.1 k)

  -- all but one, and that one
  pub every_with : (P : A → Type 0) (xs : List A) (i : ℕ) (x : A) → slice_get xs i ≡ Some x → Every P (remove xs i) → P x → Every P xs
  every_with P [] i x e h k = absurd (none-some x e)
  every_with P (y ∷ xs) zero x e h k = (subst P (sym (same_Some y x e)) k, h)
  every_with P (y ∷ xs) (suc i) x e h k = (h.0, every_with P xs i x e h.1 k)

  -- by place
  pub every_by : (P : A → Type 0) (xs : List A) → ((i : ℕ) (x : A) → slice_get xs i ≡ Some x → P x) → Every P xs
  every_by P [] f = tt
  every_by P (x ∷ xs) f = (f zero x refl, every_by P xs (λ i y h. f (suc i) y h))

  pub removed_only : (xs : List A) (i : ℕ) (x : A) → length xs ≤ 1 → slice_get xs i ≡ Some x → remove xs i ≡ []
  removed_only [] i x h e = absurd (none-some x e)
  removed_only (y ∷ []) zero x h e = refl
  removed_only (y ∷ []) (suc i) x h e = absurd (none-some x e)
  removed_only (y ∷ z ∷ xs) i x h e = absurd (omega (arith, h))

  pub none_inside : (xs : List A) → length xs < 1 → xs ≡ []
  none_inside [] h = refl
  none_inside (x ∷ xs) h = absurd (omega (arith, h))

  pub get_append_left : (xs ys : List A) (i : ℕ) (x : A) → slice_get xs i ≡ Some x → slice_get (xs ++ ys) i ≡ Some x
  get_append_left [] ys i x e = absurd (none-some x e)
  get_append_left (y ∷ xs) ys zero x e = e
  get_append_left (y ∷ xs) ys (suc i) x e = get_append_left xs ys i x e

  pub one_there : (xs : List A) (i : ℕ) (x y : A) → slice_get xs i ≡ Some x → slice_get xs i ≡ Some y → x ≡ y
  one_there xs i x y e f = same_Some x y (sym e ∙ f)

-- ---- two lists

module _ {A B : Type 0} where
  pub each_append : (R : A → B → Type 0) (xs : List A) (ys : List B) (us : List A) (vs : List B) → Each R xs ys → Each R us vs → Each R (xs ++ us) (ys ++ vs)
  each_append R [] [] us vs h g = g
  each_append R [] (y ∷ ys) us vs h g = absurd h
  each_append R (x ∷ xs) [] us vs h g = absurd h
  each_append R (x ∷ xs) (y ∷ ys) us vs h g = (h.0, each_append R xs ys us vs h.1 g)

  pub each_length : (R : A → B → Type 0) (xs : List A) (ys : List B) → Each R xs ys → length xs ≡ length ys
  each_length R [] [] h = refl
  each_length R [] (y ∷ ys) h = absurd h
  each_length R (x ∷ xs) [] h = absurd h
  each_length R (x ∷ xs) (y ∷ ys) h = ap suc (each_length R xs ys h.1)

  pub each_left : (R : A → B → Type 0) (P : A → Type 0) → ((x : A) (y : B) → R x y → P x) → (xs : List A) (ys : List B) → Each R xs ys → Every P xs
  each_left R P f [] [] h = tt
  each_left R P f [] (y ∷ ys) h = absurd h
  each_left R P f (x ∷ xs) [] h = absurd h
  each_left R P f (x ∷ xs) (y ∷ ys) h = (f x y h.0, each_left R P f xs ys h.1)

  pub each_at : (R : A → B → Type 0) (xs : List A) (ys : List B) (i : ℕ) (x : A) → Each R xs ys → slice_get xs i ≡ Some x → (y : B) × (slice_get ys i ≡ Some y) × R x y
  each_at R [] ys i x h e = absurd (none-some x e)
  each_at R (z ∷ xs) [] i x h e = absurd h
  each_at R (z ∷ xs) (y ∷ ys) zero x h e = (y, refl, subst (λ x. R x y) (same_Some z x e) h.0)
  each_at R (z ∷ xs) (y ∷ ys) (suc i) x h e = each_at R xs ys i x h.1 e

  pub each_from : (R : A → B → Type 0) (xs : List A) (ys : List B) (i : ℕ) (y : B) → Each R xs ys → slice_get ys i ≡ Some y → (x : A) × (slice_get xs i ≡ Some x) × R x y
  each_from R [] [] i y h e = absurd (none-some y e)
  each_from R [] (z ∷ ys) i y h e = absurd h
  each_from R (x ∷ xs) [] i y h e = absurd h
  each_from R (x ∷ xs) (z ∷ ys) zero y h e = (x, refl, subst (λ y. R x y) (same_Some z y e) h.0)
  each_from R (x ∷ xs) (z ∷ ys) (suc i) y h e = each_from R xs ys i y h.1 e

  -- by place, with the items of both
  pub each_by : (R S : A → B → Type 0) (xs : List A) (ys : List B) → ((i : ℕ) (x : A) (y : B) → slice_get xs i ≡ Some x → R x y → S x y) → Each R xs ys → Each S xs ys
  each_by R S [] [] f h = tt
  each_by R S [] (y ∷ ys) f h = absurd h
  each_by R S (x ∷ xs) [] f h = absurd h
  each_by R S (x ∷ xs) (y ∷ ys) f h = (f zero x y refl h.0, each_by R S xs ys (λ i u v e. f (suc i) u v e) h.1)

  -- the item at place i changes in the second list
  pub each_set : (R S : A → B → Type 0) (xs : List A) (ys : List B) (i : ℕ) (x : A) (y : B) → slice_get xs i ≡ Some x
      → ((j : ℕ) (u : A) (v : B) → (j ≡ i → ⊥) → slice_get xs j ≡ Some u → R u v → S u v) → S x y → Each R xs ys → Each S xs (slice_set ys i y)
  each_set R S [] [] i x y e f g h = absurd (none-some x e)
  each_set R S [] (v ∷ ys) i x y e f g h = absurd h
  each_set R S (u ∷ xs) [] i x y e f g h = absurd h
  each_set R S (u ∷ xs) (v ∷ ys) zero x y e f g h =
      (subst (λ x. S x y) (sym (same_Some u x e)) g, each_by R S xs ys (λ j z b d r. f (suc j) z b (λ q. absurd (omega (arith, q))) d r) h.1)
  each_set R S (u ∷ xs) (v ∷ ys) (suc i) x y e f g h = (
    f zero u v (λ q. absurd (omega (arith, q))) refl h.0,
    each_set R S xs ys i x y e (λ j z b n d r. f (suc j) z b (λ q. n (omega (arith, q))) d r) g h.1,
  )
