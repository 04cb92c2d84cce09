-- Facts of each element of a list, and of each two, where one is set, removed or added.
use Rattle.std.proofs.Common.{◌≡◌, ℕ, zero, suc, List, [], ◌∷◌, ◌++◌, Some, ap, ap₂, refl, subst}
use Rattle.std.specs.Prelude.{map, remove, slice_get, slice_set}
use Rattle.instr_table.specs.Reach.{Every}
use Rattle.vm_machine.specs.Flight.{Pairwise}

-- ---- each

pub every-more : {A : Type 0} (P Q : A → Type 0) (xs : List A) → ((x : A) → P x → Q x) → Every P xs → Every Q xs
every-more P Q [] f h = tt
every-more P Q (x ∷ xs) f h = (f x h.0, every-more P Q xs f h.1)

pub every-both : {A : Type 0} (P Q R : A → Type 0) (xs : List A) → ((x : A) → P x → Q x → R x) → Every P xs → Every Q xs → Every R xs
every-both P Q R [] f h k = tt
every-both P Q R (x ∷ xs) f h k = (f x h.0 k.0, every-both P Q R xs f h.1 k.1)

pub every-at : {A : Type 0} (P : A → Type 0) (xs : List A) (i : ℕ) (x : A) → slice_get xs i ≡ Some x → Every P xs → P x
every-at P [] i x e h = cc
every-at P (y ∷ xs) zero x e h = let s : y ≡ x = cc in subst P s h.0
every-at P (y ∷ xs) (suc i) x e h = every-at P xs i x e h.1

pub every-removed : {A : Type 0} (P : A → Type 0) (xs : List A) (i : ℕ) → Every P xs → Every P (remove xs i)
every-removed P [] zero h = tt
every-removed P [] (suc i) h = tt
every-removed P (x ∷ xs) zero h = h.1
every-removed P (x ∷ xs) (suc i) h = (h.0, every-removed P xs i h.1)

pub every-set : {A : Type 0} (P : A → Type 0) (xs : List A) (i : ℕ) (x : A) → Every P (remove xs i) → P x → Every P (slice_set xs i x)
every-set P [] zero x h k = tt
every-set P [] (suc i) x h k = tt
every-set P (y ∷ xs) zero x h k = (k, h)
every-set P (y ∷ xs) (suc i) x h k = (h.0, every-set P xs i x h.1 k)

pub every-end : {A : Type 0} (P : A → Type 0) (xs : List A) (x : A) → Every P xs → P x → Every P (xs ++ x ∷ [])
every-end P [] x h k = (k, tt)
every-end P (y ∷ xs) x h k = (h.0, every-end P xs x h.1 k)

-- ---- each two

pub pairs-more : {A : Type 0} (P : A → Type 0) (R S : A → A → Type 0) (xs : List A) → ((x y : A) → P x → P y → R x y → S x y) → Every P xs → Pairwise R xs → Pairwise S xs
pairs-more P R S [] f h k = tt
pairs-more {A = A} P R S (x ∷ xs) f h k = (every-both P (R x) (S x) xs (λ (y : A). f x y h.0) h.1 k.0, pairs-more P R S xs f h.1 k.1)

pub pairs-removed : {A : Type 0} (R : A → A → Type 0) (xs : List A) (i : ℕ) → Pairwise R xs → Pairwise R (remove xs i)
pairs-removed R [] zero h = tt
pairs-removed R [] (suc i) h = tt
pairs-removed R (x ∷ xs) zero h = h.1
pairs-removed R (x ∷ xs) (suc i) h = (every-removed (R x) xs i h.0, pairs-removed R xs i h.1)

-- one is related so to all others
pub pairs-at : {A : Type 0} (R : A → A → Type 0) (xs : List A) (i : ℕ) (x : A) → ((a b : A) → R a b → R b a) → slice_get xs i ≡ Some x → Pairwise R xs → Every (R x) (remove xs i)
pairs-at R [] i x turn e h = cc
pairs-at R (y ∷ xs) zero x turn e h = let s : y ≡ x = cc in subst (λ a. Every (R a) xs) s h.0
pairs-at R (y ∷ xs) (suc i) x turn e h = (turn y x (every-at (R y) xs i x e h.0), pairs-at R xs i x turn e h.1)

pub pairs-set : {A : Type 0} (R : A → A → Type 0) (xs : List A) (i : ℕ) (x : A) → ((a b : A) → R a b → R b a) → Pairwise R (remove xs i) → Every (R x) (remove xs i) → Pairwise R (slice_set xs i x)
pairs-set R [] zero x turn h k = tt
pairs-set R [] (suc i) x turn h k = tt
pairs-set R (y ∷ xs) zero x turn h k = (k, h)
pairs-set R (y ∷ xs) (suc i) x turn h k = (every-set (R y) xs i x h.0 (turn x y k.0), pairs-set R xs i x turn h.1 k.1)

pub pairs-end : {A : Type 0} (R : A → A → Type 0) (xs : List A) (x : A) → ((a b : A) → R a b → R b a) → Pairwise R xs → Every (R x) xs → Pairwise R (xs ++ x ∷ [])
pairs-end R [] x turn h k = (tt, tt)
pairs-end R (y ∷ xs) x turn h k = (every-end (R y) xs x h.0 (turn x y k.0), pairs-end R xs x turn h.1 k.1)

-- ---- what elements are mapped to

pub map-same : {A B : Type 0} (f g : A → B) (xs : List A) → Every (λ (x : A). g x ≡ f x) xs → map g xs ≡ map f xs
map-same f g [] h = refl
map-same {B = B} f g (x ∷ xs) h = ap₂ (λ (y : B) (ys : List B). y ∷ ys) h.0 (map-same f g xs h.1)

pub map-set : {A B : Type 0} (f g : A → B) (xs : List A) (i : ℕ) (x : A) → Every (λ (y : A). g y ≡ f y) (remove xs i) → map g (slice_set xs i x) ≡ slice_set (map f xs) i (g x)
map-set f g [] zero x h = refl
map-set f g [] (suc i) x h = refl
map-set {B = B} f g (y ∷ xs) zero x h = ap (λ (ys : List B). g x ∷ ys) (map-same f g xs h)
map-set {B = B} f g (y ∷ xs) (suc i) x h = ap₂ (λ (z : B) (ys : List B). z ∷ ys) h.0 (map-set f g xs i x h.1)

pub map-removed : {A B : Type 0} (f g : A → B) (xs : List A) (i : ℕ) → Every (λ (y : A). g y ≡ f y) (remove xs i) → map g (remove xs i) ≡ remove (map f xs) i
map-removed f g [] zero h = refl
map-removed f g [] (suc i) h = refl
map-removed f g (y ∷ xs) zero h = map-same f g xs h
map-removed {B = B} f g (y ∷ xs) (suc i) h = ap₂ (λ (z : B) (ys : List B). z ∷ ys) h.0 (map-removed f g xs i h.1)

pub get-map : {A B : Type 0} (f : A → B) (xs : List A) (i : ℕ) (x : A) → slice_get xs i ≡ Some x → slice_get (map f xs) i ≡ Some (f x)
get-map f [] i x h = cc
get-map {A = A} f (y ∷ xs) zero x h = let s : y ≡ x = cc in ap (λ (a : A). Some (f a)) s
get-map f (y ∷ xs) (suc i) x h = get-map f xs i x h
