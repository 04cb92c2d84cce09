-- Which labels an item has.
use Rattle.std.proofs.Common.{◌≡◌, ℕ, suc, ◌<◌, ◌^◌, Bool, true, false, List, [], ◌∷◌, ◌++◌, refl, ap, ◌∙◌, arith, nat_eq}
use Rattle.std.specs.Prelude.{◌&&◌, ◌||◌}
use Rattle.std.specs.Str.{bytes_eq}
use Rattle.std.specs.Fmt.{decimal}
use Rattle.std.proofs.lemmas.Bool.Decides.{same_from_decides, Decides-eqb, Decides-like}
use Rattle.std.proofs.lemmas.Fmt.{decimal_injective}
use Rattle.std.proofs.lemmas.Slice.Eq.{bytes_eq-Decides}
use Rattle.uasm_read.specs.Texts.{Name, has_name}
use Rattle.hum_emit.specs.Module.{code_label, unit_label, datum_label, boot_label, apply_label, begins, named_if, labels_of}
use Rattle.hum_emit.specs.Runtime.{apply_place}

-- ---- names are the same where their numbers are

pub same_number : (letter m n : ℕ) → m < 2 ^ 32 → n < 2 ^ 32 → bytes_eq (letter ∷ decimal m) (letter ∷ decimal n) ≡ nat_eq m n
same_number letter m n low lower = same_from_decides (bytes_eq (letter ∷ decimal m) (letter ∷ decimal n)) (nat_eq m n)
    (Decides-like (bytes_eq (letter ∷ decimal m) (letter ∷ decimal n))
    (λ e. decimal_injective m n (omega arith) (omega arith) (ap (λ bs. tail_of bs) e)) (λ e. ap (λ i. letter ∷ decimal i) e)
    (bytes_eq-Decides (letter ∷ decimal m) (letter ∷ decimal n)))
    (Decides-eqb m n)
  where
    tail_of : List ℕ → List ℕ
    tail_of [] = []
    tail_of (b ∷ bs) = bs

pub or_false : (b : Bool) → (b || false) ≡ b
or_false true = refl
or_false false = refl

-- ---- the labels of an instruction's item, each by its letter

abbrev pub labels : (i k : ℕ) (unit apply boot : Bool) → List Name
labels i k unit apply boot = code_label i ∷ named_if unit (unit_label k) ++ named_if apply apply_label ++ named_if boot boot_label

code_alone : (i j k : ℕ) (unit apply boot : Bool) → has_name (labels i k unit apply boot) (code_label j) ≡ bytes_eq (code_label j) (code_label i)
code_alone i j k true true true = or_false _
code_alone i j k true true false = or_false _
code_alone i j k true false true = or_false _
code_alone i j k true false false = or_false _
code_alone i j k false true true = or_false _
code_alone i j k false true false = or_false _
code_alone i j k false false true = or_false _
code_alone i j k false false false = or_false _

unit_alone : (i k m : ℕ) (unit apply boot : Bool) → has_name (labels i k unit apply boot) (unit_label m) ≡ (unit && bytes_eq (unit_label m) (unit_label k))
unit_alone i k m true true true = or_false _
unit_alone i k m true true false = or_false _
unit_alone i k m true false true = or_false _
unit_alone i k m true false false = or_false _
unit_alone i k m false true true = refl
unit_alone i k m false true false = refl
unit_alone i k m false false true = refl
unit_alone i k m false false false = refl

datum_alone : (i j k : ℕ) (unit apply boot : Bool) → has_name (labels i k unit apply boot) (datum_label j) ≡ false
datum_alone i j k true true true = refl
datum_alone i j k true true false = refl
datum_alone i j k true false true = refl
datum_alone i j k true false false = refl
datum_alone i j k false true true = refl
datum_alone i j k false true false = refl
datum_alone i j k false false true = refl
datum_alone i j k false false false = refl

apply_alone : (i k : ℕ) (unit apply boot : Bool) → has_name (labels i k unit apply boot) apply_label ≡ apply
apply_alone i k true true true = refl
apply_alone i k true true false = refl
apply_alone i k true false true = refl
apply_alone i k true false false = refl
apply_alone i k false true true = refl
apply_alone i k false true false = refl
apply_alone i k false false true = refl
apply_alone i k false false false = refl

boot_alone : (i k : ℕ) (unit apply boot : Bool) → has_name (labels i k unit apply boot) boot_label ≡ boot
boot_alone i k true true true = refl
boot_alone i k true true false = refl
boot_alone i k true false true = refl
boot_alone i k true false false = refl
boot_alone i k false true true = refl
boot_alone i k false true false = refl
boot_alone i k false false true = refl
boot_alone i k false false false = refl

module _ (size i k : ℕ) (entries : List ℕ) where
  pub has_code : (j : ℕ) → i < 2 ^ 32 → j < 2 ^ 32 → has_name (labels_of size i k entries) (code_label j) ≡ nat_eq j i
  has_code j low lower = code_alone i j k (begins entries i) (nat_eq i apply_place) (nat_eq (suc i) size) ∙ same_number 99 j i lower low

  pub has_unit : (m : ℕ) → k < 2 ^ 32 → m < 2 ^ 32 → has_name (labels_of size i k entries) (unit_label m) ≡ (begins entries i && nat_eq m k)
  has_unit m low lower =
      unit_alone i k m (begins entries i) (nat_eq i apply_place) (nat_eq (suc i) size) ∙ ap (λ b. begins entries i && b) (same_number 117 m k lower low)

  pub has_datum : (j : ℕ) → has_name (labels_of size i k entries) (datum_label j) ≡ false
  has_datum j = datum_alone i j k (begins entries i) (nat_eq i apply_place) (nat_eq (suc i) size)

  pub has_apply : has_name (labels_of size i k entries) apply_label ≡ nat_eq i apply_place
  has_apply = apply_alone i k (begins entries i) (nat_eq i apply_place) (nat_eq (suc i) size)

  pub has_boot : has_name (labels_of size i k entries) boot_label ≡ nat_eq (suc i) size
  has_boot = boot_alone i k (begins entries i) (nat_eq i apply_place) (nat_eq (suc i) size)
