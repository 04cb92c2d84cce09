-- The labels of a module are names, and all different.
use Rattle.std.proofs.Common.{◌≡◌, ℕ, suc, ◌+◌, ◌<◌, ◌≤◌, ◌^◌, Bool, true, false, List, [], ◌∷◌, ◌++◌, length, refl, ap, ◌∙◌, arith, nat_eq, append_assoc}
use Rattle.std.specs.Prelude.{◌&&◌, not, if◌then◌else◌}
use Rattle.std.specs.List.{list_all}
use Rattle.std.specs.Str.{bytes_eq}
use Rattle.std.specs.Fmt.{decimal}
use Rattle.std.proofs.lemmas.Bool.{ne_eqb, eqb-true, and_from, and_right, or_from, not_from_false}
use Rattle.std.proofs.lemmas.List.Folds.{list_any-append}
use Rattle.uasm_read.specs.Texts.{Name, has_name, is_name}
use Rattle.uasm_read.specs.Modules.{labels_in, are_different}
use Rattle.hum_emit.specs.declared.instruction.Instruction.{Instruction}
use Rattle.hum_emit.specs.declared.instruction.Datum.{Datum}
use Rattle.hum_emit.specs.Runtime.{apply_place}
use Rattle.hum_emit.specs.Module.{code_label, unit_label, datum_label, boot_label, apply_label, begins, named_if, labels_of, rest_if, code_items, datum_items}
use Rattle.hum_emit.proofs.Labels.{label_is_name}
use Rattle.hum_emit.proofs.ItemLabels.{labels, same_number, has_code, has_unit, has_apply, has_boot}

-- ---- the labels of data

other_letter : (letter : ℕ) (bs : List ℕ) (j : ℕ) (ds : List Datum) → nat_eq letter 100 ≡ false → has_name (labels_in (datum_items j ds)) (letter ∷ bs) ≡ false
other_letter letter bs j [] h = refl
other_letter letter bs j (d ∷ ds) h = or_from (nat_eq letter 100 && bytes_eq bs (decimal j)) _ (rw h refl) (other_letter letter bs (suc j) ds h)

datum_absent : (i j : ℕ) (ds : List Datum) → i < j → j + length ds ≤ 2 ^ 32 → has_name (labels_in (datum_items j ds)) (datum_label i) ≡ false
datum_absent i j [] below few = refl
datum_absent i j (d ∷ ds) below few =
    or_from (bytes_eq (datum_label i) (datum_label j)) _ (same_number 100 i j (omega arith) (omega arith) ∙ ne_eqb i j (λ same. omega arith))
    (datum_absent i (suc j) ds (omega arith) (omega arith))

data_differ : (j : ℕ) (ds : List Datum) → j + length ds ≤ 2 ^ 32 → are_different (labels_in (datum_items j ds)) ≡ true
data_differ j [] few = refl
data_differ j (d ∷ ds) few =
    and_from (not (has_name (labels_in (datum_items (suc j) ds)) (datum_label j))) _
    (not_from_false _ (datum_absent j (suc j) ds (omega arith) (omega arith))) (data_differ (suc j) ds (omega arith))

data_named : (j : ℕ) (ds : List Datum) → j + length ds ≤ 2 ^ 32 → list_all is_name (labels_in (datum_items j ds)) ≡ true
data_named j [] few = refl
data_named j (d ∷ ds) few = and_from (is_name (datum_label j)) _ (label_is_name 100 j refl (omega arith)) (data_named (suc j) ds (omega arith))

-- ---- the labels of instructions, before those of data

different_if : (b : Bool) (name : Name) (rest : List Name) → are_different rest ≡ true → (b ≡ true → has_name rest name ≡ false) → are_different (named_if b name ++ rest) ≡ true
different_if true name rest differ absent = and_from (not (has_name rest name)) (are_different rest) (not_from_false (has_name rest name) (absent refl)) differ
different_if false name rest differ absent = differ

names_if : (b : Bool) (name : Name) (rest : List Name) → is_name name ≡ true → list_all is_name rest ≡ true → list_all is_name (named_if b name ++ rest) ≡ true
names_if true name rest named all = and_from (is_name name) (list_all is_name rest) named all
names_if false name rest named all = all

fixed_names : (is_name apply_label ≡ true) × (is_name boot_label ≡ true)
unfolding is_name
fixed_names = (refl, refl)

-- an item's labels, before further ones
abbrev with_boot : (boot : Bool) → List Name → List Name
with_boot boot rest = named_if boot boot_label ++ rest

abbrev with_apply : (apply boot : Bool) → List Name → List Name
with_apply apply boot rest = named_if apply apply_label ++ with_boot boot rest

abbrev with_unit : (unit : Bool) (k : ℕ) (apply boot : Bool) → List Name → List Name
with_unit unit k apply boot rest = named_if unit (unit_label k) ++ with_apply apply boot rest

split : (i k : ℕ) (unit apply boot : Bool) (rest : List Name) → labels i k unit apply boot ++ rest ≡ code_label i ∷ with_unit unit k apply boot rest
split i k unit apply boot rest =
    ap (λ names. code_label i ∷ names)
    (append_assoc (named_if unit (unit_label k) ++ named_if apply apply_label) (named_if boot boot_label) rest
    ∙ append_assoc (named_if unit (unit_label k)) (named_if apply apply_label) (named_if boot boot_label ++ rest))

-- labels are others than those before them
behind_unit : (apply boot : Bool) (k : ℕ) (rest : List Name) → has_name (with_apply apply boot rest) (unit_label k) ≡ has_name rest (unit_label k)
behind_unit true true k rest = refl
behind_unit true false k rest = refl
behind_unit false true k rest = refl
behind_unit false false k rest = refl

behind_code : (unit apply boot : Bool) (i k : ℕ) (rest : List Name) → has_name (with_unit unit k apply boot rest) (code_label i) ≡ has_name rest (code_label i)
behind_code true true true i k rest = refl
behind_code true true false i k rest = refl
behind_code true false true i k rest = refl
behind_code true false false i k rest = refl
behind_code false true true i k rest = refl
behind_code false true false i k rest = refl
behind_code false false true i k rest = refl
behind_code false false false i k rest = refl

behind_apply : (boot : Bool) (rest : List Name) → has_name (with_boot boot rest) apply_label ≡ has_name rest apply_label
behind_apply true rest = refl
behind_apply false rest = refl

module _ (size : ℕ) (ds : List Datum) (few : length ds ≤ 2 ^ 32) where
  abbrev names_from : List Instruction → (k : ℕ) → List ℕ → List Name
  names_from xs k entries = labels_in (code_items size xs k entries ++ datum_items 0 ds)

  module _ (name : Name) (not_datum : has_name (labels_in (datum_items 0 ds)) name ≡ false) where
    -- a name that no item has, since none has it that stands so far from the end
    absent : (P : List Instruction → ℕ → List ℕ → Type 0)
        → ((x : Instruction) (xs : List Instruction) (k : ℕ) (entries : List ℕ) → P (x ∷ xs) k entries
        → (has_name (labels_of size (length xs) k entries) name ≡ false)
        × P xs (if begins entries (length xs) then suc k else k) (rest_if (begins entries (length xs)) entries))
        → (xs : List Instruction) (k : ℕ) (entries : List ℕ) → P xs k entries → has_name (names_from xs k entries) name ≡ false
    absent P step [] k entries h = not_datum
    absent P step (x ∷ xs) k entries h =
        let here = step x xs k entries h in
        list_any-append (bytes_eq name) (labels_of size (length xs) k entries) (names_from xs (if begins entries (length xs) then suc k else k) (rest_if (begins entries (length xs)) entries))
        ∙ or_from (has_name (labels_of size (length xs) k entries) name) _ here.0
        (absent P step xs (if begins entries (length xs) then suc k else k) (rest_if (begins entries (length xs)) entries) here.1)

  code_absent : (i : ℕ) (xs : List Instruction) (k : ℕ) (entries : List ℕ) → length xs ≤ i → i < 2 ^ 32 → has_name (names_from xs k entries) (code_label i) ≡ false
  code_absent i xs k entries below low =
      absent (code_label i) (other_letter 99 (decimal i) 0 ds refl) (λ xs k entries. length xs ≤ i)
      (λ x xs k entries h. (has_code size (length xs) k entries i (omega arith) low ∙ ne_eqb i (length xs) (λ same. omega arith), omega arith)) xs k entries below

  unit_absent : (m : ℕ) (xs : List Instruction) (k : ℕ) (entries : List ℕ) → m < k → k + length xs ≤ 2 ^ 32 → has_name (names_from xs k entries) (unit_label m) ≡ false
  unit_absent m xs k entries below low =
      absent (unit_label m) (other_letter 117 (decimal m) 0 ds refl) (λ xs k entries. (m < k) × (k + length xs ≤ 2 ^ 32))
      (λ x xs k entries h.
      let (below, low) = h in (
        has_unit size (length xs) k entries m (omega arith) (omega arith) ∙ and_right (begins entries (length xs)) _ (ne_eqb m k (λ same. omega arith)),
        on (begins entries (length xs)) m k (length xs) below low,
      ))
      xs k entries (below, low)
    where
      on : (b : Bool) (m k n : ℕ) → m < k → k + suc n ≤ 2 ^ 32 → (m < (if b then suc k else k)) × ((if b then suc k else k) + n ≤ 2 ^ 32)
      on true m k n below low = (omega arith, omega arith)
      on false m k n below low = (omega arith, omega arith)

  apply_absent : (xs : List Instruction) (k : ℕ) (entries : List ℕ) → length xs ≤ apply_place → has_name (names_from xs k entries) apply_label ≡ false
  apply_absent xs k entries below =
      absent apply_label (other_letter 97 (tail_of apply_label) 0 ds refl) (λ xs k entries. length xs ≤ apply_place)
      (λ x xs k entries h. (has_apply size (length xs) k entries ∙ ne_eqb (length xs) apply_place (λ same. omega arith), omega arith)) xs k entries below
    where
      tail_of : Name → Name
      tail_of [] = []
      tail_of (b ∷ bs) = bs

  boot_absent : (xs : List Instruction) (k : ℕ) (entries : List ℕ) → length xs < size → has_name (names_from xs k entries) boot_label ≡ false
  boot_absent xs k entries below =
      absent boot_label (other_letter 98 (tail_of boot_label) 0 ds refl) (λ xs k entries. length xs < size)
      (λ x xs k entries h. (has_boot size (length xs) k entries ∙ ne_eqb (suc (length xs)) size (λ same. omega arith), omega arith)) xs k entries below
    where
      tail_of : Name → Name
      tail_of [] = []
      tail_of (b ∷ bs) = bs

  next_low : (b : Bool) (k n : ℕ) → k + suc n ≤ 2 ^ 32 → (if b then suc k else k) + n ≤ 2 ^ 32
  next_low true k n low = omega arith
  next_low false k n low = omega arith

  next_above : (b : Bool) (k : ℕ) → b ≡ true → k < (if b then suc k else k)
  next_above true k e = omega arith
  next_above false k e = absurd (let z : false ≡ true = e in cc)

  pub all_differ : (xs : List Instruction) (k : ℕ) (entries : List ℕ) → length xs ≤ size → k + length xs ≤ 2 ^ 32 → are_different (names_from xs k entries) ≡ true
  all_differ [] k entries within low = data_differ 0 ds (omega arith)
  all_differ (x ∷ xs) k entries within low =
      let i = length xs in
      let b = begins entries i in
      let apply = nat_eq i apply_place in
      let boot = nat_eq (suc i) size in
      let later : List ℕ = rest_if b entries in
      let rest = names_from xs (if b then suc k else k) later in
      let more : are_different rest ≡ true = all_differ xs (if b then suc k else k) later (omega arith) (next_low b k i low) in
      let boots : are_different (with_boot boot rest) ≡ true =
      different_if boot boot_label rest more (λ e. boot_absent xs (if b then suc k else k) later (omega arith)) in
      let applies : are_different (with_apply apply boot rest) ≡ true =
      different_if apply apply_label (with_boot boot rest) boots
      (λ e. behind_apply boot rest ∙ apply_absent xs (if b then suc k else k) later (let at = eqb-true i apply_place e in omega arith)) in
      let units : are_different (with_unit b k apply boot rest) ≡ true =
      different_if b (unit_label k) (with_apply apply boot rest) applies
      (λ e. behind_unit apply boot k rest ∙ unit_absent k xs (if b then suc k else k) later (next_above b k e) (next_low b k i low)) in
      ap are_different (split i k b apply boot rest)
      ∙ and_from (not (has_name (with_unit b k apply boot rest) (code_label i))) (are_different (with_unit b k apply boot rest))
      (not_from_false (has_name (with_unit b k apply boot rest) (code_label i))
      (behind_code b apply boot i k rest ∙ code_absent i xs (if b then suc k else k) later (omega arith) (omega arith))) units

  pub all_named : (xs : List Instruction) (k : ℕ) (entries : List ℕ) → k + length xs ≤ 2 ^ 32 → list_all is_name (names_from xs k entries) ≡ true
  all_named [] k entries low = data_named 0 ds (omega arith)
  all_named (x ∷ xs) k entries low =
      let i = length xs in
      let b = begins entries i in
      let apply = nat_eq i apply_place in
      let boot = nat_eq (suc i) size in
      let later : List ℕ = rest_if b entries in
      let rest = names_from xs (if b then suc k else k) later in
      ap (list_all is_name) (split i k b apply boot rest)
      ∙ and_from (is_name (code_label i)) (list_all is_name (with_unit b k apply boot rest)) (label_is_name 99 i refl (omega arith))
      (names_if b (unit_label k) (with_apply apply boot rest) (label_is_name 117 k refl (omega arith))
      (names_if apply apply_label (with_boot boot rest) fixed_names.0
      (names_if boot boot_label rest fixed_names.1 (all_named xs (if b then suc k else k) later (next_low b k i low)))))
