-- The places of a program's code.
use Rattle.std.proofs.Common.{◌≡◌, refl, sym, ap, ◌∙◌, subst, arith, ℕ, zero, suc, ◌<◌, ◌≤◌, List, [], ◌∷◌, ◌++◌, length, map, Some}
use Rattle.std.specs.Prelude.{option_map, slice_get, slice_index}
use Rattle.std.specs.List.{All, AllByRecursion}
use Rattle.std.proofs.lemmas.List.Elements.{All-from_recursion}
use Rattle.cap_words.specs.Words.{Rom}
use Rattle.hum_core.specs.declared.tested.TestUnit.{TestUnit}
use Rattle.hum_emit.specs.declared.instruction.Instruction.{Instruction}
use Rattle.hum_emit.specs.Compiled.{compiled, code_places, CodePlacesStand}
use Rattle.hum_emit.specs.Holds.{place_number}
use Rattle.hum_emit.specs.Made.{Descend}
use Rattle.hum_emit.specs.Runtime.{apply_place}
use Rattle.hum_emit.specs.Shapes.{shapes_of, ShapesFit}
use Rattle.hum_emit.proofs.FairStart.{emission_entries, emission_long}

-- ---- the numbers of instructions are below how many there are

below : (size top : ℕ) (entries : List ℕ) → top ≤ size → Descend top entries → AllByRecursion (λ entry. entry < size) entries
below size top [] le descend = tt
below size top (entry ∷ entries) le descend =
    let first = descend.0 in
    (omega (arith, le, first), below size entry entries (omega (arith, le, first)) descend.1)

pub all_below : (size : ℕ) (entries : List ℕ) → Descend size entries → All (λ entry. entry < size) entries
all_below size entries descend = All-from_recursion (λ entry. entry < size) entries (below size size entries (omega arith) descend)

pub apply_below : (units us : List TestUnit) (code : List Instruction) → us ≡ units → ShapesFit units (shapes_of units)
    → code ≡ (compiled us).0.code → apply_place < length code
apply_below units us code same fits code_is =
    let is : code ≡ (compiled units).0.code = code_is ∙ ap (λ vs. (compiled vs).0.code) same in
    subst (λ (xs : List Instruction). apply_place < length xs) (sym is) (emission_long units (shapes_of units) fits)

-- ---- the numbers of all and of one more

module _ (f : ℕ → ℕ) where
  at_one : (xs : List ℕ) (x k : ℕ) → k < length xs → slice_get (map f (xs ++ x ∷ [])) k ≡ Some (f (slice_index xs k))
  at_one [] x k h = absurd (omega (arith, h))
  at_one (y ∷ xs) x zero h = refl
  at_one (y ∷ xs) x (suc k) h = at_one xs x k (omega (arith, h))

  at_last : (xs : List ℕ) (x : ℕ) → slice_get (map f (xs ++ x ∷ [])) (length xs) ≡ Some (f x)
  at_last [] x = refl
  at_last (y ∷ xs) x = at_last xs x

  many : (xs : List ℕ) (x : ℕ) → length (map f (xs ++ x ∷ [])) ≡ suc (length xs)
  many [] x = refl
  many (y ∷ xs) x = ap suc (many xs x)

pub code_places_stand : CodePlacesStand
code_places_stand units fits =
    let entries = (compiled units).1 in
    let number : ℕ → ℕ = place_number (length (compiled units).0.code) in
    let count : length entries ≡ length units = emission_entries units (shapes_of units) fits in
    record {
      count = many number entries apply_place ∙ ap suc count;
      unit = λ k h. ap (option_map Rom) (at_one number entries apply_place k (omega (arith, count, h)));
      apply = ap (λ n. option_map Rom (slice_get (code_places units) n)) (sym count) ∙ ap (option_map Rom) (at_last number entries apply_place);
    }
