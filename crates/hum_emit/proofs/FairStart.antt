-- The fixed code names what is there, and so does all that is emitted of a program.
use Rattle.std.proofs.Common.{◌≡◌, refl, sym, subst, ℕ, suc, ◌+◌, ◌<◌, ◌≤◌, ◌^◌, lit<, Bool, true, false, List, [], ◌∷◌, length, Option, Some, None, arith}
use Rattle.std.specs.Prelude.{◌&&◌, nat_lt, slice_index}
use Rattle.std.specs.List.{AllByRecursion, list_all}
use Rattle.std.proofs.lemmas.Bool.{ltb-true, lt-ltb}
use Rattle.std.proofs.lemmas.List.Elements.{All-from_recursion}
use Rattle.cap_words.specs.Fixnums.{in_range}
use Rattle.instr_table.specs.Reach.{Every}
use Rattle.hum_core.specs.declared.tested.TestUnit.{TestUnit}
use Rattle.hum_code.specs.Layout.{Shape}
use Rattle.hum_emit.specs.declared.instruction.Field.{Field}
use Rattle.hum_emit.specs.declared.instruction.Field.TheVariants.{Number, Constant, Place, Unit as UnitField, Data}
use Rattle.hum_emit.specs.declared.instruction.Instruction.{Instruction}
use Rattle.hum_emit.specs.Emitted.{Emitted}
use Rattle.hum_emit.specs.Runtime.{ended, aborted, failed, went_back, called, executed, applied, compared, same_called, built_in, fixed_code, runtime, apply_place, routine_places}
use Rattle.hum_emit.specs.Templates.{units_code, boot_code}
use Rattle.hum_emit.specs.Program.{routine_cells, start, emission}
use Rattle.hum_emit.specs.Made.{FieldMade, NextMade, InstructionMade, DatumMade, Made}
use Rattle.hum_emit.specs.Shapes.{ShapesFit}
use Rattle.hum_emit.proofs.FixedPlaces.{cells_many, end_inside, apply_inside, routines_inside, routines_many}
use Rattle.hum_emit.proofs.Fair.{Proper, NoCode, Fair, After}
use Rattle.hum_emit.proofs.FairData.{parts_true}
use Rattle.hum_emit.proofs.PlainCode.{is_used}
use Rattle.hum_emit.proofs.FairUnits.{UnitsFair, units_fair, entries_count, boot_fair, first_entry, descends}

-- ---- the fixed code, by tests that compute

-- where there are so many instructions
module _ (size : ℕ) where
  abbrev field_test : Field → Bool
  field_test (Number n) = in_range n
  field_test (Constant c) = nat_lt c 16
  field_test (Place i) = nat_lt i size
  field_test (UnitField k) = false
  field_test (Data j) = false

  abbrev next_test : Option ℕ → Bool
  next_test None = true
  next_test (Some i) = nat_lt i size

  abbrev test : Instruction → Bool
  test x = nat_lt x.operation 27 && (field_test x.field && (next_test x.next && is_used x.operation x.field))

  module _ (units count : ℕ) where
    field_tested : (f : Field) → field_test f ≡ true → FieldMade size units count f
    field_tested (Number n) h = h
    field_tested (Constant c) h = ltb-true c 16 h
    field_tested (Place i) h = ltb-true i size h
    field_tested (UnitField k) h = absurd (cc)
    field_tested (Data j) h = absurd (cc)

    next_tested : (o : Option ℕ) → next_test o ≡ true → NextMade size units count o
    next_tested None h = tt
    next_tested (Some i) h = ltb-true i size h

    tested : (x : Instruction) → test x ≡ true → Proper units size count x
    tested x h =
        let a = parts_true (nat_lt x.operation 27) (field_test x.field && (next_test x.next && is_used x.operation x.field)) h in
        let b = parts_true (field_test x.field) (next_test x.next && is_used x.operation x.field) a.1 in
        let c = parts_true (next_test x.next) (is_used x.operation x.field) b.1 in
        record { made = record { operation = ltb-true x.operation 27 a.0; field = field_tested x.field b.0; next = next_tested x.next c.0 }; used = c.1 }

    all_tested : (xs : List Instruction) → list_all test xs ≡ true → AllByRecursion (Proper units size count) xs
    all_tested [] h = tt
    all_tested (x ∷ xs) h = let parts = parts_true (test x) (list_all test xs) h in (tested x parts.0, all_tested xs parts.1)

    -- the cells of the built-in functions from that number on
    routines_made : (number : ℕ) (places : List ℕ) → number + length places ≤ 12 → list_all (λ i. nat_lt i size) places ≡ true
        → AllByRecursion (DatumMade size units count) (routine_cells number places)
    routines_made number [] few h = tt
    routines_made number (place ∷ more) few h =
        let parts = parts_true (nat_lt place size) (list_all (λ i. nat_lt i size) more) h in (
          record { kind = lit< tt; first = ltb-true place size parts.0; second = lt-ltb number (2 ^ 30) (omega (arith, few)) },
          routines_made (suc number) more (omega (arith, few)) parts.1,
        )

routines_no_code : (number : ℕ) (places : List ℕ) → Every NoCode (routine_cells number places)
routines_no_code number [] = tt
routines_no_code number (place ∷ more) = (refl, routines_no_code (suc number) more)

runtime_tests : list_all (test (length runtime)) runtime ≡ true
unfolding ended aborted failed went_back called executed applied compared same_called built_in fixed_code
runtime_tests = refl

start_fair : (units : ℕ) → Fair units start
start_fair units =
    let many = routines_many in
    record {
      instructions = all_tested (length runtime) units (length (routine_cells 0 routine_places)) runtime runtime_tests;
      cells = routines_made (length runtime) units (length (routine_cells 0 routine_places)) 0 routine_places (omega (arith, many)) routines_inside;
      no_code = routines_no_code 0 routine_places;
      symbols = λ name n h. absurd (let no : None ≡ Some n = h in cc);
      fixed = omega arith;
    }

-- ---- the whole

only_made : (units size count : ℕ) (xs : List Instruction) → AllByRecursion (Proper units size count) xs → AllByRecursion (InstructionMade size units count) xs
only_made units size count [] h = tt
only_made units size count (x ∷ xs) h = (h.0.made, only_made units size count xs h.1)

module _ (units : List TestUnit) (shapes : List Shape) (fit : ShapesFit units shapes) where
  abbrev made : Emitted × List ℕ
  made = units_code units shapes start

  abbrev all : Emitted
  all = (emission units shapes).0

  units_are : UnitsFair units shapes start made
  units_are = units_fair units shapes units shapes fit.each start (start_fair (length units))

  entries_are : length made.1 ≡ length units
  entries_are = entries_count units shapes units shapes start fit.count

  pub whole : After (length units) made.0 (boot_code (slice_index made.1 0) made.0)
  whole =
      let fixed = units_are.fair.fixed in
      let some = end_inside in
      let cells = units_are.cells in
      let many = cells_many 0 routine_places in
      let twelve = routines_many in
      (boot_fair units shapes).at (slice_index made.1 0) made.0 units_are.fair (omega arith) (omega (arith, cells, many, twelve))
      (first_entry units shapes (length made.0.code) made.1 (omega (arith, fixed, some)) units_are.entries)

  -- what is emitted of units in shapes that fit is well made, where it has numbers
  pub emission_made : length all.code < 2 ^ 32 → length all.cells < 2 ^ 32 → Made all.code all.cells (emission units shapes).1
  emission_made few few_cells = record {
    some = let fixed = whole.fair.fixed in let low = end_inside in omega (arith, fixed, low);
    instructions_made = All-from_recursion _ all.code (subst (λ n. AllByRecursion (InstructionMade (length all.code) n (length all.cells)) all.code) (sym entries_are)
        (only_made (length units) (length all.code) (length all.cells) all.code whole.fair.instructions));
    cells_made = All-from_recursion _ all.cells (subst (λ n. AllByRecursion (DatumMade (length all.code) n (length all.cells)) all.cells) (sym entries_are) whole.fair.cells);
    entries_descend = descends units shapes (length made.0.code) (length all.code) made.1 units_are.entries whole.code;
    few_instructions = few;
    few_cells = few_cells;
  }

  -- it has the fixed code, and a first instruction for each unit
  pub emission_long : apply_place < length all.code
  emission_long = let fixed = whole.fair.fixed in let low = apply_inside in omega (arith, fixed, low)

  pub emission_entries : length (emission units shapes).1 ≡ length units
  emission_entries = entries_are
