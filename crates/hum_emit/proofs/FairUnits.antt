-- What is emitted of the units of a program names what is there.
use Rattle.std.proofs.Common.{◌≡◌, refl, ap, sym, subst, ℕ, zero, suc, ◌+◌, ◌<◌, ◌≤◌, lit<, lit≤, pos, List, [], ◌∷◌, map, length, Some, None, arith}
use Rattle.std.specs.Prelude.{slice_get, slice_index}
use Rattle.hum_core.specs.declared.tested.TestUnit.{TestUnit}
use Rattle.hum_core.specs.declared.tested.TestUnit.TheVariants as unit
use Rattle.hum_core.specs.declared.tested.TestStmt.{TestStmt}
use Rattle.hum_core.specs.declared.tested.TestStmt.TheVariants as stmt
use Rattle.hum_core.specs.declared.tested.TestExpr.{TestExpr}
use Rattle.hum_core.specs.declared.tested.Test.{Test}
use Rattle.hum_code.specs.Layout.{Shape, with_singles}
use Rattle.hum_code.specs.Code.{bound_after}
use Rattle.hum_code.proofs.Makings.{length_end}
use Rattle.hum_emit.specs.declared.instruction.Field.{Field}
use Rattle.hum_emit.specs.declared.instruction.Field.TheVariants.{Number, Constant, Place, Data}
use Rattle.hum_emit.specs.Emitted.{Emitted, Piece, ◌▷◌, one, push, dup, pick, pair, roll, typeq, choose, calls, jump, send, create, become, actor_type}
use Rattle.hum_emit.specs.Runtime.{fail_place, apply_place, exec_place, end_place}
use Rattle.hum_emit.specs.Templates.{matching, after_all, expr_code, test_code, statement, shape_after, statements, unit_code, units_code, push_data, boot_code}
use Rattle.hum_emit.specs.Made.{Descend}
use Rattle.hum_emit.specs.Shapes.{Fits, behind_statement, StatementFits, StatementsFit, UnitFits, fits_to}
use Rattle.hum_emit.proofs.Expressions.{after_all_is}
use Rattle.hum_emit.proofs.FixedPlaces.{end_inside, exec_inside, apply_inside, fails_inside}
use Rattle.hum_emit.proofs.Fair.{Fair, After, Fairly, f_one, f_number, f_constant, f_jump, f_nothing, f_both, f_to, f_fixed, later}
use Rattle.hum_emit.proofs.FairTrees.{ok_constant, ok_place, ok_dup, ok_drop, ok_pick, ok_roll, ok_pair, ok_typeq, ok_fail, ok_calls, fair_expr, fair_tests}

module _ (units : List TestUnit) (shapes : List Shape) where
  abbrev many : ℕ
  many = length units

  abbrev within : ℕ → Fits
  within m = fits_to units shapes m

  match_fair : (ts : List Test) (shape : Shape) → ((m : ℕ) → (within m).TestsFit shape ts 1 0) → Fairly many 0 0 (matching (map test_code ts) shape)
  match_fair ts shape h =
      f_both many (ok_constant units shapes 1 (lit< tt)) (f_both many (ok_roll units shapes (pos 2) refl) (f_both many (ok_pair units shapes 1 refl)
      (f_both many (f_fixed many (fail_place 1) (fails_inside 0) (fair_tests units shapes ts shape (fail_place 1) 1 0 (λ m. h (suc m)))) (ok_drop units shapes 1 refl))))

  part_fair : (e : TestExpr) (shape : Shape) → ((m : ℕ) → (within m).ExprFits shape e) → Fairly many 0 0 (dup 1 ▷ expr_code e shape)
  part_fair e shape h = f_both many (ok_dup units shapes 1 refl) (fair_expr units shapes e shape h)

  -- ---- statements

  statement_fair : (x : TestStmt) (shape : Shape) → ((m : ℕ) → StatementFits units shapes (within m) x shape) → Fairly many 0 0 (statement x shape)
  statement_fair (stmt.Let ts e) shape h = f_both many (part_fair e shape (λ m. (h m).1)) (match_fair ts shape (λ m. (h m).0))
  statement_fair (stmt.Group numbers) shape h = f_both many (ok_constant units shapes 0 (lit< tt)) (ok_pair units shapes 1 refl)
  statement_fair stmt.Defined shape h = f_constant many 26 0 (lit< tt) refl (lit< tt)
  statement_fair (stmt.Send e target) shape h =
      f_both many (part_fair e shape (λ m. (h m).0)) (f_both many (ok_pick units shapes 2 refl) (f_both many (fair_expr units shapes target shape (λ m. (h m).1))
      (f_both many (ok_dup units shapes 1 refl) (f_both many (ok_typeq units shapes actor_type (lit< tt)) (f_both many (ok_fail units shapes 3 (fails_inside 2))
      (f_number many 20 (pos 0) (lit< tt) refl refl))))))
  statement_fair (stmt.Create e) shape h =
      f_both many (part_fair e shape h) (f_both many (ok_place units shapes apply_place apply_inside)
      (f_both many (f_number many 20 (pos 2) (lit< tt) refl refl) (ok_pair units shapes 1 refl)))
  statement_fair (stmt.Become e) shape h =
      f_both many (part_fair e shape h) (f_both many (ok_place units shapes apply_place apply_inside) (f_number many 20 (pos 4) (lit< tt) refl refl))
  statement_fair (stmt.Throw e) shape h = f_to many (fail_place 7) (λ size fixed. let low = fails_inside 6 in omega (arith, fixed, low)) (part_fair e shape h)
  statement_fair (stmt.Do e) shape h = f_both many (part_fair e shape h) (ok_calls units shapes exec_place exec_inside)

  shape_is : (x : TestStmt) (shape : Shape) → shape_after x shape ≡ behind_statement x shape
  shape_is (stmt.Let ts e) shape = ap (λ j. with_singles j shape) (after_all_is ts 0)
  shape_is (stmt.Group numbers) shape = refl
  shape_is stmt.Defined shape = refl
  shape_is (stmt.Send e target) shape = refl
  shape_is (stmt.Create e) shape = refl
  shape_is (stmt.Become e) shape = refl
  shape_is (stmt.Throw e) shape = refl
  shape_is (stmt.Do e) shape = refl

  -- ---- pieces that add an instruction at least

  pub record Adds (q : Piece) : Type 0 where
    pub at : (k : ℕ) (s : Emitted) → Fair many s → k < length s.code → After many s (q k s) × (length s.code < length (q k s).0.code)

  adds_jump : Adds jump
  adds_jump = record {
    at = λ k s fair below.
        let more = length_end s.code (record { operation = 16; field = Constant 0; next = None }) in
        ((f_jump many {from = 0} {from_data = 0}).at k s fair (omega arith) (omega arith) below, omega (arith, more));
  }

  adds_both : {q r : Piece} → Fairly many 0 0 q → Adds r → Adds (q ▷ r)
  adds_both {q} {r} g h = record {
    at = λ k s fair below.
        let a = h.at k s fair below in
        let b = g.at (r k s).1 (r k s).0 a.0.fair (omega arith) (omega arith) a.0.inside in
        let more = a.1 in
        let up = b.code in
        (later many s (r k s).0 _ a.0.code a.0.cells b, omega (arith, more, up));
  }

  statements_fair : (ss : List TestStmt) (shape : Shape) → ((m : ℕ) → StatementsFit units shapes (within m) ss shape) → Adds (statements ss shape)
  statements_fair [] shape h = adds_both (ok_drop units shapes 1 refl) adds_jump
  statements_fair (x ∷ more) shape h =
      adds_both (statement_fair x shape (λ m. (h m).0))
      (subst (λ sh. Adds (statements more sh)) (sym (shape_is x shape)) (statements_fair more (behind_statement x shape) (λ m. (h m).1)))

  unit_fair : (u : TestUnit) (shape : Shape) → ((m : ℕ) → UnitFits units shapes (within m) u shape) → Adds (unit_code u shape)
  unit_fair (unit.Abs ts e) shape h =
      adds_both (ok_roll units shapes (pos 2) refl) (adds_both (match_fair ts shape (λ m. (h m).0))
      (adds_both (subst (λ j. Fairly many 0 0 (expr_code e (with_singles j shape))) (sym (after_all_is ts 0))
      (fair_expr units shapes e (with_singles (bound_after ts 0) shape) (λ m. (h m).1)))
      (adds_both (ok_roll units shapes (pos 2) refl) adds_jump)))
  unit_fair (unit.Block ss) shape h = statements_fair ss shape h

  -- ---- the first instruction of a unit is the one that was made last

  abbrev IsLast : Piece → Type 0
  IsLast q = (k : ℕ) (s : Emitted) → suc (q k s).1 ≡ length (q k s).0.code

  one_last : (operation : ℕ) (field : Field) → IsLast (one operation field)
  one_last operation field k s = sym (length_end s.code (record { operation = operation; field = field; next = Some k }))

  statement_last : (x : TestStmt) (shape : Shape) → IsLast (statement x shape)
  statement_last (stmt.Let ts e) shape k s =
      let r = (expr_code e shape ▷ matching (map test_code ts) shape) k s in one_last 1 (Number (pos 1)) r.1 r.0
  statement_last (stmt.Group numbers) shape k s = let r = pair 1 k s in one_last 0 (Constant 0) r.1 r.0
  statement_last stmt.Defined shape k s = one_last 26 (Constant 0) k s
  statement_last (stmt.Send e target) shape k s =
      let r = (expr_code e shape ▷ pick 2 ▷ expr_code target shape ▷ dup 1 ▷ typeq actor_type ▷ choose (fail_place 3) ▷ send) k s in
      one_last 1 (Number (pos 1)) r.1 r.0
  statement_last (stmt.Create e) shape k s =
      let r = (expr_code e shape ▷ push (Place apply_place) ▷ create ▷ pair 1) k s in one_last 1 (Number (pos 1)) r.1 r.0
  statement_last (stmt.Become e) shape k s =
      let r = (expr_code e shape ▷ push (Place apply_place) ▷ become) k s in one_last 1 (Number (pos 1)) r.1 r.0
  statement_last (stmt.Throw e) shape k s = let r = expr_code e shape (fail_place 7) s in one_last 1 (Number (pos 1)) r.1 r.0
  statement_last (stmt.Do e) shape k s = let r = (expr_code e shape ▷ calls exec_place) k s in one_last 1 (Number (pos 1)) r.1 r.0

  unit_last : (u : TestUnit) (shape : Shape) → IsLast (unit_code u shape)
  unit_last (unit.Abs ts e) shape k s =
      let r = (matching (map test_code ts) shape ▷ expr_code e (with_singles (after_all (map test_code ts) 0) shape) ▷ roll (pos 2) ▷ jump) k s in
      one_last 4 (Number (pos 2)) r.1 r.0
  unit_last (unit.Block []) shape k s = let r = jump k s in one_last 2 (Number (pos 1)) r.1 r.0
  unit_last (unit.Block (x ∷ more)) shape k s =
      let r = statements more (shape_after x shape) k s in statement_last x shape r.1 r.0

  -- ---- all units

  pub descends : (a b : ℕ) (entries : List ℕ) → Descend a entries → a ≤ b → Descend b entries
  descends a b [] h le = tt
  descends a b (e ∷ entries) h le = let low = h.0 in (omega (arith, low, le), h.1)

  pub record UnitsFair (s : Emitted) (made : Emitted × List ℕ) : Type 0 where
    pub fair : Fair many made.0
    pub cells : length s.cells ≤ length made.0.cells
    pub entries : Descend (length made.0.code) made.1

  pub units_fair : (us : List TestUnit) (shs : List Shape)
      → ((n k : ℕ) (u : TestUnit) (shape : Shape) → slice_get us k ≡ Some u → slice_get shs k ≡ Some shape → UnitFits units shapes (within n) u shape)
      → (s : Emitted) → Fair many s → UnitsFair s (units_code us shs s)
  units_fair [] shs fit s fair = record { fair = fair; cells = omega arith; entries = tt }
  units_fair (u ∷ us) [] fit s fair = record { fair = fair; cells = omega arith; entries = tt }
  units_fair (u ∷ us) (shape ∷ shs) fit s fair =
      let below = units_code us shs s in
      let h = units_fair us shs (λ n k v other. fit n (suc k) v other) s fair in
      let fixed = h.fair.fixed in
      let some = end_inside in
      let a = (unit_fair u shape (λ m. fit m 0 u shape refl refl)).at 0 below.0 h.fair (omega (arith, fixed, some)) in
      let last = unit_last u shape 0 below.0 in
      let up = a.0.cells in
      let up_below = h.cells in
      let more = a.1 in
      record {
        fair = a.0.fair;
        cells = omega (arith, up, up_below);
        entries = (a.0.inside, descends (length below.0.code) (unit_code u shape 0 below.0).1 below.1 h.entries (omega (arith, last, more)));
      }

  pub entries_count : (us : List TestUnit) (shs : List Shape) (s : Emitted) → length shs ≡ length us → length (units_code us shs s).1 ≡ length us
  entries_count [] shs s h = refl
  entries_count (u ∷ us) [] s h = absurd (omega (arith, h))
  entries_count (u ∷ us) (shape ∷ shs) s h = ap suc (entries_count us shs s (omega (arith, h)))

  -- ---- the first event's code

  push_fair : (from count : ℕ) → from + count ≤ 12 → Fairly many 0 12 (push_data from count)
  push_fair from zero le = f_nothing many
  push_fair from (suc n) le =
      f_both many (f_one many 0 (Data from) (lit< tt) refl (λ size total fixed c d. omega (arith, le, d))) (push_fair (suc from) n (omega (arith, le)))

  pub boot_fair : Fairly many 0 12 boot_code
  boot_fair =
      f_both many (ok_place units shapes end_place end_inside) (f_both many (ok_constant units shapes 1 (lit< tt)) (f_both many (push_fair 0 12 (lit≤ tt))
      (f_both many (f_number many 18 (pos 1) (lit< tt) refl refl) (f_both many (f_number many 18 (pos 2) (lit< tt) refl refl) (ok_pair units shapes 14 refl)))))

  pub first_entry : (size : ℕ) (entries : List ℕ) → 0 < size → Descend size entries → slice_index entries 0 < size
  first_entry size [] some h = some
  first_entry size (e ∷ entries) some h = h.0
