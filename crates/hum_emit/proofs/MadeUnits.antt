-- What is made of statements and units stands.
use Rattle.std.proofs.Common.{◌≡◌, refl, ap, sym, subst, ℕ, zero, suc, pos, List, [], ◌∷◌, map, Some, None}
use Rattle.std.specs.Prelude.{slice_get, slice_index}
use Rattle.cap_words.specs.Words.{W}
use Rattle.instr_table.specs.declared.op.Op.TheVariants as op
use Rattle.hum_core.specs.declared.tested.TestUnit.{TestUnit}
use Rattle.hum_core.specs.declared.tested.TestUnit.TheVariants as unit
use Rattle.hum_core.specs.declared.tested.TestStmt.{TestStmt}
use Rattle.hum_core.specs.declared.tested.TestStmt.TheVariants as stmt
use Rattle.hum_core.specs.declared.tested.TestExpr.{TestExpr}
use Rattle.hum_core.specs.declared.tested.Test.{Test}
use Rattle.hum_core.specs.Numbered.{Code, Of, members}
use Rattle.hum_core.specs.TestLists.{test_stmt}
use Rattle.hum_code.specs.Comes.{At}
use Rattle.hum_code.specs.Layout.{Single, Several, Shape, with_singles}
use Rattle.hum_code.specs.Code.{MatchAt, PartAt, StatementsAt, FunctionCode, bound_after}
use Rattle.hum_emit.specs.declared.instruction.Field.TheVariants.{Constant as ConstantField, Place}
use Rattle.hum_emit.specs.Emitted.{Emitted, ◌▷◌, send, become, dup, roll, jump, actor_type}
use Rattle.hum_emit.specs.Runtime.{fail_place, apply_place}
use Rattle.hum_emit.specs.Templates.{matching, expr_code, test_code, statements, unit_code, units_code}
use Rattle.hum_emit.specs.Shapes.{StatementsFit, UnitFits}
use Rattle.hum_emit.proofs.Makes.{Begins, begins_same, begins_later, Image, layout, Makes, makes_one, makes_both, makes_as, makes_to, makes_choose, makes_calls, makes_jump, pushes, dups, drops, picks, rolls, pairs_up}
use Rattle.hum_emit.proofs.Expressions.{below, within, at, Level, made_to, after_all_is, creates, debugs, typeqs}

numbers_of : (numbers : List ℕ) → map (λ (f : Unit {0} × Code). f.1) (members numbers) ≡ map Of numbers
numbers_of [] = refl
numbers_of (k ∷ numbers) = ap (λ cs. Of k ∷ cs) (numbers_of numbers)

module _ (c : Image) (n : ℕ) where
  abbrev level : Level c n
  level = made_to c n

  made_match : (ts : List Test) (shape : Shape) → (within c n).TestsFit shape ts 1 0
      → Makes c (matching (map test_code ts) shape) (λ a k. MatchAt c.setting (layout c) (below c n) shape ts a k)
  made_match ts shape h =
      makes_as (makes_both (makes_both (pushes (ConstantField 1)) (makes_both (rolls (pos 2) refl) (pairs_up 1 refl)))
      (makes_both (level.tests ts shape 1 0 (fail_place 1) h) (drops 1 refl)))
      (λ a k s. (s.0, s.2.0, s.1, s.2.1, s.2.2))

  made_part : (e : TestExpr) (shape : Shape) → (within c n).ExprFits shape e
      → Makes c (dup 1 ▷ expr_code e shape) (λ a k. PartAt c.setting (layout c) (below c n) shape e a k)
  made_part e shape h = makes_both (dups 1 refl) (level.exprs e shape h)

  -- ---- statements

  abbrev Rest : List TestStmt → Shape → (a k : W) → Type 0
  Rest ss shape a k = StatementsAt c.setting (layout c) (below c n) (map test_stmt ss) shape a

  pub made_statements : (ss : List TestStmt) (shape : Shape) → StatementsFit c.units c.shapes (within c n) ss shape
      → Makes c (statements ss shape) (Rest ss shape)
  made_statements [] shape h = makes_as (makes_both (drops 1 refl) makes_jump) (λ a k s. (s.2.0, (s.0, s.1, s.2.1)))
  made_statements (stmt.Let ts e ∷ more) shape h =
      makes_as (makes_both (makes_both (made_part e shape h.0.1) (made_match ts shape h.0.0))
      (subst (λ j. Makes c (statements more (with_singles j shape)) (Rest more (with_singles (bound_after ts 0) shape))) (sym (after_all_is ts 0))
      (made_statements more (with_singles (bound_after ts 0) shape) h.1)))
      (λ a k s. (s.1.0, s.0, s.1.1, s.1.2, s.2))
  made_statements (stmt.Group numbers ∷ more) shape h =
      makes_as (makes_both (makes_both (pushes (ConstantField 0)) (pairs_up 1 refl)) (made_statements more (Several (map Of numbers) ∷ shape) h.1))
      (λ a k s. (
        s.0,
        s.1,
        subst (λ cs. StatementsAt c.setting (layout c) (below c n) (map test_stmt more) (Several cs ∷ shape) s.0)
            (sym (numbers_of numbers)) s.2,
      ))
  made_statements (stmt.Defined ∷ more) shape h = makes_both (debugs c) (made_statements more shape h.1)
  made_statements (stmt.Send e target ∷ more) shape h =
      makes_as (makes_both (makes_both (made_part e shape h.0.0) (makes_both (picks 2 refl) (makes_both (level.exprs target shape h.0.1)
      (makes_both (makes_both (dups 1 refl) (typeqs c actor_type)) (makes_both makes_choose sends))))) (made_statements more shape h.1))
      (λ a k s. (
        s.1.0,
        s.1.2.0,
        s.1.2.2.0,
        s.1.2.2.2.0,
        s.1.2.2.2.2.0,
        s.0,
        s.1.1,
        s.1.2.1,
        s.1.2.2.1,
        s.1.2.2.2.1,
        s.1.2.2.2.2.1,
        s.1.2.2.2.2.2,
        s.2,
      ))
    where
      sends : Makes c send (λ a k. At c.setting a op.ActorSend k)
      sends = makes_one _ refl
  made_statements (stmt.Create e ∷ more) shape h =
      makes_as (makes_both (makes_both (made_part e shape h.0) (makes_both (pushes (Place apply_place)) (makes_both (creates c) (pairs_up 1 refl))))
      (made_statements more (Single ∷ shape) h.1))
      (λ a k s. (s.1.0, s.0, s.1.1, s.1.2, s.2))
  made_statements (stmt.Become e ∷ more) shape h =
      makes_as (makes_both (makes_both (made_part e shape h.0) (makes_both (pushes (Place apply_place)) becomes)) (made_statements more shape h.1))
      (λ a k s. (s.1.0, s.0, s.1.1, s.1.2, s.2))
    where
      becomes : Makes c become (λ a k. At c.setting a op.ActorBecome k)
      becomes = makes_one _ refl
  made_statements (stmt.Throw e ∷ more) shape h =
      makes_as (makes_both (makes_to (fail_place 7) (made_part e shape h.0)) (made_statements more shape h.1)) (λ a k s. s.1)
  made_statements (stmt.Do e ∷ more) shape h =
      makes_as (makes_both (makes_both (made_part e shape h.0) makes_calls) (made_statements more shape h.1)) (λ a k s. (s.1.0, s.0, s.1.1, s.1.2, s.2))

  -- ---- units

  -- the code of a unit that stands in that shape
  abbrev pub UnitAt : TestUnit → Shape → W → Type 0
  UnitAt (unit.Abs ts e) shape a = FunctionCode c.setting (layout c) (below c n) ts e shape a
  UnitAt (unit.Block ss) shape a = StatementsAt c.setting (layout c) (below c n) (map test_stmt ss) shape a

  pub made_unit : (u : TestUnit) (shape : Shape) → UnitFits c.units c.shapes (within c n) u shape → Makes c (unit_code u shape) (λ a k. UnitAt u shape a)
  made_unit (unit.Abs ts e) shape h =
      subst (λ j. Makes c (roll (pos 2) ▷ matching (map test_code ts) shape ▷ expr_code e (with_singles j shape) ▷ roll (pos 2) ▷ jump)
      (λ a k. UnitAt (unit.Abs ts e) shape a)) (sym (after_all_is ts 0))
      (makes_as (makes_both (rolls (pos 2) refl) (makes_both (made_match ts shape h.0)
      (makes_both (level.exprs e (with_singles (bound_after ts 0) shape) h.1) (makes_both (rolls (pos 2) refl) makes_jump))))
      (λ a k s. (s.0, s.2.0, s.2.2.0, s.2.2.2.2.0, s.1, s.2.1, s.2.2.1, (s.2.2.2.0, s.2.2.2.1, s.2.2.2.2.1))))
  made_unit (unit.Block ss) shape h = made_statements ss shape h

-- ---- all units

module _ (c : Image) where
  -- each unit fits in its shape, to depth n
  abbrev EachFits : (n : ℕ) → List TestUnit → List Shape → Type 0
  EachFits n us shapes = (k : ℕ) (u : TestUnit) (shape : Shape) → slice_get us k ≡ Some u → slice_get shapes k ≡ Some shape
      → UnitFits c.units c.shapes (within c n) u shape

  pub units_grow : (us : List TestUnit) (shapes : List Shape) → EachFits 0 us shapes → (s : Emitted) → Begins s (units_code us shapes s).0
  units_grow [] shapes fit s = begins_same s
  units_grow (u ∷ us) [] fit s = begins_same s
  units_grow (u ∷ us) (shape ∷ shapes) fit s =
      begins_later _ _ _ (units_grow us shapes (λ k v other g h. fit (suc k) v other g h) s)
      ((made_unit c 0 u shape (fit 0 u shape refl refl)).grows.at 0 (units_code us shapes s).0)

  pub units_stand : (n : ℕ) (us : List TestUnit) (shapes : List Shape) → EachFits n us shapes → (s : Emitted) → Begins (units_code us shapes s).0 c.final
      → (k : ℕ) (u : TestUnit) (shape : Shape) → slice_get us k ≡ Some u → slice_get shapes k ≡ Some shape
      → UnitAt c n u shape (at c (slice_index (units_code us shapes s).1 k))
  units_stand n [] shapes fit s later k u shape g h = absurd (let no : None ≡ Some u = g in cc)
  units_stand n (v ∷ us) [] fit s later k u shape g h = absurd (let no : None ≡ Some shape = h in cc)
  units_stand n (v ∷ us) (other ∷ shapes) fit s later zero u shape g h =
      let made = made_unit c n v other (fit 0 v other refl refl) in
      let below = units_code us shapes s in
      let is : v ≡ u = (let e : Some v ≡ Some u = g in cc) in
      let same : other ≡ shape = (let e : Some other ≡ Some shape = h in cc) in
      subst (λ x. UnitAt c n x shape (at c (unit_code v other 0 below.0).1)) is
      (subst (λ x. UnitAt c n v x (at c (unit_code v other 0 below.0).1)) same (made.stands 0 below.0 later))
  units_stand n (v ∷ us) (other ∷ shapes) fit s later (suc k) u shape g h =
      let made = made_unit c n v other (fit 0 v other refl refl) in
      let below = units_code us shapes s in
      units_stand n us shapes (λ i x y e f. fit (suc i) x y e f) s (begins_later _ _ _ (made.grows.at 0 below.0) later) k u shape g h
