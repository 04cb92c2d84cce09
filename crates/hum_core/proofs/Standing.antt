-- Formed trees stand for what they become with tests.
use Rattle.std.proofs.Common.{◌≡◌, refl, ap, sym, subst, ◌∙◌, ℕ, zero, suc, Bool, true, false, List, [], ◌∷◌, ◌++◌, map, slice_get, append_assoc}
use Rattle.std.specs.Prelude.{◌&&◌}
use Rattle.std.proofs.lemmas.List.{append-nil}
use Rattle.std.specs.List.{list_all}
use Rattle.hum_core.specs.declared.resolved.CoreUnit.{CoreUnit}
use Rattle.hum_core.specs.declared.resolved.CoreExpr.{CoreExpr, out-CoreExpr, fold_out-CoreExpr}
use Rattle.hum_core.specs.declared.resolved.CorePat.{CorePat, out-CorePat, fold_out-CorePat}
use Rattle.hum_core.specs.declared.resolved.CorePat.TheVariants as pat
use Rattle.hum_core.specs.declared.resolved.CoreExpr.TheVariants as expr
use Rattle.hum_core.specs.declared.resolved.CoreStmt.{CoreStmt}
use Rattle.hum_core.specs.declared.resolved.CoreStmt.TheVariants as stmt
use Rattle.hum_core.specs.declared.resolved.CoreUnit.TheVariants as unit
use Rattle.hum_core.specs.declared.resolved.CoreArm.{CoreArm, out-CoreArm, fold_out-CoreArm}
use Rattle.hum_core.specs.declared.resolved.CoreBranch.{CoreBranch, out-CoreBranch, fold_out-CoreBranch}
use Rattle.hum_core.specs.declared.resolved.CoreExpr.TheOpen.{CoreExpr-F, CorePat-F, CoreArm-F, CoreBranch-F}
use Rattle.hum_core.specs.declared.resolved.CoreExpr.TheOpen as core
use Rattle.hum_core.specs.declared.resolved.CoreExpr.TheFolds as folds
use Rattle.hum_core.specs.declared.resolved.CoreExpr.TheViews.{roll-CorePat}
use Rattle.hum_core.specs.declared.tested.TestExpr.{TestExpr, out-TestExpr}
use Rattle.hum_core.specs.declared.tested.TestExpr.TheVariants as t
use Rattle.hum_core.specs.declared.tested.Test.TheOpen.{TestExpr-F}
use Rattle.hum_core.specs.declared.tested.Test.TheViews.{out-roll-TestArm, out-roll-TestBranch}
use Rattle.hum_core.specs.declared.tested.Test.{Test, out-Test}
use Rattle.hum_core.specs.declared.tested.Test.TheVariants as test
use Rattle.hum_core.specs.declared.tested.TestArm.{TestArm}
use Rattle.hum_core.specs.declared.tested.TestBranch.{TestBranch}
use Rattle.hum_core.specs.Formed.{all, is_abstraction, names_block, expr_formed, pat_formed, arm_formed, branch_formed, is_formed_expr, is_formed_pat, is_formed_arm, is_formed_branch, is_formed_stmt, is_formed_unit, are_formed}
use Rattle.hum_meaning.specs.Value.{Plain, text_value}
use Rattle.hum_meaning.specs.Language.{ExprNode, Is, Var, Myself, Abs, BlockOf, Call, Tuple, New, Case, If}
use Rattle.hum_core.specs.Numbered.{Code, Opening, Of, atom_of, members}
use Rattle.hum_core.specs.CoreTrees.{Core, core_arm, core_branch, core_expr, core_stmt, core_body, core_function, core_language}
use Rattle.hum_core.specs.TestLists.{Tests, test_arm, test_branch, test_expr, test_stmt, test_body, test_function, tests_language}
use Rattle.hum_core.specs.Alike.{Scope, One, grouped, with_marks, Both, Each, Reading, ArmAs, BranchAs, ExprNodeAs, StatementsAs, MemberAs}
use Rattle.hum_core.specs.Reading.{Relations, relations_to, reading_to}
use Rattle.hum_core.specs.Lowering.{left_behind, split, first_value, other_values, marks_of, SameAs, ItemsAs, TestsAs, lowering}
use Rattle.hum_core.specs.Lists.{expr_tested, pat_tested, arm_tested, branch_tested, tuple_tested, tested_expr, tested_pat, tested_arm, tested_branch, tested_stmt, tested_unit, tested}
use Rattle.hum_core.specs.Laws.{FormedTreesStand}
use Rattle.hum_core.proofs.Texts.{text_same}

abbrev TestNodeOf : Type 0
TestNodeOf = TestExpr-F Test TestExpr TestArm TestBranch

and_parts : (a b : Bool) → a && b ≡ true → (a ≡ true) × (b ≡ true)
and_parts true b h = (refl, h)
and_parts false b h = absurd (cc)

-- ---- the tests of a pattern take one value

-- they are those that take the first value
abbrev pub TakesOne : List Test → Type 0
TakesOne ts = (more : List Test) (k : ℕ) → split (ts ++ more) (suc k) ≡ (ts ++ (split more k).0, (split more k).1)

-- a test of one value
single : (t : Test) → ((k : ℕ) → left_behind (out-Test t) k ≡ k) → TakesOne (t ∷ [])
single t h more k = ap (λ j. (t ∷ (split more j).0, (split more j).1)) (h k)

pair_of : (ts us : List Test) → TakesOne ts → TakesOne us → TakesOne (test.Pair ∷ ts ++ us)
pair_of ts us h k more n =
    ap (λ l. (test.Pair ∷ (split ((ts ++ us) ++ more) (left_behind l n)).0, (split ((ts ++ us) ++ more) (left_behind l n)).1)) test.outs-Pair
    ∙ ap (λ x. (test.Pair ∷ (split x (suc (suc n))).0, (split x (suc (suc n))).1)) (append_assoc ts us more)
    ∙ ap (λ x. (test.Pair ∷ x.0, x.1)) (h (us ++ more) (suc n) ∙ ap (λ x. (ts ++ x.0, x.1)) (k more n))
    ∙ ap (λ x. (test.Pair ∷ x, (split more n).1)) (sym (append_assoc ts us (split more n).0))

module _ (kinds : List Bool) where
  abbrev E : CoreExpr → Type 0
  E e = Unit {0}

  abbrev P : CorePat → Type 0
  P p = is_formed_pat kinds p ≡ true → TakesOne (tested_pat p)

  abbrev A : CoreArm → Type 0
  A a = Unit {0}

  abbrev B : CoreBranch → Type 0
  B b = Unit {0}

  abbrev EE : Type 0
  EE = (x : CoreExpr) × E x

  abbrev PP : Type 0
  PP = (x : CorePat) × P x

  abbrev AA : Type 0
  AA = (x : CoreArm) × A x

  abbrev BB : Type 0
  BB = (x : CoreBranch) × B x

  abbrev bare : CorePat-F EE PP AA BB → CorePat-F CoreExpr CorePat CoreArm CoreBranch
  bare = folds.map-CorePat EE PP AA BB CoreExpr CorePat CoreArm CoreBranch (λ z. z.0) (λ z. z.0) (λ z. z.0) (λ z. z.0)

  items_take : (p : PP) (ps : List PP) → all (map (is_formed_pat kinds) (map (λ z. z.0) (p ∷ ps))) ≡ true
      → TakesOne (tuple_tested (map tested_pat (map (λ z. z.0) (p ∷ ps))))
  items_take p [] h = p.1 (and_parts _ _ h).0
  items_take p (q ∷ ps) h = pair_of _ _ (p.1 (and_parts _ _ h).0) (items_take q ps (and_parts _ _ h).1)

  rolled : (x : CorePat-F CoreExpr CorePat CoreArm CoreBranch)
      → tested_pat (roll-CorePat x) ≡ pat_tested (folds.map-CorePat CoreExpr CorePat CoreArm CoreBranch TestExpr (List Test) TestArm TestBranch tested_expr tested_pat tested_arm tested_branch x)
  rolled x = folds.fold-roll-CorePat TestExpr (List Test) TestArm TestBranch expr_tested pat_tested arm_tested branch_tested x

  formed_rolled : (x : CorePat-F CoreExpr CorePat CoreArm CoreBranch)
      → is_formed_pat kinds (roll-CorePat x) ≡ pat_formed kinds (folds.map-CorePat CoreExpr CorePat CoreArm CoreBranch Bool Bool Bool Bool (is_formed_expr kinds) (is_formed_pat kinds) (is_formed_arm kinds) (is_formed_branch kinds) x)
  formed_rolled x = folds.fold-roll-CorePat Bool Bool Bool Bool (expr_formed kinds) (pat_formed kinds) (arm_formed kinds) (branch_formed kinds) x

  node_takes : (y : CorePat-F EE PP AA BB)
      → pat_formed kinds (folds.map-CorePat CoreExpr CorePat CoreArm CoreBranch Bool Bool Bool Bool (is_formed_expr kinds) (is_formed_pat kinds) (is_formed_arm kinds) (is_formed_branch kinds) (bare y)) ≡ true
      → TakesOne (pat_tested (folds.map-CorePat CoreExpr CorePat CoreArm CoreBranch TestExpr (List Test) TestArm TestBranch tested_expr tested_pat tested_arm tested_branch (bare y)))
  node_takes core.Any h = single test.Skip (λ k. ap (λ l. left_behind l k) test.outs-Skip)
  node_takes core.Bind h = single test.Bind (λ k. ap (λ l. left_behind l k) test.outs-Bind)
  node_takes (core.CorePat::Is c) h = single (test.Is c) (λ k. ap (λ l. left_behind l k) (test.outs-Is c))
  node_takes (core.Value e) h = single (test.Same (tested_expr e.0)) (λ k. ap (λ l. left_behind l k) (test.outs-Same (tested_expr e.0)))
  node_takes (core.CorePat::Tuple []) h = absurd (cc)
  node_takes (core.CorePat::Tuple (p ∷ ps)) h = items_take p ps (and_parts _ _ h).1

  pat_step : (x : CorePat-F CoreExpr CorePat CoreArm CoreBranch) (y : CorePat-F EE PP AA BB) → bare y ≡ x → P (roll-CorePat x)
  pat_step x y is = subst (λ z. P (roll-CorePat z)) is (λ formed. subst TakesOne (sym (rolled (bare y))) (node_takes y (sym (formed_rolled (bare y)) ∙ formed)))

  pub takes_one : (p : CorePat) → P p
  takes_one = folds.ind-CorePat E P A B (λ x y is. tt) pat_step (λ x y is. tt) (λ x y is. tt)

-- ---- one level

module _ (units : List CoreUnit) where
  abbrev ks : List Bool
  ks = map is_abstraction units

  abbrev rel : ℕ → Relations Core Tests
  rel = relations_to (core_language units) (tests_language (tested units)) lowering

  abbrev to : ℕ → Reading Core Tests
  to = reading_to (core_language units) (tests_language (tested units)) lowering

  abbrev OfExprs : ℕ → Type 0
  OfExprs n = (scope : Scope Core) (e : CoreExpr) → is_formed_expr ks e ≡ true → (rel n).Exprs scope e (tested_expr e)

  abbrev OfPats : ℕ → Type 0
  OfPats n = (scope : Scope Core) (p : CorePat) → is_formed_pat ks p ≡ true → (rel n).Patterns scope p (tested_pat p)

  abbrev OfBodies : ℕ → Type 0
  OfBodies n = (scope : Scope Core) (k : ℕ) → (rel n).Bodies scope k k

  abbrev OfCodes : ℕ → Type 0
  OfCodes n = (scope : Scope Core) (c : Code) → (rel n).Abstractions scope c c

  module _ (n : ℕ) (ce : OfExprs n) (cp : OfPats n) (cb : OfBodies n) (ca : OfCodes n) where
    exprs_each : (scope : Scope Core) (es : List CoreExpr) → all (map (is_formed_expr ks) es) ≡ true
        → Each ((to n).ExprAs scope) es (map tested_expr es)
    exprs_each scope [] h = tt
    exprs_each scope (e ∷ es) h = (ce scope e (and_parts _ _ h).0, exprs_each scope es (and_parts _ _ h).1)

    arm_same : (a : CoreArm) → test_arm (tested_arm a) ≡ (tested_pat (out-CoreArm a).pattern, tested_expr (out-CoreArm a).value)
    arm_same a = ap test_arm (fold_out-CoreArm _ _ _ _ _ _ _ _ a) ∙ ap (λ r. (r.pattern, r.value)) (out-roll-TestArm _)

    arm_stands : (scope : Scope Core) (a : CoreArm) → is_formed_arm ks a ≡ true → ArmAs (to n) scope (core_arm a) (test_arm (tested_arm a))
    arm_stands scope a h =
        let parts = and_parts (is_formed_pat ks (out-CoreArm a).pattern) (is_formed_expr ks (out-CoreArm a).value) (sym (fold_out-CoreArm _ _ _ _ _ _ _ _ a) ∙ h) in
        subst (ArmAs (to n) scope (core_arm a)) (sym (arm_same a)) (cp scope (out-CoreArm a).pattern parts.0, ce (with_marks (marks_of (out-CoreArm a).pattern) scope) (out-CoreArm a).value parts.1)

    arms_each : (scope : Scope Core) (as' : List CoreArm) → all (map (is_formed_arm ks) as') ≡ true
        → Each (ArmAs (to n) scope) (map core_arm as') (map test_arm (map tested_arm as'))
    arms_each scope [] h = tt
    arms_each scope (a ∷ as') h = (arm_stands scope a (and_parts _ _ h).0, arms_each scope as' (and_parts _ _ h).1)

    branch_same : (b : CoreBranch) → test_branch (tested_branch b) ≡ (tested_expr (out-CoreBranch b).condition, (out-CoreBranch b).block)
    branch_same b = ap test_branch (fold_out-CoreBranch _ _ _ _ _ _ _ _ b) ∙ ap (λ r. (r.condition, r.block)) (out-roll-TestBranch _)

    branch_stands : (scope : Scope Core) (b : CoreBranch) → is_formed_branch ks b ≡ true
        → BranchAs (to n) scope (core_branch b) (test_branch (tested_branch b))
    branch_stands scope b h =
        let parts = and_parts (is_formed_expr ks (out-CoreBranch b).condition) (names_block ks (out-CoreBranch b).block) (sym (fold_out-CoreBranch _ _ _ _ _ _ _ _ b) ∙ h) in
        subst (BranchAs (to n) scope (core_branch b)) (sym (branch_same b)) (ce scope (out-CoreBranch b).condition parts.0, cb scope (out-CoreBranch b).block)

    branches_each : (scope : Scope Core) (bs : List CoreBranch) → all (map (is_formed_branch ks) bs) ≡ true
        → Each (BranchAs (to n) scope) (map core_branch bs) (map test_branch (map tested_branch bs))
    branches_each scope [] h = tt
    branches_each scope (b ∷ bs) h = (branch_stands scope b (and_parts _ _ h).0, branches_each scope bs (and_parts _ _ h).1)

    seen_as : (scope : Scope Core) (x : ExprNode Core) (t : TestExpr) (y : TestNodeOf) → out-TestExpr t ≡ y
        → ExprNodeAs (to n) scope x (test_expr y) → ExprNodeAs (to n) scope x (test_expr (out-TestExpr t))
    seen_as scope x t y e h = subst (λ y. ExprNodeAs (to n) scope x (test_expr y)) (sym e) h

    node_stands : (scope : Scope Core) (x : CoreExpr-F CoreExpr CorePat CoreArm CoreBranch)
        → expr_formed ks (folds.map-CoreExpr CoreExpr CorePat CoreArm CoreBranch Bool Bool Bool Bool (is_formed_expr ks) (is_formed_pat ks) (is_formed_arm ks) (is_formed_branch ks) x) ≡ true
        → ExprNodeAs (to n) scope (core_expr x) (test_expr (out-TestExpr (expr_tested (folds.map-CoreExpr CoreExpr CorePat CoreArm CoreBranch TestExpr (List Test) TestArm TestBranch tested_expr tested_pat tested_arm tested_branch x))))
    node_stands scope (core.CoreExpr::Is c) h = seen_as scope (Is (Plain (atom_of c))) _ _ (t.outs-Is c) refl
    node_stands scope (core.Text points) h = seen_as scope (Is (text_value points)) _ _ (t.outs-Text points) (text_same Core Tests points)
    node_stands scope (core.Var slot) h = seen_as scope (Var slot) _ _ (t.outs-Var slot) refl
    node_stands scope core.Myself h = seen_as scope Myself _ _ t.outs-Myself tt
    node_stands scope (core.Abs k) h = seen_as scope (Abs (Of k)) _ _ (t.outs-Abs k) (ca scope (Of k))
    node_stands scope (core.Block k) h = seen_as scope (BlockOf k) _ _ (t.outs-Block k) (cb scope k)
    node_stands scope (core.Call f a) h = seen_as scope (Call f a) _ _ (t.outs-Call _ _) (ce scope f (and_parts _ _ h).0, ce scope a (and_parts _ _ h).1)
    node_stands scope (core.CoreExpr::Tuple es) h = seen_as scope (Tuple es) _ _ (t.outs-Tuple _) (exprs_each scope es (and_parts _ _ h).1)
    node_stands scope (core.New e) h = seen_as scope (New e) _ _ (t.outs-New _) (ce scope e h)
    node_stands scope (core.Case e as') h =
        seen_as scope (Case e (map core_arm as')) _ _ (t.outs-Case _ _) (ce scope e (and_parts _ _ (and_parts _ _ h).0).1, arms_each scope as' (and_parts _ _ h).1)
    node_stands scope (core.If bs k) h = seen_as scope (If (map core_branch bs) k) _ _ (t.outs-If _ k) (branches_each scope bs (and_parts _ _ (and_parts _ _ h).0).1, cb scope k)

    expr_stands : OfExprs (suc n)
    expr_stands scope e h =
        subst (λ t. ExprNodeAs (to n) scope (core_expr (out-CoreExpr e)) (test_expr (out-TestExpr t))) (sym (fold_out-CoreExpr _ _ _ _ _ _ _ _ e))
        (node_stands scope (out-CoreExpr e) (sym (fold_out-CoreExpr _ _ _ _ _ _ _ _ e) ∙ h))

    -- ---- patterns

    first_of : (p : CorePat) → is_formed_pat ks p ≡ true → (us : List Test) → first_value (tested_pat p ++ us) ≡ tested_pat p
    first_of p h us = ap (λ x. x.0) (takes_one ks p h us 0) ∙ append-nil (tested_pat p)

    others_of : (p : CorePat) → is_formed_pat ks p ≡ true → (us : List Test) → other_values (tested_pat p ++ us) ≡ us
    others_of p h us = ap (λ x. x.1) (takes_one ks p h us 0)

    items_stand : (scope : Scope Core) (p q : CorePat) (more : List CorePat) → all (map (is_formed_pat ks) (p ∷ q ∷ more)) ≡ true
        → ItemsAs (to n) scope p q more (tuple_tested (map tested_pat (p ∷ q ∷ more)))
    items_stand scope p q [] h =
        let a = (and_parts _ _ h).0 in
        let b = (and_parts _ _ (and_parts _ _ h).1).0 in (
          test.outs-Pair,
          subst ((to n).PatternAs scope p) (sym (first_of p a (tested_pat q))) (cp scope p a),
          subst ((to n).PatternAs scope q) (sym (others_of p a (tested_pat q))) (cp scope q b),
        )
    items_stand scope p q (o ∷ more) h =
        let a = (and_parts _ _ h).0 in
        let rest = tuple_tested (map tested_pat (q ∷ o ∷ more)) in (
          test.outs-Pair,
          subst ((to n).PatternAs scope p) (sym (first_of p a rest)) (cp scope p a),
          subst (ItemsAs (to n) scope q o more) (sym (others_of p a rest)) (items_stand scope q o more (and_parts _ _ h).1),
        )

    pat_node_stands : (scope : Scope Core) (x : CorePat-F CoreExpr CorePat CoreArm CoreBranch)
        → pat_formed ks (folds.map-CorePat CoreExpr CorePat CoreArm CoreBranch Bool Bool Bool Bool (is_formed_expr ks) (is_formed_pat ks) (is_formed_arm ks) (is_formed_branch ks) x) ≡ true
        → TestsAs (to n) scope x (pat_tested (folds.map-CorePat CoreExpr CorePat CoreArm CoreBranch TestExpr (List Test) TestArm TestBranch tested_expr tested_pat tested_arm tested_branch x))
    pat_node_stands scope core.Any h = test.outs-Skip
    pat_node_stands scope core.Bind h = test.outs-Bind
    pat_node_stands scope (core.CorePat::Is c) h = test.outs-Is c
    pat_node_stands scope (core.Value e) h = subst (SameAs (to n) scope e) (sym (test.outs-Same (tested_expr e))) (ce scope e h)
    pat_node_stands scope (core.CorePat::Tuple []) h = absurd (cc)
    pat_node_stands scope (core.CorePat::Tuple (p ∷ [])) h = absurd (cc)
    pat_node_stands scope (core.CorePat::Tuple (p ∷ q ∷ more)) h = items_stand scope p q more (and_parts _ _ h).1

    pat_stands : OfPats (suc n)
    pat_stands scope p h =
        subst (TestsAs (to n) scope (out-CorePat p)) (sym (fold_out-CorePat _ _ _ _ _ _ _ _ p))
        (pat_node_stands scope (out-CorePat p) (sym (fold_out-CorePat _ _ _ _ _ _ _ _ p) ∙ h))

    -- ---- units

    members_stand : (scope : Scope Core) (numbers : List ℕ) → Each (MemberAs (to n) scope) (members numbers) (members numbers)
    members_stand scope [] = tt
    members_stand scope (k ∷ numbers) = (ca scope (Of k), members_stand scope numbers)

    statements_stand : (scope : Scope Core) (ss : List CoreStmt) → list_all (is_formed_stmt ks) ss ≡ true
        → StatementsAs (to n) scope (map core_stmt ss) (map test_stmt (map tested_stmt ss))
    statements_stand scope [] h = tt
    statements_stand scope (stmt.Let p e ∷ ss) h =
        let parts = and_parts _ _ (and_parts _ _ h).0 in
        (cp scope p parts.0, ce scope e parts.1, statements_stand (with_marks (marks_of p) scope) ss (and_parts _ _ h).1)
    statements_stand scope (stmt.Group numbers ∷ ss) h =
        (members_stand (grouped (members numbers) scope) numbers, statements_stand (grouped (members numbers) scope) ss (and_parts _ _ h).1)
    statements_stand scope (stmt.Defined ∷ ss) h = statements_stand scope ss (and_parts true _ h).1
    statements_stand scope (stmt.Send e a ∷ ss) h =
        let parts = and_parts _ _ (and_parts _ _ h).0 in
        (ce scope e parts.0, ce scope a parts.1, statements_stand scope ss (and_parts _ _ h).1)
    statements_stand scope (stmt.Create e ∷ ss) h = (ce scope e (and_parts _ _ h).0, statements_stand (One tt ∷ scope) ss (and_parts _ _ h).1)
    statements_stand scope (stmt.Become e ∷ ss) h = (ce scope e (and_parts _ _ h).0, statements_stand scope ss (and_parts _ _ h).1)
    statements_stand scope (stmt.Throw e ∷ ss) h = (ce scope e (and_parts _ _ h).0, statements_stand scope ss (and_parts _ _ h).1)
    statements_stand scope (stmt.Do e ∷ ss) h = (ce scope e (and_parts _ _ h).0, statements_stand scope ss (and_parts _ _ h).1)

    body_at : (scope : Scope Core) (us : List CoreUnit) → list_all (is_formed_unit ks) us ≡ true → (k : ℕ)
        → StatementsAs (to n) scope (core_body (slice_get us k)) (test_body (slice_get (map tested_unit us) k))
    body_at scope [] h k = tt
    body_at scope (unit.Block ss ∷ us) h zero = statements_stand scope ss (and_parts _ _ h).0
    body_at scope (unit.Abs p e ∷ us) h zero = tt
    body_at scope (u ∷ us) h (suc k) = body_at scope us (and_parts _ _ h).1 k

    function_at : (scope : Scope Core) (us : List CoreUnit) → list_all (is_formed_unit ks) us ≡ true → (k : ℕ)
        → Both (ArmAs (to n) scope) (core_function (slice_get us k)) (test_function (slice_get (map tested_unit us) k))
    function_at scope [] h k = tt
    function_at scope (unit.Abs p e ∷ us) h zero =
        let parts = and_parts _ _ (and_parts _ _ h).0 in
        (cp scope p parts.0, ce (with_marks (marks_of p) scope) e parts.1)
    function_at scope (unit.Block ss ∷ us) h zero = tt
    function_at scope (u ∷ us) h (suc k) = function_at scope us (and_parts _ _ h).1 k

    -- the first actor's behaviour
    opening_stands : (scope : Scope Core) → names_block ks 0 ≡ true → ArmAs (to n) scope (pat.Any, expr.Block 0) (test.Skip ∷ [], t.Block 0)
    opening_stands scope h = (
      subst ((to n).PatternAs scope pat.Any) (ap tested_pat (sym pat.rolls-Any) ∙ rolled ks core.Any) (cp scope pat.Any (ap (is_formed_pat ks) (sym pat.rolls-Any) ∙ formed_rolled ks core.Any)),
      subst ((to n).ExprAs (with_marks (marks_of pat.Any) scope) (expr.Block 0))
          (ap tested_expr (sym (expr.rolls-Block 0)) ∙ folds.fold-roll-CoreExpr TestExpr (List Test) TestArm TestBranch expr_tested pat_tested arm_tested branch_tested (core.Block 0))
          (ce (with_marks (marks_of pat.Any) scope) (expr.Block 0)
          (ap (is_formed_expr ks) (sym (expr.rolls-Block 0)) ∙ folds.fold-roll-CoreExpr Bool Bool Bool Bool (expr_formed ks) (pat_formed ks) (arm_formed ks) (branch_formed ks) (core.Block 0) ∙ h)),
    )

    code_stands : are_formed units ≡ true → OfCodes (suc n)
    code_stands h scope Opening = opening_stands scope (and_parts _ _ h).1
    code_stands h scope (Of k) = function_at scope units (and_parts _ _ h).0 k

-- ---- every level

pub record Standing (units : List CoreUnit) (n : ℕ) : Type 0 where
  pub exprs : OfExprs units n
  pub pats : OfPats units n
  pub bodies : OfBodies units n
  pub codes : OfCodes units n

pub stands_to : (units : List CoreUnit) → are_formed units ≡ true → (n : ℕ) → Standing units n
stands_to units h zero = record { exprs = λ scope e f. tt; pats = λ scope p f. tt; bodies = λ scope k. tt; codes = λ scope c. tt }
stands_to units h (suc n) =
    let below = stands_to units h n in
    record {
      exprs = expr_stands units n below.exprs below.pats below.bodies below.codes;
      pats = pat_stands units n below.exprs below.pats below.bodies below.codes;
      bodies = λ scope k. body_at units n below.exprs below.pats below.bodies below.codes scope units (and_parts _ _ h).0 k;
      codes = code_stands units n below.exprs below.pats below.bodies below.codes h;
    }

pub formed-trees-stand : FormedTreesStand
formed-trees-stand units h = record { bodies = λ scope k n. (stands_to units h n).bodies scope k; abstractions = λ scope c n. (stands_to units h n).codes scope c }
