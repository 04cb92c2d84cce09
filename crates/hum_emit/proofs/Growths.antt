-- What is emitted of a tree only adds to what was emitted before.
use Rattle.std.proofs.Common.{◌≡◌, sym, subst, ℕ, zero, suc, ◌-◌, pos, negsuc, List, [], ◌∷◌, map, length, Option, Some, None}
use Rattle.hum_core.specs.declared.tested.TestExpr.{TestExpr}
use Rattle.hum_core.specs.declared.tested.Test.{Test}
use Rattle.hum_core.specs.declared.tested.TestArm.{TestArm}
use Rattle.hum_core.specs.declared.tested.TestBranch.{TestBranch}
use Rattle.hum_core.specs.declared.tested.Test.TheOpen.{Test-F, TestExpr-F, TestArm-F, TestBranch-F}
use Rattle.hum_core.specs.declared.tested.Test.TheOpen as layer
use Rattle.hum_core.specs.declared.tested.Test.TheFolds as folds
use Rattle.hum_core.specs.declared.tested.Test.TheViews.{roll-Test, roll-TestExpr, roll-TestArm, roll-TestBranch}
use Rattle.hum_code.specs.Layout.{Shape, with_singles}
use Rattle.hum_emit.specs.declared.instruction.Field.TheVariants.{Constant}
use Rattle.hum_emit.specs.Emitted.{Piece, ◌▷◌, push, dup, drop, pair, nth, eq, choose, text, constant}
use Rattle.hum_emit.specs.Runtime.{fail_place}
use Rattle.hum_emit.specs.Templates.{OfExpr, OfTest, OfArm, OfBranch, function, block, variable, items, pairs, branches, tests, restore, later_arms, arms, of_expr, of_test, of_arm, of_branch, expr_code, test_code, after_all, member_unit}
use Rattle.hum_emit.specs.Emitting.{arm_code, branch_code}
use Rattle.hum_emit.proofs.Makes.{begins_later, Growing, g_one, g_choose, g_calls, g_nothing, g_both, g_miss, g_field}
use Rattle.hum_emit.proofs.DataCells.{text_begins, constant_begins}

pub function_grows : (u : ℕ) → Growing (function u)
function_grows u = g_both g_one (g_both g_one g_one)

pub block_grows : (u : ℕ) → Growing (block u)
block_grows u = g_both g_one (g_both g_one g_one)

pub variable_grows : (back : ℕ) (member : Option ℕ) (shape : Shape) → Growing (variable back member shape)
variable_grows back None shape = g_one
variable_grows back (Some i) shape = g_both g_one (function_grows (member_unit shape back i))

pub pairs_grow : (n : ℕ) → Growing (pairs n)
pairs_grow zero = g_nothing
pairs_grow (suc n) = g_both g_one (g_both g_one (pairs_grow n))

restore_grows : Growing restore
restore_grows = g_both g_one (g_both g_one (g_both g_one g_one))

abbrev T : Test → Type 0
T t = (shape : Shape) (miss n : ℕ) → Growing ((test_code t).code shape miss n)

abbrev E : TestExpr → Type 0
E e = (shape : Shape) → Growing (expr_code e shape)

abbrev A : TestArm → Type 0
A a = (shape : Shape) (miss : ℕ) → Growing (arm_code a shape miss)

abbrev B : TestBranch → Type 0
B b = (shape : Shape) (other : ℕ) → Growing (branch_code b shape other)

abbrev TT : Type 0
TT = (x : Test) × T x

abbrev EE : Type 0
EE = (x : TestExpr) × E x

abbrev AA : Type 0
AA = (x : TestArm) × A x

abbrev BB : Type 0
BB = (x : TestBranch) × B x

-- ---- lists of parts

items_grow : (es : List EE) (shape : Shape) → Growing (items (map expr_code (map (λ z. z.0) es)) shape)
items_grow [] shape = g_nothing
items_grow (e ∷ []) shape = e.1 shape
items_grow (e ∷ f ∷ more) shape = g_both g_one (g_both (e.1 shape) (g_both g_one (items_grow (f ∷ more) shape)))

pub tests_grow : (ts : List TT) (shape : Shape) (miss n : ℕ) → Growing (tests (map test_code (map (λ z. z.0) ts)) shape miss n)
tests_grow [] shape miss n = g_nothing
tests_grow (t ∷ ts) shape miss n = g_both (t.1 shape miss n) (tests_grow ts shape miss ((test_code t.0).after n))

later_grow : (as' : List AA) (shape : Shape) → Growing (later_arms (map arm_code (map (λ z. z.0) as')) shape)
later_grow [] shape = g_nothing
later_grow (a ∷ []) shape = g_both g_one (g_both g_one (a.1 shape (fail_place 1)))
later_grow (a ∷ b ∷ more) shape =
    g_miss {q = later_arms (map arm_code (map (λ z. z.0) (b ∷ more))) shape} {r = λ miss. drop 2 ▷ restore ▷ arm_code a.0 shape miss}
    (later_grow (b ∷ more) shape) (λ miss. g_both g_one (g_both restore_grows (a.1 shape miss)))

arms_grow : (as' : List AA) (shape : Shape) → Growing (arms (map arm_code (map (λ z. z.0) as')) shape)
arms_grow [] shape = g_nothing
arms_grow (a ∷ []) shape = a.1 shape (fail_place 1)
arms_grow (a ∷ b ∷ more) shape =
    g_miss {q = later_arms (map arm_code (map (λ z. z.0) (b ∷ more))) shape} {r = λ miss. pair 2 ▷ restore ▷ arm_code a.0 shape miss}
    (later_grow (b ∷ more) shape) (λ miss. g_both g_one (g_both restore_grows (a.1 shape miss)))

branches_grow : (bs : List BB) (other : ℕ) (shape : Shape) → Growing (branches (map branch_code (map (λ z. z.0) bs)) other shape)
branches_grow [] other shape = block_grows other
branches_grow (b ∷ more) other shape =
    g_miss {q = branches (map branch_code (map (λ z. z.0) more)) other shape} {r = λ miss. branch_code b.0 shape miss} (branches_grow more other shape) (λ miss. b.1 shape miss)

-- ---- one node

abbrev bare_expr : TestExpr-F TT EE AA BB → TestExpr-F Test TestExpr TestArm TestBranch
bare_expr = folds.map-TestExpr TT EE AA BB Test TestExpr TestArm TestBranch (λ z. z.0) (λ z. z.0) (λ z. z.0) (λ z. z.0)

abbrev bare_test : Test-F TT EE AA BB → Test-F Test TestExpr TestArm TestBranch
bare_test = folds.map-Test TT EE AA BB Test TestExpr TestArm TestBranch (λ z. z.0) (λ z. z.0) (λ z. z.0) (λ z. z.0)

abbrev bare_arm : TestArm-F TT EE AA BB → TestArm-F Test TestExpr TestArm TestBranch
bare_arm = folds.map-TestArm TT EE AA BB Test TestExpr TestArm TestBranch (λ z. z.0) (λ z. z.0) (λ z. z.0) (λ z. z.0)

abbrev bare_branch : TestBranch-F TT EE AA BB → TestBranch-F Test TestExpr TestArm TestBranch
bare_branch = folds.map-TestBranch TT EE AA BB Test TestExpr TestArm TestBranch (λ z. z.0) (λ z. z.0) (λ z. z.0) (λ z. z.0)

-- a node with the code of the nodes below in their places
abbrev pub coded_expr : TestExpr-F Test TestExpr TestArm TestBranch → OfExpr
coded_expr x = of_expr (folds.map-TestExpr Test TestExpr TestArm TestBranch OfTest OfExpr OfArm OfBranch test_code expr_code arm_code branch_code x)

abbrev pub coded_test : Test-F Test TestExpr TestArm TestBranch → OfTest
coded_test x = of_test (folds.map-Test Test TestExpr TestArm TestBranch OfTest OfExpr OfArm OfBranch test_code expr_code arm_code branch_code x)

abbrev pub coded_arm : TestArm-F Test TestExpr TestArm TestBranch → OfArm
coded_arm x = of_arm (folds.map-TestArm Test TestExpr TestArm TestBranch OfTest OfExpr OfArm OfBranch test_code expr_code arm_code branch_code x)

abbrev pub coded_branch : TestBranch-F Test TestExpr TestArm TestBranch → OfBranch
coded_branch x = of_branch (folds.map-TestBranch Test TestExpr TestArm TestBranch OfTest OfExpr OfArm OfBranch test_code expr_code arm_code branch_code x)

expr_grows : (y : TestExpr-F TT EE AA BB) (shape : Shape) → Growing (coded_expr (bare_expr y) shape)
expr_grows (layer.TestExpr::Is x) shape = g_field {field = constant x} {q = λ word. drop 1 ▷ push word} (constant_begins x) (λ f. g_both g_one g_one)
expr_grows (layer.Text points) shape = g_field {field = text points} {q = λ word. drop 1 ▷ push word} (text_begins points) (λ f. g_both g_one g_one)
expr_grows (layer.Var slot) shape = variable_grows slot.back slot.member shape
expr_grows layer.Myself shape = g_both g_one g_one
expr_grows (layer.Abs u) shape = function_grows u
expr_grows (layer.Block u) shape = block_grows u
expr_grows (layer.Call f x) shape = g_both g_one (g_both (f.1 shape) (g_both g_one (g_both (x.1 shape) g_calls)))
expr_grows (layer.Tuple es) shape = g_both (items_grow es shape) (pairs_grow (length (map expr_code (map (λ z. z.0) es)) - 1))
expr_grows (layer.New e) shape = g_both g_one (g_both (e.1 shape) (g_both g_one g_one))
expr_grows (layer.Case e as') shape =
    g_both g_one (g_both g_one (g_both g_one (g_both (e.1 shape) (g_both g_one (g_both g_one (g_both g_one (arms_grow as' shape)))))))
expr_grows (layer.If bs other) shape = branches_grow bs other shape

test_grows : (y : Test-F TT EE AA BB) (shape : Shape) (miss n : ℕ) → Growing ((coded_test (bare_test y)).code shape miss n)
test_grows layer.Pair shape miss n = g_both g_one (g_both g_one (g_both g_one (g_both g_choose (g_both g_one (g_both g_one g_one)))))
test_grows (layer.Test::Is x) shape miss n =
    g_field {field = constant x} {q = λ word. dup 1 ▷ nth (pos 1) ▷ eq word ▷ choose miss ▷ nth (negsuc 0)} (constant_begins x) (λ f. g_both g_one (g_both g_one (g_both g_one (g_both g_choose g_one))))
test_grows (layer.Same e) shape miss n =
    g_both g_one (g_both g_one (g_both g_one (g_both g_one (g_both (e.1 shape) (g_both g_calls (g_both g_choose g_one))))))
test_grows layer.Bind shape miss n = g_both g_one (g_both g_one (g_both g_one (g_both g_one g_one)))
test_grows layer.Skip shape miss n = g_one

arm_grows : (y : TestArm-F TT EE AA BB) (shape : Shape) (miss : ℕ) → Growing (coded_arm (bare_arm y) shape miss)
arm_grows y shape miss =
    g_both (tests_grow y.pattern shape miss 0) (g_both g_one (g_both g_one (g_both g_one
    (y.value.1 (with_singles (after_all (map test_code (map (λ z. z.0) y.pattern)) 0) shape)))))

-- of a branch: what is made first, second and last
pub three_grow : {yes no : Piece} {first : ℕ → Piece} → Growing yes → Growing no → ((n : ℕ) → Growing (first n)) → (other : ℕ)
    → Growing (λ k s. first (no other (yes k s).0).1 (yes k s).1 (no other (yes k s).0).0)
three_grow {yes} {no} {first} g h i other = record {
  at = λ k s.
      let y = yes k s in
      let n = no other y.0 in
      begins_later _ _ _ (g.at k s) (begins_later _ _ _ (h.at other y.0) ((i n.1).at y.1 n.0));
}

branch_grows : (y : TestBranch-F TT EE AA BB) (shape : Shape) (other : ℕ) → Growing (coded_branch (bare_branch y) shape other)
branch_grows y shape other =
    three_grow {yes = drop 1 ▷ block y.block} {no = eq (Constant 2) ▷ choose (fail_place 5)}
    {first = λ n. dup 1 ▷ expr_code y.condition.0 shape ▷ dup 1 ▷ eq (Constant 3) ▷ choose n} (g_both g_one (block_grows y.block)) (g_both g_one g_choose)
    (λ n. g_both g_one (g_both (y.condition.1 shape) (g_both g_one (g_both g_one g_choose)))) other

-- ---- all nodes

expr_step : (x : TestExpr-F Test TestExpr TestArm TestBranch) (y : TestExpr-F TT EE AA BB) → bare_expr y ≡ x → E (roll-TestExpr x)
expr_step x y is shape =
    subst (λ (z : OfExpr). Growing (z shape)) (sym (folds.fold-roll-TestExpr OfTest OfExpr OfArm OfBranch of_test of_expr of_arm of_branch x))
    (subst (λ z. Growing (coded_expr z shape)) is (expr_grows y shape))

test_step : (x : Test-F Test TestExpr TestArm TestBranch) (y : Test-F TT EE AA BB) → bare_test y ≡ x → T (roll-Test x)
test_step x y is shape miss n =
    subst (λ (z : OfTest). Growing (z.code shape miss n)) (sym (folds.fold-roll-Test OfTest OfExpr OfArm OfBranch of_test of_expr of_arm of_branch x))
    (subst (λ z. Growing ((coded_test z).code shape miss n)) is (test_grows y shape miss n))

arm_step : (x : TestArm-F Test TestExpr TestArm TestBranch) (y : TestArm-F TT EE AA BB) → bare_arm y ≡ x → A (roll-TestArm x)
arm_step x y is shape miss =
    subst (λ (z : OfArm). Growing (z shape miss)) (sym (folds.fold-roll-TestArm OfTest OfExpr OfArm OfBranch of_test of_expr of_arm of_branch x))
    (subst (λ z. Growing (coded_arm z shape miss)) is (arm_grows y shape miss))

branch_step : (x : TestBranch-F Test TestExpr TestArm TestBranch) (y : TestBranch-F TT EE AA BB) → bare_branch y ≡ x → B (roll-TestBranch x)
branch_step x y is shape other =
    subst (λ (z : OfBranch). Growing (z shape other)) (sym (folds.fold-roll-TestBranch OfTest OfExpr OfArm OfBranch of_test of_expr of_arm of_branch x))
    (subst (λ z. Growing (coded_branch z shape other)) is (branch_grows y shape other))

pub grows_expr : (e : TestExpr) (shape : Shape) → Growing (expr_code e shape)
grows_expr = folds.ind-TestExpr T E A B test_step expr_step arm_step branch_step

pub grows_test : (t : Test) (shape : Shape) (miss n : ℕ) → Growing ((test_code t).code shape miss n)
grows_test = folds.ind-Test T E A B test_step expr_step arm_step branch_step

pub grows_tests : (ts : List Test) (shape : Shape) (miss n : ℕ) → Growing (tests (map test_code ts) shape miss n)
grows_tests [] shape miss n = g_nothing
grows_tests (t ∷ ts) shape miss n = g_both (grows_test t shape miss n) (grows_tests ts shape miss ((test_code t).after n))
