-- How many items the code of expressions and tests has.
use Rattle.std.proofs.Common.{◌≡◌, sym, subst, ℕ, zero, suc, ◌+◌, ◌*◌, ◌-◌, pos, negsuc, List, [], ◌∷◌, map, length, Option, Some, None, arith}
use Rattle.std.specs.Prelude.{sum}
use Rattle.hum_syntax.proofs.SizedTrees.{sum-cons}
use Rattle.hum_core.specs.declared.tested.TestExpr.{TestExpr}
use Rattle.hum_core.specs.declared.tested.Test.{Test}
use Rattle.hum_core.specs.declared.tested.TestArm.{TestArm}
use Rattle.hum_core.specs.declared.tested.TestBranch.{TestBranch}
use Rattle.hum_core.specs.declared.tested.Test.TheOpen.{Test-F, TestExpr-F, TestArm-F, TestBranch-F}
use Rattle.hum_core.specs.declared.tested.Test.TheOpen as layer
use Rattle.hum_core.specs.declared.tested.Test.TheFolds as folds
use Rattle.hum_core.specs.declared.tested.Test.TheViews.{roll-Test, roll-TestExpr, roll-TestArm, roll-TestBranch}
use Rattle.hum_core.specs.Sizes.{const_size, expr_size, test_size, arm_size, branch_size, size_of_expr, size_of_test, size_of_tests, size_of_arm, size_of_branch}
use Rattle.hum_core.proofs.SizedNodes.{some_const}
use Rattle.hum_code.specs.Layout.{Shape, with_singles}
use Rattle.hum_emit.specs.declared.instruction.Field.TheVariants.{Constant}
use Rattle.hum_emit.specs.Emitted.{Piece, ◌▷◌, push, dup, drop, pair, nth, eq, choose, text, constant}
use Rattle.hum_emit.specs.Runtime.{fail_place}
use Rattle.hum_emit.specs.Templates.{OfExpr, OfTest, OfArm, OfBranch, function, block, variable, items, pairs, branches, tests, restore, later_arms, arms, of_expr, of_test, of_arm, of_branch, expr_code, test_code, after_all, member_unit}
use Rattle.hum_emit.specs.Emitting.{arm_code, branch_code}
use Rattle.hum_emit.proofs.Growths.{coded_expr, coded_test, coded_arm, coded_branch}
use Rattle.hum_emit.proofs.Size.{Adds, a_one, a_choose, a_calls, a_nothing, a_both, a_miss, a_fits, a_field, text_makes, constant_makes}

function_adds : (u : ℕ) → Adds 0 3 (function u)
function_adds u = a_both a_one (a_both a_one a_one)

block_adds : (u : ℕ) → Adds 0 3 (block u)
block_adds u = a_both a_one (a_both a_one a_one)

variable_adds : (back : ℕ) (member : Option ℕ) (shape : Shape) → Adds 0 4 (variable back member shape)
variable_adds back None shape = a_fits 0 4 a_one (omega arith)
variable_adds back (Some i) shape = a_both a_one (function_adds (member_unit shape back i))

pairs_adds : (n : ℕ) → Adds 0 (2 * n) (pairs n)
pairs_adds zero = a_nothing
pairs_adds (suc n) = a_fits 0 (2 * suc n) (a_both a_one (a_both a_one (pairs_adds n))) (omega arith)

restore_adds : Adds 0 4 restore
restore_adds = a_both a_one (a_both a_one (a_both a_one a_one))

-- what a part costs within another one is left over: four items for an expression, which a tuple adds, and eight for an arm

abbrev T : Test → Type 0
T t = (shape : Shape) (miss n : ℕ) → Adds 0 (16 * size_of_test t) ((test_code t).code shape miss n)

abbrev E : TestExpr → Type 0
E e = (shape : Shape) → Adds 4 (16 * size_of_expr e) (expr_code e shape)

abbrev A : TestArm → Type 0
A a = (shape : Shape) (miss : ℕ) → Adds 8 (16 * size_of_arm a) (arm_code a shape miss)

abbrev B : TestBranch → Type 0
B b = (shape : Shape) (other : ℕ) → Adds 0 (16 * size_of_branch b) (branch_code b shape other)

abbrev TT : Type 0
TT = (x : Test) × T x

abbrev EE : Type 0
EE = (x : TestExpr) × E x

abbrev AA : Type 0
AA = (x : TestArm) × A x

abbrev BB : Type 0
BB = (x : TestBranch) × B x

abbrev bare : {X : Type 0} {Q : X → Type 0} → List ((x : X) × Q x) → List X
bare xs = map (λ z. z.0) xs

-- ---- lists of parts

-- two items for each are left over, for the pairs
items_add : (es : List EE) (shape : Shape)
    → Adds (2 * length (map expr_code (bare es))) (16 * sum (map size_of_expr (bare es))) (items (map expr_code (bare es)) shape)
items_add [] shape = a_nothing
items_add (e ∷ []) shape = let all = sum-cons size_of_expr e.0 [] in a_fits 2 _ (e.1 shape) (omega (arith, all))
items_add (e ∷ f ∷ more) shape =
    let all = sum-cons size_of_expr e.0 (bare (f ∷ more)) in
    a_fits _ _ (a_both a_one (a_both (e.1 shape) (a_both a_one (items_add (f ∷ more) shape)))) (omega (arith, all))

tests_add : (ts : List TT) (shape : Shape) (miss n : ℕ)
    → Adds 0 (16 * size_of_tests (bare ts)) (tests (map test_code (bare ts)) shape miss n)
tests_add [] shape miss n = a_nothing
tests_add (t ∷ ts) shape miss n =
    let all = sum-cons size_of_test t.0 (bare ts) in
    a_fits 0 _ (a_both (t.1 shape miss n) (tests_add ts shape miss ((test_code t.0).after n))) (omega (arith, all))

later_add : (as' : List AA) (shape : Shape) → Adds 0 (16 * sum (map size_of_arm (bare as'))) (later_arms (map arm_code (bare as')) shape)
later_add [] shape = a_nothing
later_add (a ∷ []) shape =
    let all = sum-cons size_of_arm a.0 [] in a_fits 0 _ (a_both a_one (a_both a_one (a.1 shape (fail_place 1)))) (omega (arith, all))
later_add (a ∷ b ∷ more) shape =
    let all = sum-cons size_of_arm a.0 (bare (b ∷ more)) in
    a_fits 0 _ (a_miss {q = later_arms (map arm_code (bare (b ∷ more))) shape} {r = λ miss. drop 2 ▷ restore ▷ arm_code a.0 shape miss}
    (later_add (b ∷ more) shape) (λ miss. a_both a_one (a_both restore_adds (a.1 shape miss)))) (omega (arith, all))

arms_add : (as' : List AA) (shape : Shape) → Adds 0 (16 * sum (map size_of_arm (bare as'))) (arms (map arm_code (bare as')) shape)
arms_add [] shape = a_nothing
arms_add (a ∷ []) shape = let all = sum-cons size_of_arm a.0 [] in a_fits 0 _ (a.1 shape (fail_place 1)) (omega (arith, all))
arms_add (a ∷ b ∷ more) shape =
    let all = sum-cons size_of_arm a.0 (bare (b ∷ more)) in
    a_fits 0 _ (a_miss {q = later_arms (map arm_code (bare (b ∷ more))) shape} {r = λ miss. pair 2 ▷ restore ▷ arm_code a.0 shape miss}
    (later_add (b ∷ more) shape) (λ miss. a_both a_one (a_both restore_adds (a.1 shape miss)))) (omega (arith, all))

branches_add : (bs : List BB) (other : ℕ) (shape : Shape)
    → Adds 0 (3 + 16 * sum (map size_of_branch (bare bs))) (branches (map branch_code (bare bs)) other shape)
branches_add [] other shape = block_adds other
branches_add (b ∷ more) other shape =
    let all = sum-cons size_of_branch b.0 (bare more) in
    a_fits 0 _ (a_miss {q = branches (map branch_code (bare more)) other shape} {r = λ miss. branch_code b.0 shape miss}
    (branches_add more other shape) (λ miss. b.1 shape miss)) (omega (arith, all))

-- ---- one node

abbrev bare_expr : TestExpr-F TT EE AA BB → TestExpr-F Test TestExpr TestArm TestBranch
bare_expr = folds.map-TestExpr TT EE AA BB Test TestExpr TestArm TestBranch (λ z. z.0) (λ z. z.0) (λ z. z.0) (λ z. z.0)

abbrev bare_test : Test-F TT EE AA BB → Test-F Test TestExpr TestArm TestBranch
bare_test = folds.map-Test TT EE AA BB Test TestExpr TestArm TestBranch (λ z. z.0) (λ z. z.0) (λ z. z.0) (λ z. z.0)

abbrev bare_arm : TestArm-F TT EE AA BB → TestArm-F Test TestExpr TestArm TestBranch
bare_arm = folds.map-TestArm TT EE AA BB Test TestExpr TestArm TestBranch (λ z. z.0) (λ z. z.0) (λ z. z.0) (λ z. z.0)

abbrev bare_branch : TestBranch-F TT EE AA BB → TestBranch-F Test TestExpr TestArm TestBranch
bare_branch = folds.map-TestBranch TT EE AA BB Test TestExpr TestArm TestBranch (λ z. z.0) (λ z. z.0) (λ z. z.0) (λ z. z.0)

-- a node's size
abbrev sized_expr : TestExpr-F Test TestExpr TestArm TestBranch → ℕ
sized_expr x = expr_size (folds.map-TestExpr Test TestExpr TestArm TestBranch ℕ ℕ ℕ ℕ size_of_test size_of_expr size_of_arm size_of_branch x)

abbrev sized_test : Test-F Test TestExpr TestArm TestBranch → ℕ
sized_test x = test_size (folds.map-Test Test TestExpr TestArm TestBranch ℕ ℕ ℕ ℕ size_of_test size_of_expr size_of_arm size_of_branch x)

abbrev sized_arm : TestArm-F Test TestExpr TestArm TestBranch → ℕ
sized_arm x = arm_size (folds.map-TestArm Test TestExpr TestArm TestBranch ℕ ℕ ℕ ℕ size_of_test size_of_expr size_of_arm size_of_branch x)

abbrev sized_branch : TestBranch-F Test TestExpr TestArm TestBranch → ℕ
sized_branch x = branch_size (folds.map-TestBranch Test TestExpr TestArm TestBranch ℕ ℕ ℕ ℕ size_of_test size_of_expr size_of_arm size_of_branch x)

expr_adds : (y : TestExpr-F TT EE AA BB) (shape : Shape) → Adds 4 (16 * sized_expr (bare_expr y)) (coded_expr (bare_expr y) shape)
expr_adds (layer.TestExpr::Is x) shape =
    let some = some_const x in
    a_fits 4 _ (a_field (const_size x) {field = constant x} {q = λ word. drop 1 ▷ push word} (constant_makes x) (λ f. a_both a_one a_one)) (omega (arith, some))
expr_adds (layer.Text points) shape =
    a_fits 4 _ (a_field (length points) {field = text points} {q = λ word. drop 1 ▷ push word} (text_makes points) (λ f. a_both a_one a_one)) (omega arith)
expr_adds (layer.Var slot) shape = a_fits 4 _ (variable_adds slot.back slot.member shape) (omega arith)
expr_adds layer.Myself shape = a_fits 4 _ (a_both a_one a_one) (omega arith)
expr_adds (layer.Abs u) shape = a_fits 4 _ (function_adds u) (omega arith)
expr_adds (layer.Block u) shape = a_fits 4 _ (block_adds u) (omega arith)
expr_adds (layer.Call f x) shape =
    a_fits 4 _ (a_both a_one (a_both (f.1 shape) (a_both a_one (a_both (x.1 shape) a_calls)))) (omega arith)
expr_adds (layer.Tuple es) shape =
    a_fits 4 _ (a_both (items_add es shape) (pairs_adds (length (map expr_code (bare es)) - 1))) (omega arith)
expr_adds (layer.New e) shape = a_fits 4 _ (a_both a_one (a_both (e.1 shape) (a_both a_one a_one))) (omega arith)
expr_adds (layer.Case e as') shape =
    a_fits 4 _ (a_both a_one (a_both a_one (a_both a_one (a_both (e.1 shape) (a_both a_one (a_both a_one (a_both a_one (arms_add as' shape))))))))
    (omega arith)
expr_adds (layer.If bs other) shape = a_fits 4 _ (branches_add bs other shape) (omega arith)

test_adds : (y : Test-F TT EE AA BB) (shape : Shape) (miss n : ℕ)
    → Adds 0 (16 * sized_test (bare_test y)) ((coded_test (bare_test y)).code shape miss n)
test_adds layer.Pair shape miss n =
    a_fits 0 _ (a_both a_one (a_both a_one (a_both a_one (a_both a_choose (a_both a_one (a_both a_one a_one)))))) (omega arith)
test_adds (layer.Test::Is x) shape miss n =
    let some = some_const x in
    a_fits 0 _ (a_field (const_size x) {field = constant x} {q = λ word. dup 1 ▷ nth (pos 1) ▷ eq word ▷ choose miss ▷ nth (negsuc 0)} (constant_makes x)
    (λ f. a_both a_one (a_both a_one (a_both a_one (a_both a_choose a_one))))) (omega (arith, some))
test_adds (layer.Same e) shape miss n =
    a_fits 0 _ (a_both a_one (a_both a_one (a_both a_one (a_both a_one (a_both (e.1 shape) (a_both a_calls (a_both a_choose a_one))))))) (omega arith)
test_adds layer.Bind shape miss n = a_fits 0 _ (a_both a_one (a_both a_one (a_both a_one (a_both a_one a_one)))) (omega arith)
test_adds layer.Skip shape miss n = a_fits 0 _ a_one (omega arith)

arm_adds : (y : TestArm-F TT EE AA BB) (shape : Shape) (miss : ℕ) → Adds 8 (16 * sized_arm (bare_arm y)) (coded_arm (bare_arm y) shape miss)
arm_adds y shape miss =
    a_fits 8 _ (a_both (tests_add y.pattern shape miss 0) (a_both a_one (a_both a_one (a_both a_one
    (y.value.1 (with_singles (after_all (map test_code (bare y.pattern)) 0) shape)))))) (omega arith)

-- of a branch: what is made first, second and last
three_add : {a b c l m n : ℕ} {yes no : Piece} {first : ℕ → Piece} → Adds a l yes → Adds b m no → ((i : ℕ) → Adds c n (first i)) → (other : ℕ)
    → Adds (a + b + c) (l + m + n) (λ k s. first (no other (yes k s).0).1 (yes k s).1 (no other (yes k s).0).0)
three_add {yes = y} {no = n} {first = first} f g h other = record {
  at = λ k s.
      let one = f.at k s in
      let two = g.at other (y k s).0 in
      let three = (h (n other (y k s).0).1).at (y k s).1 (n other (y k s).0).0 in
      omega (arith, one, two, three);
}

branch_adds : (y : TestBranch-F TT EE AA BB) (shape : Shape) (other : ℕ)
    → Adds 0 (16 * sized_branch (bare_branch y)) (coded_branch (bare_branch y) shape other)
branch_adds y shape other =
    a_fits 0 _ (three_add {yes = drop 1 ▷ block y.block} {no = eq (Constant 2) ▷ choose (fail_place 5)}
    {first = λ n. dup 1 ▷ expr_code y.condition.0 shape ▷ dup 1 ▷ eq (Constant 3) ▷ choose n} (a_both a_one (block_adds y.block)) (a_both a_one a_choose)
    (λ n. a_both a_one (a_both (y.condition.1 shape) (a_both a_one (a_both a_one a_choose)))) other) (omega arith)

-- ---- all nodes

expr_step : (x : TestExpr-F Test TestExpr TestArm TestBranch) (y : TestExpr-F TT EE AA BB) → bare_expr y ≡ x → E (roll-TestExpr x)
expr_step x y is shape =
    subst (λ n. Adds 4 (16 * n) (expr_code (roll-TestExpr x) shape)) (sym (folds.fold-roll-TestExpr ℕ ℕ ℕ ℕ test_size expr_size arm_size branch_size x))
    (subst (λ (z : OfExpr). Adds 4 (16 * sized_expr x) (z shape)) (sym (folds.fold-roll-TestExpr OfTest OfExpr OfArm OfBranch of_test of_expr of_arm of_branch x))
    (subst (λ z. Adds 4 (16 * sized_expr z) (coded_expr z shape)) is (expr_adds y shape)))

test_step : (x : Test-F Test TestExpr TestArm TestBranch) (y : Test-F TT EE AA BB) → bare_test y ≡ x → T (roll-Test x)
test_step x y is shape miss n =
    subst (λ m. Adds 0 (16 * m) ((test_code (roll-Test x)).code shape miss n)) (sym (folds.fold-roll-Test ℕ ℕ ℕ ℕ test_size expr_size arm_size branch_size x))
    (subst (λ (z : OfTest). Adds 0 (16 * sized_test x) (z.code shape miss n)) (sym (folds.fold-roll-Test OfTest OfExpr OfArm OfBranch of_test of_expr of_arm of_branch x))
    (subst (λ z. Adds 0 (16 * sized_test z) ((coded_test z).code shape miss n)) is (test_adds y shape miss n)))

arm_step : (x : TestArm-F Test TestExpr TestArm TestBranch) (y : TestArm-F TT EE AA BB) → bare_arm y ≡ x → A (roll-TestArm x)
arm_step x y is shape miss =
    subst (λ n. Adds 8 (16 * n) (arm_code (roll-TestArm x) shape miss)) (sym (folds.fold-roll-TestArm ℕ ℕ ℕ ℕ test_size expr_size arm_size branch_size x))
    (subst (λ (z : OfArm). Adds 8 (16 * sized_arm x) (z shape miss)) (sym (folds.fold-roll-TestArm OfTest OfExpr OfArm OfBranch of_test of_expr of_arm of_branch x))
    (subst (λ z. Adds 8 (16 * sized_arm z) (coded_arm z shape miss)) is (arm_adds y shape miss)))

branch_step : (x : TestBranch-F Test TestExpr TestArm TestBranch) (y : TestBranch-F TT EE AA BB) → bare_branch y ≡ x → B (roll-TestBranch x)
branch_step x y is shape other =
    subst (λ n. Adds 0 (16 * n) (branch_code (roll-TestBranch x) shape other)) (sym (folds.fold-roll-TestBranch ℕ ℕ ℕ ℕ test_size expr_size arm_size branch_size x))
    (subst (λ (z : OfBranch). Adds 0 (16 * sized_branch x) (z shape other)) (sym (folds.fold-roll-TestBranch OfTest OfExpr OfArm OfBranch of_test of_expr of_arm of_branch x))
    (subst (λ z. Adds 0 (16 * sized_branch z) (coded_branch z shape other)) is (branch_adds y shape other)))

pub adds_expr : (e : TestExpr) → E e
adds_expr = folds.ind-TestExpr T E A B test_step expr_step arm_step branch_step

adds_test : (t : Test) → T t
adds_test = folds.ind-Test T E A B test_step expr_step arm_step branch_step

pub adds_tests : (ts : List Test) (shape : Shape) (miss n : ℕ) → Adds 0 (16 * size_of_tests ts) (tests (map test_code ts) shape miss n)
adds_tests [] shape miss n = a_nothing
adds_tests (t ∷ ts) shape miss n =
    let all = sum-cons size_of_test t ts in
    a_fits 0 _ (a_both (adds_test t shape miss n) (adds_tests ts shape miss ((test_code t).after n))) (omega (arith, all))
