-- The shape of each unit's place, by one walk through a program; and what is so of the shapes of a program that comes from a text.
use Rattle.std.specs.Prelude.{◌≡◌, ℕ, zero, suc, ◌^◌, ◌≤◌, ◌<◌, nat_lt, true, List, [], ◌∷◌, ◌++◌, map, fold, length, Option, Some, None, slice_get}
use Rattle.std.specs.List.{list_all}
use Rattle.cap_words.specs.Fixnums.{in_range}
use Rattle.cap_words.specs.Text.{is_run}
use Rattle.hum_core.specs.declared.slot.Const.{Const}
use Rattle.hum_core.specs.declared.slot.Const.TheVariants as const
use Rattle.hum_core.specs.declared.tested.TestUnit.{TestUnit}
use Rattle.hum_core.specs.declared.tested.TestUnit.TheVariants as unit
use Rattle.hum_core.specs.declared.tested.TestStmt.{TestStmt}
use Rattle.hum_core.specs.declared.tested.TestStmt.TheVariants as stmt
use Rattle.hum_core.specs.declared.tested.TestExpr.{TestExpr, out-TestExpr, fold-TestExpr}
use Rattle.hum_core.specs.declared.tested.Test.{Test, out-Test, fold-Test}
use Rattle.hum_core.specs.declared.tested.TestArm.{TestArm, out-TestArm, fold-TestArm}
use Rattle.hum_core.specs.declared.tested.TestBranch.{TestBranch, out-TestBranch, fold-TestBranch}
use Rattle.hum_core.specs.declared.tested.Test.TheOpen.{Test-F, TestExpr-F, TestArm-F, TestBranch-F}
use Rattle.hum_core.specs.declared.tested.Test.TheOpen as layer
use Rattle.hum_meaning.specs.Scope.{most_bindings}
use Rattle.hum_core.specs.Numbered.{Of}
use Rattle.hum_core.specs.Lowering.{left_behind}
use Rattle.hum_code.specs.Layout.{Single, Several, Shape, with_singles}
use Rattle.hum_code.specs.Code.{HasSingle, bound_behind, bound_after}

-- ---- the units that stand in a part, each by its shape, in the order of their numbers

-- in a part that stands in a shape
abbrev pub Inside : Type 0
Inside = Shape → List Shape

-- a test; how many bindings there are behind it, of how many before it
pub record OfTest : Type 0 where
  pub after : ℕ → ℕ
  pub inside : Inside

abbrev pub in_all : List Inside → Inside
in_all [] shape = []
in_all (a ∷ more) shape = a shape ++ in_all more shape

abbrev pub after_all : List OfTest → ℕ → ℕ
after_all ts n = fold (λ before (t : OfTest). t.after before) n ts

-- ---- one node, with what is inside the nodes below in their places

abbrev pub of_expr : TestExpr-F OfTest Inside Inside Inside → Inside
of_expr (layer.Abs u) shape = shape ∷ []
of_expr (layer.Block u) shape = shape ∷ []
of_expr (layer.Call f x) shape = f shape ++ x shape
of_expr (layer.Tuple es) shape = in_all es shape
of_expr (layer.New e) shape = e shape
of_expr (layer.Case e arms) shape = e shape ++ in_all arms shape
of_expr (layer.If branches other) shape = in_all branches shape ++ shape ∷ []
of_expr _ shape = []

abbrev pub of_test : Test-F OfTest Inside Inside Inside → OfTest
of_test (layer.Same e) = record { after = λ n. n; inside = e }
of_test layer.Bind = record { after = suc; inside = λ shape. [] }
of_test _ = record { after = λ n. n; inside = λ shape. [] }

abbrev pub of_arm : TestArm-F OfTest Inside Inside Inside → Inside
of_arm arm shape = in_all (map (λ t. t.inside) arm.pattern) shape ++ arm.value (with_singles (after_all arm.pattern 0) shape)

abbrev pub of_branch : TestBranch-F OfTest Inside Inside Inside → Inside
of_branch branch shape = branch.condition shape ++ shape ∷ []

-- ---- whole parts

abbrev pub in_expr : TestExpr → Inside
in_expr = fold-TestExpr OfTest Inside Inside Inside of_test of_expr of_arm of_branch

abbrev pub of_one_test : Test → OfTest
of_one_test = fold-Test OfTest Inside Inside Inside of_test of_expr of_arm of_branch

abbrev pub in_tests : List Test → Inside
in_tests ts = in_all (map (λ t. t.inside) (map of_one_test ts))

abbrev pub in_arm : TestArm → Inside
in_arm = fold-TestArm OfTest Inside Inside Inside of_test of_expr of_arm of_branch

abbrev pub in_branch : TestBranch → Inside
in_branch = fold-TestBranch OfTest Inside Inside Inside of_test of_expr of_arm of_branch

-- the functions of a group stand behind its entry, and all but the first where the statements of the others are
abbrev pub in_statement : TestStmt → Inside
in_statement (stmt.Let ts e) shape = in_tests ts shape ++ in_expr e shape
in_statement (stmt.Group numbers) shape = (Several (map Of numbers) ∷ shape) ∷ []
in_statement stmt.Defined shape = shape ∷ []
in_statement (stmt.Send e target) shape = in_expr e shape ++ in_expr target shape
in_statement (stmt.Create e) shape = in_expr e shape
in_statement (stmt.Become e) shape = in_expr e shape
in_statement (stmt.Throw e) shape = in_expr e shape
in_statement (stmt.Do e) shape = in_expr e shape

-- the entries behind a statement
abbrev pub behind_statement : TestStmt → Shape → Shape
behind_statement (stmt.Let ts e) shape = with_singles (bound_after ts 0) shape
behind_statement (stmt.Group numbers) shape = Several (map Of numbers) ∷ shape
behind_statement (stmt.Create e) shape = Single ∷ shape
behind_statement _ shape = shape

abbrev pub in_statements : List TestStmt → Inside
in_statements [] shape = []
in_statements (s ∷ more) shape = in_statement s shape ++ in_statements more (behind_statement s shape)

abbrev pub in_unit : TestUnit → Inside
in_unit (unit.Abs ts e) shape = in_tests ts shape ++ in_expr e (with_singles (bound_after ts 0) shape)
in_unit (unit.Block ss) shape = in_statements ss shape

-- ---- all units

abbrev pub first_shape : List Shape → Shape
first_shape [] = []
first_shape (shape ∷ more) = shape

abbrev pub other_shapes : List Shape → List Shape
other_shapes [] = []
other_shapes (shape ∷ more) = more

-- In the order of numbers the units in a unit stand right behind it, and so do those in each of them. `found` has the shapes of those that
-- were found and are still to come, in this order.
abbrev pub shapes_from : (found : List Shape) → List TestUnit → List Shape
shapes_from found [] = []
shapes_from found (u ∷ us) = first_shape found ∷ shapes_from (in_unit u (first_shape found) ++ other_shapes found) us

-- unit 0 stands behind the built-in functions and the devices
abbrev pub outermost_shape : Shape
outermost_shape = with_singles 14 []

abbrev pub shapes_of : List TestUnit → List Shape
shapes_of units = shapes_from (outermost_shape ∷ []) units

-- ---- what is so of the shapes of a program that comes from a text

-- what fits in a shape: an expression; tests of that many values where there are n bindings
pub record Fits : Type 1 where
  pub ExprFits : Shape → TestExpr → Type 0
  pub TestsFit : Shape → List Test → (values n : ℕ) → Type 0

-- the numbers of a text are fixnums
abbrev pub TextFits : List ℕ → Type 0
TextFits points = list_all (λ c. nat_lt c (2 ^ 30)) points ≡ true

-- so is a number; a name is a run
abbrev pub ConstFits : Const → Type 0
ConstFits (const.Num z) = in_range z ≡ true
ConstFits (const.Sym name) = is_run name ≡ true
ConstFits _ = Unit {0}

module _ (units : List TestUnit) (shapes : List Shape) where
  -- the unit of that number is a function, and its place has the shape
  pub record FunctionIn (shape : Shape) (u : ℕ) : Type 0 where
    pub tests : List Test
    pub value : TestExpr
    pub is : slice_get units u ≡ Some (unit.Abs tests value)
    pub stands : slice_get shapes u ≡ Some shape

  -- the unit of that number is a block, and its place has the shape
  pub record BlockIn (shape : Shape) (u : ℕ) : Type 0 where
    pub statements : List TestStmt
    pub is : slice_get units u ≡ Some (unit.Block statements)
    pub stands : slice_get shapes u ≡ Some shape

  -- the entry after that many is a group, and its member is a function whose place has the entries from the group on
  abbrev pub MemberIn : Shape → (back member : ℕ) → Type 0
  MemberIn [] back member = ⊥
  MemberIn (Single ∷ shape) zero member = ⊥
  MemberIn (Several codes ∷ shape) zero member = (u : ℕ) × (slice_get codes member ≡ Some (Of u)) × FunctionIn (Several codes ∷ shape) u
  MemberIn (entry ∷ shape) (suc back) member = MemberIn shape back member

  -- a use of a name
  abbrev pub SlotFits : Shape → (back : ℕ) → (member : Option ℕ) → Type 0
  SlotFits shape back None = HasSingle shape back
  SlotFits shape back (Some member) = MemberIn shape back member

  module _ (below : Fits) (shape : Shape) where
    -- ---- tests

    abbrev pub TestFits : Test-F Test TestExpr TestArm TestBranch → (n : ℕ) → Type 0
    TestFits (layer.Test::Is c) n = ConstFits c
    TestFits (layer.Same e) n = below.ExprFits shape e × (n ≤ most_bindings)
    TestFits _ n = Unit {0}

    -- each has a value to take
    abbrev pub EachTestFits : List Test → (values n : ℕ) → Type 0
    EachTestFits [] values n = Unit {0}
    EachTestFits (t ∷ ts) zero n = ⊥
    EachTestFits (t ∷ ts) (suc values) n =
        TestFits (out-Test t) n × EachTestFits ts (left_behind (out-Test t) values) (bound_behind (out-Test t) n)

    -- ---- expressions

    abbrev pub EachFits : List TestExpr → Type 0
    EachFits [] = Unit {0}
    EachFits (e ∷ es) = below.ExprFits shape e × EachFits es

    abbrev pub ArmsFit : List TestArm → Type 0
    ArmsFit [] = Unit {0}
    ArmsFit (a ∷ more) =
        below.TestsFit shape (out-TestArm a).pattern 1 0
        × below.ExprFits (with_singles (bound_after (out-TestArm a).pattern 0) shape) (out-TestArm a).value
        × ArmsFit more

    abbrev pub BranchesFit : List TestBranch → Type 0
    BranchesFit [] = Unit {0}
    BranchesFit (b ∷ more) = below.ExprFits shape (out-TestBranch b).condition × BlockIn shape (out-TestBranch b).block × BranchesFit more

    -- a tuple has two items at least, and a `Case` an arm
    abbrev pub NodeFits : TestExpr-F Test TestExpr TestArm TestBranch → Type 0
    NodeFits (layer.TestExpr::Is c) = ConstFits c
    NodeFits (layer.Text points) = TextFits points
    NodeFits (layer.Var slot) = SlotFits shape slot.back slot.member × (slot.back < most_bindings)
    NodeFits layer.Myself = Unit {0}
    NodeFits (layer.Abs u) = FunctionIn shape u
    NodeFits (layer.Block u) = BlockIn shape u
    NodeFits (layer.Call f x) = below.ExprFits shape f × below.ExprFits shape x
    NodeFits (layer.Tuple es) = (2 ≤ length es) × EachFits es
    NodeFits (layer.New e) = below.ExprFits shape e
    NodeFits (layer.Case e arms) = below.ExprFits shape e × (1 ≤ length arms) × ArmsFit arms
    NodeFits (layer.If branches other) = BranchesFit branches × BlockIn shape other

  -- ---- statements and units

  module _ (below : Fits) where
    abbrev pub StatementFits : TestStmt → Shape → Type 0
    StatementFits (stmt.Let ts e) shape = below.TestsFit shape ts 1 0 × below.ExprFits shape e
    StatementFits (stmt.Group numbers) shape = Unit {0}
    StatementFits stmt.Defined shape = Unit {0}
    StatementFits (stmt.Send e target) shape = below.ExprFits shape e × below.ExprFits shape target
    StatementFits (stmt.Create e) shape = below.ExprFits shape e
    StatementFits (stmt.Become e) shape = below.ExprFits shape e
    StatementFits (stmt.Throw e) shape = below.ExprFits shape e
    StatementFits (stmt.Do e) shape = below.ExprFits shape e

    abbrev pub StatementsFit : List TestStmt → Shape → Type 0
    StatementsFit [] shape = Unit {0}
    StatementsFit (s ∷ more) shape = StatementFits s shape × StatementsFit more (behind_statement s shape)

    abbrev pub UnitFits : TestUnit → Shape → Type 0
    UnitFits (unit.Abs ts e) shape = below.TestsFit shape ts 1 0 × below.ExprFits (with_singles (bound_after ts 0) shape) e
    UnitFits (unit.Block ss) shape = StatementsFit ss shape

  -- to depth n
  abbrev pub fits_to : ℕ → Fits
  fits_to zero = record { ExprFits = λ shape e. Unit {0}; TestsFit = λ shape ts values n. Unit {0} }
  fits_to (suc n) = record {
    ExprFits = λ shape e. NodeFits (fits_to n) shape (out-TestExpr e);
    TestsFit = EachTestFits (fits_to n);
  }

  -- Each unit fits in its shape, to every depth: the units in it have the shapes of their places and are of the kind that is meant, each use of
  -- a name finds an entry, numbers are fixnums, and there are at most as many bindings as may be. Unit 0 is a block.
  pub record ShapesFit : Type 0 where
    pub each : (n k : ℕ) (u : TestUnit) (shape : Shape) → slice_get units k ≡ Some u → slice_get shapes k ≡ Some shape → UnitFits (fits_to n) u shape
    pub count : length shapes ≡ length units
    pub first : BlockIn outermost_shape 0
