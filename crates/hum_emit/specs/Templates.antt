-- The code of each part of a program: the table of the emitter. Where code stands in a shape, the stack has on top a word for an environment
-- with the entries of that shape. In a comment `S` is a stack that is not looked into, with the top on the right.
use Rattle.std.specs.Prelude.{ℕ, suc, ◌-◌, pos, negsuc, List, [], ◌∷◌, map, fold, length, zero, Option, Some, None, slice_get}
use Rattle.hum_core.specs.declared.tested.TestUnit.{TestUnit}
use Rattle.hum_core.specs.declared.tested.TestUnit.TheVariants as unit
use Rattle.hum_core.specs.declared.tested.TestStmt.{TestStmt}
use Rattle.hum_core.specs.declared.tested.TestStmt.TheVariants as stmt
use Rattle.hum_core.specs.declared.tested.TestExpr.{TestExpr, fold-TestExpr}
use Rattle.hum_core.specs.declared.tested.Test.{Test, fold-Test}
use Rattle.hum_core.specs.declared.tested.Test.TheOpen.{Test-F, TestExpr-F, TestArm-F, TestBranch-F}
use Rattle.hum_core.specs.declared.tested.Test.TheOpen as layer
use Rattle.hum_core.specs.Numbered.{Code, Of}
use Rattle.hum_code.specs.Layout.{Single, Several, Shape, with_singles, minus}
use Rattle.hum_emit.specs.declared.instruction.Field.TheVariants.{Constant, Place, Unit, Data}
use Rattle.hum_emit.specs.Emitted.{Emitted, Piece, nothing, ◌▷◌, choose, calls, jump, push, dup, drop, pick, roll, pair, part, nth, quad, typeq, eq, state, myself, send, create, become, debug, nil, pair_type, function_type, block_type, actor_type, text, constant, with_field}
use Rattle.hum_emit.specs.Runtime.{end_place, call_place, exec_place, apply_place, same_place, fail_place}

-- ---- what is made of the kinds of parts

-- an expression: from `S env` to `S value`
abbrev pub OfExpr : Type 0
OfExpr = Shape → Piece

-- A test: from `S env values` to the same with the bindings in front of env and the values that are left; where it fails, to `miss`. There are
-- n bindings so far, and `after` gives how many there are behind it.
pub record OfTest : Type 0 where
  pub after : ℕ → ℕ
  pub code : Shape → (miss n : ℕ) → Piece

-- an arm: from `S kept env values` to `S value`, or to `miss`
abbrev pub OfArm : Type 0
OfArm = Shape → (miss : ℕ) → Piece

-- a branch, and the number of the code of those behind it: from `S env` to `S value`
abbrev pub OfBranch : Type 0
OfBranch = Shape → (other : ℕ) → Piece

-- ---- functions, blocks and names

abbrev pub function : (number : ℕ) → Piece
function u = push (Unit u) ▷ push (Constant function_type) ▷ quad (pos 3)

abbrev pub block : (number : ℕ) → Piece
block u = push (Unit u) ▷ push (Constant block_type) ▷ quad (pos 3)

abbrev pub unit_of : Option Code → ℕ
unit_of (Some (Of u)) = u
unit_of _ = 0

-- the unit of a member of the group that stands behind that many entries
abbrev pub member_unit : Shape → (back member : ℕ) → ℕ
member_unit [] back member = 0
member_unit (Single ∷ shape) zero member = 0
member_unit (Several codes ∷ shape) zero member = unit_of (slice_get codes member)
member_unit (entry ∷ shape) (suc back) member = member_unit shape back member

-- the value of a binding is an item of the environment; a group's function is made anew, with the environment that begins with the group
abbrev pub variable : (back : ℕ) → (member : Option ℕ) → OfExpr
variable back None shape = nth (pos (suc back))
variable back (Some member) shape = nth (minus back) ▷ function (member_unit shape back member)

-- ---- tuples and branches

-- all items from left to right, each above those before it
abbrev pub items : List OfExpr → OfExpr
items [] shape = nothing
items (e ∷ []) shape = e shape
items (e ∷ f ∷ more) shape = dup 1 ▷ e shape ▷ roll (pos 2) ▷ items (f ∷ more) shape

-- pairs of the items, from right to left
abbrev pub pairs : (count : ℕ) → Piece
pairs zero = nothing
pairs (suc n) = roll (pos 2) ▷ pair 1 ▷ pairs n

abbrev pub tuple : List OfExpr → OfExpr
tuple es shape = items es shape ▷ pairs (length es - 1)

-- the block of the first condition that is TRUE, else the last block
abbrev pub branches : List OfBranch → (other : ℕ) → OfExpr
branches [] other shape = block other
branches (b ∷ more) other shape = λ k s. let next = branches more other shape k s in b shape next.1 k next.0

-- ---- patterns and arms

abbrev pub after_all : List OfTest → ℕ → ℕ
after_all ts n = fold (λ before (t : OfTest). t.after before) n ts

abbrev pub tests : List OfTest → Shape → (miss n : ℕ) → Piece
tests [] shape miss n = nothing
tests (t ∷ ts) shape miss n = t.code shape miss n ▷ tests ts shape miss (t.after n)

-- the value on top is matched: from `S env value` to `S env` with the bindings
abbrev pub matching : List OfTest → Shape → Piece
matching ts shape = push (Constant nil) ▷ roll (pos 2) ▷ pair 1 ▷ tests ts shape (fail_place 1) 0 ▷ drop 1

-- from `S kept` to `S kept env values`
abbrev pub restore : Piece
restore = dup 1 ▷ nth (pos 2) ▷ pick 2 ▷ nth (pos 1)

-- the arms behind the first one: from `S kept x y`
abbrev pub later_arms : List OfArm → OfExpr
later_arms [] shape = nothing
later_arms (a ∷ []) shape = drop 2 ▷ part 2 ▷ a shape (fail_place 1)
later_arms (a ∷ b ∷ more) shape = λ k s. let next = later_arms (b ∷ more) shape k s in (drop 2 ▷ restore ▷ a shape next.1) k next.0

-- all arms: from `S #nil env values`
abbrev pub arms : List OfArm → OfExpr
arms [] shape = nothing
arms (a ∷ []) shape = a shape (fail_place 1)
arms (a ∷ b ∷ more) shape = λ k s. let next = later_arms (b ∷ more) shape k s in (pair 2 ▷ restore ▷ a shape next.1) k next.0

-- ---- one node, with what is made of the nodes below in their places

abbrev pub of_expr : TestExpr-F OfTest OfExpr OfArm OfBranch → OfExpr
of_expr (layer.TestExpr::Is c) shape = with_field (constant c) (λ word. drop 1 ▷ push word)
of_expr (layer.Text points) shape = with_field (text points) (λ word. drop 1 ▷ push word)
of_expr (layer.Var slot) shape = variable slot.back slot.member shape
of_expr layer.Myself shape = drop 1 ▷ myself
of_expr (layer.Abs u) shape = function u
of_expr (layer.Block u) shape = block u
of_expr (layer.Call f x) shape = dup 1 ▷ f shape ▷ roll (pos 2) ▷ x shape ▷ calls call_place
of_expr (layer.Tuple es) shape = tuple es shape
of_expr (layer.New e) shape = debug ▷ e shape ▷ push (Place apply_place) ▷ create
of_expr (layer.Case e as') shape =
    push (Constant nil) ▷ roll (pos 2) ▷ dup 1 ▷ e shape ▷ push (Constant nil) ▷ roll (pos 2) ▷ pair 1 ▷ arms as' shape
of_expr (layer.If bs other) shape = branches bs other shape

abbrev pub of_test : Test-F OfTest OfExpr OfArm OfBranch → OfTest
of_test layer.Pair = record {
  after = λ n. n;
  code = λ shape miss n. dup 1 ▷ nth (pos 1) ▷ typeq pair_type ▷ choose miss ▷ part 1 ▷ part 1 ▷ pair 2;
}
of_test (layer.Test::Is c) = record {
  after = λ n. n;
  code = λ shape miss n. with_field (constant c) (λ word. dup 1 ▷ nth (pos 1) ▷ eq word ▷ choose miss ▷ nth (negsuc 0));
}
of_test (layer.Same e) = record {
  after = λ n. n;
  code = λ shape miss n. dup 1 ▷ nth (pos 1) ▷ pick 3 ▷ nth (minus n) ▷ e shape ▷ calls same_place ▷ choose miss ▷ nth (negsuc 0);
}
of_test layer.Bind = record { after = suc; code = λ shape miss n. part 1 ▷ roll (pos 3) ▷ roll (pos 2) ▷ pair 1 ▷ roll (pos 2) }
of_test layer.Skip = record { after = λ n. n; code = λ shape miss n. nth (negsuc 0) }

abbrev pub of_arm : TestArm-F OfTest OfExpr OfArm OfBranch → OfArm
of_arm arm shape miss = tests arm.pattern shape miss 0 ▷ drop 1 ▷ roll (pos 2) ▷ drop 1 ▷ arm.value (with_singles (after_all arm.pattern 0) shape)

abbrev pub of_branch : TestBranch-F OfTest OfExpr OfArm OfBranch → OfBranch
of_branch branch shape other = λ k s.
    let yes = (drop 1 ▷ block branch.block) k s in
    let no = (eq (Constant 2) ▷ choose (fail_place 5)) other yes.0 in
    (dup 1 ▷ branch.condition shape ▷ dup 1 ▷ eq (Constant 3) ▷ choose no.1) yes.1 no.0

-- ---- whole expressions and tests

abbrev pub expr_code : TestExpr → OfExpr
expr_code = fold-TestExpr OfTest OfExpr OfArm OfBranch of_test of_expr of_arm of_branch

abbrev pub test_code : Test → OfTest
test_code = fold-Test OfTest OfExpr OfArm OfBranch of_test of_expr of_arm of_branch

-- ---- statements: from `S return env` to the same behind the statement

abbrev pub statement : TestStmt → Shape → Piece
statement (stmt.Let ts e) shape = dup 1 ▷ expr_code e shape ▷ matching (map test_code ts) shape
statement (stmt.Group numbers) shape = push (Constant 0) ▷ pair 1
statement stmt.Defined shape = debug
statement (stmt.Send e target) shape =
    dup 1 ▷ expr_code e shape ▷ pick 2 ▷ expr_code target shape ▷ dup 1 ▷ typeq actor_type ▷ choose (fail_place 3) ▷ send
statement (stmt.Create e) shape = dup 1 ▷ expr_code e shape ▷ push (Place apply_place) ▷ create ▷ pair 1
statement (stmt.Become e) shape = dup 1 ▷ expr_code e shape ▷ push (Place apply_place) ▷ become
statement (stmt.Throw e) shape = λ k. (dup 1 ▷ expr_code e shape) (fail_place 7)
statement (stmt.Do e) shape = dup 1 ▷ expr_code e shape ▷ calls exec_place

-- the entries behind a statement
abbrev pub shape_after : TestStmt → Shape → Shape
shape_after (stmt.Let ts e) shape = with_singles (after_all (map test_code ts) 0) shape
shape_after (stmt.Group numbers) shape = Several (map Of numbers) ∷ shape
shape_after (stmt.Create e) shape = Single ∷ shape
shape_after _ shape = shape

-- a block goes back at its end, with `S`
abbrev pub statements : List TestStmt → Shape → Piece
statements [] shape = drop 1 ▷ jump
statements (s ∷ more) shape = statement s shape ▷ statements more (shape_after s shape)

-- ---- units

-- a function: from `S return argument env` to `S value` at return
abbrev pub function_code : List Test → TestExpr → Shape → Piece
function_code ts e shape =
    roll (pos 2) ▷ matching (map test_code ts) shape ▷ expr_code e (with_singles (after_all (map test_code ts) 0) shape) ▷ roll (pos 2) ▷ jump

-- a unit: a function, or a block, from `S return env` to `S` at return
abbrev pub unit_code : TestUnit → Shape → Piece
unit_code (unit.Abs ts e) shape = function_code ts e shape
unit_code (unit.Block ss) shape = statements ss shape

-- the units from the last to the first, each in its shape, and the numbers of their first instructions
abbrev pub units_code : List TestUnit → List Shape → Emitted → Emitted × List ℕ
units_code [] shapes s = (s, [])
units_code (u ∷ us) [] s = (s, [])
units_code (u ∷ us) (shape ∷ shapes) s =
    let later = units_code us shapes s in
    let made = unit_code u shape 0 later.0 in
    (made.0, made.1 ∷ later.1)

-- ---- the first actor's code: the outermost environment is put on the stack, and unit 0 runs in it

-- the cells of the built-in functions, which are the first data
abbrev pub push_data : (from count : ℕ) → Piece
push_data from zero = nothing
push_data from (suc n) = push (Data from) ▷ push_data (suc from) n

abbrev pub boot_code : Piece
boot_code = push (Place end_place) ▷ push (Constant nil) ▷ push_data 0 12 ▷ state 1 ▷ state 2 ▷ pair 14
