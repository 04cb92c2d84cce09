-- What the emitter's state is, and the parts of code that its functions make.
use Rattle.std.specs.Prelude.{ℕ, suc, pos, Bool, if◌then◌else◌, List, [], ◌∷◌, ◌++◌, Option}
use Rattle.std.specs.Borrow.{Bor}
use Rattle.std.specs.HashMap.{HashMap, get_by}
use Rattle.std.specs.Str.{bytes_eq}
use Rattle.hum_core.specs.declared.tested.TestArm.{TestArm, fold-TestArm}
use Rattle.hum_core.specs.declared.tested.TestBranch.{TestBranch, fold-TestBranch}
use Rattle.hum_code.specs.Layout.{Shape}
use Rattle.hum_emit.specs.declared.emitter.Emitter.{Emitter}
use Rattle.hum_emit.specs.declared.instruction.Datum.{Datum}
use Rattle.hum_core.specs.declared.tested.TestUnit.{TestUnit}
use Rattle.hum_emit.specs.declared.instruction.Field.TheVariants.{Number, Constant, Data}
use Rattle.hum_emit.specs.Emitted.{Emitted, Piece, nothing, ◌▷◌, dup, drop, roll, nil, pair_type, with_symbol}
use Rattle.hum_core.specs.declared.tested.TestStmt.{TestStmt}
use Rattle.hum_emit.specs.Templates.{OfTest, OfExpr, OfArm, OfBranch, of_test, of_expr, of_arm, of_branch, restore, statement, shape_after, unit_code}

-- the number that a map has for a name
abbrev pub number_in : {S : Type 0} → HashMap (Bor (List ℕ)) ℕ S → List ℕ → Option ℕ
number_in numbers name = get_by (λ key. bytes_eq name key.now) numbers

-- what is emitted so far
unfoldable pub emitted : Emitter → Emitted
emitted e = record { code = e.code.items; cells = e.cells.items; symbols = number_in e.symbols }

-- with further data
abbrev pub with_cells : (more : List Datum) → Emitted → Emitted
with_cells more s = record s { cells = s.cells ++ more }

-- the symbol has that datum
abbrev pub named : (name : List ℕ) → (datum : ℕ) → Emitted → Emitted
named name n s = record s { symbols = with_symbol name n s.symbols }

-- the cell of an item of a list, which is made after that many data
abbrev pub item_cell : (at item : ℕ) → (is_last : Bool) → Datum
item_cell at n is_last = record { kind = pair_type; first = Number (pos n); second = if is_last then Constant nil else Data (suc at) }

-- ---- parts of the code, from the back

abbrev pub front_items : List OfExpr → OfExpr
front_items [] shape = nothing
front_items (e ∷ more) shape = dup 1 ▷ e shape ▷ roll (pos 2) ▷ front_items more shape

-- arms between the first one and those whose code was made before: from what was emitted then, and its number, to the same
abbrev pub middle_arms : List OfArm → Shape → (k : ℕ) → Emitted × ℕ → Emitted × ℕ
middle_arms [] shape k next = next
middle_arms (a ∷ more) shape k next =
    let later = middle_arms more shape k next in (drop 2 ▷ restore ▷ a shape later.1) k later.0

abbrev pub arm_code : TestArm → OfArm
arm_code = fold-TestArm OfTest OfExpr OfArm OfBranch of_test of_expr of_arm of_branch

abbrev pub branch_code : TestBranch → OfBranch
branch_code = fold-TestBranch OfTest OfExpr OfArm OfBranch of_test of_expr of_arm of_branch

-- branches in front of those whose code was made before: from what was emitted then, and its number, to the same
abbrev pub other_branches : List OfBranch → Shape → (k : ℕ) → Emitted × ℕ → Emitted × ℕ
other_branches [] shape k next = next
other_branches (b ∷ more) shape k next = let later = other_branches more shape k next in b shape later.1 k later.0

-- the entries behind statements
abbrev pub through : List TestStmt → Shape → Shape
through [] shape = shape
through (s ∷ more) shape = through more (shape_after s shape)

-- statements in front of others
abbrev pub front_statements : List TestStmt → Shape → Piece
front_statements [] shape = nothing
front_statements (s ∷ more) shape = statement s shape ▷ front_statements more (shape_after s shape)

-- units in front of those whose code was made before, and the numbers of their first instructions
abbrev pub front_units : List TestUnit → List Shape → Emitted × List ℕ → Emitted × List ℕ
front_units [] shapes p = p
front_units (u ∷ us) [] p = p
front_units (u ∷ us) (shape ∷ shapes) p =
    let later = front_units us shapes p in
    let made = unit_code u shape 0 later.0 in
    (made.0, made.1 ∷ later.1)
