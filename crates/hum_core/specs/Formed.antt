-- What every numbered tree keeps.
use Rattle.std.specs.Prelude.{ℕ, Bool, true, false, ◌&&◌, nat_le, List, length, map, slice_get, Some, None}
use Rattle.std.specs.List.{list_all}
use Rattle.hum_core.specs.declared.resolved.CoreUnit.{CoreUnit}
use Rattle.hum_core.specs.declared.resolved.CoreUnit.TheVariants as unit
use Rattle.hum_core.specs.declared.resolved.CoreStmt.{CoreStmt}
use Rattle.hum_core.specs.declared.resolved.CoreStmt.TheVariants as stmt
use Rattle.hum_core.specs.declared.resolved.CoreExpr.{CoreExpr, fold-CoreExpr}
use Rattle.hum_core.specs.declared.resolved.CorePat.{CorePat, fold-CorePat}
use Rattle.hum_core.specs.declared.resolved.CoreArm.{CoreArm, fold-CoreArm}
use Rattle.hum_core.specs.declared.resolved.CoreBranch.{CoreBranch, fold-CoreBranch}
use Rattle.hum_core.specs.declared.resolved.CoreExpr.TheOpen.{CoreExpr-F, CorePat-F, CoreArm-F, CoreBranch-F}
use Rattle.hum_core.specs.declared.resolved.CoreExpr.TheOpen as layer

-- a unit is an abstraction, or it is a block
abbrev pub is_abstraction : CoreUnit → Bool
is_abstraction (unit.Abs p e) = true
is_abstraction (unit.Block ss) = false

abbrev pub all : List Bool → Bool
all = list_all (λ formed. formed)

-- over the kinds of the units
module _ (kinds : List Bool) where
  -- a number names an abstraction, or a block
  abbrev pub names_abs : ℕ → Bool
  names_abs k = elim (slice_get kinds k) [ Some kind ↦ kind | None ↦ false ]

  abbrev pub names_block : ℕ → Bool
  names_block k = elim (slice_get kinds k) [ Some true ↦ false | Some false ↦ true | None ↦ false ]

  -- ---- one node, with what was found of the nodes below in their places

  -- a tuple has two items at least, a `Case` an arm and an `If` a branch
  abbrev pub expr_formed : CoreExpr-F Bool Bool Bool Bool → Bool
  expr_formed (layer.Abs k) = names_abs k
  expr_formed (layer.Block k) = names_block k
  expr_formed (layer.Call callee argument) = callee && argument
  expr_formed (layer.CoreExpr::Tuple items) = nat_le 2 (length items) && all items
  expr_formed (layer.New behaviour) = behaviour
  expr_formed (layer.Case subject arms) = nat_le 1 (length arms) && subject && all arms
  expr_formed (layer.If branches k) = nat_le 1 (length branches) && all branches && names_block k
  expr_formed _ = true

  abbrev pub pat_formed : CorePat-F Bool Bool Bool Bool → Bool
  pat_formed (layer.Value value) = value
  pat_formed (layer.CorePat::Tuple items) = nat_le 2 (length items) && all items
  pat_formed _ = true

  abbrev pub arm_formed : CoreArm-F Bool Bool Bool Bool → Bool
  arm_formed arm = arm.pattern && arm.value

  abbrev pub branch_formed : CoreBranch-F Bool Bool Bool Bool → Bool
  branch_formed branch = branch.condition && names_block branch.block

  -- ---- whole trees

  abbrev pub is_formed_expr : CoreExpr → Bool
  is_formed_expr = fold-CoreExpr Bool Bool Bool Bool expr_formed pat_formed arm_formed branch_formed

  abbrev pub is_formed_pat : CorePat → Bool
  is_formed_pat = fold-CorePat Bool Bool Bool Bool expr_formed pat_formed arm_formed branch_formed

  abbrev pub is_formed_arm : CoreArm → Bool
  is_formed_arm = fold-CoreArm Bool Bool Bool Bool expr_formed pat_formed arm_formed branch_formed

  abbrev pub is_formed_branch : CoreBranch → Bool
  is_formed_branch = fold-CoreBranch Bool Bool Bool Bool expr_formed pat_formed arm_formed branch_formed

  abbrev pub is_formed_stmt : CoreStmt → Bool
  is_formed_stmt (stmt.Let p e) = is_formed_pat p && is_formed_expr e
  is_formed_stmt (stmt.Group ks) = nat_le 1 (length ks) && list_all names_abs ks
  is_formed_stmt stmt.Defined = true
  is_formed_stmt (stmt.Send e a) = is_formed_expr e && is_formed_expr a
  is_formed_stmt (stmt.Create e) = is_formed_expr e
  is_formed_stmt (stmt.Become e) = is_formed_expr e
  is_formed_stmt (stmt.Throw e) = is_formed_expr e
  is_formed_stmt (stmt.Do e) = is_formed_expr e

  abbrev pub is_formed_unit : CoreUnit → Bool
  is_formed_unit (unit.Abs p e) = is_formed_pat p && is_formed_expr e
  is_formed_unit (unit.Block ss) = list_all is_formed_stmt ss

-- the units of a program; the file is a block
abbrev pub are_formed : List CoreUnit → Bool
are_formed units = list_all (is_formed_unit (map is_abstraction units)) units && names_block (map is_abstraction units) 0
