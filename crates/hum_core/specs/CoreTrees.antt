-- The meaning of numbered trees whose patterns are trees.
use Rattle.std.specs.Prelude.{ℕ, List, [], map, Option, Some, None, slice_get}
use Rattle.hum_core.specs.declared.resolved.CoreUnit.{CoreUnit}
use Rattle.hum_core.specs.declared.resolved.CoreUnit.TheVariants as unit
use Rattle.hum_core.specs.declared.resolved.CoreStmt.{CoreStmt}
use Rattle.hum_core.specs.declared.resolved.CoreStmt.TheVariants as stmt
use Rattle.hum_core.specs.declared.resolved.CoreExpr.{CoreExpr, out-CoreExpr}
use Rattle.hum_core.specs.declared.resolved.CoreExpr.TheVariants as expr
use Rattle.hum_core.specs.declared.resolved.CorePat.{CorePat, out-CorePat}
use Rattle.hum_core.specs.declared.resolved.CorePat.TheVariants as pat
use Rattle.hum_core.specs.declared.resolved.CoreArm.{CoreArm, out-CoreArm}
use Rattle.hum_core.specs.declared.resolved.CoreBranch.{CoreBranch, out-CoreBranch}
use Rattle.hum_core.specs.declared.resolved.CoreExpr.TheOpen.{CoreExpr-F, CorePat-F}
use Rattle.hum_core.specs.declared.resolved.CoreExpr.TheOpen as layer
use Rattle.hum_meaning.specs.Value.{Parts, Plain, text_value}
use Rattle.hum_meaning.specs.Language.{ExprNode, Is, Var, Myself, Abs, BlockOf, Call, Tuple, New, Case, If, StmtNode, Let, Functions, Defined, Send, Create, Become, Throw, Do, Evaluator, Matcher, Language}
use Rattle.hum_meaning.specs.Eval.{arms}
use Rattle.hum_meaning.specs.Pattern.{Match, match_any, match_bind, match_atom, match_value, match_tuple}
use Rattle.hum_core.specs.Numbered.{Code, Opening, Of, Numbered, atom_of, members, at_slot}

abbrev pub Core : Parts
Core = Numbered CoreExpr CorePat

-- ---- one node

abbrev pub core_arm : CoreArm → CorePat × CoreExpr
core_arm arm = ((out-CoreArm arm).pattern, (out-CoreArm arm).value)

abbrev pub core_branch : CoreBranch → CoreExpr × ℕ
core_branch branch = ((out-CoreBranch branch).condition, (out-CoreBranch branch).block)

abbrev pub core_expr : CoreExpr-F CoreExpr CorePat CoreArm CoreBranch → ExprNode Core
core_expr (layer.CoreExpr::Is c) = Is (Plain (atom_of c))
core_expr (layer.Text points) = Is (text_value points)
core_expr (layer.Var slot) = Var slot
core_expr layer.Myself = Myself
core_expr (layer.Abs k) = Abs (Of k)
core_expr (layer.Block k) = BlockOf k
core_expr (layer.Call f a) = Call f a
core_expr (layer.CoreExpr::Tuple es) = Tuple es
core_expr (layer.New e) = New e
core_expr (layer.Case e arms) = Case e (map core_arm arms)
core_expr (layer.If branches k) = If (map core_branch branches) k

abbrev pub core_stmt : CoreStmt → StmtNode Core
core_stmt (stmt.Let p e) = Let p e
core_stmt (stmt.Group ks) = Functions (members ks)
core_stmt stmt.Defined = Defined
core_stmt (stmt.Send e a) = Send e a
core_stmt (stmt.Create e) = Create tt e
core_stmt (stmt.Become e) = Become e
core_stmt (stmt.Throw e) = Throw e
core_stmt (stmt.Do e) = Do e

module _ (eval : Evaluator Core) (matches : Matcher Core) where
  abbrev pub core_match : CorePat-F CoreExpr CorePat CoreArm CoreBranch → Match Core
  core_match layer.Any = match_any
  core_match layer.Bind = match_bind tt
  core_match (layer.CorePat::Is c) = match_atom (atom_of c)
  core_match (layer.Value e) = match_value eval e
  core_match (layer.CorePat::Tuple ps) = match_tuple matches ps

-- ---- units

abbrev pub core_body : Option CoreUnit → List (StmtNode Core)
core_body (Some (unit.Block ss)) = map core_stmt ss
core_body _ = []

abbrev pub core_function : Option CoreUnit → Option (CorePat × CoreExpr)
core_function (Some (unit.Abs p e)) = Some (p, e)
core_function _ = None

abbrev pub core_abstraction : List CoreUnit → Code → Option (CorePat × CoreExpr)
core_abstraction units Opening = Some (pat.Any, expr.Block 0)
core_abstraction units (Of k) = core_function (slice_get units k)

-- the language of these units
abbrev pub core_language : List CoreUnit → Language Core
core_language units = record {
  expr = λ e. core_expr (out-CoreExpr e);
  body = λ k. core_body (slice_get units k);
  abstraction = core_abstraction units;
  look = at_slot;
  match_node = λ eval matches p. core_match eval matches (out-CorePat p);
  choose_node = arms;
}
