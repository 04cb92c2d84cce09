-- What the nodes of a tree become.
use Rattle.std.specs.Prelude.{◌≡◌, ℕ, Bool, false, List, [], ◌∷◌, ◌++◌, map, sum}
use Rattle.hum_syntax.specs.declared.tree.Expr.{Expr, fold-Expr}
use Rattle.hum_syntax.specs.declared.tree.Pat.{Pat, fold-Pat}
use Rattle.hum_syntax.specs.declared.tree.Arm.{Arm, fold-Arm}
use Rattle.hum_syntax.specs.declared.tree.Branch.{Branch, fold-Branch}
use Rattle.hum_core.specs.declared.resolved.CoreUnit.{CoreUnit}
use Rattle.hum_core.specs.declared.resolved.CoreStmt.{CoreStmt}
use Rattle.hum_core.specs.declared.resolved.CorePat.{CorePat}
use Rattle.hum_core.specs.declared.resolved.CoreArm.{CoreArm}
use Rattle.hum_core.specs.declared.resolved.CoreBranch.{CoreBranch}
use Rattle.hum_core.specs.Alike.{Many}
use Rattle.hum_core.specs.Agreement.{Names}
use Rattle.hum_core.specs.Units.{Scope, Part, OfExpr, OfPat, OfStmt, in_order, statements, of_expr, of_pat, of_stmt, of_arm, of_branch}
use Rattle.hum_scope.specs.Walks.{Kind, OfFunction, OfValues, OfNothing, kind_of}

abbrev pub made_of_expr : Expr → OfExpr
made_of_expr = fold-Expr OfExpr OfPat OfStmt (Part CoreArm) (Part CoreBranch) of_expr of_pat of_stmt of_arm of_branch

abbrev pub made_of_pat : Pat → OfPat
made_of_pat = fold-Pat OfExpr OfPat OfStmt (Part CoreArm) (Part CoreBranch) of_expr of_pat of_stmt of_arm of_branch

abbrev pub made_of_arm : Arm → Part CoreArm
made_of_arm = fold-Arm OfExpr OfPat OfStmt (Part CoreArm) (Part CoreBranch) of_expr of_pat of_stmt of_arm of_branch

abbrev pub made_of_branch : Branch → Part CoreBranch
made_of_branch = fold-Branch OfExpr OfPat OfStmt (Part CoreArm) (Part CoreBranch) of_expr of_pat of_stmt of_arm of_branch

module _ {A : Type 0} where
  -- the part itself, and its units
  abbrev pub itself : Part A → Scope → ℕ → A
  itself part scope n = (part.make scope n).0

  abbrev pub units : Part A → Scope → ℕ → List CoreUnit
  units part scope n = (part.make scope n).1

-- patterns in order
abbrev pub in_all : List OfPat → Part (List CorePat)
in_all ps = in_order (map (λ p. p.part) ps)

-- the statements of a block
abbrev pub in_block : List OfStmt → Part (List CoreStmt)
in_block ss = record { size = sum (map (λ s. s.part.size) ss); make = statements false ss }

-- ---- scopes

-- a scope with further entries
abbrev pub IsAbove : Scope → Scope → Type 0
IsAbove outer scope = (front : Scope) × (scope ≡ front ++ outer)

-- ---- groups

-- the functions from a statement to the end of its stretch, in order, by those behind it
abbrev pub gathered_in_order : Kind → Names → Names
gathered_in_order (OfFunction names) more = names ++ more
gathered_in_order OfValues more = []
gathered_in_order OfNothing more = more

abbrev pub function_names : List OfStmt → Names
function_names [] = []
function_names (s ∷ more) = gathered_in_order (kind_of s.binds) (function_names more)

-- the scope where a statement stands, with the functions of its stretch from it on
abbrev pub scope_with : Kind → (grouped : Bool) → Names → Scope → Scope
scope_with (OfFunction names) false fs scope = Many fs ∷ scope
scope_with _ grouped fs scope = scope

abbrev pub scope_at : OfStmt → (grouped : Bool) → (from_here : List OfStmt) → Scope → Scope
scope_at s grouped from_here scope = scope_with (kind_of s.binds) grouped (function_names from_here) scope
