-- What a walk over the names of a tree tells.
use Rattle.std.specs.Prelude.{ℕ, ◌+◌, Bool, true, false, List, [], ◌∷◌, ◌++◌, length, fold, if◌then◌else◌, Option, Some, None, Result, Ok, Err}
use Rattle.hum_syntax.specs.declared.tree.Expr.{Expr, fold-Expr}
use Rattle.hum_syntax.specs.declared.tree.Pat.{Pat, fold-Pat}
use Rattle.hum_syntax.specs.declared.tree.Arm.{Arm, fold-Arm}
use Rattle.hum_syntax.specs.declared.tree.Branch.{Branch, fold-Branch}
use Rattle.hum_meaning.specs.declared.cause.ScopeCause.{ScopeCause}
use Rattle.hum_meaning.specs.Scope.{Names, Verdicts, Place, OfExpr, OfPat, OfStmt, Part, Binds, Function, Values, Nothing, functions, of_expr, of_pat, of_stmt, of_arm, of_branch}
use Rattle.hum_scope.specs.declared.refusal.ScopeRefused.{ScopeRefused}
use Rattle.hum_scope.specs.declared.binding.Binding.{Binding}
use Rattle.hum_scope.specs.declared.binding.Binding.TheVariants as binding

-- how many names were judged and not refused, or the first that is refused
abbrev pub Count : Type 0
Count = Result ℕ ScopeRefused

abbrev pub judge : Count → Option ScopeCause → Count
judge (Ok n) None = Ok (n + 1)
judge (Ok n) (Some cause) = Err (record { at = n; cause = cause })
judge (Err refused) verdict = Err refused

abbrev pub judged : Count → Verdicts → Count
judged count verdicts = fold judge count verdicts

-- a place behind bindings of the same pattern or block, with so many further ones in scope
abbrev pub place : Names → Names → ℕ → Place
place seen taken outer = record { seen = seen; taken = taken; besides = length taken + outer }

-- the names in sight before these statements of a block
abbrev pub sight : (grouped : Bool) → List OfStmt → (taken outer : Names) → Names
sight grouped ss taken outer = (if grouped then functions ss else []) ++ taken ++ outer

-- a binding, without the names of values
pub data Kind : Type 0 where
  OfFunction : Names → Kind
  OfValues : Kind
  OfNothing : Kind

abbrev pub kind_of : Binds → Kind
kind_of (Function names) = OfFunction names
kind_of (Values names) = OfValues
kind_of Nothing = OfNothing

abbrev pub shown : Binding → Kind
shown (binding.Function name) = OfFunction (name.now ∷ [])
shown binding.Values = OfValues
shown binding.Nothing = OfNothing

-- the functions from a statement to the end of its stretch, by those behind it
abbrev pub gathered : Kind → Names → Names
gathered (OfFunction names) more = more ++ names
gathered OfValues more = []
gathered OfNothing more = more

-- the names in sight where a statement stands, with the functions from it on: the first function of a stretch brings them all
abbrev pub entered : Kind → (grouped : Bool) → (functions seen : Names) → Names
entered (OfFunction names) false fs seen = fs ++ seen
entered _ grouped fs seen = seen

-- the names in sight behind a statement that binds these
abbrev pub passed : Kind → (names seen : Names) → Names
passed OfValues names seen = names ++ seen
passed _ names seen = seen

abbrev pub groups : Kind → (grouped : Bool) → Bool
groups (OfFunction names) grouped = true
groups OfValues grouped = false
groups OfNothing grouped = grouped

-- ---- what is found of the nodes of a tree

abbrev pub found_of_expr : Expr → OfExpr
found_of_expr = fold-Expr OfExpr OfPat OfStmt Part Part of_expr of_pat of_stmt of_arm of_branch

abbrev pub found_of_pat : Pat → OfPat
found_of_pat = fold-Pat OfExpr OfPat OfStmt Part Part of_expr of_pat of_stmt of_arm of_branch

abbrev pub found_of_arm : Arm → Part
found_of_arm = fold-Arm OfExpr OfPat OfStmt Part Part of_expr of_pat of_stmt of_arm of_branch

abbrev pub found_of_branch : Branch → Part
found_of_branch = fold-Branch OfExpr OfPat OfStmt Part Part of_expr of_pat of_stmt of_arm of_branch
