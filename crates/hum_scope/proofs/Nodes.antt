-- What an expression becomes, by its node.
use Rattle.std.proofs.Common.{◌≡◌, ap, sym, ◌∙◌, ℕ, List, ◌++◌, map, Option, Some, None}
use Rattle.hum_syntax.specs.declared.tree.Expr.{Expr}
use Rattle.hum_syntax.specs.declared.tree.Expr.TheVariants as e
use Rattle.hum_syntax.specs.declared.tree.Expr.TheOpen as layer
use Rattle.hum_syntax.specs.declared.tree.Pat.{Pat}
use Rattle.hum_syntax.specs.declared.tree.Stmt.{Stmt}
use Rattle.hum_syntax.specs.declared.tree.Arm.{Arm}
use Rattle.hum_syntax.specs.declared.tree.Branch.{Branch}
use Rattle.hum_syntax.proofs.Folding.{Steps, fold_abs, fold_call, fold_case, fold_if, fold_if_else}
use Rattle.hum_core.specs.declared.resolved.CoreUnit.{CoreUnit}
use Rattle.hum_core.specs.declared.resolved.CoreArm.{CoreArm}
use Rattle.hum_core.specs.declared.resolved.CoreBranch.{CoreBranch}
use Rattle.hum_core.specs.Units.{Scope, Part, OfExpr, OfPat, OfStmt, of_expr, of_pat, of_stmt, of_arm, of_branch, of_file}
use Rattle.hum_scope.specs.Translations.{units, made_of_expr, made_of_pat, made_of_arm, made_of_branch}

abbrev steps : Steps OfExpr OfPat OfStmt (Part CoreArm) (Part CoreBranch)
steps = record { expr = of_expr; pat = of_pat; stmt = of_stmt; an_arm = of_arm; a_branch = of_branch }

pub abs_becomes : (x : Expr) (p p' : Pat) (a a' : Expr) → x ≡ e.Abs p a → p' ≡ p → a' ≡ a
    → made_of_expr x ≡ of_expr (layer.Abs (made_of_pat p') (made_of_expr a'))
abs_becomes x p p' a a' h hp ha = ap made_of_expr (h ∙ ap (λ p. e.Abs p a) (sym hp) ∙ ap (e.Abs p') (sym ha)) ∙ fold_abs steps p' a'

pub call_becomes : (x f f' a a' : Expr) → x ≡ e.Call f a → f' ≡ f → a' ≡ a
    → made_of_expr x ≡ of_expr (layer.Call (made_of_expr f') (made_of_expr a'))
call_becomes x f f' a a' h hf ha = ap made_of_expr (h ∙ ap (λ f. e.Call f a) (sym hf) ∙ ap (e.Call f') (sym ha)) ∙ fold_call steps f' a'

pub case_becomes : (x a a' : Expr) (rs rs' : List Arm) → x ≡ e.Case a rs → a' ≡ a → rs' ≡ rs
    → made_of_expr x ≡ of_expr (layer.Case (made_of_expr a') (map made_of_arm rs'))
case_becomes x a a' rs rs' h ha hr = ap made_of_expr (h ∙ ap (λ a. e.Case a rs) (sym ha) ∙ ap (e.Case a') (sym hr)) ∙ fold_case steps a' rs'

pub if_becomes : (x : Expr) (bs bs' : List Branch) (other : Option (List Stmt)) → x ≡ e.If bs other → other ≡ None → bs' ≡ bs
    → made_of_expr x ≡ of_expr (layer.If (map made_of_branch bs') None)
if_becomes x bs bs' other h ho hb = ap made_of_expr (h ∙ ap (e.If bs) ho ∙ ap (λ bs. e.If bs None) (sym hb)) ∙ fold_if steps bs'

pub if_else_becomes : (x : Expr) (bs bs' : List Branch) (other : Option (List Stmt)) (ss ss' : List Stmt) → x ≡ e.If bs other → other ≡ Some ss
    → bs' ≡ bs → ss' ≡ ss
    → made_of_expr x ≡ of_expr (layer.If (map made_of_branch bs') (Some (map of_file ss')))
if_else_becomes x bs bs' other ss ss' h ho hb hs =
    ap made_of_expr (h ∙ ap (e.If bs) ho ∙ ap (λ bs. e.If bs (Some ss)) (sym hb) ∙ ap (λ ss. e.If bs' (Some ss)) (sym hs)) ∙ fold_if_else steps bs' ss'

-- the units of an expression are those of what its node becomes
pub units_become : (x : Expr) (o : OfExpr) (here : Scope) (n : ℕ) (own own' : List CoreUnit) → made_of_expr x ≡ o
    → own' ≡ own ++ units o.part here n → own' ≡ own ++ units (made_of_expr x).part here n
units_become x o here n own own' is h = h ∙ ap (λ o. own ++ units o.part here n) (sym is)
