-- A scoped file stands for the units that it becomes.
use Rattle.std.proofs.Common.{◌≡◌, refl, ap, sym, subst, ◌∙◌, ℕ, zero, suc, List, [], ◌∷◌, map}
use Rattle.std.proofs.lemmas.List.{append-nil}
use Rattle.hum_syntax.specs.declared.tree.Expr.TheVariants as written_expr
use Rattle.hum_syntax.specs.declared.tree.Expr.TheOpen as layer
use Rattle.hum_syntax.specs.declared.tree.Pat.TheVariants as written_pat
use Rattle.hum_syntax.specs.declared.tree.Stmt.{Stmt}
use Rattle.hum_core.specs.declared.resolved.CoreUnit.{CoreUnit}
use Rattle.hum_core.specs.declared.resolved.CoreExpr.{out-CoreExpr}
use Rattle.hum_core.specs.declared.resolved.CoreExpr.TheVariants as expr
use Rattle.hum_core.specs.declared.resolved.CorePat.{out-CorePat}
use Rattle.hum_core.specs.declared.resolved.CorePat.TheVariants as pat
use Rattle.hum_meaning.specs.Named.{written, expr_node}
use Rattle.hum_meaning.specs.Look.{outermost}
use Rattle.hum_meaning.specs.Language.{BlockOf}
use Rattle.hum_meaning.specs.Scope.{outermost_scope, block as block_verdicts}
use Rattle.hum_core.specs.Numbered.{Opening}
use Rattle.hum_core.specs.CoreTrees.{core_expr}
use Rattle.hum_core.specs.Alike.{scope_of, with_marks, ExprNodeAs}
use Rattle.hum_core.specs.Agreement.{Names, names_of, PatternNodeAs}
use Rattle.hum_core.specs.Units.{Scope, block, resolved}
use Rattle.hum_core.specs.Laws.{ScopedFilesStand}
use Rattle.hum_core.proofs.Names.{names_here, names_out}
use Rattle.hum_core.proofs.ScopedNames.{Fine, Sees, nothing_seen, marks_seen}
use Rattle.hum_core.proofs.UnitPlaces.{made_stmt, Stand, all_stand}
use Rattle.hum_core.proofs.BoundNames.{found_stmt}
use Rattle.hum_core.proofs.ScopedBlocks.{rel, to, SS, block_stands}
use Rattle.hum_core.proofs.ScopedTrees.{every_stmt}

-- the built-in functions and the devices have slots
pub outermost_seen : Sees (scope_of (outermost written)) outermost_scope
outermost_seen = subst (Sees (with_marks outermost_scope [])) (append-nil outermost_scope) (marks_seen outermost_scope [] [] nothing_seen)

-- the statements, with what is so of each
with_each : (units : List CoreUnit) (file : List Stmt) → List (SS units)
with_each units [] = []
with_each units (s ∷ file) = (s, every_stmt units s) ∷ with_each units file

nodes-with_each : (units : List CoreUnit) (file : List Stmt) → map (λ s. s.0) (with_each units file) ≡ file
unfolding with_each
nodes-with_each units [] = refl
nodes-with_each units (s ∷ file) = ap (λ ss. s ∷ ss) (nodes-with_each units file)

body_stands : (units : List CoreUnit) (scope : Scope) (seen : Names) (file : List Stmt) → Sees scope seen
    → Fine (block_verdicts (map found_stmt file) seen) → Stand units 0 ((block (map made_stmt file)).make scope 0).1
    → (m : ℕ) → (rel units m).Bodies scope file 0
body_stands units scope seen file sees fine stand m =
    let same = nodes-with_each units file in
    subst (λ ss. (rel units m).Bodies scope ss 0) same
    (block_stands units (with_each units file) scope seen 0 m sees
    (subst (λ ss. Fine (block_verdicts (map found_stmt ss) seen)) (sym same) fine)
    (subst (λ ss. Stand units 0 ((block (map made_stmt ss)).make scope 0).1) (sym same) stand))

-- ---- the first actor's behaviour

module _ (units : List CoreUnit) (scope : Scope) (file : List Stmt) (body : (m : ℕ) → (rel units m).Bodies scope file 0) where
  any_stands : (m : ℕ) → (rel units m).Patterns scope written_pat.Any pat.Any
  any_stands zero = tt
  any_stands (suc m) =
      subst (λ p. PatternNodeAs (to units m) scope p (out-CorePat pat.Any)) (sym written_pat.outs-Any)
      (subst (PatternNodeAs (to units m) scope layer.Any) (sym pat.outs-Any) tt)

  block_at : (m : ℕ) → (rel units m).Exprs scope (written_expr.Block file) (expr.Block 0)
  block_at zero = tt
  block_at (suc m) =
      subst (λ e. ExprNodeAs (to units m) scope (expr_node written e) (core_expr (out-CoreExpr (expr.Block 0)))) (sym (written_expr.outs-Block file))
      (subst (λ d. ExprNodeAs (to units m) scope (BlockOf file) (core_expr d)) (sym (expr.outs-Block 0)) (body m))

  no_names : names_of written_pat.Any ≡ []
  no_names = names_out written_pat.Any ∙ ap names_here written_pat.outs-Any

  opening_stands : (m : ℕ) → (rel units m).Abstractions scope (written_pat.Any, written_expr.Block file) Opening
  opening_stands zero = tt
  opening_stands (suc m) =
      (any_stands m, subst (λ ns. (rel units m).Exprs (with_marks ns scope) (written_expr.Block file) (expr.Block 0)) (sym no_names) (block_at m))

pub scoped-files-stand : ScopedFilesStand
scoped-files-stand file scoped =
    let body = body_stands (resolved file) (scope_of (outermost written)) outermost_scope file outermost_seen (record { none = scoped }) (all_stand [] (resolved file) 0 refl) in
    record { body = body; opening = opening_stands (resolved file) (scope_of (outermost written)) file body }
