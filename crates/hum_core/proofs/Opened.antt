-- Openings are alike.
use Rattle.std.proofs.Common.{◌≡◌, refl, ap, sym, subst, ◌∙◌, ℕ, zero, suc, true, List, [], ◌∷◌, ◌++◌, map}
use Rattle.std.specs.Prelude.{codes}
use Rattle.hum_syntax.specs.declared.tree.Pat.{out-Pat}
use Rattle.hum_syntax.specs.declared.tree.Expr.{out-Expr}
use Rattle.hum_syntax.specs.declared.tree.Stmt.{Stmt}
use Rattle.hum_syntax.specs.declared.tree.Pat.TheVariants as written_pat
use Rattle.hum_syntax.specs.declared.tree.Expr.TheVariants as written_expr
use Rattle.hum_core.specs.declared.resolved.CoreUnit.{CoreUnit}
use Rattle.hum_core.specs.declared.resolved.CorePat.TheVariants as pat
use Rattle.hum_core.specs.declared.resolved.CoreExpr.TheVariants as expr
use Rattle.hum_core.specs.declared.resolved.CoreExpr.TheOpen as core
use Rattle.hum_meaning.specs.Value.{Nil, Actor, BuiltIn, built_ins, Value, Plain, Primitive, Env, Outside, Bind}
use Rattle.hum_meaning.specs.Named.{Name, Named, written, expr_node}
use Rattle.hum_meaning.specs.Written.{humus}
use Rattle.hum_meaning.specs.Look as look
use Rattle.hum_meaning.specs.After as after
use Rattle.hum_core.specs.Numbered.{Numbered, Opening}
use Rattle.hum_core.specs.CoreTrees.{Core, core_expr, core_language}
use Rattle.hum_core.specs.TestLists.{Tests}
use Rattle.hum_core.specs.Alike.{Scope, scope_of, with_marks, Each, Reading, ExprNodeAs, Alike, plain_as, primitive_as, function_as, AlikeEnv, outside_as, bind_as}
use Rattle.hum_core.specs.Reading.{Relations, relations_to, reading_to}
use Rattle.hum_core.specs.Agreement.{names_of, PatternNodeAs, resolving, Resolution}
use Rattle.hum_core.specs.Lowering.{Lowered}
use Rattle.hum_core.specs.Lists.{tested}
use Rattle.hum_core.specs.Formed.{are_formed}
use Rattle.hum_core.specs.Configurations.{ConfigurationAs}
use Rattle.hum_core.specs.Openings.{outermost_values, bind_all, outermost, opening}
use Rattle.hum_core.proofs.Names.{names_here, names_out}
use Rattle.hum_core.proofs.Standing.{formed-trees-stand}

-- ---- from names to numbers

module _ {E P : Type 0} (r : Reading (Named written) (Numbered E P)) where
  bound_as : (bs : List (Name × Value (Named written))) (vs : List (Value (Numbered E P))) (env : Env (Named written)) (env' : Env (Numbered E P))
      → Each (λ b v. Alike r b.1 v) bs vs → AlikeEnv r env env' → AlikeEnv r (look.bind_all written bs env) (bind_all vs env')
  bound_as [] [] env env' h a = a
  bound_as (b ∷ bs) (v ∷ vs) env env' h a = bound_as bs vs (Bind b.0 b.1 env) (Bind tt v env') h.1 (bind_as h.0 a)
  bound_as [] (v ∷ vs) env env' h a = absurd h
  bound_as (b ∷ bs) [] env env' h a = absurd h

  built_ins_as : (bs : List BuiltIn) (more : List (Name × Value (Named written))) (others : List (Value (Numbered E P)))
      → Each (λ b v. Alike r b.1 v) more others
      → Each (λ b v. Alike r b.1 v) (map (λ b. (look.built_in_name b, Primitive b)) bs ++ more) (map Primitive bs ++ others)
  built_ins_as [] more others h = h
  built_ins_as (b ∷ bs) more others h = (primitive_as b, built_ins_as bs more others h)

  pub outermost_as : AlikeEnv r (look.outermost written) outermost
  outermost_as = bound_as (look.outermost_names written) outermost_values Outside Outside
      (built_ins_as built_ins ((codes "println", Plain (Actor 1)) ∷ (codes "say", Plain (Actor 2)) ∷ []) (Plain (Actor 1) ∷ Plain (Actor 2) ∷ [])
      (plain_as (Actor 1), (plain_as (Actor 2), tt))) outside_as

module _ (units : List CoreUnit) (file : List Stmt) where
  abbrev rel : ℕ → Relations (Named written) Core
  rel = relations_to humus (core_language units) resolving

  abbrev to : ℕ → Reading (Named written) Core
  to = reading_to humus (core_language units) resolving

  any_stands : (n : ℕ) (scope : Scope (Named written)) → (rel n).Patterns scope written_pat.Any pat.Any
  any_stands zero scope = tt
  any_stands (suc n) scope = subst (λ q. PatternNodeAs (to n) scope (out-Pat written_pat.Any) q) (sym pat.outs-Any)
      (subst (λ p. PatternNodeAs (to n) scope p core.Any) (sym written_pat.outs-Any) tt)

  no_names : names_of written_pat.Any ≡ []
  no_names = names_out written_pat.Any ∙ ap names_here written_pat.outs-Any

  block_stands : (n : ℕ) (scope : Scope (Named written)) → ((n : ℕ) → (rel n).Bodies scope file 0) → (rel n).Exprs scope (written_expr.Block file) (expr.Block 0)
  block_stands zero scope h = tt
  block_stands (suc n) scope h = subst (λ d. ExprNodeAs (to n) scope (expr_node written (out-Expr (written_expr.Block file))) (core_expr d)) (sym (expr.outs-Block 0))
      (subst (λ e. ExprNodeAs (to n) scope (expr_node written e) (core_expr (core.Block 0))) (sym (written_expr.outs-Block file)) (h n))

  file_stands : (scope : Scope (Named written)) → (Resolution units).BodyAs scope file 0
      → (Resolution units).AbstractionAs scope (written_pat.Any, written_expr.Block file) Opening
  file_stands scope h zero = tt
  file_stands scope h (suc n) = (
    any_stands n scope,
    subst (λ ns. (rel n).Exprs (with_marks ns scope) (written_expr.Block file) (expr.Block 0)) (sym no_names) (block_stands n scope h),
  )

  pub resolved_opening : (Resolution units).BodyAs (scope_of (look.outermost written)) file 0
      → ConfigurationAs (Resolution units) (after.opening file) opening
  resolved_opening h = record {
    behaviours = (function_as (file_stands _ h) (outermost_as (Resolution units)), (refl, (refl, tt)));
    pending = (record { number = refl; target = refl; value = plain_as Nil }, tt);
    next_number = refl;
    output = refl;
  }

-- ---- from patterns to tests

module _ (r : Reading Core Tests) where
  numbers_as : (vs : List (Value Core)) (ws : List (Value Tests)) (env : Env Core) (env' : Env Tests) → Each (Alike r) vs ws
      → AlikeEnv r env env' → AlikeEnv r (bind_all vs env) (bind_all ws env')
  numbers_as [] [] env env' h a = a
  numbers_as (v ∷ vs) (w ∷ ws) env env' h a = numbers_as vs ws (Bind tt v env) (Bind tt w env') h.1 (bind_as h.0 a)
  numbers_as [] (w ∷ ws) env env' h a = absurd h
  numbers_as (v ∷ vs) [] env env' h a = absurd h

  primitives_as : (bs : List BuiltIn) (more : List (Value Core)) (others : List (Value Tests)) → Each (Alike r) more others
      → Each (Alike r) (map Primitive bs ++ more) (map Primitive bs ++ others)
  primitives_as [] more others h = h
  primitives_as (b ∷ bs) more others h = (primitive_as b, primitives_as bs more others h)

  numbered_outermost_as : AlikeEnv r outermost outermost
  numbered_outermost_as = numbers_as outermost_values outermost_values Outside Outside
      (primitives_as built_ins (Plain (Actor 1) ∷ Plain (Actor 2) ∷ []) (Plain (Actor 1) ∷ Plain (Actor 2) ∷ [])
      (plain_as (Actor 1), (plain_as (Actor 2), tt))) outside_as

pub tested_opening : (units : List CoreUnit) → are_formed units ≡ true → ConfigurationAs (Lowered units (tested units)) opening opening
tested_opening units h = record {
  behaviours = (function_as ((formed-trees-stand units h).abstractions _ Opening) (numbered_outermost_as (Lowered units (tested units))), (refl, (refl, tt)));
  pending = (record { number = refl; target = refl; value = plain_as Nil }, tt);
  next_number = refl;
  output = refl;
}
