-- The reading of written trees in numbered ones is sound.
use Rattle.std.proofs.Common.{◌≡◌, refl, ap, sym, ◌∙◌, ℕ, suc, true, false, List, [], ◌∷◌, ◌++◌}
use Rattle.hum_syntax.specs.declared.tree.Pat.{Pat, out-Pat}
use Rattle.hum_syntax.specs.declared.tree.Expr.TheOpen as layer
use Rattle.hum_core.specs.declared.slot.Const.{Const}
use Rattle.hum_core.specs.declared.resolved.CoreUnit.{CoreUnit}
use Rattle.hum_core.specs.declared.resolved.CorePat.{out-CorePat}
use Rattle.hum_core.specs.declared.resolved.CoreExpr.TheOpen as core
use Rattle.hum_meaning.specs.Value.{Atom, Undefined, Nil, Truth, Number, Symbol, Value, Env, Entry}
use Rattle.hum_meaning.specs.Language.{Meaning}
use Rattle.hum_meaning.specs.Named.{Named, written}
use Rattle.hum_meaning.specs.Match.{match_tree}
use Rattle.hum_meaning.specs.Written.{humus}
use Rattle.hum_core.specs.Numbered.{atom_of}
use Rattle.hum_core.specs.CoreTrees.{Core, core_match, core_language}
use Rattle.hum_core.specs.Alike.{Scope, scope_of, Both, Reading, Alike, AlikeEnv, EntriesAs}
use Rattle.hum_core.specs.Reading.{reading_to}
use Rattle.hum_core.specs.Agreement.{names_of, WrittenPat, NumberedPat, PatternNodeAs, resolving, Resolution}
use Rattle.hum_core.proofs.Following.{ActsAs, Bound, marks_of, Follows, Sound}
use Rattle.hum_core.proofs.Simulates.{arms_as}
use Rattle.hum_core.proofs.Wholly.{each_all, arms_all, expr_all, statements_all, abstraction_all}
use Rattle.hum_core.proofs.Names.{names_of_items, names_here, names_out}
use Rattle.hum_core.proofs.Patterns.{renamed, any_as, bind_mark_as, atom_as, value_as, marks_of_items, tuple_as}
use Rattle.hum_core.proofs.Looked.{look_as}

module _ (units : List CoreUnit) where
  abbrev R : Reading (Named written) Core
  R = Resolution units

  abbrev to : ℕ → Reading (Named written) Core
  to = reading_to humus (core_language units) resolving

  pattern_all : (scope : Scope (Named written)) (p : WrittenPat) (q : NumberedPat) → ((n : ℕ) → PatternNodeAs (to n) scope p q)
      → PatternNodeAs R scope p q
  pattern_all scope (layer.Value e) (core.Value d) h = h
  pattern_all scope (layer.Pat::Tuple ps) (core.CorePat::Tuple qs) h = each_all _ _ (λ p q i. i) ps qs h
  pattern_all scope layer.Any core.Any h = tt
  pattern_all scope (layer.Bind x) core.Bind h = tt
  pattern_all scope layer.Pat::Undef (core.CorePat::Is c) h = h 0
  pattern_all scope layer.Pat::Nil (core.CorePat::Is c) h = h 0
  pattern_all scope layer.Pat::True (core.CorePat::Is c) h = h 0
  pattern_all scope layer.Pat::False (core.CorePat::Is c) h = h 0
  pattern_all scope (layer.Pat::Num n) (core.CorePat::Is c) h = h 0
  pattern_all scope (layer.Pat::Sym x) (core.CorePat::Is c) h = h 0
  pattern_all scope _ _ h = absurd (h 0)

  module _ (b : ℕ) (m : Meaning (Named written)) (m' : Meaning Core) (h : Follows R b m m') (env : Env (Named written)) (env' : Env Core) (a : AlikeEnv R env env') where
    same_marks : (ps : List Pat) → marks_of_items R b m m' h env env' a ps ≡ names_of_items ps
    same_marks [] = refl
    same_marks (p ∷ ps) = ap (λ z. z ++ names_of p) (same_marks ps)

    constant_as : (x : Atom) (c d : Const) → c ≡ d → x ≡ atom_of d → x ≡ atom_of c
    constant_as x c d e k = k ∙ ap atom_of (sym e)

    node_as : (p : WrittenPat) (q : NumberedPat) → PatternNodeAs R (scope_of env) p q
        → (v : Value (Named written)) (w : Value Core) (es : List (Entry (Named written))) (ds : List (Entry Core)) → Alike R v w
        → Bound R es ds →
        ActsAs R (suc b) (Both (EntriesAs R (names_here p ++ marks_of R es))) (match_tree written m.eval m.matches p v env es) (core_match m'.eval m'.matches q w env' ds)
    node_as layer.Any core.Any c v w es ds i j = any_as R b v w env env' es ds j
    node_as (layer.Bind x) core.Bind c v w es ds i j = bind_mark_as R b x tt v w env env' es ds i j
    node_as layer.Pat::Undef (core.CorePat::Is c) e v w es ds i j = atom_as R b _ _ (constant_as Undefined c _ e refl) v w env env' es ds i j
    node_as layer.Pat::Nil (core.CorePat::Is c) e v w es ds i j = atom_as R b _ _ (constant_as Nil c _ e refl) v w env env' es ds i j
    node_as layer.Pat::True (core.CorePat::Is c) e v w es ds i j = atom_as R b _ _ (constant_as (Truth true) c _ e refl) v w env env' es ds i j
    node_as layer.Pat::False (core.CorePat::Is c) e v w es ds i j = atom_as R b _ _ (constant_as (Truth false) c _ e refl) v w env env' es ds i j
    node_as (layer.Pat::Num n) (core.CorePat::Is c) e v w es ds i j = atom_as R b _ _ (constant_as (Number n) c _ e refl) v w env env' es ds i j
    node_as (layer.Pat::Sym x) (core.CorePat::Is c) e v w es ds i j = atom_as R b _ _ (constant_as (Symbol x) c _ e refl) v w env env' es ds i j
    node_as (layer.Value e) (core.Value d) c v w es ds i j = value_as R b m m' h env env' a e d c v w es ds i j
    node_as (layer.Pat::Tuple ps) (core.CorePat::Tuple qs) c v w es ds i j =
        renamed R (suc b) _ _ _ _ (ap (λ z. z ++ marks_of R es) (same_marks ps)) (tuple_as R b m m' h env env' a ps qs c v w es ds i j)
    node_as _ _ c v w es ds i j = absurd c

  pub resolution_sound : Sound R humus (core_language units)
  resolution_sound = record {
    expr = λ scope e d h. expr_all humus (core_language units) resolving (arms_all humus (core_language units) resolving) scope (humus.expr e) ((core_language units).expr d) (λ n. h (suc n));
    body = λ scope b c h. statements_all humus (core_language units) resolving scope (humus.body b) ((core_language units).body c) (λ n. h (suc n));
    abstraction = λ scope f g h. abstraction_all humus (core_language units) resolving scope (humus.abstraction f) ((core_language units).abstraction g) (λ n. h (suc n));
    look = λ env env' x y a e. look_as R x y a e;
    choosing = λ b m m' h env env' a x y v w i c. arms_as R b m m' h env env' a x y v w i c;
    matching = λ self base b all n n' le le' p q v w env env' es ds a c i j.
        renamed R (suc b) _ _ _ _ (ap (λ z. z ++ marks_of R es) (sym (names_out p)))
        (node_as b _ _ (all n n' le le') env env' a (out-Pat p) (out-CorePat q) (pattern_all (scope_of env) _ _ (λ n. c (suc n))) v w es ds i j);
  }
