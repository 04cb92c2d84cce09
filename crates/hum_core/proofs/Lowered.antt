-- The reading of patterns as trees in lists of tests is sound.
use Rattle.std.proofs.Common.{◌≡◌, refl, ap, sym, subst, ◌∙◌, ℕ, suc, ◌≤◌, List, [], ◌∷◌, ◌++◌, Some, None, arith, append_assoc}
use Rattle.hum_core.specs.declared.resolved.CoreUnit.{CoreUnit}
use Rattle.hum_core.specs.declared.resolved.CoreExpr.{CoreExpr}
use Rattle.hum_core.specs.declared.resolved.CorePat.{CorePat, out-CorePat}
use Rattle.hum_core.specs.declared.resolved.CoreExpr.TheOpen as core
use Rattle.hum_core.specs.declared.tested.TestUnit.{TestUnit}
use Rattle.hum_core.specs.declared.tested.Test.{Test, out-Test}
use Rattle.hum_core.specs.declared.tested.Test.TheOpen as test
use Rattle.hum_meaning.specs.Value.{Parts, Value, Env, Entry}
use Rattle.hum_meaning.specs.Action.{Action, Effects, Outcome, Gives, Fails, Undecided, and_then, ◌>>=◌, ◌>>◌, pure, step}
use Rattle.hum_meaning.specs.Language.{Language, Meaning, Matched}
use Rattle.hum_meaning.specs.Meaning.{level}
use Rattle.hum_meaning.specs.Eval.{if_matched, if_pair as pairs}
use Rattle.hum_meaning.specs.Pattern.{match_items}
use Rattle.hum_core.specs.Numbered.{atom_of}
use Rattle.hum_core.specs.CoreTrees.{Core, core_match, core_language}
use Rattle.hum_core.specs.TestLists.{Tests, one_test, tests_from, tests_language}
use Rattle.hum_core.specs.Alike.{Scope, scope_of, Both, Reading, Alike, plain_as, AlikeEnv, OutcomeAs, EntriesAs}
use Rattle.hum_core.specs.Reading.{reading_to}
use Rattle.hum_core.specs.Agreement.{NumberedPat}
use Rattle.hum_core.specs.Lowering.{TestNode, first_value, other_values, Marks, marks_of as marks, SameAs, ItemsAs, TestsAs, lowering, Lowered}
use Rattle.hum_core.proofs.Following.{ActsAs, Bound, marks_of, Follows, Sound}
use Rattle.hum_core.proofs.Acts.{step_as, bind_as', pure_as, fewer}
use Rattle.hum_core.proofs.Simulates.{if_matched_as, arms_as}
use Rattle.hum_core.proofs.Wholly.{arms_all, expr_all, statements_all, abstraction_all}
use Rattle.hum_core.proofs.Patterns.{renamed, equals_as, if_pair_as, any_as, bind_mark_as}
use Rattle.hum_core.proofs.Marks.{marks_of_items, marks_here, marks_out}
use Rattle.hum_core.proofs.Splits.{Takes, split_takes, split_joins, on, tests_split}
use Rattle.hum_core.proofs.Slots.{slot_as}

-- ---- courses of action that are the same at each point

module _ {L K : Parts} (r : Reading L K) (b : ℕ) where
  by_points : {A B : Type 0} (R : A → B → Type 0) (p : Action L A) (q q' : Action K B) → ((e : Effects K) (s : ℕ) → q' e s ≡ q e s)
      → ActsAs r b R p q → ActsAs r b R p q'
  by_points R p q q' same h = record { at = λ e d s lt k. subst (λ o. OutcomeAs r s R (p e s) o) (sym (same d s)) (h.at e d s lt k) }

  -- the last test of a list goes on to nothing
  abbrev ends : Matched K → Action K (Matched K)
  ends m = if_matched m (λ es. pure (Some es)) (pure None)

  ends_same : (o : Outcome K (Matched K)) → and_then o ends ≡ o
  ends_same (Gives (Some es) e s) = refl
  ends_same (Gives None e s) = refl
  ends_same (Fails c n) = refl
  ends_same Undecided = refl

  ended : {A : Type 0} (R : A → Matched K → Type 0) (p : Action L A) (q : Action K (Matched K)) → ActsAs r b R p q
      → ActsAs r b R p (q >>= ends)
  ended R p q h = by_points R p q (q >>= ends) (λ e s. ends_same (q e s)) h

module _ (units : List CoreUnit) (tested : List TestUnit) where
  abbrev l : Language Core
  l = core_language units

  abbrev k : Language Tests
  k = tests_language tested

  abbrev R : Reading Core Tests
  R = Lowered units tested

  abbrev to : ℕ → Reading Core Tests
  to = reading_to l k lowering

  -- ---- to every depth

  same_all : (scope : Scope Core) (e : CoreExpr) (t : TestNode) → ((n : ℕ) → SameAs (to n) scope e t) → SameAs R scope e t
  same_all scope e (test.Same d) h = h
  same_all scope e _ h = absurd (h 0)

  items_all : (scope : Scope Core) (p q : CorePat) (more : List CorePat) (ts : List Test) → ((n : ℕ) → ItemsAs (to n) scope p q more ts)
      → ItemsAs R scope p q more ts
  items_all scope p q [] [] h = h 0
  items_all scope p q (o ∷ more) [] h = h 0
  items_all scope p q [] (t ∷ ts) h = ((h 0).0, λ n. (h n).1, λ n. (h n).2)
  items_all scope p q (o ∷ more) (t ∷ ts) h = ((h 0).0, λ n. (h n).1, items_all scope q o more (other_values ts) (λ n. (h n).2))

  tests_all : (scope : Scope Core) (p : NumberedPat) (ts : List Test) → ((n : ℕ) → TestsAs (to n) scope p ts) → TestsAs R scope p ts
  tests_all scope core.Any (t ∷ []) h = h 0
  tests_all scope core.Bind (t ∷ []) h = h 0
  tests_all scope (core.CorePat::Is c) (t ∷ []) h = h 0
  tests_all scope (core.Value e) (t ∷ []) h = same_all scope e (out-Test t) h
  tests_all scope (core.CorePat::Tuple (p ∷ q ∷ more)) ts h = items_all scope p q more ts h
  tests_all scope _ _ h = absurd (h 0)

  -- ---- each pattern has a test

  none_of : (scope : Scope Core) (p : NumberedPat) → TestsAs (to 0) scope p [] → ⊥
  none_of scope (core.CorePat::Tuple (p ∷ q ∷ [])) h = h
  none_of scope (core.CorePat::Tuple (p ∷ q ∷ o ∷ more)) h = h
  none_of scope _ h = h

  no_tests : (scope : Scope Core) (p : CorePat) → R.PatternAs scope p [] → ⊥
  no_tests scope p h = none_of scope (out-CorePat p) (h 1)

  takes_by : (scope : Scope Core) (q : CorePat) (ts us : List Test) → other_values ts ≡ us → R.PatternAs scope q us
      → Takes (first_value ts) 1
  takes_by scope q ts [] e h = absurd (no_tests scope q h)
  takes_by scope q ts (u ∷ us) e h = split_takes ts 1 u us e

  items_by : (scope : Scope Core) (p q : CorePat) (more : List CorePat) (ts us : List Test) → other_values ts ≡ us
      → ItemsAs R scope p q more us → Takes (first_value ts) 1
  items_by scope p q [] ts [] e h = absurd h
  items_by scope p q (o ∷ more) ts [] e h = absurd h
  items_by scope p q more ts (u ∷ us) e h = split_takes ts 1 u us e

  -- ---- matching

  module _ (self base b : ℕ) (all : (n n' : ℕ) → b ≤ n → b ≤ n' → Follows R b (level l self base n) (level k self base n')) (n n' : ℕ) (le : b ≤ n) (le' : b ≤ n') (env : Env Core) (env' : Env Tests) (a : AlikeEnv R env env') where
    abbrev m : Meaning Core
    m = level l self base n

    abbrev m' : Meaning Tests
    m' = level k self base n'

    -- a pattern below, and its tests of one value
    below_as : (p : CorePat) (ts : List Test) (v : Value Core) (w : Value Tests) (es : List (Entry Core)) (ds : List (Entry Tests))
        → R.PatternAs (scope_of env) p ts → Alike R v w → Bound R es ds →
        ActsAs R b (Both (EntriesAs R (marks p ++ marks_of R es))) (m.matches p v env es) (tests_from m'.eval ts (w ∷ []) env' ds)
    unfolding level
    below_as p ts v w es ds c i j = (all n (suc n') le (omega (arith, le'))).matches p ts v w env env' es ds a c i j

    -- one test of one value
    abbrev single : TestNode → Value Tests → List (Entry Tests) → Action Tests (Matched Tests)
    single t w ds = step >> one_test m'.eval t w [] env' ds (λ vs es. pure (Some es))

    by_test : (t t' : TestNode) → t ≡ t' → (ns : Marks) (p : Action Core (Matched Core)) (w : Value Tests) (ds : List (Entry Tests))
        → ActsAs R (suc b) (Both (EntriesAs R ns)) p (single t' w ds) → ActsAs R (suc b) (Both (EntriesAs R ns)) p (single t w ds)
    by_test t t' e ns p w ds h = subst (λ t. ActsAs R (suc b) (Both (EntriesAs R ns)) p (single t w ds)) (sym e) h

    same_as_test : (e : CoreExpr) (t : TestNode) → SameAs R (scope_of env) e t
        → (v : Value Core) (w : Value Tests) (es : List (Entry Core)) (ds : List (Entry Tests)) → Alike R v w → Bound R es ds →
        ActsAs R (suc b) (Both (EntriesAs R (marks_of R es))) (core_match m.eval m.matches (core.Value e) v env es) (single t w ds)
    same_as_test e (test.Same d) c v w es ds i j =
        step_as R b _ _ _ (ended R b _ _ _ (bind_as' R b _ _ _ _ (λ x y k. equals_as R b es ds i k j) _ _ ((all n n' le le').eval e d env env' a c)))
    same_as_test e _ c v w es ds i j = absurd c

    -- a pair: a pattern on its head, and then a rest on its tail
    pair_as_tests : (p : CorePat) (t : Test) (ts : List Test) → out-Test t ≡ test.Pair → R.PatternAs (scope_of env) p (first_value ts)
        → Takes (first_value ts) 1 → (ns : Marks) (rest : Value Core → List (Entry Core) → Action Core (Matched Core)) (v : Value Core)
        (w : Value Tests) (es : List (Entry Core)) (ds : List (Entry Tests)) → Alike R v w → Bound R es ds →
        ((y : Value Core) (y' : Value Tests) (es1 : List (Entry Core)) (ds1 : List (Entry Tests)) → Alike R y y' → EntriesAs R (marks p ++ marks_of R es) es1 ds1 → ActsAs R b (Both (EntriesAs R ns)) (rest y es1) (tests_from m'.eval (other_values ts) (y' ∷ []) env' ds1)) →
        ActsAs R (suc b) (Both (EntriesAs R ns)) (step >> pairs v (λ head tail. m.matches p head env es >>= (λ o. if_matched o (rest tail) (pure None)))) (tests_from m'.eval (t ∷ ts) (w ∷ []) env' ds)
    pair_as_tests p t ts e c takes ns rest v w es ds i j go =
        subst (λ t. ActsAs R (suc b) (Both (EntriesAs R ns)) (step >> pairs v (λ head tail. m.matches p head env es >>= (λ o. if_matched o (rest tail) (pure None)))) (step >> one_test m'.eval t w [] env' ds (λ vs es. tests_from m'.eval ts vs env' es))) (sym e)
        (step_as R b _ _ _ (if_pair_as R b ns _ _ i (λ x y x' y' k l.
        by_points R b _ _ (λ d s. and_then (tests_from m'.eval (first_value ts) (x' ∷ []) env' ds d s) (on m'.eval (other_values ts) env' (y' ∷ []))) _
        (λ d s. subst (λ us. tests_from m'.eval us (x' ∷ y' ∷ []) env' ds d s ≡ and_then (tests_from m'.eval (first_value ts) (x' ∷ []) env' ds d s) (on m'.eval (other_values ts) env' (y' ∷ []))) (split_joins ts 1)
        (tests_split m'.eval (other_values ts) env' (y' ∷ []) (first_value ts) (x' ∷ []) ds takes d s))
        (bind_as' R b _ _ _ _ (λ o o' q. if_matched_as R b _ _ o o' _ _ _ _ q (λ es1 ds1 z. go y y' es1 ds1 l z) (pure_as R b _ None None tt)) _ _ (below_as p (first_value ts) x x' es ds c k j)))))

    items_as_tests : (p q : CorePat) (more : List CorePat) (ts : List Test) → ItemsAs R (scope_of env) p q more ts
        → (v : Value Core) (w : Value Tests) (es : List (Entry Core)) (ds : List (Entry Tests)) → Alike R v w → Bound R es ds →
        ActsAs R (suc b) (Both (EntriesAs R (marks_of_items (p ∷ q ∷ more) ++ marks_of R es))) (match_items m.matches p q more v env es) (tests_from m'.eval ts (w ∷ []) env' ds)
    items_as_tests p q [] [] c v w es ds i j = absurd c
    items_as_tests p q (o ∷ more) [] c v w es ds i j = absurd c
    items_as_tests p q [] (t ∷ ts) c v w es ds i j =
        pair_as_tests p t ts c.0 c.1 (takes_by (scope_of env) q ts _ refl c.2) _ (λ y es1. m.matches q y env es1) v w es ds i j
        (λ y y' es1 ds1 x z. renamed R b _ _ _ _ (ap (λ u. marks q ++ u) z.0 ∙ sym (append_assoc (marks q) (marks p) (marks_of R es))) (below_as q (other_values ts) y y' es1 ds1 c.2 x z.1))
    items_as_tests p q (o ∷ more) (t ∷ ts) c v w es ds i j =
        pair_as_tests p t ts c.0 c.1 (items_by (scope_of env) q o more ts _ refl c.2) _ (λ y es1. match_items m.matches q o more y env es1) v w es ds i j
        (λ y y' es1 ds1 x z. renamed R b _ _ _ _ (ap (λ u. marks_of_items (q ∷ o ∷ more) ++ u) z.0 ∙ sym (append_assoc (marks_of_items (q ∷ o ∷ more)) (marks p) (marks_of R es)))
        (fewer R b _ (suc b) _ _ (omega arith) (items_as_tests q o more (other_values ts) c.2 y y' es1 ds1 x z.1)))

    node_as_tests : (p : NumberedPat) (ts : List Test) → TestsAs R (scope_of env) p ts
        → (v : Value Core) (w : Value Tests) (es : List (Entry Core)) (ds : List (Entry Tests)) → Alike R v w → Bound R es ds →
        ActsAs R (suc b) (Both (EntriesAs R (marks_here p ++ marks_of R es))) (core_match m.eval m.matches p v env es) (tests_from m'.eval ts (w ∷ []) env' ds)
    node_as_tests core.Any (t ∷ []) c v w es ds i j = by_test _ _ c _ _ w ds (any_as R b v w env env' es ds j)
    node_as_tests core.Bind (t ∷ []) c v w es ds i j = by_test _ _ c _ _ w ds (bind_mark_as R b tt tt v w env env' es ds i j)
    node_as_tests (core.CorePat::Is x) (t ∷ []) c v w es ds i j = by_test _ _ c _ _ w ds (step_as R b _ _ _ (ended R b _ _ _ (equals_as R b es ds i (plain_as (atom_of x)) j)))
    node_as_tests (core.Value e) (t ∷ []) c v w es ds i j = same_as_test e (out-Test t) c v w es ds i j
    node_as_tests (core.CorePat::Tuple (p ∷ q ∷ more)) ts c v w es ds i j = items_as_tests p q more ts c v w es ds i j
    node_as_tests _ _ c v w es ds i j = absurd c

  pub lowering_sound : Sound R l k
  lowering_sound = record {
    expr = λ scope e d h. expr_all l k lowering (arms_all l k lowering) scope (l.expr e) (k.expr d) (λ n. h (suc n));
    body = λ scope b c h. statements_all l k lowering scope (l.body b) (k.body c) (λ n. h (suc n));
    abstraction = λ scope f g h. abstraction_all l k lowering scope (l.abstraction f) (k.abstraction g) (λ n. h (suc n));
    look = λ env env' x y a e. slot_as R x y a e;
    choosing = λ b m m' h env env' a x y v w i c. arms_as R b m m' h env env' a x y v w i c;
    matching = λ self base b all n n' le le' p q v w env env' es ds a c i j.
        renamed R (suc b) _ _ _ _ (ap (λ z. z ++ marks_of R es) (sym (marks_out p)))
        (node_as_tests self base b all n n' le le' env env' a (out-CorePat p) q (tests_all (scope_of env) _ q (λ n. c (suc n))) v w es ds i j);
  }
