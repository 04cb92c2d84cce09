-- The numbered languages spend a step before their matching goes below.
use Rattle.std.proofs.Common.{ℕ, pred, List, [], ◌∷◌, Some, None}
use Rattle.hum_core.specs.declared.resolved.CoreUnit.{CoreUnit}
use Rattle.hum_core.specs.declared.resolved.CoreExpr.{CoreExpr}
use Rattle.hum_core.specs.declared.resolved.CorePat.{CorePat, out-CorePat}
use Rattle.hum_core.specs.declared.resolved.CoreArm.{CoreArm}
use Rattle.hum_core.specs.declared.resolved.CoreBranch.{CoreBranch}
use Rattle.hum_core.specs.declared.resolved.CoreExpr.TheOpen.{CorePat-F}
use Rattle.hum_core.specs.declared.resolved.CoreExpr.TheOpen as core
use Rattle.hum_core.specs.declared.tested.TestUnit.{TestUnit}
use Rattle.hum_core.specs.declared.tested.TestExpr.{TestExpr}
use Rattle.hum_core.specs.declared.tested.Test.{Test, out-Test}
use Rattle.hum_core.specs.declared.tested.TestArm.{TestArm}
use Rattle.hum_core.specs.declared.tested.TestBranch.{TestBranch}
use Rattle.hum_core.specs.declared.tested.Test.TheOpen.{Test-F}
use Rattle.hum_core.specs.declared.tested.Test.TheOpen as layer
use Rattle.hum_meaning.specs.Value.{Value, Plain, Env, Entry}
use Rattle.hum_meaning.specs.Language.{Meaning}
use Rattle.hum_meaning.proofs.Agrees.{Agrees, pure_agrees, bind_agrees, step_agrees, step_keeps}
use Rattle.hum_meaning.proofs.Law.{Stands, Lawful, arms_agrees, if_matched_agrees, if_pair_agrees, equals_agrees}
use Rattle.hum_meaning.proofs.PatternLaw.{MatchesAgree, any_agrees, bind_mark_agrees, atom_agrees, value_agrees, tuple_agrees}
use Rattle.hum_core.specs.Numbered.{atom_of}
use Rattle.hum_core.specs.CoreTrees.{Core, core_match, core_language}
use Rattle.hum_core.specs.TestLists.{Tests, Rest, one_test, tests_from, tests_language}

-- ---- patterns as trees

module _ (d : ℕ) (m m' : Meaning Core) (h : Stands (pred d) m m') where
  match_agrees : (p : CorePat-F CoreExpr CorePat CoreArm CoreBranch) → MatchesAgree d (core_match m.eval m.matches p)
      (core_match m'.eval m'.matches p)
  match_agrees core.Any = any_agrees d
  match_agrees core.Bind = bind_mark_agrees d tt
  match_agrees (core.CorePat::Is c) = atom_agrees d (atom_of c)
  match_agrees (core.Value e) = value_agrees d m m' h e
  match_agrees (core.CorePat::Tuple ps) = tuple_agrees d m m' h ps

pub core_lawful : (units : List CoreUnit) → Lawful (core_language units)
core_lawful units = record { matching = λ d m m' h p v env es. match_agrees d m m' h (out-CorePat p) v env es; choosing = λ d m m' h x v env. arms_agrees d m m' h x v env }

-- ---- patterns as tests

module _ (d : ℕ) (m m' : Meaning Tests) (h : Stands d m m') where
  test_agrees : (t : Test-F Test TestExpr TestArm TestBranch) (v : Value Tests) (vs : List (Value Tests)) (env : Env Tests)
      (es : List (Entry Tests)) (r r' : Rest) → ((vs : List (Value Tests)) (es : List (Entry Tests)) → Agrees d (r vs es) (r' vs es))
      → Agrees d (one_test m.eval t v vs env es r) (one_test m'.eval t v vs env es r')
  test_agrees layer.Pair v vs env es r r' k = if_pair_agrees d v _ _ (λ a b. k (a ∷ b ∷ vs) es)
  test_agrees (layer.Test::Is c) v vs env es r r' k = bind_agrees d (equals_agrees d v (Plain (atom_of c)) es) (λ o. if_matched_agrees d o _ _ _ _ (k vs) (pure_agrees d None))
  test_agrees (layer.Same e) v vs env es r r' k = bind_agrees d (bind_agrees d (h.eval e env) (λ w. equals_agrees d v w es)) (λ o. if_matched_agrees d o _ _ _ _ (k vs) (pure_agrees d None))
  test_agrees layer.Bind v vs env es r r' k = k vs ((tt, v) ∷ es)
  test_agrees layer.Skip v vs env es r r' k = k vs es

  tests_agree : (ts : List Test) (vs : List (Value Tests)) (env : Env Tests) (es : List (Entry Tests))
      → Agrees d (tests_from m.eval ts vs env es) (tests_from m'.eval ts vs env es)
  tests_agree [] vs env es = pure_agrees d (Some es)
  tests_agree (t ∷ ts) [] env es = pure_agrees d None
  tests_agree (t ∷ ts) (v ∷ vs) env es = step_keeps d (test_agrees (out-Test t) v vs env es _ _ (λ vs es. tests_agree ts vs env es))

module _ (d : ℕ) (m m' : Meaning Tests) (h : Stands (pred d) m m') where
  all_tests_agree : (ts : List Test) (vs : List (Value Tests)) (env : Env Tests) (es : List (Entry Tests))
      → Agrees d (tests_from m.eval ts vs env es) (tests_from m'.eval ts vs env es)
  all_tests_agree [] vs env es = pure_agrees d (Some es)
  all_tests_agree (t ∷ ts) [] env es = pure_agrees d None
  all_tests_agree (t ∷ ts) (v ∷ vs) env es = step_agrees d (test_agrees (pred d) m m' h (out-Test t) v vs env es _ _ (λ vs es. tests_agree (pred d) m m' h ts vs env es))

pub tests_lawful : (units : List TestUnit) → Lawful (tests_language units)
tests_lawful units = record { matching = λ d m m' h p v env es. all_tests_agree d m m' h p (v ∷ []) env es; choosing = λ d m m' h x v env. arms_agrees d m m' h x v env }
