-- Tests one after the other: those that take the first values, and then the rest on what is left.
use Rattle.std.proofs.Common.{◌≡◌, refl, ap, ℕ, zero, suc, List, [], ◌∷◌, ◌++◌, length, Some, None}
use Rattle.hum_core.specs.declared.tested.Test.{Test, out-Test}
use Rattle.hum_core.specs.declared.tested.Test.TheOpen as test
use Rattle.hum_meaning.specs.Value.{Value, Plain, Pair, Env, Entry}
use Rattle.hum_meaning.specs.Action.{Action, Effects, Outcome, Gives, Fails, Undecided, and_then, pure}
use Rattle.hum_meaning.specs.Language.{Evaluator, Matched}
use Rattle.hum_meaning.specs.Eval.{if_matched, equals}
use Rattle.hum_core.specs.Numbered.{atom_of}
use Rattle.hum_core.specs.TestLists.{Tests, Rest, test_value, one_test, tests_from}
use Rattle.hum_core.specs.Lowering.{TestNode, left_behind, split}

-- the tests take so many values
abbrev pub Takes : List Test → ℕ → Type 0
Takes [] zero = Unit {0}
Takes [] (suc k) = ⊥
Takes (t ∷ ts) zero = ⊥
Takes (t ∷ ts) (suc k) = Takes ts (left_behind (out-Test t) k)

-- where something stands behind the tests of k values, they take k
pub split_takes : (ts : List Test) (k : ℕ) (u : Test) (us : List Test) → (split ts k).1 ≡ u ∷ us → Takes (split ts k).0 k
split_takes ts zero u us e = tt
split_takes [] (suc k) u us e = absurd (cc)
split_takes (t ∷ ts) (suc k) u us e = split_takes ts (left_behind (out-Test t) k) u us e

pub split_joins : (ts : List Test) (k : ℕ) → (split ts k).0 ++ (split ts k).1 ≡ ts
split_joins ts zero = refl
split_joins [] (suc k) = refl
split_joins (t ∷ ts) (suc k) = ap (λ us. t ∷ us) (split_joins ts (left_behind (out-Test t) k))

module _ (eval : Evaluator Tests) (ts' : List Test) (env : Env Tests) (vs : List (Value Tests)) where
  -- what follows
  abbrev pub on : Matched Tests → Action Tests (Matched Tests)
  on m = if_matched m (tests_from eval ts' vs env) (pure None)

  go_on : (rest rest' : List (Entry Tests) → Action Tests (Matched Tests))
      → ((es : List (Entry Tests)) (e : Effects Tests) (s : ℕ) → rest es e s ≡ and_then (rest' es e s) on)
      → (o : Outcome Tests (Matched Tests)) →
      and_then o (λ m. if_matched m rest (pure None)) ≡ and_then (and_then o (λ m. if_matched m rest' (pure None))) on
  go_on rest rest' h (Gives (Some es) e s) = h es e s
  go_on rest rest' h (Gives None e s) = refl
  go_on rest rest' h (Fails c n) = refl
  go_on rest rest' h Undecided = refl

  one_split : (l : TestNode) (u : Value Tests) (us : List (Value Tests)) (es : List (Entry Tests)) (rest rest' : Rest) (more : ℕ → Type 0)
      → more (left_behind l (length us)) →
      ((us : List (Value Tests)) (es : List (Entry Tests)) → more (length us) → (e : Effects Tests) (s : ℕ) → rest (us ++ vs) es e s ≡ and_then (rest' us es e s) on) →
      (e : Effects Tests) (s : ℕ) → one_test eval l u (us ++ vs) env es rest e s ≡ and_then (one_test eval l u us env es rest' e s) on
  one_split test.Pair (Pair a b) us es rest rest' more c h e s = h (a ∷ b ∷ us) es c e s
  one_split test.Pair _ us es rest rest' more c h e s = refl
  one_split (test.Test::Is k) u us es rest rest' more c h e s = go_on (rest (us ++ vs)) (rest' us) (λ es. h us es c) (equals u (Plain (atom_of k)) es e s)
  one_split (test.Same x) u us es rest rest' more c h e s = go_on (rest (us ++ vs)) (rest' us) (λ es. h us es c) (test_value eval x u env es e s)
  one_split test.Bind u us es rest rest' more c h e s = h us ((tt, u) ∷ es) c e s
  one_split test.Skip u us es rest rest' more c h e s = h us es c e s

  pub tests_split : (ts : List Test) (us : List (Value Tests)) (es : List (Entry Tests)) → Takes ts (length us)
      → (e : Effects Tests) (s : ℕ) → tests_from eval (ts ++ ts') (us ++ vs) env es e s ≡ and_then (tests_from eval ts us env es e s) on
  tests_split [] [] es c e s = refl
  tests_split [] (u ∷ us) es c e s = absurd c
  tests_split (t ∷ ts) [] es c e s = absurd c
  tests_split (t ∷ ts) (u ∷ us) es c e zero = refl
  tests_split (t ∷ ts) (u ∷ us) es c e (suc s) = one_split (out-Test t) u us es _ _ (Takes ts) c (λ us es c. tests_split ts us es c) e s
