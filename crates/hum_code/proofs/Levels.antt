-- What is evaluated, matched and executed at a level, its code does, level by level.
use Rattle.std.proofs.Common.{ℕ, zero, suc, ◌<◌, List, ◌∷◌, length, arith}
use Rattle.cap_words.specs.Words.{W}
use Rattle.cap_words.specs.Seen.{Seen}
use Rattle.instr_table.specs.Event.{Effects}
use Rattle.hum_core.specs.declared.tested.TestExpr.{TestExpr, out-TestExpr}
use Rattle.hum_meaning.specs.Language.{Meaning}
use Rattle.hum_meaning.specs.Meaning.{level}
use Rattle.hum_core.specs.TestLists.{Tests, tests_language, test_expr}
use Rattle.hum_code.specs.Bounds.{Limits}
use Rattle.hum_code.specs.Comes.{point}
use Rattle.hum_code.specs.Layout.{shape_of}
use Rattle.hum_code.specs.Code.{Codes, codes_to}
use Rattle.hum_code.specs.Emission.{Emission}
use Rattle.hum_code.proofs.Standing.{CoreEnv, Gathered}
use Rattle.hum_code.proofs.Results.{Valued, Ready, Evaluates, Gets, runs_on}
use Rattle.hum_code.proofs.Claims.{PrimitivesRun, FunctionsRun, BlocksRun, PatternsRun}
use Rattle.hum_code.proofs.Matching.{MatchesRun, matches_run, matches_nothing, patterns_run, functions_run}
use Rattle.hum_code.proofs.Choices.{choices_run}
use Rattle.hum_code.proofs.Nodes.{node_runs}

module _ (em : Emission) (lim : Limits) where
  -- the code to depth n
  abbrev pub codes_at : ℕ → Codes
  codes_at n = codes_to em.setting em.layout n

  -- the meaning of what nests less than n levels deep
  abbrev pub meaning_at : ℕ → Meaning Tests
  meaning_at n = level (tests_language em.layout.units) em.self (length em.setting.roll) n

  -- all that code does at a level
  pub record LevelRuns (n : ℕ) : Type 0 where
    pub evaluates : Evaluates em lim n (codes_at n) (meaning_at n).eval
    pub matches : MatchesRun em lim n (codes_at n) (meaning_at n).matches
    pub blocks : BlocksRun em lim n (meaning_at n).exec

  -- what a level's statements do, once that is known of the level below
  abbrev pub StatementsRun : Type 1
  StatementsRun = (n : ℕ) → Evaluates em lim n (codes_at n) (meaning_at n).eval → PatternsRun em lim n (codes_at n) (meaning_at n)
      → BlocksRun em lim n (meaning_at n).exec → BlocksRun em lim (suc n) (meaning_at (suc n)).exec

  module _ (primitives : PrimitivesRun em lim) where
    pub functions_at : (n : ℕ) → LevelRuns n → FunctionsRun em lim n (codes_at n) (meaning_at n)
    functions_at n h = functions_run em lim n (codes_at n) (meaning_at n) h.matches h.evaluates

    -- an expression at the next level
    expression_runs : (n : ℕ) → LevelRuns n → (e : TestExpr) (a k x : W) (S : List W) (env : CoreEnv) (d : Effects) (c q s : ℕ) (f : Gathered)
        (t : Seen)
        → (codes_at (suc n)).ExprAt (shape_of env) e a k → s < suc n → Ready em lim 0 env x d c q s f t
        → Gets em lim (Valued em 16 0 k S d c q s) ((meaning_at (suc n)).eval e env f s) t (point a (x ∷ S) d c q)
    unfolding level
    expression_runs n h e a k x S env d c q zero f t code lt ready = runs_on em.setting lim t a (x ∷ S) d c q (omega (arith, ready.least_in))
    expression_runs n h e a k x S env d c q (suc s) f t code lt ready =
        node_runs em lim n (meaning_at n) h.evaluates (functions_at n h) primitives
        (choices_run em lim n (codes_at n) (meaning_at n) h.matches h.evaluates) k x S env d c q s f t ready (omega (arith, lt))
        (test_expr (out-TestExpr e)) a code

    module _ (statements : StatementsRun) where
      pub level_runs : (n : ℕ) → LevelRuns n
      level_runs zero = record {
        evaluates = record { at = λ e a k x S env d c q s f t code lt ready. absurd (omega (arith, lt)) };
        matches = matches_nothing em lim em.self (length em.setting.roll);
        blocks = record { at = λ u k x S env d c q s f t shape is lt ready. absurd (omega (arith, lt)) };
      }
      level_runs (suc n) =
          let h : LevelRuns n = level_runs n in
          record {
            evaluates = record { at = λ e a k x S env d c q s f t code lt ready. expression_runs n h e a k x S env d c q s f t code lt ready };
            matches = matches_run em lim em.self (length em.setting.roll) n h.evaluates;
            blocks = statements n h.evaluates (patterns_run em lim n (codes_at n) (meaning_at n) h.matches) h.blocks;
          }
