-- The code of whole deliveries.
use Rattle.std.proofs.Common.{subst, ℕ, suc, [], length}
use Rattle.std.specs.Prelude.{slice_get}
use Rattle.hum_meaning.specs.Value.{Function}
use Rattle.hum_meaning.specs.Meaning.{level}
use Rattle.hum_core.specs.Numbered.{Opening}
use Rattle.hum_core.specs.TestLists.{tests_language, test_body}
use Rattle.instr_table.specs.Event.{no_effects}
use Rattle.hum_code.specs.Bounds.{Limits, limits}
use Rattle.hum_code.specs.Comes.{point}
use Rattle.hum_code.specs.Code.{StatementsAt}
use Rattle.hum_code.specs.Stands.{Stands}
use Rattle.hum_code.specs.Emission.{Emission}
use Rattle.hum_core.specs.Openings.{outermost}
use Rattle.hum_code.specs.Opening.{Opens}
use Rattle.hum_code.specs.Laws.{delivery}
use Rattle.hum_code.proofs.Standing.{CoreValue}
use Rattle.hum_code.proofs.Results.{Gets}
use Rattle.hum_code.proofs.Statements.{statements_run}
use Rattle.hum_code.proofs.Primitives.{primitives_run}
use Rattle.hum_code.proofs.Levels.{codes_at, LevelRuns, StatementsRun, functions_at, level_runs}
use Rattle.hum_code.proofs.Committing.{Committed}
use Rattle.hum_code.proofs.Applies.{apply_comes}
use Rattle.hum_code.proofs.Boots.{boot_comes}

-- the code of a block stands in the shape of the environment that it runs in
blocks_run : (em : Emission) (lim : Limits) → StatementsRun em lim
unfolding level
blocks_run em lim n ih patterns blocks = record {
  at = λ u k x S env d c q s f t shape is lt ready.
      statements_run em lim n (codes_at em lim n) (level (tests_language em.layout.units) em.self (length em.setting.roll) n) ih patterns blocks k S
      (test_body (slice_get em.layout.units u)) env (em.layout.place u)
      (subst (λ sh. StatementsAt em.setting em.layout (codes_at em lim n) (test_body (slice_get em.layout.units u)) sh (em.layout.place u)) shape
      (em.code.blocks n u is))
      x d c q s f t lt ready;
}

-- all that code does, at each level
pub code_runs : (em : Emission) (lim : Limits) (n : ℕ) → LevelRuns em lim n
code_runs em lim n = level_runs em lim (primitives_run em lim) (blocks_run em lim) n

pub delivery_comes : (em : Emission) (behaviour v : CoreValue) → Stands em.layout em.setting.base em.setting.roll em.setting.own.state behaviour
    → Stands em.layout em.setting.base em.setting.roll em.setting.own.message v → (s : ℕ)
    → Gets em (limits s) (Committed em (limits s)) (delivery em behaviour v s) em.setting.base (point em.layout.apply [] no_effects 0 0)
delivery_comes em behaviour v bs vs s =
    let h = code_runs em (limits s) (suc s) in
    apply_comes em s (functions_at em (limits s) (primitives_run em (limits s)) (suc s) h) h.blocks behaviour v bs vs

pub opening_comes : (em : Emission) (v : CoreValue) → Opens em → (s : ℕ)
    → Gets em (limits s) (Committed em (limits s)) (delivery em (Function Opening outermost) v s) em.setting.base
    (point em.layout.boot [] no_effects 0 0)
opening_comes em v opens s = boot_comes em opens s (code_runs em (limits s) (suc s)).blocks v
