-- Evaluation, matching and execution within a number of steps.
use Rattle.std.specs.Prelude.{ℕ, zero, suc, []}
use Rattle.hum_meaning.specs.Value.{Parts, Value, Env}
use Rattle.hum_meaning.specs.Action.{Effects, Outcome, ◌>>◌, step, undecided}
use Rattle.hum_meaning.specs.Language.{Matched, Meaning, Language}
use Rattle.hum_meaning.specs.Eval.{eval_node}
use Rattle.hum_meaning.specs.Exec.{statements}

-- nothing is decided
abbrev pub nothing : {L : Parts} → Meaning L
nothing = record { eval = λ e env. undecided; matches = λ p v env es. undecided; exec = λ b env. undecided }

module _ {L : Parts} (language : Language L) (self base : ℕ) where
  -- one level over what is below it; each expression that is evaluated is one step
  abbrev pub stage : Meaning L → Meaning L
  stage below = record {
    eval = λ e env. step >> eval_node language self base below (language.expr e) env;
    matches = language.match_node below.eval below.matches;
    exec = λ b env. statements base below (language.body b) env;
  }

  -- the meaning of what nests less than n levels deep
  unfoldable pub level : ℕ → Meaning L
  level zero = nothing
  level (suc n) = stage (level n)

  -- Each level spends a step before it goes to the one below, so what s steps decide nests at most s levels deep.
  abbrev pub meaning : (s : ℕ) → Meaning L
  meaning s = level (suc s)

  -- ---- within s steps

  abbrev pub evaluate : L.Expr → Env L → Effects L → (s : ℕ) → Outcome L (Value L)
  evaluate e env effects s = (meaning s).eval e env effects s

  abbrev pub match : L.Pattern → Value L → Env L → Effects L → (s : ℕ) → Outcome L (Matched L)
  match p v env effects s = (meaning s).matches p v env [] effects s

  abbrev pub execute : L.Body → Env L → Effects L → (s : ℕ) → Outcome L (Unit {0})
  execute b env effects s = (meaning s).exec b env effects s
