-- Execution of a block's statements, over the meaning of what is below them.
use Rattle.std.specs.Prelude.{ℕ, List, [], ◌∷◌}
use Rattle.hum_meaning.specs.Value.{Parts, Actor, Value, Plain, Block, Env, Bind, Group, extend}
use Rattle.hum_meaning.specs.Action.{Action, ◌>>=◌, ◌>>◌, pure, fail, no_match, not_an_actor, thrown, step, create, send, become}
use Rattle.hum_meaning.specs.Language.{StmtNode, Let, Functions, Defined, Send, Create, Become, Throw, Do, Meaning}
use Rattle.hum_meaning.specs.Eval.{if_matched}

module _ {L : Parts} where
  abbrev pub send_to : Value L → Value L → Action L (Unit {0})
  send_to (Plain (Actor n)) v = send n v
  send_to _ v = fail not_an_actor

module _ {L : Parts} (below : Meaning L) where
  -- executes a value: a block's statements, and nothing of any other value
  abbrev pub perform : Value L → Action L (Unit {0})
  perform (Block b env) = below.exec b env
  perform _ = pure tt

module _ {L : Parts} (base : ℕ) (below : Meaning L) where
  -- one statement, and then the rest in the environment that it leaves
  abbrev pub statement : StmtNode L → Env L → (Env L → Action L (Unit {0})) → Action L (Unit {0})
  statement (Let p e) env rest = do
    v ← below.eval e env
    m ← below.matches p v env []
    if_matched m (λ es. rest (extend es env)) (fail no_match)
  statement (Functions fs) env rest = rest (Group fs env)
  statement Defined env rest = rest env
  statement (Send e a) env rest = do
    v ← below.eval e env
    target ← below.eval a env
    send_to target v
    rest env
  statement (Create mark e) env rest = do
    v ← below.eval e env
    n ← create base v
    rest (Bind mark (Plain (Actor n)) env)
  statement (Become e) env rest = do
    v ← below.eval e env
    become v
    rest env
  statement (Throw e) env rest = do
    v ← below.eval e env
    fail thrown
  statement (Do e) env rest = do
    v ← below.eval e env
    perform below v
    rest env

  -- in order, each for one step
  abbrev pub statements : List (StmtNode L) → Env L → Action L (Unit {0})
  statements [] env = pure tt
  statements (s ∷ more) env = step >> statement s env (statements more)
