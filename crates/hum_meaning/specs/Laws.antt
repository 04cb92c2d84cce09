-- What is so of every program: what some steps decide does not depend on how many there are.
use Rattle.std.specs.Prelude.{◌≡◌, ℕ, ◌+◌, ◌<◌, length, List, slice_get, Some}
use Rattle.hum_syntax.specs.declared.tree.Expr.{Expr}
use Rattle.hum_syntax.specs.declared.tree.Pat.{Pat}
use Rattle.hum_syntax.specs.declared.tree.Stmt.{Stmt}
use Rattle.hum_syntax.specs.Names.{names_of}
use Rattle.hum_meaning.specs.Value.{Parts, Value, Env, Behaviour, Entry as Binding}
use Rattle.hum_meaning.specs.Action.{Effects, Outcome, Gives, Fails, Undecided}
use Rattle.hum_meaning.specs.Language.{Meaning}
use Rattle.hum_meaning.specs.Meaning.{level, meaning, evaluate, match, execute}
use Rattle.hum_meaning.specs.Named.{Named, written}
use Rattle.hum_meaning.specs.Written.{humus}
use Rattle.hum_meaning.specs.Deliver.{Message, Configuration, Delivery, Committed, Failed, Open, deliver}
use Rattle.hum_meaning.specs.After.{Entry, message_of, Enters, After}
use Rattle.hum_meaning.specs.Sound.{Sound}
use Rattle.hum_meaning.specs.Scope.{verdicts}

-- ---- decisions

abbrev pub IsDecided : {L : Parts} {A : Type 0} → Outcome L A → Type 0
IsDecided (Gives a effects left) = Unit {0}
IsDecided (Fails code sends) = Unit {0}
IsDecided Undecided = ⊥

-- the same outcome, with j more steps left
abbrev pub more_left : {L : Parts} {A : Type 0} → ℕ → Outcome L A → Outcome L A
more_left j (Gives a effects left) = Gives a effects (left + j)
more_left j (Fails code sends) = Fails code sends
more_left j Undecided = Undecided

-- an outcome by steps: what s steps decide, s + j steps decide so, with j more steps left
abbrev pub Stays : {L : Parts} {A : Type 0} → (ℕ → Outcome L A) → Type 0
Stays outcome = (s j : ℕ) → IsDecided (outcome s) → outcome (s + j) ≡ more_left j (outcome s)

abbrev pub EvaluationStays : Type 0
EvaluationStays = (self base : ℕ) (e : Expr) (env : Env (Named written)) (effects : Effects (Named written)) → Stays (evaluate humus self base e env effects)

abbrev pub MatchingStays : Type 0
MatchingStays =
    (self base : ℕ) (p : Pat) (v : Value (Named written)) (env : Env (Named written)) (effects : Effects (Named written)) → Stays (match humus self base p v env effects)

abbrev pub ExecutionStays : Type 0
ExecutionStays =
    (self base : ℕ) (statements : List Stmt) (env : Env (Named written)) (effects : Effects (Named written)) → Stays (execute humus self base statements env effects)

-- two meanings have the same outcome of each part within s steps
pub record SameWithin {L : Parts} (s : ℕ) (m m' : Meaning L) : Type 0 where
  pub eval : (e : L.Expr) (env : Env L) (effects : Effects L) → m.eval e env effects s ≡ m'.eval e env effects s
  pub matches : (p : L.Pattern) (v : Value L) (env : Env L) (es : List (Binding L)) (effects : Effects L)
      → m.matches p v env es effects s ≡ m'.matches p v env es effects s
  pub exec : (b : L.Body) (env : Env L) (effects : Effects L) → m.exec b env effects s ≡ m'.exec b env effects s

-- s steps decide at any depth above s what they decide at all: the depth is no bound of its own
abbrev pub DepthIsEnough : Type 0
DepthIsEnough = (self base n s : ℕ) → s < n → SameWithin s (level humus self base n) (meaning humus self base s)

-- ---- deliveries

abbrev pub IsClosed : {L : Parts} → Delivery L → Type 0
IsClosed (Committed c) = Unit {0}
IsClosed (Failed code sends c) = Unit {0}
IsClosed Open = ⊥

-- a delivery that s steps decide is the same for s + j steps
abbrev pub DeliveriesStay : Type 0
DeliveriesStay =
    (c : Configuration (Named written)) (m : Message (Named written)) (s j : ℕ) → IsClosed (deliver humus c m s) → deliver humus c m (s + j) ≡ deliver humus c m s

-- a journal leads to one configuration at most
abbrev pub JournalsDecide : Type 0
JournalsDecide = (file : List Stmt) (journal : List Entry) (c d : Configuration (Named written)) → After file journal c → After file journal d → c ≡ d

-- ---- sound configurations

-- each pending message has a target, so no delivery stays open for want of one
abbrev pub MessagesHaveTargets : Type 0
MessagesHaveTargets =
    (c : Configuration (Named written)) (n : ℕ) (m : Message (Named written)) → Sound c → message_of n c.pending ≡ Some m →
    (b : Behaviour (Named written)) × (slice_get c.behaviours m.target ≡ Some b)

-- what an event that is finished makes of a sound configuration is sound
abbrev pub EventsKeepSoundness : Type 0
EventsKeepSoundness = (c d : Configuration (Named written)) (e : Entry) → Sound c → Enters humus c e d → Sound d

-- so each configuration of a file after a journal is sound
abbrev pub ReachableConfigurationsAreSound : Type 0
ReachableConfigurationsAreSound = (file : List Stmt) (journal : List Entry) (c : Configuration (Named written)) → After file journal c → Sound c

-- ---- names

-- each name of a file has a verdict, so a verdict's place is the number of names before its own
abbrev pub EachNameIsJudged : Type 0
EachNameIsJudged = (file : List Stmt) → length (verdicts file) ≡ length (names_of file)
