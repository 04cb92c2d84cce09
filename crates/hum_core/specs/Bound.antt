-- What the delivery of a message may cost.
use Rattle.std.specs.Prelude.{◌≡◌, ◌↔◌, ℕ, suc, ◌+◌, ◌-◌, ◌*◌, ◌≤◌, List, map, length, sum, Option, Some, None, slice_get}
use Rattle.std.specs.Option.{option_map}
use Rattle.hum_meaning.specs.Value.{Parts, Value, Answers}
use Rattle.hum_meaning.specs.Action.{Effects, no_effects, Gives}
use Rattle.hum_meaning.specs.Language.{Language}
use Rattle.hum_meaning.specs.Deliver.{Message, Configuration, Delivery, Committed, Failed, Open, respond, deliver}
use Rattle.hum_core.specs.Alike.{Each, Reading}
use Rattle.hum_core.specs.Configurations.{MessageAs, ConfigurationAs}

-- so many cycles, quads of memory, and events
pub record Cost : Type 0 where
  pub cycles : ℕ
  pub memory : ℕ
  pub events : ℕ

-- so many cycles, and so many quads: 64 for each step and for one step more
abbrev pub most_for : (steps : ℕ) → ℕ
most_for steps = 64 * suc steps

-- and one event for each message that is gathered
abbrev pub cost_of : (steps sends : ℕ) → Cost
cost_of steps sends = record { cycles = most_for steps; memory = most_for steps; events = sends }

-- The number of messages that a delivery in a configuration gathered, where it is decided. Those of a delivery that commits take the next
-- numbers.
abbrev pub sends_of : {L : Parts} → Configuration L → Delivery L → Option ℕ
sends_of c (Committed d) = Some (d.next_number - c.next_number)
sends_of c (Failed code sends d) = Some sends
sends_of c Open = None

-- a message and the configuration in which it is delivered
abbrev pub Event : Parts → Type 0
Event L = Configuration L × Message L

-- the same message in configurations that are alike
abbrev pub EventAs : {L K : Parts} → Reading L K → Event L → Event K → Type 0
EventAs r e d = ConfigurationAs r e.0 d.0 × MessageAs r e.1 d.1

module _ {L : Parts} (language : Language L) where
  -- the bound of a delivery that s steps decide
  abbrev pub bound : Event L → (s : ℕ) → Option Cost
  bound e s = option_map (cost_of s) (sends_of e.0 (deliver language e.0 e.1 s))

  -- a bound of a delivery, by one of the numbers of steps that decide it
  abbrev pub HasBound : Event L → Cost → Type 0
  HasBound e cost = (s : ℕ) × (bound e s ≡ Some cost)

  -- a bound of each
  abbrev pub HaveBounds : List (Event L) → List Cost → Type 0
  HaveBounds events costs = Each HasBound events costs

-- costs fit an amount of a kind where their sum in that kind is at most it
abbrev pub Fit : (kind : Cost → ℕ) → List Cost → (amount : ℕ) → Type 0
Fit kind costs amount = sum (map kind costs) ≤ amount

-- ---- what is promised of bounds

-- events of two languages that are alike have the same bounds, by every number of steps
pub record BoundsAgree {L K : Parts} (r : Reading L K) (l : Language L) (k : Language K) : Type 0 where
  pub one : (e : Event L) (d : Event K) (s : ℕ) → EventAs r e d → bound l e s ≡ bound k d s
  pub each : (es : List (Event L)) (ds : List (Event K)) (costs : List Cost) → Each (EventAs r) es ds
      → HaveBounds l es costs ↔ HaveBounds k ds costs

-- what bounds count of the steps and of the messages
pub record BoundsCount {L : Parts} (language : Language L) : Type 0 where
  -- more steps than decide a delivery have a greater bound, with the same events
  pub more : (e : Event L) (s j sends : ℕ) → bound language e s ≡ Some (cost_of s sends)
      → bound language e (s + j) ≡ Some (cost_of (s + j) sends)
  -- a delivery that commits has one event for each message that the actor's response gathered
  pub committed : (c : Configuration L) (m : Message L) (s : ℕ) (v : Value L) (effects : Effects L) (left : ℕ)
      → slice_get c.behaviours m.target ≡ Some (Answers v)
      → respond language m.target (length c.behaviours) s v m.value no_effects s ≡ Gives tt effects left
      → bound language (c, m) s ≡ Some (cost_of s (length effects.sent))
