-- What is so of all code that stands for a program.
use Rattle.std.specs.Prelude.{◌≡◌, ℕ, List, ◌++◌, length, Some, slice_get}
use Rattle.cap_words.specs.declared.word.Quad.{Quad}
use Rattle.cap_words.specs.Words.{W}
use Rattle.cap_words.specs.Seen.{Seen}
use Rattle.instr_table.specs.Types.{AnActor, look_up, Grows}
use Rattle.instr_table.specs.Event.{Own, Sent}
use Rattle.instr_table.specs.Lane.{Lane, begun}
use Rattle.instr_table.specs.Making.{NoCodeInRam}
use Rattle.instr_table.specs.Reach.{Every}
use Rattle.instr_table.specs.Spent.{Spent}
use Rattle.hum_meaning.specs.Value.{Value, Env, Function}
use Rattle.hum_meaning.specs.Action.{no_effects}
use Rattle.hum_meaning.specs.Deliver.{respond}
use Rattle.hum_core.specs.Numbered.{Opening}
use Rattle.hum_core.specs.TestLists.{Tests, tests_language}
use Rattle.hum_code.specs.Comes.{Setting}
use Rattle.hum_code.specs.Reaches.{Reaches}
use Rattle.hum_code.specs.Layout.{Layout}
use Rattle.hum_code.specs.Stands.{Stands, StandsEnv}
use Rattle.hum_code.specs.Emission.{Emission}
use Rattle.hum_core.specs.Openings.{outermost}
use Rattle.hum_code.specs.Opening.{Devices, Opens}
use Rattle.hum_code.specs.Ending.{DeliveryOutcome, FollowsDelivery}
use Rattle.hum_code.specs.Program.{HoldsProgram}

-- the delivery of a value to an actor with that behaviour, within s steps; the actors that it makes are numbered after the roll
abbrev pub delivery : Emission → Value Tests → Value Tests → (s : ℕ) → DeliveryOutcome
delivery em behaviour v s = respond (tests_language em.layout.units) em.self (length em.setting.roll) s behaviour v no_effects s

-- an event of an actor with the code that applies a behaviour, whose state stands for one, and whose message stands for a value
abbrev pub EventsFollow : Type 0
EventsFollow =
    (em : Emission) (behaviour v : Value Tests) → em.setting.own.code ≡ em.layout.apply
    → Stands em.layout em.setting.base em.setting.roll em.setting.own.state behaviour
    → Stands em.layout em.setting.base em.setting.roll em.setting.own.message v
    → FollowsDelivery em (delivery em behaviour v)

-- an event of the first actor, whose behaviour is the file in the outermost environment, whatever its message stands for
abbrev pub OpeningsFollow : Type 0
OpeningsFollow =
    (em : Emission) (v : Value Tests) → em.setting.own.code ≡ em.layout.boot → Opens em
    → FollowsDelivery em (delivery em (Function Opening outermost) v)

-- ---- of an image that holds a program

-- an event of the actor of that number on the roll, in a store with the image's cells
abbrev pub event_in : {boot : W} {cells : List Quad} {lay : Layout} → HoldsProgram boot cells lay → (m : Setting) → m.base.rom ≡ cells → (self : ℕ)
    → slice_get m.roll self ≡ Some m.own.actor → look_up m.base m.own.actor ≡ Some AnActor → Emission
event_in {boot} {cells} {lay} program m rom self self_is actor_is = record {
  setting = m;
  layout = lay;
  code = program.code m rom;
  self = self;
  self_is = self_is;
  actor_is = actor_is;
}

-- The event does what the program means. Where its actor has the code that applies a behaviour, its state stands for one and its message for
-- a value, it follows the delivery of the value to the behaviour. Where it begins at the boot word, with the devices in its actor's state, it
-- follows a delivery to the first actor's behaviour, which answers every message with the whole file.
pub record FollowsProgram (boot : W) (em : Emission) : Type 0 where
  pub events : (behaviour v : Value Tests) → em.setting.own.code ≡ em.layout.apply
      → Stands em.layout em.setting.base em.setting.roll em.setting.own.state behaviour
      → Stands em.layout em.setting.base em.setting.roll em.setting.own.message v
      → FollowsDelivery em (delivery em behaviour v)
  pub opening : (v : Value Tests) → em.setting.own.code ≡ boot → Devices em.layout em.setting.base em.setting.roll em.setting.own.state
      → FollowsDelivery em (delivery em (Function Opening outermost) v)

-- so does each event in a store with the image's cells
abbrev pub ProgramsFollow : Type 0
ProgramsFollow =
    (boot : W) (cells : List Quad) (lay : Layout) (program : HoldsProgram boot cells lay) (m : Setting) (rom : m.base.rom ≡ cells) (self : ℕ)
    (self_is : slice_get m.roll self ≡ Some m.own.actor) (actor_is : look_up m.base m.own.actor ≡ Some AnActor)
    → FollowsProgram boot (event_in program m rom self self_is actor_is)

-- each message that an event has sent is under the event's sponsor, where code stands in the image alone
abbrev pub SentUnderOwn : Type 0
SentUnderOwn =
    (boot : W) (cells : List Quad) (lay : Layout) → HoldsProgram boot cells lay → (s0 s : Seen) (number : ℕ) (own : Own) (l : Lane) (n : Spent)
    → Reaches s0 (begun number own) s l n → s.rom ≡ cells → NoCodeInRam s
    → Every (λ (m : Sent). m.sponsor ≡ own.sponsor) l.effects.sent

-- ---- what stands stays

-- what stands for a value or an environment still does in a store that shows what was shown, and over a longer roll
pub record StandsOn (lay : Layout) (s t : Seen) (roll more : List W) : Type 0 where
  pub values : (w : W) (v : Value Tests) → Stands lay s roll w v → Stands lay t (roll ++ more) w v
  pub environments : (w : W) (env : Env Tests) → StandsEnv lay s roll w env → StandsEnv lay t (roll ++ more) w env

abbrev pub StandingStays : Type 0
StandingStays = (lay : Layout) (s t : Seen) (roll more : List W) → Grows s t → StandsOn lay s t roll more
