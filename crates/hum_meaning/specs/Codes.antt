-- With which codes what programs do fails.
use Rattle.std.specs.Prelude.{◌≡◌, ℕ, ◌≤◌, Some, slice_get}
use Rattle.hum_meaning.specs.Value.{Parts, Value, Env, Device, Answers}
use Rattle.hum_meaning.specs.Action.{Effects, Fails, device_refused}
use Rattle.hum_meaning.specs.Language.{Language}
use Rattle.hum_meaning.specs.Meaning.{evaluate, match, execute}
use Rattle.hum_meaning.specs.Deliver.{Message, Configuration, Failed, respond, deliver}
use Rattle.hum_meaning.specs.Written.{humus}

-- the codes of what an actor does, from `no_match` to `thrown`
abbrev pub IsActorsCode : ℕ → Type 0
IsActorsCode code = (1 ≤ code) × (code ≤ 7)

-- with that of a device that refuses
abbrev pub IsCode : ℕ → Type 0
IsCode code = (1 ≤ code) × (code ≤ 8)

-- a failure has one of these codes, after whatever effects, by any number of steps
pub record FailsByCode {L : Parts} (language : Language L) : Type 0 where
  pub evaluation : (self base : ℕ) (e : L.Expr) (env : Env L) (effects : Effects L) (s code sends : ℕ)
      → evaluate language self base e env effects s ≡ Fails code sends → IsActorsCode code
  pub matching : (self base : ℕ) (p : L.Pattern) (v : Value L) (env : Env L) (effects : Effects L) (s code sends : ℕ)
      → match language self base p v env effects s ≡ Fails code sends → IsActorsCode code
  pub execution : (self base : ℕ) (b : L.Body) (env : Env L) (effects : Effects L) (s code sends : ℕ)
      → execute language self base b env effects s ≡ Fails code sends → IsActorsCode code
  -- a behaviour that is applied to a message
  pub responses : (self base s : ℕ) (behaviour v : Value L) (effects : Effects L) (left code sends : ℕ)
      → respond language self base s behaviour v effects left ≡ Fails code sends → IsActorsCode code
  -- deliveries to actors, to devices and to any target
  pub actors : (c d : Configuration L) (m : Message L) (v : Value L) (s code sends : ℕ) → slice_get c.behaviours m.target ≡ Some (Answers v)
      → deliver language c m s ≡ Failed code sends d → IsActorsCode code
  pub devices : (c d : Configuration L) (m : Message L) (device s code sends : ℕ) → slice_get c.behaviours m.target ≡ Some (Device device)
      → deliver language c m s ≡ Failed code sends d → code ≡ device_refused
  pub deliveries : (c d : Configuration L) (m : Message L) (s code sends : ℕ) → deliver language c m s ≡ Failed code sends d → IsCode code

abbrev pub FailuresHaveCodes : Type 0
FailuresHaveCodes = FailsByCode humus
