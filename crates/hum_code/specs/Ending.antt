-- What an event comes to, by what its delivery decides.
use Rattle.std.specs.Prelude.{◌≡◌, ℕ, ◌≤◌, ◌⊎◌, pos, length, List, Some, slice_get}
use Rattle.cap_words.specs.Words.{W, Fix}
use Rattle.cap_words.specs.Seen.{Seen}
use Rattle.instr_table.specs.Types.{AnActor, look_up}
use Rattle.instr_table.specs.Event.{Effects}
use Rattle.instr_table.specs.Sheet.{Account}
use Rattle.instr_table.specs.Outcome.{Going, Outcome, Goes, Faults, Commits}
use Rattle.instr_table.specs.Lane.{Lane, begun, lane_row}
use Rattle.hum_meaning.specs.Action as action
use Rattle.hum_meaning.specs.Action.{Gives, Fails, Undecided}
use Rattle.hum_meaning.specs.Laws.{IsDecided}
use Rattle.hum_core.specs.Bound.{most_for}
use Rattle.hum_core.specs.TestLists.{Tests}
use Rattle.hum_code.specs.WordLists.{Distinct}
use Rattle.hum_code.specs.Comes.{roll_with, NamesOnce}
use Rattle.hum_code.specs.Stands.{EffectsStand}
use Rattle.instr_table.specs.Spent.{Spent, spent_more}
use Rattle.hum_code.specs.Reaches.{Reaches}
use Rattle.hum_code.specs.Emission.{Emission}

-- the outcome of a delivery
abbrev pub DeliveryOutcome : Type 0
DeliveryOutcome = action.Outcome Tests (Unit {0})

-- how many messages a decided delivery gathers
abbrev pub sends_of : DeliveryOutcome → ℕ
sends_of (Gives u f left) = length f.sent
sends_of (Fails code sends) = sends
sends_of Undecided = 0

-- at most the cycles and quads of a delivery that s steps decide
pub record IsWithin (s : ℕ) (n : Spent) : Type 0 where
  pub cycles : n.cycles ≤ most_for s
  pub quads : n.quads ≤ most_for s

-- no word is there twice, and each is shown as an actor
pub record AreActors (t : Seen) (ws : List W) : Type 0 where
  pub once : Distinct ws
  pub shown : (i : ℕ) (w : W) → slice_get ws i ≡ Some w → look_up t w ≡ Some AnActor

module _ (em : Emission) where
  -- the event ends as the delivery does: it commits, and its record stands for what was gathered; or it fails with the code
  abbrev pub EndsSo : DeliveryOutcome → Seen → Effects → Outcome → Type 0
  EndsSo (Gives u f left) t e o = (o ≡ Commits) × EffectsStand em.layout em.setting.roll t f e
  EndsSo (Fails code sends) t e o = o ≡ Faults (Fix (pos code))
  EndsSo Undecided t e o = ⊥

  -- Of an event of that number, dispatched in the store of the setting, at each point that it reaches, and of its next row with any sheet:
  -- it commits only where its delivery is decided as committed, and then its record stands for what was gathered; it fails only where its
  -- delivery is decided as failed, with its code; and where s steps decide its delivery, it goes on or ends so, and what it was charged
  -- is within the bound, the next instruction included: so much of cycles and quads, and an event for each message that is gathered.
  pub record FollowsDelivery (out : ℕ → DeliveryOutcome) : Type 0 where
    pub commits : (number : ℕ) (t : Seen) (l : Lane) (n : Spent) (sheet : List Account)
        → Reaches em.setting.base (begun number em.setting.own) t l n → NamesOnce em.setting l.effects → (lane_row t sheet l).outcome ≡ Commits
        → (s : ℕ) × (f : action.Effects Tests) × (left : ℕ) × (out s ≡ Gives tt f left) × EffectsStand em.layout em.setting.roll t f l.effects
    pub fails : (number : ℕ) (t : Seen) (l : Lane) (n : Spent) (sheet : List Account) (w : W)
        → Reaches em.setting.base (begun number em.setting.own) t l n → NamesOnce em.setting l.effects → (lane_row t sheet l).outcome ≡ Faults w
        → (s : ℕ) × (code : ℕ) × (sends : ℕ) × (out s ≡ Fails code sends) × (w ≡ Fix (pos code))
    pub decided : (number : ℕ) (t : Seen) (l : Lane) (n : Spent) (sheet : List Account) (s : ℕ)
        → Reaches em.setting.base (begun number em.setting.own) t l n → NamesOnce em.setting l.effects → IsDecided (out s)
        → IsWithin s (spent_more n (lane_row t sheet l).charge)
        × (EndsSo (out s) t l.effects (lane_row t sheet l).outcome ⊎ ((g : Going) × ((lane_row t sheet l).outcome ≡ Goes g)))
    pub sends : (number : ℕ) (t : Seen) (l : Lane) (n : Spent) (sheet : List Account) (s : ℕ)
        → Reaches em.setting.base (begun number em.setting.own) t l n → AreActors t (roll_with em.setting.roll l.effects) → IsDecided (out s)
        → (spent_more n (lane_row t sheet l).charge).events ≤ sends_of (out s)
