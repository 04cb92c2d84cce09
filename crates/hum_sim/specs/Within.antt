-- What events spend, and the bounds of their deliveries.
use Rattle.std.specs.Prelude.{◌≡◌, ℕ, ◌+◌, ◌≤◌, List, [], ◌∷◌, map, Some}
use Rattle.instr_table.specs.declared.charge.Quota.{Quota}
use Rattle.instr_table.specs.declared.charge.Quota.TheVariants.{Memory, Events, Cycles}
use Rattle.instr_table.specs.Sheet.{held}
use Rattle.instr_table.specs.Lane.{Lane}
use Rattle.vm_turn.specs.State.{State, root}
use Rattle.hum_meaning.specs.Value.{Parts}
use Rattle.hum_meaning.specs.Language.{Language}
use Rattle.hum_meaning.specs.Deliver.{Message, Configuration}
use Rattle.hum_meaning.specs.After.{Entry, message_of, Follows}
use Rattle.hum_core.specs.Alike.{Each}
use Rattle.hum_core.specs.Bound.{Cost, Event, bound, HasBound, HaveBounds, Fit}
use Rattle.instr_table.specs.Spent.{Spent}
use Rattle.vm_turn.specs.Spending.{Spending, spent_in_flight}

-- at most that much was spent, in each kind
pub record SpentWithin (n : Spent) (cost : Cost) : Type 0 where
  pub cycles : n.cycles ≤ cost.cycles
  pub memory : n.quads ≤ cost.memory
  pub events : n.events ≤ cost.events

-- what a bound allows of a kind
abbrev pub allowed : Quota → Cost → ℕ
allowed Memory c = c.memory
allowed Events c = c.events
allowed Cycles c = c.cycles

-- these are the pending messages of these events in flight
abbrev pub MessagesOf : {L : Parts} → Configuration L → List Lane → List (Message L) → Type 0
MessagesOf c flight messages = Each (λ (l : Lane) m. message_of l.number c.pending ≡ Some m) flight messages

module _ {L : Parts} (language : Language L) where
  -- a delivery's event spent no more than the bound by each number of steps that decides the delivery
  abbrev pub IsWithin : Event L → Spent → Type 0
  IsWithin delivery spent = (s : ℕ) (cost : Cost) → bound language delivery s ≡ Some cost → SpentWithin spent cost

  -- so it is of each entry's event
  abbrev pub AreWithin : Spending → (c : Configuration L) (journal : List Entry) (d : Configuration L) → Follows language c journal d → Type 0
  AreWithin spent c [] d f = Unit {0}
  AreWithin spent c (e ∷ more) d f = IsWithin (c, f.1.message) (spent e.message) × AreWithin spent f.0 more d f.2

  -- a bound of each entry's delivery, by one of the numbers of steps that decide it
  abbrev pub FinishedBounds : (c : Configuration L) (journal : List Entry) (d : Configuration L) → Follows language c journal d → List Cost → Type 0
  FinishedBounds c [] d f [] = Unit {0}
  FinishedBounds c (e ∷ more) d f (cost ∷ costs) = HasBound language (c, f.1.message) cost × FinishedBounds f.0 more d f.2 costs
  FinishedBounds c _ d f _ = ⊥

  -- No choice of one number of steps for each event in flight decides all their deliveries so that the bounds fit
  -- what the root holds of that kind and what these events have spent of it since their dispatch.
  abbrev pub NoChoiceFits : Configuration L → Spending → State → Quota → Type 0
  NoChoiceFits c spent s kind =
      (messages : List (Message L)) (costs : List Cost) → MessagesOf c s.flight messages
      → HaveBounds language (map (λ m. (c, m)) messages) costs
      → Fit (allowed kind) costs (held s.sheet root kind + spent_in_flight kind spent s.flight) → ⊥
