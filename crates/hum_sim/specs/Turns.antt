-- What a turn makes of what a state stands for.
use Rattle.std.specs.Prelude.{◌≡◌, ◌⊎◌, ℕ, List, [], ◌∷◌, ◌++◌, Some}
use Rattle.instr_table.specs.declared.charge.Quota.{Quota}
use Rattle.quad_memory.specs.Image.{RomImage}
use Rattle.vm_sponsor.specs.declared.amounts.Amounts.{Amounts}
use Rattle.vm_turn.specs.declared.journal.Entry.{Entry}
use Rattle.vm_turn.specs.declared.journal.Outcome.TheVariants.{RanOut}
use Rattle.vm_turn.specs.State.{State}
use Rattle.vm_turn.specs.Turn.{turn}
use Rattle.vm_turn.specs.Sound.{Sound}
use Rattle.hum_syntax.specs.declared.tree.Stmt.{Stmt}
use Rattle.hum_meaning.specs.Deliver.{Configuration}
use Rattle.hum_meaning.specs.Named.{Named, written}
use Rattle.hum_meaning.specs.Written.{humus}
use Rattle.hum_meaning.specs.After as after
use Rattle.hum_meaning.specs.After.{Enters}
use Rattle.hum_code.specs.Layout.{Layout}
use Rattle.vm_turn.specs.Spending.{Spending, turn_spending}
use Rattle.hum_sim.specs.Journal.{EntryAs, HasRunOut}
use Rattle.hum_sim.specs.Legal.{IsItsTurn}
use Rattle.hum_sim.specs.Within.{IsWithin}
use Rattle.hum_sim.specs.File.{StandsForFile}

-- The turn adds an entry, and the second configuration is the one that the entry's delivery makes of the first. It
-- was the message's turn, the event spent no more than the delivery's bound, and it ran out of a kind only where the
-- root does.
pub record AddsAnEntry (spent : Spending) (s t : State) (c d : Configuration (Named written)) : Type 0 where
  pub entry : Entry
  pub delivery : after.Entry
  pub added : t.journal ≡ s.journal ++ entry ∷ []
  pub same : EntryAs entry delivery
  pub enters : Enters humus c delivery d
  pub in_turn : IsItsTurn s.lanes c enters.message
  pub within : IsWithin humus (c, enters.message) (spent delivery.message)
  pub out : HasRunOut delivery.ending → (kind : Quota) × (entry.outcome ≡ RanOut kind) × (t.out_of ≡ Some kind)

-- what turns keep: what every machine keeps under its grant, and what the state stands for
pub record Keeps (file : List Stmt) (image : RomImage) (layout : Layout) (grant : Amounts) (spent : Spending)
    (s : State) (c : Configuration (Named written)) : Type 0 where
  pub sound : Sound grant s
  pub stands : StandsForFile file image layout spent s c

-- The next state stands for the same configuration, or for the one that the entry makes of it that the turn adds.
pub record TurnStands (file : List Stmt) (image : RomImage) (layout : Layout) (grant : Amounts) (spent : Spending)
    (s : State) (pick : ℕ) (c : Configuration (Named written)) : Type 0 where
  pub configuration : Configuration (Named written)
  pub keeps : Keeps file image layout grant (turn_spending spent s pick) (turn s pick).0 configuration
  pub lanes : (turn s pick).0.lanes ≡ s.lanes
  pub step : (((turn s pick).0.journal ≡ s.journal) × (configuration ≡ c))
      ⊎ AddsAnEntry (turn_spending spent s pick) s (turn s pick).0 c configuration

-- so it is after every turn, for every pick
abbrev pub TurnsKeepTheStanding : Type 0
TurnsKeepTheStanding =
    (file : List Stmt) (image : RomImage) (layout : Layout) (grant : Amounts) (spent : Spending) (s : State) (c : Configuration (Named written))
    → Keeps file image layout grant spent s c → (pick : ℕ) → TurnStands file image layout grant spent s pick c
