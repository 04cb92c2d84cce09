-- What a turn makes of what a state stands for, in the program's own language.
use Rattle.instr_table.specs.Spent.{Spent}
use Rattle.vm_turn.specs.Spending.{Spending}
use Rattle.std.specs.Prelude.{◌≡◌, ◌⊎◌, ℕ, List, [], ◌∷◌, ◌++◌, Some}
use Rattle.instr_table.specs.declared.charge.Quota.{Quota}
use Rattle.cap_words.specs.declared.word.Quad.{Quad}
use Rattle.vm_turn.specs.declared.journal.Entry.{Entry}
use Rattle.vm_turn.specs.declared.journal.Outcome.TheVariants.{RanOut}
use Rattle.vm_turn.specs.State.{State}
use Rattle.hum_meaning.specs.Value.{Parts}
use Rattle.hum_meaning.specs.Language.{Language}
use Rattle.hum_meaning.specs.Deliver.{Configuration}
use Rattle.hum_meaning.specs.After as after
use Rattle.hum_meaning.specs.After.{Enters}
use Rattle.hum_core.specs.TestLists.{Tests, tests_language}
use Rattle.hum_code.specs.Layout.{Layout}
use Rattle.hum_sim.specs.Journal.{EntryAs, HasRunOut}
use Rattle.hum_sim.specs.Standing.{StateStands}
use Rattle.hum_sim.specs.Legal.{IsItsTurn}
use Rattle.hum_sim.specs.Within.{IsWithin}

-- an entry ends a pending message whose turn it is, and its event spent no more than the delivery's bound
pub record EntersLegally {L : Parts} (language : Language L) (lanes : ℕ) (spent : Spent) (c : Configuration L) (e : after.Entry) (d : Configuration L) : Type 0 where
  pub enters : Enters language c e d
  pub in_order : IsItsTurn lanes c enters.message
  pub within : IsWithin language (c, enters.message) spent

-- an entry is added, and the configuration is the one that it makes
pub record Entered (lay : Layout) (spent : Spending) (s t : State) (c d : Configuration Tests) : Type 0 where
  pub entry : Entry
  pub delivery : after.Entry
  pub added : t.journal ≡ s.journal ++ entry ∷ []
  pub same : EntryAs entry delivery
  pub enters : EntersLegally (tests_language lay.units) s.lanes (spent entry.message) c delivery d
  -- an event runs out only where the root does
  pub out : HasRunOut delivery.ending → (kind : Quota) × (entry.outcome ≡ RanOut kind) × (t.out_of ≡ Some kind)

-- the next state stands for the same configuration, or for the one that the entry makes of it that the turn adds
pub record Next (lay : Layout) (rom : List Quad) (spent : Spending) (s t : State) (c : Configuration Tests) : Type 0 where
  pub configuration : Configuration Tests
  pub stands : StateStands lay rom spent t configuration
  pub lanes : t.lanes ≡ s.lanes
  pub step : ((t.journal ≡ s.journal) × (configuration ≡ c)) ⊎ Entered lay spent s t c configuration
