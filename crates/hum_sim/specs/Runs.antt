-- Runs of a file's image.
use Rattle.std.specs.Prelude.{◌≡◌, ℕ, ◌+◌, ◌≤◌, List, [], ◌∷◌, ◌++◌, map, Some, None}
use Rattle.instr_table.specs.declared.charge.Quota.{Quota}
use Rattle.instr_table.specs.Sheet.{account, short}
use Rattle.quad_memory.specs.Image.{RomImage}
use Rattle.vm_sponsor.specs.declared.amounts.Amounts.{Amounts}
use Rattle.vm_sponsor.specs.Ledger.{of_kind}
use Rattle.vm_turn.specs.declared.journal.Outcome.TheVariants.{RanOut}
use Rattle.vm_turn.specs.declared.journal.Turn.TheVariants.{Rest, Spent}
use Rattle.vm_turn.specs.State.{State, root}
use Rattle.vm_turn.specs.Turn.{entry, turn}
use Rattle.vm_turn.specs.Changes.{Picked, next_row}
use Rattle.vm_turn.specs.Run.{run}
use Rattle.hum_syntax.specs.declared.tree.Stmt.{Stmt}
use Rattle.hum_meaning.specs.Deliver.{Message, Configuration}
use Rattle.hum_meaning.specs.Named.{Named, written}
use Rattle.hum_meaning.specs.Written.{humus}
use Rattle.hum_meaning.specs.After as after
use Rattle.hum_meaning.specs.After.{After}
use Rattle.hum_core.specs.Alike.{Each}
use Rattle.hum_core.specs.Bound.{Cost, HaveBounds, Fit}
use Rattle.hum_code.specs.Layout.{Layout}
use Rattle.hum_sim.specs.Program.{HoldsFile}
use Rattle.vm_turn.specs.Spending.{Spending, spent_in_run, spent_in_flight, spent_by_ended}
use Rattle.hum_sim.specs.Spent.{spent_by_root}
use Rattle.hum_sim.specs.Journal.{EntryAs, AreDecided, HaveCodes}
use Rattle.hum_sim.specs.Legal.{IsLegal, InOrderOfNumbers, NumberedFrom}
use Rattle.hum_sim.specs.Within.{allowed, MessagesOf, AreWithin, FinishedBounds, NoChoiceFits}
use Rattle.hum_sim.specs.File.{StandsForFile}

-- ---- what is so of each state of a run

-- The machine's journal is one of deliveries of the file. They lead from the opening configuration to the one that
-- the state stands for, in a legal order. Each event committed or failed as its delivery does, unless the root ran
-- out. Each spent no more than its delivery's bound, and what the root spent is what the events that ended and those
-- in flight did.
pub record FollowsItsJournal (file : List Stmt) (image : RomImage) (layout : Layout) (spent : Spending) (s : State) : Type 0 where
  pub journal : List after.Entry
  pub configuration : Configuration (Named written)
  pub same : Each EntryAs s.journal journal
  pub follows : After file journal configuration
  pub legal : IsLegal humus s.lanes (after.opening file) journal configuration follows
  pub stands : StandsForFile file image layout spent s configuration
  pub decided : s.out_of ≡ None → AreDecided journal
  pub within : AreWithin humus spent (after.opening file) journal configuration follows
  pub paid : (kind : Quota) → spent_by_root kind s ≡ spent_by_ended kind spent s.journal + spent_in_flight kind spent s.flight

-- What follows from that: the output is the configuration's; each failure has one of the codes 1 to 8; messages to
-- one target finish in the order of their numbers, and with one lane the journal's numbers are 0, 1, 2 and so on.
pub record WhatFollows (file : List Stmt) (image : RomImage) (layout : Layout) (spent : Spending) (s : State)
    (f : FollowsItsJournal file image layout spent s) : Type 0 where
  pub output : s.output ≡ f.configuration.output
  pub codes : HaveCodes f.journal
  pub in_order : InOrderOfNumbers humus (after.opening file) f.journal f.configuration f.follows
  pub numbered : s.lanes ≡ 1 → NumberedFrom 0 f.journal

-- ---- why a run stops

-- In the turn with this pick the root can't pay for the next instruction of the event that is picked, since it holds
-- too little of that kind.
pub record RootIsShort (kind : Quota) (s : State) (pick : ℕ) : Type 0 where
  pub event : Picked s pick
  pub due : short (account s.sheet root) (next_row event).charge ≡ Some kind
  pub answer : (turn s pick).1 ≡ Spent root kind

module _ (file : List Stmt) (image : RomImage) (layout : Layout) (grant : Amounts) (lanes : ℕ) where
  -- Why the root ran out: before one of the run's turns it had not, and the state followed its journal; in that turn
  -- it was short, and the event that it could not pay for has the last entry; and no choice of numbers of steps made
  -- the bounds of the events in flight fit.
  pub record RanOutBecause (picks : List ℕ) (kind : Quota) : Type 0 where
    pub earlier : List ℕ
    pub pick : ℕ
    pub later : List ℕ
    pub picks_are : picks ≡ earlier ++ pick ∷ later
    pub running : (run image grant lanes earlier).out_of ≡ None
    pub before : FollowsItsJournal file image layout (spent_in_run image grant lanes earlier) (run image grant lanes earlier)
    pub is_short : RootIsShort kind (run image grant lanes earlier) pick
    pub last : (run image grant lanes picks).journal
        ≡ (run image grant lanes earlier).journal ++ entry is_short.event.lane.number (RanOut kind) ∷ []
    pub none_fits : NoChoiceFits humus before.configuration (spent_in_run image grant lanes earlier) (run image grant lanes earlier) kind

  -- After these picks the bounds of all finished deliveries and of those in flight fit the grant in every kind; each
  -- is by a number of steps that decides its delivery.
  pub record BoundsFit (picks : List ℕ) : Type 0 where
    pub at : FollowsItsJournal file image layout (spent_in_run image grant lanes picks) (run image grant lanes picks)
    pub finished : List Cost
    pub bound_finished : FinishedBounds humus (after.opening file) at.journal at.configuration at.follows finished
    pub messages : List (Message (Named written))
    pub are_in_flight : MessagesOf at.configuration (run image grant lanes picks).flight messages
    pub in_flight : List Cost
    pub bound_in_flight : HaveBounds humus (map (λ m. (at.configuration, m)) messages) in_flight
    pub fit : (kind : Quota) → Fit (allowed kind) (finished ++ in_flight) (of_kind kind grant)

  -- so it is at each moment of a run
  abbrev pub BoundsAlwaysFit : List ℕ → Type 0
  BoundsAlwaysFit picks = (earlier later : List ℕ) → picks ≡ earlier ++ later → BoundsFit earlier

  -- ---- whole runs

  -- After these picks the state follows its journal. It is at rest where no message is pending, and, with a lane at
  -- least, there alone. The root ran out only for its cause, and never where the bounds fit at each moment.
  pub record RunStands (picks : List ℕ) : Type 0 where
    pub lanes_are : (run image grant lanes picks).lanes ≡ lanes
    pub follows : FollowsItsJournal file image layout (spent_in_run image grant lanes picks) (run image grant lanes picks)
    pub what_follows : WhatFollows file image layout (spent_in_run image grant lanes picks) (run image grant lanes picks) follows
    pub comes_to_rest : (pick : ℕ) → (run image grant lanes picks).out_of ≡ None → follows.configuration.pending ≡ []
        → (turn (run image grant lanes picks) pick).1 ≡ Rest
    pub nothing_pending : (pick : ℕ) → 1 ≤ lanes → (turn (run image grant lanes picks) pick).1 ≡ Rest → follows.configuration.pending ≡ []
    pub why_out : (kind : Quota) → (run image grant lanes picks).out_of ≡ Some kind → RanOutBecause picks kind
    pub holds_out : BoundsAlwaysFit picks → (run image grant lanes picks).out_of ≡ None

-- so it is of every run of an image that holds a file's program: for every grant, number of lanes and list of picks
abbrev pub RunsFollowTheirJournals : Type 0
RunsFollowTheirJournals =
    (file : List Stmt) (image : RomImage) (layout : Layout) → HoldsFile file image layout
    → (grant : Amounts) (lanes : ℕ) (picks : List ℕ) → RunStands file image layout grant lanes picks
