-- With one lane: what a run writes, and deliveries that come to rest within the grant.
use Rattle.std.specs.Prelude.{◌≡◌, ℕ, suc, List, [], ◌∷◌, length, None}
use Rattle.quad_memory.specs.Image.{RomImage}
use Rattle.instr_table.specs.declared.charge.Quota.{Quota}
use Rattle.vm_sponsor.specs.declared.amounts.Amounts.{Amounts}
use Rattle.vm_sponsor.specs.Ledger.{of_kind}
use Rattle.vm_turn.specs.declared.journal.Turn.TheVariants.{Rest}
use Rattle.vm_turn.specs.Turn.{turn}
use Rattle.vm_turn.specs.Run.{run}
use Rattle.hum_syntax.specs.declared.tree.Stmt.{Stmt}
use Rattle.hum_meaning.specs.Value.{Parts}
use Rattle.hum_meaning.specs.Language.{Language}
use Rattle.hum_meaning.specs.Deliver.{Configuration}
use Rattle.hum_meaning.specs.Named.{Named, written}
use Rattle.hum_meaning.specs.Written.{humus}
use Rattle.hum_meaning.specs.After as after
use Rattle.hum_meaning.specs.After.{Entry, Enters}
use Rattle.hum_core.specs.Alike.{Each}
use Rattle.hum_core.specs.Bound.{Cost, HasBound, Fit}
use Rattle.hum_code.specs.Layout.{Layout}
use Rattle.hum_sim.specs.Program.{HoldsFile}
use Rattle.hum_sim.specs.Journal.{EntryAs, HasRunOut}
use Rattle.vm_turn.specs.Spending.{spent_in_run}
use Rattle.hum_sim.specs.Within.{allowed}
use Rattle.hum_sim.specs.File.{StandsForFile}

-- Two runs of a file with one lane, over any images that hold its program and under any grants, write the same once
-- as many events have finished, where no root ran out: the output after n events is a function of the text and n.
abbrev pub OutputIsTheTexts : Type 0
OutputIsTheTexts =
    (file : List Stmt) (image image' : RomImage) (layout layout' : Layout) → HoldsFile file image layout → HoldsFile file image' layout'
    → (grant grant' : Amounts) (picks picks' : List ℕ) → (run image grant 1 picks).out_of ≡ None → (run image' grant' 1 picks').out_of ≡ None
    → length (run image grant 1 picks).journal ≡ length (run image' grant' 1 picks').journal
    → (run image grant 1 picks).output ≡ (run image' grant' 1 picks').output

-- ---- deliveries that come to rest

module _ {L : Parts} (language : Language L) where
  -- the deliveries of messages k, k + 1 and so on, each decided, with a bound of each, lead from the first
  -- configuration to the second
  abbrev pub Delivers : ℕ → Configuration L → List Entry → List Cost → Configuration L → Type 0
  Delivers k c [] [] d = c ≡ d
  Delivers k c (e ∷ more) (cost ∷ costs) d =
      (e.message ≡ k) × (HasRunOut e.ending → ⊥) × (between : Configuration L) × (enters : Enters language c e between)
      × HasBound language (c, enters.message) cost × Delivers (suc k) between more costs d
  Delivers k c _ _ d = ⊥

  -- from the first configuration they come to rest in the second, and their bounds fit the grant in every kind
  pub record ComesToRest (grant : Amounts) (c d : Configuration L) : Type 0 where
    pub entries : List Entry
    pub costs : List Cost
    pub delivers : Delivers 0 c entries costs d
    pub rests : d.pending ≡ []
    pub fits : (kind : Quota) → Fit (allowed kind) costs (of_kind kind grant)

-- then the root never runs out, and at rest the run has made just these deliveries and stands for the configuration
-- that they lead to
pub record CompletesThem (file : List Stmt) (image : RomImage) (layout : Layout) (grant : Amounts) (picks : List ℕ)
    (d : Configuration (Named written)) (entries : List Entry) : Type 0 where
  pub holds_out : (run image grant 1 picks).out_of ≡ None
  pub journal : (pick : ℕ) → (turn (run image grant 1 picks) pick).1 ≡ Rest → Each EntryAs (run image grant 1 picks).journal entries
  pub stands : (pick : ℕ) → (turn (run image grant 1 picks) pick).1 ≡ Rest
      → StandsForFile file image layout (spent_in_run image grant 1 picks) (run image grant 1 picks) d

-- so it is of every run with one lane of an image that holds a file's program
abbrev pub RunsComeToRest : Type 0
RunsComeToRest =
    (file : List Stmt) (image : RomImage) (layout : Layout) → HoldsFile file image layout → (grant : Amounts) (picks : List ℕ)
    → (d : Configuration (Named written)) (r : ComesToRest humus grant (after.opening file) d)
    → CompletesThem file image layout grant picks d r.entries
