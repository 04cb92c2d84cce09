-- The machine of a program stands for its configuration.
use Rattle.std.proofs.Common.{◌≡◌, ◌⊎◌, inl, inr, refl, ap, sym, subst, ◌∙◌, ℕ, suc, ◌+◌, Bool, true, false, List, [], ◌∷◌, ◌++◌, Option, arith, if◌then◌else◌}
use Rattle.std.specs.Prelude.{Result, Ok, Err}
use Rattle.quad_memory.specs.Image.{RomImage}
use Rattle.uasm_read.specs.Links.{Linked}
use Rattle.vm_sponsor.specs.declared.amounts.Amounts.{Amounts}
use Rattle.vm_turn.specs.State.{State}
use Rattle.vm_turn.specs.Turn.{turn}
use Rattle.vm_turn.specs.Boot.{booted}
use Rattle.vm_turn.specs.Run.{not_rest, unless_out, run, after, picks, pick_of, drawn, drawn_after}
use Rattle.vm_turn.specs.Spending.{Spending, spent_in_run, spending_after, turn_spending, none_spent}
use Rattle.vm_turn.proofs.Runs.{picks-next}
use Rattle.vm_turn.proofs.RunsSound.{run-sound}
use Rattle.instr_table.specs.declared.charge.Quota.{Quota}
use Rattle.vm_devices.specs.declared.delivery.WriteFault.{WriteFault}
use Rattle.vm_turn.specs.declared.journal.Turn.{Turn as Answer}
use Rattle.vm_machine.specs.Machine.{Machine, turns_by}
use Rattle.vm_machine.specs.View.{unwritten}
use Rattle.hum_syntax.specs.declared.Tree.{Tree}
use Rattle.hum_meaning.specs.Scope.{Scoped}
use Rattle.hum_meaning.specs.Deliver.{Configuration}
use Rattle.hum_meaning.specs.Named.{Named, written}
use Rattle.hum_meaning.specs.Written.{humus}
use Rattle.hum_meaning.specs.After as meaning
use Rattle.hum_core.specs.Programs.{program}
use Rattle.hum_core.specs.declared.tested.TestUnit.{TestUnit}
use Rattle.hum_emit.specs.Compiled.{compiled_module, layout_of}
use Rattle.hum_emit.specs.Shapes.{shapes_of, ShapesFit}
use Rattle.hum_emit.proofs.ShapeFiles.{shapes-fit}
use Rattle.hum_sim.specs.Program.{HoldsFile}
use Rattle.hum_sim.specs.Compiled.{Compiled, IsCompiled, HoldsItsTree}
use Rattle.hum_sim.specs.File.{StandsForFile}
use Rattle.hum_sim.specs.Turns.{AddsAnEntry, TurnStands}
use Rattle.hum_sim.specs.Runs.{RunStands}
use Rattle.hum_sim.specs.OneLane.{ComesToRest, CompletesThem}
use Rattle.hum_sim.specs.Sim.{Sim, RunsItsImage, Stands, Completes, Steps, KeepsStanding, file_of, layout_in, state_of, spending_of}
use Rattle.hum_sim.proofs.Emitted.{compiled_images_hold_their_files}
use Rattle.hum_sim.proofs.Turned.{turns_keep_the_standing}
use Rattle.hum_sim.proofs.Stops.{runs_follow_their_journals}
use Rattle.hum_sim.proofs.OneLane.{runs_come_to_rest}

-- the shapes of a formed and scoped file's units fit
pub fits : (tree : Tree) (units : List TestUnit) → Scoped tree.statements → units ≡ program tree.statements → ShapesFit units (shapes_of units)
fits tree units scoped same = subst (λ us. ShapesFit us (shapes_of us)) (sym same) (shapes-fit tree.statements tree.formed scoped)

pub holds : (tree : Tree) (units : List TestUnit) (image : RomImage) → IsCompiled tree units image → HoldsItsTree tree units image
holds tree units image is =
    subst (λ us. HoldsFile tree.statements image (layout_of us)) (sym is.units_are)
    (compiled_images_hold_their_files tree.statements image tree.formed is.accepted.scoped (subst (λ us. Linked (compiled_module us ∷ []) image.boot image.cells) is.units_are is.linked))

-- the machine's image holds the program
pub holds_file : (s : Sim) → RunsItsImage s → HoldsFile (file_of s) s.machine.image (layout_in s)
holds_file s is =
    subst (λ (image : RomImage). HoldsFile (file_of s) image (layout_in s)) (sym is.image_is) (holds s.compiled.tree s.compiled.units s.compiled.image is.compiled)

pub stands : (s : Sim) → RunsItsImage s → s.machine.state ≡ unwritten (state_of s) → Stands s
stands s is there = record {
  is_there = there;
  run = runs_follow_their_journals (file_of s) s.machine.image (layout_in s) (holds_file s is) s.machine.grant s.machine.state.lanes (picks s.machine.seed s.machine.turns);
}

pub completes : (s : Sim) → RunsItsImage s → Completes s
completes s is d r = runs_come_to_rest (file_of s) s.machine.image (layout_in s) (holds_file s is) s.machine.grant (picks s.machine.seed s.machine.turns) d r

-- ---- one turn more

spending_more : (x : Spending) (s : State) (ps : List ℕ) (p : ℕ) → spending_after x s (ps ++ p ∷ []) ≡ turn_spending (spending_after x s ps) (after s ps) p
spending_more x s [] p = refl
spending_more x s (q ∷ ps) p = spending_more (turn_spending x s q) (turn s q).0 ps p

after_more : (s : State) (ps : List ℕ) (p : ℕ) → after s (ps ++ p ∷ []) ≡ (turn (after s ps) p).0
after_more s [] p = refl
after_more s (q ∷ ps) p = after_more (turn s q).0 ps p

run_next : (image : RomImage) (grant : Amounts) (lanes seed n : ℕ)
    → run image grant lanes (picks seed (suc n)) ≡ (turn (run image grant lanes (picks seed n)) (pick_of (drawn (drawn_after seed n)))).0
run_next image grant lanes seed n =
    ap (λ (ps : List ℕ). run image grant lanes ps) (picks-next seed n) ∙ after_more (booted image grant lanes) (picks seed n) (pick_of (drawn (drawn_after seed n)))

spent_next : (image : RomImage) (grant : Amounts) (lanes seed n : ℕ)
    → spent_in_run image grant lanes (picks seed (suc n)) ≡ turn_spending (spent_in_run image grant lanes (picks seed n)) (run image grant lanes (picks seed n)) (pick_of (drawn (drawn_after seed n)))
spent_next image grant lanes seed n =
    ap (λ (ps : List ℕ). spent_in_run image grant lanes ps) (picks-next seed n)
    ∙ spending_more none_spent (booted image grant lanes) (picks seed n) (pick_of (drawn (drawn_after seed n)))

module _ (s : Sim) (is : RunsItsImage s) (c : Configuration (Named written)) where
  abbrev m : Machine
  m = s.machine

  -- what the run after n turns of such a machine stands for
  record At (image : RomImage) (grant : Amounts) (lanes seed n : ℕ) : Type 0 where
    pub configuration : Configuration (Named written)
    pub stands : StandsForFile (file_of s) image (layout_in s) (spent_in_run image grant lanes (picks seed n)) (run image grant lanes (picks seed n)) configuration
    pub step : (((run image grant lanes (picks seed n)).journal ≡ (state_of s).journal) × (configuration ≡ c))
        ⊎ AddsAnEntry (spent_in_run image grant lanes (picks seed n)) (state_of s) (run image grant lanes (picks seed n)) c configuration

  none : StandsForFile (file_of s) m.image (layout_in s) (spending_of s) (state_of s) c → At m.image m.grant m.state.lanes m.seed m.turns
  none h = record { configuration = c; stands = h; step = inl (refl, refl) }

  abbrev Next : Spending → State → Type 0
  Next spending t = (d : Configuration (Named written)) × StandsForFile (file_of s) m.image (layout_in s) spending t d
      × (((t.journal ≡ (state_of s).journal) × (d ≡ c)) ⊎ AddsAnEntry spending (state_of s) t c d)

  one : StandsForFile (file_of s) m.image (layout_in s) (spending_of s) (state_of s) c → At m.image m.grant m.state.lanes m.seed (suc m.turns)
  one h =
      let pick = pick_of (drawn (drawn_after m.seed m.turns)) in
      let x : TurnStands (file_of s) m.image (layout_in s) m.grant (spending_of s) (state_of s) pick c
      = turns_keep_the_standing (file_of s) m.image (layout_in s) m.grant (spending_of s) (state_of s) c
      (record { sound = run-sound m.image m.grant m.state.lanes (picks m.seed m.turns); stands = h }) pick in
      let y : Next (spent_in_run m.image m.grant m.state.lanes (picks m.seed (suc m.turns))) (run m.image m.grant m.state.lanes (picks m.seed (suc m.turns)))
      = subst (λ (z : Spending). Next z (run m.image m.grant m.state.lanes (picks m.seed (suc m.turns)))) (sym (spent_next m.image m.grant m.state.lanes m.seed m.turns))
      (subst (λ (t : State). Next (turn_spending (spending_of s) (state_of s) pick) t) (sym (run_next m.image m.grant m.state.lanes m.seed m.turns))
      (x.configuration, x.keeps.stands, x.step)) in
      record { configuration = y.0; stands = y.1; step = y.2 }

  -- of a machine with the same image, grant, lanes and seed
  same : (t : Machine) (n : ℕ) → t.image ≡ m.image → t.grant ≡ m.grant → t.state.lanes ≡ m.state.lanes → t.seed ≡ m.seed → t.turns ≡ n
      → At m.image m.grant m.state.lanes m.seed n → At t.image t.grant t.state.lanes t.seed t.turns
  same t n i g l d k a =
      subst (λ (z : RomImage). At z t.grant t.state.lanes t.seed t.turns) (sym i)
      (subst (λ (z : Amounts). At m.image z t.state.lanes t.seed t.turns) (sym g)
      (subst (λ (z : ℕ). At m.image m.grant z t.seed t.turns) (sym l)
      (subst (λ (z : ℕ). At m.image m.grant m.state.lanes z t.turns) (sym d)
      (subst (λ (z : ℕ). At m.image m.grant m.state.lanes m.seed z) (sym k) a))))

abbrev counted : Bool → ℕ
counted b = if b then 1 else 0

-- a call completes one turn or none
few_turns : (out : Option Quota) (r : Result Answer WriteFault) → (turns_by out r ≡ 0) ⊎ (turns_by out r ≡ 1)
few_turns out (Err fault) = inl refl
few_turns out (Ok a) = by (unless_out out (not_rest a))
  where
    by : (b : Bool) → (counted b ≡ 0) ⊎ (counted b ≡ 1)
    by true = inr refl
    by false = inl refl

pub keeps_standing : (s t : Sim) → RunsItsImage s → (out : Option Quota) (r : Result Answer WriteFault) → t.machine.image ≡ s.machine.image → t.machine.grant ≡ s.machine.grant
    → t.machine.state.lanes ≡ s.machine.state.lanes → t.machine.seed ≡ s.machine.seed → t.machine.turns ≡ s.machine.turns + turns_by out r → KeepsStanding s t
keeps_standing s t is out r i g l d k c h = by (few_turns out r)
  where
    steps : At s is c t.machine.image t.machine.grant t.machine.state.lanes t.machine.seed t.machine.turns → Steps s t c
    steps a = record { configuration = a.configuration; stands = a.stands; step = a.step }

    by : (turns_by out r ≡ 0) ⊎ (turns_by out r ≡ 1) → Steps s t c
    by (inl e) = steps (same s is c t.machine s.machine.turns i g l d (let n : t.machine.turns ≡ s.machine.turns = omega (arith, k, e) in n) (none s is c h))
    by (inr e) = steps (same s is c t.machine (suc s.machine.turns) i g l d (let n : t.machine.turns ≡ suc s.machine.turns = omega (arith, k, e) in n) (one s is c h))
