-- A machine that was booted has its run before it.
use Rattle.std.proofs.Common.{◌≡◌, ◌∙◌, ℕ, sym, ap}
use Rattle.quad_memory.specs.Image.{RomImage}
use Rattle.vm_sponsor.specs.declared.amounts.Amounts.{Amounts}
use Rattle.vm_turn.specs.State.{State}
use Rattle.vm_turn.specs.Boot.{booted}
use Rattle.vm_turn.specs.Run.{run, picks}
use Rattle.vm_machine.specs.Machine.{Machine, drawn_run}
use Rattle.hum_run.specs.Drive.{RunsFrom, Fresh}

five : {A B C D E X : Type 0} (f : A → B → C → D → E → X) (a a' : A) (b b' : B) (c c' : C) (d d' : D) (e e' : E)
    → a ≡ a' → b ≡ b' → c ≡ c' → d ≡ d' → e ≡ e' → f a b c d e ≡ f a' b' c' d' e'
five f a a' b b' c c' d d' e e' pa pb pc pd pe = cc

module _ (m : Machine) (image : RomImage) (grant : Amounts) (lanes seed : ℕ) (state : m.state ≡ booted image grant lanes) (same : m.image ≡ image)
    (granted : m.grant ≡ grant) (seeded : m.seed ≡ seed) (turns : m.turns ≡ 0) where
  lanes-is : m.state.lanes ≡ lanes
  lanes-is = ap (λ (s : State). s.lanes) state

  pub booted-from : RunsFrom image grant lanes seed m
  booted-from = record {
    image_is = same;
    grant_is = granted;
    lanes_are = lanes-is;
    seed_is = seeded;
    run = state ∙ sym (five drawn_run m.image image m.grant grant m.state.lanes lanes m.seed seed m.turns 0 same granted lanes-is seeded turns);
  }

  pub booted-fresh : Fresh m
  booted-fresh = record {
    turns = turns;
    wrote = five (λ (i : RomImage) (g : Amounts) (l s n : ℕ). (run i g l (picks s n)).output) m.image image m.grant grant m.state.lanes lanes m.seed seed m.turns 0 same granted lanes-is seeded turns;
    journal = ap (λ (s : State). s.journal) state;
    not_out = ap (λ (s : State). s.out_of) state;
  }
