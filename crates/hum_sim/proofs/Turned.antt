-- Every turn keeps that the state stands for a configuration of the file.
use Rattle.vm_turn.specs.Spending.{Spending, turn_spending}
use Rattle.std.proofs.Common.{◌≡◌, ◌⊎◌, inl, inr, refl, sym, subst, ℕ, List, None}
use Rattle.quad_memory.specs.Image.{RomImage}
use Rattle.vm_sponsor.specs.declared.amounts.Amounts.{Amounts}
use Rattle.vm_turn.specs.State.{State}
use Rattle.vm_turn.specs.Turn.{turn}
use Rattle.vm_turn.proofs.Bound.{turn-sound}
use Rattle.hum_core.specs.declared.tested.TestUnit.{TestUnit}
use Rattle.hum_syntax.specs.declared.tree.Stmt.{Stmt}
use Rattle.hum_meaning.specs.Deliver.{Configuration}
use Rattle.hum_meaning.specs.Named.{Named, written}
use Rattle.hum_meaning.specs.Written.{humus}
use Rattle.hum_meaning.specs.After.{message_of}
use Rattle.hum_core.specs.Likeness.{MeansTheSame}
use Rattle.hum_core.specs.Programs.{FileAs, program_language}
use Rattle.hum_core.specs.TestLists.{Tests, tests_language}
use Rattle.hum_core.proofs.Programs.{program_means}
use Rattle.hum_code.specs.Layout.{Layout}
use Rattle.hum_sim.specs.Standing.{StateStands}
use Rattle.hum_sim.specs.Within.{IsWithin}
use Rattle.hum_sim.specs.Turns.{Keeps, TurnStands, TurnsKeepTheStanding}
use Rattle.hum_sim.proofs.Keeps.{turn_next, spent_stays}
use Rattle.hum_sim.proofs.Next.{EntersLegally, Entered, Next}
use Rattle.hum_sim.proofs.Files.{enters_back, none_forth}

module _ (file : List Stmt) (image : RomImage) (layout : Layout) (grant : Amounts) (spent : Spending) (s : State) (c : Configuration (Named written))
    (h : Keeps file image layout grant spent s c) (pick : ℕ) where
  abbrev means : MeansTheSame (FileAs file) humus (program_language file)
  means = program_means file

  abbrev d : Configuration Tests
  d = h.stands.of_program

  abbrev spent' : Spending
  spent' = turn_spending spent s pick

  abbrev t : State
  t = (turn s pick).0

  -- the events of messages that are not pending spend nothing more
  pub others_spend_nothing : (k : ℕ) → message_of k c.pending ≡ None → spent' k ≡ spent k
  others_spend_nothing k e = spent_stays layout image h.stands.holds.holds_program spent s d h.sound h.stands.stands pick k (none_forth file means c d h.stands.alike k e)

  keeps : (c' : Configuration (Named written)) (d' : Configuration Tests) → (FileAs file).Configurations c' d' → StateStands layout image.cells spent' t d' → Keeps file image layout grant spent' t c'
  keeps c' d' a x = record { sound = turn-sound grant s h.sound pick; stands = record { holds = h.stands.holds; of_program = d'; alike = a; stands = x } }

  pub turned : TurnStands file image layout grant spent s pick c
  turned = by n.step
    where
      n : Next layout image.cells spent' s t d
      n = turn_next layout image h.stands.holds.holds_program spent s d h.sound h.stands.stands pick

      by : ((t.journal ≡ s.journal) × (n.configuration ≡ d)) ⊎ Entered layout spent' s t d n.configuration → TurnStands file image layout grant spent s pick c
      by (inl e) = record {
        configuration = c;
        keeps = keeps c n.configuration (subst (λ z. (FileAs file).Configurations c z) (sym e.1) h.stands.alike) n.stands;
        lanes = n.lanes;
        step = inl (e.0, refl);
      }
      by (inr a) =
          let enters = subst (λ (us : List TestUnit). EntersLegally (tests_language us) s.lanes (spent' a.entry.message) d a.delivery n.configuration) h.stands.holds.units a.enters in
          let b = enters_back file means s.lanes (spent' a.entry.message) c d n.configuration a.delivery h.stands.alike enters in
          record {
            configuration = b.to;
            keeps = keeps b.to n.configuration b.alike n.stands;
            lanes = n.lanes;
            step = inr (record {
              entry = a.entry;
              delivery = a.delivery;
              added = a.added;
              same = a.same;
              enters = b.enters.enters;
              in_turn = b.enters.in_order;
              within = subst (λ (k : ℕ). IsWithin humus (c, b.enters.enters.message) (spent' k)) a.same.message b.enters.within;
              out = a.out;
            });
          }

pub turns_keep_the_standing : TurnsKeepTheStanding
turns_keep_the_standing file image layout grant spent s c h pick = (turned file image layout grant spent s c h pick)
