-- At rest a machine that stands for a file's configuration has no message pending.
use Rattle.std.proofs.Common.{◌≡◌, ◌∙◌, ◌≤◌, ◌%◌, ℕ, List, [], ◌∷◌, length, slice_get, Option, false, refl, sym, ap, subst}
use Rattle.instr_table.specs.declared.charge.Quota.{Quota}
use Rattle.instr_table.specs.Lane.{Lane}
use Rattle.vm_turn.specs.declared.journal.Turn.TheVariants.{Rest}
use Rattle.vm_turn.specs.State.{State, Message}
use Rattle.vm_turn.specs.Turn.{dispatchable, go, step, turn, unless_spent}
use Rattle.hum_core.specs.Alike.{Each}
use Rattle.hum_core.proofs.Programs.{program_means}
use Rattle.hum_sim.specs.Sim.{Sim, Stands, state_of, file_of}
use Rattle.hum_run.specs.declared.stop.Stop.{Stop}
use Rattle.hum_run.specs.Drive.{AtRest, Stops}
use Rattle.hum_run.specs.Run.{Halts}

-- at rest the next turn is none
pub rests : (s : State) (pick : ℕ) → AtRest s → (turn s pick).1 ≡ Rest
rests s pick r =
    let n = pick % length s.flight in
    ap (λ (o : Option Quota). (unless_spent s pick o).1) r.not_out
    ∙ ap (λ (o : Option Message). (go s pick o).1) r.no_dispatch
    ∙ ap (λ (flight : List Lane). (step s n (slice_get flight n)).1) r.no_flight

-- a list that is alike to an empty one is empty
none_alike : {A B : Type 0} (R : A → B → Type 0) (xs : List A) (ys : List B) → Each R xs ys → ys ≡ [] → xs ≡ []
none_alike R [] ys each none = refl
none_alike R (x ∷ xs) [] each none = absurd each
none_alike R (x ∷ xs) (y ∷ ys) each none = absurd (cons-nil none)
  where
    cons-nil : y ∷ ys ≡ [] → ⊥
    cons-nil e = cc

pub nothing_pending : (s : Sim) → Stands s → 1 ≤ s.machine.state.lanes → AtRest s.machine.state → s.machine.state.messages ≡ []
nothing_pending s stands some r =
    let t = state_of s in
    let there : AtRest t = record {
      no_flight = ap (λ (x : State). x.flight) (sym stands.is_there) ∙ r.no_flight;
      no_dispatch = ap dispatchable (sym stands.is_there) ∙ r.no_dispatch;
      not_out = ap (λ (x : State). x.out_of) (sym stands.is_there) ∙ r.not_out;
    } in
    let f = stands.run.follows in
    let none = stands.run.nothing_pending 0 some (rests t 0 there) in
    let means = (program_means (file_of s)).seen f.configuration f.stands.of_program f.stands.alike in
    ap (λ (x : State). x.messages) stands.is_there
    ∙ none_alike _ t.messages f.stands.of_program.pending f.stands.stands.messages (means.at_rest.0 none)

-- so a run that is not broken stops as its machine does, and at rest no message is pending
pub halts : (bound : Option ℕ) (stop : Stop) (s : Sim) → Stands s → 1 ≤ s.machine.state.lanes → Stops bound stop s.machine → Halts false bound stop s.machine
halts bound stop s stands some stops = (stops, λ is. nothing_pending s stands some (subst (λ (x : Stop). Stops bound x s.machine) is stops).0)
