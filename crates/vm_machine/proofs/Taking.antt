-- What a turn comes to after an event took an instruction.
use Rattle.std.proofs.Common.{◌≡◌, ℕ, zero, suc, ◌+◌, ◌<◌, ◌≤◌, List, [], ◌∷◌, length, Option, Some, None, ap, ap₂, refl, sym, ◌∙◌, subst, arith}
use Rattle.std.specs.Prelude.{slice_get}
use Rattle.std.proofs.lemmas.List.{length-map}
use Rattle.cap_words.specs.Words.{W, same_word}
use Rattle.instr_table.specs.declared.charge.Quota.{Quota}
use Rattle.instr_table.specs.declared.charge.Quota.TheVariants.{Events}
use Rattle.instr_table.specs.Event.{Sent, no_effects}
use Rattle.instr_table.specs.Outcome.{Going, Outcome, Goes, Faults, Commits, Row}
use Rattle.instr_table.specs.Sheet.{Account, account, short, spend}
use Rattle.instr_table.specs.Lane.{Lane as Flying, lane_row}
use Rattle.vm_sponsor.specs.declared.amounts.Amounts.{Amounts}
use Rattle.vm_turn.specs.declared.journal.Outcome.TheVariants.{Committed, Failed, RanOut as Exhausted}
use Rattle.vm_turn.specs.declared.journal.Turn.{Turn as Answer}
use Rattle.vm_turn.specs.declared.journal.Turn.TheVariants.{Stepped, Finished}
use Rattle.vm_turn.specs.State.{State, root}
use Rattle.vm_turn.specs.Turn.{entry, go_on, finish, act, charged, step, run_out, out_by, spent_by}
use Rattle.vm_turn.specs.Sound.{Sound, sent_by}
use Rattle.vm_turn.specs.Authority.{WordsTaken}
use Rattle.vm_turn.proofs.Sums.{sum-at}
use Rattle.vm_step.specs.declared.lane.Lane.{Lane}
use Rattle.vm_step.specs.Flight.{lane_of}
use Rattle.vm_step.specs.declared.lane.StepEnd.{StepEnd}
use Rattle.vm_step.specs.declared.lane.StepEnd.TheVariants.{Going as GoingOn, Commit, Abort, RanOut}
use Rattle.event_queue.specs.Pending.{Pending}
use Rattle.vm_machine.specs.declared.parts.Parts.{Parts}
use Rattle.vm_machine.specs.View.{state_of}
use Rattle.vm_machine.specs.Whole.{Kept, Waits, Whole}
use Rattle.vm_machine.specs.Steps.{PaidTo, StepsAs, StepsTo}
use Rattle.vm_machine.proofs.Lists.{get-map}
use Rattle.vm_machine.proofs.Exhausting.{spent-under}

-- an event's messages have numbers left
pub sent-fits : (grant : Amounts) (s : State) → Sound grant s → (i : ℕ) (l : Flying) → slice_get s.flight i ≡ Some l → s.next_number + length l.effects.sent ≤ grant.events + 1
sent-fits grant s ok i l h =
    let some = sum-at (λ (x : Flying). length (sent_by x)) s.flight i l h in
    let n = length-map l.effects.sent (λ (m : Sent). m.event) in
    let granted = ok.conserved Events in
    omega (arith, some, n, granted, spent-under Events s.sheet, ok.paid_for)

module _ (s t : State) (i : ℕ) (l : Flying) where
  abbrev pub row : Row
  row = lane_row s.store s.sheet l

  abbrev pub paid : List Account
  paid = spend s.sheet l.own.sponsor row.charge

  pub record GoesOn : Type 0 where
    pub going : Going
    pub enough : short (account s.sheet l.own.sponsor) row.charge ≡ None
    pub outcome : row.outcome ≡ Goes going
    pub state : t ≡ go_on s i l paid going

  pub going-on : (end : StepEnd) → StepsTo s t i l end → end ≡ GoingOn → GoesOn
  going-on end h e = by (short (account s.sheet l.own.sponsor) row.charge) row.outcome refl refl h
    where
      by : (o : Option Quota) (x : Outcome) → short (account s.sheet l.own.sponsor) row.charge ≡ o → row.outcome ≡ x → StepsTo s t i l end → GoesOn
      by (Some kind) x p q g = let k = subst (λ (y : Option Quota). StepsAs y row end s t i l) p g in let z : GoingOn ≡ RanOut kind = sym e ∙ k.0 in cc
      by None (Goes x) p q g =
          let k = subst (λ (y : Option Quota). StepsAs y row end s t i l) p g in
          let m = subst (λ (y : Outcome). PaidTo y end s t i l paid) q k in
          record { going = x; enough = p; outcome = q; state = m.1 }
      by None (Faults w) p q g =
          let k = subst (λ (y : Option Quota). StepsAs y row end s t i l) p g in
          let m = subst (λ (y : Outcome). PaidTo y end s t i l paid) q k in
          let z : GoingOn ≡ Abort w = sym e ∙ m.0 in cc
      by None Commits p q g =
          let k = subst (λ (y : Option Quota). StepsAs y row end s t i l) p g in
          let m = subst (λ (y : Outcome). PaidTo y end s t i l paid) q k in
          let z : GoingOn ≡ Commit = sym e ∙ m.0 in cc

  pub going-step : GoesOn → step s i (Some l) ≡ (t, Stepped)
  going-step g = ap (charged s i l row) g.enough ∙ ap (act s i l paid) g.outcome ∙ ap (λ (x : State). (x, Stepped)) (sym g.state)

  pub record Ends (x : Outcome) : Type 0 where
    pub enough : short (account s.sheet l.own.sponsor) row.charge ≡ None
    pub outcome : row.outcome ≡ x
    pub state : t ≡ record s { sheet = paid }

  pub committing : (end : StepEnd) → StepsTo s t i l end → end ≡ Commit → Ends Commits
  committing end h e = by (short (account s.sheet l.own.sponsor) row.charge) row.outcome refl refl h
    where
      by : (o : Option Quota) (x : Outcome) → short (account s.sheet l.own.sponsor) row.charge ≡ o → row.outcome ≡ x → StepsTo s t i l end → Ends Commits
      by (Some kind) x p q g = let k = subst (λ (y : Option Quota). StepsAs y row end s t i l) p g in let z : Commit ≡ RanOut kind = sym e ∙ k.0 in cc
      by None (Goes x) p q g =
          let k = subst (λ (y : Option Quota). StepsAs y row end s t i l) p g in
          let m = subst (λ (y : Outcome). PaidTo y end s t i l paid) q k in
          let z : Commit ≡ GoingOn = sym e ∙ m.0 in cc
      by None (Faults w) p q g =
          let k = subst (λ (y : Option Quota). StepsAs y row end s t i l) p g in
          let m = subst (λ (y : Outcome). PaidTo y end s t i l paid) q k in
          let z : Commit ≡ Abort w = sym e ∙ m.0 in cc
      by None Commits p q g =
          let k = subst (λ (y : Option Quota). StepsAs y row end s t i l) p g in
          let m = subst (λ (y : Outcome). PaidTo y end s t i l paid) q k in
          record { enough = p; outcome = q; state = m.1 }

  pub commit-step : (u : State) → Ends Commits → slice_get s.flight i ≡ Some l → ((k : Flying) → slice_get t.flight i ≡ Some k → u ≡ finish t i k t.sheet k.effects Committed) → step s i (Some l) ≡ (u, Finished (entry l.number Committed))
  commit-step u g h f =
      let ends : u ≡ finish s i l paid l.effects Committed = subst (λ (x : State). slice_get x.flight i ≡ Some l → u ≡ finish x i l x.sheet l.effects Committed) g.state (f l) h in
      ap (charged s i l row) g.enough ∙ ap (act s i l paid) g.outcome ∙ ap (λ (x : State). (x, Finished (entry l.number Committed))) (sym ends)

  pub aborting : (end : StepEnd) (w : W) → StepsTo s t i l end → end ≡ Abort w → Ends (Faults w)
  aborting end w h e = by (short (account s.sheet l.own.sponsor) row.charge) row.outcome refl refl h
    where
      by : (o : Option Quota) (x : Outcome) → short (account s.sheet l.own.sponsor) row.charge ≡ o → row.outcome ≡ x → StepsTo s t i l end → Ends (Faults w)
      by (Some kind) x p q g = let k = subst (λ (y : Option Quota). StepsAs y row end s t i l) p g in let z : Abort w ≡ RanOut kind = sym e ∙ k.0 in cc
      by None (Goes x) p q g =
          let k = subst (λ (y : Option Quota). StepsAs y row end s t i l) p g in
          let m = subst (λ (y : Outcome). PaidTo y end s t i l paid) q k in
          let z : Abort w ≡ GoingOn = sym e ∙ m.0 in cc
      by None (Faults v) p q g =
          let k = subst (λ (y : Option Quota). StepsAs y row end s t i l) p g in
          let m = subst (λ (y : Outcome). PaidTo y end s t i l paid) q k in
          let z : v ≡ w = (let y : Abort w ≡ Abort v = sym e ∙ m.0 in cc) in
          record { enough = p; outcome = q ∙ ap Faults z; state = m.1 }
      by None Commits p q g =
          let k = subst (λ (y : Option Quota). StepsAs y row end s t i l) p g in
          let m = subst (λ (y : Outcome). PaidTo y end s t i l paid) q k in
          let z : Abort w ≡ Commit = sym e ∙ m.0 in cc

  pub abort-step : (u : State) (w : W) → Ends (Faults w) → slice_get s.flight i ≡ Some l → ((k : Flying) → slice_get t.flight i ≡ Some k → u ≡ finish t i k t.sheet no_effects (Failed w)) → step s i (Some l) ≡ (u, Finished (entry l.number (Failed w)))
  abort-step u w g h f =
      let ends : u ≡ finish s i l paid no_effects (Failed w) = subst (λ (x : State). slice_get x.flight i ≡ Some l → u ≡ finish x i l x.sheet no_effects (Failed w)) g.state (f l) h in
      ap (charged s i l row) g.enough ∙ ap (act s i l paid) g.outcome ∙ ap (λ (x : State). (x, Finished (entry l.number (Failed w)))) (sym ends)

  pub record RunsOut (kind : Quota) : Type 0 where
    pub short_of : short (account s.sheet l.own.sponsor) row.charge ≡ Some kind
    pub state : t ≡ s

  pub running-out : (end : StepEnd) (kind : Quota) → StepsTo s t i l end → end ≡ RanOut kind → RunsOut kind
  running-out end kind h e = by (short (account s.sheet l.own.sponsor) row.charge) row.outcome refl refl h
    where
      by : (o : Option Quota) (x : Outcome) → short (account s.sheet l.own.sponsor) row.charge ≡ o → row.outcome ≡ x → StepsTo s t i l end → RunsOut kind
      by (Some other) x p q g =
          let k = subst (λ (y : Option Quota). StepsAs y row end s t i l) p g in
          let z : other ≡ kind = (let y : RanOut kind ≡ RanOut other = sym e ∙ k.0 in cc) in
          record { short_of = p ∙ ap (λ (y : Quota). Some y) z; state = k.1 }
      by None (Goes x) p q g =
          let k = subst (λ (y : Option Quota). StepsAs y row end s t i l) p g in
          let m = subst (λ (y : Outcome). PaidTo y end s t i l paid) q k in
          let z : RanOut kind ≡ GoingOn = sym e ∙ m.0 in cc
      by None (Faults w) p q g =
          let k = subst (λ (y : Option Quota). StepsAs y row end s t i l) p g in
          let m = subst (λ (y : Outcome). PaidTo y end s t i l paid) q k in
          let z : RanOut kind ≡ Abort w = sym e ∙ m.0 in cc
      by None Commits p q g =
          let k = subst (λ (y : Option Quota). StepsAs y row end s t i l) p g in
          let m = subst (λ (y : Outcome). PaidTo y end s t i l paid) q k in
          let z : RanOut kind ≡ Commit = sym e ∙ m.0 in cc

  pub run-out-step : (u : State) (a : Answer) (kind : Quota) → RunsOut kind → slice_get s.flight i ≡ Some l → ((k : Flying) → slice_get t.flight i ≡ Some k → u ≡ out_by (same_word k.own.sponsor root) kind (run_out t i k kind))
      → ((k : Flying) → slice_get t.flight i ≡ Some k → a ≡ spent_by (same_word k.own.sponsor root) kind (entry k.number (Exhausted kind))) → step s i (Some l) ≡ (u, a)
  run-out-step u a kind g h f e =
      let state : u ≡ out_by (same_word l.own.sponsor root) kind (run_out s i l kind) = subst (λ (x : State). slice_get x.flight i ≡ Some l → u ≡ out_by (same_word l.own.sponsor root) kind (run_out x i l kind)) g.state (f l) h in
      let answer : a ≡ spent_by (same_word l.own.sponsor root) kind (entry l.number (Exhausted kind)) = e l (ap (λ (x : State). slice_get x.flight i) g.state ∙ h) in
      ap (charged s i l row) g.short_of ∙ ap₂ (λ (x : State) (y : Answer). (x, y)) (sym state) (sym answer)

-- what is kept between turns, after an instruction that was not done
pub whole-again : (p q : Parts) → Whole p → Kept q → q.grant ≡ p.grant → q.stuck ≡ p.stuck → state_of q ≡ state_of p → Whole q
whole-again p q w k g b e = record {
  kept = k;
  sound = subst (λ (x : State). Sound q.grant x) (sym e) (subst (λ (a : Amounts). Sound a (state_of p)) (sym g) w.sound);
  taken = subst WordsTaken (sym e) w.taken;
  waits = λ h. subst (λ (x : State). Waits x) (sym e) (w.waits (sym b ∙ h));
}

-- a number left for each message, where the queue is the same
pub sent-room : (p q : Parts) → Whole p → q.queue ≡ p.queue → (i : ℕ) (sheet : List Account) → state_of q ≡ record (state_of p) { sheet = sheet } → (l : Flying) → slice_get (state_of q).flight i ≡ Some l → length q.queue.given + length l.effects.sent ≤ q.queue.room
sent-room p q w same i sheet e l h =
    let at : slice_get (state_of p).flight i ≡ Some l = ap (λ (x : State). slice_get x.flight i) (sym e) ∙ h in
    let fits = sent-fits p.grant (state_of p) w.sound i l at in
    subst (λ (x : Pending). length x.given + length l.effects.sent ≤ x.room) (sym same) (omega (arith, fits, w.kept.queue_room))

slice_get_some : {A : Type 0} (xs : List A) (i : ℕ) → i < length xs → slice_get xs i ≡ None → ⊥
slice_get_some [] i h e = absurd (omega (arith, h))
slice_get_some (x ∷ xs) zero h e = cc
slice_get_some (x ∷ xs) (suc i) h e = slice_get_some xs i (omega (arith, h)) e

-- the lane at a place
pub lane-there : (p : Parts) (i : ℕ) → i < length p.flight.items → (l : Flying) × (slice_get (state_of p).flight i ≡ Some l)
lane-there p i h = by (slice_get p.flight.items i) refl
  where
    by : (o : Option Lane) → slice_get p.flight.items i ≡ o → (l : Flying) × (slice_get (state_of p).flight i ≡ Some l)
    by None e = absurd (slice_get_some p.flight.items i h e)
    by (Some x) e = (lane_of p.quads.store x, get-map (lane_of p.quads.store) p.flight.items i x e)

-- the same of a state that is the same
pub turned : (s s0 u : State) (a : Answer) (i : ℕ) (l : Flying) → s ≡ s0 → step s i (Some l) ≡ (u, a) → (u ≡ (step s0 i (Some l)).0) × (a ≡ (step s0 i (Some l)).1)
turned s s0 u a i l e h =
    let k : (u, a) ≡ step s0 i (Some l) = sym h ∙ ap (λ (x : State). step x i (Some l)) e in
    (ap (λ (y : State × Answer). y.0) k, ap (λ (y : State × Answer). y.1) k)

pub lane-same : (s s0 : State) (i : ℕ) (l : Flying) → s ≡ s0 → slice_get s0.flight i ≡ Some l → slice_get s.flight i ≡ Some l
lane-same s s0 i l e h = ap (λ (x : State). slice_get x.flight i) e ∙ h
