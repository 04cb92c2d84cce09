-- What was written has no part in a turn.
use Rattle.std.proofs.Common.{◌≡◌, ℕ, List, length, Option, Some, None, Bool, true, false, ap, refl}
use Rattle.std.specs.Prelude.{◌%◌, slice_get}
use Rattle.cap_words.specs.Words.{W, same_word}
use Rattle.instr_table.specs.declared.charge.Quota.{Quota}
use Rattle.instr_table.specs.Event.{Sent, no_effects}
use Rattle.instr_table.specs.Sheet.{Account, account, short, spend, stop, prepared}
use Rattle.instr_table.specs.Outcome.{Outcome, Goes, Faults, Commits, Row}
use Rattle.instr_table.specs.Lane.{Lane, lane_row}
use Rattle.vm_turn.specs.declared.journal.Outcome.TheVariants.{RanOut}
use Rattle.vm_turn.specs.declared.journal.Turn.{Turn as Answer}
use Rattle.vm_turn.specs.State.{State, Message, root}
use Rattle.vm_turn.specs.Actors.{sent_at}
use Rattle.vm_turn.specs.Piece.{piece}
use Rattle.vm_turn.specs.Turn.{act, charged, deliver, device_of, dispatch, dispatchable, finish, go, out_by, released, step, turn, unless_spent}
use Rattle.vm_machine.specs.View.{unwritten}

-- ---- what was written

-- the same but for what was written
abbrev Alike : State × Answer → State × Answer → Type 0
Alike x y = (unwritten x.0 ≡ unwritten y.0) × (x.1 ≡ y.1)

released-alike : (s t : State) (o : Option W) (kind : Quota) → unwritten s ≡ unwritten t → unwritten (released o kind s) ≡ unwritten (released o kind t)
released-alike s t None kind h = h
released-alike s t (Some signal) kind h = ap (λ (x : State). released (Some signal) kind x) h

out-alike : (s t : State) (b : Bool) (kind : Quota) → unwritten s ≡ unwritten t → unwritten (out_by b kind s) ≡ unwritten (out_by b kind t)
out-alike s t true kind h = ap (λ (x : State). record x { out_of = Some kind }) h
out-alike s t false kind h = h

act-alike : (s : State) (i : ℕ) (l : Lane) (sheet : List Account) (o : Outcome) → Alike (act s i l sheet o) (act (unwritten s) i l sheet o)
act-alike s i l sheet (Goes g) = (refl, refl)
act-alike s i l sheet (Faults w) = (refl, refl)
act-alike s i l sheet Commits = (refl, refl)

charged-alike : (s : State) (i : ℕ) (l : Lane) (r : Row) (o : Option Quota) → Alike (charged s i l r o) (charged (unwritten s) i l r o)
charged-alike s i l r (Some kind) =
    let x = finish s i l (stop s.sheet l.own.sponsor) no_effects (RanOut kind) in
    let y = finish (unwritten s) i l (stop s.sheet l.own.sponsor) no_effects (RanOut kind) in
    let o = prepared s.sheet l.own.sponsor in
    (out-alike (released o kind x) (released o kind y) (same_word l.own.sponsor root) kind (released-alike x y o kind refl), refl)
charged-alike s i l r None = act-alike s i l (spend s.sheet l.own.sponsor r.charge) r.outcome

deliver-alike : (s : State) (number : ℕ) (o : Option (List ℕ)) → Alike (deliver s number o) (deliver (unwritten s) number o)
deliver-alike s number (Some bytes) = (refl, refl)
deliver-alike s number None = (refl, refl)

dispatch-alike : (s : State) (number : ℕ) (m : Sent) (o : Option ℕ) → Alike (dispatch s number m o) (dispatch (unwritten s) number m o)
dispatch-alike s number m (Some device) = deliver-alike s number (piece device s.store m.content)
dispatch-alike s number m None = (refl, refl)

step-alike : (s : State) (i : ℕ) (o : Option Lane) → Alike (step s i o) (step (unwritten s) i o)
step-alike s i None = (refl, refl)
step-alike s i (Some l) = charged-alike s i l (lane_row s.store s.sheet l) (short (account s.sheet l.own.sponsor) (lane_row s.store s.sheet l).charge)

go-alike : (s : State) (pick : ℕ) (o : Option Message) → Alike (go s pick o) (go (unwritten s) pick o)
go-alike s pick (Some m) = dispatch-alike s m.number (sent_at s.store m.event) (device_of (sent_at s.store m.event).target)
go-alike s pick None = step-alike s (pick % length s.flight) (slice_get s.flight (pick % length s.flight))

unless-alike : (s : State) (pick : ℕ) (o : Option Quota) → Alike (unless_spent s pick o) (unless_spent (unwritten s) pick o)
unless-alike s pick (Some kind) = (refl, refl)
unless-alike s pick None = go-alike s pick (dispatchable s)

-- a turn goes as it goes where nothing was written
pub turn-unwritten : (s : State) (pick : ℕ) → (unwritten (turn s pick).0 ≡ unwritten (turn (unwritten s) pick).0) × ((turn s pick).1 ≡ (turn (unwritten s) pick).1)
turn-unwritten s pick = unless-alike s pick s.out_of
