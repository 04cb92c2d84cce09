-- What a turn adds to the journal, and when there is none.
use Rattle.std.proofs.Common.{◌≡◌, ◌%◌, ℕ, List, [], ◌∷◌, ◌++◌, length, drop, Option, Some, None, Bool, true, false, refl, sym, ap, ◌∙◌, append-nil}
use Rattle.std.specs.Prelude.{slice_get}
use Rattle.cap_words.specs.Words.{W, same_word}
use Rattle.instr_table.specs.declared.charge.Quota.{Quota}
use Rattle.instr_table.specs.Event.{Sent, no_effects}
use Rattle.instr_table.specs.Sheet.{Account, account, short, spend, stop, prepared}
use Rattle.instr_table.specs.Outcome.{Outcome, Goes, Faults, Commits, Row}
use Rattle.instr_table.specs.Lane.{Lane, lane_row}
use Rattle.vm_turn.specs.declared.journal.Entry.{Entry}
use Rattle.vm_turn.specs.declared.journal.Outcome.TheVariants.{Committed, Failed, RanOut}
use Rattle.vm_turn.specs.State.{State, Message, root}
use Rattle.vm_turn.specs.Actors.{sent_at}
use Rattle.vm_turn.specs.Piece.{piece}
use Rattle.vm_turn.specs.Turn.{act, charged, deliver, device_of, dispatch, dispatchable, entry, finish, go, out_by, refused, released, run_out, step, turn, unless_spent}

-- the second journal is the first one with more entries behind it
pub record Extends (s t : State) : Type 0 where
  pub more : List Entry
  pub is : t.journal ≡ s.journal ++ more

same_journal : (s t : State) → t.journal ≡ s.journal → Extends s t
same_journal s t e = record { more = []; is = e ∙ sym (append-nil s.journal) }

one_entry : (s t : State) (e : Entry) → t.journal ≡ s.journal ++ e ∷ [] → Extends s t
one_entry s t e is = record { more = e ∷ []; is = is }

released-journal : (s : State) (o : Option W) (kind : Quota) → (released o kind s).journal ≡ s.journal
released-journal s None kind = refl
released-journal s (Some signal) kind = refl

out-journal : (s : State) (b : Bool) (kind : Quota) → (out_by b kind s).journal ≡ s.journal
out-journal s true kind = refl
out-journal s false kind = refl

module _ (s : State) where
  act-extends : (i : ℕ) (l : Lane) (sheet : List Account) (o : Outcome) → Extends s (act s i l sheet o).0
  act-extends i l sheet (Goes g) = same_journal s (act s i l sheet (Goes g)).0 refl
  act-extends i l sheet (Faults w) = one_entry s (act s i l sheet (Faults w)).0 (entry l.number (Failed w)) refl
  act-extends i l sheet Commits = one_entry s (act s i l sheet Commits).0 (entry l.number Committed) refl

  charged-extends : (i : ℕ) (l : Lane) (r : Row) (o : Option Quota) → Extends s (charged s i l r o).0
  charged-extends i l r (Some kind) =
      let x = finish s i l (stop s.sheet l.own.sponsor) no_effects (RanOut kind) in
      one_entry s (charged s i l r (Some kind)).0 (entry l.number (RanOut kind))
      (out-journal (run_out s i l kind) (same_word l.own.sponsor root) kind ∙ released-journal x (prepared s.sheet l.own.sponsor) kind)
  charged-extends i l r None = act-extends i l (spend s.sheet l.own.sponsor r.charge) r.outcome

  step-extends : (i : ℕ) (o : Option Lane) → Extends s (step s i o).0
  step-extends i None = same_journal s s refl
  step-extends i (Some l) = charged-extends i l (lane_row s.store s.sheet l) (short (account s.sheet l.own.sponsor) (lane_row s.store s.sheet l).charge)

  deliver-extends : (number : ℕ) (o : Option (List ℕ)) → Extends s (deliver s number o).0
  deliver-extends number (Some bytes) = one_entry s (deliver s number (Some bytes)).0 (entry number Committed) refl
  deliver-extends number None = one_entry s (deliver s number None).0 (entry number refused) refl

  dispatch-extends : (number : ℕ) (m : Sent) (o : Option ℕ) → Extends s (dispatch s number m o).0
  dispatch-extends number m (Some device) = deliver-extends number (piece device s.store m.content)
  dispatch-extends number m None = same_journal s (dispatch s number m None).0 refl

  go-extends : (pick : ℕ) (o : Option Message) → Extends s (go s pick o).0
  go-extends pick (Some m) = dispatch-extends m.number (sent_at s.store m.event) (device_of (sent_at s.store m.event).target)
  go-extends pick None = step-extends (pick % length s.flight) (slice_get s.flight (pick % length s.flight))

  unless-extends : (pick : ℕ) (o : Option Quota) → Extends s (unless_spent s pick o).0
  unless-extends pick (Some kind) = same_journal s s refl
  unless-extends pick None = go-extends pick (dispatchable s)

drop-front : (xs ys : List Entry) → drop (length xs) (xs ++ ys) ≡ ys
drop-front [] ys = refl
drop-front (x ∷ xs) ys = drop-front xs ys

-- what a turn adds stands behind what was there
pub turn-extends : (s : State) (pick : ℕ) → (turn s pick).0.journal ≡ s.journal ++ drop (length s.journal) (turn s pick).0.journal
turn-extends s pick =
    let x = unless-extends s pick s.out_of in
    let cut : drop (length s.journal) (turn s pick).0.journal ≡ x.more = ap (drop (length s.journal)) x.is ∙ drop-front s.journal x.more in
    x.is ∙ ap (λ (es : List Entry). s.journal ++ es) (sym cut)
