-- A turn is completed where the machine is not at rest and its root has not run out; else nothing changes.
use Rattle.std.proofs.Common.{◌≡◌, ◌%◌, ◌<◌, ◌≤◌, ℕ, zero, suc, nat_lt, List, [], ◌∷◌, length, Option, Some, None, Bool, true, false, if◌then◌else◌, refl, sym, ap, ◌∙◌, arith}
use Rattle.std.specs.Prelude.{slice_get, not, ◌&&◌, ◌||◌, is_none, is_some}
use Rattle.std.proofs.lemmas.Nat.{mod_below}
use Rattle.std.proofs.lemmas.Bool.Decides.{nat_tests}
use Rattle.cap_words.specs.Words.{same_word}
use Rattle.instr_table.specs.declared.charge.Quota.{Quota}
use Rattle.instr_table.specs.Event.{Sent}
use Rattle.instr_table.specs.Sheet.{Account, account, short, spend}
use Rattle.instr_table.specs.Outcome.{Outcome, Goes, Faults, Commits, Row}
use Rattle.instr_table.specs.Lane.{Lane, lane_row}
use Rattle.vm_turn.specs.State.{State, Message, root}
use Rattle.vm_turn.specs.Actors.{sent_at}
use Rattle.vm_turn.specs.Piece.{piece}
use Rattle.vm_turn.specs.Turn.{act, charged, deliver, device_of, dispatch, dispatchable, first_to_go, go, spent_by, step, turn, unless_spent, entry}
use Rattle.vm_turn.specs.declared.journal.Outcome.TheVariants.{RanOut}
use Rattle.vm_turn.specs.Run.{completes, not_rest, unless_out}
use Rattle.quad_debug.specs.Obeys.{is_empty, is_at_rest}
use Rattle.quad_debug.specs.Laws.{RestsHaveNoTurn}

-- ---- which answers tell of a turn

act-told : (s : State) (i : ℕ) (l : Lane) (sheet : List Account) (o : Outcome) → not_rest (act s i l sheet o).1 ≡ true
act-told s i l sheet (Goes g) = refl
act-told s i l sheet (Faults w) = refl
act-told s i l sheet Commits = refl

spent-told : (b : Bool) (kind : Quota) (e : _) → not_rest (spent_by b kind e) ≡ true
spent-told true kind e = refl
spent-told false kind e = refl

charged-told : (s : State) (i : ℕ) (l : Lane) (r : Row) (o : Option Quota) → not_rest (charged s i l r o).1 ≡ true
charged-told s i l r (Some kind) = spent-told (same_word l.own.sponsor root) kind (entry l.number (RanOut kind))
charged-told s i l r None = act-told s i l (spend s.sheet l.own.sponsor r.charge) r.outcome

deliver-told : (s : State) (number : ℕ) (o : Option (List ℕ)) → not_rest (deliver s number o).1 ≡ true
deliver-told s number (Some bytes) = refl
deliver-told s number None = refl

dispatch-told : (s : State) (number : ℕ) (m : Sent) (o : Option ℕ) → not_rest (dispatch s number m o).1 ≡ true
dispatch-told s number m (Some device) = deliver-told s number (piece device s.store m.content)
dispatch-told s number m None = refl

step-told : (s : State) (i : ℕ) (l : Lane) → not_rest (step s i (Some l)).1 ≡ true
step-told s i l = charged-told s i l (lane_row s.store s.sheet l) (short (account s.sheet l.own.sponsor) (lane_row s.store s.sheet l).charge)

-- ---- events in flight

some-there : (xs : List Lane) (i : ℕ) → i < length xs → (x : Lane) × (slice_get xs i ≡ Some x)
some-there [] i b = absurd (omega (arith, b))
some-there (x ∷ xs) zero b = (x, refl)
some-there (x ∷ xs) (suc i) b = some-there xs i (omega (arith, b))

-- where no message goes first, a turn is one of an event in flight, if there is one
picked-told : (s : State) (pick : ℕ) (flight : List Lane) → s.flight ≡ flight → not_rest (step s (pick % length s.flight) (slice_get s.flight (pick % length s.flight))).1 ≡ not (is_empty flight)
picked-told s pick [] e = rw e refl
picked-told s pick (l ∷ ls) e =
    let some : 0 < length s.flight = rw e (omega arith) in
    let x = some-there s.flight (pick % length s.flight) (mod_below pick (length s.flight) some) in
    ap (λ (o : Option Lane). not_rest (step s (pick % length s.flight) o).1) x.1 ∙ step-told s (pick % length s.flight) x.0

pub go-told : (s : State) (pick : ℕ) (o : Option Message) → not_rest (go s pick o).1 ≡ not (is_empty s.flight && is_none o)
go-told s pick (Some m) = dispatch-told s m.number (sent_at s.store m.event) (device_of (sent_at s.store m.event).target) ∙ none (is_empty s.flight)
  where
    none : (b : Bool) → true ≡ not (b && false)
    none true = refl
    none false = refl
go-told s pick None = picked-told s pick s.flight refl ∙ all (is_empty s.flight)
  where
    all : (b : Bool) → not b ≡ not (b && true)
    all true = refl
    all false = refl

-- where nothing is in flight a lane is free, if there is one
rest-free : (s : State) → 1 ≤ s.lanes → (is_empty s.flight && is_none (dispatchable s)) ≡ is_at_rest s
rest-free s some = by s.flight refl
  where
    by : (flight : List Lane) → s.flight ≡ flight → (is_empty s.flight && is_none (dispatchable s)) ≡ is_at_rest s
    by [] e =
        let free : nat_lt (length s.flight) s.lanes ≡ true = rw e (grind (arith, nat_tests, some)) in
        ap (λ (b : Bool). is_empty s.flight && is_none (if b then first_to_go s.store s.sheet s.flight s.messages else None)) free
    by (l ∷ ls) e = rw e refl

pub rests-have_no_turn : RestsHaveNoTurn
rests-have_no_turn s pick some = by s.out_of refl
  where
    by : (o : Option Quota) → s.out_of ≡ o → unless_out o (not_rest (unless_spent s pick o).1) ≡ not (is_at_rest s || is_some o)
    by (Some kind) e = no (is_at_rest s)
      where
        no : (b : Bool) → false ≡ not (b || true)
        no true = refl
        no false = refl
    by None e = go-told s pick (dispatchable s) ∙ ap not (rest-free s some) ∙ yes (is_at_rest s)
      where
        yes : (b : Bool) → not b ≡ not (b || false)
        yes true = refl
        yes false = refl

-- ---- where there is no turn

step-still : (s : State) (i : ℕ) (o : Option Lane) → not_rest (step s i o).1 ≡ false → (step s i o).0 ≡ s
step-still s i None h = refl
step-still s i (Some l) h = absurd (no (sym (step-told s i l) ∙ h))
  where
    no : true ≡ false → ⊥
    no e = cc

go-still : (s : State) (pick : ℕ) (o : Option Message) → not_rest (go s pick o).1 ≡ false → (go s pick o).0 ≡ s
go-still s pick (Some m) h = absurd (no (sym (dispatch-told s m.number (sent_at s.store m.event) (device_of (sent_at s.store m.event).target)) ∙ h))
  where
    no : true ≡ false → ⊥
    no e = cc
go-still s pick None h = step-still s (pick % length s.flight) (slice_get s.flight (pick % length s.flight)) h

-- where a turn is not completed nothing changes
pub turn-still : (s : State) (pick : ℕ) → completes s pick ≡ false → (turn s pick).0 ≡ s
turn-still s pick h = by s.out_of h
  where
    by : (o : Option Quota) → unless_out o (not_rest (unless_spent s pick o).1) ≡ false → (unless_spent s pick o).0 ≡ s
    by (Some kind) h = refl
    by None h = go-still s pick (dispatchable s) h
