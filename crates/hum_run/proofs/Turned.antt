-- What a turn writes and adds to the journal, and where it is the last.
use Rattle.std.proofs.Common.{◌≡◌, ◌%◌, ℕ, List, [], ◌∷◌, ◌++◌, length, Option, Some, None, Bool, true, false, refl, sym, ap, ◌∙◌, subst, arith, append-nil}
use Rattle.std.specs.Prelude.{slice_get}
use Rattle.std.proofs.Math.Nat.{mod-lt}
use Rattle.std.proofs.lemmas.Option.{slice_get-get_or}
use Rattle.cap_words.specs.Words.{W, same_word}
use Rattle.cap_words.proofs.Same.{word_same}
use Rattle.instr_table.specs.declared.charge.Quota.{Quota}
use Rattle.instr_table.specs.Event.{Sent, no_effects}
use Rattle.instr_table.specs.Sheet.{Account, account, short, spend, stop, prepared}
use Rattle.instr_table.specs.Outcome.{Outcome, Goes, Faults, Commits, Row}
use Rattle.instr_table.specs.Lane.{Lane, lane_row}
use Rattle.vm_turn.specs.declared.journal.Outcome.TheVariants.{RanOut}
use Rattle.vm_turn.specs.declared.journal.Turn.{Turn as Answer}
use Rattle.vm_turn.specs.declared.journal.Turn.TheVariants.{Dispatched, Stepped, Finished, Rest, Spent}
use Rattle.vm_turn.specs.State.{State, Message, root}
use Rattle.vm_turn.specs.Actors.{sent_at}
use Rattle.vm_turn.specs.Piece.{piece}
use Rattle.vm_turn.specs.Turn.{act, begin, charged, deliver, device_of, dispatch, dispatchable, entry, finish, go, go_on, out_by, released, run_out, spent_by, step, turn, unless_spent}
use Rattle.vm_machine.specs.View.{unwritten}
use Rattle.hum_run.specs.Drive.{FallsShort}

-- ---- what is written

-- the state with these bytes before what it wrote
abbrev behind : List ℕ → State → State
behind bytes s = record s { output = bytes ++ s.output }

-- a state that wrote nothing since
nothing-more : (bytes : List ℕ) (s : State) → record s { output = bytes } ≡ behind bytes (unwritten s)
nothing-more bytes s = λ i. record s { output = sym (append-nil bytes) i }

abbrev Writes : State → State × Answer → State × Answer → Type 0
Writes s x y = x.0 ≡ behind s.output y.0

released-behind : (bytes : List ℕ) (s : State) (o : Option W) (kind : Quota) → released o kind (behind bytes s) ≡ behind bytes (released o kind s)
released-behind bytes s None kind = refl
released-behind bytes s (Some signal) kind = refl

out-behind : (bytes : List ℕ) (s : State) (b : Bool) (kind : Quota) → out_by b kind (behind bytes s) ≡ behind bytes (out_by b kind s)
out-behind bytes s true kind = refl
out-behind bytes s false kind = refl

act-writes : (s : State) (i : ℕ) (l : Lane) (sheet : List Account) (o : Outcome) → Writes s (act s i l sheet o) (act (unwritten s) i l sheet o)
act-writes s i l sheet (Goes g) = nothing-more s.output (go_on s i l sheet g)
act-writes s i l sheet (Faults w) = nothing-more s.output (act s i l sheet (Faults w)).0
act-writes s i l sheet Commits = nothing-more s.output (act s i l sheet Commits).0

charged-writes : (s : State) (i : ℕ) (l : Lane) (r : Row) (o : Option Quota) → Writes s (charged s i l r o) (charged (unwritten s) i l r o)
charged-writes s i l r (Some kind) =
    let x = finish s i l (stop s.sheet l.own.sponsor) no_effects (RanOut kind) in
    let y = finish (unwritten s) i l (stop s.sheet l.own.sponsor) no_effects (RanOut kind) in
    let o = prepared s.sheet l.own.sponsor in
    let b = same_word l.own.sponsor root in
    ap (λ (z : State). out_by b kind (released o kind z)) (nothing-more s.output x)
    ∙ ap (out_by b kind) (released-behind s.output y o kind)
    ∙ out-behind s.output (released o kind y) b kind
charged-writes s i l r None = act-writes s i l (spend s.sheet l.own.sponsor r.charge) r.outcome

deliver-writes : (s : State) (number : ℕ) (o : Option (List ℕ)) → Writes s (deliver s number o) (deliver (unwritten s) number o)
deliver-writes s number (Some bytes) = refl
deliver-writes s number None = refl

dispatch-writes : (s : State) (number : ℕ) (m : Sent) (o : Option ℕ) → Writes s (dispatch s number m o) (dispatch (unwritten s) number m o)
dispatch-writes s number m (Some device) = deliver-writes s number (piece device s.store m.content)
dispatch-writes s number m None = nothing-more s.output (begin s number m)

step-writes : (s : State) (i : ℕ) (o : Option Lane) → Writes s (step s i o) (step (unwritten s) i o)
step-writes s i None = nothing-more s.output s
step-writes s i (Some l) = charged-writes s i l (lane_row s.store s.sheet l) (short (account s.sheet l.own.sponsor) (lane_row s.store s.sheet l).charge)

go-writes : (s : State) (pick : ℕ) (o : Option Message) → Writes s (go s pick o) (go (unwritten s) pick o)
go-writes s pick (Some m) = dispatch-writes s m.number (sent_at s.store m.event) (device_of (sent_at s.store m.event).target)
go-writes s pick None = step-writes s (pick % length s.flight) (slice_get s.flight (pick % length s.flight))

unless-writes : (s : State) (pick : ℕ) (o : Option Quota) → Writes s (unless_spent s pick o) (unless_spent (unwritten s) pick o)
unless-writes s pick (Some kind) = nothing-more s.output s
unless-writes s pick None = go-writes s pick (dispatchable s)

-- a turn writes behind what was written what it writes where nothing was
pub turn-writes : (s : State) (pick : ℕ) → (turn s pick).0 ≡ behind s.output (turn (unwritten s) pick).0
turn-writes s pick = unless-writes s pick s.out_of

-- ---- what is told

-- the entries that a turn with that answer adds, and whether it was the last
abbrev pub Tells : State → ℕ → State → Answer → Type 0
Tells s pick t Dispatched = (t.journal ≡ s.journal) × (t.out_of ≡ s.out_of)
Tells s pick t Stepped = (t.journal ≡ s.journal) × (t.out_of ≡ s.out_of)
Tells s pick t (Finished e) = (t.journal ≡ s.journal ++ e ∷ []) × (t.out_of ≡ s.out_of)
Tells s pick t Rest = (s.flight ≡ []) × (dispatchable s ≡ None) × (t ≡ s)
Tells s pick t (Spent w kind) = (number : ℕ) × (t.journal ≡ s.journal ++ entry number (RanOut kind) ∷ []) × (t.out_of ≡ Some kind) × FallsShort s pick kind

released-journal : (s : State) (o : Option W) (kind : Quota) → (released o kind s).journal ≡ s.journal
released-journal s None kind = refl
released-journal s (Some signal) kind = refl

released-out : (s : State) (o : Option W) (kind : Quota) → (released o kind s).out_of ≡ s.out_of
released-out s None kind = refl
released-out s (Some signal) kind = refl

-- no place is beyond the end of an empty list alone
none-there : (flight : List Lane) (pick : ℕ) → slice_get flight (pick % length flight) ≡ None → flight ≡ []
none-there [] pick h = refl
none-there (l ∷ ls) pick h =
    let there = slice_get-get_or (l ∷ ls) (pick % length (l ∷ ls)) l (mod-lt pick (omega arith)) in
    cc

module _ (s : State) (pick : ℕ) (running : s.out_of ≡ None) where
  abbrev place : ℕ
  place = pick % length s.flight

  act-tells : (l : Lane) (sheet : List Account) (o : Outcome) → Tells s pick (act s place l sheet o).0 (act s place l sheet o).1
  act-tells l sheet (Goes g) = (refl, refl)
  act-tells l sheet (Faults w) = (refl, refl)
  act-tells l sheet Commits = (refl, refl)

  out-tells : (l : Lane) (kind : Quota) (b : Bool) → dispatchable s ≡ None → slice_get s.flight place ≡ Some l → same_word l.own.sponsor root ≡ b → short (account s.sheet l.own.sponsor) (lane_row s.store s.sheet l).charge ≡ Some kind
      → Tells s pick (out_by b kind (run_out s place l kind)) (spent_by b kind (entry l.number (RanOut kind)))
  out-tells l kind true none at h is =
      let x = finish s place l (stop s.sheet l.own.sponsor) no_effects (RanOut kind) in
      let same = word_same l.own.sponsor root h in (
        l.number,
        released-journal x (prepared s.sheet l.own.sponsor) kind,
        refl,
        record {
          running = running;
          no_dispatch = none;
          lane = l;
          chosen = at;
          of_root = same;
          short = subst (λ (w : W). short (account s.sheet w) (lane_row s.store s.sheet l).charge ≡ Some kind) same is;
        },
      )
  out-tells l kind false none at h is =
      let x = finish s place l (stop s.sheet l.own.sponsor) no_effects (RanOut kind) in
      let o = prepared s.sheet l.own.sponsor in
      (released-journal x o kind, released-out x o kind)

  charged-tells : (l : Lane) (o : Option Quota) → dispatchable s ≡ None → slice_get s.flight place ≡ Some l → short (account s.sheet l.own.sponsor) (lane_row s.store s.sheet l).charge ≡ o
      → Tells s pick (charged s place l (lane_row s.store s.sheet l) o).0 (charged s place l (lane_row s.store s.sheet l) o).1
  charged-tells l (Some kind) none at is = out-tells l kind (same_word l.own.sponsor root) none at refl is
  charged-tells l None none at is = act-tells l (spend s.sheet l.own.sponsor (lane_row s.store s.sheet l).charge) (lane_row s.store s.sheet l).outcome

  step-tells : (o : Option Lane) → dispatchable s ≡ None → slice_get s.flight place ≡ o → Tells s pick (step s place o).0 (step s place o).1
  step-tells None none at = (none-there s.flight pick at, none, refl)
  step-tells (Some l) none at = charged-tells l _ none at refl

  deliver-tells : (number : ℕ) (o : Option (List ℕ)) → Tells s pick (deliver s number o).0 (deliver s number o).1
  deliver-tells number (Some bytes) = (refl, refl)
  deliver-tells number None = (refl, refl)

  dispatch-tells : (number : ℕ) (m : Sent) (o : Option ℕ) → Tells s pick (dispatch s number m o).0 (dispatch s number m o).1
  dispatch-tells number m (Some device) = deliver-tells number (piece device s.store m.content)
  dispatch-tells number m None = (refl, refl)

  go-tells : (o : Option Message) → dispatchable s ≡ o → Tells s pick (go s pick o).0 (go s pick o).1
  go-tells (Some m) h = dispatch-tells m.number (sent_at s.store m.event) (device_of (sent_at s.store m.event).target)
  go-tells None h = step-tells _ h refl

  -- where the root did not run out before, the answer tells what the turn adds
  pub turn-tells : Tells s pick (turn s pick).0 (turn s pick).1
  turn-tells = subst (λ (o : Option Quota). Tells s pick (unless_spent s pick o).0 (unless_spent s pick o).1) (sym running) (go-tells _ refl)
