-- The kinds of turns: what is so of each kind is so of every turn.
use Rattle.std.proofs.Common.{◌≡◌, ℕ, zero, suc, ◌%◌, ◌<◌, List, [], ◌∷◌, length, Option, Some, None, Bool, true, false, refl, arith}
use Rattle.std.specs.Prelude.{slice_get}
use Rattle.std.proofs.lemmas.Nat.{mod_below}
use Rattle.cap_words.specs.Words.{W, same_word}
use Rattle.instr_table.specs.declared.charge.Quota.{Quota}
use Rattle.instr_table.specs.Spent.{unspent}
use Rattle.instr_table.specs.Event.{no_effects}
use Rattle.instr_table.specs.Sheet.{Account, account, short, spend}
use Rattle.instr_table.specs.Outcome.{Going, Outcome, Goes, Faults, Commits, Row}
use Rattle.instr_table.specs.Lane.{Lane, lane_row}
use Rattle.vm_turn.specs.declared.journal.Outcome.TheVariants.{Committed, Failed, RanOut}
use Rattle.vm_turn.specs.declared.journal.Turn.{Turn as Answer}
use Rattle.vm_turn.specs.declared.journal.Turn.TheVariants.{Dispatched, Stepped, Finished, Rest, Spent}
use Rattle.vm_turn.specs.State.{Message, State, root}
use Rattle.vm_turn.specs.Actors.{sent_at}
use Rattle.vm_turn.specs.Piece.{piece}
use Rattle.vm_turn.specs.Turn.{dispatchable, entry, device_of, begin, delivered, refused, deliver, dispatch, finish, go_on, act, out_by, spent_by, run_out, charged, step, go, unless_spent, turn}
use Rattle.vm_turn.specs.Spending.{Spending, none_spent, with_spent, with_charge, charged_spending, step_spending, go_spending, unless_out_spending, turn_spending}

-- the event at the place that a pick names takes an instruction
abbrev pub IsPicked : State → ℕ → Lane → Type 0
IsPicked s pick l = slice_get s.flight (pick % length s.flight) ≡ Some l

-- where a pick names no event none is in flight
none-picked : (ls : List Lane) (pick : ℕ) → slice_get ls (pick % length ls) ≡ None → ls ≡ []
none-picked [] pick h = refl
none-picked (l ∷ ls) pick h = let b = mod_below pick (length (l ∷ ls)) (omega arith) in absurd (some-there (l ∷ ls) (pick % length (l ∷ ls)) b h)
  where
    some-there : (xs : List Lane) (i : ℕ) → i < length xs → slice_get xs i ≡ None → ⊥
    some-there [] i b e = omega (arith, b)
    some-there (x ∷ xs) zero b e = cc
    some-there (x ∷ xs) (suc i) b e = some-there xs i (omega (arith, b)) e

module _ (s : State) where
  -- the row of an event's next instruction, and the sheet after its sponsor paid for that
  abbrev pub row_of : Lane → Row
  row_of l = lane_row s.store s.sheet l

  abbrev pub paid_for : Lane → List Account
  paid_for l = spend s.sheet l.own.sponsor (row_of l).charge

  -- its sponsor can pay for it, or is short of that kind
  abbrev pub IsPaid : Lane → Type 0
  IsPaid l = short (account s.sheet l.own.sponsor) (row_of l).charge ≡ None

  abbrev pub IsShort : Lane → Quota → Type 0
  IsShort l kind = short (account s.sheet l.own.sponsor) (row_of l).charge ≡ Some kind

  -- the message is dispatched now, to a device or to another actor
  pub record IsDispatched (m : Message) (device : Option ℕ) : Type 0 where
    pub running : s.out_of ≡ None
    pub first : dispatchable s ≡ Some m
    pub device_is : device_of (sent_at s.store m.event).target ≡ device

  -- the device writes that of it, or refuses it
  abbrev pub IsPiece : Message → ℕ → Option (List ℕ) → Type 0
  IsPiece m device bytes = piece device s.store (sent_at s.store m.event).content ≡ bytes

module _ (s : State) (pick : ℕ) (before : Spending) (P : State → Answer → Spending → Type 0) where
  abbrev place : ℕ
  place = pick % length s.flight

  -- P of each kind of turn: the root ran out before, the machine is at rest, an event begins, a device writes a message or refuses it, an
  -- event goes on, fails, commits, runs out under another sponsor than the root, or under the root
  pub record EachCase : Type 0 where
    pub spent : (kind : Quota) → s.out_of ≡ Some kind → P s (Spent root kind) before
    pub rests : s.out_of ≡ None → dispatchable s ≡ None → s.flight ≡ [] → P s Rest before
    pub begins : (m : Message) → IsDispatched s m None → P (begin s m.number (sent_at s.store m.event)) Dispatched (with_spent before m.number unspent)
    pub writes : (m : Message) (device : ℕ) (bytes : List ℕ) → IsDispatched s m (Some device) → IsPiece s m device (Some bytes)
        → P (delivered s m.number Committed bytes) (Finished (entry m.number Committed)) (with_spent before m.number unspent)
    pub refuses : (m : Message) (device : ℕ) → IsDispatched s m (Some device) → IsPiece s m device None
        → P (delivered s m.number refused []) (Finished (entry m.number refused)) (with_spent before m.number unspent)
    pub goes : (l : Lane) (g : Going) → IsPicked s pick l → IsPaid s l → (row_of s l).outcome ≡ Goes g
        → P (go_on s place l (paid_for s l) g) Stepped (with_charge before l.number (row_of s l).charge)
    pub fails : (l : Lane) (w : W) → IsPicked s pick l → IsPaid s l → (row_of s l).outcome ≡ Faults w
        → P (finish s place l (paid_for s l) no_effects (Failed w)) (Finished (entry l.number (Failed w))) (with_charge before l.number (row_of s l).charge)
    pub commits : (l : Lane) → IsPicked s pick l → IsPaid s l → (row_of s l).outcome ≡ Commits
        → P (finish s place l (paid_for s l) l.effects Committed) (Finished (entry l.number Committed)) (with_charge before l.number (row_of s l).charge)
    pub runs_out : (l : Lane) (kind : Quota) → IsPicked s pick l → IsShort s l kind → same_word l.own.sponsor root ≡ false
        → P (run_out s place l kind) (Finished (entry l.number (RanOut kind))) before
    pub root_runs_out : (l : Lane) (kind : Quota) → IsPicked s pick l → IsShort s l kind → same_word l.own.sponsor root ≡ true → s.out_of ≡ None
        → P (record (run_out s place l kind) { out_of = Some kind }) (Spent root kind) before

  module _ (k : EachCase) where
    dispatched-by : (m : Message) (device : Option ℕ) → IsDispatched s m device → P (dispatch s m.number (sent_at s.store m.event) device).0 (dispatch s m.number (sent_at s.store m.event) device).1 (with_spent before m.number unspent)
    dispatched-by m None d = k.begins m d
    dispatched-by m (Some device) d = written (piece device s.store (sent_at s.store m.event).content) refl
      where
        written : (bytes : Option (List ℕ)) → IsPiece s m device bytes → P (deliver s m.number bytes).0 (deliver s m.number bytes).1 (with_spent before m.number unspent)
        written (Some bytes) e = k.writes m device bytes d e
        written None e = k.refuses m device d e

    acted-by : (l : Lane) (o : Outcome) → IsPicked s pick l → IsPaid s l → (row_of s l).outcome ≡ o → P (act s place l (paid_for s l) o).0 (act s place l (paid_for s l) o).1 (with_charge before l.number (row_of s l).charge)
    acted-by l (Goes g) at paid is = k.goes l g at paid is
    acted-by l (Faults w) at paid is = k.fails l w at paid is
    acted-by l Commits at paid is = k.commits l at paid is

    out-by : (l : Lane) (kind : Quota) (b : Bool) → IsPicked s pick l → IsShort s l kind → same_word l.own.sponsor root ≡ b → s.out_of ≡ None
        → P (out_by b kind (run_out s place l kind)) (spent_by b kind (entry l.number (RanOut kind))) before
    out-by l kind true at lacks root run = k.root_runs_out l kind at lacks root run
    out-by l kind false at lacks other run = k.runs_out l kind at lacks other

    charged-by : (l : Lane) (o : Option Quota) → s.out_of ≡ None → IsPicked s pick l → short (account s.sheet l.own.sponsor) (row_of s l).charge ≡ o
        → P (charged s place l (row_of s l) o).0 (charged s place l (row_of s l) o).1 (charged_spending before l (row_of s l) o)
    charged-by l (Some kind) run at h = out-by l kind (same_word l.own.sponsor root) at h refl run
    charged-by l None run at h = acted-by l (row_of s l).outcome at h refl

    stepped-by : (o : Option Lane) → s.out_of ≡ None → dispatchable s ≡ None → slice_get s.flight place ≡ o → P (step s place o).0 (step s place o).1 (step_spending before s o)
    stepped-by None run waits at = k.rests run waits (none-picked s.flight pick at)
    stepped-by (Some l) run waits at = charged-by l _ run at refl

    gone-by : (o : Option Message) → s.out_of ≡ None → dispatchable s ≡ o → P (go s pick o).0 (go s pick o).1 (go_spending before s pick o)
    gone-by (Some m) run h = dispatched-by m (device_of (sent_at s.store m.event).target) (record { running = run; first = h; device_is = refl })
    gone-by None run h = stepped-by _ run h refl

    unless-by : (o : Option Quota) → s.out_of ≡ o → P (unless_spent s pick o).0 (unless_spent s pick o).1 (unless_out_spending before s pick o)
    unless-by (Some kind) h = k.spent kind h
    unless-by None h = gone-by _ h refl

    -- so it is of a turn, with what events have spent after it
    pub turn-spends : P (turn s pick).0 (turn s pick).1 (turn_spending before s pick)
    turn-spends = unless-by s.out_of refl

-- where nothing is said of what events spend
module _ (s : State) (pick : ℕ) (P : State → Answer → Type 0) where
  abbrev pub EachKind : Type 0
  EachKind = EachCase s pick none_spent (λ t a n. P t a)

  pub turn-by : EachKind → P (turn s pick).0 (turn s pick).1
  turn-by k = turn-spends s pick none_spent (λ t a n. P t a) k
