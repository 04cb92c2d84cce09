-- Where a turn is not completed nothing changes.
use Rattle.std.proofs.Common.{◌≡◌, ℕ, List, Option, Some, None, Result, Ok, Err, Bool, true, false, if◌then◌else◌, ap, refl, sym, ◌∙◌, arith}
use Rattle.std.specs.Prelude.{OnErr}
use Rattle.cap_words.specs.Words.{W, same_word}
use Rattle.instr_table.specs.declared.charge.Quota.{Quota}
use Rattle.instr_table.specs.Event.{Sent}
use Rattle.instr_table.specs.Sheet.{Account, account, short, spend}
use Rattle.instr_table.specs.Outcome.{Outcome, Goes, Faults, Commits, Row}
use Rattle.instr_table.specs.Lane.{Lane, lane_row}
use Rattle.vm_devices.specs.declared.delivery.WriteFault.{WriteFault}
use Rattle.vm_turn.specs.declared.journal.Entry.{Entry}
use Rattle.vm_turn.specs.declared.journal.Outcome.TheVariants.{RanOut}
use Rattle.vm_turn.specs.declared.journal.Turn.{Turn as Answer}
use Rattle.vm_turn.specs.State.{State, root}
use Rattle.vm_turn.specs.Piece.{piece}
use Rattle.vm_turn.specs.Turn.{entry, act, charged, step, deliver, dispatch, spent_by}
use Rattle.vm_turn.specs.Run.{not_rest}
use Rattle.vm_machine.specs.declared.parts.Parts.{Parts}
use Rattle.vm_machine.specs.View.{state_of}
use Rattle.vm_machine.specs.Turns.{Takes}
use Rattle.vm_machine.specs.Machine.{Machine, image_of, turns_by}

-- ---- answers that tell of something that was done

act-tells : (s : State) (i : ℕ) (l : Lane) (sheet : List Account) (o : Outcome) → not_rest (act s i l sheet o).1 ≡ true
act-tells s i l sheet (Goes g) = refl
act-tells s i l sheet (Faults w) = refl
act-tells s i l sheet Commits = refl

spent-tells : (b : Bool) (kind : Quota) (e : Entry) → not_rest (spent_by b kind e) ≡ true
spent-tells true kind e = refl
spent-tells false kind e = refl

charged-tells : (s : State) (i : ℕ) (l : Lane) (r : Row) (o : Option Quota) → not_rest (charged s i l r o).1 ≡ true
charged-tells s i l r (Some kind) = spent-tells (same_word l.own.sponsor root) kind (entry l.number (RanOut kind))
charged-tells s i l r None = act-tells s i l (spend s.sheet l.own.sponsor r.charge) r.outcome

pub step-tells : (s : State) (i : ℕ) (l : Lane) → not_rest (step s i (Some l)).1 ≡ true
step-tells s i l = charged-tells s i l (lane_row s.store s.sheet l) (short (account s.sheet l.own.sponsor) (lane_row s.store s.sheet l).charge)

deliver-tells : (s : State) (number : ℕ) (bytes : Option (List ℕ)) → not_rest (deliver s number bytes).1 ≡ true
deliver-tells s number (Some bytes) = refl
deliver-tells s number None = refl

dispatch-tells : (s : State) (number : ℕ) (m : Sent) (o : Option ℕ) → not_rest (dispatch s number m o).1 ≡ true
dispatch-tells s number m (Some device) = deliver-tells s number (piece device s.store m.content)
dispatch-tells s number m None = refl

-- such a turn is completed
completed-one : (o : Option Quota) (a : Answer) → o ≡ None → not_rest a ≡ true → turns_by o (Ok a) ≡ 1
completed-one o a out tells = ap (λ (k : Option Quota). turns_by k (Ok a)) out ∙ ap (λ (b : Bool). if b then 1 else 0) tells

-- ---- the parts of a machine

-- the same parts, but for whether it waits
same-again : (p q r : Parts) → q ≡ record p { stuck = q.stuck } → r ≡ q → r ≡ record p { stuck = r.stuck }
same-again p q r same e = e ∙ same ∙ ap (λ (x : Parts). record p { stuck = x.stuck }) (sym e)

pub still-dispatched : (p q r : Parts) (number : ℕ) (m : Sent) (o : Option ℕ) (res : Result Answer WriteFault) (before after : Option (List ℕ)) → p.out_of ≡ None → q ≡ record p { stuck = q.stuck }
    → Takes (dispatch (state_of q) number m o) res (state_of q) (state_of r) before after → OnErr res (r ≡ q) → turns_by p.out_of res ≡ 0 → r ≡ record p { stuck = r.stuck }
still-dispatched p q r number m o (Ok a) before after out same t e h =
    let z = completed-one p.out_of a out (ap not_rest t.1 ∙ dispatch-tells (state_of q) number m o) in
    absurd (omega (arith, z, h))
still-dispatched p q r number m o (Err f) before after out same t e h = same-again p q r same e

pub still-stepped : (p q r : Parts) (a : Answer) → p.out_of ≡ None → q ≡ record p { stuck = q.stuck } → (not_rest a ≡ false → r ≡ q) → turns_by p.out_of (Ok a) ≡ 0 → r ≡ record p { stuck = r.stuck }
still-stepped p q r a out same e h = by (not_rest a) refl
  where
    by : (b : Bool) → not_rest a ≡ b → r ≡ record p { stuck = r.stuck }
    by true tells = let z = completed-one p.out_of a out tells in absurd (omega (arith, z, h))
    by false tells = same-again p q r same (e tells)

-- what is seen of a machine does not tell whether it waits
abbrev shown : Parts → W → ℕ → ℕ → Machine
shown p boot seed turns = record { state = state_of p; image = image_of p boot; grant = p.grant; seed = seed; turns = turns; quads = p.quads; sheet = p.sheet; queue = p.queue }

pub shown-same : (p q : Parts) (boot : W) (seed turns : ℕ) → q ≡ record p { stuck = q.stuck } → shown q boot seed turns ≡ shown p boot seed turns
shown-same p q boot seed turns same = ap (λ (x : Parts). shown x boot seed turns) same
