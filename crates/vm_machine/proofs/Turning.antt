-- One turn, put together.
use Rattle.std.proofs.Common.{◌≡◌, ℕ, ◌%◌, List, length, Option, Some, None, Result, Ok, Err, Bool, true, ap, sym, ◌∙◌, subst}
use Rattle.std.specs.Prelude.{slice_get, option_map}
use Rattle.cap_words.specs.Words.{W}
use Rattle.vm_sponsor.specs.declared.amounts.Amounts.{Amounts}
use Rattle.vm_devices.specs.declared.delivery.WriteFault.{WriteFault}
use Rattle.vm_turn.specs.declared.journal.Turn.{Turn as Answer}
use Rattle.vm_turn.specs.State.{State}
use Rattle.vm_turn.specs.Actors.{sent_at}
use Rattle.vm_turn.specs.Turn.{dispatchable, dispatch, device_of, go, unless_spent, turn, step}
use Rattle.vm_turn.specs.Sound.{Sound}
use Rattle.vm_turn.specs.Authority.{WordsTaken}
use Rattle.vm_turn.proofs.Bound.{turn-sound}
use Rattle.vm_turn.proofs.WordsKept.{turn-taken}
use Rattle.event_queue.specs.Pending.{event_of}
use Rattle.event_queue.specs.Waiting.{message_of}
use Rattle.vm_machine.specs.declared.parts.Parts.{Parts}
use Rattle.vm_machine.specs.View.{state_of, unwritten}
use Rattle.vm_machine.specs.Whole.{Waits}
use Rattle.vm_machine.specs.Steps.{TakesOne}
use Rattle.vm_machine.specs.Turns.{Takes}
use Rattle.vm_machine.proofs.Searching.{waits-next}

-- what was written is no part of what every turn keeps
pub unwritten-sound : (grant : Amounts) (s : State) → Sound grant s → Sound grant (unwritten s)
unwritten-sound grant s h = record {
  conserved = h.conserved;
  balanced = h.balanced;
  quads = h.quads;
  ended = h.ended;
  paid_for = h.paid_for;
  rising = h.rising;
  apart = h.apart;
  pending = h.pending;
  listed = h.listed;
  sponsors_apart = h.sponsors_apart;
  sponsors_taken = h.sponsors_taken;
  once = h.once;
  events_taken = h.events_taken;
}

pub takes-sound : (grant : Amounts) (s t : State) (pick : ℕ) (r : Result Answer WriteFault) (before after : Option (List ℕ)) → Sound grant s → Takes (turn s pick) r s t before after → Sound grant t
takes-sound grant s t pick (Ok a) before after ok h = subst (λ (x : State). Sound grant x) (sym h.0) (unwritten-sound grant (turn s pick).0 (turn-sound grant s ok pick))
takes-sound grant s t pick (Err f) before after ok h = subst (λ (x : State). Sound grant x) (sym h.0) ok

pub takes-taken : (s t : State) (pick : ℕ) (r : Result Answer WriteFault) (before after : Option (List ℕ)) → WordsTaken s → Takes (turn s pick) r s t before after → WordsTaken t
takes-taken s t pick (Ok a) before after ok h = let x = turn-taken s pick ok in subst WordsTaken (sym h.0) (record { image = x.image; cells = x.cells; flight = x.flight })
takes-taken s t pick (Err f) before after ok h = subst WordsTaken (sym h.0) ok

-- a message that can go is dispatched
pub turn-dispatches : (s : State) (pick number : ℕ) (given : List W) → s.out_of ≡ None → option_map (message_of given) (Some number) ≡ dispatchable s
    → turn s pick ≡ dispatch s number (sent_at s.store (event_of given number)) (device_of (sent_at s.store (event_of given number)).target)
turn-dispatches s pick number given out h = ap (unless_spent s pick) out ∙ ap (go s pick) (sym h)

-- and else one event takes an instruction
pub turn-steps : (s : State) (pick : ℕ) (given : List W) → s.out_of ≡ None → option_map (message_of given) None ≡ dispatchable s
    → turn s pick ≡ step s (pick % length s.flight) (slice_get s.flight (pick % length s.flight))
turn-steps s pick given out h = ap (unless_spent s pick) out ∙ ap (go s pick) (sym h)

-- where a message was found the search is not given up
pub found-loose : (s : State) (b : Bool) (number : ℕ) (given : List W) → (b ≡ true → Waits s) → option_map (message_of given) (Some number) ≡ dispatchable s → b ≡ true → ⊥
found-loose s b number given w h e = let x : Some (message_of given number) ≡ None = h ∙ sym (waits-next s (w e)) in cc

-- the message that was found is the one that the turn dispatches
pub dispatch-turn : (p q : Parts) (b : Bool) (pick number : ℕ) (o : Option ℕ) → q ≡ record p { stuck = b } → p.out_of ≡ None → o ≡ Some number → option_map (message_of p.queue.given) o ≡ dispatchable (state_of p)
    → turn (state_of p) pick ≡ dispatch (state_of q) number (sent_at (state_of q).store (event_of q.queue.given number)) (device_of (sent_at (state_of q).store (event_of q.queue.given number)).target)
dispatch-turn p q b pick number o same out is found =
    turn-dispatches (state_of p) pick number p.queue.given out (subst (λ (x : Option ℕ). option_map (message_of p.queue.given) x ≡ dispatchable (state_of p)) is found)
    ∙ sym (ap (λ (x : Parts). dispatch (state_of x) number (sent_at (state_of x).store (event_of x.queue.given number)) (device_of (sent_at (state_of x).store (event_of x.queue.given number)).target)) same)

pub dispatch-takes : (p q : Parts) (b : Bool) (t : State) (pick number : ℕ) (o : Option ℕ) (r : Result Answer WriteFault) (before after : Option (List ℕ)) → q ≡ record p { stuck = b } → p.out_of ≡ None → o ≡ Some number → option_map (message_of p.queue.given) o ≡ dispatchable (state_of p)
    → Takes (dispatch (state_of q) number (sent_at (state_of q).store (event_of q.queue.given number)) (device_of (sent_at (state_of q).store (event_of q.queue.given number)).target)) r (state_of q) t before after
    → Takes (turn (state_of p) pick) r (state_of p) t before after
dispatch-takes p q b t pick number o r before after same out is found h =
    subst (λ (s : State). Takes (turn (state_of p) pick) r s t before after) (ap state_of same)
    (subst (λ (x : State × Answer). Takes x r (state_of q) t before after) (sym (dispatch-turn p q b pick number o same out is found)) h)

-- where none was found the turn is the instruction
pub one-turns : (s t : State) (pick : ℕ) (a : Answer) (o : Option ℕ) (given : List W) → s.out_of ≡ None → o ≡ None → option_map (message_of given) o ≡ dispatchable s → TakesOne s pick t a → turn s pick ≡ (t, a)
one-turns s t pick a o given out is found one = turn-steps s pick given out (subst (λ (x : Option ℕ). option_map (message_of given) x ≡ dispatchable s) is found) ∙ sym one

-- and what every turn keeps stands after it
pub takes-one-sound : (grant : Amounts) (s t : State) (pick : ℕ) (a : Answer) → Sound grant s → turn s pick ≡ (t, a) → Sound grant t
takes-one-sound grant s t pick a ok e = subst (λ (x : State × Answer). Sound grant x.0) e (turn-sound grant s ok pick)

pub takes-one-taken : (s t : State) (pick : ℕ) (a : Answer) → WordsTaken s → turn s pick ≡ (t, a) → WordsTaken t
takes-one-taken s t pick a ok e = subst (λ (x : State × Answer). WordsTaken x.0) e (turn-taken s pick ok)

-- no turn changes the grant
pub grant-kept : (p q r : Parts) → q ≡ record p { stuck = q.stuck } → r.grant ≡ q.grant → r.grant ≡ p.grant
grant-kept p q r same e = e ∙ ap (λ (x : Parts). x.grant) same
