-- A sponsor's signal, when an event ran out.
use Rattle.std.proofs.Common.{◌≡◌, inl, inr, ℕ, suc, ◌+◌, ◌<◌, ◌≤◌, nat_eq, List, [], ◌∷◌, length, Option, Some, Bool, true, false, if◌then◌else◌, ap, refl, sym, subst, arith}
use Rattle.std.specs.Prelude.{slice_get}
use Rattle.std.proofs.lemmas.List.Sums.{sum_by-cons}
use Rattle.cap_words.specs.Words.{W}
use Rattle.cap_words.specs.Frame.{Among}
use Rattle.instr_table.specs.declared.charge.Quota.{Quota}
use Rattle.instr_table.specs.declared.charge.Quota.TheVariants.{Events}
use Rattle.instr_table.specs.Event.{no_effects}
use Rattle.instr_table.specs.Sheet.{Account, prepared}
use Rattle.instr_table.specs.Lane.{Lane as Flying}
use Rattle.instr_table.specs.Reach.{Every}
use Rattle.vm_sponsor.specs.declared.amounts.Amounts.{Amounts}
use Rattle.vm_sponsor.specs.Totals.{total, kept}
use Rattle.vm_turn.specs.declared.journal.Outcome.{Outcome}
use Rattle.vm_turn.specs.State.{State, Message}
use Rattle.vm_turn.specs.Turn.{without, finish}
use Rattle.vm_turn.specs.Sound.{Sound, message_words, sent_by, signals_of, as_list, spent_by_all, spent_of}
use Rattle.vm_turn.proofs.Places.{account-under, signal-no_message, signal-not_sent}
use Rattle.vm_machine.proofs.Lists.{every-removed}
use Rattle.vm_machine.proofs.Failing.{append-none}
use Rattle.vm_machine.proofs.Releasing.{every-in}

-- a word among the events of messages is that of one of them
message-place : (ms : List Message) (w : W) → Among w (message_words ms) → (i : ℕ) × (m : Message) × (slice_get ms i ≡ Some m) × (m.event ≡ w)
message-place [] w a = absurd a
message-place (m ∷ ms) w (inl e) = (0, m, refl, sym e)
message-place (m ∷ ms) w (inr a) = let r = message-place ms w a in (suc r.0, r.1, r.2, r.3)

-- the messages but one are no more
without-among : (n : ℕ) (ms : List Message) (w : W) → Among w (message_words (without n ms)) → Among w (message_words ms)
without-among n [] w a = a
without-among n (m ∷ ms) w a = by (nat_eq m.number n) (without-among n ms w) a
  where
    by : (b : Bool) → (Among w (message_words (without n ms)) → Among w (message_words ms)) → Among w (message_words (if b then without n ms else m ∷ without n ms)) → Among w (message_words (m ∷ ms))
    by true later a = inr (later a)
    by false later (inl e) = inl e
    by false later (inr a) = inr (later a)

-- what was spent is no more than what is spent and held
pub spent-under : (kind : Quota) (rows : List Account) → spent_by_all kind rows ≤ total kind rows
spent-under kind [] = omega arith
spent-under kind (a ∷ rows) = let h = spent-under kind rows in omega (arith, sum_by-cons (spent_of kind) a rows, sum_by-cons (kept kind) a rows, h)

module _ (grant : Amounts) (s : State) (ok : Sound grant s) (who signal : W) (h : prepared s.sheet who ≡ Some signal) where
  -- there is a number for it
  pub signal-fits : s.next_number < grant.events + 1
  signal-fits =
      let one : length (as_list (prepared s.sheet who)) ≡ 1 = ap (λ (o : Option W). length (as_list o)) h in
      let some = account-under (λ (a : Account). length (signals_of a)) s.sheet who refl in
      let granted = ok.conserved Events in
      omega (arith, one, some, granted, spent-under Events s.sheet, ok.paid_for)

  -- it is the event of no message that is left when an event ended
  pub signal-left : (i : ℕ) (l : Flying) (sheet : List Account) (end : Outcome) → Among signal (message_words (finish s i l sheet no_effects end).messages) → ⊥
  signal-left i l sheet end a =
      let b : Among signal (message_words (without l.number s.messages)) = subst (λ (ms : List Message). Among signal (message_words ms)) (append-none (without l.number s.messages)) a in
      let r = message-place s.messages signal (without-among l.number s.messages signal b) in
      signal-no_message s ok who signal h r.0 r.1 r.2 r.3

  -- and no event in flight that is left has sent it
  pub signal-unsent : (i : ℕ) (l : Flying) (sheet : List Account) (end : Outcome) → Every (λ (k : Flying). Among signal (sent_by k) → ⊥) (finish s i l sheet no_effects end).flight
  signal-unsent i l sheet end = every-removed (λ (k : Flying). Among signal (sent_by k) → ⊥) s.flight i (every-in (λ (k : Flying). Among signal (sent_by k) → ⊥) s.flight (λ j k e. signal-not_sent s ok who signal h j k e))

-- the state after the event ended, by its sponsor's stop and its own end
pub stopped-failed : (s t u : State) (i : ℕ) (l : Flying) (sheet : List Account) (end : Outcome) → t ≡ record s { sheet = sheet } → slice_get s.flight i ≡ Some l
    → ((k : Flying) → slice_get t.flight i ≡ Some k → u ≡ finish t i k t.sheet no_effects end) → u ≡ finish s i l sheet no_effects end
stopped-failed s t u i l sheet end e h f = subst (λ (x : State). slice_get x.flight i ≡ Some l → u ≡ finish x i l x.sheet no_effects end) e (f l) h
