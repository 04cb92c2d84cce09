-- The message that is dispatched is the one with the least number of those that can go.
use Rattle.std.proofs.Common.{◌≡◌, ℕ, zero, suc, ◌<◌, ◌≤◌, nat_lt, if◌then◌else◌, List, [], ◌∷◌, length, Some, None, Bool, true, false, refl, sym, ap, ◌∙◌, subst, arith}
use Rattle.std.specs.Prelude.{slice_get}
use Rattle.std.proofs.lemmas.Bool.Decides.{nat_tests}
use Rattle.cap_words.specs.Seen.{Seen}
use Rattle.instr_table.specs.Sheet.{Account}
use Rattle.instr_table.specs.Lane.{Lane}
use Rattle.vm_sponsor.specs.declared.amounts.Amounts.{Amounts}
use Rattle.vm_turn.specs.State.{Message, State}
use Rattle.vm_turn.specs.Turn.{can_go, first_to_go, dispatchable}
use Rattle.vm_turn.specs.Run.{run}
use Rattle.vm_turn.specs.Sound.{Sound, Rising}
use Rattle.vm_turn.specs.Laws.{IsNext, LeastGoesFirst, OthersWait}
use Rattle.vm_turn.proofs.Sums.{some_is}
use Rattle.vm_turn.proofs.Places.{rising-first}
use Rattle.vm_turn.proofs.RunsSound.{run-sound}

module _ (st : Seen) (sheet : List Account) (flight : List Lane) where
  -- whether a message can go
  abbrev goes_now : Message → Bool
  goes_now m = can_go st sheet flight m

  -- a message of these can go, and none with a smaller number
  record First (ms : List Message) (m : Message) : Type 0 where
    place : ℕ
    there : slice_get ms place ≡ Some m
    goes : goes_now m ≡ true
    least : (p : ℕ) (k : Message) → slice_get ms p ≡ Some k → goes_now k ≡ true → m.number ≤ k.number

  first-least : (first last : ℕ) (ms : List Message) (m : Message) → Rising first last ms → first_to_go st sheet flight ms ≡ Some m → First ms m
  first-least first last [] m r h = cc
  first-least first last (k ∷ ms) m r h = by (goes_now k) refl (λ g. first-least (suc k.number) last ms m r.1 g) h
    where
      by : (b : Bool) → goes_now k ≡ b → (first_to_go st sheet flight ms ≡ Some m → First ms m) → (if b then Some k else first_to_go st sheet flight ms) ≡ Some m → First (k ∷ ms) m
      by true e f g = let is : k ≡ m = some_is g in subst (λ (x : Message). First (k ∷ ms) x) is (record {
        place = 0;
        there = refl;
        goes = e;
        least = λ p x at go. at_least p x at;
      })
        where
          at_least : (p : ℕ) (x : Message) → slice_get (k ∷ ms) p ≡ Some x → k.number ≤ x.number
          at_least zero x at = let e : k.number ≡ x.number = ap (λ (y : Message). y.number) (some_is at) in omega (arith, e)
          at_least (suc p) x at = let b = rising-first (suc k.number) last ms p x r.1 at in omega (arith, b)
      by false e f g = let x = f g in record {
        place = suc x.place;
        there = x.there;
        goes = x.goes;
        least = later x;
      }
        where
          later : First ms m → (p : ℕ) (y : Message) → slice_get (k ∷ ms) p ≡ Some y → goes_now y ≡ true → m.number ≤ y.number
          later x zero y at go = let c : goes_now k ≡ true = subst (λ (z : Message). goes_now z ≡ true) (sym (some_is at)) go in let d : false ≡ true = sym e ∙ c in absurd cc
          later x (suc p) y at go = x.least p y at go

  none-goes : (ms : List Message) (p : ℕ) (k : Message) → first_to_go st sheet flight ms ≡ None → slice_get ms p ≡ Some k → goes_now k ≡ false
  none-goes [] p k h at = cc
  none-goes (m ∷ ms) p k h at = by (goes_now m) refl h (λ g q a. none-goes ms q k g a) p at
    where
      by : (b : Bool) → goes_now m ≡ b → (if b then Some m else first_to_go st sheet flight ms) ≡ None → (first_to_go st sheet flight ms ≡ None → (q : ℕ) → slice_get ms q ≡ Some k → goes_now k ≡ false) → (p : ℕ) → slice_get (m ∷ ms) p ≡ Some k → goes_now k ≡ false
      by true e g rest p at = cc
      by false e g rest zero at = subst (λ (z : Message). goes_now z ≡ false) (some_is at) e
      by false e g rest (suc p) at = rest g p at

pub is-next : {grant : Amounts} (s : State) (m : Message) → Sound grant s → dispatchable s ≡ Some m → IsNext s m
is-next s m ok h = by (nat_lt (length s.flight) s.lanes) refl h
  where
    by : (b : Bool) → nat_lt (length s.flight) s.lanes ≡ b → (if b then first_to_go s.store s.sheet s.flight s.messages else None) ≡ Some m → IsNext s m
    by true e g = let f = first-least s.store s.sheet s.flight 0 s.next_number s.messages m ok.rising g in record { free = let y : length s.flight < s.lanes = grind (arith, nat_tests, e) in y; place = f.place; waits = f.there; goes = f.goes; least = f.least }
    by false e g = cc

pub least-goes-first : LeastGoesFirst
least-goes-first image grant lanes picks m h = is-next (run image grant lanes picks) m (run-sound image grant lanes picks) h

pub others-wait : OthersWait
others-wait image grant lanes picks p k h free at = by (nat_lt (length s.flight) s.lanes) (let y : nat_lt (length s.flight) s.lanes ≡ true = grind (arith, nat_tests, free) in y) h
  where
    s : State
    s = run image grant lanes picks

    by : (b : Bool) → b ≡ true → (if b then first_to_go s.store s.sheet s.flight s.messages else None) ≡ None → can_go s.store s.sheet s.flight k ≡ false
    by true e g = none-goes s.store s.sheet s.flight s.messages p k g at
    by false e g = cc
