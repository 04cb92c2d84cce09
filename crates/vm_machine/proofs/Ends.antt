-- The messages and lanes that are left when an event ends.
use Rattle.std.proofs.Common.{◌≡◌, ℕ, zero, suc, nat_eq, List, [], ◌∷◌, Some, Bool, true, false, if◌then◌else◌, ap, refl, sym, arith}
use Rattle.std.specs.Prelude.{remove, slice_get, ◌||◌}
use Rattle.std.proofs.lemmas.Bool.Decides.{nat_tests}
use Rattle.cap_words.specs.Words.{W}
use Rattle.cap_words.specs.Store.{Store}
use Rattle.instr_table.specs.Lane.{Lane as Flying}
use Rattle.instr_table.specs.Reach.{Every}
use Rattle.vm_turn.specs.Turn.{is_in_flight, without}
use Rattle.vm_step.specs.declared.lane.Lane.{Lane}
use Rattle.vm_machine.specs.Messages.{is_among, is_unfinished, unfinished}
use Rattle.vm_machine.specs.Flight.{flight_of, Separate}
use Rattle.vm_machine.proofs.Messages.{kept-without}
use Rattle.vm_machine.proofs.Going.{number_is}

-- another number
abbrev pub Differs : ℕ → Flying → Type 0
Differs n k = n ≡ k.number → ⊥

in_flight-removed : (n : ℕ) (ls : List Flying) (i : ℕ) (l : Flying) → slice_get ls i ≡ Some l → (l.number ≡ n → ⊥) → is_in_flight n (remove ls i) ≡ is_in_flight n ls
in_flight-removed n [] i l e d = cc
in_flight-removed n (k ∷ ls) zero l e d =
    let x : nat_eq k.number n ≡ false = (let y = number_is k l e in grind (arith, nat_tests, y, d)) in
    rw x refl
in_flight-removed n (k ∷ ls) (suc i) l e d = ap (λ (b : Bool). if nat_eq k.number n then true else b) (in_flight-removed n ls i l e d)

in_flight-gone : (n : ℕ) (ls : List Flying) → Every (Differs n) ls → is_in_flight n ls ≡ false
in_flight-gone n [] h = refl
in_flight-gone n (k ∷ ls) h =
    let x : nat_eq k.number n ≡ false = (let d = h.0 in grind (arith, nat_tests, d)) in
    rw x (in_flight-gone n ls h.1)

-- a message that was in flight ends
pub unfinished-left : (given : List W) (ready : List ℕ) (ls : List Flying) (i : ℕ) (l : Flying) → slice_get ls i ≡ Some l → is_among l.number ready ≡ false → Every (Differs l.number) (remove ls i)
    → unfinished given ready (remove ls i) ≡ without l.number (unfinished given ready ls)
unfinished-left given ready ls i l e r d =
    kept-without (is_unfinished ready ls) (is_unfinished ready (remove ls i)) l.number 0 given
    (λ k x. ap (λ (b : Bool). is_among k ready || b) (in_flight-removed k ls i l e (λ y. x (sym y))))
    (rw r (in_flight-gone l.number (remove ls i) d))

-- lanes that are separate have other numbers
pub separate-differs : (s : Store) (l : Lane) (ls : List Lane) → Every (Separate s l) ls → Every (Differs l.number) (flight_of s ls)
separate-differs s l [] h = tt
separate-differs s l (k ∷ ls) h = (h.0.numbers, separate-differs s l ls h.1)
