-- Runs that go on, and the picks that they draw.
use Rattle.std.proofs.Common.{◌≡◌, ℕ, zero, suc, List, [], ◌∷◌, ◌++◌, refl, ap}
use Rattle.vm_turn.specs.State.{State}
use Rattle.vm_turn.specs.Turn.{turn}
use Rattle.vm_turn.specs.Run.{after, drawn, drawn_after, pick_of, picks}

-- a run goes on from where it is
pub after-append : (s : State) (ps qs : List ℕ) → after s (ps ++ qs) ≡ after (after s ps) qs
after-append s [] qs = refl
after-append s (p ∷ ps) qs = after-append (turn s p).0 ps qs

-- the next pick is that of the generator's next number
pub picks-next : (seed n : ℕ) → picks seed (suc n) ≡ picks seed n ++ pick_of (drawn (drawn_after seed n)) ∷ []
picks-next seed zero = refl
picks-next seed (suc n) = ap (λ (ps : List ℕ). pick_of (drawn seed) ∷ ps) (picks-next (drawn seed) n)

pub drawn-next : (seed n : ℕ) → drawn_after seed (suc n) ≡ drawn (drawn_after seed n)
drawn-next seed zero = refl
drawn-next seed (suc n) = drawn-next (drawn seed) n
