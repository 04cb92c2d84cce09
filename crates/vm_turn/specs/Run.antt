-- Runs of turns, and the picks that a seed draws.
use Rattle.std.specs.Prelude.{ℕ, zero, suc, ◌+◌, ◌*◌, ◌/◌, ◌%◌, ◌^◌, if◌then◌else◌, Bool, true, false, List, [], ◌∷◌, Option, Some, None}
use Rattle.quad_memory.specs.Image.{RomImage}
use Rattle.instr_table.specs.declared.charge.Quota.{Quota}
use Rattle.vm_sponsor.specs.declared.amounts.Amounts.{Amounts}
use Rattle.vm_turn.specs.declared.journal.Turn.{Turn as Answer}
use Rattle.vm_turn.specs.declared.journal.Turn.TheVariants.{Dispatched, Stepped, Finished, Rest, Spent}
use Rattle.vm_turn.specs.State.{State}
use Rattle.vm_turn.specs.Boot.{booted}
use Rattle.vm_turn.specs.Turn.{turn}

-- the state after turns with these picks
abbrev pub after : State → List ℕ → State
after s [] = s
after s (p ∷ ps) = after (turn s p).0 ps

-- the state after turns with these picks from boot on
abbrev pub run : RomImage → Amounts → ℕ → List ℕ → State
run image grant lanes picks = after (booted image grant lanes) picks

-- what the turns with these picks answer
abbrev pub answers : State → List ℕ → List Answer
answers s [] = []
answers s (p ∷ ps) = (turn s p).1 ∷ answers (turn s p).0 ps

-- ---- completed turns

-- whether an answer tells of anything that was done
abbrev pub not_rest : Answer → Bool
not_rest Dispatched = true
not_rest Stepped = true
not_rest (Finished e) = true
not_rest Rest = false
not_rest (Spent sponsor kind) = true

-- nothing is done once the root ran out
abbrev pub unless_out : Option Quota → Bool → Bool
unless_out None b = b
unless_out (Some kind) b = false

-- whether a turn is completed: it finds the machine neither at rest nor with a root that ran out before
abbrev pub completes : State → ℕ → Bool
completes s pick = unless_out s.out_of (not_rest (turn s pick).1)

-- how many turns with these picks are completed
abbrev pub completed : State → List ℕ → ℕ
completed s [] = 0
completed s (p ∷ ps) = (if completes s p then 1 else 0) + completed (turn s p).0 ps

-- ---- picks

-- the generator's next number
abbrev pub drawn : ℕ → ℕ
drawn x = (1664525 * x + 1013904223) % 2 ^ 32

-- the generator's number after n draws
abbrev pub drawn_after : ℕ → ℕ → ℕ
drawn_after seed zero = seed
drawn_after seed (suc n) = drawn_after (drawn seed) n

-- the pick of a number that was drawn
abbrev pub pick_of : ℕ → ℕ
pick_of x = x / 65536

-- the first n picks of a seed: each completed turn draws one
abbrev pub picks : ℕ → ℕ → List ℕ
picks seed zero = []
picks seed (suc n) = pick_of (drawn seed) ∷ picks (drawn seed) n
