-- The messages that are not finished.
use Rattle.std.specs.Prelude.{ℕ, suc, nat_eq, Bool, true, false, ◌||◌, if◌then◌else◌, List, [], ◌∷◌}
use Rattle.cap_words.specs.Words.{W}
use Rattle.instr_table.specs.Lane.{Lane as Flying}
use Rattle.vm_turn.specs.State.{Message}
use Rattle.vm_turn.specs.Turn.{is_in_flight}

-- whether a number is one of these
abbrev pub is_among : ℕ → List ℕ → Bool
is_among n [] = false
is_among n (m ∷ ms) = if nat_eq m n then true else is_among n ms

-- a message is not finished where it is ready or in flight
abbrev pub is_unfinished : List ℕ → List Flying → ℕ → Bool
is_unfinished ready flight n = is_among n ready || is_in_flight n flight

-- the messages of these events, numbered from n on, of which the function says so
abbrev pub kept_from : (ℕ → Bool) → ℕ → List W → List Message
kept_from keep n [] = []
kept_from keep n (w ∷ ws) = if keep n then record { number = n; event = w } ∷ kept_from keep (suc n) ws else kept_from keep (suc n) ws

-- the unfinished messages, in the order of their numbers, where these are the events of all numbers
abbrev pub unfinished : List W → List ℕ → List Flying → List Message
unfinished given ready flight = kept_from (is_unfinished ready flight) 0 given
