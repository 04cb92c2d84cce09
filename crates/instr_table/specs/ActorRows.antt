-- The rows of the operations on actors, which act on the event's record alone.
use Rattle.std.specs.Prelude.{ℕ, if◌then◌else◌, List, [], ◌∷◌, Option, Some, None}
use Rattle.cap_words.specs.Words.{W, Cap}
use Rattle.cap_words.specs.Seen.{Seen, UnbornSlot, EventSlot}
use Rattle.instr_table.specs.Types.{is_actor, is_sponsor}
use Rattle.instr_table.specs.Lists.{next_quad, item}
use Rattle.instr_table.specs.Event.{Behaviour, Effects, Sends, Creates, Assigns, Becomes, has_created}
use Rattle.instr_table.specs.Outcome.{Row, does, faults, not_actor, second_become, not_fresh, not_sponsor}

-- a message under a sponsor
abbrev pub message_to : ℕ → W → Seen → W → W → W → Row
message_to pops sponsor s target content k =
    does pops (EventSlot sponsor target content ∷ []) [] k (Sends (record { event = Cap (next_quad s); sponsor = sponsor; target = target; content = content }))

-- `message target --`
abbrev pub send_row : W → Seen → List W → W → Row
send_row own_sponsor s vs k = if is_actor s (item vs 1) then message_to 2 own_sponsor s (item vs 1) (item vs 2) k else faults 1 1 not_actor

-- `message target sponsor --`
abbrev pub post_row : Seen → List W → W → Row
post_row s vs k =
    if is_sponsor s (item vs 1)
    then if is_actor s (item vs 2) then message_to 3 (item vs 1) s (item vs 2) (item vs 3) k else faults 1 1 not_actor
    else faults 1 1 not_sponsor

-- `state code -- actor`
abbrev pub create_row : Seen → List W → W → Row
create_row s vs k =
    does 2 (UnbornSlot ∷ []) (Cap (next_quad s) ∷ []) k (Creates (record { actor = Cap (next_quad s); state = item vs 2; code = item vs 1 }))

-- `state code actor --`
abbrev pub assign_row : Effects → List W → W → Row
assign_row e vs k =
    if has_created (item vs 1) e.created
    then does 3 [] [] k (Assigns (record { actor = item vs 1; state = item vs 3; code = item vs 2 }))
    else faults 0 0 not_fresh

-- `state code --`
abbrev pub become_row : Option Behaviour → List W → W → Row
become_row None vs k = does 2 [] [] k (Becomes (record { state = item vs 2; code = item vs 1 }))
become_row (Some b) vs k = faults 0 0 second_become
