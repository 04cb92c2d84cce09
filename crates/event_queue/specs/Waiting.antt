-- The messages that the numbers of a queue stand for.
use Rattle.std.specs.Prelude.{◌≡◌, ℕ, if◌then◌else◌, List, [], ◌∷◌, map, Some, option_map}
use Rattle.cap_words.specs.Words.{W}
use Rattle.cap_words.specs.Store.{Store}
use Rattle.cap_words.specs.Seen.{seen}
use Rattle.cap_words.specs.Frame.{Among}
use Rattle.quad_memory.specs.declared.cells.SponsorCell.{SponsorCell}
use Rattle.quad_memory.specs.Cells.{sponsor_at}
use Rattle.instr_table.specs.Lane.{Lane}
use Rattle.vm_sponsor.specs.Ledger.{Ledger, names}
use Rattle.vm_sponsor.specs.Sheets.{Belongs, sheet_of}
use Rattle.vm_turn.specs.State.{Message}
use Rattle.vm_turn.specs.Turn.{is_in_flight, first_to_go}
use Rattle.event_queue.specs.Pending.{Pending, event_of}
use Rattle.event_queue.specs.Starts.{first_ready}

-- the message of a number
abbrev pub message_of : List W → ℕ → Message
message_of given n = record { number = n; event = event_of given n }

abbrev pub messages_of : List W → List ℕ → List Message
messages_of given ns = map (message_of given) ns

-- the messages that are not in flight
abbrev pub waiting : List Lane → List Message → List Message
waiting flight [] = []
waiting flight (m ∷ ms) = if is_in_flight m.number flight then waiting flight ms else m ∷ waiting flight ms

-- the sheet has a row for each sponsor in the store
abbrev pub IsListed : Store → Ledger → Type 0
IsListed s sheet = (w : W) (c : SponsorCell) → sponsor_at s w ≡ Some c → Among w (names sheet.rows)

-- the ready numbers stand for the messages that are not in flight
abbrev pub StandsFor : Pending → List Lane → List Message → Type 0
StandsFor q flight messages = waiting flight messages ≡ messages_of q.given q.ready

-- then the first ready message is the first that can go
abbrev pub FirstReadyGoesFirst : Type 0
FirstReadyGoesFirst =
    (s : Store) (sheet : Ledger) (flight : List Lane) (messages : List Message) (q : Pending) →
    Belongs s sheet → IsListed s sheet → StandsFor q flight messages →
    first_to_go (seen s) (sheet_of s sheet.rows) flight messages ≡ option_map (message_of q.given) (first_ready s q.given q.ready)
