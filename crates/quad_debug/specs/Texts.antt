-- The lines that a debugger writes.
use Rattle.std.specs.Prelude.{ℕ, suc, ◌+◌, ◌/◌, ◌%◌, nat_lt, if◌then◌else◌, List, [], ◌∷◌, ◌++◌, Option, Some, None, codes, decimal}
use Rattle.std.specs.List.{concat, flat_map}
use Rattle.cap_words.specs.declared.word.Quad.{Quad}
use Rattle.cap_words.specs.Words.{W, bits_of}
use Rattle.failure_lines.specs.Failure.{failure_line}
use Rattle.instr_table.specs.declared.charge.Quota.{Quota}
use Rattle.instr_table.specs.declared.charge.Quota.TheVariants.{Memory, Events, Cycles}
use Rattle.instr_table.specs.Sheet.{Account, Amount}
use Rattle.vm_turn.specs.declared.journal.Entry.{Entry}
use Rattle.vm_turn.specs.declared.journal.Outcome.{Outcome}
use Rattle.vm_turn.specs.declared.journal.Outcome.TheVariants.{Committed, Failed, RanOut}
use Rattle.uasm_read.specs.Texts.{Bytes}
use Rattle.quad_debug.specs.declared.command.Place.{Place}
use Rattle.quad_debug.specs.declared.command.Place.TheVariants.{Rom, Ram}

-- ---- events

abbrev pub kind_name : Quota → Bytes
kind_name Memory = codes "memory"
kind_name Events = codes "events"
kind_name Cycles = codes "cycles"

abbrev pub committed_line : ℕ → Bytes
committed_line message = concat (codes "* event " ∷ decimal message ∷ codes " committed\n" ∷ [])

-- the line of an event that failed, behind an asterisk
abbrev pub failed_line : ℕ → W → Bytes
failed_line message reason = codes "* " ++ failure_line message reason

abbrev pub ran_out_line : ℕ → Quota → Bytes
ran_out_line message kind = concat (codes "* event " ∷ decimal message ∷ codes " spent " ∷ kind_name kind ∷ codes "\n" ∷ [])

-- the line of an event that ended so
abbrev pub ended_line : ℕ → Outcome → Bytes
ended_line message Committed = committed_line message
ended_line message (Failed reason) = failed_line message reason
ended_line message (RanOut kind) = ran_out_line message kind

abbrev pub event_line : Entry → Bytes
event_line e = ended_line e.message e.outcome

-- a line for each entry
abbrev pub event_lines : List Entry → Bytes
event_lines entries = flat_map event_line entries

-- ---- how commands end

-- how many turns are completed
abbrev pub turn_line : ℕ → Bytes
turn_line turns = concat (codes "* turn " ∷ decimal turns ∷ codes "\n" ∷ [])

abbrev pub flight_line : ℕ → Bytes
flight_line message = concat (codes "* in flight " ∷ decimal message ∷ codes "\n" ∷ [])

abbrev pub rest_line : Bytes
rest_line = codes "* rest\n"

abbrev pub spent_line : Bytes
spent_line = codes "* spent\n"

-- ---- ready events

abbrev pub ready_line : ℕ → Bytes
ready_line message = concat (codes "* ready " ∷ decimal message ∷ codes "\n" ∷ [])

-- ---- cells

abbrev pub hex_digit : ℕ → ℕ
hex_digit d = if nat_lt d 10 then 48 + d else 55 + d

-- a number below 2 ^ 32 in 8 hexadecimal digits
unfoldable pub hex_of : ℕ → Bytes
hex_of b =
    hex_digit (b / 268435456 % 16) ∷ hex_digit (b / 16777216 % 16) ∷ hex_digit (b / 1048576 % 16) ∷ hex_digit (b / 65536 % 16)
    ∷ hex_digit (b / 4096 % 16) ∷ hex_digit (b / 256 % 16) ∷ hex_digit (b / 16 % 16) ∷ hex_digit (b % 16) ∷ []

abbrev pub word_text : W → Bytes
word_text w = hex_of (bits_of w)

abbrev pub memory_name : Place → Bytes
memory_name (Rom n) = codes "rom"
memory_name (Ram n) = codes "ram"

abbrev pub place_number : Place → ℕ
place_number (Rom n) = n
place_number (Ram n) = n

abbrev pub no_cell_line : Place → Bytes
no_cell_line place = concat (codes "* " ∷ memory_name place ∷ codes " " ∷ decimal (place_number place) ∷ codes " none\n" ∷ [])

abbrev pub words_line : Place → Quad → Bytes
words_line place q = concat (
    codes "* " ∷ memory_name place ∷ codes " " ∷ decimal (place_number place) ∷ codes " " ∷ word_text q.t ∷ codes " " ∷ word_text q.x
    ∷ codes " " ∷ word_text q.y ∷ codes " " ∷ word_text q.z ∷ codes "\n" ∷ [])

-- the line of a place with the words of its cell, if it has one
abbrev pub cell_line : Place → Option Quad → Bytes
cell_line place None = no_cell_line place
cell_line place (Some q) = words_line place q

-- ---- sponsors

-- the line of a sponsor and one kind, with what it received, passed on, spent and holds of it
abbrev pub amount_line : ℕ → Quota → Amount → Bytes
amount_line number kind a = concat (
    codes "* sponsor " ∷ decimal number ∷ codes " " ∷ kind_name kind ∷ codes " received " ∷ decimal a.received
    ∷ codes " passed " ∷ decimal a.passed ∷ codes " spent " ∷ decimal a.spent ∷ codes " held " ∷ decimal a.held ∷ codes "\n" ∷ [])

-- the three lines of a sponsor
abbrev pub account_lines : ℕ → Account → Bytes
account_lines number a = amount_line number Memory a.memory ++ (amount_line number Events a.events ++ amount_line number Cycles a.cycles)

-- the lines of all sponsors, counted from a number on in order of making
abbrev pub sheet_lines : ℕ → List Account → Bytes
sheet_lines number [] = []
sheet_lines number (a ∷ sheet) = account_lines number a ++ sheet_lines (suc number) sheet
