-- The commands of a script, and its first line that has no form.
use Rattle.std.specs.Prelude.{ℕ, Bool, true, false, ◌&&◌, if◌then◌else◌, nat_le, List, [], ◌∷◌, length, map, Option, Some, None, codes}
use Rattle.std.specs.Char.{is_ascii_digit}
use Rattle.std.specs.List.{list_all, flat_map, position_from}
use Rattle.std.specs.Str.{bytes_eq}
use Rattle.uasm_read.specs.Texts.{Bytes, lines_of, parts_of, value_from}
use Rattle.quad_debug.specs.declared.command.Command.{Command}
use Rattle.quad_debug.specs.declared.command.Command.TheVariants.{Step, Event, BreakAt, Show, Queue, Sheet, Back}
use Rattle.quad_debug.specs.declared.command.Place.{Place}
use Rattle.quad_debug.specs.declared.command.Place.TheVariants.{Rom, Ram}
use Rattle.quad_debug.specs.declared.line.Line.{Line}
use Rattle.quad_debug.specs.declared.line.Line.TheVariants.{Blank, Says, Bad}

-- ---- one line

-- 1 to 9 digits
abbrev pub is_number : Bytes → Bool
is_number part = nat_le 1 (length part) && nat_le (length part) 9 && list_all is_ascii_digit part

-- the number that a part says
unfoldable pub number_of : Bytes → Option ℕ
number_of part = if is_number part then Some (value_from 0 part) else None

-- a command that has nothing behind it
unfoldable pub plain : Bytes → Option Command
plain word =
    if bytes_eq word (codes "queue") then Some Queue else
    if bytes_eq word (codes "sheet") then Some Sheet else None

-- as many entries as the debugger keeps may be told
abbrev pub back_by : ℕ → Option Command
back_by n = if nat_le 1 n && nat_le n 64 then Some (Back n) else None

-- a command with a number behind it
unfoldable pub counted : Bytes → ℕ → Option Command
counted word n =
    if bytes_eq word (codes "step") then Some (Step n) else
    if bytes_eq word (codes "event") then Some (Event n) else
    if bytes_eq word (codes "break") then Some (BreakAt n) else
    if bytes_eq word (codes "back") then back_by n else None

-- the place of a cell
unfoldable pub place_of : Bytes → ℕ → Option Place
place_of memory n =
    if bytes_eq memory (codes "rom") then Some (Rom n) else
    if bytes_eq memory (codes "ram") then Some (Ram n) else None

abbrev pub said_place : Option Place → Option Command
said_place None = None
said_place (Some place) = Some (Show place)

-- `show`, with a place behind it
unfoldable pub shown : Bytes → Bytes → ℕ → Option Command
shown word memory n = if bytes_eq word (codes "show") then said_place (place_of memory n) else None

-- what a number is read for, where it is one
abbrev pub with_number : Option ℕ → (ℕ → Option Command) → Option Command
with_number None command = None
with_number (Some n) command = command n

-- the command that parts are
unfoldable pub command_of : List Bytes → Option Command
command_of (word ∷ []) = plain word
command_of (word ∷ number ∷ []) = with_number (number_of number) (counted word)
command_of (word ∷ memory ∷ number ∷ []) = with_number (number_of number) (shown word memory)
command_of parts = None

abbrev pub said : Option Command → Line
said None = Bad
said (Some command) = Says command

-- what parts say
unfoldable pub line_in : List Bytes → Line
line_in [] = Blank
line_in (part ∷ parts) = said (command_of (part ∷ parts))

-- what a line says
unfoldable pub line_of : Bytes → Line
line_of line = line_in (parts_of line)

-- ---- all lines

abbrev pub commands_in : Line → List Command
commands_in Blank = []
commands_in (Says command) = command ∷ []
commands_in Bad = []

abbrev pub is_bad : Line → Bool
is_bad Blank = false
is_bad (Says command) = false
is_bad Bad = true

-- the commands of a script, in order
unfoldable pub commands_of : Bytes → List Command
commands_of text = flat_map commands_in (map line_of (lines_of text))

-- the number of the first line that is neither blank nor a command, counted from 1
unfoldable pub bad_line : Bytes → Option ℕ
bad_line text = position_from is_bad 1 (map line_of (lines_of text))
