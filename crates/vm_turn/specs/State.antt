-- The machine's state.
use Rattle.std.specs.Prelude.{ℕ, List, Option}
use Rattle.cap_words.specs.Words.{W, Cap}
use Rattle.cap_words.specs.Seen.{Seen}
use Rattle.instr_table.specs.declared.charge.Quota.{Quota}
use Rattle.instr_table.specs.Sheet.{Account}
use Rattle.instr_table.specs.Lane.{Lane}
use Rattle.vm_turn.specs.declared.journal.Entry.{Entry}

-- a message that is not finished: its number, and the word of its event, where its sponsor, target and content stand
pub record Message : Type 0 where
  pub number : ℕ
  pub event : W

-- the store; the committed actors in order; the messages that are not finished, in the order of their numbers; the number of the next
-- message; the events in flight in order of dispatch, and how many there may be at once; the sheet; the journal; what was written; and
-- what the root sponsor ran out of, if it did
pub record State : Type 0 where
  pub store : Seen
  pub roll : List W
  pub messages : List Message
  pub next_number : ℕ
  pub flight : List Lane
  pub lanes : ℕ
  pub sheet : List Account
  pub journal : List Entry
  pub output : List ℕ
  pub out_of : Option Quota

-- the root sponsor
abbrev pub root : W
root = Cap 0

-- the devices
abbrev pub println_device : W
println_device = Cap 2

abbrev pub say_device : W
say_device = Cap 3
