-- What is seen of a debugger, and the entries that it keeps.
use Rattle.std.specs.Prelude.{◌≡◌, ℕ, ◌≤◌, List, length, drop}
use Rattle.circular_buffer.specs.Buffer.{Buffer, keep_last}
use Rattle.vm_turn.specs.declared.journal.Entry.{Entry}
use Rattle.vm_machine.specs.Machine.{Machine}

-- its machine, and how many entries that had in its journal when the debugger was started
pub record Debugged : Type 0 where
  pub machine : Machine
  pub began : ℕ

-- so many entries are kept
abbrev pub most_kept : ℕ
most_kept = 64

-- the last entries since the start, in order
abbrev pub kept_since : ℕ → List Entry → List Entry
kept_since began journal = keep_last most_kept (drop began journal)

abbrev pub kept : Debugged → List Entry
kept d = kept_since d.began d.machine.state.journal

-- the buffer has these entries
pub record Keeps (m : Machine) (began : ℕ) (entries : Buffer Entry) : Type 0 where
  pub items : entries.items ≡ kept_since began m.state.journal
  pub capacity : entries.capacity ≡ most_kept
  pub earlier : began ≤ length m.state.journal
