-- What a call on sponsors leaves.
use Rattle.std.specs.Prelude.{◌≡◌, List}
use Rattle.cap_words.specs.Words.{W}
use Rattle.cap_words.specs.Seen.{seen}
use Rattle.cap_words.specs.Frame.{Framed}
use Rattle.quad_memory.specs.Memory.{Memory}
use Rattle.vm_sponsor.specs.Ledger.{Ledger, names}
use Rattle.vm_sponsor.specs.Sheets.{Belongs}

-- what every call on sponsors that are there keeps: the sheet belongs to the quads, with the same sponsors and the same room; what is
-- seen of the store is the same, and only those quads changed
pub record Keeps (before after : Memory) (old new : Ledger) (ws : List W) : Type 0 where
  pub belongs : Belongs after.store new
  pub same_names : names new.rows ≡ names old.rows
  pub same_rows_room : new.room ≡ old.room
  pub unseen : seen after.store ≡ seen before.store
  pub frame : Framed before.store after.store ws
  pub same_room : after.room ≡ before.room
