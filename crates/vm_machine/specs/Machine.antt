-- What is seen of a machine.
use Rattle.std.specs.Prelude.{◌≡◌, ℕ, IsTrue, if◌then◌else◌, Option, Result, Ok, Err}
use Rattle.cap_words.specs.Words.{W}
use Rattle.quad_memory.specs.Image.{RomImage, is_image}
use Rattle.quad_memory.specs.Memory.{Memory}
use Rattle.vm_sponsor.specs.declared.amounts.Amounts.{Amounts}
use Rattle.vm_sponsor.specs.Ledger.{Ledger}
use Rattle.event_queue.specs.Pending.{Pending}
use Rattle.instr_table.specs.declared.charge.Quota.{Quota}
use Rattle.vm_devices.specs.declared.delivery.WriteFault.{WriteFault}
use Rattle.vm_turn.specs.declared.journal.Turn.{Turn as Answer}
use Rattle.vm_turn.specs.State.{State}
use Rattle.vm_turn.specs.Boot.{booted}
use Rattle.vm_turn.specs.Run.{not_rest, unless_out, run, picks, completed, drawn_after}
use Rattle.vm_machine.specs.declared.parts.Parts.{Parts}
use Rattle.vm_machine.specs.View.{state_of, unwritten}

-- its state, what it was booted from, how many turns it completed, and the parts that its state is read from
pub record Machine : Type 0 where
  pub state : State
  pub image : RomImage
  pub grant : Amounts
  pub seed : ℕ
  pub turns : ℕ
  pub quads : Memory
  pub sheet : Ledger
  pub queue : Pending

-- the state after n turns from boot on, over the picks of a seed
abbrev pub drawn_run : RomImage → Amounts → ℕ → ℕ → ℕ → State
drawn_run image grant lanes seed n = unwritten (run image grant lanes (picks seed n))

-- how many turns a call completed: none at rest, after the root ran out, or where a write failed
abbrev pub turns_by : Option Quota → Result Answer WriteFault → ℕ
turns_by out (Ok turn) = if unless_out out (not_rest turn) then 1 else 0
turns_by out (Err fault) = 0

-- the image that parts were booted from, where it boots with that word
abbrev pub image_of : Parts → W → RomImage
image_of p boot = record { boot = boot; cells = p.quads.store.rom }

-- the parts stand for the run of an image after n turns, each of them completed, and the generator's number is the one after n draws
pub record Follows (p : Parts) (boot : W) (seed drawn n : ℕ) : Type 0 where
  pub image_is : IsTrue (is_image boot p.quads.store.rom)
  pub run_is : state_of p ≡ drawn_run (image_of p boot) p.grant p.lanes seed n
  pub turns_are : completed (booted (image_of p boot) p.grant p.lanes) (picks seed n) ≡ n
  pub drawn_is : drawn ≡ drawn_after seed n
