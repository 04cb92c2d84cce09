-- The root as the only sponsor.
use Rattle.std.specs.Prelude.{◌≡◌, ℕ, true, List, [], ◌∷◌, Option, Some, None}
use Rattle.cap_words.specs.Words.{W}
use Rattle.cap_words.specs.Seen.{Seen, EventSlot, slot_seen}
use Rattle.quad_memory.specs.Image.{RomImage}
use Rattle.instr_table.specs.declared.charge.Quota.{Quota}
use Rattle.instr_table.specs.Event.{Sent}
use Rattle.instr_table.specs.Sheet.{Account, runs_in, signal_in}
use Rattle.instr_table.specs.Lane.{Lane}
use Rattle.instr_table.specs.Reach.{Every}
use Rattle.instr_table.specs.Plain.{PlainCells}
use Rattle.vm_sponsor.specs.declared.amounts.Amounts.{Amounts}
use Rattle.vm_turn.specs.State.{Message, State, root}
use Rattle.vm_turn.specs.Run.{run}

-- no other sponsor has an account; the root has prepared no signal, and runs unless it ran out
pub record RootAlone (sheet : List Account) (out_of : Option Quota) : Type 0 where
  pub account : Account
  pub only : sheet ≡ account ∷ []
  pub is_root : account.sponsor ≡ root
  pub no_signal : signal_in account.standing ≡ None
  pub runs : out_of ≡ None → runs_in account.standing ≡ true

-- the event of a word is under the root
abbrev pub IsUnderRoot : Seen → W → Type 0
IsUnderRoot s w = (target : W) × (content : W) × (slot_seen s w ≡ Some (EventSlot root target content))

-- `alone`: the root is the only sponsor of the sheet
-- `messages`: each message that is not finished is under it
-- `flight`, `sent`: it pays for each event in flight, and what these have sent is under it
pub record UnderRoot (s : State) : Type 0 where
  pub alone : RootAlone s.sheet s.out_of
  pub messages : Every (λ (m : Message). IsUnderRoot s.store m.event) s.messages
  pub flight : Every (λ (l : Lane). l.own.sponsor ≡ root) s.flight
  pub sent : Every (λ (l : Lane). Every (λ (m : Sent). m.sponsor ≡ root) l.effects.sent) s.flight

-- so it is after every run of an image of which no cell spells an operation on sponsors
abbrev pub RootStaysAlone : Type 0
RootStaysAlone = (image : RomImage) (grant : Amounts) (lanes : ℕ) (picks : List ℕ) → PlainCells image.cells → UnderRoot (run image grant lanes picks)
