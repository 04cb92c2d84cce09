-- The state that a machine begins in.
use Rattle.std.specs.Prelude.{ℕ, pos, List, [], ◌∷◌, None}
use Rattle.cap_words.specs.Words.{W, Fix, Ram, Cap, undef, nil}
use Rattle.cap_words.specs.Seen.{Slot, OpenSlot, ActorSlot, EventSlot, SponsorSlot, SpentSlot}
use Rattle.quad_memory.specs.Image.{RomImage}
use Rattle.instr_table.specs.Lists.{pair_quad}
use Rattle.vm_sponsor.specs.declared.amounts.Amounts.{Amounts}
use Rattle.vm_sponsor.specs.Sheets.{root_account}
use Rattle.vm_turn.specs.State.{State, root, println_device, say_device}

-- the first actor
abbrev pub first_actor : W
first_actor = Cap 6

-- what boot takes, over the first actor's code: the root sponsor's two quads, `println`, `say`, the list of both from its end, the first
-- actor with that list as its state, and message 0
abbrev pub boot_slots : W → List Slot
boot_slots code =
    SponsorSlot ∷
    SpentSlot ∷
    ActorSlot (Fix (pos 0)) undef undef ∷
    ActorSlot (Fix (pos 1)) undef undef ∷
    OpenSlot (pair_quad say_device nil) ∷
    OpenSlot (pair_quad println_device (Ram 4)) ∷
    ActorSlot code (Ram 5) undef ∷
    EventSlot root first_actor nil ∷ []

-- the state at boot: the root holds the grant and runs, and message 0 waits for the first actor
abbrev pub booted : RomImage → Amounts → ℕ → State
booted image grant lanes = record {
  store = record { rom = image.cells; slots = boot_slots image.boot };
  roll = first_actor ∷ println_device ∷ say_device ∷ [];
  messages = record { number = 0; event = Cap 7 } ∷ [];
  next_number = 1;
  flight = [];
  lanes = lanes;
  sheet = root_account root grant ∷ [];
  journal = [];
  output = [];
  out_of = None;
}
