-- What a call takes of a memory.
use Rattle.std.specs.Prelude.{◌≡◌, ◌+◌, ◌≤◌, List, [], ◌∷◌, length}
use Rattle.cap_words.specs.declared.word.Tag.TheVariants.{Ordinary}
use Rattle.cap_words.specs.Store.{Cell, cell_as, used, taken}
use Rattle.cap_words.specs.Seen.{Slot, OpenSlot, ActorSlot, UnbornSlot, EventSlot, SponsorSlot, SpentSlot, seen, grown}
use Rattle.quad_memory.specs.Memory.{Memory, with_store}

-- the ordinary cells that are seen so
abbrev pub opened : List Slot → List Cell
opened [] = []
opened (OpenSlot q ∷ slots) = cell_as Ordinary q ∷ opened slots
opened (ActorSlot code state mark ∷ slots) = opened slots
opened (UnbornSlot ∷ slots) = opened slots
opened (EventSlot sponsor target message ∷ slots) = opened slots
opened (SponsorSlot ∷ slots) = opened slots
opened (SpentSlot ∷ slots) = opened slots

-- exactly these cells are taken, in their order, as ordinary ones
pub record Takes (old new : Memory) (cells : List Slot) : Type 0 where
  pub memory_is : new ≡ with_store old (taken old.store (opened cells))
  pub seen_is : seen new.store ≡ grown (seen old.store) cells

-- these cells fit into the room that is left
abbrev pub HasRoom : Memory → List Slot → Type 0
HasRoom m cells = used m.store + length cells ≤ m.room
