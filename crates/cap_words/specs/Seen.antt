-- A store without its links: what the table, the laws and the programs may speak of.
--
-- The links of an event's effects stand in cells that no program reads: an event's `next`, and the mark of an actor whose creation is
-- not committed. Amounts stand in the sheet. What is left is a function of each quad alone, so a store that grows, or a link that
-- changes, is seen to do just that.
use Rattle.std.specs.Prelude.{ℕ, nat_eq, if◌then◌else◌, List, ◌++◌, Option, Some, None, map, slice_get, slice_set}
use Rattle.cap_words.specs.declared.word.Quad.{Quad}
use Rattle.cap_words.specs.declared.word.Tag.{Tag}
use Rattle.cap_words.specs.declared.word.Tag.TheVariants.{Ordinary, Actor, Event, SponsorHeld, SponsorSpent}
use Rattle.cap_words.specs.Words.{W, Fix, Rom, Ram, Cap, undef}
use Rattle.cap_words.specs.Store.{Store, Cell, rom_cell}

-- what is seen of a RAM quad: the words of an ordinary cell; an actor's code, state and mark; an actor that is not committed; an event's
-- sponsor, target and message; a sponsor's first and second quad
pub data Slot : Type 0 where
  OpenSlot : Quad → Slot
  ActorSlot : W → W → W → Slot
  UnbornSlot : Slot
  EventSlot : W → W → W → Slot
  SponsorSlot : Slot
  SpentSlot : Slot

-- an actor is idle where its mark is `#?`, busy where it is a fixnum, and else not committed
abbrev pub erase_actor : W → W → W → Slot
erase_actor code state (Fix n) = ActorSlot code state (Fix n)
erase_actor code state (Rom n) = if nat_eq n 0 then ActorSlot code state undef else UnbornSlot
erase_actor code state (Ram n) = UnbornSlot
erase_actor code state (Cap n) = UnbornSlot

abbrev pub erase_as : Tag → Quad → Slot
erase_as Ordinary q = OpenSlot q
erase_as Actor q = erase_actor q.x q.y q.z
erase_as Event q = EventSlot q.t q.x q.y
erase_as SponsorHeld q = SponsorSlot
erase_as SponsorSpent q = SpentSlot

-- what is seen of a quad
abbrev pub erase : Cell → Slot
erase c = erase_as c.tag c.words

pub record Seen : Type 0 where
  pub rom : List Quad
  pub slots : List Slot

-- what is seen of a store
abbrev pub seen : Store → Seen
seen s = record { rom = s.rom; slots = map erase s.ram }

-- what is seen after more quads were taken
abbrev pub grown : Seen → List Slot → Seen
grown s slots = record s { slots = s.slots ++ slots }

-- what is seen after the quad of that number was changed
abbrev pub altered : Seen → ℕ → Slot → Seen
altered s n slot = record s { slots = slice_set s.slots n slot }

-- the words of an ordinary cell
abbrev pub open_in : Option Slot → Option Quad
open_in None = None
open_in (Some (OpenSlot q)) = Some q
open_in (Some (ActorSlot code state mark)) = None
open_in (Some UnbornSlot) = None
open_in (Some (EventSlot sponsor target message)) = None
open_in (Some SponsorSlot) = None
open_in (Some SpentSlot) = None

-- the quad that a program reads under a word, or none
abbrev pub cell_seen : Seen → W → Option Quad
cell_seen s (Fix n) = None
cell_seen s (Rom n) = rom_cell s.rom n
cell_seen s (Ram n) = open_in (slice_get s.slots n)
cell_seen s (Cap n) = None

-- what is seen under an opaque word, or none
abbrev pub slot_seen : Seen → W → Option Slot
slot_seen s (Fix n) = None
slot_seen s (Rom n) = None
slot_seen s (Ram n) = None
slot_seen s (Cap n) = slice_get s.slots n
