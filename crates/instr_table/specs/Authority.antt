-- What an event in flight can get at, and what one instruction may add to that.
use Rattle.std.specs.Prelude.{◌≡◌, ℕ, ◌+◌, ◌<◌, if◌then◌else◌, IsTrue, ◌⊎◌, List, [], ◌∷◌, ◌++◌, Option, Some, None, slice_get}
use Rattle.cap_words.specs.declared.word.Quad.{Quad}
use Rattle.cap_words.specs.Words.{W, Fix, Rom, Ram, Cap, same_word}
use Rattle.cap_words.specs.Seen.{Seen, Slot, OpenSlot, ActorSlot, UnbornSlot, EventSlot, SponsorSlot, SpentSlot}
use Rattle.instr_table.specs.Lists.{next_quad}
use Rattle.instr_table.specs.Event.{Made, Sent, Behaviour, Effects}
use Rattle.instr_table.specs.Sheet.{Account}
use Rattle.instr_table.specs.Outcome.{Going, Goes}
use Rattle.instr_table.specs.Lane.{Item, Lane, values, after_going, lane_row, gone}
use Rattle.instr_table.specs.Reach.{Every, words_of, Reach, is_made}

-- ---- the words of an event in flight

-- the words of created actors, their states and their codes
abbrev pub created_words : List Made → List W
created_words [] = []
created_words (m ∷ ms) = m.actor ∷ m.state ∷ m.code ∷ created_words ms

-- a message's sponsor counts only where it is not the one that pays for the event
abbrev pub sponsor_words : W → W → List W
sponsor_words payer w = if same_word w payer then [] else w ∷ []

-- the targets and contents of sent messages
abbrev pub sent_words : W → List Sent → List W
sent_words payer [] = []
sent_words payer (m ∷ ms) = m.target ∷ m.content ∷ sponsor_words payer m.sponsor ++ sent_words payer ms

-- the state and code of a gathered behaviour
abbrev pub behaviour_words : Option Behaviour → List W
behaviour_words None = []
behaviour_words (Some b) = b.state ∷ b.code ∷ []

-- the words of a record
abbrev pub effects_words : W → Effects → List W
effects_words payer e = created_words e.created ++ (sent_words payer e.sent ++ behaviour_words e.next)

-- the next code word, the actor with its code and state, the message, the stack, and the record
abbrev pub lane_words : Lane → List W
lane_words l = l.code ∷ l.own.actor ∷ l.own.code ∷ l.own.state ∷ l.own.message ∷ values l.stack ++ effects_words l.own.sponsor l.effects

-- ---- words that name quads which are taken

-- a RAM word, opaque or not, names one of the first n quads
abbrev pub IsTaken : ℕ → W → Type 0
IsTaken n (Fix z) = Unit {0}
IsTaken n (Rom k) = Unit {0}
IsTaken n (Ram k) = k < n
IsTaken n (Cap k) = k < n

-- each RAM word that a quad shows names one of the first n quads
abbrev pub SlotTaken : ℕ → Slot → Type 0
SlotTaken n (OpenSlot q) = Every (IsTaken n) (words_of q)
SlotTaken n (ActorSlot code state mark) = IsTaken n code × IsTaken n state
SlotTaken n UnbornSlot = Unit {0}
SlotTaken n (EventSlot sponsor target message) = IsTaken n sponsor × IsTaken n target × IsTaken n message
SlotTaken n SponsorSlot = Unit {0}
SlotTaken n SpentSlot = Unit {0}

-- no cell of the image names a RAM quad
abbrev pub ImageCell : Quad → Type 0
ImageCell q = Every (IsTaken 0) (words_of q)

-- so does an item, and the cell that it stands in
abbrev pub ItemTaken : ℕ → Item → Type 0
ItemTaken n i = IsTaken n i.value × IsTaken n i.at

-- each RAM word of a store, and of an event in flight, names a quad that is taken
pub record AllTaken (s : Seen) (l : Lane) : Type 0 where
  pub image : Every ImageCell s.rom
  pub cells : Every (SlotTaken (next_quad s)) s.slots
  pub stack : Every (ItemTaken (next_quad s)) l.stack
  pub words : Every (IsTaken (next_quad s)) (l.own.sponsor ∷ lane_words l)

-- ---- one instruction

-- an actor or a sponsor that an instruction made
abbrev pub IsMadeBy : Seen → Going → W → Type 0
IsMadeBy s g w = (i : ℕ) × (w ≡ Cap (next_quad s + i)) × IsTrue (is_made (slice_get g.made i))

-- after an instruction an event gets at no actor or sponsor but those that it got at before and those that the instruction made; and each
-- RAM word still names a quad that is taken
abbrev pub KeepsAuthority : Seen → List Account → Lane → Type 0
KeepsAuthority s sheet l = (g : Going) → (lane_row s sheet l).outcome ≡ Goes g → AllTaken s l → AllTaken (after_going s l.stack g).0 (gone s l g) × ((w : W) → Reach (after_going s l.stack g).0 (lane_words (gone s l g)) w → Reach s (lane_words l) w ⊎ IsMadeBy s g w)

-- for every store, sheet and event in flight
abbrev pub EachKeepsAuthority : Type 0
EachKeepsAuthority = (s : Seen) (sheet : List Account) (l : Lane) → KeepsAuthority s sheet l
