-- What an event may have: what it had at its dispatch, and what it made since.
use Rattle.std.specs.Prelude.{◌≡◌, ◌⊎◌, ℕ, suc, ◌%◌, nat_eq, if◌then◌else◌, Bool, true, false, IsTrue, List, [], ◌∷◌, ◌++◌, length, Option, Some, None, slice_get}
use Rattle.cap_words.specs.Words.{W, Cap}
use Rattle.cap_words.specs.Seen.{Seen, Slot}
use Rattle.cap_words.specs.Frame.{Among}
use Rattle.quad_memory.specs.Image.{RomImage, is_image}
use Rattle.instr_table.specs.declared.op.Op.{Op}
use Rattle.instr_table.specs.declared.op.Op.TheVariants.{ActorPost}
use Rattle.instr_table.specs.Code.{fetched}
use Rattle.instr_table.specs.Lists.{next_quad, item}
use Rattle.instr_table.specs.Event.{Own}
use Rattle.instr_table.specs.Outcome.{Outcome, Goes, Faults, Commits}
use Rattle.instr_table.specs.Lane.{Lane, values, lane_row}
use Rattle.instr_table.specs.Reach.{Every, Reach, is_made}
use Rattle.instr_table.specs.Authority.{lane_words, effects_words, IsTaken, SlotTaken, ImageCell, ItemTaken}
use Rattle.vm_sponsor.specs.declared.amounts.Amounts.{Amounts}
use Rattle.vm_turn.specs.declared.journal.Outcome.TheVariants.{Committed}
use Rattle.vm_turn.specs.declared.journal.Turn.{Turn as Answer}
use Rattle.vm_turn.specs.declared.journal.Turn.TheVariants.{Dispatched, Stepped, Finished, Rest, Spent}
use Rattle.vm_turn.specs.State.{Message, State}
use Rattle.vm_turn.specs.Actors.{sent_at, behaviour_at}
use Rattle.vm_turn.specs.Turn.{dispatchable, entry, own_of, turn}
use Rattle.vm_turn.specs.Run.{after, run}

-- ---- each word names a quad that is taken

-- each RAM word of an event in flight names one of the first n quads
pub record LaneTaken (n : ℕ) (l : Lane) : Type 0 where
  pub stack : Every (ItemTaken n) l.stack
  pub words : Every (IsTaken n) (l.own.sponsor ∷ lane_words l)

-- each RAM word of the store and of the events in flight names a quad that is taken
pub record WordsTaken (s : State) : Type 0 where
  pub image : Every ImageCell s.store.rom
  pub cells : Every (SlotTaken (next_quad s.store)) s.store.slots
  pub flight : Every (LaneTaken (next_quad s.store)) s.flight

-- ---- what an event makes

-- the words of the actors and sponsors among these quads, which are taken from number n on
abbrev pub new_words : ℕ → List Slot → List W
new_words n [] = []
new_words n (x ∷ xs) = if is_made (Some x) then Cap n ∷ new_words (suc n) xs else new_words (suc n) xs

-- those that an instruction makes
abbrev pub made_by : Seen → Outcome → List W
made_by s (Goes g) = new_words (next_quad s) g.made
made_by s (Faults w) = []
made_by s Commits = []

-- ---- which sponsor an event names

-- whether the operation is `actor post`
abbrev pub is_post : Op → Bool
is_post ActorPost = true
is_post op = false

-- the sponsor that an instruction names in `actor post`
abbrev pub posted_by : Option (Op × W) → List W → List W
posted_by None vs = []
posted_by (Some o) vs = if is_post o.0 then item vs 1 ∷ [] else []

-- ---- what is noted of an event, turn by turn

module _ (note : State → Lane → List W) (number : ℕ) where
  -- what is noted of an event's next instruction, where it is the event of that number
  abbrev pub noted_in : State → Option Lane → List W
  noted_in s None = []
  noted_in s (Some l) = if nat_eq l.number number then note s l else []

  -- what is noted in a turn with that answer: an instruction after which the event goes on
  abbrev pub noted_at : State → ℕ → Answer → List W
  noted_at s pick Dispatched = []
  noted_at s pick Stepped = noted_in s (slice_get s.flight (pick % length s.flight))
  noted_at s pick (Finished e) = []
  noted_at s pick Rest = []
  noted_at s pick (Spent sponsor kind) = []

  -- what is noted in turns with these picks
  abbrev pub noted_since : State → List ℕ → List W
  noted_since s [] = []
  noted_since s (p ∷ ps) = noted_at s p (turn s p).1 ++ noted_since (turn s p).0 ps

-- the actors and sponsors that the next instruction of an event makes
abbrev pub made_next : State → Lane → List W
made_next s l = made_by s.store (lane_row s.store s.sheet l).outcome

-- the sponsor that it names, where it is `actor post`: the item on top
abbrev pub posted_next : State → Lane → List W
posted_next s l = posted_by (fetched s.store l.code) (values l.stack)

-- the actors and sponsors that the event of that number made in turns with these picks
abbrev pub made_since : State → ℕ → List ℕ → List W
made_since s number ps = noted_since made_next number s ps

-- the sponsors that it named in `actor post`
abbrev pub posted_since : State → ℕ → List ℕ → List W
posted_since s number ps = noted_since posted_next number s ps

-- ---- what an event may have

-- what an event has at its dispatch: its actor, with its code and state, and its message
abbrev pub had : Own → List W
had own = own.actor ∷ own.code ∷ own.state ∷ own.message ∷ []

-- what the event of a message has that is dispatched in that state
abbrev pub had_at : State → Message → List W
had_at s m = had (own_of s.store (sent_at s.store m.event))

-- an event in a run: the turns before its dispatch, its message, the turn that dispatches it, the turns since then, and what it is now
pub record EventOf (image : RomImage) (grant : Amounts) (lanes : ℕ) : Type 0 where
  pub before : List ℕ
  pub message : Message
  pub chosen : dispatchable (run image grant lanes before) ≡ Some message
  pub pick : ℕ
  pub begins : (turn (run image grant lanes before) pick).1 ≡ Dispatched
  pub since : List ℕ
  pub place : ℕ
  pub lane : Lane
  pub flies : slice_get (after (turn (run image grant lanes before) pick).0 since).flight place ≡ Some lane
  pub number_is : lane.number ≡ message.number

module _ {image : RomImage} {grant : Amounts} {lanes : ℕ} (e : EventOf image grant lanes) where
  -- the state in which it was dispatched, the one after that turn, and the present one
  abbrev pub origin : State
  origin = run image grant lanes e.before

  abbrev pub begun_in : State
  begun_in = (turn origin e.pick).0

  abbrev pub present : State
  present = after begun_in e.since

  -- a word that it may have: one that was reached from what it had at its dispatch, or one of an actor or a sponsor that it made since
  abbrev pub MayHave : W → Type 0
  MayHave w = Reach origin.store (had_at origin e.message) w ⊎ Among w (made_since begun_in e.message.number e.since)

-- each event that is in flight in a run is one that was dispatched in it
abbrev pub EventsHaveBegun : Type 0
EventsHaveBegun =
    (image : RomImage) (grant : Amounts) (lanes : ℕ) (picks : List ℕ) (place : ℕ) (lane : Lane)
    → slice_get (run image grant lanes picks).flight place ≡ Some lane
    → (e : EventOf image grant lanes) × (e.lane ≡ lane) × (e.place ≡ place) × (e.before ++ e.pick ∷ e.since ≡ picks)

-- at any moment of its flight an event gets at those actors and sponsors alone that it may have: from its stack, its next code word, its
-- actor with its code and state, its message, and its record
abbrev pub EventsKeepAuthority : Type 0
EventsKeepAuthority =
    (image : RomImage) (grant : Amounts) (lanes : ℕ) → IsTrue (is_image image.boot image.cells)
    → (e : EventOf image grant lanes) (w : W)
    → Reach (present e).store (lane_words e.lane) w → MayHave e w

-- and those sponsors alone it names in `actor post`, also where it names the one that pays for it
abbrev pub PostsKeepAuthority : Type 0
PostsKeepAuthority =
    (image : RomImage) (grant : Amounts) (lanes : ℕ) → IsTrue (is_image image.boot image.cells)
    → (e : EventOf image grant lanes) (w : W)
    → Among w (posted_since (begun_in e) e.message.number e.since) → MayHave e w

-- what an event has handed on, in the store after its commit: its actor's state and code, the actors that it created with theirs, and the
-- targets and contents of the messages that it sent, with the sponsors that they are under where these are not its own
abbrev pub handed_on : Seen → Lane → List W
handed_on s l = (behaviour_at s l.own.actor).state ∷ (behaviour_at s l.own.actor).code ∷ effects_words l.own.sponsor l.effects

-- and after the turn that commits it those alone are got at from what it handed on
abbrev pub CommitsKeepAuthority : Type 0
CommitsKeepAuthority =
    (image : RomImage) (grant : Amounts) (lanes : ℕ) → IsTrue (is_image image.boot image.cells)
    → (e : EventOf image grant lanes) (last : ℕ) → (turn (present e) last).1 ≡ Finished (entry e.message.number Committed)
    → (w : W) → Reach (turn (present e) last).0.store (handed_on (turn (present e) last).0.store e.lane) w → MayHave e w
