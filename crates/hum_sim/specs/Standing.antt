-- When a state of the machine stands for a configuration of a program.
use Rattle.std.specs.Prelude.{◌≡◌, ◌⊎◌, ℕ, ◌≤◌, nat_eq, if◌then◌else◌, pos, List, [], ◌∷◌, length, Option, Some, None, slice_get}
use Rattle.cap_words.specs.declared.word.Quad.{Quad}
use Rattle.cap_words.specs.Words.{W, Fix, undef}
use Rattle.cap_words.specs.Seen.{Seen, ActorSlot, EventSlot, slot_seen}
use Rattle.instr_table.specs.Types.{AnActor, look_up}
use Rattle.instr_table.specs.Making.{NoCodeInRam}
use Rattle.instr_table.specs.Lane.{Lane, begun}
use Rattle.instr_table.specs.Reach.{Every}
use Rattle.vm_turn.specs.State.{Message, State, root, println_device, say_device}
use Rattle.vm_turn.specs.Alone.{RootAlone}
use Rattle.vm_turn.specs.Boot.{first_actor}
use Rattle.vm_turn.specs.Roll.{NoEventOf}
use Rattle.vm_turn.specs.Turn.{device_of}
use Rattle.vm_turn.specs.Sound.{times, FlightSound}
use Rattle.hum_meaning.specs.Value.{Value, Function, Behaviour, Device, Answers}
use Rattle.hum_meaning.specs.Deliver as meaning
use Rattle.hum_meaning.specs.Deliver.{Configuration}
use Rattle.hum_meaning.specs.After.{message_of}
use Rattle.hum_core.specs.Alike.{Each}
use Rattle.hum_core.specs.Numbered.{Opening}
use Rattle.hum_core.specs.TestLists.{Tests}
use Rattle.hum_core.specs.Openings.{outermost}
use Rattle.hum_code.specs.Layout.{Layout}
use Rattle.hum_code.specs.Reaches.{Reaches}
use Rattle.hum_code.specs.Stands.{Stands}
use Rattle.hum_code.specs.Opening.{Devices}
use Rattle.vm_turn.specs.Spending.{Spending}

-- the first of the messages to that actor
abbrev pub first_to : ℕ → List (meaning.Message Tests) → Option (meaning.Message Tests)
first_to t [] = None
first_to t (m ∷ ms) = if nat_eq m.target t then Some m else first_to t ms

module _ (layout : Layout) where
  -- ---- actors

  -- An actor's code and state stand for a behaviour that is a value: it has the code that applies a behaviour, and
  -- its state stands for the value; or it is actor 0, whose code runs the file, with the devices in its state.
  abbrev pub AnswersStand : Seen → List W → (actor code state : W) → Value Tests → Type 0
  AnswersStand s roll actor code state v =
      ((code ≡ layout.apply) × Stands layout s roll state v)
      ⊎ ((slice_get roll 0 ≡ Some actor) × (code ≡ layout.boot) × Devices layout s roll state × (v ≡ Function Opening outermost))

  -- a device's code is its number; any other actor is no device
  abbrev pub BehaviourStands : Seen → List W → (actor code state : W) → Behaviour Tests → Type 0
  BehaviourStands s roll actor code state (Device n) = (device_of actor ≡ Some n) × (code ≡ Fix (pos n))
  BehaviourStands s roll actor code state (Answers v) = (device_of actor ≡ None) × AnswersStand s roll actor code state v

  -- An actor of the roll has this behaviour. It is idle where no event in flight is of it.
  pub record ActorStands (s : Seen) (roll : List W) (flight : List Lane) (actor : W) (b : Behaviour Tests) : Type 0 where
    pub code : W
    pub state : W
    pub mark : W
    pub there : slot_seen s actor ≡ Some (ActorSlot code state mark)
    pub idle : NoEventOf actor flight → mark ≡ undef
    pub behaves : BehaviourStands s roll actor code state b

  -- The roll is as long as the list of behaviours and names no actor twice; its actors have these behaviours. It
  -- begins with the first actor and the two devices.
  pub record BehavioursStand (s : State) (c : Configuration Tests) : Type 0 where
    pub actors : Each (ActorStands s.store s.roll s.flight) s.roll c.behaviours
    pub once : (w : W) → times w s.roll ≤ 1
    pub front : (more : List W) × (s.roll ≡ first_actor ∷ println_device ∷ say_device ∷ more)

  -- ---- messages

  -- A message that is not finished is this pending one: it has its number and target, and its content stands for the
  -- value. It is under the root.
  pub record MessageStands (s : Seen) (roll : List W) (m : Message) (p : meaning.Message Tests) : Type 0 where
    pub number : m.number ≡ p.number
    pub target : W
    pub content : W
    pub there : slot_seen s m.event ≡ Some (EventSlot root target content)
    pub target_is : slice_get roll p.target ≡ Some target
    pub value : Stands layout s roll content p.value

  -- ---- events in flight

  -- The store at an event's dispatch: the image's cells were there and the event's actor; the code and state that the
  -- actor has stood for its behaviour, and the message for its value.
  pub record DispatchStands (base : Seen) (rom : List Quad) (roll : List W) (l : Lane) (behaviour value : Value Tests) : Type 0 where
    pub rom_is : base.rom ≡ rom
    pub shown : look_up base l.own.actor ≡ Some AnActor
    pub answers : AnswersStand base roll l.own.actor l.own.code l.own.state behaviour
    pub message : Stands layout base roll l.own.message value

  -- An event in flight is of the first message to its actor that is pending, and its actor is no device. The
  -- machine's rows reach the event from its dispatch, at what it has spent, whatever others did between. It is under
  -- the root; and so is each message that it has sent, since its rows send under its own sponsor.
  pub record LaneStands (s : Seen) (roll : List W) (c : Configuration Tests) (spent : Spending) (l : Lane) : Type 0 where
    pub message : meaning.Message Tests
    pub pending : message_of l.number c.pending ≡ Some message
    pub first : first_to message.target c.pending ≡ Some message
    pub actor_is : slice_get roll message.target ≡ Some l.own.actor
    pub behaviour : Value Tests
    pub behaves : slice_get c.behaviours message.target ≡ Some (Answers behaviour)
    pub base : Seen
    pub begins : DispatchStands base s.rom roll l behaviour message.value
    pub reached : Reaches base (begun l.number l.own) s l (spent l.number)
    pub sponsor : l.own.sponsor ≡ root

  -- the event's message is the first of all that are pending
  abbrev pub IsFirst : Configuration Tests → Lane → Type 0
  IsFirst c l = (p : meaning.Message Tests) × (slice_get c.pending 0 ≡ Some p) × (p.number ≡ l.number)

  -- The events in flight stand for deliveries, no two are of one actor, and there are no more than there are lanes.
  -- Each one's actor is busy with it, with the code and state that it had at the dispatch; what an event created is
  -- not committed, and is created once (`sound`). With one lane, an event in flight is of the first message.
  pub record FlightStands (spent : Spending) (s : State) (c : Configuration Tests) : Type 0 where
    pub events : Every (LaneStands s.store s.roll c spent) s.flight
    pub targets : (i j : ℕ) (k l : Lane) → slice_get s.flight i ≡ Some k → slice_get s.flight j ≡ Some l → k.own.actor ≡ l.own.actor → i ≡ j
    pub sound : FlightSound s
    pub room : length s.flight ≤ s.lanes
    pub in_turn : s.lanes ≡ 1 → Every (IsFirst c) s.flight

  -- ---- the whole

  -- A state stands for a configuration: the image's cells are there, and code is in the image alone; the roll's
  -- actors have the behaviours; the messages that are not finished are the pending ones in order, and the next
  -- numbers agree; the outputs are equal; the events in flight stand; and the root is the only sponsor.
  pub record StateStands (rom : List Quad) (spent : Spending) (s : State) (c : Configuration Tests) : Type 0 where
    pub rom_is : s.store.rom ≡ rom
    pub code_out : NoCodeInRam s.store
    pub behaviours : BehavioursStand s c
    pub messages : Each (MessageStands s.store s.roll) s.messages c.pending
    pub next_number : s.next_number ≡ c.next_number
    pub output : s.output ≡ c.output
    pub flight : FlightStands spent s c
    pub root : RootAlone s.sheet s.out_of
