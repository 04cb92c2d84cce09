-- What boot begins with and every turn keeps.
use Rattle.std.specs.Prelude.{◌≡◌, ◌⊎◌, ℕ, suc, pos, ◌+◌, ◌<◌, ◌≤◌, List, [], ◌∷◌, length, map, slice_get, Option, Some, None}
use Rattle.std.specs.List.{sum_by, count_by}
use Rattle.cap_words.specs.Words.{W, Fix, Rom, Ram, Cap, same_word}
use Rattle.cap_words.specs.Seen.{Seen, ActorSlot, UnbornSlot, EventSlot, SponsorSlot, slot_seen}
use Rattle.cap_words.specs.Frame.{Among}
use Rattle.instr_table.specs.declared.charge.Quota.{Quota}
use Rattle.instr_table.specs.declared.charge.Quota.TheVariants.{Memory, Events}
use Rattle.instr_table.specs.Event.{Sent}
use Rattle.instr_table.specs.Sheet.{Account, amount, signal_in}
use Rattle.instr_table.specs.Lane.{Lane}
use Rattle.instr_table.specs.Reach.{Every}
use Rattle.vm_sponsor.specs.declared.amounts.Amounts.{Amounts}
use Rattle.vm_sponsor.specs.Ledger.{of_kind}
use Rattle.vm_sponsor.specs.Sheets.{Apart}
use Rattle.vm_sponsor.specs.Totals.{total, IsBalanced, Each, sponsors}
use Rattle.vm_effects.specs.Gathered.{sent_words, made_words}
use Rattle.vm_turn.specs.State.{Message, State}

-- ---- amounts

-- what a sponsor has spent of a kind, and what it holds
abbrev pub spent_of : Quota → Account → ℕ
spent_of kind a = (amount kind a).spent

abbrev pub held_of : Quota → Account → ℕ
held_of kind a = (amount kind a).held

-- what all of them have spent, and what they hold
abbrev pub spent_by_all : Quota → List Account → ℕ
spent_by_all kind sheet = sum_by (spent_of kind) sheet

abbrev pub held_by_all : Quota → List Account → ℕ
held_by_all kind sheet = sum_by (held_of kind) sheet

-- ---- numbers

-- the numbers of events in flight
abbrev pub numbers : List Lane → List ℕ
numbers ls = map (λ (l : Lane). l.number) ls

-- a number is none of these
abbrev pub Other : ℕ → List ℕ → Type 0
Other n [] = Unit {0}
Other n (k ∷ ks) = (k ≡ n → ⊥) × Other n ks

-- no two of these are the same
abbrev pub Distinct : List ℕ → Type 0
Distinct [] = Unit {0}
Distinct (k ∷ ks) = Other k ks × Distinct ks

-- some message has that number
abbrev pub Has : List Message → ℕ → Type 0
Has [] n = ⊥
Has (m ∷ ms) n = (m.number ≡ n) ⊎ Has ms n

-- each of these numbers is that of a message
abbrev pub HasAll : List Message → List ℕ → Type 0
HasAll ms [] = Unit {0}
HasAll ms (k ∷ ks) = Has ms k × HasAll ms ks

-- the numbers of messages rise, from the first number on, and stay below the last
abbrev pub Rising : ℕ → ℕ → List Message → Type 0
Rising first last [] = first ≤ last
Rising first last (m ∷ ms) = (first ≤ m.number) × Rising (suc m.number) last ms

-- ---- the words of events

-- those of messages
abbrev pub message_words : List Message → List W
message_words ms = map (λ (m : Message). m.event) ms

-- those that an event in flight has sent
abbrev pub sent_by : Lane → List W
sent_by l = sent_words l.effects.sent

-- that of the signal that a sponsor has prepared, if it has one
abbrev pub as_list : Option W → List W
as_list None = []
as_list (Some w) = w ∷ []

abbrev pub signals_of : Account → List W
signals_of a = as_list (signal_in a.standing)

-- how many messages events in flight have sent, and how many signals are prepared
abbrev pub sends : List Lane → ℕ
sends ls = sum_by (λ (l : Lane). length (sent_by l)) ls

abbrev pub signals : List Account → ℕ
signals sheet = sum_by (λ (a : Account). length (signals_of a)) sheet

-- how often a word stands in a list
abbrev pub times : W → List W → ℕ
times w ws = count_by (λ v. same_word v w) ws

-- in how many places the event of that word stands: as an unfinished message, sent by an event in flight, prepared as a signal
abbrev pub places : W → State → ℕ
places w s =
    times w (message_words s.messages)
    + sum_by (λ (l : Lane). times w (sent_by l)) s.flight
    + sum_by (λ (a : Account). times w (signals_of a)) s.sheet

-- the word names one of the first n quads, as an opaque one
abbrev pub NamesOne : ℕ → W → Type 0
NamesOne n (Fix z) = ⊥
NamesOne n (Rom k) = ⊥
NamesOne n (Ram k) = ⊥
NamesOne n (Cap k) = k < n

-- ---- what every turn keeps

-- `conserved`: of each kind as much is spent and held as was granted
-- `balanced`: in each account what was received is what was passed on, spent and is held
-- `quads`: no more quads are taken than boot took and were paid for
-- `ended`: no more messages ended and are unfinished than numbers were given
-- `paid_for`: each number but the first, each message that is sent and each signal that is prepared was paid for
-- `rising`: the unfinished messages stand in the order of their numbers, which were given
-- `apart`, `pending`: the events in flight are of unfinished messages, each of another one
-- `listed`: each sponsor in the store has an account
-- `sponsors_apart`, `sponsors_taken`: no two accounts are of one sponsor, and each is of a quad that is taken
-- `once`: each event stands in one place at most
-- `events_taken`: the word of each event that stands somewhere is that of a quad that is taken
pub record Sound (grant : Amounts) (s : State) : Type 0 where
  pub conserved : (kind : Quota) → total kind s.sheet ≡ of_kind kind grant
  pub balanced : Each IsBalanced s.sheet
  pub quads : length s.store.slots ≤ 8 + spent_by_all Memory s.sheet
  pub ended : length s.journal + length s.messages ≤ s.next_number
  pub paid_for : s.next_number + sends s.flight + signals s.sheet ≤ 1 + spent_by_all Events s.sheet
  pub rising : Rising 0 s.next_number s.messages
  pub apart : Distinct (numbers s.flight)
  pub pending : HasAll s.messages (numbers s.flight)
  pub listed : (n : ℕ) → slice_get s.store.slots n ≡ Some SponsorSlot → Among (Cap n) (sponsors s.sheet)
  pub sponsors_apart : Apart (sponsors s.sheet)
  pub sponsors_taken : (w : W) → Among w (sponsors s.sheet) → NamesOne (length s.store.slots) w
  pub once : (w : W) → places w s ≤ 1
  pub events_taken : (w : W) → 1 ≤ places w s → NamesOne (length s.store.slots) w

-- ---- the quads of events in flight, of which every turn keeps this too

-- the words of the actors that an event in flight has created
abbrev pub created_by : Lane → List W
created_by l = made_words l.effects.created

-- a message that was sent stands so in the store
abbrev pub IsSentIn : Seen → Sent → Type 0
IsSentIn s m = slot_seen s m.event ≡ Some (EventSlot m.sponsor m.target m.content)

-- `busy`: its actor is busy with its message, and has the code and state that it had at the dispatch
-- `unborn`: no actor that it created is committed
-- `sent`: each message that it sent stands in the store
pub record StandsIn (s : Seen) (l : Lane) : Type 0 where
  pub busy : slot_seen s l.own.actor ≡ Some (ActorSlot l.own.code l.own.state (Fix (pos l.number)))
  pub unborn : (w : W) → Among w (created_by l) → slot_seen s w ≡ Some UnbornSlot
  pub sent : Every (IsSentIn s) l.effects.sent

-- `stands`: so it is of each event in flight
-- `created_once`: no actor is created twice, by one of them or by two
-- `created_taken`: each that is created is of a quad that is taken
pub record FlightSound (s : State) : Type 0 where
  pub stands : Every (StandsIn s.store) s.flight
  pub created_once : (w : W) → sum_by (λ (l : Lane). times w (created_by l)) s.flight ≤ 1
  pub created_taken : (w : W) → 1 ≤ sum_by (λ (l : Lane). times w (created_by l)) s.flight → NamesOne (length s.store.slots) w
