-- When one language means what another one does, by what can be seen of deliveries: their ends, outputs, the numbers and targets of messages,
-- journals and bounds. Nothing is said of values, and steps may be saved.
use Rattle.std.specs.Prelude.{◌≡◌, ◌↔◌, ℕ, ◌≤◌, List, [], length, Some, slice_get}
use Rattle.hum_meaning.specs.Value.{Parts}
use Rattle.hum_meaning.specs.Language.{Language}
use Rattle.hum_meaning.specs.Deliver.{Message, Configuration, Delivery, Committed, Failed, deliver}
use Rattle.hum_meaning.specs.After.{Entry, message_of, Follows}
use Rattle.hum_meaning.specs.Laws.{IsClosed}
use Rattle.hum_core.specs.Alike.{Both, Each}
use Rattle.hum_core.specs.Bound.{Cost, Event, bound, HaveBounds}

-- which configurations of two languages are alike, and which messages
pub record Likeness (L K : Parts) : Type 1 where
  pub Configurations : Configuration L → Configuration K → Type 0
  pub Messages : Message L → Message K → Type 0

-- of the first and the third of three languages, by way of the second
abbrev pub through : {L K J : Parts} → Likeness L K → Likeness K J → Likeness L J
through {L} {K} {J} a b = record {
  Configurations = λ c e. (d : Configuration K) × a.Configurations c d × b.Configurations d e;
  Messages = λ m o. (n : Message K) × a.Messages m n × b.Messages n o;
}

-- ---- configurations

-- a message of that number is pending to that target
abbrev pub IsPending : {L : Parts} → Configuration L → (number target : ℕ) → Type 0
IsPending {L} c number target = (m : Message L) × (i : ℕ) × (slice_get c.pending i ≡ Some m) × (m.number ≡ number) × (m.target ≡ target)

-- the same output, next number, number of actors, and numbers and targets of the pending messages
pub record SeenAlike {L K : Parts} (c : Configuration L) (d : Configuration K) : Type 0 where
  pub output : c.output ≡ d.output
  pub next_number : c.next_number ≡ d.next_number
  pub actors : length c.behaviours ≡ length d.behaviours
  pub pending : (number target : ℕ) → IsPending c number target ↔ IsPending d number target
  pub at_rest : (c.pending ≡ []) ↔ (d.pending ≡ [])

-- ---- costs

-- no more of each kind
pub record IsAtMost (a b : Cost) : Type 0 where
  pub cycles : a.cycles ≤ b.cycles
  pub memory : a.memory ≤ b.memory
  pub events : a.events ≤ b.events

-- ---- deliveries, journals and bounds

module _ {L K : Parts} (a : Likeness L K) where
  abbrev pub EventsAs : Event L → Event K → Type 0
  EventsAs e d = a.Configurations e.0 d.0 × a.Messages e.1 d.1

  -- Both deliveries are decided, and end the same way: they commit, or they fail with the same code and as many messages gathered; and they
  -- leave configurations that are alike.
  abbrev pub EndsAs : Delivery L → Delivery K → Type 0
  EndsAs (Committed c) (Committed d) = a.Configurations c d
  EndsAs (Failed code sends c) (Failed code' sends' d) = (code ≡ code') × (sends ≡ sends') × a.Configurations c d
  EndsAs _ _ = ⊥

  module _ (l : Language L) (k : Language K) where
    -- What s steps decide in the first language, some t of at most s steps decide the same way in the second; and what any steps decide in the
    -- second, some steps decide the same way in the first. A device's deliveries are among them.
    pub record KeepsDeliveries : Type 0 where
      pub forth : (e : Event L) (d : Event K) (s : ℕ) → EventsAs e d → IsClosed (deliver l e.0 e.1 s)
          → (t : ℕ) × (t ≤ s) × EndsAs (deliver l e.0 e.1 s) (deliver k d.0 d.1 t)
      pub back : (e : Event L) (d : Event K) (t : ℕ) → EventsAs e d → IsClosed (deliver k d.0 d.1 t)
          → (s : ℕ) × EndsAs (deliver l e.0 e.1 s) (deliver k d.0 d.1 t)

    -- from configurations that are alike a journal leads to such in the one language where it does in the other
    pub record KeepsJournals : Type 0 where
      pub forth : (journal : List Entry) (c c' : Configuration L) (d : Configuration K) → a.Configurations c d → Follows l c journal c'
          → (d' : Configuration K) × Follows k d journal d' × a.Configurations c' d'
      pub back : (journal : List Entry) (c : Configuration L) (d d' : Configuration K) → a.Configurations c d → Follows k d journal d'
          → (c' : Configuration L) × Follows l c journal c' × a.Configurations c' d'

    -- where s steps bound a delivery in the first language, some t of at most s steps bound it in the second, by no more in each kind; and what
    -- has a bound in the second language has one in the first
    pub record KeepsBounds : Type 0 where
      pub forth : (e : Event L) (d : Event K) (s : ℕ) (cost : Cost) → EventsAs e d → bound l e s ≡ Some cost
          → (t : ℕ) × (less : Cost) × (t ≤ s) × IsAtMost less cost × (bound k d t ≡ Some less)
      pub back : (e : Event L) (d : Event K) (t : ℕ) (cost : Cost) → EventsAs e d → bound k d t ≡ Some cost
          → (s : ℕ) × (more : Cost) × (bound l e s ≡ Some more)
      -- so with several
      pub each_forth : (es : List (Event L)) (ds : List (Event K)) (costs : List Cost) → Each EventsAs es ds → HaveBounds l es costs
          → (less : List Cost) × HaveBounds k ds less × Each IsAtMost less costs
      pub each_back : (es : List (Event L)) (ds : List (Event K)) (costs : List Cost) → Each EventsAs es ds → HaveBounds k ds costs
          → (more : List Cost) × HaveBounds l es more

    -- what is alike is seen alike, has like messages of each number, and goes on so
    pub record MeansTheSame : Type 0 where
      pub seen : (c : Configuration L) (d : Configuration K) → a.Configurations c d → SeenAlike c d
      pub messages : (c : Configuration L) (d : Configuration K) (n : ℕ) → a.Configurations c d
          → Both a.Messages (message_of n c.pending) (message_of n d.pending)
      pub numbers : (m : Message L) (n : Message K) → a.Messages m n → m.number ≡ n.number
      pub targets : (m : Message L) (n : Message K) → a.Messages m n → m.target ≡ n.target
      pub deliveries : KeepsDeliveries
      pub journals : KeepsJournals
      pub bounds : KeepsBounds
