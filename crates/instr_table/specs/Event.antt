-- An event in flight: what it may read of itself, and the record of what it will have done when it commits.
use Rattle.std.specs.Prelude.{ℕ, if◌then◌else◌, Bool, true, false, List, [], ◌∷◌, ◌++◌, Option, Some, None}
use Rattle.cap_words.specs.Words.{W, same_word}
use Rattle.instr_table.specs.declared.charge.Quota.{Quota}

-- what stays as it is from an event's dispatch to its end: who pays, its actor with its code and state, and its message
pub record Own : Type 0 where
  pub sponsor : W
  pub actor : W
  pub code : W
  pub state : W
  pub message : W

-- a message that the event sent: the word of its event, the sponsor that it is under, its target and its content
pub record Sent : Type 0 where
  pub event : W
  pub sponsor : W
  pub target : W
  pub content : W

-- an actor that the event created, with the state and code that it is to have
pub record Made : Type 0 where
  pub actor : W
  pub state : W
  pub code : W

-- what an actor is to do with its next message
pub record Behaviour : Type 0 where
  pub state : W
  pub code : W

-- the actors created and the messages sent, in order, and the next behaviour of the event's actor, if one was gathered
pub record Effects : Type 0 where
  pub created : List Made
  pub sent : List Sent
  pub next : Option Behaviour

-- the record of an event at its dispatch
abbrev pub no_effects : Effects
no_effects = record { created = []; sent = []; next = None }

-- what one instruction does beside the stack and the new cells: to the event's record, or at once to the sheet
pub data Effect : Type 0 where
  Nothing : Effect
  Sends : Sent → Effect
  Creates : Made → Effect
  Assigns : Made → Effect
  Becomes : Behaviour → Effect
  Sponsors : (sponsor : W) → Effect
  Grants : (sponsor : W) → Quota → ℕ → Effect
  Reclaims : (sponsor : W) → Effect
  Starts : (sponsor : W) → (signal : W) → Effect
  Stops : (sponsor : W) → Effect

-- whether the event created an actor
abbrev pub has_created : W → List Made → Bool
has_created w [] = false
has_created w (m ∷ ms) = if same_word m.actor w then true else has_created w ms

-- the created actors, one of them with another state and code
abbrev pub reassigned : Made → List Made → List Made
reassigned new [] = []
reassigned new (m ∷ ms) = if same_word m.actor new.actor then new ∷ ms else m ∷ reassigned new ms

-- the record after one more effect
abbrev pub with_effect : Effects → Effect → Effects
with_effect e Nothing = e
with_effect e (Sends m) = record e { sent = e.sent ++ m ∷ [] }
with_effect e (Creates m) = record e { created = e.created ++ m ∷ [] }
with_effect e (Assigns m) = record e { created = reassigned m e.created }
with_effect e (Becomes b) = record e { next = Some b }
with_effect e (Sponsors w) = e
with_effect e (Grants w kind n) = e
with_effect e (Reclaims w) = e
with_effect e (Starts w signal) = e
with_effect e (Stops w) = e
