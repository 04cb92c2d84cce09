-- What is so of every row of the table.
use Rattle.std.specs.Prelude.{◌≡◌, ℕ, ◌+◌, ◌≤◌, ◌⊎◌, true, List, [], ◌∷◌, length, IsTrue, Option, Some, IfSome, slice_get}
use Rattle.cap_words.specs.Words.{W, Cap}
use Rattle.cap_words.specs.Seen.{Seen, Slot, OpenSlot, ActorSlot, UnbornSlot, EventSlot, SponsorSlot, SpentSlot, open_in, altered}
use Rattle.instr_table.specs.declared.charge.Charge.{Charge}
use Rattle.instr_table.specs.declared.op.Op.{Op}
use Rattle.instr_table.specs.Types.{opaque_in, Grows}
use Rattle.instr_table.specs.Lists.{next_quad}
use Rattle.instr_table.specs.Spelling.{is_op, charge_of, spelling}
use Rattle.instr_table.specs.Event.{Own, Effects, Effect, Nothing, Sends, Creates, Assigns, Becomes, Sponsors, Grants, Reclaims, Starts, Stops, has_created}
use Rattle.instr_table.specs.Sheet.{Account}
use Rattle.instr_table.specs.Outcome.{Going, Outcome, Goes, Faults, Commits, Row, events_in}
use Rattle.instr_table.specs.Row.{row, row_at}
use Rattle.instr_table.specs.Lane.{Item, after_going}
use Rattle.instr_table.specs.Reach.{Every, words_of, Known}

-- the charge is the one of the table's column, where that has one
abbrev pub IsCharged : Op → Row → Type 0
IsCharged op r = IfSome (charge_of op) (λ c. r.charge ≡ c)

-- no more quads are taken than are charged, and no more events are used
abbrev pub Covers : Charge → Outcome → Type 0
Covers c (Goes g) = (length g.made + length g.pushed ≤ c.quads) × (events_in g.effect ≤ c.events)
Covers c (Faults w) = Unit {0}
Covers c Commits = Unit {0}

-- where an effect assigns, it is to an actor of this record
abbrev pub OwnIn : Effects → Effect → Type 0
OwnIn e Nothing = Unit {0}
OwnIn e (Sends m) = Unit {0}
OwnIn e (Creates m) = Unit {0}
OwnIn e (Assigns m) = has_created m.actor e.created ≡ true
OwnIn e (Becomes b) = Unit {0}
OwnIn e (Sponsors w) = Unit {0}
OwnIn e (Grants w kind n) = Unit {0}
OwnIn e (Reclaims w) = Unit {0}
OwnIn e (Starts w signal) = Unit {0}
OwnIn e (Stops w) = Unit {0}

-- only an actor that the event created is given another behaviour
abbrev pub AssignsOwn : Effects → Outcome → Type 0
AssignsOwn e (Goes g) = OwnIn e g.effect
AssignsOwn e (Faults w) = Unit {0}
AssignsOwn e Commits = Unit {0}

-- each row charges what the table says, takes no more, and assigns only to an actor that its event created
abbrev pub ChargesAsListed : Type 0
ChargesAsListed = (own : Own) (op : Op) (s : Seen) (sheet : List Account) (e : Effects) (vs : List W) (k : W) → IsTrue (is_op op) → IsCharged op (row own op s sheet e vs k)

-- for every row, that of a bad instruction included
abbrev pub TakesWhatItCharges : Type 0
TakesWhatItCharges = (own : Own) (o : Option (Op × W)) (s : Seen) (sheet : List Account) (e : Effects) (vs : List W) → Covers (row_at own o s sheet e vs).charge (row_at own o s sheet e vs).outcome

-- for every row
abbrev pub AssignsToOwn : Type 0
AssignsToOwn = (own : Own) (o : Option (Op × W)) (s : Seen) (sheet : List Account) (e : Effects) (vs : List W) → AssignsOwn e (row_at own o s sheet e vs).outcome

-- ---- what a store shows

-- what a word shows it shows after each instruction, and after a quad was changed whose words and kind are still shown
abbrev pub ShownStays : Type 0
ShownStays = (s : Seen) (is : List Item) (g : Going) → Grows s (after_going s is g).0

-- a quad's words, where it is readable, and else its kind are as before
abbrev pub ShowsTheSame : Slot → Slot → Type 0
ShowsTheSame a b = (open_in (Some b) ≡ open_in (Some a)) × (opaque_in (Some b) ≡ opaque_in (Some a))

abbrev pub ChangesKeepShown : Type 0
ChangesKeepShown = (s : Seen) (n : ℕ) (a b : Slot) → slice_get s.slots n ≡ Some a → ShowsTheSame a b → Grows s (altered s n b)

-- ---- which words an instruction hands on

-- the words that an event has at an instruction: its operand, the next code word, its actor with its code and state, its message, and
-- its stack
abbrev pub words_at : Own → Op → List W → W → List W
words_at own op vs k = (spelling op).1 ∷ k ∷ own.actor ∷ own.code ∷ own.state ∷ own.message ∷ vs

module _ (s : Seen) (made : List Slot) (ws : List W) (payer : W) where
  -- a message is under the payer, or under a sponsor that the event knew
  abbrev pub IsUnder : W → Type 0
  IsUnder w = (w ≡ payer) ⊎ Known s made ws w

  -- a new cell holds words that the event knew
  abbrev pub CellKnown : Slot → Type 0
  CellKnown (OpenSlot q) = Every (Known s made ws) (words_of q)
  CellKnown (ActorSlot code state mark) = ⊥
  CellKnown UnbornSlot = Unit {0}
  CellKnown (EventSlot sponsor target message) = IsUnder sponsor × Known s made ws target × Known s made ws message
  CellKnown SponsorSlot = Unit {0}
  CellKnown SpentSlot = Unit {0}

  -- an effect names words that the event knew, and the quad that was taken for its message
  abbrev pub EffectKnown : Effect → Type 0
  EffectKnown Nothing = Unit {0}
  EffectKnown (Sends m) = (m.event ≡ Cap (next_quad s)) × IsUnder m.sponsor × Known s made ws m.target × Known s made ws m.content
  EffectKnown (Creates m) = Known s made ws m.actor × Known s made ws m.state × Known s made ws m.code
  EffectKnown (Assigns m) = Known s made ws m.actor × Known s made ws m.state × Known s made ws m.code
  EffectKnown (Becomes b) = Known s made ws b.state × Known s made ws b.code
  EffectKnown (Sponsors w) = Known s made ws w
  EffectKnown (Grants w kind n) = Known s made ws w
  EffectKnown (Reclaims w) = Known s made ws w
  EffectKnown (Starts w signal) = Known s made ws w × (signal ≡ Cap (next_quad s))
  EffectKnown (Stops w) = Known s made ws w

-- all that an instruction hands on it knew before, or made itself
pub record KeepsTo (s : Seen) (ws : List W) (payer : W) (g : Going) : Type 0 where
  pub items : Every (Known s g.made ws) g.pushed
  pub next : Known s g.made ws g.goes_to
  pub cells : Every (CellKnown s g.made ws payer) g.made
  pub effect : EffectKnown s g.made ws payer g.effect

-- what a row hands on; a fault hands on its reason
abbrev pub HandsOn : Seen → List W → W → Outcome → Type 0
HandsOn s ws payer (Goes g) = KeepsTo s ws payer g
HandsOn s ws payer (Faults w) = Known s [] ws w
HandsOn s ws payer Commits = Unit {0}

-- each row hands on words that its event had at it, words of cells that these name, and those that it made
abbrev pub HandsOnWhatItHas : Type 0
HandsOnWhatItHas = (own : Own) (op : Op) (s : Seen) (sheet : List Account) (e : Effects) (vs : List W) (k : W) → HandsOn s (words_at own op vs k) own.sponsor (row own op s sheet e vs k).outcome
