-- What an instruction makes, by what it does beside: a new actor, sponsor, message or signal is the quad that is taken next.
use Rattle.std.specs.Prelude.{◌≡◌, ℕ, Bool, ◌||◌, IsTrue, List, [], ◌∷◌, Option, None}
use Rattle.cap_words.specs.Words.{W, Ram, Cap, same_word, undef, pair_t, dict_t, deque_t}
use Rattle.cap_words.specs.Seen.{Seen, Slot, OpenSlot, ActorSlot, UnbornSlot, EventSlot, SponsorSlot, SpentSlot}
use Rattle.instr_table.specs.declared.op.Op.{Op}
use Rattle.instr_table.specs.Code.{fetched}
use Rattle.instr_table.specs.Types.{is_makeable}
use Rattle.instr_table.specs.Lists.{next_quad, item}
use Rattle.instr_table.specs.Event.{Own, Effects, Effect, Nothing, Sends, Creates, Assigns, Becomes, Sponsors, Grants, Reclaims, Starts, Stops}
use Rattle.instr_table.specs.Sheet.{Account}
use Rattle.instr_table.specs.Outcome.{Going, Outcome, Goes, Faults, Commits}
use Rattle.instr_table.specs.Row.{row_at}
use Rattle.instr_table.specs.Lane.{Lane, after_going, lane_row}
use Rattle.instr_table.specs.Reach.{Every}

-- the types of the cells that a program makes: pairs, entries, deques, and what `quad` makes
abbrev pub is_ordinary : Seen → W → Bool
is_ordinary s t = same_word t pair_t || same_word t dict_t || same_word t deque_t || is_makeable s t

-- a readable cell of such a type
abbrev pub IsOrdinaryCell : Seen → Slot → Type 0
IsOrdinaryCell s (OpenSlot q) = IsTrue (is_ordinary s q.t)
IsOrdinaryCell s (ActorSlot code state mark) = ⊥
IsOrdinaryCell s UnbornSlot = ⊥
IsOrdinaryCell s (EventSlot sponsor target message) = ⊥
IsOrdinaryCell s SponsorSlot = ⊥
IsOrdinaryCell s SpentSlot = ⊥

-- what is made beside an effect: the quads of what the effect names as new, the first of them under its word, and else readable cells; a
-- signal is under the payer, goes to the controller, and has no message yet
abbrev pub MadeWith : W → W → Seen → List Slot → Effect → Type 0
MadeWith payer controller s made Nothing = Every (IsOrdinaryCell s) made
MadeWith payer controller s made (Sends m) = (m.event ≡ Cap (next_quad s)) × (made ≡ EventSlot m.sponsor m.target m.content ∷ [])
MadeWith payer controller s made (Creates m) = (m.actor ≡ Cap (next_quad s)) × (made ≡ UnbornSlot ∷ [])
MadeWith payer controller s made (Assigns m) = Every (IsOrdinaryCell s) made
MadeWith payer controller s made (Becomes b) = Every (IsOrdinaryCell s) made
MadeWith payer controller s made (Sponsors w) = (w ≡ Cap (next_quad s)) × (made ≡ SponsorSlot ∷ SpentSlot ∷ [])
MadeWith payer controller s made (Grants w kind n) = Every (IsOrdinaryCell s) made
MadeWith payer controller s made (Reclaims w) = Every (IsOrdinaryCell s) made
MadeWith payer controller s made (Starts w signal) = (signal ≡ Cap (next_quad s)) × (made ≡ EventSlot payer controller undef ∷ [])
MadeWith payer controller s made (Stops w) = Every (IsOrdinaryCell s) made

-- so it is where the event goes on
abbrev pub MakesNamed : W → W → Seen → Outcome → Type 0
MakesNamed payer controller s (Goes g) = MadeWith payer controller s g.made g.effect
MakesNamed payer controller s (Faults w) = Unit {0}
MakesNamed payer controller s Commits = Unit {0}

-- for every row, that of a bad instruction included; a controller is the item on top
abbrev pub MakesWhatItNames : Type 0
MakesWhatItNames = (own : Own) (o : Option (Op × W)) (s : Seen) (sheet : List Account) (e : Effects) (vs : List W) → MakesNamed own.sponsor (item vs 1) s (row_at own o s sheet e vs).outcome

-- ---- code stands in the image alone

-- no RAM cell spells an operation
abbrev pub NoCodeInRam : Seen → Type 0
NoCodeInRam s = (n : ℕ) → fetched s (Ram n) ≡ None

-- so it stays after each instruction
abbrev pub KeepsCodeOut : Type 0
KeepsCodeOut = (s : Seen) (sheet : List Account) (l : Lane) (g : Going) → (lane_row s sheet l).outcome ≡ Goes g → NoCodeInRam s → NoCodeInRam (after_going s l.stack g).0
