-- What the code of an event comes to, whatever others do between its instructions.
use Rattle.std.specs.Prelude.{◌≡◌, ℕ, suc, ◌+◌, ◌≤◌, List, ◌++◌, drop, length, map, Some}
use Rattle.cap_words.specs.Words.{W}
use Rattle.cap_words.specs.Seen.{Seen, grown}
use Rattle.instr_table.specs.declared.op.Op.{Op}
use Rattle.instr_table.specs.Code.{fetched}
use Rattle.instr_table.specs.Types.{Grows}
use Rattle.instr_table.specs.Event.{Own, Effects, Effect, Sends, Starts, with_effect}
use Rattle.instr_table.specs.Sheet.{Account}
use Rattle.instr_table.specs.Outcome.{Going, Row, going}
use Rattle.instr_table.specs.Row.{row_at}
use Rattle.hum_code.specs.WordLists.{Distinct, pushed_on}

-- what an event starts from: a store that holds the image and the event's actor, what the event has of its own, and the words of all
-- actors that are numbered before those that the event makes
pub record Setting : Type 0 where
  pub base : Seen
  pub own : Own
  pub roll : List W

-- an event as its code sees it: the next code word, the values on the stack with the top first, and the record; and what it was charged
-- since its dispatch
pub record Point : Type 0 where
  pub code : W
  pub values : List W
  pub effects : Effects
  pub cycles : ℕ
  pub quads : ℕ
  pub events : ℕ

-- that many events and those that an effect costs
abbrev pub more_events : Effect → ℕ → ℕ
more_events (Sends m) n = suc n
more_events (Starts w signal) n = suc n
more_events _ n = n

-- the point after an instruction that goes on
abbrev pub moved : Point → Going → Point
moved l g = record {
  code = g.goes_to;
  values = pushed_on (drop g.pops l.values) g.pushed;
  effects = with_effect l.effects g.effect;
  cycles = suc l.cycles;
  quads = length g.made + length g.pushed + l.quads;
  events = more_events g.effect l.events;
}

-- a point that was charged an event for each message sent
abbrev pub point : W → List W → Effects → (cycles quads : ℕ) → Point
point code values e cycles quads = record { code = code; values = values; effects = e; cycles = cycles; quads = quads; events = length e.sent }

-- all actors that there are when the event commits
abbrev pub roll_with : List W → Effects → List W
roll_with roll e = roll ++ map (λ m. m.actor) e.created

module _ (m : Setting) where
  -- the row of the next instruction
  abbrev pub row_of : Seen → List Account → Point → Row
  row_of s sheet l = row_at m.own (fetched s l.code) s sheet l.effects l.values

  -- the roll with the event's actors names none twice, which the machine keeps
  abbrev pub NamesOnce : Effects → Type 0
  NamesOnce e = Distinct (roll_with m.roll e)

  -- The event comes to P, in all stores that show what was shown: it is there; or its next instruction goes on, to where it comes to P; or
  -- the machine is never at such a point, which yet is within the bound.
  pub data Comes (most : ℕ) (P : Seen → Point → Type 0) : Seen → Point → Type 0 where
    here : {s : Seen} {l : Point} → ((t : Seen) → Grows s t → Grows m.base t → P t l) → Comes most P s l
    onward : {s : Seen} {l : Point} (g : Seen → Going)
        → ((t : Seen) (sheet : List Account) → Grows s t → Grows m.base t → row_of t sheet l ≡ going (g t))
        → ((t : Seen) → Grows s t → Grows m.base t → Comes most P (grown t (g t).made) (moved l (g t)))
        → Comes most P s l
    never : {s : Seen} {l : Point} → (NamesOnce l.effects → ⊥) → l.cycles ≤ most → l.quads ≤ most → Comes most P s l

-- the operation stands at a, and k is the word of the next one
pub record At (m : Setting) (a : W) (op : Op) (k : W) : Type 0 where
  pub is : fetched m.base a ≡ Some (op, k)
