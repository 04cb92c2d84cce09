-- An event in flight: where it is in its code, its stack with the cells that it stands in, and its record.
use Rattle.std.specs.Prelude.{ℕ, List, [], ◌∷◌, map, drop}
use Rattle.cap_words.specs.Words.{W, Ram, nil}
use Rattle.cap_words.specs.Seen.{Seen, OpenSlot, grown}
use Rattle.instr_table.specs.Code.{fetched}
use Rattle.instr_table.specs.Lists.{next_quad, pair_quad}
use Rattle.instr_table.specs.Event.{Own, Effects, with_effect, no_effects}
use Rattle.instr_table.specs.Sheet.{Account}
use Rattle.instr_table.specs.Outcome.{Going, Row}
use Rattle.instr_table.specs.Row.{row_at}

-- an item of a stack, and the word of the cell that holds it
pub record Item : Type 0 where
  pub value : W
  pub at : W

-- the number of its message, what it has of its own, the next code word, the stack with the top first, and its record
pub record Lane : Type 0 where
  pub number : ℕ
  pub own : Own
  pub code : W
  pub stack : List Item
  pub effects : Effects

-- an event at its dispatch
abbrev pub begun : ℕ → Own → Lane
begun number own = record { number = number; own = own; code = own.code; stack = []; effects = no_effects }

-- the plain stack
abbrev pub values : List Item → List W
values is = map (λ (i : Item). i.value) is

-- the word of the top cell, `#nil` where there is none
abbrev pub top_at : List Item → W
top_at [] = nil
top_at (i ∷ is) = i.at

-- a value is pushed: its cell names the one below
abbrev pub push_one : Seen × List Item → W → Seen × List Item
push_one p v = (grown p.0 (OpenSlot (pair_quad v (top_at p.1)) ∷ []), record { value = v; at = Ram (next_quad p.0) } ∷ p.1)

-- values are pushed, the first one first
abbrev pub push_all : Seen × List Item → List W → Seen × List Item
push_all p [] = p
push_all p (v ∷ vs) = push_all (push_one p v) vs

-- the store and the stack after an instruction that goes on: first the result's cells, then one for each item
abbrev pub after_going : Seen → List Item → Going → Seen × List Item
after_going s is g = push_all (grown s g.made, drop g.pops is) g.pushed

-- the row of an event's next instruction
abbrev pub lane_row : Seen → List Account → Lane → Row
lane_row s sheet l = row_at l.own (fetched s l.code) s sheet l.effects (values l.stack)

-- the event after an instruction that goes on
abbrev pub gone : Seen → Lane → Going → Lane
gone s l g = record l { code = g.goes_to; stack = (after_going s l.stack g).1; effects = with_effect l.effects g.effect }
