-- What the rows of the table reach from an event's dispatch, whatever others add between.
use Rattle.std.specs.Prelude.{◌≡◌, List}
use Rattle.cap_words.specs.Seen.{Seen}
use Rattle.instr_table.specs.Spent.{Spent, unspent, spent_more}
use Rattle.instr_table.specs.Types.{Grows}
use Rattle.instr_table.specs.Sheet.{Account}
use Rattle.instr_table.specs.Outcome.{Going, Goes}
use Rattle.instr_table.specs.Lane.{Lane, values, after_going, lane_row, gone}
use Rattle.hum_code.specs.Comes.{Point}

-- an event in flight as its code sees it
abbrev pub seen_at : Lane → Spent → Point
seen_at l n = record { code = l.code; values = values l.stack; effects = l.effects; cycles = n.cycles; quads = n.quads; events = n.events }

-- A store, an event in flight and what it was charged are reached from a store and an event at its dispatch: by what others do, and by
-- instructions of its own that go on.
pub data Reaches (s0 : Seen) (l0 : Lane) : Seen → Lane → Spent → Type 0 where
  dispatched : Reaches s0 l0 s0 l0 unspent
  others : {s t : Seen} {l : Lane} {n : Spent} → Reaches s0 l0 s l n → Grows s t → Reaches s0 l0 t l n
  stepped : {s : Seen} {l : Lane} {n : Spent} (sheet : List Account) (g : Going) → Reaches s0 l0 s l n
      → (lane_row s sheet l).outcome ≡ Goes g
      → Reaches s0 l0 (after_going s l.stack g).0 (gone s l g) (spent_more n (lane_row s sheet l).charge)
