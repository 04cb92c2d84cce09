-- What the words of emitted code come to in an image, and that a store holds what was emitted.
use Rattle.std.specs.Prelude.{◌≡◌, ℕ, suc, ◌+◌, ◌-◌, Option, Some, None, slice_get}
use Rattle.cap_words.specs.declared.word.Quad.{Quad}
use Rattle.cap_words.specs.Words.{W, Fix, Rom, undef}
use Rattle.cap_words.specs.Seen.{Seen, cell_seen}
use Rattle.instr_table.specs.Code.{named, with_next, fetched}
use Rattle.hum_emit.specs.declared.instruction.Field.{Field}
use Rattle.hum_emit.specs.declared.instruction.Field.TheVariants.{Number, Constant, Place, Unit, Data}
use Rattle.hum_emit.specs.declared.instruction.Instruction.{Instruction}
use Rattle.hum_emit.specs.declared.instruction.Datum.{Datum}
use Rattle.hum_emit.specs.Emitted.{Emitted}

-- how many instructions there are, and the number of each unit's first instruction
pub record Places : Type 0 where
  pub size : ℕ
  pub entry : ℕ → ℕ

-- the ROM number of an instruction, where there are so many: the one that was made last stands first, behind the constants
abbrev pub place_number : (size : ℕ) → ℕ → ℕ
place_number size i = 16 + (size - suc i)

module _ (p : Places) where
  -- the data stand behind all instructions
  abbrev pub place_word : ℕ → W
  place_word i = Rom (place_number p.size i)

  abbrev pub data_word : ℕ → W
  data_word j = Rom (16 + (p.size + j))

  abbrev pub unit_word : ℕ → W
  unit_word u = place_word (p.entry u)

  abbrev pub word_of : Field → W
  word_of (Number n) = Fix n
  word_of (Constant c) = Rom c
  word_of (Place i) = place_word i
  word_of (Unit u) = unit_word u
  word_of (Data j) = data_word j

  abbrev pub next_word : Option ℕ → W
  next_word None = undef
  next_word (Some i) = place_word i

  abbrev pub datum_quad : Datum → Quad
  datum_quad d = record { t = Rom d.kind; x = word_of d.first; y = word_of d.second; z = undef }

  -- each instruction is fetched at its place, and each datum is read at its own
  pub record Holds (s : Seen) (e : Emitted) : Type 0 where
    pub instructions : (i : ℕ) (x : Instruction) → slice_get e.code i ≡ Some x
        → fetched s (place_word i) ≡ with_next (named x.operation (word_of x.field)) (next_word x.next)
    pub cells : (j : ℕ) (d : Datum) → slice_get e.cells j ≡ Some d → cell_seen s (data_word j) ≡ Some (datum_quad d)
