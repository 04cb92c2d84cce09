-- What a well made emission is: each word names what is there.
use Rattle.std.specs.Prelude.{◌≡◌, ℕ, ◌<◌, ◌^◌, true, List, [], ◌∷◌, length, Option, Some, None, ⊤}
use Rattle.std.specs.List.{All}
use Rattle.cap_words.specs.Fixnums.{in_range}
use Rattle.hum_emit.specs.declared.instruction.Field.{Field}
use Rattle.hum_emit.specs.declared.instruction.Field.TheVariants.{Number, Constant, Place, Unit, Data}
use Rattle.hum_emit.specs.declared.instruction.Instruction.{Instruction}
use Rattle.hum_emit.specs.declared.instruction.Datum.{Datum}

-- where there are so many instructions, units and data
module _ (size units count : ℕ) where
  abbrev pub FieldMade : Field → Type 0
  FieldMade (Number n) = in_range n ≡ true
  FieldMade (Constant c) = c < 16
  FieldMade (Place i) = i < size
  FieldMade (Unit k) = k < units
  FieldMade (Data j) = j < count

  abbrev pub NextMade : Option ℕ → Type 0
  NextMade None = ⊤
  NextMade (Some i) = i < size

  pub record InstructionMade (x : Instruction) : Type 0 where
    pub operation : x.operation < 27
    pub field : FieldMade x.field
    pub next : NextMade x.next

  pub record DatumMade (d : Datum) : Type 0 where
    pub kind : d.kind < 16
    pub first : FieldMade d.first
    pub second : FieldMade d.second

-- each is below the one before it, and the first below that number
abbrev pub Descend : ℕ → List ℕ → Type 0
Descend size [] = ⊤
Descend size (entry ∷ entries) = (entry < size) × Descend entry entries

-- instructions, data, and the numbers of the units' first instructions
pub record Made (code : List Instruction) (cells : List Datum) (entries : List ℕ) : Type 0 where
  pub some : 0 < length code
  pub instructions_made : All (InstructionMade (length code) (length entries) (length cells)) code
  pub cells_made : All (DatumMade (length code) (length entries) (length cells)) cells
  pub entries_descend : Descend (length code) entries
  pub few_instructions : length code < 2 ^ 32
  pub few_cells : length cells < 2 ^ 32
