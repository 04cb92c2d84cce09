-- What is emitted of a whole program.
use Rattle.std.specs.Prelude.{ℕ, suc, pos, List, [], ◌∷◌, slice_index, None}
use Rattle.hum_core.specs.declared.tested.TestUnit.{TestUnit}
use Rattle.hum_code.specs.Layout.{Shape}
use Rattle.hum_emit.specs.declared.instruction.Field.TheVariants.{Number, Place}
use Rattle.hum_emit.specs.declared.instruction.Datum.{Datum}
use Rattle.hum_emit.specs.Emitted.{Emitted, function_type}
use Rattle.hum_emit.specs.Runtime.{routine_places, runtime}
use Rattle.hum_emit.specs.Templates.{units_code, boot_code}

-- the cells of the built-in functions that have these routines and the numbers from that one on
abbrev pub routine_cells : (number : ℕ) → List ℕ → List Datum
routine_cells number [] = []
routine_cells number (place ∷ more) =
    record { kind = function_type; first = Place place; second = Number (pos number) } ∷ routine_cells (suc number) more

-- what is emitted before the units: the fixed code, and the cells of the built-in functions
abbrev pub start : Emitted
start = record { code = runtime; cells = routine_cells 0 routine_places; symbols = λ name. None }

-- the units in their shapes, and the code that the first event begins with, which is made last; and the numbers of the units' first instructions
abbrev pub emission : List TestUnit → List Shape → Emitted × List ℕ
emission units shapes = let made = units_code units shapes start in ((boot_code (slice_index made.1 0) made.0).0, made.1)
