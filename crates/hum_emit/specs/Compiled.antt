-- What a program's module is: the image that it links to holds the program.
use Rattle.std.specs.Prelude.{◌≡◌, ℕ, suc, ◌+◌, ◌<◌, ◌≤◌, List, [], ◌∷◌, ◌++◌, length, map, Option, Some, option_map, slice_get}
use Rattle.cap_words.specs.declared.word.Quad.{Quad}
use Rattle.cap_words.specs.Words.{W, Rom}
use Rattle.uasm_read.specs.Modules.{ModuleParts}
use Rattle.uasm_read.specs.Texts.{Name}
use Rattle.uasm_read.specs.Links.{Linked, item_limit, first_number, label_number}
use Rattle.hum_core.specs.declared.tested.TestUnit.{TestUnit}
use Rattle.hum_code.specs.Layout.{Layout}
use Rattle.hum_code.specs.Program.{HoldsProgram}
use Rattle.hum_emit.specs.Emitted.{Emitted}
use Rattle.hum_emit.specs.Holds.{place_number}
use Rattle.hum_emit.specs.Module.{module_of, boot_label, apply_label, unit_label}
use Rattle.hum_emit.specs.Program.{emission}
use Rattle.hum_emit.specs.ProgramLayout.{places_of, program_layout}
use Rattle.hum_emit.specs.Runtime.{apply_place}
use Rattle.hum_emit.specs.Shapes.{shapes_of, ShapesFit}

-- what is emitted of a program's units, in the shapes of their places
abbrev pub compiled : List TestUnit → Emitted × List ℕ
compiled units = emission units (shapes_of units)

-- its module
abbrev pub compiled_module : List TestUnit → ModuleParts
compiled_module units = module_of (compiled units).0 (compiled units).1

-- where its parts stand in the image that the module links to
abbrev pub layout_of : List TestUnit → Layout
layout_of units = program_layout (places_of (compiled units)) units (shapes_of units) (compiled units).0

-- the image that the module links to holds the program
abbrev pub CompiledImagesHold : Type 0
CompiledImagesHold =
    (units : List TestUnit) (boot : W) (cells : List Quad) → ShapesFit units (shapes_of units) → Linked (compiled_module units ∷ []) boot cells
    → HoldsProgram boot cells (layout_of units)

-- the word that a label of a module stands for in the image that it links to alone
abbrev pub label_word : ModuleParts → Name → Option W
label_word m name = option_map Rom (label_number first_number m.items name)

-- The labels of a program's module stand where its parts are: `boot`, `apply`, and `uK` for unit K.
pub record Labelled (units : List TestUnit) : Type 0 where
  pub boot : label_word (compiled_module units) boot_label ≡ Some (layout_of units).boot
  pub apply : label_word (compiled_module units) apply_label ≡ Some (layout_of units).apply
  pub unit : (k : ℕ) → k < length units → label_word (compiled_module units) (unit_label k) ≡ Some ((layout_of units).place k)

abbrev pub LabelsArePlaces : Type 0
LabelsArePlaces =
    (units : List TestUnit) → ShapesFit units (shapes_of units) → length (compiled units).0.code + length (compiled units).0.cells ≤ item_limit
    → Labelled units

-- the ROM numbers of the units' first instructions in the order of the units, and then that of the routine that applies a behaviour
abbrev pub code_places : List TestUnit → List ℕ
code_places units = map (place_number (length (compiled units).0.code)) ((compiled units).1 ++ apply_place ∷ [])

-- There is a place for each unit and one more. Place K is where the code of unit K stands, and the last one where that of the routine does.
pub record Placed (units : List TestUnit) : Type 0 where
  pub count : length (code_places units) ≡ suc (length units)
  pub unit : (k : ℕ) → k < length units → option_map Rom (slice_get (code_places units) k) ≡ Some ((layout_of units).place k)
  pub apply : option_map Rom (slice_get (code_places units) (length units)) ≡ Some (layout_of units).apply

abbrev pub CodePlacesStand : Type 0
CodePlacesStand = (units : List TestUnit) → ShapesFit units (shapes_of units) → Placed units
