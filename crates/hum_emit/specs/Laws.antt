-- What is so of emitted code.
use Rattle.std.specs.Prelude.{◌≡◌, true, ℕ, ◌-◌, ◌<◌, ◌^◌, List, [], ◌∷◌, length}
use Rattle.cap_words.specs.Words.{W}
use Rattle.cap_words.specs.Seen.{Seen}
use Rattle.uasm_read.specs.Links.{Linked}
use Rattle.hum_syntax.specs.declared.tree.Stmt.{Stmt}
use Rattle.hum_syntax.specs.Formed.{are_formed}
use Rattle.hum_meaning.specs.Scope.{Scoped}
use Rattle.hum_core.specs.declared.tested.TestUnit.{TestUnit}
use Rattle.hum_core.specs.Units.{resolved}
use Rattle.hum_core.specs.Lists.{tested}
use Rattle.hum_code.specs.Comes.{Setting}
use Rattle.hum_code.specs.Layout.{Shape}
use Rattle.hum_code.specs.Emission.{CodeStands}
use Rattle.hum_emit.specs.Emitted.{Emitted}
use Rattle.hum_emit.specs.Holds.{place_word, Holds}
use Rattle.hum_emit.specs.Made.{Made}
use Rattle.hum_emit.specs.Module.{module_of}
use Rattle.hum_emit.specs.Program.{emission}
use Rattle.hum_emit.specs.Shapes.{shapes_of, ShapesFit}
use Rattle.hum_emit.specs.ProgramLayout.{places_of, program_layout}

-- a store with the cells that a module links to holds what was emitted, and begins with the instruction that was made last
abbrev pub LinkedHolds : Type 0
LinkedHolds =
    (e : Emitted) (entries : List ℕ) (boot : W) (s : Seen) → Made e.code e.cells entries → Linked (module_of e entries ∷ []) boot s.rom
    → Holds (places_of (e, entries)) s e × (boot ≡ place_word (places_of (e, entries)) (length e.code - 1))

-- what is emitted of units, in shapes that fit, stands for them in each store that holds it
abbrev pub EmittedCodeStands : Type 0
EmittedCodeStands =
    (m : Setting) (units : List TestUnit) (shapes : List Shape) → ShapesFit units shapes
    → Holds (places_of (emission units shapes)) m.base (emission units shapes).0
    → CodeStands m (program_layout (places_of (emission units shapes)) units shapes (emission units shapes).0)

-- the units of a formed file in which no name is refused fit in the shapes of their places
abbrev pub ShapesOfProgramsFit : Type 0
ShapesOfProgramsFit = (file : List Stmt) → are_formed file ≡ true → Scoped file → ShapesFit (tested (resolved file)) (shapes_of (tested (resolved file)))

-- what is emitted of units in shapes that fit is well made, where there is a number for each instruction and each datum
abbrev pub EmissionsAreMade : Type 0
EmissionsAreMade =
    (units : List TestUnit) (shapes : List Shape) → ShapesFit units shapes → length (emission units shapes).0.code < 2 ^ 32
    → length (emission units shapes).0.cells < 2 ^ 32
    → Made (emission units shapes).0.code (emission units shapes).0.cells (emission units shapes).1
