-- How large the module of a program is.
use Rattle.std.specs.Prelude.{◌≡◌, ℕ, ◌+◌, ◌*◌, ◌^◌, ◌≤◌, ◌<◌, List, [], ◌∷◌, length, None}
use Rattle.uasm_read.specs.Links.{link_fault}
use Rattle.hum_syntax.specs.declared.tree.Stmt.{Stmt}
use Rattle.hum_syntax.specs.Tokens.{Placed, kinds_of, weight, weight_limit}
use Rattle.hum_syntax.specs.Spells.{IsStmts}
use Rattle.hum_core.specs.declared.tested.TestUnit.{TestUnit}
use Rattle.hum_core.specs.Units.{resolved}
use Rattle.hum_core.specs.Lists.{tested}
use Rattle.hum_core.specs.Sizes.{size_of_units}
use Rattle.hum_code.specs.Layout.{Shape}
use Rattle.hum_emit.specs.Emitted.{Emitted}
use Rattle.hum_emit.specs.Program.{emission}
use Rattle.hum_emit.specs.Compiled.{compiled, compiled_module}

-- the instructions and the data, of which each is an item of a module
abbrev pub item_count : Emitted → ℕ
item_count e = length e.code + length e.cells

-- what is emitted of a program has at most 16 items for each part of the program, and 4,080 more
abbrev pub EmissionsAreSmall : Type 0
EmissionsAreSmall = (units : List TestUnit) (shapes : List Shape) → item_count (emission units shapes).0 ≤ 16 * size_of_units units + 4080

-- the module of a file that tokens spell has at most 64 items for each unit of their weight, and 4,096 more
abbrev pub ModulesAreSmall : Type 0
ModulesAreSmall =
    (n : ℕ) (ts : List Placed) (file : List Stmt) → IsStmts n (kinds_of ts) file
    → length (compiled_module (tested (resolved file))).items ≤ 64 * weight ts + 4096

-- A program's module links, and there are numbers for its instructions and its data.
pub record Linkable (units : List TestUnit) : Type 0 where
  pub links : link_fault (compiled_module units ∷ []) ≡ None
  pub code : length (compiled units).0.code < 2 ^ 32
  pub cells : length (compiled units).0.cells < 2 ^ 32

-- so it is with each file whose tokens are not heavier than those of a text may be
abbrev pub ProgramsLink : Type 0
ProgramsLink =
    (n : ℕ) (ts : List Placed) (file : List Stmt) → IsStmts n (kinds_of ts) file → weight ts ≤ weight_limit
    → Linkable (tested (resolved file))
