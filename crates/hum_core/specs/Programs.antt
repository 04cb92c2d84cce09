-- The program that a file becomes, and that it means what the file means.
use Rattle.std.specs.Prelude.{◌≡◌, true, List}
use Rattle.hum_syntax.specs.declared.tree.Stmt.{Stmt}
use Rattle.hum_syntax.specs.Formed as tree
use Rattle.hum_meaning.specs.Value.{Parts}
use Rattle.hum_meaning.specs.Language.{Language}
use Rattle.hum_meaning.specs.Named.{Named, written}
use Rattle.hum_meaning.specs.Scope.{Scoped}
use Rattle.hum_meaning.specs.Written.{humus}
use Rattle.hum_meaning.specs.Deliver.{Configuration}
use Rattle.hum_meaning.specs.After.{Entry, Follows, After}
use Rattle.hum_meaning.specs.After as after
use Rattle.hum_core.specs.declared.tested.TestUnit.{TestUnit}
use Rattle.hum_core.specs.Agreement.{Resolution}
use Rattle.hum_core.specs.Alike.{Reading}
use Rattle.hum_core.specs.Configurations.{MessageAs, ConfigurationAs}
use Rattle.hum_core.specs.Likeness.{Likeness, through, MeansTheSame}
use Rattle.hum_core.specs.Lists.{tested}
use Rattle.hum_core.specs.Lowering.{Lowered}
use Rattle.hum_core.specs.Openings.{opening}
use Rattle.hum_core.specs.TestLists.{Tests, tests_language}
use Rattle.hum_core.specs.Units.{resolved}

-- the units of the program that a file becomes, in which names are slots and patterns are tests
abbrev pub program : List Stmt → List TestUnit
program file = tested (resolved file)

abbrev pub program_language : List Stmt → Language Tests
program_language file = tests_language (program file)

-- where trees stand for others: configurations and messages whose values are alike
abbrev pub by_reading : {L K : Parts} → Reading L K → Likeness L K
by_reading r = record { Configurations = ConfigurationAs r; Messages = MessageAs r }

-- Which configurations and messages of a file are alike to which of its program. There is one of the file's numbered tree between them.
abbrev pub FileAs : List Stmt → Likeness (Named written) Tests
FileAs file = through (by_reading (Resolution (resolved file))) (by_reading (Lowered (resolved file) (program file)))

-- A file's program begins alike and means the same. What follows: a journal leads to a configuration of the one where it leads to one of the
-- other that is alike.
pub record ProgramMeansFile (file : List Stmt) : Type 0 where
  pub opens : (FileAs file).Configurations (after.opening file) opening
  pub means : MeansTheSame (FileAs file) humus (program_language file)
  pub forth : (journal : List Entry) (c : Configuration (Named written)) → After file journal c
      → (d : Configuration Tests) × Follows (program_language file) opening journal d × (FileAs file).Configurations c d
  pub back : (journal : List Entry) (d : Configuration Tests) → Follows (program_language file) opening journal d
      → (c : Configuration (Named written)) × After file journal c × (FileAs file).Configurations c d

-- of each formed file in which no name is refused
abbrev pub ProgramsMeanTheirFiles : Type 0
ProgramsMeanTheirFiles = (file : List Stmt) → tree.are_formed file ≡ true → Scoped file → ProgramMeansFile file
