-- What is so of the numbered languages.
use Rattle.std.specs.Prelude.{◌≡◌, ℕ, ◌+◌, true, List}
use Rattle.hum_syntax.specs.declared.tree.Stmt.{Stmt}
use Rattle.hum_syntax.specs.Formed as tree
use Rattle.hum_syntax.specs.declared.tree.Expr.TheVariants as expr
use Rattle.hum_syntax.specs.declared.tree.Pat.TheVariants as pat
use Rattle.hum_core.specs.declared.resolved.CoreUnit.{CoreUnit}
use Rattle.hum_core.specs.declared.tested.TestUnit.{TestUnit}
use Rattle.hum_meaning.specs.Value.{Parts, Value, Env}
use Rattle.hum_meaning.specs.Action.{Effects}
use Rattle.hum_meaning.specs.Language.{Language}
use Rattle.hum_meaning.specs.Meaning.{evaluate, match, execute}
use Rattle.hum_meaning.specs.Deliver.{Message, Configuration, deliver}
use Rattle.hum_meaning.specs.Laws.{Stays, IsClosed}
use Rattle.hum_core.specs.CoreTrees.{core_language}
use Rattle.hum_core.specs.TestLists.{tests_language}
use Rattle.hum_meaning.specs.Named.{written}
use Rattle.hum_meaning.specs.Look.{outermost}
use Rattle.hum_meaning.specs.After as after
use Rattle.hum_meaning.specs.Scope.{Scoped}
use Rattle.hum_meaning.specs.Written.{humus}
use Rattle.hum_core.specs.Reading.{MeanAlike}
use Rattle.hum_core.specs.Agreement.{Resolution}
use Rattle.hum_core.specs.Configurations.{ConfigurationAs, DeliverAlike}
use Rattle.hum_core.specs.Journals.{JournalsAlike}
use Rattle.hum_core.specs.Openings.{opening}
use Rattle.hum_core.specs.Lowering.{Lowered}
use Rattle.hum_core.specs.Formed.{are_formed}
use Rattle.hum_core.specs.Lists.{tested}
use Rattle.hum_core.specs.Numbered.{Code, Opening}
use Rattle.hum_core.specs.CoreTrees.{Core}
use Rattle.hum_core.specs.Alike.{Scope, scope_of}
use Rattle.hum_core.specs.Units.{resolved}
use Rattle.hum_core.specs.Bound.{BoundsAgree, BoundsCount}

-- what s steps decide of an expression, a pattern or a body, s + j steps decide so, with j more steps left; and so with a delivery
pub record DecisionsStay {L : Parts} (language : Language L) : Type 0 where
  pub evaluation : (self base : ℕ) (e : L.Expr) (env : Env L) (effects : Effects L) → Stays (evaluate language self base e env effects)
  pub matching : (self base : ℕ) (p : L.Pattern) (v : Value L) (env : Env L) (effects : Effects L) → Stays (match language self base p v env effects)
  pub execution : (self base : ℕ) (b : L.Body) (env : Env L) (effects : Effects L) → Stays (execute language self base b env effects)
  pub deliveries : (c : Configuration L) (m : Message L) (s j : ℕ) → IsClosed (deliver language c m s) → deliver language c m (s + j) ≡ deliver language c m s

abbrev pub ResolvedDecisionsStay : Type 0
ResolvedDecisionsStay = (units : List CoreUnit) → DecisionsStay (core_language units)

abbrev pub TestedDecisionsStay : Type 0
TestedDecisionsStay = (units : List TestUnit) → DecisionsStay (tests_language units)

-- a written tree means what the numbered one does that it stands for, and so do deliveries and journals
pub record ResolvedMeansTheSame (units : List CoreUnit) : Type 0 where
  pub trees : MeanAlike (Resolution units) humus (core_language units)
  pub deliveries : DeliverAlike (Resolution units) humus (core_language units)
  pub journals : JournalsAlike (Resolution units) humus (core_language units)

abbrev pub ResolvedTreesMeanTheSame : Type 0
ResolvedTreesMeanTheSame = (units : List CoreUnit) → ResolvedMeansTheSame units

-- patterns as trees mean what their tests do, and so do deliveries and journals
pub record LoweredMeansTheSame (units : List CoreUnit) (tested : List TestUnit) : Type 0 where
  pub trees : MeanAlike (Lowered units tested) (core_language units) (tests_language tested)
  pub deliveries : DeliverAlike (Lowered units tested) (core_language units) (tests_language tested)
  pub journals : JournalsAlike (Lowered units tested) (core_language units) (tests_language tested)

abbrev pub LoweredTreesMeanTheSame : Type 0
LoweredTreesMeanTheSame = (units : List CoreUnit) (tested : List TestUnit) → LoweredMeansTheSame units tested

-- formed units stand for what they become with tests, each for the unit of its own number
pub record StandForTests (units : List CoreUnit) : Type 0 where
  pub bodies : (scope : Scope Core) (k : ℕ) → (Lowered units (tested units)).BodyAs scope k k
  pub abstractions : (scope : Scope Core) (c : Code) → (Lowered units (tested units)).AbstractionAs scope c c

abbrev pub FormedTreesStand : Type 0
FormedTreesStand = (units : List CoreUnit) → are_formed units ≡ true → StandForTests units

-- A file that unit 0 stands for begins as the numbered program does; and that one begins alike with patterns and with tests.
pub record OpeningsAlike (units : List CoreUnit) : Type 0 where
  pub resolved : (file : List Stmt) → (Resolution units).BodyAs (scope_of (outermost written)) file 0
      → ConfigurationAs (Resolution units) (after.opening file) opening
  pub lowered : are_formed units ≡ true → ConfigurationAs (Lowered units (tested units)) opening opening

abbrev pub ProgramsBeginAlike : Type 0
ProgramsBeginAlike = (units : List CoreUnit) → OpeningsAlike units

-- a formed file becomes a formed tree
abbrev pub ResolvedTreesAreFormed : Type 0
ResolvedTreesAreFormed = (file : List Stmt) → tree.are_formed file ≡ true → are_formed (resolved file) ≡ true

-- the bounds of a program's deliveries, as it is written and as each numbered tree that it becomes
pub record DeliveriesHaveTheSameBounds (units : List CoreUnit) (tested : List TestUnit) : Type 0 where
  pub resolved : BoundsAgree (Resolution units) humus (core_language units)
  pub lowered : BoundsAgree (Lowered units tested) (core_language units) (tests_language tested)

abbrev pub BoundsAreTheSame : Type 0
BoundsAreTheSame = (units : List CoreUnit) (tested : List TestUnit) → DeliveriesHaveTheSameBounds units tested

-- the steps and the messages of a program's deliveries, in each of these languages
pub record DeliveriesAreCounted (units : List CoreUnit) (tested : List TestUnit) : Type 0 where
  pub written : BoundsCount humus
  pub resolved : BoundsCount (core_language units)
  pub lowered : BoundsCount (tests_language tested)

abbrev pub BoundsCountStepsAndSends : Type 0
BoundsCountStepsAndSends = (units : List CoreUnit) (tested : List TestUnit) → DeliveriesAreCounted units tested

-- in the outermost scope a file stands for unit 0 of these units, and `\_.[ file ]` for the first actor's behaviour
pub record FileStands (file : List Stmt) (units : List CoreUnit) : Type 0 where
  pub body : (Resolution units).BodyAs (scope_of (outermost written)) file 0
  pub opening : (Resolution units).AbstractionAs (scope_of (outermost written)) (pat.Any, expr.Block file) Opening

-- each file in which no name is refused stands so for the units that it becomes
abbrev pub ScopedFilesStand : Type 0
ScopedFilesStand = (file : List Stmt) → Scoped file → FileStands file (resolved file)
