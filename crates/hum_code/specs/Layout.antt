-- Where the parts of a program stand in its image.
use Rattle.std.specs.Prelude.{◌≡◌, ℕ, zero, suc, ℤ, pos, negsuc, List, [], ◌∷◌, map, Option, Some, slice_get}
use Rattle.cap_words.specs.Words.{W}
use Rattle.hum_core.specs.declared.tested.TestUnit.{TestUnit}
use Rattle.hum_core.specs.declared.tested.TestUnit.TheVariants as unit
use Rattle.hum_core.specs.declared.tested.TestStmt.{TestStmt}
use Rattle.hum_core.specs.declared.tested.TestExpr.{TestExpr}
use Rattle.hum_core.specs.declared.tested.Test.{Test}
use Rattle.hum_meaning.specs.Value.{BuiltIn, Add, Sub, Mul, Compare, Less, LessEqual, Greater, GreaterEqual, Equal, And, Or, Not, Env, Outside, Bind, Group}
use Rattle.hum_core.specs.Numbered.{Code}
use Rattle.hum_core.specs.TestLists.{Tests}

-- what an entry of an environment is: a binding, or a group with these functions
pub data Kind : Type 0 where
  Single : Kind
  Several : List Code → Kind

-- the entries at a place in a program, the newest first
abbrev pub Shape : Type 0
Shape = List Kind

abbrev pub shape_of : Env Tests → Shape
shape_of Outside = []
shape_of (Bind u v env) = Single ∷ shape_of env
shape_of (Group fs env) = Several (map (λ f. f.1) fs) ∷ shape_of env

-- n bindings in front
abbrev pub with_singles : ℕ → Shape → Shape
with_singles zero shape = shape
with_singles (suc n) shape = Single ∷ with_singles n shape

-- The units of a program; the word of each unit's code, and the entries at its place; the symbol cell of each name that has one; the cells
-- of the built-in functions and their code; and the fixed code: what applies a behaviour, what an event of the first actor begins with,
-- what calls a function, what executes a value, what compares two values, and what fails with a code.
pub record Layout : Type 0 where
  pub units : List TestUnit
  pub place : ℕ → W
  pub shape : ℕ → Shape
  pub symbol : List ℕ → Option W
  pub primitive : BuiltIn → W
  pub routine : BuiltIn → W
  pub apply : W
  pub boot : W
  pub call : W
  pub exec : W
  pub same : W
  pub fail : ℕ → W

module _ (lay : Layout) where
  -- unit k is an abstraction
  pub record IsFunction (k : ℕ) : Type 0 where
    pub tests : List Test
    pub value : TestExpr
    pub is : slice_get lay.units k ≡ Some (unit.Abs tests value)

  -- unit k is a block
  pub record IsBlock (k : ℕ) : Type 0 where
    pub statements : List TestStmt
    pub is : slice_get lay.units k ≡ Some (unit.Block statements)

-- the number of a built-in function
abbrev pub number_of_primitive : BuiltIn → ℕ
number_of_primitive Add = 0
number_of_primitive Sub = 1
number_of_primitive Mul = 2
number_of_primitive Compare = 3
number_of_primitive Less = 4
number_of_primitive LessEqual = 5
number_of_primitive Greater = 6
number_of_primitive GreaterEqual = 7
number_of_primitive Equal = 8
number_of_primitive And = 9
number_of_primitive Or = 10
number_of_primitive Not = 11

-- the operand that reads the tail of a list after n items
abbrev pub minus : ℕ → ℤ
minus zero = pos zero
minus (suc n) = negsuc n
