-- Values, environments and behaviours, for any language of the family: the one that is written, with names, and those that the compiler
-- makes of it, with numbers in their place.
use Rattle.std.specs.Prelude.{ℕ, ℤ, pos, Bool, List, [], ◌∷◌}

-- What a language is made of: its expressions, its patterns, what a `CASE` chooses by, the bodies of its blocks, its abstractions, what a
-- binding bears, and what stands where a binding is used.
pub record Parts : Type 1 where
  pub Expr : Type 0
  pub Pattern : Type 0
  pub Choice : Type 0
  pub Body : Type 0
  pub Abstraction : Type 0
  pub Mark : Type 0
  pub Reference : Type 0

-- a value that has no parts: undefined, NIL, a truth value, a number, a symbol by its name, or an actor by its number
pub data Atom : Type 0 where
  Undefined Nil : Atom
  Truth : Bool → Atom
  Number : ℤ → Atom
  Symbol : List ℕ → Atom
  Actor : ℕ → Atom

-- the built-in functions
pub data BuiltIn : Type 0 where
  Add Sub Mul Compare Less LessEqual Greater GreaterEqual Equal And Or Not : BuiltIn

-- in the order of their numbers, from 0
abbrev pub built_ins : List BuiltIn
built_ins = Add ∷ Sub ∷ Mul ∷ Compare ∷ Less ∷ LessEqual ∷ Greater ∷ GreaterEqual ∷ Equal ∷ And ∷ Or ∷ Not ∷ []

mutual
  -- an atom, a pair, a function and a block with the environment that they were made in, or a built-in function
  pub data Value (L : Parts) : Type 0 where
    Plain : Atom → Value L
    Pair : (head tail : Value L) → Value L
    Function : L.Abstraction → Env L → Value L
    Block : L.Body → Env L → Value L
    Primitive : BuiltIn → Value L

  -- the newest entry first: it binds a value, or it is a group of functions
  pub data Env (L : Parts) : Type 0 where
    Outside : Env L
    Bind : L.Mark → Value L → Env L → Env L
    Group : List (L.Mark × L.Abstraction) → Env L → Env L

-- what answers an actor's messages: a device of that number, or a value that is applied to each message
pub data Behaviour (L : Parts) : Type 0 where
  Device : ℕ → Behaviour L
  Answers : Value L → Behaviour L

-- what a pattern binds
abbrev pub Entry : Parts → Type 0
Entry L = L.Mark × Value L

module _ {L : Parts} where
  -- the entries of a pattern, the newest first, in front of an environment
  abbrev pub extend : List (Entry L) → Env L → Env L
  extend [] env = env
  extend (e ∷ es) env = Bind e.0 e.1 (extend es env)

  -- a text is the list of its code points, ended by NIL
  abbrev pub text_value : List ℕ → Value L
  text_value [] = Plain Nil
  text_value (c ∷ cs) = Pair (Plain (Number (pos c))) (text_value cs)
