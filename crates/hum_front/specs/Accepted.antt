-- Which texts are accepted, and why others are refused.
use Rattle.std.specs.Prelude.{◌≡◌, ℕ, ◌<◌, ◌≤◌, List, length, Some, slice_get}
use Rattle.hum_syntax.specs.declared.Tree.{Tree}
use Rattle.hum_syntax.specs.Forms.{Bytes}
use Rattle.hum_syntax.specs.Names.{names_of}
use Rattle.hum_syntax.specs.Tokens.{Placed, kinds_of}
use Rattle.hum_syntax.specs.Lexes.{IsTokens}
use Rattle.hum_syntax.specs.Places.{token_place, name_place}
use Rattle.hum_syntax.specs.Spells.{IsStmts, Spells, deepest}
use Rattle.hum_lex.specs.declared.error.LexRefused.{LexRefused}
use Rattle.hum_lex.specs.Faults.{IsRefusedAt}
use Rattle.hum_parse.specs.Begins.{RefusedAt}
use Rattle.hum_meaning.specs.Scope.{Scoped, first_refused}
use Rattle.hum_scope.specs.declared.refusal.ScopeRefused.{ScopeRefused}
use Rattle.hum_front.specs.declared.error.StartError.{StartError}
use Rattle.hum_front.specs.declared.error.StartError.TheVariants as e

-- a text has at most so many bytes
abbrev pub text_limit : ℕ
text_limit = 1048576

-- The text is not too long, has tokens within the weight, these spell the tree, no deeper than 200, and no name of it is refused.
pub record Accepted (bytes : Bytes) (tree : Tree) : Type 0 where
  pub short : length bytes ≤ text_limit
  pub tokens : List Placed
  pub are : IsTokens bytes tokens
  pub spells : Spells (kinds_of tokens) tree
  pub scoped : Scoped tree.statements

-- ---- refusals

-- It has no tokens within the weight: the place is that of its first fault.
pub record IsLexRefusal (bytes : Bytes) (why : LexRefused) : Type 0 where
  pub short : length bytes ≤ text_limit
  pub refused : IsRefusedAt bytes why.at why.cause

-- Its tokens spell no tree: the place is that of the first token with which none begins, or the end of the text.
pub record IsParseRefusal (bytes : Bytes) (at : ℕ) : Type 0 where
  pub short : length bytes ≤ text_limit
  pub tokens : List Placed
  pub are : IsTokens bytes tokens
  pub token : ℕ
  pub refused : RefusedAt (IsStmts deepest) (kinds_of tokens) token
  pub place : at ≡ token_place bytes tokens token

-- A name of its tree is refused, and it is the first such name: the place is that of the name.
pub record IsScopeRefusal (bytes : Bytes) (why : ScopeRefused) (name : Bytes) : Type 0 where
  pub short : length bytes ≤ text_limit
  pub tokens : List Placed
  pub are : IsTokens bytes tokens
  pub tree : Tree
  pub spells : Spells (kinds_of tokens) tree
  pub number : ℕ
  pub refused : first_refused tree.statements ≡ Some (number, why.cause)
  pub is : slice_get (names_of tree.statements) number ≡ Some name
  pub place : name_place tokens number ≡ Some why.at

-- Why the text is refused.
abbrev pub IsRefusal : Bytes → StartError → Type 0
IsRefusal bytes e.NoMemory = ⊥
IsRefusal bytes e.TooLong = text_limit < length bytes
IsRefusal bytes (e.Lex why) = IsLexRefusal bytes why
IsRefusal bytes (e.Parse at) = IsParseRefusal bytes at
IsRefusal bytes (e.Scope why) = (name : Bytes) × IsScopeRefusal bytes why name

-- Why a call fails that reads the text: it is refused so, or memory is wanting.
abbrev pub Fails : Bytes → StartError → Type 0
Fails bytes e.NoMemory = Unit {0}
Fails bytes e.TooLong = IsRefusal bytes e.TooLong
Fails bytes (e.Lex why) = IsRefusal bytes (e.Lex why)
Fails bytes (e.Parse at) = IsRefusal bytes (e.Parse at)
Fails bytes (e.Scope why) = IsRefusal bytes (e.Scope why)
