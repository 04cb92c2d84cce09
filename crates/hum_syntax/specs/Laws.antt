-- What is so of every tree that tokens spell, and of the text of a tree.
use Rattle.std.specs.Prelude.{◌≡◌, ◌≤◌, ◌↔◌, ℕ, suc, true, List, ◌∷◌, ◌++◌, length, slice_get, Some}
use Rattle.std.specs.List.{list_all}
use Rattle.hum_syntax.specs.declared.token.TokenKind.TheVariants as k
use Rattle.hum_syntax.specs.declared.tree.Stmt.{Stmt}
use Rattle.hum_syntax.specs.Forms.{Bytes}
use Rattle.hum_syntax.specs.Kinds.{is_carried}
use Rattle.hum_syntax.specs.Tokens.{Placed, kinds_of, weight}
use Rattle.hum_syntax.specs.Formed.{are_formed}
use Rattle.hum_syntax.specs.Names.{names_of, names_of_kinds}
use Rattle.hum_syntax.specs.Sizes.{size_of}
use Rattle.hum_syntax.specs.Depths.{depth_of}
use Rattle.hum_syntax.specs.Lexes.{Lexes}
use Rattle.hum_syntax.specs.Spells.{Kinds, IsStmts}
use Rattle.hum_syntax.specs.Prints.{printed, levels}

-- where each token carries what it may, the tree is formed
abbrev pub SpelledTreesAreFormed : Type 0
SpelledTreesAreFormed = (n : ℕ) (ks : Kinds) (xs : List Stmt) → IsStmts n ks xs → list_all is_carried ks ≡ true → are_formed xs ≡ true

-- the names among the tokens are those of the tree, in order
abbrev pub NamesAreSpelled : Type 0
NamesAreSpelled = (n : ℕ) (ks : Kinds) (xs : List Stmt) → IsStmts n ks xs → names_of xs ≡ names_of_kinds ks

-- A token is this name, and so many names stand before it.
pub record IsNameAt (ks : Kinds) (at : ℕ) (name : Bytes) : Type 0 where
  pub front : Kinds
  pub rest : Kinds
  pub split : ks ≡ front ++ k.Name name ∷ rest
  pub before : length (names_of_kinds front) ≡ at

-- so the name of that number in the tree has its token
abbrev pub NamesHaveTokens : Type 0
NamesHaveTokens =
    (n : ℕ) (ks : Kinds) (xs : List Stmt) → IsStmts n ks xs → (at : ℕ) (name : Bytes) → (slice_get (names_of xs) at ≡ Some name) ↔ IsNameAt ks at name

-- a tree is no larger than its tokens weigh
abbrev pub TreesAreLight : Type 0
TreesAreLight = (n : ℕ) (ts : List Placed) (xs : List Stmt) → IsStmts n (kinds_of ts) xs → size_of xs ≤ weight ts

-- nor deeper by more than one than the levels that are left for them
abbrev pub TreesAreShallow : Type 0
TreesAreShallow = (n : ℕ) (ks : Kinds) (xs : List Stmt) → IsStmts n ks xs → depth_of xs ≤ suc n

-- what tokens spell they spell also where more levels are left
abbrev pub MoreLevelsSpell : Type 0
MoreLevelsSpell = (n m : ℕ) (ks : Kinds) (xs : List Stmt) → n ≤ m → IsStmts n ks xs → IsStmts m ks xs

-- The bytes are the text of a tree: they have the tokens that it is printed as, and these spell it where their levels are left.
pub record IsTextOf (bytes : Bytes) (xs : List Stmt) : Type 0 where
  pub tokens : List Placed
  pub lexes : Lexes bytes tokens
  pub kinds : kinds_of tokens ≡ printed xs
  pub spell : (n : ℕ) → levels xs ≤ n → IsStmts n (printed xs) xs
