-- What is so of the trees that tokens spell, and of the places of refusals.
use Rattle.std.specs.Prelude.{◌≡◌, ◌⊎◌, ℕ, true, List}
use Rattle.std.specs.List.{list_all}
use Rattle.hum_syntax.specs.declared.Tree.{Tree}
use Rattle.hum_syntax.specs.declared.Stmt.{Stmt}
use Rattle.hum_syntax.specs.Kinds.{is_carried}
use Rattle.hum_syntax.specs.Spells.{Kinds, IsStmts, Spells, deepest}
use Rattle.hum_parse.specs.Begins.{RefusedAt}

-- tokens spell one tree at most
abbrev pub OneTree : Type 0
OneTree = (ks : Kinds) (a b : Tree) → Spells ks a → Spells ks b → a ≡ b

-- also where they spell it with other levels left
abbrev pub OneAtEachLevel : Type 0
OneAtEachLevel = (m n : ℕ) (ks : Kinds) (xs ys : List Stmt) → IsStmts m ks xs → IsStmts n ks ys → xs ≡ ys

-- and are refused at one place at most
abbrev pub OnePlace : Type 0
OnePlace = (ks : Kinds) (m n : ℕ) → RefusedAt (IsStmts deepest) ks m → RefusedAt (IsStmts deepest) ks n → m ≡ n

-- and where each of them carries what it may, they spell a tree or are refused
abbrev pub OneOfBoth : Type 0
OneOfBoth = (ks : Kinds) → list_all is_carried ks ≡ true → ((tree : Tree) × Spells ks tree) ⊎ ((at : ℕ) × RefusedAt (IsStmts deepest) ks at)
