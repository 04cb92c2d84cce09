-- What is so of every text.
use Rattle.std.specs.Prelude.{◌≡◌, ◌⊎◌, ℕ, List, Some, slice_get}
use Rattle.hum_syntax.specs.declared.Tree.{Tree}
use Rattle.hum_syntax.specs.Forms.{Bytes}
use Rattle.hum_syntax.specs.Names.{names_of_kinds}
use Rattle.hum_syntax.specs.Tokens.{Placed, kinds_of}
use Rattle.hum_syntax.specs.Lexes.{Lexes}
use Rattle.hum_syntax.specs.Places.{name_place, NameAt}
use Rattle.hum_front.specs.declared.error.StartError.{StartError}
use Rattle.hum_front.specs.Accepted.{Accepted, IsRefusal}

-- a text is accepted with one tree at most
abbrev pub OneTree : Type 0
OneTree = (bytes : Bytes) (a b : Tree) → Accepted bytes a → Accepted bytes b → a ≡ b

-- it is refused in one way at most
abbrev pub OneRefusal : Type 0
OneRefusal = (bytes : Bytes) (c d : StartError) → IsRefusal bytes c → IsRefusal bytes d → c ≡ d

-- it is never both
abbrev pub NeverBoth : Type 0
NeverBoth = (bytes : Bytes) (a : Tree) (c : StartError) → Accepted bytes a → IsRefusal bytes c → ⊥

-- and it is one of the two
abbrev pub OneOfBoth : Type 0
OneOfBoth = (bytes : Bytes) → ((tree : Tree) × Accepted bytes tree) ⊎ ((why : StartError) × IsRefusal bytes why)

-- the name of each number among a text's tokens stands in the text at its place
abbrev pub NamesStand : Type 0
NamesStand =
    (bytes : Bytes) (ts : List Placed) → Lexes bytes ts → (n p : ℕ) → name_place ts n ≡ Some p
    → (name : Bytes) × (slice_get (names_of_kinds (kinds_of ts)) n ≡ Some name) × NameAt bytes p name
