-- What is so of the tokens of texts, and of their refusals.
use Rattle.std.specs.Prelude.{◌≡◌, ◌⊎◌, ℕ, true, List, slice_get, Some}
use Rattle.std.specs.List.{list_all}
use Rattle.hum_syntax.specs.Forms.{Bytes}
use Rattle.hum_syntax.specs.Kinds.{is_carried}
use Rattle.hum_syntax.specs.Tokens.{Placed, kinds_of}
use Rattle.hum_syntax.specs.Lexes.{Lexes, IsTokens}
use Rattle.hum_syntax.specs.Places.{TokenAt}
use Rattle.hum_lex.specs.declared.error.LexCause.{LexCause}
use Rattle.hum_lex.specs.Faults.{IsRefusedAt}

-- a text has one list of tokens at most, whatever they weigh
abbrev pub OneTokenList : Type 0
OneTokenList = (bytes : Bytes) (us vs : List Placed) → Lexes bytes us → Lexes bytes vs → us ≡ vs

-- it is refused at one place at most, and for one cause
abbrev pub OneRefusal : Type 0
OneRefusal = (bytes : Bytes) (m n : ℕ) (c d : LexCause) → IsRefusedAt bytes m c → IsRefusedAt bytes n d → (m ≡ n) × (c ≡ d)

-- it has no tokens where it is refused
abbrev pub NeverBoth : Type 0
NeverBoth = (bytes : Bytes) (ts : List Placed) (at : ℕ) (why : LexCause) → IsTokens bytes ts → IsRefusedAt bytes at why → ⊥

-- and each text has tokens or is refused
abbrev pub OneOfBoth : Type 0
OneOfBoth = (bytes : Bytes) → ((ts : List Placed) × IsTokens bytes ts) ⊎ ((at : ℕ) × (why : LexCause) × IsRefusedAt bytes at why)

-- the bytes of each token stand in the text at its place
abbrev pub TokensStand : Type 0
TokensStand = (bytes : Bytes) (ts : List Placed) → Lexes bytes ts → (n : ℕ) (t : Placed) → slice_get ts n ≡ Some t → TokenAt bytes t

-- and each token carries what it may
abbrev pub TokensAreCarried : Type 0
TokensAreCarried = (bytes : Bytes) (ts : List Placed) → Lexes bytes ts → list_all is_carried (kinds_of ts) ≡ true
