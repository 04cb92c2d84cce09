-- The first fault of a text that has no tokens.
use Rattle.std.specs.Prelude.{◌≡◌, ℕ, ◌+◌, ◌<◌, ◌≤◌, Bool, true, false, not, ◌&&◌, ◌==◌, List, [], ◌∷◌, ◌++◌, length}
use Rattle.hum_syntax.specs.Forms.{Bytes, is_blank, is_delimiter, is_run_byte, is_point, is_text, point_bytes, text_bytes}
use Rattle.hum_syntax.specs.Kinds.{kind_of_run}
use Rattle.hum_syntax.specs.Tokens.{Placed, weight_of, weight, weight_limit}
use Rattle.hum_syntax.specs.Lexes.{IsWholeRun, is_large, is_reserved, Stands, Spot, Leads, start, IsTokens}
use Rattle.hum_lex.specs.declared.error.LexCause.{LexCause}
use Rattle.hum_lex.specs.declared.error.LexCause.TheVariants as cause
use Rattle.hum_syntax.specs.declared.TokenKind.{TokenKind}

-- The bytes are what stands between two quotes: no quote is among them that no `\` takes, and no `\` at their end takes
-- the byte behind them. `taken` says that a `\` takes the first byte.
abbrev pub is_inside : Bool → Bytes → Bool
is_inside taken [] = not taken
is_inside true (b ∷ bs) = is_inside false bs
is_inside false (b ∷ bs) = not (b == 34) && is_inside (b == 92) bs

-- no code point is written at the front, whatever follows
abbrev pub BeginsNoPoint : Bytes → Type 0
BeginsNoPoint bytes = (c : ℕ) (more : Bytes) → is_point c ≡ true → bytes ≡ point_bytes c ++ more → ⊥

-- a byte that may stand in texts and comments alone
pub record IsStray (b : ℕ) : Type 0 where
  pub no_blank : is_blank b ≡ false
  pub no_delimiter : is_delimiter b ≡ false
  pub no_run_byte : is_run_byte b ≡ false

-- Where a blank, a comment or a token would have to begin, the bytes have this cause, so many bytes further on. The tokens
-- before weigh `weighed`.
pub data Fault (called : Bool) (weighed : ℕ) (bytes : Bytes) : ℕ → LexCause → Type 0 where
  stray : {b : ℕ} {rest : Bytes} → bytes ≡ b ∷ rest → IsStray b → Fault called weighed bytes 0 cause.BadByte
  hash_delimiter : {b : ℕ} {rest : Bytes} → bytes ≡ 35 ∷ b ∷ rest → is_delimiter b ≡ true → Fault called weighed bytes 0 cause.BadByte
  hash_stray : {b : ℕ} {rest : Bytes} → bytes ≡ 35 ∷ b ∷ rest → IsStray b → Fault called weighed bytes 1 cause.BadByte
  -- no quote ends the text
  open_text : {rest : Bytes} → bytes ≡ 34 ∷ rest → ((us vs : Bytes) → is_inside false us ≡ true → rest ≡ us ++ 34 ∷ vs → ⊥)
      → Fault called weighed bytes 0 cause.BadText
  -- behind the code points `cs`
  bad_text : (cs : List ℕ) (us rest : Bytes) → bytes ≡ 34 ∷ (text_bytes cs ++ us) ++ 34 ∷ rest → is_text cs ≡ true
      → is_inside false (text_bytes cs ++ us) ≡ true → 0 < length us → BeginsNoPoint us
      → Fault called weighed bytes (1 + length (text_bytes cs)) cause.BadText
  long_run : {us rest : Bytes} → bytes ≡ us ++ rest → IsWholeRun us rest → 128 < length us → Fault called weighed bytes 0 cause.RunTooLong
  long_symbol : {us rest : Bytes} → bytes ≡ 35 ∷ us ++ rest → IsWholeRun us rest → 128 < length us → Fault called weighed bytes 1 cause.RunTooLong
  large : {us rest : Bytes} → bytes ≡ us ++ rest → IsWholeRun us rest → length us ≤ 128 → is_large (kind_of_run us) ≡ true
      → Fault called weighed bytes 0 cause.NumberRange
  reserved : {us rest : Bytes} → bytes ≡ us ++ rest → IsWholeRun us rest → length us ≤ 128 → is_reserved (kind_of_run us) ≡ true
      → Fault called weighed bytes 0 cause.NotInProfile
  heavy : {us rest : Bytes} {kind : TokenKind} → bytes ≡ us ++ rest → Stands called us rest kind → weight_limit < weighed + weight_of kind
      → Fault called weighed bytes 0 cause.TooLarge

-- Up to `spot` the text has the tokens `before`, and there it has a fault. So it has no tokens.
pub record IsRefusedAt (bytes : Bytes) (at : ℕ) (why : LexCause) : Type 0 where
  pub before : List Placed
  pub light : weight before ≤ weight_limit
  pub spot : Spot
  pub leads : Leads (start bytes) before spot
  pub len : ℕ
  pub place : at ≡ spot.at + len
  pub fault : Fault spot.called (weight before) spot.rest len why
  pub no_tokens : (ts : List Placed) → IsTokens bytes ts → ⊥
