-- What the parts of the lexer answer.
use Rattle.std.specs.Prelude.{◌≡◌, ℕ, suc, ◌+◌, ◌<◌, ◌≤◌, Bool, true, false, not, ◌&&◌, if◌then◌else◌, ◌==◌, nat_le, List, [], ◌∷◌, ◌++◌, length, take, drop, Option, Some, None, Result, Ok, Err}
use Rattle.std.specs.Option.{option_map}
use Rattle.hum_syntax.specs.declared.TokenKind.{TokenKind}
use Rattle.hum_syntax.specs.Forms.{Bytes, is_run_byte, is_point, is_text, point_bytes, text_bytes}
use Rattle.hum_syntax.specs.Kinds.{is_carried}
use Rattle.hum_syntax.specs.Tokens.{weight_limit}
use Rattle.hum_syntax.specs.Lexes.{is_line_feed, is_large, is_reserved, Stands, spot, Step}
use Rattle.hum_lex.specs.declared.bytes.Class.{Class}
use Rattle.hum_lex.specs.declared.bytes.Class.TheVariants as class
use Rattle.hum_lex.specs.declared.error.LexCause.{LexCause}
use Rattle.hum_lex.specs.declared.error.LexCause.TheVariants as cause
use Rattle.hum_lex.specs.declared.error.LexError.{LexError}
use Rattle.hum_lex.specs.declared.error.LexError.TheVariants as error
use Rattle.hum_lex.specs.declared.front.Front.{Front}
use Rattle.hum_lex.specs.declared.front.Front.TheVariants as front
use Rattle.hum_lex.specs.declared.text.Inside.{Inside}
use Rattle.hum_lex.specs.declared.text.Inside.TheVariants as inside
use Rattle.hum_lex.specs.Faults.{BeginsNoPoint, Fault}

abbrev pub is_in : Class → ℕ → Bool
is_in class.Run b = is_run_byte b
is_in class.Line b = not (is_line_feed b)

-- ---- runs

-- a number, if it is at most 2 to the 30
abbrev pub up_to_limit : ℕ → Option ℕ
up_to_limit n = if nat_le n 1073741824 then Some n else None

-- what a run stands for, if it may stand in a text
abbrev pub allowed_kind : TokenKind → Result TokenKind LexCause
allowed_kind kind = if is_large kind then Err cause.NumberRange else (if is_reserved kind then Err cause.NotInProfile else Ok kind)

-- ---- texts

-- How many bytes stand before the quote that ends a text. `taken` says that a `\` takes the first byte.
abbrev pub closing : Bool → Bytes → Option ℕ
closing taken [] = None
closing true (b ∷ bs) = option_map suc (closing false bs)
closing false (b ∷ bs) = if b == 34 then Some 0 else option_map suc (closing (b == 92) bs)

-- the code point that stands behind a `\`
abbrev pub escaped : ℕ → Option ℕ
escaped b = if b == 110 then Some 10 else (if b == 116 then Some 9 else (if b == 34 then Some 34 else (if b == 92 then Some 92 else None)))

abbrev pub is_plain : ℕ → Bool
is_plain c = nat_le 32 c && not (c == 127) && not (c == 34) && not (c == 92)

-- the code point is written at the front, in so many bytes
pub record IsPointAt (bytes : Bytes) (c len : ℕ) : Type 0 where
  pub point : is_point c ≡ true
  pub more : Bytes
  pub split : bytes ≡ point_bytes c ++ more
  pub long : len ≡ length (point_bytes c)

-- behind the code points `cs`, which take `at` bytes, no code point is written
pub record IsBadAt (bytes : Bytes) (at : ℕ) : Type 0 where
  pub cs : List ℕ
  pub us : Bytes
  pub split : bytes ≡ text_bytes cs ++ us
  pub points : is_text cs ≡ true
  pub place : at ≡ length (text_bytes cs)
  pub some : 0 < length us
  pub no_point : BeginsNoPoint us

abbrev pub ReadsText : Bytes → Inside → Type 0
ReadsText bytes (inside.Text cs) = (bytes ≡ text_bytes cs) × (is_text cs ≡ true)
ReadsText bytes (inside.Bad at) = IsBadAt bytes at

-- ---- what stands at the front

pub record IsGap (called : Bool) (bytes : Bytes) (len : ℕ) : Type 0 where
  pub some : 0 < len
  pub within : len ≤ length bytes
  pub leads : (at : ℕ) → Step (spot called at bytes) [] (spot false (at + len) (drop len bytes))

pub record IsToken (called : Bool) (bytes : Bytes) (len : ℕ) (kind : TokenKind) : Type 0 where
  pub some : 0 < len
  pub within : len ≤ length bytes
  pub carried : is_carried kind ≡ true
  pub stands : Stands called (take len bytes) (drop len bytes) kind

pub record IsFault (called : Bool) (bytes : Bytes) (len : ℕ) (why : LexCause) : Type 0 where
  pub within : len < length bytes
  pub fault : (weighed : ℕ) → Fault called weighed bytes len why

abbrev pub Reads : Bool → Bytes → Front → Type 0
Reads called bytes (front.Gap len) = IsGap called bytes len
Reads called bytes (front.Token len kind) = IsToken called bytes len kind
Reads called bytes (front.Fault len why) = IsFault called bytes len why

-- whatever ends directly before
abbrev pub ReadsAnywhere : Bytes → Front → Type 0
ReadsAnywhere bytes f = (called : Bool) → Reads called bytes f

-- why a token that makes this weight is not added at its place
abbrev pub IsHeavy : ℕ → ℕ → LexError → Type 0
IsHeavy weighed at error.NoMemory = Unit {0}
IsHeavy weighed at (error.Refused why) = (why ≡ record { at = at; cause = cause.TooLarge }) × (weight_limit < weighed)
