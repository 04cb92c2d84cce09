-- Where bytes, tokens and names stand in a text.
use Rattle.std.specs.Prelude.{◌≡◌, ℕ, ◌+◌, ◌-◌, nat_lt, Bool, true, false, not, if◌then◌else◌, List, [], ◌∷◌, ◌++◌, length, take, count_by, filter, Option, slice_get}
use Rattle.std.specs.List.{suffix_len}
use Rattle.std.specs.Option.{option_map, option_map_or}
use Rattle.hum_syntax.specs.declared.token.TokenKind.{TokenKind}
use Rattle.hum_syntax.specs.declared.token.TokenKind.TheVariants as k
use Rattle.hum_syntax.specs.Forms.{Bytes}
use Rattle.hum_syntax.specs.Tokens.{Placed}
use Rattle.hum_syntax.specs.Lexes.{is_line_feed, IsWholeRun, Stands}

-- ---- lines and columns

-- The line and the column behind some bytes: one more than the line feeds among them, and one more than the bytes behind the last of these.
abbrev pub place_behind : Bytes → ℕ × ℕ
place_behind front = (count_by is_line_feed front + 1, suffix_len (λ b. not (is_line_feed b)) front + 1)

-- where the last byte stands
abbrev pub last_place : Bytes → ℕ × ℕ
last_place bytes = place_behind (take (length bytes - 1) bytes)

-- The line and the column of a byte, which are counted from 1, the column in bytes. The end of a text is one column behind its last byte,
-- also where that is a line feed.
abbrev pub line_column : Bytes → ℕ → ℕ × ℕ
line_column [] at = (1, 1)
line_column (b ∷ bs) at =
    if nat_lt at (length (b ∷ bs)) then place_behind (take at (b ∷ bs)) else ((last_place (b ∷ bs)).0, (last_place (b ∷ bs)).1 + 1)

-- ---- tokens

-- The token's bytes stand in the text at its place.
pub record TokenAt (bytes : Bytes) (t : Placed) : Type 0 where
  pub front : Bytes
  pub run : Bytes
  pub rest : Bytes
  pub split : bytes ≡ front ++ (run ++ rest)
  pub from : t.from ≡ length front
  pub to : t.to ≡ t.from + length run
  pub called : Bool
  pub stands : Stands called run rest t.kind

-- the first byte of the token of that number, counted from 0, or the end of the text where there is none
abbrev pub token_place : Bytes → List Placed → ℕ → ℕ
token_place bytes ts n = option_map_or (λ t. t.from) (slice_get ts n) (length bytes)

-- ---- names

abbrev pub is_name_kind : TokenKind → Bool
is_name_kind (k.Name name) = true
is_name_kind _ = false

-- the tokens that are names, in order
abbrev pub name_tokens : List Placed → List Placed
name_tokens = filter (λ t. is_name_kind t.kind)

-- the first byte of the name of that number among the names of a text, counted from 0
abbrev pub name_place : List Placed → ℕ → Option ℕ
name_place ts n = option_map (λ t. t.from) (slice_get (name_tokens ts) n)

-- The name stands in the text at this place, and no byte of a run follows it.
pub record NameAt (bytes : Bytes) (at : ℕ) (name : Bytes) : Type 0 where
  pub front : Bytes
  pub rest : Bytes
  pub split : bytes ≡ front ++ (name ++ rest)
  pub place : at ≡ length front
  pub whole : IsWholeRun name rest
