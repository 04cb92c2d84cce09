-- Which tokens a text has.
use Rattle.std.specs.Prelude.{◌≡◌, ℕ, ◌+◌, ◌<◌, ◌≤◌, Bool, true, false, not, if◌then◌else◌, ◌==◌, List, [], ◌∷◌, ◌++◌, length, Option, Some, None}
use Rattle.std.specs.List.{list_all}
use Rattle.hum_syntax.specs.declared.keyword.Keyword.TheVariants as w
use Rattle.hum_syntax.specs.declared.token.TokenKind.{TokenKind}
use Rattle.hum_syntax.specs.declared.token.TokenKind.TheVariants as k
use Rattle.hum_syntax.specs.Forms.{Bytes, is_blank, is_run_byte, is_in_range, is_text, text_bytes}
use Rattle.hum_syntax.specs.Kinds.{kind_of_run}
use Rattle.hum_syntax.specs.Tokens.{Placed, placed, is_callee, weight, weight_limit}

-- the bytes end here, or go on with one that passes
abbrev pub ends_or : (ℕ → Bool) → Bytes → Bool
ends_or test [] = true
ends_or test (b ∷ bs) = test b

abbrev pub is_line_feed : ℕ → Bool
is_line_feed b = b == 10

-- ---- what a token's bytes say

-- the bytes are a whole run, where the rest follows
pub record IsWholeRun (run rest : Bytes) : Type 0 where
  pub some : 0 < length run
  pub each : list_all is_run_byte run ≡ true
  pub maximal : ends_or (λ b. not (is_run_byte b)) rest ≡ true

-- a number out of range
abbrev pub is_large : TokenKind → Bool
is_large (k.Number z) = not (is_in_range z)
is_large _ = false

-- a keyword that has no rule
abbrev pub is_reserved : TokenKind → Bool
is_reserved (k.Keyword w.KwAfter) = true
is_reserved (k.Keyword w.KwIn) = true
is_reserved _ = false

-- the token of one byte that is no run, no `#` and no `"`; `called` says whether a name, `)` or `]` ends directly before
abbrev pub mark_of : Bool → ℕ → Option TokenKind
mark_of called b =
    if b == 40 then Some (if called then k.CallParen else k.ParenLeft) else (if b == 41 then Some k.ParenRight
    else (if b == 91 then Some k.SquareLeft else (if b == 93 then Some k.SquareRight
    else (if b == 44 then Some k.Comma else (if b == 46 then Some k.Dot
    else (if b == 61 then Some k.Equals else (if b == 58 then Some k.Colon
    else (if b == 36 then Some k.Dollar else (if b == 92 then Some k.Backslash else None)))))))))

-- The bytes are a token's, of this kind, where the rest follows.
pub data Stands (called : Bool) : Bytes → Bytes → TokenKind → Type 0 where
  run : {us rest : Bytes} → IsWholeRun us rest → length us ≤ 128 → is_large (kind_of_run us) ≡ false → is_reserved (kind_of_run us) ≡ false
      → Stands called us rest (kind_of_run us)
  -- behind a `#`
  symbol : {us rest : Bytes} → IsWholeRun us rest → length us ≤ 128 → Stands called (35 ∷ us) rest (k.Symbol us)
  -- between two `"`
  text : {cs : List ℕ} {rest : Bytes} → is_text cs ≡ true → Stands called (34 ∷ text_bytes cs ++ 34 ∷ []) rest (k.Text cs)
  mark : {b : ℕ} {rest : Bytes} {kind : TokenKind} → mark_of called b ≡ Some kind → Stands called (b ∷ []) rest kind

-- ---- what stands between tokens

-- Behind a `#` the line is a comment's, up to a line feed or the end of the text: a blank stands first, if anything does.
pub record IsComment (line rest : Bytes) : Type 0 where
  pub apart : ends_or is_blank (line ++ rest) ≡ true
  pub one_line : list_all (λ b. not (is_line_feed b)) line ≡ true
  pub whole : ends_or is_line_feed rest ≡ true

-- ---- from place to place

-- a place in a text: what ends directly before it, and the bytes from it on
pub record Spot : Type 0 where
  pub called : Bool
  pub at : ℕ
  pub rest : Bytes

abbrev pub spot : Bool → ℕ → Bytes → Spot
spot called at rest = record { called = called; at = at; rest = rest }

-- One blank, comment or token leads from one place to another.
pub data Step (s : Spot) : List Placed → Spot → Type 0 where
  blank : {b : ℕ} {rest : Bytes} → s.rest ≡ b ∷ rest → is_blank b ≡ true → Step s [] (spot false (s.at + 1) rest)
  comment : {line rest : Bytes} → s.rest ≡ 35 ∷ line ++ rest → IsComment line rest → Step s [] (spot false (s.at + length (35 ∷ line)) rest)
  token : {us rest : Bytes} {kind : TokenKind} → s.rest ≡ us ++ rest → Stands s.called us rest kind
      → Step s (placed kind s.at (s.at + length us) ∷ []) (spot (is_callee kind) (s.at + length us) rest)

-- These tokens lead from one place to another, with blanks and comments before, between and after them.
pub data Leads : Spot → List Placed → Spot → Type 0 where
  here : {s : Spot} → Leads s [] s
  step : {s m e : Spot} {us vs : List Placed} → Step s us m → Leads m vs e → Leads s (us ++ vs) e

-- the place at which a text begins
abbrev pub start : Bytes → Spot
start bytes = spot false 0 bytes

-- The text has these tokens.
abbrev pub Lexes : Bytes → List Placed → Type 0
Lexes bytes ts = (e : Spot) × Leads (start bytes) ts e × (e.rest ≡ [])

-- The text has these tokens, and they are not too heavy.
pub record IsTokens (bytes : Bytes) (ts : List Placed) : Type 0 where
  pub lexes : Lexes bytes ts
  pub light : weight ts ≤ weight_limit
