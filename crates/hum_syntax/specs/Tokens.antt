-- Tokens at their places, and their weight.
use Rattle.std.specs.Prelude.{ℕ, ◌+◌, Bool, true, false, List, [], ◌∷◌, length, map}
use Rattle.hum_syntax.specs.declared.token.TokenKind.{TokenKind}
use Rattle.hum_syntax.specs.declared.token.TokenKind.TheVariants as k
use Rattle.hum_syntax.specs.declared.token.Token.{Token}

-- a token, and the places of its first byte and of the byte after its last
pub record Placed : Type 0 where
  pub kind : TokenKind
  pub from : ℕ
  pub to : ℕ

abbrev pub placed : TokenKind → ℕ → ℕ → Placed
placed kind from to = record { kind = kind; from = from; to = to }

-- a value of the program's type, without the proof that it has its form
abbrev pub placed_of : Token → Placed
placed_of t = placed t.kind t.from t.to

abbrev pub all_placed : List Token → List Placed
all_placed = map placed_of

-- the tokens without their places
abbrev pub kinds_of : List Placed → List TokenKind
kinds_of = map (λ t. t.kind)

-- a token weighs 1, a symbol its name's bytes more, and a text its code points more
abbrev pub weight_of : TokenKind → ℕ
weight_of (k.Symbol run) = 1 + length run
weight_of (k.Text cs) = 1 + length cs
weight_of _ = 1

abbrev pub weight : List Placed → ℕ
weight [] = 0
weight (t ∷ ts) = weight_of t.kind + weight ts

-- what tokens weigh wherever they stand
abbrev pub weight_of_kinds : List TokenKind → ℕ
weight_of_kinds [] = 0
weight_of_kinds (k ∷ ks) = weight_of k + weight_of_kinds ks

-- the most that the tokens of a program weigh
abbrev pub weight_limit : ℕ
weight_limit = 16000

-- directly after such a token a parenthesis calls
abbrev pub is_callee : TokenKind → Bool
is_callee (k.Name run) = true
is_callee k.ParenRight = true
is_callee k.SquareRight = true
is_callee _ = false
