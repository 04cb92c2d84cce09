-- What the parser reads from, and the steps that every rule is made of.
use Rattle.std.specs.Prelude.{◌≡◌, ℕ, Bool, true, false, if◌then◌else◌, List, [], ◌∷◌, Option, Some, None, Result, Ok, Err}
use Rattle.hum_syntax.specs.declared.TokenKind.{TokenKind}
use Rattle.hum_syntax.specs.declared.TokenKind.TheVariants as k
use Rattle.hum_syntax.specs.declared.Keyword.TheVariants as w
use Rattle.hum_syntax.specs.Spells.{Kinds}
use Rattle.hum_parse.specs.declared.tokens.Stop.{Stop}
use Rattle.hum_parse.specs.declared.tokens.Stop.TheVariants.{NoMemory, Refused}
use Rattle.hum_parse.specs.declared.tokens.Mark.{Mark}
use Rattle.hum_parse.specs.declared.tokens.Mark.TheVariants as mark

-- a tree and what is left, or what is left where no tree can begin so
abbrev pub Outcome : Type 0 → Type 0
Outcome A = Result (A × Kinds) Kinds

abbrev pub Parser : Type 0 → Type 0
Parser A = Kinds → Outcome A

abbrev pub and_then : {A B : Type 0} → Outcome A → (A → Parser B) → Outcome B
and_then (Ok p) f = f p.0 p.1
and_then (Err rest) f = Err rest

infixl 10 ◌>>=◌
abbrev pub ◌>>=◌ : {A B : Type 0} → Parser A → (A → Parser B) → Parser B
p >>= f = λ i. and_then (p i) f

infixl 10 ◌>>◌
abbrev pub ◌>>◌ : {A B : Type 0} → Parser A → Parser B → Parser B
p >> q = p >>= (λ _. q)

abbrev pub pure : {A : Type 0} → A → Parser A
pure a = λ i. Ok (a, i)

abbrev pub refuse : {A : Type 0} → Parser A
refuse = λ i. Err i

abbrev pub stands : Mark → TokenKind
stands mark.To = k.Keyword w.KwTo
stands mark.With = k.Keyword w.KwWith
stands mark.Of = k.Keyword w.KwOf
stands mark.End = k.Keyword w.KwEnd
stands mark.Elif = k.Keyword w.KwElif
stands mark.Else = k.Keyword w.KwElse
stands mark.CallParen = k.CallParen
stands mark.ParenRight = k.ParenRight
stands mark.SquareLeft = k.SquareLeft
stands mark.SquareRight = k.SquareRight
stands mark.Comma = k.Comma
stands mark.Dot = k.Dot
stands mark.Equals = k.Equals
stands mark.Colon = k.Colon
stands mark.Backslash = k.Backslash

-- whether the token is this one
abbrev pub is : Mark → TokenKind → Bool
is mark.To (k.Keyword w.KwTo) = true
is mark.With (k.Keyword w.KwWith) = true
is mark.Of (k.Keyword w.KwOf) = true
is mark.End (k.Keyword w.KwEnd) = true
is mark.Elif (k.Keyword w.KwElif) = true
is mark.Else (k.Keyword w.KwElse) = true
is mark.CallParen k.CallParen = true
is mark.ParenRight k.ParenRight = true
is mark.SquareLeft k.SquareLeft = true
is mark.SquareRight k.SquareRight = true
is mark.Comma k.Comma = true
is mark.Dot k.Dot = true
is mark.Equals k.Equals = true
is mark.Colon k.Colon = true
is mark.Backslash k.Backslash = true
is _ _ = false

abbrev pub sees : Mark → Kinds → Bool
sees m [] = false
sees m (t ∷ ts) = is m t

abbrev pub next : Kinds → Kinds
next [] = []
next (t ∷ ts) = ts

abbrev pub expect : Mark → Parser (Unit {0})
expect m = λ i. if sees m i then Ok (tt, next i) else Err i

-- by whether this token comes next, which is then taken
abbrev pub either : {A : Type 0} → Mark → Parser A → Parser A → Parser A
either m p q = λ i. if sees m i then p (next i) else q i

abbrev pub after : Mark → Kinds → Kinds
after m i = if sees m i then next i else i

-- the name that comes next
abbrev pub named : Kinds → Option (List ℕ)
named (k.Name f ∷ ts) = Some f
named _ = None

abbrev pub on_name : {A : Type 0} → Option (List ℕ) → (List ℕ → Parser A) → Parser A → Parser A
on_name (Some f) p q = λ i. p f (next i)
on_name None p q = q

-- by whether a name comes next, which is then taken
abbrev pub either_name : {A : Type 0} → (List ℕ → Parser A) → Parser A → Parser A
either_name p q = λ i. on_name (named i) p q i

abbrev pub expect_name : Parser (List ℕ)
expect_name = either_name pure refuse

abbrev pub after_name : Kinds → Kinds
after_name (k.Name f ∷ ts) = ts
after_name ts = ts

-- what a function that parses ensures: the outcome, unless memory fails
abbrev pub Reads : {A : Type 0} → Outcome A → Result A Stop → Kinds → Type 0
Reads outcome (Ok a) new = outcome ≡ Ok (a, new)
Reads outcome (Err Refused) new = outcome ≡ Err new
Reads outcome (Err NoMemory) new = Unit {0}
