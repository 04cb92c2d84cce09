-- What tokens are made of: runs, numbers, keywords, names and texts.
use Rattle.std.specs.Prelude.{ℕ, ◌+◌, ◌-◌, ◌*◌, ℤ, pos, negsuc, neg_ℤ, int_le, Bool, not, ◌&&◌, ◌||◌, if◌then◌else◌, ◌==◌, nat_le, nat_lt, nat_eq, List, [], ◌∷◌, length, Option, is_none, codes, encode_utf8}
use Rattle.std.specs.Char.{is_ascii_digit}
use Rattle.std.specs.List.{list_all, list_any, flat_map, find}
use Rattle.std.specs.Str.{bytes_eq}
use lib.Utf8.{scalar}
use Rattle.hum_syntax.specs.declared.keyword.Keyword.{Keyword}
use Rattle.hum_syntax.specs.declared.keyword.Keyword.TheVariants as w

abbrev pub Bytes : Type 0
Bytes = List ℕ

-- ---- bytes

-- space, tab, carriage return and line feed
abbrev pub is_blank : ℕ → Bool
is_blank b = b == 32 || b == 9 || b == 13 || b == 10

-- the bytes that end a run: ( ) [ ] , . = : " $ \ #
abbrev pub is_delimiter : ℕ → Bool
is_delimiter b = list_any (nat_eq b) (codes "()[],.=:\"$\\#")

-- a byte of a run
abbrev pub is_run_byte : ℕ → Bool
is_run_byte b = nat_le 33 b && nat_le b 126 && not (is_delimiter b)

-- a run that is not too long
abbrev pub is_run : Bytes → Bool
is_run run = nat_lt 0 (length run) && nat_le (length run) 128 && list_all is_run_byte run

-- ---- numbers

-- what stands behind a sign, if there is one
abbrev pub digits_of : Bytes → Bytes
digits_of [] = []
digits_of (b ∷ bs) = if b == 43 || b == 45 then bs else b ∷ bs

-- digits with at most one sign before them
abbrev pub is_number : Bytes → Bool
is_number run = nat_lt 0 (length (digits_of run)) && list_all is_ascii_digit (digits_of run)

-- what decimal digits say, behind those that said n
abbrev pub value_from : ℕ → Bytes → ℕ
value_from n [] = n
value_from n (d ∷ ds) = value_from (10 * n + (d - 48)) ds

-- the number that a run of digits says, with its sign
abbrev pub number_of : Bytes → ℤ
number_of [] = pos 0
number_of (b ∷ bs) = let size = pos (value_from 0 (digits_of (b ∷ bs))) in if b == 45 then neg_ℤ size else size

-- from -1073741824 to 1073741823
abbrev pub is_in_range : ℤ → Bool
is_in_range z = int_le (negsuc 1073741823) z && int_le z (pos 1073741823)

-- ---- keywords and names

-- how a keyword is written
abbrev pub word_of : Keyword → Bytes
word_of w.KwLet = codes "LET"
word_of w.KwSend = codes "SEND"
word_of w.KwTo = codes "TO"
word_of w.KwCreate = codes "CREATE"
word_of w.KwWith = codes "WITH"
word_of w.KwBecome = codes "BECOME"
word_of w.KwThrow = codes "THROW"
word_of w.KwNew = codes "NEW"
word_of w.KwSelf = codes "SELF"
word_of w.KwCase = codes "CASE"
word_of w.KwOf = codes "OF"
word_of w.KwEnd = codes "END"
word_of w.KwIf = codes "IF"
word_of w.KwElif = codes "ELIF"
word_of w.KwElse = codes "ELSE"
word_of w.KwTrue = codes "TRUE"
word_of w.KwFalse = codes "FALSE"
word_of w.KwNil = codes "NIL"
word_of w.KwAfter = codes "AFTER"
word_of w.KwIn = codes "IN"

abbrev pub keywords : List Keyword
keywords =
    w.KwLet ∷ w.KwSend ∷ w.KwTo ∷ w.KwCreate ∷ w.KwWith ∷ w.KwBecome ∷ w.KwThrow ∷ w.KwNew ∷ w.KwSelf ∷ w.KwCase
    ∷ w.KwOf ∷ w.KwEnd ∷ w.KwIf ∷ w.KwElif ∷ w.KwElse ∷ w.KwTrue ∷ w.KwFalse ∷ w.KwNil ∷ w.KwAfter ∷ w.KwIn ∷ []

-- the keyword that a run is
abbrev pub keyword_of : Bytes → Option Keyword
keyword_of run = find (λ word. bytes_eq run (word_of word)) keywords

abbrev pub is_wildcard : Bytes → Bool
is_wildcard run = bytes_eq run (codes "_")

abbrev pub is_undefined : Bytes → Bool
is_undefined run = bytes_eq run (codes "?")

-- a run that is nothing else
abbrev pub is_name : Bytes → Bool
is_name run = is_run run && not (is_number run) && is_none (keyword_of run) && not (is_wildcard run) && not (is_undefined run)

-- ---- texts

-- a code point that a text may hold
abbrev pub is_point : ℕ → Bool
is_point c = c == 9 || c == 10 || (nat_le 32 c && not (c == 127) && scalar c)

abbrev pub is_text : List ℕ → Bool
is_text cs = list_all is_point cs

-- how a text writes a code point: four of them behind a `\`, all others in UTF-8
abbrev pub point_bytes : ℕ → Bytes
point_bytes c =
    if c == 10 then codes "\\n" else (if c == 9 then codes "\\t" else (if c == 34 then codes "\\\"" else (if c == 92 then codes "\\\\" else encode_utf8 c)))

abbrev pub text_bytes : List ℕ → Bytes
text_bytes = flat_map point_bytes
