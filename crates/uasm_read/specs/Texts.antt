-- What a text is made of: lines, their parts, names and numbers.
use Rattle.std.specs.Prelude.{ℕ, ◌+◌, ◌-◌, ◌*◌, ℤ, pos, neg_ℤ, Bool, not, ◌&&◌, ◌||◌, if◌then◌else◌, ◌==◌, false, nat_le, nat_lt, List, [], ◌∷◌, length, take, filter, slice_index, Option, Some, None, codes}
use Rattle.std.specs.Char.{is_ascii_digit}
use Rattle.std.specs.List.{list_all, list_any, slice_split, position_from}
use Rattle.std.specs.Str.{bytes_eq}
use Rattle.cap_words.specs.Fixnums.{in_range}

abbrev pub Bytes : Type 0
Bytes = List ℕ

abbrev pub Name : Type 0
Name = Bytes

-- ---- lines and parts

abbrev pub is_line_feed : ℕ → Bool
is_line_feed b = b == 10

-- space and tab
abbrev pub is_blank : ℕ → Bool
is_blank b = b == 32 || b == 9

-- what begins a comment
abbrev pub is_semicolon : ℕ → Bool
is_semicolon b = b == 59

abbrev pub is_ascii : ℕ → Bool
is_ascii b = nat_lt b 128

-- the last byte, and the bytes before it
abbrev pub last_byte : Bytes → ℕ
last_byte bs = slice_index bs (length bs - 1)

abbrev pub before_last_byte : Bytes → Bytes
before_last_byte bs = take (length bs - 1) bs

-- a line without the carriage return at its end
abbrev pub without_return : Bytes → Bytes
without_return line = if last_byte line == 13 then before_last_byte line else line

-- a carriage return before a line feed is a blank; the last line has no line feed
abbrev pub without_returns : List Bytes → List Bytes
without_returns [] = []
without_returns (last ∷ []) = last ∷ []
without_returns (line ∷ next ∷ lines) = without_return line ∷ without_returns (next ∷ lines)

-- the lines of a text
unfoldable pub lines_of : Bytes → List Bytes
lines_of text = without_returns (slice_split is_line_feed text)

-- the parts that blanks separate
unfoldable pub parts_of : Bytes → List Bytes
parts_of line = filter (λ part. not (length part == 0)) (slice_split is_blank line)

-- ---- names

-- a letter or `_`
abbrev pub is_letter : ℕ → Bool
is_letter b = (nat_le 97 b && nat_le b 122) || (nat_le 65 b && nat_le b 90) || b == 95

abbrev pub is_name_byte : ℕ → Bool
is_name_byte b = is_letter b || is_ascii_digit b

-- a letter or `_`, then letters, digits and `_`, at most 128 bytes
unfoldable pub is_name : Bytes → Bool
is_name [] = false
is_name (b ∷ bs) = is_letter b && list_all is_name_byte bs && nat_le (length (b ∷ bs)) 128

abbrev pub has_name : List Name → Name → Bool
has_name names name = list_any (bytes_eq name) names

-- ---- words

-- what stands behind a sign, if there is one
abbrev pub digits_of : Bytes → Bytes
digits_of [] = []
digits_of (b ∷ bs) = if b == 45 then bs else b ∷ bs

-- one or more digits with at most one `-` before them, at most 128 bytes
abbrev pub is_decimal : Bytes → Bool
is_decimal part = nat_lt 0 (length (digits_of part)) && list_all is_ascii_digit (digits_of part) && nat_le (length part) 128

-- what decimal digits say, behind those that said n
abbrev pub value_from : ℕ → Bytes → ℕ
value_from n [] = n
value_from n (d ∷ ds) = value_from (10 * n + (d - 48)) ds

-- the number that a decimal says
abbrev pub decimal_value : Bytes → ℤ
decimal_value part = let size = pos (value_from 0 (digits_of part)) in if slice_index part 0 == 45 then neg_ℤ size else size

-- the number of a fixnum, if the part is one
unfoldable pub fixnum_of : Bytes → Option ℤ
fixnum_of part = if is_decimal part && in_range (decimal_value part) then Some (decimal_value part) else None

-- the constants' names, from number 0 on
abbrev pub constant_names : Bytes
constant_names = codes "#? #nil #f #t #type_t #fixnum_t #actor_t #sponsor_t #event_t #instr_t #pair_t #dict_t #deque_t #symbol_t #func_t #block_t"

-- which of these words the part is, counted from 0
unfoldable pub place_of : Bytes → Bytes → Option ℕ
place_of part words = position_from (bytes_eq part) 0 (parts_of words)
