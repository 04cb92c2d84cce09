-- What the devices write.
use Rattle.std.specs.Prelude.{ℕ, zero, suc, ◌+◌, nat_le, if◌then◌else◌, pos, Bool, true, false, List, [], ◌∷◌, ◌++◌, Option, Some, None, option_map, codes, encode_utf8}
use Rattle.std.specs.Fmt.{signed_decimal}
use lib.Utf8.{scalar}
use Rattle.hum_meaning.specs.Value.{Parts, Atom, Undefined, Nil, Truth, Number, Symbol, Actor, Value, Plain, Pair, Function, Block, Primitive}

-- ---- texts of values

abbrev pub atom_text : Atom → List ℕ
atom_text Undefined = codes "?"
atom_text Nil = codes "NIL"
atom_text (Truth true) = codes "TRUE"
atom_text (Truth false) = codes "FALSE"
atom_text (Number n) = signed_decimal n
atom_text (Symbol name) = codes "#" ++ name
atom_text (Actor n) = codes "@"

module _ {L : Parts} where
  -- a value's text; `inside` tells that it stands along the right spine of a pair
  abbrev pub text_of : (inside : Bool) → Value L → List ℕ
  text_of inside (Plain a) = atom_text a
  text_of false (Pair a b) = codes "(" ++ text_of false a ++ codes ", " ++ text_of true b ++ codes ")"
  text_of true (Pair a b) = text_of false a ++ codes ", " ++ text_of true b
  text_of inside (Function f env) = codes "\\"
  text_of inside (Block b env) = codes "[]"
  text_of inside (Primitive b) = codes "\\"

  -- how many leaves a value has, as a tree of pairs
  abbrev pub leaves : Value L → ℕ
  leaves (Pair a b) = leaves a + leaves b
  leaves _ = 1

-- a device takes values of so many leaves
abbrev pub most_leaves : ℕ
most_leaves = 65536

-- ---- what is said

module _ {L : Parts} where
  -- a character in front of the rest
  abbrev pub spoken : Value L → Option (List ℕ) → Option (List ℕ)
  spoken (Plain (Number (pos n))) rest = if scalar n then option_map (λ bytes. encode_utf8 n ++ bytes) rest else None
  spoken _ rest = None

  -- the UTF-8 of a list of Unicode scalar values that NIL ends
  abbrev pub speech : Value L → Option (List ℕ)
  speech (Plain Nil) = Some []
  speech (Pair v rest) = spoken v (speech rest)
  speech _ = None

-- ---- the devices

-- bytes, and a line feed
abbrev pub line : List ℕ → List ℕ
line bytes = bytes ++ 10 ∷ []

module _ {L : Parts} where
  -- `println` writes a value's text, and `say` the characters of a list; there is no other device
  abbrev pub device_text : (device : ℕ) → Value L → Option (List ℕ)
  device_text zero v = Some (text_of false v)
  device_text (suc zero) v = speech v
  device_text (suc (suc n)) v = None

  -- the bytes that a device writes for a value, or none where it refuses: device 0 is `println`, and 1 is `say`
  unfoldable pub piece : (device : ℕ) → Value L → Option (List ℕ)
  piece device v = if nat_le (leaves v) most_leaves then option_map line (device_text device v) else None
