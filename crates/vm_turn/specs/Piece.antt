-- What the devices write.
use Rattle.std.specs.Prelude.{ℕ, zero, suc, ◌+◌, nat_eq, nat_lt, nat_le, if◌then◌else◌, pos, Bool, true, false, ◌&&◌, ◌||◌, List, [], ◌∷◌, ◌++◌, Option, Some, None, option_map, codes, encode_utf8}
use Rattle.std.specs.Fmt.{signed_decimal}
use Rattle.cap_words.specs.declared.word.Quad.{Quad}
use Rattle.cap_words.specs.Words.{W, Fix, Rom, Ram, Cap, same_word, nil, symbol_t, func_t, block_t}
use Rattle.cap_words.specs.Seen.{Seen, cell_seen}
use Rattle.cap_words.specs.Text.{is_run}
use Rattle.instr_table.specs.Lists.{pair_in}
use Rattle.instr_table.specs.Types.{Shown, Readable, AnActor, ASponsor, look_up}

-- ---- a word unfolded

-- a pair of two trees, or a word that names no pair
pub data Tree : Type 0 where
  Leaf : W → Tree
  Fork : Tree → Tree → Tree

-- how many leaves a tree has
abbrev pub leaves : Tree → ℕ
leaves (Leaf w) = 1
leaves (Fork a b) = leaves a + leaves b

-- a device takes trees of so many leaves
abbrev pub most_leaves : ℕ
most_leaves = 65536

-- a pair of two trees, where both are there
abbrev pub forked : Option Tree → Option Tree → Option Tree
forked None b = None
forked (Some a) None = None
forked (Some a) (Some b) = Some (Fork a b)

-- the tree of a word over pairs; none where it has more than n levels
unfoldable pub tree_to : Seen → ℕ → W → Option Tree
tree_to s zero w = None
tree_to s (suc n) w = elim (pair_in (cell_seen s w)) [
  | None ↦ Some (Leaf w)
  | Some q ↦ forked (tree_to s n q.x) (tree_to s n q.y)
]

-- a tree that is not too large
abbrev pub small : Option Tree → Option Tree
small None = None
small (Some t) = if nat_le (leaves t) most_leaves then Some t else None

-- the tree of a word, where it is a finite one that is not too large: such a tree has no more levels than leaves
abbrev pub tree : Seen → W → Option Tree
tree s w = small (tree_to s most_leaves w)

-- ---- texts of words

-- the number in front of the rest of a list
abbrev pub before : W → Option (List ℕ) → Option (List ℕ)
before (Fix (pos n)) rest = option_map (λ ns. n ∷ ns) rest
before w rest = None

-- the numbers of a list that ends with `#nil`; none where it is longer than n, or holds anything else
unfoldable pub numbers_to : Seen → ℕ → W → Option (List ℕ)
numbers_to s zero w = if same_word w nil then Some [] else None
numbers_to s (suc n) w = elim (pair_in (cell_seen s w)) [
  | None ↦ if same_word w nil then Some [] else None
  | Some q ↦ before q.x (numbers_to s n q.y)
]

-- a symbol's name after `#`, where its bytes are a run
abbrev pub symbol_text : Option (List ℕ) → List ℕ
symbol_text None = codes "^"
symbol_text (Some name) = if is_run name then codes "#" ++ name else codes "^"

-- a cell that is no pair, by its first word
abbrev pub cell_text : Seen → Quad → List ℕ
cell_text s q =
    if same_word q.t symbol_t then symbol_text (numbers_to s 128 q.x) else
    if same_word q.t func_t then codes "\\" else
    if same_word q.t block_t then codes "[]" else codes "^"

-- a word that shows nothing
abbrev pub plain_text : W → List ℕ
plain_text (Fix n) = signed_decimal n
plain_text (Rom n) =
    if nat_eq n 0 then codes "?" else
    if nat_eq n 1 then codes "NIL" else
    if nat_eq n 2 then codes "FALSE" else
    if nat_eq n 3 then codes "TRUE" else codes "^"
plain_text (Ram n) = codes "^"
plain_text (Cap n) = codes "^"

-- the text of a word that names no pair, over what it shows
abbrev pub shown_text : Seen → Option Shown → W → List ℕ
shown_text s None w = plain_text w
shown_text s (Some (Readable q)) w = cell_text s q
shown_text s (Some AnActor) w = codes "@"
shown_text s (Some ASponsor) w = codes "^"

-- a tree's text; `inside` tells that it stands along the right spine of a pair
abbrev pub tree_text : Seen → (inside : Bool) → Tree → List ℕ
tree_text s inside (Leaf w) = shown_text s (look_up s w) w
tree_text s false (Fork a b) = codes "(" ++ tree_text s false a ++ codes ", " ++ tree_text s true b ++ codes ")"
tree_text s true (Fork a b) = tree_text s false a ++ codes ", " ++ tree_text s true b

-- ---- what is said

-- the number is that of a Unicode scalar value
abbrev pub is_scalar : ℕ → Bool
is_scalar n = nat_lt n 55296 || (nat_le 57344 n && nat_lt n 1114112)

-- a character in front of the rest
abbrev pub spoken : W → Option (List ℕ) → Option (List ℕ)
spoken (Fix (pos n)) rest = if is_scalar n then option_map (λ bytes. encode_utf8 n ++ bytes) rest else None
spoken w rest = None

-- the UTF-8 of a list of scalar values that ends with `#nil`
abbrev pub speech : Tree → Option (List ℕ)
speech (Leaf w) = if same_word w nil then Some [] else None
speech (Fork (Leaf w) rest) = spoken w (speech rest)
speech (Fork (Fork a b) rest) = None

-- ---- the devices

-- bytes, and a line feed
abbrev pub line : List ℕ → List ℕ
line bytes = bytes ++ 10 ∷ []

-- what `println` writes for a tree
abbrev pub printed : Seen → Option Tree → Option (List ℕ)
printed s None = None
printed s (Some t) = Some (line (tree_text s false t))

-- what `say` writes for a tree
abbrev pub said : Option Tree → Option (List ℕ)
said None = None
said (Some t) = option_map line (speech t)

-- the bytes that a device writes for a word, or none where it refuses: device 0 is `println`, and 1 is `say`; there is no other device
unfoldable pub piece : ℕ → Seen → W → Option (List ℕ)
piece zero s w = printed s (tree s w)
piece (suc zero) s w = said (tree s w)
piece (suc (suc n)) s w = None
