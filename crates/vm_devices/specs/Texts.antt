-- What is written for a word.
use Rattle.std.specs.Prelude.{◌≡◌, ℕ, if◌then◌else◌, pos, negsuc, Bool, true, false, List, [], ◌++◌, Option, Some, None, codes}
use Rattle.std.specs.Option.{unwrap_or}
use Rattle.cap_words.specs.Words.{W, Fix, Rom, Ram, Cap}
use Rattle.cap_words.specs.Seen.{Seen}
use Rattle.cap_words.specs.Text.{is_run_byte, is_run}
use Rattle.instr_table.specs.Types.{look_up}
use Rattle.vm_turn.specs.Piece.{Tree, Leaf, tree, leaves, shown_text, tree_text, is_scalar, speech}

-- ---- trees

-- the tree that is there, or else a leaf
abbrev pub tree_or_leaf : Option Tree → W → Tree
tree_or_leaf None w = Leaf w
tree_or_leaf (Some t) w = t

-- the tree of a word, where it is a finite one that is not too large
unfoldable pub tree_of : Seen → W → Tree
tree_of s w = tree_or_leaf (tree s w) w

-- the word's tree is a finite one that is not too large
pub record IsSmall (s : Seen) (w : W) : Type 0 where
  pub tree_is : tree s w ≡ Some (tree_of s w)

-- how many leaves it has
unfoldable pub leaves_of : Seen → W → ℕ
leaves_of s w = leaves (tree_of s w)

-- ---- texts

-- the text of a word that names no pair
unfoldable pub leaf_text : Seen → W → List ℕ
leaf_text s w = shown_text s (look_up s w) w

-- the text of a word
unfoldable pub text_of : Seen → W → List ℕ
text_of s w = tree_text s false (tree_of s w)

-- what stands in front of a pair: along the right spine of another one, nothing
abbrev pub opening : (inside : Bool) → List ℕ
opening true = []
opening false = codes "("

-- what stands behind the last item of a pair
abbrev pub closing : (inside : Bool) → List ℕ
closing true = codes ")"
closing false = []

-- a word that names no pair; along the right spine of a pair it is the last item
abbrev pub item_text : Seen → (inside : Bool) → W → List ℕ
item_text s inside w = leaf_text s w ++ closing inside

-- ---- names of symbols

-- the byte of a run that a word is the number of
abbrev pub run_byte_of : W → Option ℕ
run_byte_of (Fix (pos n)) = if is_run_byte n then Some n else None
run_byte_of (Fix (negsuc n)) = None
run_byte_of (Rom n) = None
run_byte_of (Ram n) = None
run_byte_of (Cap n) = None

-- the bytes that are a run
abbrev pub run_of : Option (List ℕ) → Option (List ℕ)
run_of None = None
run_of (Some bytes) = if is_run bytes then Some bytes else None

-- ---- lists of characters

-- the character that a word is the number of
abbrev pub scalar_of : W → Option ℕ
scalar_of (Fix (pos n)) = if is_scalar n then Some n else None
scalar_of (Fix (negsuc n)) = None
scalar_of (Rom n) = None
scalar_of (Ram n) = None
scalar_of (Cap n) = None

-- what a word says in UTF-8, where it is a list of characters
unfoldable pub speech_of : Seen → W → Option (List ℕ)
speech_of s w = speech (tree_of s w)

-- these bytes, and none where it is no such list
unfoldable pub speech_text : Seen → W → List ℕ
speech_text s w = unwrap_or (speech_of s w) []
