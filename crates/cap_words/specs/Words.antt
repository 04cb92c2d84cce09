-- Words: a fixnum, or the number of a quad of ROM, of RAM, or of RAM that only the machine may open.
use Rattle.std.specs.Prelude.{ℕ, ◌+◌, ◌-◌, ◌^◌, ◌<◌, ◌≤◌, nat_lt, nat_le, nat_eq, if◌then◌else◌, ℤ, pos, negsuc, Bool, true, false, ◌||◌, Option, Some, None, ◌⊎◌}
use Rattle.std.specs.Ordering.{int_eq}
use Rattle.cap_words.specs.declared.word.Kind.{Kind}
use Rattle.cap_words.specs.declared.word.Kind.TheVariants.{Fix as FixKind, Const as ConstKind, Rom as RomKind, Ram as RamKind, Cap as CapKind}

-- each word has one spelling here; the ROM numbers below 16 are the constants
pub data W : Type 0 where
  Fix : ℤ → W
  Rom : ℕ → W
  Ram : ℕ → W
  Cap : ℕ → W

-- the bits that spell a word: those with the two highest ones 0 and 1 do so only where the third is 1
abbrev pub IsWord : ℕ → Type 0
IsWord b = (b < 2 ^ 32) × ((b < 2 ^ 30) ⊎ (2 ^ 30 + 2 ^ 29 ≤ b))

-- the word that these bits spell
abbrev pub word_of : ℕ → W
word_of b =
    if nat_lt b (2 ^ 29) then Rom b else
    if nat_lt b (2 ^ 30) then Ram (b - 2 ^ 29) else
    if nat_lt b (2 ^ 31) then Cap (b - (2 ^ 30 + 2 ^ 29)) else
    if nat_lt b (2 ^ 31 + 2 ^ 30) then Fix (pos (b - 2 ^ 31)) else
    Fix (negsuc (2 ^ 32 - 1 - b))

-- the bits of a word
abbrev pub bits_of : W → ℕ
bits_of (Fix (pos n)) = 2 ^ 31 + n
bits_of (Fix (negsuc n)) = 2 ^ 32 - 1 - n
bits_of (Rom n) = n
bits_of (Ram n) = 2 ^ 29 + n
bits_of (Cap n) = 2 ^ 30 + 2 ^ 29 + n

-- the bits that name a fixnum, a constant or a ROM quad
abbrev pub is_rom_bits : ℕ → Bool
is_rom_bits b = nat_lt b (2 ^ 29) || nat_le (2 ^ 31) b

-- the number of a fixnum
abbrev pub number_of : W → Option ℤ
number_of (Fix n) = Some n
number_of (Rom n) = None
number_of (Ram n) = None
number_of (Cap n) = None

-- the number of the quad that a word names
abbrev pub place_of : W → Option ℕ
place_of (Fix n) = None
place_of (Rom n) = Some n
place_of (Ram n) = Some n
place_of (Cap n) = Some n

-- the kind of a word
abbrev pub kind_of : W → Kind
kind_of (Fix n) = FixKind
kind_of (Rom n) = if nat_lt n 16 then ConstKind else RomKind
kind_of (Ram n) = RamKind
kind_of (Cap n) = CapKind

-- whether two words are the same
abbrev pub same_word : W → W → Bool
same_word (Fix m) (Fix n) = int_eq m n
same_word (Rom m) (Rom n) = nat_eq m n
same_word (Ram m) (Ram n) = nat_eq m n
same_word (Cap m) (Cap n) = nat_eq m n
same_word v w = false

-- the constants
abbrev pub undef : W
undef = Rom 0

abbrev pub nil : W
nil = Rom 1

abbrev pub truth : Bool → W
truth false = Rom 2
truth true = Rom 3

abbrev pub type_t : W
type_t = Rom 4

abbrev pub fixnum_t : W
fixnum_t = Rom 5

abbrev pub actor_t : W
actor_t = Rom 6

abbrev pub sponsor_t : W
sponsor_t = Rom 7

abbrev pub event_t : W
event_t = Rom 8

abbrev pub instr_t : W
instr_t = Rom 9

abbrev pub pair_t : W
pair_t = Rom 10

abbrev pub dict_t : W
dict_t = Rom 11

abbrev pub deque_t : W
deque_t = Rom 12

abbrev pub symbol_t : W
symbol_t = Rom 13

abbrev pub func_t : W
func_t = Rom 14

abbrev pub block_t : W
block_t = Rom 15
