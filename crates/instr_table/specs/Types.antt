-- What a program can tell of a word.
use Rattle.std.specs.Prelude.{◌≡◌, nat_lt, if◌then◌else◌, ℤ, pos, Bool, true, false, ◌&&◌, ◌||◌, Option, Some, None, option_map}
use Rattle.cap_words.specs.declared.word.Quad.{Quad}
use Rattle.cap_words.specs.Words.{W, Fix, Rom, Ram, Cap, same_word, number_of, undef, type_t, fixnum_t, actor_t, sponsor_t, func_t, block_t}
use Rattle.cap_words.specs.Seen.{Seen, Slot, OpenSlot, ActorSlot, UnbornSlot, EventSlot, SponsorSlot, SpentSlot, cell_seen, slot_seen}
use Rattle.instr_table.specs.Code.{within}

-- what a program can tell of a quad: its words, or that it is an actor or a sponsor
pub data Shown : Type 0 where
  Readable : Quad → Shown
  AnActor : Shown
  ASponsor : Shown

-- actors that are not committed are actors too; no program has the word of an event
abbrev pub opaque_in : Option Slot → Option Shown
opaque_in None = None
opaque_in (Some (OpenSlot q)) = None
opaque_in (Some (ActorSlot code state mark)) = Some AnActor
opaque_in (Some UnbornSlot) = Some AnActor
opaque_in (Some (EventSlot sponsor target message)) = None
opaque_in (Some SponsorSlot) = Some ASponsor
opaque_in (Some SpentSlot) = None

-- what a word shows: once it shows something it always shows this
unfoldable pub look_up : Seen → W → Option Shown
look_up s (Fix n) = None
look_up s (Rom n) = option_map Readable (cell_seen s (Rom n))
look_up s (Ram n) = option_map Readable (cell_seen s (Ram n))
look_up s (Cap n) = opaque_in (slot_seen s (Cap n))

-- a store that shows all that another one does
pub record Grows (s t : Seen) : Type 0 where
  pub keeps : (w : W) (x : Shown) → look_up s w ≡ Some x → look_up t w ≡ Some x

-- the type of a word that names nothing: fixnums, and the constants from 4 on
abbrev pub plain_type : W → Option W
plain_type (Fix n) = Some fixnum_t
plain_type (Rom n) = if nat_lt n 4 then None else if nat_lt n 16 then Some type_t else None
plain_type (Ram n) = None
plain_type (Cap n) = None

-- the type of a word that shows this: a cell's first word, whatever else stands in it
abbrev pub type_in : Option Shown → W → Option W
type_in (Some (Readable q)) w = Some q.t
type_in (Some AnActor) w = Some actor_t
type_in (Some ASponsor) w = Some sponsor_t
type_in None w = plain_type w

-- the type of a word, or none
abbrev pub type_of : Seen → W → Option W
type_of s w = type_in (look_up s w) w

-- whether it is this type
abbrev pub is_type : Option W → W → Bool
is_type None t = false
is_type (Some u) t = same_word u t

-- whether an actor is shown; a cell whose first word is `#actor_t` is none
abbrev pub shows_actor : Option Shown → Bool
shows_actor None = false
shows_actor (Some (Readable q)) = false
shows_actor (Some AnActor) = true
shows_actor (Some ASponsor) = false

-- whether a sponsor is shown
abbrev pub shows_sponsor : Option Shown → Bool
shows_sponsor None = false
shows_sponsor (Some (Readable q)) = false
shows_sponsor (Some AnActor) = false
shows_sponsor (Some ASponsor) = true

-- whether a word names an actor
abbrev pub is_actor : Seen → W → Bool
is_actor s w = shows_actor (look_up s w)

-- whether a word names a sponsor
abbrev pub is_sponsor : Seen → W → Bool
is_sponsor s w = shows_sponsor (look_up s w)

-- the number is one of fields
abbrev pub is_arity : Option ℤ → Bool
is_arity None = false
is_arity (Some n) = within (pos 0) (pos 3) n

-- a type's cell has a number of fields and nothing else
abbrev pub is_type_cell : Option Quad → Bool
is_type_cell None = false
is_type_cell (Some q) = same_word q.t type_t && is_arity (number_of q.x) && same_word q.y undef && same_word q.z undef

-- a program's own types stand in its image
abbrev pub is_own_type : Seen → W → Bool
is_own_type s (Fix n) = false
is_own_type s (Rom n) = is_type_cell (cell_seen s (Rom n))
is_own_type s (Ram n) = false
is_own_type s (Cap n) = false

-- the types of the cells that `quad` makes
abbrev pub is_makeable : Seen → W → Bool
is_makeable s t = same_word t func_t || same_word t block_t || is_own_type s t
