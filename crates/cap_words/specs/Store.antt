-- A store: the cells of the image, and the RAM quads in the order in which they were taken.
use Rattle.std.specs.Prelude.{ℕ, ◌+◌, ◌-◌, nat_lt, if◌then◌else◌, List, ◌++◌, length, Bool, true, false, Option, Some, None, slice_get, slice_set}
use Rattle.cap_words.specs.declared.word.Quad.{Quad}
use Rattle.cap_words.specs.declared.word.Tag.{Tag}
use Rattle.cap_words.specs.declared.word.Tag.TheVariants.{Ordinary, Actor, Event, SponsorHeld, SponsorSpent}
use Rattle.cap_words.specs.Words.{W, Fix, Rom, Ram, Cap}

-- a RAM quad: what it was taken for, and its words
pub record Cell : Type 0 where
  pub tag : Tag
  pub words : Quad

pub record Store : Type 0 where
  pub rom : List Quad
  pub ram : List Cell

-- whether two quads were taken for the same
abbrev pub same_tag : Tag → Tag → Bool
same_tag Ordinary Ordinary = true
same_tag Actor Actor = true
same_tag Event Event = true
same_tag SponsorHeld SponsorHeld = true
same_tag SponsorSpent SponsorSpent = true
same_tag t u = false

-- the words of a quad, where it was taken for this
abbrev pub tagged : Tag → Option Cell → Option Quad
tagged tag None = None
tagged tag (Some c) = if same_tag c.tag tag then Some c.words else None

-- the ROM quad of that number; the constants have none
abbrev pub rom_cell : List Quad → ℕ → Option Quad
rom_cell rom n = if nat_lt n 16 then None else slice_get rom (n - 16)

-- the quad that a program reads under a word, or none
abbrev pub cell : Store → W → Option Quad
cell s (Fix n) = None
cell s (Rom n) = rom_cell s.rom n
cell s (Ram n) = tagged Ordinary (slice_get s.ram n)
cell s (Cap n) = None

-- the quad that an opaque word names, where it was taken for this
abbrev pub opaque_cell : Store → Tag → W → Option Quad
opaque_cell s tag (Fix n) = None
opaque_cell s tag (Rom n) = None
opaque_cell s tag (Ram n) = None
opaque_cell s tag (Cap n) = tagged tag (slice_get s.ram n)

-- the second quad of the sponsor that an opaque word names
abbrev pub spent_cell : Store → W → Option Quad
spent_cell s (Fix n) = None
spent_cell s (Rom n) = None
spent_cell s (Ram n) = None
spent_cell s (Cap n) = tagged SponsorSpent (slice_get s.ram (n + 1))

-- how many RAM quads are taken
abbrev pub used : Store → ℕ
used s = length s.ram

-- the store after these quads were taken
abbrev pub taken : Store → List Cell → Store
taken s cells = record s { ram = s.ram ++ cells }

-- the store after the quad of that number was changed
abbrev pub changed : Store → ℕ → Cell → Store
changed s n c = record s { ram = slice_set s.ram n c }

-- a quad that was taken for this
abbrev pub cell_as : Tag → Quad → Cell
cell_as tag words = record { tag = tag; words = words }

-- the number of the quad that an opaque word names
abbrev pub cap_place : W → ℕ
cap_place (Fix n) = 0
cap_place (Rom n) = 0
cap_place (Ram n) = 0
cap_place (Cap n) = n
