-- What a program can get at from some words, and which words an instruction may come by.
use Rattle.std.specs.Prelude.{◌≡◌, ℕ, ◌+◌, ◌<◌, ◌≤◌, Bool, true, false, IsTrue, List, [], ◌∷◌, length, Option, Some, None, slice_get}
use Rattle.cap_words.specs.declared.word.Quad.{Quad}
use Rattle.cap_words.specs.Words.{W, Fix, Rom, Ram, Cap}
use Rattle.cap_words.specs.Seen.{Seen, Slot, OpenSlot, ActorSlot, UnbornSlot, EventSlot, SponsorSlot, SpentSlot, cell_seen}
use Rattle.cap_words.specs.Frame.{Among}
use Rattle.instr_table.specs.Lists.{next_quad}

-- each item of a list is so
abbrev pub Every : {A : Type 0} → (A → Type 0) → List A → Type 0
Every P [] = Unit {0}
Every P (x ∷ xs) = P x × Every P xs

-- the words of a cell
abbrev pub words_of : Quad → List W
words_of q = q.t ∷ q.x ∷ q.y ∷ q.z ∷ []

-- one of these words, or a word of the cell that such a word names
pub data Reached (s : Seen) (ws : List W) : W → Type 0 where
  given : {w : W} → Among w ws → Reached s ws w
  inside : {v w : W} {q : Quad} → Reached s ws w → cell_seen s w ≡ Some q → Among v (words_of q) → Reached s ws v

-- the word of an actor, a sponsor or an event
abbrev pub IsOpaque : W → Type 0
IsOpaque (Fix n) = ⊥
IsOpaque (Rom n) = ⊥
IsOpaque (Ram n) = ⊥
IsOpaque (Cap n) = Unit {0}

-- an opaque word that is got at from these words
abbrev pub Reach : Seen → List W → W → Type 0
Reach s ws w = IsOpaque w × Reached s ws w

-- fixnums and constants, which name nothing
abbrev pub IsPlain : W → Type 0
IsPlain (Fix n) = Unit {0}
IsPlain (Rom n) = n < 16
IsPlain (Ram n) = ⊥
IsPlain (Cap n) = ⊥

-- a word that an instruction may read: one that names nothing, or that is got at
pub data Got (s : Seen) (ws : List W) : W → Type 0 where
  plain : {w : W} → IsPlain w → Got s ws w
  reached : {w : W} → Reached s ws w → Got s ws w

-- whether a quad was taken for a new actor or a new sponsor
abbrev pub is_made : Option Slot → Bool
is_made None = false
is_made (Some (OpenSlot q)) = false
is_made (Some (ActorSlot code state mark)) = false
is_made (Some UnbornSlot) = true
is_made (Some (EventSlot sponsor target message)) = false
is_made (Some SponsorSlot) = true
is_made (Some SpentSlot) = false

-- a word that an instruction which takes these quads may hand on: one that it may read, that of a new cell, or that of a new actor or
-- sponsor
pub data Known (s : Seen) (made : List Slot) (ws : List W) : W → Type 0 where
  got : {w : W} → Got s ws w → Known s made ws w
  new : {n : ℕ} → next_quad s ≤ n → n < next_quad s + length made → Known s made ws (Ram n)
  made_now : {n : ℕ} (i : ℕ) → n ≡ next_quad s + i → IsTrue (is_made (slice_get made i)) → Known s made ws (Cap n)
