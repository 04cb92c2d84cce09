-- What a call leaves as it was.
use Rattle.std.specs.Prelude.{◌≡◌, ℕ, ◌<◌, ◌≤◌, List, [], ◌∷◌, length, slice_get, ◌⊎◌}
use Rattle.cap_words.specs.Words.{W, Cap}
use Rattle.cap_words.specs.Store.{Store}

-- the word is in the list
abbrev pub Among : W → List W → Type 0
Among w [] = ⊥
Among w (v ∷ vs) = (w ≡ v) ⊎ Among w vs

-- every quad of the first store but those that these words name is in the second as it was; more may be taken
pub record Framed (s t : Store) (ws : List W) : Type 0 where
  pub rom_is : t.rom ≡ s.rom
  pub grows : length s.ram ≤ length t.ram
  pub rest : (n : ℕ) → n < length s.ram → (Among (Cap n) ws → ⊥) → slice_get t.ram n ≡ slice_get s.ram n
