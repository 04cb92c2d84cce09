-- Lists of words.
use Rattle.std.specs.Prelude.{◌≡◌, ℕ, List, [], ◌∷◌, Some, slice_get}
use Rattle.cap_words.specs.Words.{W}

-- no word is there twice
pub record Distinct (ws : List W) : Type 0 where
  pub once : (i j : ℕ) (w : W) → slice_get ws i ≡ Some w → slice_get ws j ≡ Some w → i ≡ j

-- values pushed on a stack, the first one first
abbrev pub pushed_on : List W → List W → List W
pushed_on vs [] = vs
pushed_on vs (x ∷ xs) = pushed_on (x ∷ vs) xs
