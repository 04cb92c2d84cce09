-- Lists of quads that are linked by their last words: events by their `next`, actors that are not committed by their mark.
use Rattle.std.specs.Prelude.{◌≡◌, ℕ, zero, suc, ◌+◌, nat_eq, if◌then◌else◌, List, [], ◌∷◌, length, Option, Some, None}
use Rattle.cap_words.specs.declared.word.Quad.{Quad}
use Rattle.cap_words.specs.Words.{W, nil}
use Rattle.vm_effects.specs.declared.chain.Chain.{Chain}

abbrev pub link_in : Option Quad → W
link_in None = nil
link_in (Some q) = q.z

-- the words from this one on, by the links of the quads that they name
abbrev pub walk : (W → Option Quad) → ℕ → W → List W
walk look zero w = []
walk look (suc n) w = w ∷ walk look n (link_in (look w))

abbrev pub first_or : List W → W
first_or [] = nil
first_or (w ∷ ws) = w

abbrev pub last_from : W → List W → W
last_from w [] = w
last_from w (v ∷ vs) = last_from v vs

abbrev pub last_or : List W → W
last_or ws = last_from nil ws

-- each word names a quad that is linked to the next one's, and the last one's to none
abbrev pub Chained : (W → Option Quad) → List W → Type 0
Chained look [] = Unit {0}
Chained look (w ∷ ws) = (q : Quad) × (look w ≡ Some q) × (q.z ≡ first_or ws) × Chained look ws

-- the first word and the number of the words are those of this chain
pub record IsListed (look : W → Option Quad) (count : ℕ) (first : W) (ws : List W) : Type 0 where
  pub chained : Chained look ws
  pub first_is : first ≡ first_or ws
  pub count_is : count ≡ length ws

-- the same, and the last word
pub record IsChain (look : W → Option Quad) (c : Chain) (ws : List W) : Type 0 where
  pub listed : IsListed look c.count c.first ws
  pub last_is : c.last ≡ last_or ws

-- the words of a chain
abbrev pub words_of : (W → Option Quad) → Chain → List W
words_of look c = walk look c.count c.first

-- the chain with one word more at its end
abbrev pub extended : Chain → W → Chain
extended c w = record { first = if nat_eq c.count 0 then w else c.first; last = w; count = c.count + 1 }
