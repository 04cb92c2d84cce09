-- In which order messages finish.
use Rattle.std.specs.Prelude.{◌≡◌, ℕ, suc, ◌<◌, ◌≤◌, List, [], ◌∷◌}
use Rattle.hum_meaning.specs.Value.{Parts}
use Rattle.hum_meaning.specs.Deliver.{Message, Configuration}
use Rattle.hum_meaning.specs.Language.{Language}
use Rattle.hum_meaning.specs.After.{Entry, Follows}
use Rattle.hum_core.specs.Likeness.{IsPending}

-- It is the message's turn: no message to its target is pending with a less number; with one lane, no message at all.
pub record IsItsTurn {L : Parts} (lanes : ℕ) (c : Configuration L) (m : Message L) : Type 0 where
  pub to_its_target : (number : ℕ) → IsPending c number m.target → m.number ≤ number
  pub of_all : lanes ≡ 1 → (number target : ℕ) → IsPending c number target → m.number ≤ number

module _ {L : Parts} (language : Language L) where
  -- The journal is legal: each of its entries ends a message whose turn it is.
  abbrev pub IsLegal : (lanes : ℕ) (c : Configuration L) (journal : List Entry) (d : Configuration L) → Follows language c journal d → Type 0
  IsLegal lanes c [] d f = Unit {0}
  IsLegal lanes c (e ∷ more) d f = IsItsTurn lanes c f.1.message × IsLegal lanes f.0 more d f.2

  -- ---- what that comes to for the whole journal

  -- each of these entries whose message is to that actor has a number above n
  abbrev pub LaterOnesAreGreater : (n actor : ℕ) (c : Configuration L) (journal : List Entry) (d : Configuration L) → Follows language c journal d → Type 0
  LaterOnesAreGreater n actor c [] d f = Unit {0}
  LaterOnesAreGreater n actor c (e ∷ more) d f = (f.1.message.target ≡ actor → n < e.message) × LaterOnesAreGreater n actor f.0 more d f.2

  -- messages to one target finish in the order of their numbers
  abbrev pub InOrderOfNumbers : (c : Configuration L) (journal : List Entry) (d : Configuration L) → Follows language c journal d → Type 0
  InOrderOfNumbers c [] d f = Unit {0}
  InOrderOfNumbers c (e ∷ more) d f = LaterOnesAreGreater e.message f.1.message.target f.0 more d f.2 × InOrderOfNumbers f.0 more d f.2

-- the messages of these entries have the numbers k, k + 1 and so on
abbrev pub NumberedFrom : ℕ → List Entry → Type 0
NumberedFrom k [] = Unit {0}
NumberedFrom k (e ∷ more) = (e.message ≡ k) × NumberedFrom (suc k) more
