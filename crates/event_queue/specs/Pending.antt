-- What callers see of the queue.
use Rattle.std.specs.Prelude.{ℕ, suc, ◌<◌, ◌≤◌, nat_eq, nat_le, if◌then◌else◌, List, [], ◌∷◌, ◌++◌, length, get_or, Option, Some, None}
use Rattle.cap_words.specs.Words.{W, undef}

-- the event of each message, by number; the numbers of the ready messages; and how many messages there may be
pub record Pending : Type 0 where
  pub given : List W
  pub ready : List ℕ
  pub room : ℕ

-- the event of a message, `#?` where the number was not given
abbrev pub event_of : List W → ℕ → W
event_of given n = get_or given n undef

-- the numbers from n on, one for each event
abbrev pub numbers_from : ℕ → List W → List ℕ
numbers_from n [] = []
numbers_from n (w ∷ ws) = n ∷ numbers_from (suc n) ws

-- these events get the next numbers, and are ready
abbrev pub appended : Pending → List W → Pending
appended q ws = record q { given = q.given ++ ws; ready = q.ready ++ numbers_from (length q.given) ws }

-- the numbers but this one
abbrev pub without : ℕ → List ℕ → List ℕ
without n [] = []
without n (m ∷ ms) = if nat_eq m n then without n ms else m ∷ without n ms

-- the first of the numbers that is no less than this one
abbrev pub first_from : ℕ → List ℕ → Option ℕ
first_from low [] = None
first_from low (n ∷ ns) = if nat_le low n then Some n else first_from low ns

-- where a walk goes on after a number; after none it begins
abbrev pub walks_from : Option ℕ → ℕ
walks_from None = 0
walks_from (Some n) = suc n

-- each number is less than the next one, and all lie from low to below high
abbrev pub IsAscending : ℕ → ℕ → List ℕ → Type 0
IsAscending low high [] = Unit {0}
IsAscending low high (n ∷ ns) = (low ≤ n) × (n < high) × IsAscending (suc n) high ns
