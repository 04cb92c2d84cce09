-- What an event does while its body runs: it gathers effects and spends steps, and gives a result, fails, or is undecided.
use Rattle.std.specs.Prelude.{ℕ, zero, suc, ◌+◌, List, [], ◌∷◌, ◌++◌, length, Option, Some, None}
use Rattle.hum_meaning.specs.Value.{Parts, Value}

-- what is gathered: the behaviours of the actors created, the messages sent, each a target's number and a value, and the next behaviour
pub record Effects (L : Parts) : Type 0 where
  pub created : List (Value L)
  pub sent : List (ℕ × Value L)
  pub next : Option (Value L)

abbrev pub no_effects : {L : Parts} → Effects L
no_effects = record { created = []; sent = []; next = None }

-- a result with the effects and the steps left, a failure with its code and the number of sends gathered, or undecided, where the steps do
-- not suffice
pub data Outcome (L : Parts) (A : Type 0) : Type 0 where
  Gives : A → Effects L → (left : ℕ) → Outcome L A
  Fails : (code sends : ℕ) → Outcome L A
  Undecided : Outcome L A

-- from the effects gathered so far and the steps left to an outcome
abbrev pub Action : Parts → Type 0 → Type 0
Action L A = Effects L → (left : ℕ) → Outcome L A

-- ---- one after the other

abbrev pub and_then : {L : Parts} {A B : Type 0} → Outcome L A → (A → Action L B) → Outcome L B
and_then (Gives a effects left) f = f a effects left
and_then (Fails code sends) f = Fails code sends
and_then Undecided f = Undecided

infixl 10 ◌>>=◌
abbrev pub ◌>>=◌ : {L : Parts} {A B : Type 0} → Action L A → (A → Action L B) → Action L B
p >>= f = λ effects left. and_then (p effects left) f

infixl 10 ◌>>◌
abbrev pub ◌>>◌ : {L : Parts} {A B : Type 0} → Action L A → Action L B → Action L B
p >> q = p >>= (λ _. q)

abbrev pub pure : {L : Parts} {A : Type 0} → A → Action L A
pure a = λ effects left. Gives a effects left

-- ---- failures

-- a failure keeps nothing of the effects but the number of sends
abbrev pub fail : {L : Parts} {A : Type 0} → (code : ℕ) → Action L A
fail code = λ effects left. Fails code (length effects.sent)

abbrev pub no_match : ℕ
no_match = 1

abbrev pub not_a_function : ℕ
not_a_function = 2

abbrev pub not_an_actor : ℕ
not_an_actor = 3

abbrev pub not_a_number : ℕ
not_a_number = 4

abbrev pub not_a_truth_value : ℕ
not_a_truth_value = 5

abbrev pub second_become : ℕ
second_become = 6

abbrev pub thrown : ℕ
thrown = 7

abbrev pub device_refused : ℕ
device_refused = 8

-- ---- steps

abbrev pub spend : {L : Parts} → Effects L → (left : ℕ) → Outcome L (Unit {0})
spend effects zero = Undecided
spend effects (suc left) = Gives tt effects left

-- one step
abbrev pub step : {L : Parts} → Action L (Unit {0})
step = λ effects left. spend effects left

abbrev pub undecided : {L : Parts} {A : Type 0} → Action L A
undecided = λ effects left. Undecided

-- ---- effects

-- gathers an actor with that behaviour, and gives its number: the k-th actor created, from 0, has the number base + k
abbrev pub create : {L : Parts} → (base : ℕ) → Value L → Action L ℕ
create base v = λ effects left. Gives (base + length effects.created) (record effects { created = effects.created ++ v ∷ [] }) left

-- gathers a message to the actor of that number
abbrev pub send : {L : Parts} → (target : ℕ) → Value L → Action L (Unit {0})
send target v = λ effects left. Gives tt (record effects { sent = effects.sent ++ (target, v) ∷ [] }) left

abbrev pub becoming : {L : Parts} → Option (Value L) → Value L → Action L (Unit {0})
becoming None v = λ effects left. Gives tt (record effects { next = Some v }) left
becoming (Some w) v = fail second_become

-- gathers the next behaviour, once
abbrev pub become : {L : Parts} → Value L → Action L (Unit {0})
become v = λ effects left. becoming effects.next v effects left
