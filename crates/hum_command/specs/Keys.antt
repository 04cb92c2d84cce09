-- The keys of a run: words `KEY=N`.
use Rattle.std.specs.Prelude.{◌≡◌, ℕ, ◌≤◌, ◌+◌, ◌*◌, ◌-◌, nat_le, nat_eq, Bool, true, not, ◌&&◌, if◌then◌else◌, List, [], ◌∷◌, length, drop, codes, Option, None, Some, is_some, unwrap_or}
use Rattle.std.specs.Option.{option_or}
use Rattle.std.specs.Char.{is_ascii_digit}
use Rattle.std.specs.List.{list_any, starts_with}
use Rattle.vm_sponsor.specs.Grant.{is_grant}
use Rattle.hum_command.specs.declared.keys.Key.{Key}
use Rattle.hum_command.specs.declared.keys.Key.TheVariants.{Memory, Events, Cycles, Lanes, Seed, Bound}
use Rattle.hum_command.specs.declared.keys.Keys.{Keys}

-- what stands before a key's number
abbrev pub front_of : Key → List ℕ
front_of Memory = codes "memory="
front_of Events = codes "events="
front_of Cycles = codes "cycles="
front_of Lanes = codes "lanes="
front_of Seed = codes "seed="
front_of Bound = codes "bound="

-- the numbers that a key takes
abbrev pub takes : Key → ℕ → Bool
takes Memory n = nat_le n 16777216
takes Events n = nat_le n 4194304
takes Cycles n = nat_le n 1073741823
takes Lanes n = nat_le 1 n && nat_le n 64
takes Seed n = true
takes Bound n = true

-- the number that digits say behind those that said n, if it is below 2 to the 32
abbrev pub number_from : ℕ → List ℕ → Option ℕ
number_from n [] = Some n
number_from n (d ∷ ds) =
    if is_ascii_digit d && nat_le (10 * n + (d - 48)) 4294967295 then number_from (10 * n + (d - 48)) ds else None

-- the number of 1 to 10 digits
abbrev pub number_of : List ℕ → Option ℕ
number_of digits = if nat_le 1 (length digits) && nat_le (length digits) 10 then number_from 0 digits else None

abbrev pub passing : (ℕ → Bool) → Option ℕ → Option ℕ
passing takes None = None
passing takes (Some n) = if takes n then Some n else None

-- the number that a word gives a key, if it does
abbrev pub number_for : Key → List ℕ → Option ℕ
number_for key word =
    if starts_with nat_eq word (front_of key) then passing (takes key) (number_of (drop (length (front_of key)) word)) else None

-- the number that the first word gives a key that gives it one
abbrev pub number_in : Key → List (List ℕ) → Option ℕ
number_in key [] = None
number_in key (word ∷ words) = option_or (number_for key word) (number_in key words)

-- the keys of a run
abbrev pub run_keys : List Key
run_keys = Memory ∷ Events ∷ Cycles ∷ Lanes ∷ Seed ∷ Bound ∷ []

-- those of `debug`
abbrev pub debug_keys : List Key
debug_keys = Memory ∷ Events ∷ Cycles ∷ Lanes ∷ Seed ∷ []

-- a word gives a number to a key that these words give none
abbrev pub is_new : List ℕ → List (List ℕ) → Key → Bool
is_new word words key = is_some (number_for key word) && not (is_some (number_in key words))

-- a word gives one of these keys its number, the first one
abbrev pub gives_one : List Key → List ℕ → List (List ℕ) → Bool
gives_one allowed word words = list_any (is_new word words) allowed

-- each word gives one of these keys its number, and no key gets two
abbrev pub are_keys : List Key → List (List ℕ) → Bool
are_keys allowed [] = true
are_keys allowed (word ∷ words) = gives_one allowed word words && are_keys allowed words

-- the number that words give a key, or else its default
abbrev pub number_or : Key → List (List ℕ) → ℕ → ℕ
number_or key words default = unwrap_or (number_in key words) default

-- the keys are within the limits of a machine
pub record WithinLimits (keys : Keys) : Type 0 where
  pub granted : is_grant keys.memory keys.events keys.cycles ≡ true
  pub some_lanes : 1 ≤ keys.lanes
  pub lanes_limit : keys.lanes ≤ 64

-- the keys that words give, in any order, where only these are allowed; a key that they do not give has its default
abbrev pub keys_of : List Key → List (List ℕ) → Option Keys
keys_of allowed words = if are_keys allowed words then Some (record {
  memory = number_or Memory words 1048576;
  events = number_or Events words 65536;
  cycles = number_or Cycles words 16777216;
  lanes = number_or Lanes words 1;
  seed = number_or Seed words 0;
  bound = number_in Bound words;
}) else None
