-- The forms of the words.
use Rattle.std.specs.Prelude.{ℕ, ◌≤◌, ◌&&◌, ◌==◌, nat_le, not, Bool, List, [], ◌∷◌, length, map, codes, Option, None, Some, if◌then◌else◌, option_map, string_bytes}
use Rattle.std.specs.List.{list_all}
use Rattle.std.specs.Str.{bytes_eq}
use Rattle.hum_command.specs.Keys.{number_of, passing, keys_of, run_keys, debug_keys, WithinLimits}
use Rattle.hum_command.specs.declared.keys.Keys.{Keys}
use Rattle.hum_command.specs.declared.words.Command.{Command}
use Rattle.hum_command.specs.declared.words.Command.TheVariants as command

-- What the words ask for: a text is run; code is listed; modules are linked; an image or a module is run; a machine obeys a script; the text
-- of a chain of so many actors is run.
pub data Request : Type 0 where
  Run : List ℕ → Keys → Request
  Asm : List ℕ → Request
  Link : List (List ℕ) → Request
  Exec : List ℕ → Keys → Request
  Debug : List ℕ → List ℕ → Keys → Request
  Chain : ℕ → Keys → Request

-- a FILE is not empty
abbrev pub is_file : List ℕ → Bool
is_file name = not (length name == 0)

-- `link FILE FILE ..`, of 1 to 64 files
abbrev pub link_of : List (List ℕ) → Option Request
link_of names = if nat_le 1 (length names) && nat_le (length names) 64 && list_all is_file names then Some (Link names) else None

-- `asm FILE`
abbrev pub asm_of : List (List ℕ) → Option Request
asm_of [] = None
asm_of (name ∷ []) = if is_file name then Some (Asm name) else None
asm_of (name ∷ word ∷ words) = None

-- `run FILE KEYS`
abbrev pub run_of : List (List ℕ) → Option Request
run_of [] = None
run_of (name ∷ keys) = if is_file name then option_map (Run name) (keys_of run_keys keys) else None

-- `exec FILE KEYS`
abbrev pub exec_of : List (List ℕ) → Option Request
exec_of [] = None
exec_of (name ∷ keys) = if is_file name then option_map (Exec name) (keys_of run_keys keys) else None

-- `debug FILE SCRIPT KEYS`, without `bound`
abbrev pub debug_of : List (List ℕ) → Option Request
debug_of [] = None
debug_of (name ∷ []) = None
debug_of (name ∷ script ∷ keys) =
    if is_file name && is_file script then option_map (Debug name script) (keys_of debug_keys keys) else None

-- the actors of a chain
abbrev pub is_chain : ℕ → Bool
is_chain n = nat_le 1 n && nat_le n 2000

abbrev pub chain_with : Option ℕ → List (List ℕ) → Option Request
chain_with None keys = None
chain_with (Some n) keys = option_map (Chain n) (keys_of run_keys keys)

-- `chain N KEYS`
abbrev pub chain_of : List (List ℕ) → Option Request
chain_of [] = None
chain_of (number ∷ keys) = chain_with (passing is_chain (number_of number)) keys

-- what the words ask for; other words have no form
abbrev pub request_of : List (List ℕ) → Option Request
request_of [] = None
request_of (word ∷ words) =
    if bytes_eq word (codes "run") then run_of words else
    if bytes_eq word (codes "asm") then asm_of words else
    if bytes_eq word (codes "link") then link_of words else
    if bytes_eq word (codes "exec") then exec_of words else
    if bytes_eq word (codes "debug") then debug_of words else
    if bytes_eq word (codes "chain") then chain_of words else None

-- the numbers are within their limits
abbrev pub KeysFit : Request → Type 0
KeysFit (Run name keys) = WithinLimits keys
KeysFit (Asm name) = Unit {0}
KeysFit (Link names) = Unit {0}
KeysFit (Exec name keys) = WithinLimits keys
KeysFit (Debug name script keys) = WithinLimits keys
KeysFit (Chain n keys) = (1 ≤ n) × (n ≤ 2000) × WithinLimits keys

-- the request of a command
abbrev pub request : Command → Request
request (command.Run name keys) = Run name.now keys
request (command.Asm name) = Asm name.now
request (command.Link names) = Link (map string_bytes names.now)
request (command.Exec name keys) = Exec name.now keys
request (command.Debug name script keys) = Debug name.now script.now keys
request (command.Chain n keys) = Chain n keys
