-- Runs of visible bytes.
use Rattle.std.specs.Prelude.{ℕ, nat_eq, nat_le, Bool, not, ◌&&◌, List, length, codes}
use Rattle.std.specs.List.{list_all, list_any}

-- a byte of ASCII that is neither blank nor control
abbrev pub is_visible : ℕ → Bool
is_visible b = nat_le 33 b && nat_le b 126

-- the bytes that a name may have: 1 to 128 visible ones
abbrev pub is_name : List ℕ → Bool
is_name bytes = nat_le 1 (length bytes) && nat_le (length bytes) 128 && list_all is_visible bytes

-- whether a byte has a meaning of its own in a text of the language
abbrev pub is_delimiter : ℕ → Bool
is_delimiter b = list_any (λ d. nat_eq d b) (codes "()[],.=:\"$\\#")

-- a byte of a run: a visible one that is no delimiter
abbrev pub is_run_byte : ℕ → Bool
is_run_byte b = is_visible b && not (is_delimiter b)

-- a run: 1 to 128 of these bytes
abbrev pub is_run : List ℕ → Bool
is_run bytes = nat_le 1 (length bytes) && nat_le (length bytes) 128 && list_all is_run_byte bytes
