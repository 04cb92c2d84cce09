-- The limits of a grant.
use Rattle.std.specs.Prelude.{ℕ, nat_le, Bool, ◌&&◌}

-- quads, events and cycles that may be granted
abbrev pub is_grant : ℕ → ℕ → ℕ → Bool
is_grant memory events cycles = nat_le memory 16777216 && nat_le events 4194304 && nat_le cycles 1073741823
