use Rattle.std.proofs.Common.{◌≡◌, ◌-◌, map, drop, length}
use Rattle.hum_emit.specs.Shaping.{kind_of}
use Rattle.hum_emit.proofs.rows.Rows.fill.Given as goal

abbrev pub invariant-loop-i : goal.invariant-loop-i
invariant-loop-i l = l.shape ≡ map kind_of (drop (length l.entries.items - l.i) l.entries.items)
