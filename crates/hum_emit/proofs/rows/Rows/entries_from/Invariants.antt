use Rattle.std.proofs.Common.{◌≡◌, ◌++◌, map}
use Rattle.hum_emit.specs.Shaping.{kind_of}
use Rattle.hum_emit.specs.Rowing.{shape_at}
use Rattle.hum_emit.proofs.rows.Rows.entries_from.Given as goal

abbrev pub invariant-loop-next : goal.invariant-loop-next
invariant-loop-next l = map kind_of l.entries.items ++ shape_at l.self l.next ≡ shape_at l.self l.fn.top

abbrev pub decreases-loop-next : goal.decreases-loop-next
decreases-loop-next l = l.next
