use Rattle.std.proofs.Common.{◌≡◌, ◌++◌, ◌-◌, drop, reverse, length}
use Rattle.hum_emit.proofs.shapes.wait.Given as goal

abbrev pub invariant-loop-i : goal.invariant-loop-i
invariant-loop-i l = l.waiting.items ≡ l.fn.waiting.items ++ reverse (drop (length l.found - l.i) l.found)
