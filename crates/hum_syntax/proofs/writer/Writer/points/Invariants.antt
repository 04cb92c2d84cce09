use Rattle.std.proofs.Common.{◌≡◌, ◌++◌, length}
use Rattle.hum_syntax.specs.Forms.{text_bytes}
use Rattle.hum_syntax.proofs.writer.Writer.points.Given as goal

abbrev pub invariant-loop-rest : goal.invariant-loop-rest
invariant-loop-rest l = l.self ++ text_bytes l.rest ≡ l.fn.self ++ text_bytes l.points

abbrev pub decreases-loop-rest : goal.decreases-loop-rest
decreases-loop-rest l = length l.rest
