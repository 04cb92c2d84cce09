use Rattle.std.proofs.Common.{◌≡◌, ◌-◌, take, length}
use Rattle.hum_emit.specs.Emitting.{emitted, through, front_statements}
use Rattle.hum_emit.proofs.statements.statements.Given as goal

abbrev pub invariant-loop-each : goal.invariant-loop-each
invariant-loop-each l = l.shape ≡ through (take l.each-index l.statements) l.fn.shape

abbrev pub invariant-loop-i : goal.invariant-loop-i
invariant-loop-i l =
    (l.shape ≡ through (take (length l.statements - l.i) l.statements) l.fn.shape)
    × (front_statements (take (length l.statements - l.i) l.statements) l.fn.shape l.at (emitted l.out)
    ≡ front_statements l.statements l.fn.shape l.initial.at (emitted l.initial.out))
