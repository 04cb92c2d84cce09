use Rattle.std.proofs.Common.{◌≡◌, ◌≤◌, ◌++◌, List, length}
use Rattle.quad_debug.specs.declared.command.Command.{Command}
use Rattle.hum_command.specs.Debugging.{ObeysAll}
use Rattle.hum_command.proofs.debug.obey_all.Given as goal

abbrev pub invariant-loop-command : goal.invariant-loop-command
invariant-loop-command g l = record {
  obeyed : (before : List Command) × (l.commands ≡ before ++ l.rest) × ObeysAll before l.fn.debug l.debug (g.K.Sink.written l.fn.out) (g.K.Sink.written l.out);
  later : g.K.Sink.faults l.fn.out ≤ g.K.Sink.faults l.out;
}

abbrev pub decreases-loop-command : goal.decreases-loop-command
decreases-loop-command g l = length l.rest
