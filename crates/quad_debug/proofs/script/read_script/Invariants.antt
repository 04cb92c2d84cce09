use Rattle.std.proofs.Common.{◌≡◌, ◌≤◌, ◌+◌, ◌++◌, length}
use Rattle.quad_debug.specs.Script.{commands_of}
use Rattle.quad_debug.proofs.Reading.{bad_from}
use Rattle.quad_debug.proofs.script.read_script.Given as goal

abbrev pub invariant-lines : goal.invariant-lines
invariant-lines l = record {
  same : l.commands.items ++ commands_of l.rest ≡ commands_of l.bytes;
  bad : bad_from l.number l.rest ≡ bad_from 1 l.bytes;
  within : l.number + length l.rest ≤ length l.bytes + 1;
}

abbrev pub decreases-lines : goal.decreases-lines
decreases-lines l = length l.rest
