use Rattle.std.proofs.Common.{◌≡◌, ◌++◌}
use Rattle.hum_command.specs.Chain.{forwarders}
use Rattle.hum_command.proofs.chain.push_forwarders.Given as goal

abbrev pub invariant-loop-k : goal.invariant-loop-k
invariant-loop-k l = l.text.items ≡ l.fn.text.items ++ forwarders l.k
