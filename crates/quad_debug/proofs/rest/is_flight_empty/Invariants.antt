use Rattle.std.proofs.Common.{◌≡◌, ℕ, ◌<◌, false}
use Rattle.vm_turn.specs.Turn.{is_in_flight}
use Rattle.quad_debug.proofs.rest.is_flight_empty.Given as goal

abbrev pub invariant-loop-message : goal.invariant-loop-message
invariant-loop-message l = (k : ℕ) → k < l.message → is_in_flight k l.machine.state.flight ≡ false
