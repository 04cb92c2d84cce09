use Rattle.std.proofs.Common.{◌≡◌, drop}
use Rattle.event_queue.specs.Starts.{first_ready}
use Rattle.event_queue.proofs.queue.Queue.first_ready.Given as goal

abbrev pub invariant-loop-place : goal.invariant-loop-place
invariant-loop-place l = first_ready l.quads.store l.self.given l.self.ready ≡ first_ready l.quads.store l.self.given (drop l.place l.self.ready)
