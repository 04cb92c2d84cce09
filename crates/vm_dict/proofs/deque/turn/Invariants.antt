use Rattle.vm_dict.proofs.Turns.{Turning}
use Rattle.vm_dict.proofs.deque.turn.Given as goal

abbrev pub invariant-loop-i : goal.invariant-loop-i
invariant-loop-i l = Turning l.fn.quads l.quads l.count l.fn.far l.i l.at l.list l.near l.value
