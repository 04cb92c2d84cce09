use Rattle.std.proofs.Common.{arith}
use Rattle.hum_match.proofs.Tuples.{last_item, inner_item}
use Rattle.hum_match.proofs.trees.+lowering.Goals as goal
use Rattle.hum_match.proofs.trees.+lowering.Goals.{tuple-then-i-items+in_ok-push, tuple-else-i-items}

pub tuple-loop-i-preserved : goal.tuple-loop-i-preserved
tuple-loop-i-preserved t c =
    let ps = c.args.items.now in
    let i = c.loop-i.i in
    let p = c.index-items-i.result in
    elim c.if-i-items.branch [
      | tuple-then-i-items+in_ok-push w ↦
          (let e = inner_item ps i p c.index-items-i.is c.loop-i.made (omega arith) in
          cc (e, w.made-is, w.in_ok-push.ensures.ok, c.in_ok-pat.ensures, c.loop-i.invariant))
      | tuple-else-i-items w ↦
          (let e = last_item ps i p c.index-items-i.is c.loop-i.made (omega arith) (omega arith) in
          cc (e, w.made-is, c.in_ok-pat.ensures, c.loop-i.invariant))
    ]
