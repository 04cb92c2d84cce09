use Rattle.std.proofs.Common.{length, ap, arith}
use Rattle.vm_machine.specs.Machine.{Machine}
use Rattle.vm_sponsor.specs.Ledger.{names}
use Rattle.vm_machine.proofs.Counting.{count-unfinished}
use Rattle.vm_machine.proofs.machine.Machine.pending.Goals as goal

pub returns : goal.returns
returns c =
    let p = c.self.inside.parts in
    let kept = c.self.invariant.0.kept in
    let e = count-unfinished p.quads.store (names p.sheet.rows) p.queue.given p.queue.ready p.flight.items kept.flying kept.apart kept.ascending in
    let n = kept.counts in
    let g = c.given.ensures.count in
    let j = c.len.ensures in
    let v = ap (λ (m : Machine). length m.state.messages) c.self.view_is in
    omega (arith, e, n, g, j, v)
