use Rattle.std.proofs.Common.{◌≡◌, ap, arith}
use Rattle.hum_emit.specs.Rowing.{shape_at}
use Rattle.hum_emit.proofs.Tops.{entry_more, no_entry, past_rows}
use Rattle.hum_emit.proofs.rows.Rows.entries_from.Goals as goal
use Rattle.hum_emit.proofs.rows.Rows.entries_from.Goals.{then-loop-next-test+else-next-len, else-loop-next-test}

pub returns-then-row-next : goal.returns-then-row-next
returns-then-row-next c =
    (entry_more c.self.inside.rows.items c.args.self.now c.loop-next.next c.index-row.result.now c.loop-next.entries.items c.push.new.self.items
    (shape_at c.args.self.now c.args.top) c.self.view_is (omega arith) (omega arith) c.index-row.ensures c.in_ok-push.ensures.items c.loop-next.invariant).1
    c.if-row-next.true

pub loop-next-preserved : goal.loop-next-preserved
loop-next-preserved c =
    (entry_more c.self.inside.rows.items c.args.self.now c.loop-next.next c.index-row.result.now c.loop-next.entries.items c.push.new.self.items
    (shape_at c.args.self.now c.args.top) c.self.view_is (omega arith) (omega arith) c.index-row.ensures c.in_ok-push.ensures.items c.loop-next.invariant).0
    c.if-row-next.false

pub returns : goal.returns
returns c =
    let now = c.args.self.now in
    let so = c.loop-next.invariant in
    elim c.loop-next-test.branch [
      | then-loop-next-test+else-next-len w ↦
          no_entry now c.loop-next.next c.loop-next.entries.items (shape_at now c.args.top) so
          (past_rows c.self.inside.rows.items now c.loop-next.next c.self.view_is (let counted = w.len.ensures in omega (arith, counted, w.if-next-len.false)))
      | else-loop-next-test w ↦
          (let zero_is : c.loop-next.next ≡ 0 = omega (arith, w.loop-next-test.false) in
          no_entry now c.loop-next.next c.loop-next.entries.items (shape_at now c.args.top) so (ap (shape_at now) zero_is))
    ]
