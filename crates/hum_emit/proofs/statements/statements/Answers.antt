use Rattle.std.proofs.Common.{ap, ◌∙◌, ◌+◌, ◌-◌, length, take, arith}
use Rattle.hum_emit.specs.Emitting.{emitted, through}
use Rattle.hum_emit.specs.Templates.{statement}
use Rattle.hum_emit.proofs.Turns.{front_more, statement_turn, through_turn, last_entries, entries_before, statements_done}
use Rattle.hum_emit.proofs.statements.statements.Goals as goal

pub loop-each-preserved : goal.loop-each-preserved
loop-each-preserved c =
    through_turn c.args.statements.now c.loop-each.each-index c.each-item.result c.args.shape.now c.loop-each.shape c.extend.new.shape
    c.loop-each-test.true c.each-item.is c.loop-each.invariant c.in_ok-extend.ensures

pub overflow_sub-len : goal.overflow_sub-len
overflow_sub-len c =
    let ss = c.args.statements.now in
    let i = c.loop-i.i in
    let x = c.index-statements-count.result in
    let more = take (length ss - (i + 1)) ss in
    let is = front_more ss (length ss) i x (omega arith) (omega arith) c.index-statements-count.is in
    let long = ap length (last_entries (take (length ss - i) ss) more x c.args.shape.now c.loop-i.shape is c.loop-i.invariant.0)
    ∙ c.added.ensures.more (through more c.args.shape.now) in
    let whole = c.len.ensures in
    omega (arith, long, whole)

pub loop-i-preserved : goal.loop-i-preserved
loop-i-preserved c =
    let ss = c.args.statements.now in
    let i = c.loop-i.i in
    let x = c.index-statements-count.result in
    let rest = take (length ss - i) ss in
    let more = take (length ss - (i + 1)) ss in
    let is = front_more ss (length ss) i x (omega arith) (omega arith) c.index-statements-count.is in
    let before = entries_before x c.loop-i.shape (through more c.args.shape.now) c.truncate.new.self c.added.result c.len.result
    (last_entries rest more x c.args.shape.now c.loop-i.shape is c.loop-i.invariant.0) c.added.ensures.back c.added.ensures.more c.len.ensures c.truncate.ensures in (
      before,
      statement_turn c.args.shape.now c.loop-i.at (emitted c.loop-i.out) rest more x (emitted c.statement.new.out, c.in_ok-at-2.at) is
          (c.in_ok-at-2.ensures ∙ ap (λ sh. statement x sh c.loop-i.at (emitted c.loop-i.out)) (c.scope.ensures ∙ before))
          ∙ c.loop-i.invariant.1,
    )

pub returns : goal.returns
returns c = λ k.
    statements_done c.args.statements.now c.args.shape.now k (emitted c.args.out.now) (emitted c.jump.new.self, c.in_ok-k.k)
    (emitted c.drop.new.self, c.in_ok-at.at) (emitted c.loop-i.out, c.loop-i.at) c.loop-i.i c.loop-i-test.false c.in_ok-k.ensures c.in_ok-at.ensures
    c.loop-i.invariant.1
