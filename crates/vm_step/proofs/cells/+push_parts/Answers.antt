use Rattle.std.proofs.Common.{◌-◌, List, [], ◌∷◌, subst}
use Rattle.cap_words.specs.Words.{W}
use Rattle.cap_words.specs.Seen.{seen}
use Rattle.instr_table.specs.Lists.{parted}
use Rattle.vm_step.specs.Moves.{Moves, restacking}
use Rattle.vm_step.proofs.Making.{parts-more, parts-ready}
use Rattle.vm_step.proofs.Moving.{moves-then}
use Rattle.vm_step.proofs.cells.+push_parts.Goals as goal

pub push-requires-else-n-eq0 : goal.push-requires-else-n-eq0
push-requires-else-n-eq0 t c = parts-ready c.args.quads.now c.push_parts.new.quads c.args.lane.now c.push_parts.new.lane c.args.n c.tail-rest.result c.if-n-eq0.false c.requires.ready c.push_parts.ensures

pub returns-else-n-eq0 : goal.returns-else-n-eq0
returns-else-n-eq0 t c =
    let s = seen c.args.quads.now.store in
    let l = c.args.lane.now in
    subst (λ (vs : List W). Moves c.args.quads.now c.push-else-n-eq0.new.quads l c.push-else-n-eq0.new.self (restacking 0 vs l.code))
    (parts-more s c.args.n c.args.list c.tail-rest.result c.head-value.result c.if-n-eq0.false c.tail-rest.ensures c.head-value.ensures)
    (moves-then c.args.quads.now c.push_parts.new.quads c.push-else-n-eq0.new.quads l c.push_parts.new.lane c.push-else-n-eq0.new.self (restacking 0 (parted s (c.args.n - 1) c.tail-rest.result) l.code) (c.head-value.result ∷ []) c.push_parts.ensures c.push-else-n-eq0.ensures)
