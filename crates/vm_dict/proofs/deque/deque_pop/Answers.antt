use Rattle.cap_words.specs.Seen.{seen}
use Rattle.instr_table.specs.Deque.{Taking, deque_quad, ends}
use Rattle.vm_dict.proofs.Turns.{taken-end}
use Rattle.vm_dict.proofs.deque.deque_pop.Goals as goal

pub returns-clause-cells : goal.returns-clause-cells
returns-clause-cells c =
    let m = c.args.quads.now in
    let l = c.lists_of-lists in
    let r = c.take_end-rest.ensures.rest in
    let d = ends (seen m.store) c.args.deque in
    taken-end m c.take_end-rest.new.quads c.take_deque.new.quads l.result.front l.result.back d.front d.back
    (λ (t : Taking). deque_quad t.near t.far) (deque_quad c.take_end-rest.result.near c.take_end-rest.result.far)
    l.ensures.0 l.ensures.1 c.take_end-rest.ensures.cells (λ i. deque_quad (r.1 i) (r.2 i)) c.take_deque.ensures.cells
