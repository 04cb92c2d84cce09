use Rattle.std.proofs.Common.{ℕ, ◌+◌, ap, sym, subst, unsigned_abs}
use Rattle.instr_table.specs.Outcome.{charge}
use Rattle.instr_table.specs.Spelling.{charge_of}
use Rattle.vm_step.specs.Moves.{Ready}
use Rattle.vm_step.proofs.Rows.{stated-ready}
use Rattle.vm_step.proofs.cells.on_cells.Goals as goal

pub pair-requires-clause-ready : goal.pair-requires-clause-ready
pair-requires-clause-ready c =
    subst (λ (n : ℕ). Ready c.args.quads.now c.args.lane.now (n + 1)) (sym c.size.ensures)
    (stated-ready c.args.quads.now c.args.lane.now c.args.op.now c.args.next (charge (unsigned_abs c.in-Pair.n + 1) 0) c.requires.in_row (sym (ap charge_of c.in-Pair.is)) c.requires.ready)

pub part-requires-clause-ready : goal.part-requires-clause-ready
part-requires-clause-ready c =
    subst (λ (n : ℕ). Ready c.args.quads.now c.args.lane.now (n + 1)) (sym c.size-in-Part.ensures)
    (stated-ready c.args.quads.now c.args.lane.now c.args.op.now c.args.next (charge (unsigned_abs c.in-Part.n + 1) 0) c.requires.in_row (sym (ap charge_of c.in-Part.is)) c.requires.ready)

pub take_quad-requires-clause-ready : goal.take_quad-requires-clause-ready
take_quad-requires-clause-ready c =
    subst (λ (n : ℕ). Ready c.args.quads.now c.args.lane.now n) (sym c.size-in-QuadTake.ensures)
    (stated-ready c.args.quads.now c.args.lane.now c.args.op.now c.args.next (charge (unsigned_abs c.in-QuadTake.n) 0) c.requires.in_row (sym (ap charge_of c.in-QuadTake.is)) c.requires.ready)
