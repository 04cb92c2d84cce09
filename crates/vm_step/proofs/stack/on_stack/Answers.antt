use Rattle.std.proofs.Common.{ℕ, ap, sym, subst, unsigned_abs}
use Rattle.instr_table.specs.Outcome.{charge}
use Rattle.instr_table.specs.Spelling.{charge_of}
use Rattle.vm_step.specs.Moves.{Ready}
use Rattle.vm_step.proofs.Rows.{stated-ready}
use Rattle.vm_step.proofs.stack.on_stack.Goals as goal

pub dup-requires-clause-ready : goal.dup-requires-clause-ready
dup-requires-clause-ready c =
    subst (λ (n : ℕ). Ready c.args.quads.now c.args.lane.now n) (sym c.size-in-Dup.ensures)
    (stated-ready c.args.quads.now c.args.lane.now c.args.op.now c.args.next (charge (unsigned_abs c.in-Dup.n) 0) c.requires.in_row (sym (ap charge_of c.in-Dup.is)) c.requires.ready)

pub roll_up-requires-clause-ready : goal.roll_up-requires-clause-ready
roll_up-requires-clause-ready c =
    subst (λ (n : ℕ). Ready c.args.quads.now c.args.lane.now n) (sym c.size-then-n-gt0.ensures)
    (stated-ready c.args.quads.now c.args.lane.now c.args.op.now c.args.next (charge (unsigned_abs c.in-Roll.n) 0) c.requires.in_row (sym (ap charge_of c.in-Roll.is)) c.requires.ready)

pub roll_down-requires-clause-ready : goal.roll_down-requires-clause-ready
roll_down-requires-clause-ready c =
    subst (λ (n : ℕ). Ready c.args.quads.now c.args.lane.now n) (sym c.size-else-n-gt0.ensures)
    (stated-ready c.args.quads.now c.args.lane.now c.args.op.now c.args.next (charge (unsigned_abs c.in-Roll.n) 0) c.requires.in_row (sym (ap charge_of c.in-Roll.is)) c.requires.ready)
