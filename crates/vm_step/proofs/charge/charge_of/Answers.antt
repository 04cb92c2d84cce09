use Rattle.vm_step.proofs.Charges.{charged}
use Rattle.vm_step.proofs.charge.charge_of.Goals as goal

pub returns-in-Some : goal.returns-in-Some
returns-in-Some c = λ next. charged c.args.quads.now c.args.sheet.now c.args.lane.now c.args.op.now c.in-Some.charge next c.requires.in_row c.in-Some.ensures
