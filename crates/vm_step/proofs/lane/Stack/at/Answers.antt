use Rattle.std.proofs.Common.{◌∙◌, List, ap}
use Rattle.instr_table.specs.Lane.{Item, values}
use Rattle.instr_table.specs.Lists.{item}
use Rattle.vm_step.proofs.Stacks.{item-below}
use Rattle.vm_step.proofs.lane.Stack.at.Goals as goal

pub returns : goal.returns
returns c =
    c.pop.ensures.value
    ∙ ap (λ (is : List Item). item (values is) 1) c.skip.ensures.rest
    ∙ item-below _ c.args.n c.requires.place
