use Rattle.vm_dict.proofs.DequeLaws.{counts_its_values, begins_empty, pushes_in_front, puts_behind, pops_the_first, pulls_the_last, deques_stand}
use Rattle.vm_dict.proofs.laws.deques_are_lists.Goals as goal

pub returns-clause-len : goal.returns-clause-len
returns-clause-len c = counts_its_values

pub returns-clause-new : goal.returns-clause-new
returns-clause-new c = begins_empty

pub returns-clause-push : goal.returns-clause-push
returns-clause-push c = pushes_in_front

pub returns-clause-put : goal.returns-clause-put
returns-clause-put c = puts_behind

pub returns-clause-pop : goal.returns-clause-pop
returns-clause-pop c = pops_the_first

pub returns-clause-pull : goal.returns-clause-pull
returns-clause-pull c = pulls_the_last

pub returns-clause-stand : goal.returns-clause-stand
returns-clause-stand c = deques_stand
