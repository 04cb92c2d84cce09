use Rattle.vm_sponsor.proofs.Plain.{spend-balanced, spend-total, transfer-conserves, reclaim-conserves}
use Rattle.vm_sponsor.proofs.sheet.amounts_are_conserved.Goals as goal

pub returns-clause-paid : goal.returns-clause-paid
returns-clause-paid c = λ sheet w charge h e. (spend-balanced sheet w charge h e, λ kind. spend-total sheet w charge kind h)

pub returns-clause-moved : goal.returns-clause-moved
returns-clause-moved c = λ sheet from to kind n i h e. let k = transfer-conserves sheet from to kind n i h in (k.balanced e, k.same_total)

pub returns-clause-reclaimed : goal.returns-clause-reclaimed
returns-clause-reclaimed c = λ sheet from to i e. let k = reclaim-conserves sheet from to i in (k.balanced e, k.same_total)
