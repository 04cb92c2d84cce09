use Rattle.vm_dict.proofs.dict.+copy_first.Given as goal

abbrev pub decreases-copy_first : goal.decreases-copy_first
decreases-copy_first l = l.count
