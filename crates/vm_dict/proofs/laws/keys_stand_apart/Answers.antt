use Rattle.vm_dict.proofs.DictionaryLaws.{assigned-same, assigned-other, left-other}
use Rattle.vm_dict.proofs.laws.keys_stand_apart.Goals as goal

pub returns-clause-set : goal.returns-clause-set
returns-clause-set c = assigned-same

pub returns-clause-other_set : goal.returns-clause-other_set
returns-clause-other_set c = assigned-other

pub returns-clause-other_deleted : goal.returns-clause-other_deleted
returns-clause-other_deleted c = left-other
