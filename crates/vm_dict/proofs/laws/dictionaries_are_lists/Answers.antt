use Rattle.vm_dict.proofs.DictionaryLaws.{gets_looked_up, adds_in_front, sets_assigned, deletes_left_out, dictionaries_stand}
use Rattle.vm_dict.proofs.laws.dictionaries_are_lists.Goals as goal

pub returns-clause-get : goal.returns-clause-get
returns-clause-get c = gets_looked_up

pub returns-clause-add : goal.returns-clause-add
returns-clause-add c = adds_in_front

pub returns-clause-set : goal.returns-clause-set
returns-clause-set c = sets_assigned

pub returns-clause-delete : goal.returns-clause-delete
returns-clause-delete c = deletes_left_out

pub returns-clause-stand : goal.returns-clause-stand
returns-clause-stand c = dictionaries_stand
