use Rattle.uasm_image.proofs.Told.{some_fault}
use Rattle.uasm_image.proofs.Once.{faultless, one_fault}
use Rattle.uasm_image.proofs.laws.faults_are_one.Goals as goal

pub returns-clause-one : goal.returns-clause-one
returns-clause-one c = one_fault

pub returns-clause-none : goal.returns-clause-none
returns-clause-none c = faultless

pub returns-clause-some : goal.returns-clause-some
returns-clause-some c = some_fault
