use Rattle.uasm_image.proofs.Again.{read_again}
use Rattle.uasm_image.proofs.Once.{spelled_one}
use Rattle.uasm_image.proofs.laws.images_are_read_back.Goals as goal

pub returns-clause-read : goal.returns-clause-read
returns-clause-read c = read_again

pub returns-clause-one : goal.returns-clause-one
returns-clause-one c = spelled_one
