use Rattle.uasm_image.proofs.ListedModules.{is_module_listed}
use Rattle.uasm_image.proofs.laws.listings_are_modules.Goals as goal

pub returns : goal.returns
returns c = λ i is. is_module_listed i is c.operations_have_lines.ensures
