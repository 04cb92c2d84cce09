use Rattle.uasm_image.proofs.ListedModules.{links_back}
use Rattle.uasm_image.proofs.laws.listings_link_back.Goals as goal

pub returns : goal.returns
returns c = links_back
