-- Laws of listings.
use Rattle.std.specs.Prelude.{IsTrue, [], ◌∷◌}
use Rattle.quad_memory.specs.Image.{RomImage}
use Rattle.uasm_read.specs.Modules.{is_module}
use Rattle.uasm_read.specs.Links.{Linked}
use Rattle.uasm_image.specs.Spelled.{IsImage}
use Rattle.uasm_image.specs.Listed.{listing_of}

-- the listing of each image keeps the rules of modules
abbrev pub ListingsAreModules : Type 0
ListingsAreModules = (i : RomImage) → IsImage i → IsTrue (is_module (listing_of i))

-- the listing of each image links to the image
abbrev pub ListingsLinkBack : Type 0
ListingsLinkBack = (i : RomImage) → IsImage i → Linked (listing_of i ∷ []) i.boot i.cells
