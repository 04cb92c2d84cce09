-- The code that the file of `asm` holds, and how it is listed.
use Rattle.std.specs.Prelude.{◌≡◌, ℕ, nat_eq, Bool, true, false, ◌||◌, List, [], ◌∷◌, codes, Option, None}
use Rattle.std.specs.List.{ends_with}
use Rattle.quad_memory.specs.Image.{RomImage}
use Rattle.uasm_read.specs.Assembles.{Assembles}
use Rattle.uasm_read.specs.Writes.{written}
use Rattle.uasm_read.specs.Links.{Linked}
use Rattle.uasm_image.specs.Listed.{listing_of}
use Rattle.hum_syntax.specs.declared.Tree.{Tree}
use Rattle.hum_core.specs.declared.tested.TestUnit.{TestUnit}
use Rattle.hum_front.specs.Accepted.{Accepted}
use Rattle.hum_sim.specs.Compiled.{IsCompiled}
use Rattle.hum_command.specs.Images.{Loads, LoadFails}
use Rattle.hum_command.specs.TextRefusals.{StartFails}
use Rattle.hum_command.specs.declared.answer.Answer.{Answer}

-- a file of such a name is read as by `exec`; any other is a text
abbrev pub is_assembled : List ℕ → Bool
is_assembled name = ends_with nat_eq name (codes ".asm") || ends_with nat_eq name (codes ".img")

-- the text is accepted, and the image is that of its program
pub record Compiles (text : List ℕ) (image : RomImage) : Type 0 where
  pub tree : Tree
  pub units : List TestUnit
  pub accepted : Accepted text tree
  pub compiled : IsCompiled tree units image

-- the bytes of a file, which are assembled or else a text, are the code of the image
abbrev pub HoldsCode : Bool → List ℕ → RomImage → Type 0
HoldsCode true bytes image = Loads bytes image
HoldsCode false bytes image = Compiles bytes image

-- The text is that of the image's listing: a module, which links to the image.
pub record IsListing (image : RomImage) (text : List ℕ) : Type 0 where
  pub is : text ≡ written (listing_of image)
  pub assembles : Assembles None text (listing_of image)
  pub links : Linked (listing_of image ∷ []) image.boot image.cells

-- ---- what the parts of `asm` answer

-- the text is that of the listing of the code in these bytes
abbrev pub ListsCode : Bool → List ℕ → List ℕ → Type 0
ListsCode assembled bytes text = (image : RomImage) × HoldsCode assembled bytes image × IsListing image text

-- why there is no code of a file
abbrev pub CodeFails : Bool → ℕ → ℕ → Option (Option (List ℕ)) → Answer → Type 0
CodeFails true before now file answer = LoadFails before now file answer
CodeFails false before now file answer = StartFails before now file answer
