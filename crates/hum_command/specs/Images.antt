-- The image that the file of `exec` holds.
use Rattle.std.specs.Prelude.{◌≡◌, ℕ, ◌<◌, ◌≤◌, nat_eq, Bool, true, false, List, [], ◌∷◌, length, Option, Some, Err}
use Rattle.std.specs.List.{starts_with}
use Rattle.quad_memory.specs.Image.{RomImage}
use Rattle.uasm_read.specs.Modules.{ModuleParts}
use Rattle.uasm_read.specs.Assembles.{assembled, Assembles, text_limit}
use Rattle.uasm_read.specs.Links.{LinkFault, link_fault, Linked}
use Rattle.uasm_image.specs.Spelled.{magic, spelled, IsImage}
use Rattle.uasm_image.specs.Refused.{IsRefusedAt}
use Rattle.hum_command.specs.declared.refusal.Refusal.{Refusal}
use Rattle.hum_command.specs.declared.refusal.Refusal.TheVariants.{FileTooLong, Image, Module}
use Rattle.hum_command.specs.declared.answer.Answer.{Answer}
use Rattle.hum_command.specs.declared.answer.Answer.TheVariants as answer
use Rattle.hum_command.specs.Texts.{IsText, Unreadable}
use Rattle.hum_command.specs.Link.{link_refusal}

-- the most bytes that a file may have: those of the largest image
abbrev pub file_limit : ℕ
file_limit = 16776972

-- the first four bytes are an image's
abbrev pub is_image_file : List ℕ → Bool
is_image_file bytes = starts_with nat_eq bytes magic

-- the text is a module, which alone links to the image
pub record LinksAlone (text : List ℕ) (image : RomImage) : Type 0 where
  pub parts : ModuleParts
  pub assembles : Assembles (Some text_limit) text parts
  pub linked : Linked (parts ∷ []) image.boot image.cells

-- the text is a module, which alone is not linked
pub record UnlinkedAlone (text : List ℕ) (why : Refusal) : Type 0 where
  pub parts : ModuleParts
  pub fault : LinkFault
  pub assembles : Assembles (Some text_limit) text parts
  pub fails : link_fault (parts ∷ []) ≡ Some fault
  pub told : why ≡ link_refusal fault

-- bytes that begin as an image's are that image's; other bytes are a module that links to the image
abbrev pub Holds : Bool → List ℕ → RomImage → Type 0
Holds true bytes image = IsImage image × (bytes ≡ spelled image)
Holds false bytes image = LinksAlone bytes image

-- why bytes hold no image
abbrev pub HoldsNone : Bool → Refusal → List ℕ → Type 0
HoldsNone true (Image why) bytes = IsRefusedAt bytes why.at why.cause
HoldsNone true why bytes = ⊥
HoldsNone false (Module why) bytes = assembled (Some text_limit) bytes ≡ Err why
HoldsNone false why bytes = UnlinkedAlone bytes why

-- the bytes of a file hold the image
pub record Loads (bytes : List ℕ) (image : RomImage) : Type 0 where
  pub short : length bytes ≤ file_limit
  pub holds : Holds (is_image_file bytes) bytes image

-- why the bytes of a file are refused: they are too many, or hold no image
abbrev pub Unloaded : Refusal → List ℕ → Type 0
Unloaded FileTooLong bytes = file_limit < length bytes
Unloaded why bytes = (length bytes ≤ file_limit) × HoldsNone (is_image_file bytes) why bytes

-- ---- what the parts of the reading answer

-- why there is no image of bytes
abbrev pub FailsToHold : Bool → List ℕ → Answer → Type 0
FailsToHold image_file bytes answer.NoMemory = Unit {0}
FailsToHold image_file bytes (answer.Refused why) = HoldsNone image_file why bytes
FailsToHold image_file bytes answer = ⊥

-- why there is no image of a file
abbrev pub LoadFails : ℕ → ℕ → Option (Option (List ℕ)) → Answer → Type 0
LoadFails before now file answer.Unread = Unreadable before now file
LoadFails before now file answer.NoMemory = Unit {0}
LoadFails before now file (answer.Refused why) = (bytes : List ℕ) × IsText file bytes × Unloaded why bytes
LoadFails before now file answer = ⊥
