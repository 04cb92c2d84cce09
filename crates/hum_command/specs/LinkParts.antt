-- What the parts of `link` answer.
use Rattle.std.specs.Prelude.{◌≡◌, ℕ, List, Option, None, Some, Result, Ok, Err}
use Rattle.hum_outside.specs.Outside.{Files, told}
use Rattle.quad_memory.specs.Image.{RomImage}
use Rattle.uasm_read.specs.declared.error.UasmRefused.{UasmRefused}
use Rattle.uasm_read.specs.Modules.{ModuleParts}
use Rattle.uasm_read.specs.Assembles.{assembled, text_limit}
use Rattle.uasm_read.specs.Links.{LinkFault, Linked}
use Rattle.uasm_image.specs.Spelled.{spelled}
use Rattle.hum_command.specs.declared.answer.Answer.{Answer}
use Rattle.hum_command.specs.declared.answer.Answer.TheVariants as answer
use Rattle.hum_command.specs.declared.link.NoModule.{NoModule}
use Rattle.hum_command.specs.declared.link.Gathered.{Gathered}
use Rattle.hum_command.specs.Texts.{IsText, HaveTexts, IsNext, Unreadable}
use Rattle.hum_command.specs.Link.{BadText, modules_of, link_refusal, LinkTo, RefusedBy}

-- a file's text was read as this
abbrev pub ReadsAs : Option (Option (List ℕ)) → Result ModuleParts UasmRefused → Type 0
ReadsAs file read = (text : List ℕ) × IsText file text × (read ≡ assembled (Some text_limit) text)

-- what was read so far: modules, or the first file that is none
abbrev pub gathered_by : Option NoModule → List ModuleParts → Result (List ModuleParts) BadText
gathered_by None modules = Ok modules
gathered_by (Some bad) modules = Err (record { name = bad.name.now; why = bad.why })

abbrev pub gathered : Gathered → Result (List ModuleParts) BadText
gathered all = gathered_by all.bad all.modules.items

-- the files were read as this
abbrev pub ReadTo : Option Files → List (List ℕ) → Result (List ModuleParts) BadText → Type 0
ReadTo files names read = (texts : List (List ℕ)) × HaveTexts files names texts × (read ≡ modules_of names texts)

-- why modules are not linked
abbrev pub NotLinked : Option LinkFault → Answer → Type 0
NotLinked fails answer.NoMemory = Unit {0}
NotLinked fails (answer.Refused why) = (fault : LinkFault) × (fails ≡ Some fault) × (why ≡ link_refusal fault)
NotLinked fails answer = ⊥

-- the bytes are those of the image of modules
abbrev pub SpellsImage : List ModuleParts → List ℕ → Type 0
SpellsImage modules bytes = (image : RomImage) × Linked modules image.boot image.cells × (bytes ≡ spelled image)

-- the bytes are those of the image that files link to
abbrev pub LinkBytes : Option Files → List (List ℕ) → List ℕ → Type 0
LinkBytes files names bytes =
    (texts : List (List ℕ)) × HaveTexts files names texts × (image : RomImage) × LinkTo names texts image × (bytes ≡ spelled image)

-- why files are not linked, with the name of the file of which it is told
abbrev pub LinkFails : Option Files → ℕ → ℕ → List (List ℕ) → Answer → List ℕ → Type 0
LinkFails files before now names answer.Unread name = IsNext files names name × Unreadable before now (told files name)
LinkFails files before now names answer.NoMemory name = Unit {0}
LinkFails files before now names (answer.Refused why) name =
    (texts : List (List ℕ)) × HaveTexts files names texts × RefusedBy names texts why name
LinkFails files before now names answer name = ⊥
