-- What files are linked to, and why they are not.
use Rattle.std.specs.Prelude.{◌≡◌, ◌⊎◌, ℕ, List, [], ◌∷◌, ◌++◌, Some, Result, Ok, Err}
use Rattle.quad_memory.specs.Image.{RomImage}
use Rattle.uasm_read.specs.declared.error.UasmRefused.{UasmRefused}
use Rattle.uasm_read.specs.Modules.{ModuleParts}
use Rattle.uasm_read.specs.Assembles.{assembled, text_limit}
use Rattle.uasm_read.specs.Links.{LinkFault, NameTwice, NoSuchName, BootMissing, Large, link_fault, Linked}
use Rattle.hum_command.specs.declared.refusal.Refusal.{Refusal}
use Rattle.hum_command.specs.declared.refusal.Refusal.TheVariants.{Module, Twice, NoSuch, NoBoot, TooLarge}

-- a file whose text is no module
pub record BadText : Type 0 where
  pub name : List ℕ
  pub why : UasmRefused

-- all of two lists, or the first refusal
abbrev pub both : {A E : Type 0} → Result (List A) E → Result (List A) E → Result (List A) E
both (Err e) more = Err e
both (Ok xs) (Err e) = Err e
both (Ok xs) (Ok ys) = Ok (xs ++ ys)

-- what a file's text was read as
abbrev pub of_file : List ℕ → Result ModuleParts UasmRefused → Result (List ModuleParts) BadText
of_file name (Ok m) = Ok (m ∷ [])
of_file name (Err why) = Err (record { name = name; why = why })

-- the modules of files with these texts, or the first file whose text is none
abbrev pub modules_of : List (List ℕ) → List (List ℕ) → Result (List ModuleParts) BadText
modules_of (name ∷ names) (text ∷ texts) = both (of_file name (assembled (Some text_limit) text)) (modules_of names texts)
modules_of names texts = Ok []

-- the refusal of modules that are not linked
abbrev pub link_refusal : LinkFault → Refusal
link_refusal (NameTwice name) = Twice name
link_refusal (NoSuchName name) = NoSuch name
link_refusal BootMissing = NoBoot
link_refusal Large = TooLarge

-- the files with these texts link to the image
pub record LinkTo (names texts : List (List ℕ)) (image : RomImage) : Type 0 where
  pub modules : List ModuleParts
  pub read : modules_of names texts ≡ Ok modules
  pub linked : Linked modules image.boot image.cells

-- the files with these texts are all modules, which are not linked
pub record Unlinked (names texts : List (List ℕ)) (why : Refusal) : Type 0 where
  pub modules : List ModuleParts
  pub fault : LinkFault
  pub read : modules_of names texts ≡ Ok modules
  pub fails : link_fault modules ≡ Some fault
  pub told : why ≡ link_refusal fault

-- why files with these texts are refused: the first text that is no module, with the name of its file, or else the first fault in linking
abbrev pub RefusedBy : List (List ℕ) → List (List ℕ) → Refusal → List ℕ → Type 0
RefusedBy names texts why name =
    ((fault : UasmRefused) × (why ≡ Module fault) × (modules_of names texts ≡ Err (record { name = name; why = fault })))
    ⊎ Unlinked names texts why
