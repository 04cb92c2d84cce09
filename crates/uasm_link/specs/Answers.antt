-- What the linker answers.
use Rattle.std.specs.Prelude.{◌≡◌, Option, Some}
use Rattle.uasm_read.specs.Links.{LinkFault, NameTwice, NoSuchName, BootMissing, Large}
use Rattle.uasm_link.specs.declared.error.LinkError.{LinkError}
use Rattle.uasm_link.specs.declared.error.LinkError.TheVariants as error

-- the error tells this fault; want of memory tells none
abbrev pub IsFault : Option LinkFault → LinkError → Type 0
IsFault fault error.NoMemory = Unit {0}
IsFault fault (error.Twice name) = fault ≡ Some (NameTwice name)
IsFault fault (error.NoSuch name) = fault ≡ Some (NoSuchName name)
IsFault fault error.NoBoot = fault ≡ Some BootMissing
IsFault fault error.TooLarge = fault ≡ Some Large
