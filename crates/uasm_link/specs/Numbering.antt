-- Maps from names to the numbers of items.
use Rattle.std.specs.Prelude.{ℕ, if◌then◌else◌, List, Option, Some, None, unwrap_or}
use Rattle.std.specs.Option.{option_or}
use Rattle.std.specs.Borrow.{Bor}
use Rattle.std.specs.HashMap.{HashMap, get_by}
use Rattle.std.specs.Str.{bytes_eq}
use Rattle.cap_words.specs.Words.{W, word_of, is_rom_bits, undef}
use Rattle.uasm_read.specs.Texts.{Bytes, Name}
use Rattle.uasm_read.specs.Modules.{ModuleParts}
use Rattle.uasm_link.specs.declared.names.Side.{Side}
use Rattle.uasm_link.specs.declared.names.Side.TheVariants as side

-- the number that a map has for a name
abbrev pub number_in : {S : Type 0} → HashMap (Bor Bytes) ℕ S → Name → Option ℕ
number_in numbers name = get_by (λ key. bytes_eq name key.now) numbers

-- the word of these bits, `#?` where they are none of ROM
abbrev pub rom_of : ℕ → W
rom_of bits = unwrap_or (if is_rom_bits bits then Some (word_of bits) else None) undef

-- the word that a name stands for among a module's labels and all exports
abbrev pub resolved : {S T : Type 0} → HashMap (Bor Bytes) ℕ S → HashMap (Bor Bytes) ℕ T → Name → W
resolved labels exports name = rom_of (unwrap_or (option_or (number_in labels name) (number_in exports name)) 0)

-- the names on one side of a module
abbrev pub names_on : Side → ModuleParts → List Name
names_on side.Exports m = m.exports
names_on side.Imports m = m.imports
