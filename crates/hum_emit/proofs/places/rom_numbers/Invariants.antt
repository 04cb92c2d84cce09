use Rattle.std.proofs.Common.{◌≡◌, map, take}
use Rattle.hum_emit.specs.Holds.{place_number}
use Rattle.hum_emit.proofs.places.rom_numbers.Given as goal

abbrev pub invariant-loop-entry : goal.invariant-loop-entry
invariant-loop-entry l = l.numbers.items ≡ map (place_number l.size) (take l.entry-index l.entries)
