use Rattle.std.proofs.Common.{◌≡◌, map, take, reverse}
use Rattle.hum_core.specs.Agreement.{slot_of}
use Rattle.hum_scope.specs.Entries.{marked}
use Rattle.hum_scope.proofs.sight.Sight.slot.Given as goal

abbrev pub invariant-loop-entry : goal.invariant-loop-entry
invariant-loop-entry l = slot_of (reverse (map marked (take l.entry-index l.entries))) l.name ≡ l.found
