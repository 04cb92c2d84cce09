-- What the keys grant to a machine.
use Rattle.vm_sponsor.specs.declared.amounts.Amounts.{Amounts}
use Rattle.vm_machine.specs.declared.machine.Lanes.{Lanes}
use Rattle.hum_command.specs.declared.keys.Keys.{Keys}

-- what the root sponsor is granted
abbrev pub grant_of : Keys → Amounts
grant_of keys = record { memory = keys.memory; events = keys.events; cycles = keys.cycles }

-- how many events may be in flight, and the seed of the picks
abbrev pub lanes_of : Keys → Lanes
lanes_of keys = record { count = keys.lanes; seed = keys.seed }
