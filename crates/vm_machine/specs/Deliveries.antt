-- How a device's delivery ends its message.
use Rattle.vm_devices.specs.declared.delivery.Done.{Done}
use Rattle.vm_devices.specs.declared.delivery.Done.TheVariants.{Committed, Refused}
use Rattle.vm_turn.specs.declared.journal.Outcome.{Outcome}
use Rattle.vm_turn.specs.declared.journal.Outcome.TheVariants.{Committed as Done'}
use Rattle.vm_turn.specs.Turn.{refused}

abbrev pub end_by : Done → Outcome
end_by Committed = Done'
end_by Refused = refused
