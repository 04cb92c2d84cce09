-- What a delivery comes to.
use Rattle.std.specs.Prelude.{◌≡◌, ℕ, List, Option, Some, None, Result, Ok, Err}
use Rattle.hum_outside.specs.Outside.{AppendsFront, appended}
use Rattle.vm_devices.specs.declared.delivery.Done.{Done}
use Rattle.vm_devices.specs.declared.delivery.Done.TheVariants.{Committed, Refused}
use Rattle.vm_devices.specs.declared.delivery.WriteFault.{WriteFault}

-- A message that the device writes bytes for is committed and they are appended, or a write failed and a front of them is. Any other
-- message is refused, and nothing is appended.
abbrev pub Delivers : Option (List ℕ) → Result Done WriteFault → (old new : Option (List ℕ)) → Type 0
Delivers (Some bytes) (Ok Committed) old new = new ≡ appended old bytes
Delivers (Some bytes) (Ok Refused) old new = ⊥
Delivers (Some bytes) (Err fault) old new = AppendsFront old new bytes
Delivers None (Ok Committed) old new = ⊥
Delivers None (Ok Refused) old new = new ≡ old
Delivers None (Err fault) old new = ⊥
