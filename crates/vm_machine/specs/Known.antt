-- The words that a machine knows.
use Rattle.std.specs.Prelude.{◌≡◌}
use Rattle.vm_turn.specs.State.{root, println_device, say_device}
use Rattle.vm_machine.specs.declared.parts.Known.{Known}

-- they are those of the root sponsor and of the devices
pub record Knows (k : Known) : Type 0 where
  pub root_is : k.root ≡ root
  pub println_is : k.println ≡ println_device
  pub say_is : k.say ≡ say_device
