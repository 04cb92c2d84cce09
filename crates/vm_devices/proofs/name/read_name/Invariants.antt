use Rattle.std.proofs.Common.{◌-◌}
use Rattle.cap_words.specs.Seen.{seen}
use Rattle.vm_devices.proofs.Names.{Reading}
use Rattle.vm_devices.proofs.name.read_name.Given as goal

abbrev pub invariant-loop-q : goal.invariant-loop-q
invariant-loop-q l = Reading (seen l.quads.store) l.fn.list l.rest l.name l.len

abbrev pub decreases-loop-q : goal.decreases-loop-q
decreases-loop-q l = 128 - l.len
