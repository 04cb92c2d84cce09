use Rattle.cap_words.specs.Seen.{seen}
use Rattle.vm_devices.proofs.Deliveries.{piece_printed, piece_said}
use Rattle.vm_devices.proofs.delivery.deliver.Goals as goal

pub returns-then-device-eq0-clause-written : goal.returns-then-device-eq0-clause-written
returns-then-device-eq0-clause-written g c = rw (piece_printed c.args.device (seen c.args.quads.now.store) c.args.message c.if-device-eq0.true) c.print.ensures.written

pub returns-else-device-eq0-clause-written : goal.returns-else-device-eq0-clause-written
returns-else-device-eq0-clause-written g c = rw (piece_said c.args.device (seen c.args.quads.now.store) c.args.message c.if-device-eq0.false c.requires) c.say.ensures.written
