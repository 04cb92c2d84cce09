use Rattle.cap_words.specs.Words.{undef}
use Rattle.vm_step.proofs.Known.{actor-known}
use Rattle.vm_machine.proofs.start.actor_cell.Goals as goal

pub known_actor-requires : goal.known_actor-requires
known_actor-requires c = let a = c.requires in actor-known c.args.quads.now.store c.args.actor a.0 a.1 undef a.2
