use Rattle.std.proofs.Common.{sym}
use Rattle.cap_words.specs.Seen.{seen}
use Rattle.vm_step.proofs.Typing.{type-read}
use Rattle.vm_step.proofs.types.type_of.Goals as goal

pub returns-in-Some : goal.returns-in-Some
returns-in-Some c = sym (type-read (seen c.args.quads.now.store) c.args.w c.in-Some.q (sym c.in-Some.ensures))
