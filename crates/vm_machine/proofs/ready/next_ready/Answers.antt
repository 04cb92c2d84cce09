use Rattle.std.proofs.Common.{◌∙◌, Bool, ap, arith}
use Rattle.std.specs.Prelude.{not}
use Rattle.vm_machine.proofs.Searching.{kept-stuck, found-next, found-none}
use Rattle.vm_machine.proofs.ready.next_ready.Goals as goal

pub returns-clause-whole : goal.returns-clause-whole
returns-clause-whole c = record {
  kept = kept-stuck c.args.parts.now c.is_none-parts.result c.requires.whole.kept;
  sound = c.requires.whole.sound;
  taken = c.requires.whole.taken;
  waits = λ h. found-none c.args.parts.now c.first_ready-found.result c.requires.whole.kept c.first_ready-found.ensures.value (ap not c.is_none-parts.ensures ∙ ap (λ (b : Bool). not (not b)) h);
}

pub returns-clause-found : goal.returns-clause-found
returns-clause-found c = found-next c.args.parts.now c.first_ready-found.result c.requires.whole.kept c.first_ready-found.ensures.value (omega (arith, c.if-len-parts.false, c.len.ensures))
