use Rattle.std.proofs.Common.{sym, ap, ◌∙◌}
use Rattle.std.specs.Prelude.{Option, is_some}
use Rattle.quad_memory.specs.declared.cells.SponsorCell.{SponsorCell}
use Rattle.vm_step.proofs.Typing.{sponsor-there}
use Rattle.vm_step.proofs.types.is_sponsor.Goals as goal

pub returns : goal.returns
returns c = c.is_some.ensures ∙ ap (λ (o : Option SponsorCell). is_some o) c.sponsor.ensures ∙ sym (sponsor-there c.args.quads.now.store c.args.w c.requires)
