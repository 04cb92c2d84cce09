use Rattle.std.proofs.Common.{◌∙◌}
use Rattle.cap_words.specs.Seen.{seen}
use Rattle.vm_step.specs.Step.{sheet_in}
use Rattle.vm_step.proofs.Charges.{new-charged}
use Rattle.vm_step.proofs.charge.charge_by_state.Goals as goal

pub returns-in-SponsorNew : goal.returns-in-SponsorNew
returns-in-SponsorNew c = rw c.in-SponsorNew.is (λ next.
    c.new_sponsor_charge.ensures ∙ new-charged (seen c.args.quads.now.store) (sheet_in c.args.quads.now c.args.sheet.now) next c.may_grow.result c.may_grow.ensures)
