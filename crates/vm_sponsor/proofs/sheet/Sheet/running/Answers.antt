use Rattle.std.proofs.Common.{ap, sym, ◌∙◌}
use Rattle.std.specs.Prelude.{not}
use Rattle.vm_sponsor.proofs.Steps.{read-runs}
use Rattle.vm_sponsor.proofs.sheet.Sheet.running.Goals as goal

pub returns : goal.returns
returns c =
    let cell = c.sponsor_cell in
    ap not c.is_same.ensures ∙ sym (read-runs c.args.quads.now.store c.args.self.now.rows c.args.who cell.result (record { named = c.requires.who; cell = cell.ensures.cell; amounts = cell.ensures.amounts }))
