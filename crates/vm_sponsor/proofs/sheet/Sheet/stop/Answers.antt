use Rattle.std.proofs.Common.{ap, sym, ◌∙◌, refl}
use Rattle.cap_words.specs.Words.{undef}
use Rattle.instr_table.specs.Sheet.{Account, Stopped, signal_in}
use Rattle.vm_sponsor.proofs.Steps.{Read, read-account, signal_step}
use Rattle.vm_sponsor.proofs.sheet.Sheet.stop.Goals as goal

pub returns : goal.returns
returns c =
    let cell = c.sponsor_cell-cell in
    let s = c.args.quads.now.store in
    let rows = c.args.self.now.rows in
    let k : Read s rows c.args.who cell.result = record { named = c.requires.who; cell = cell.ensures.cell; amounts = cell.ensures.amounts } in
    let step = signal_step c.args.quads.now c.args.self.now c.args.who cell.result undef Stopped c.requires.belongs k refl in
    rw (c.set_sponsor.ensures, c.with_signal.ensures) (record {
      signal = c.prepared_in.ensures ∙ ap (λ (a : Account). signal_in a.standing) (sym (read-account s rows c.args.who cell.result k));
      sheet = step.0;
      rows = refl;
      keeps = step.1;
    })
