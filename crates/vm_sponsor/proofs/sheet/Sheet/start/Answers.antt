use Rattle.std.proofs.Common.{ap, sym, ◌∙◌, refl, Some}
use Rattle.std.specs.Prelude.{not}
use Rattle.instr_table.specs.Sheet.{Running}
use Rattle.vm_sponsor.specs.Answers.{start_answer}
use Rattle.vm_sponsor.proofs.Steps.{Read, read-runs, signal_step, standing-cap}
use Rattle.vm_sponsor.proofs.sheet.Sheet.start.Goals as goal

pub returns-then-not-is_same-clause-answer : goal.returns-then-not-is_same-clause-answer
returns-then-not-is_same-clause-answer c =
    let cell = c.sponsor_cell-cell in
    let s = c.args.quads.now.store in
    let rows = c.args.self.now.rows in
    let k : Read s rows c.args.who cell.result = record { named = c.requires.who; cell = cell.ensures.cell; amounts = cell.ensures.amounts } in
    ap start_answer (sym (read-runs s rows c.args.who cell.result k ∙ ap not (sym c.is_same.ensures ∙ c.if-not-is_same.true)))

pub returns : goal.returns
returns c =
    let cell = c.sponsor_cell-cell in
    let s = c.args.quads.now.store in
    let rows = c.args.self.now.rows in
    let k : Read s rows c.args.who cell.result = record { named = c.requires.who; cell = cell.ensures.cell; amounts = cell.ensures.amounts } in
    let step = signal_step c.args.quads.now c.args.self.now c.args.who cell.result c.args.signal (Running (Some c.args.signal)) c.requires.belongs k (standing-cap c.args.signal c.requires.signal) in
    rw (c.set_sponsor.ensures, c.with_signal.ensures) (record {
      answer = ap start_answer (sym (read-runs s rows c.args.who cell.result k ∙ ap not (sym c.is_same.ensures ∙ c.if-not-is_same.false)));
      sheet = step.0;
      running = tt;
      rows = refl;
      keeps = step.1;
    })
