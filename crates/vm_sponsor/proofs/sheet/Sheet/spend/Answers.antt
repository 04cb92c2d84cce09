use Rattle.std.proofs.Common.{ap, sym, ◌∙◌, refl}
use Rattle.instr_table.specs.Sheet.{Account, short}
use Rattle.vm_sponsor.specs.Ledger.{row_of}
use Rattle.vm_sponsor.specs.Sheets.{account_with}
use Rattle.vm_sponsor.specs.Answers.{spend_answer}
use Rattle.vm_sponsor.proofs.Plain.{covered}
use Rattle.vm_sponsor.proofs.Steps.{Read, read-account, read-fits, spend_step}
use Rattle.vm_sponsor.proofs.sheet.Sheet.spend.Goals as goal

pub paid_cell-requires : goal.paid_cell-requires
paid_cell-requires c =
    let cell = c.sponsor_cell-cell in
    let s = c.args.quads.now.store in
    let rows = c.args.self.now.rows in
    let k : Read s rows c.args.who cell.result = record { named = c.requires.who; cell = cell.ensures.cell; amounts = cell.ensures.amounts } in
    let m = covered (account_with (row_of c.args.who rows) cell.result) c.args.charge (sym (c.in-None.ensures (row_of c.args.who rows))) in
    record { amounts = cell.ensures.amounts; fits = read-fits s c.args.self.now c.args.who cell.result c.requires.belongs k; cycles = m.cycles; memory = m.memory; events = m.events }

pub returns-in-Some-clause-answer : goal.returns-in-Some-clause-answer
returns-in-Some-clause-answer c =
    let cell = c.sponsor_cell-cell in
    let s = c.args.quads.now.store in
    let rows = c.args.self.now.rows in
    let k : Read s rows c.args.who cell.result = record { named = c.requires.who; cell = cell.ensures.cell; amounts = cell.ensures.amounts } in
    ap spend_answer (c.in-Some.ensures (row_of c.args.who rows) ∙ ap (λ (a : Account). short a c.args.charge) (sym (read-account s rows c.args.who cell.result k)))

pub returns-in-None : goal.returns-in-None
returns-in-None c =
    let cell = c.sponsor_cell-cell in
    let s = c.args.quads.now.store in
    let rows = c.args.self.now.rows in
    let k : Read s rows c.args.who cell.result = record { named = c.requires.who; cell = cell.ensures.cell; amounts = cell.ensures.amounts } in
    let none = c.in-None.ensures (row_of c.args.who rows) in
    let step = spend_step c.args.quads.now c.args.self.now c.args.who cell.result c.paid_cell.result c.args.charge c.requires.belongs k c.paid_cell.ensures.amounts c.paid_cell.ensures.paid (sym none) in
    rw c.set_sponsor.ensures (record {
      answer = ap spend_answer (none ∙ ap (λ (a : Account). short a c.args.charge) (sym (read-account s rows c.args.who cell.result k)));
      sheet = step.0;
      ran_out = tt;
      rows = refl;
      keeps = step.1;
    })
