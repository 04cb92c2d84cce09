use Rattle.std.proofs.Common.{◌++◌}
use Rattle.vm_sponsor.specs.Sheets.{sheet_of, quads_of}
use Rattle.vm_sponsor.proofs.Rows.{keeps-then}
use Rattle.vm_sponsor.proofs.Steps.{reclaimed}
use Rattle.vm_sponsor.proofs.sheet.Sheet.reclaim.Goals as goal

pub returns-clause-sheet : goal.returns-clause-sheet
returns-clause-sheet c =
    reclaimed (sheet_of c.args.quads.now.store c.args.self.now.rows)
    (sheet_of c.move_all.new.quads.store c.move_all.new.self.rows)
    (sheet_of c.move_all-2.new.quads.store c.move_all-2.new.self.rows)
    (sheet_of c.move_all-3.new.quads.store c.move_all-3.new.self.rows)
    c.args.from c.args.to c.move_all.ensures.sheet c.move_all-2.ensures.sheet c.move_all-3.ensures.sheet

pub returns-clause-keeps : goal.returns-clause-keeps
returns-clause-keeps c =
    let ws = quads_of c.args.from ++ quads_of c.args.to in
    let two = keeps-then c.args.quads.now c.move_all.new.quads c.move_all-2.new.quads c.args.self.now c.move_all.new.self c.move_all-2.new.self ws ws ws c.move_all.ensures.keeps c.move_all-2.ensures.keeps (λ w i. i) (λ w i. i) in
    keeps-then c.args.quads.now c.move_all-2.new.quads c.move_all-3.new.quads c.args.self.now c.move_all-2.new.self c.move_all-3.new.self ws ws ws two c.move_all-3.ensures.keeps (λ w i. i) (λ w i. i)
