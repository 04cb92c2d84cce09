use Rattle.std.proofs.Common.{ap, ◌++◌, arith}
use Rattle.cap_words.proofs.Frames.{among-left, among-right}
use Rattle.vm_sponsor.specs.Totals.{total}
use Rattle.vm_sponsor.specs.Sheets.{sheet_of, quads_of}
use Rattle.vm_sponsor.proofs.Plain.{passes-total}
use Rattle.vm_sponsor.proofs.Rows.{keeps-then}
use Rattle.vm_sponsor.proofs.sheet.Sheet.transfer.Goals as goal

pub receive-requires-clause-fits : goal.receive-requires-clause-fits
receive-requires-clause-fits c = λ other.
    let sheet = sheet_of c.args.quads.now.store c.args.self.now.rows in
    let less = passes-total sheet c.args.from c.args.kind other c.args.n c.requires.enough in
    let same = ap (total other) c.pass.ensures.sheet in
    omega (arith, less, same, c.requires.belongs.sound.fits other)

pub returns-clause-keeps : goal.returns-clause-keeps
returns-clause-keeps c =
    let vs = quads_of c.args.from in
    let ws = quads_of c.args.to in
    keeps-then c.args.quads.now c.pass.new.quads c.receive.new.quads c.args.self.now c.pass.new.self c.receive.new.self vs ws (vs ++ ws) c.pass.ensures.keeps c.receive.ensures.keeps (λ w i. among-left w vs ws i) (λ w i. among-right w vs ws i)
