use Rattle.std.proofs.Common.{ℕ, ◌∙◌, ap, arith}
use Rattle.vm_sponsor.specs.Ledger.{row_of}
use Rattle.vm_sponsor.specs.Answers.{short_answer}
use Rattle.vm_sponsor.proofs.Steps.{Read, read-held, short-answered, enough-answered}
use Rattle.vm_sponsor.proofs.sheet.Sheet.grant.Goals as goal

pub returns-then-holds-n-clause-answer : goal.returns-then-holds-n-clause-answer
returns-then-holds-n-clause-answer c =
    let cell = c.sponsor_cell in
    let s = c.args.quads.now.store in
    let rows = c.args.self.now.rows in
    let k : Read s rows c.args.from cell.result = record { named = c.requires.from; cell = cell.ensures.cell; amounts = cell.ensures.amounts } in
    let is = read-held s rows c.args.from cell.result c.args.kind c.held_of-holds.result k (c.held_of-holds.ensures (row_of c.args.from rows)) in
    short-answered c.held_of-holds.result c.args.n c.if-holds-n.true ∙ ap (λ (h : ℕ). short_answer h c.args.n) is

pub transfer-requires-clause-enough : goal.transfer-requires-clause-enough
transfer-requires-clause-enough c =
    let cell = c.sponsor_cell in
    let s = c.args.quads.now.store in
    let rows = c.args.self.now.rows in
    let k : Read s rows c.args.from cell.result = record { named = c.requires.from; cell = cell.ensures.cell; amounts = cell.ensures.amounts } in
    let is = read-held s rows c.args.from cell.result c.args.kind c.held_of-holds.result k (c.held_of-holds.ensures (row_of c.args.from rows)) in
    omega (arith, is, c.if-holds-n.false)

pub returns-clause-answer : goal.returns-clause-answer
returns-clause-answer c =
    let cell = c.sponsor_cell in
    let s = c.args.quads.now.store in
    let rows = c.args.self.now.rows in
    let k : Read s rows c.args.from cell.result = record { named = c.requires.from; cell = cell.ensures.cell; amounts = cell.ensures.amounts } in
    let is = read-held s rows c.args.from cell.result c.args.kind c.held_of-holds.result k (c.held_of-holds.ensures (row_of c.args.from rows)) in
    enough-answered c.held_of-holds.result c.args.n c.if-holds-n.false ∙ ap (λ (h : ℕ). short_answer h c.args.n) is
