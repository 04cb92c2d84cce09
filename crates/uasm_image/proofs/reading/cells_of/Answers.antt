use Rattle.std.proofs.Common.{◌≡◌, ◌+◌, ◌*◌, sym, arith}
use Rattle.std.proofs.lemmas.Result.{err_from_is_err_and}
use Rattle.uasm_image.specs.Reading.{cells_at}
use Rattle.uasm_image.proofs.Cells.{goes_on, ends, is_done}
use Rattle.uasm_image.proofs.reading.cells_of.Goals as goal

pub returns-in_err-cell : goal.returns-in_err-cell
returns-in_err-cell c =
    let p = err_from_is_err_and c.from_residual.result c.from_residual.ensures.1 in
    rw (p.1, p.2) (ends c.in_err-cell.field-0.0 c.loop-n.cells.items c.args.count c.loop-n.n (12 + 16 * c.loop-n.n) c.args.bytes.now
    (cells_at c.args.count c.args.bytes.now 12 c.args.count) c.loop-n-test.true (sym c.in_err-cell.ensures) c.loop-n.invariant)

pub loop-n-preserved : goal.loop-n-preserved
loop-n-preserved c =
    let h : c.push.new.self.items ≡ _ = c.in_ok-push.ensures.items in
    rw h (goes_on c.loop-n.cells.items c.args.count c.loop-n.n (12 + 16 * c.loop-n.n) _ c.args.bytes.now c.in_ok-cell.cell
    (cells_at c.args.count c.args.bytes.now 12 c.args.count) c.loop-n-test.true (omega arith) (sym c.in_ok-cell.ensures) c.loop-n.invariant)

pub returns : goal.returns
returns c = is_done c.loop-n.cells.items c.args.count c.loop-n.n (12 + 16 * c.loop-n.n) c.args.bytes.now _ c.loop-n-test.false c.loop-n.invariant
