use Rattle.std.proofs.Common.{refl, sym, arith}
use Rattle.std.proofs.lemmas.Result.{err_from_is_err_and}
use Rattle.uasm_image.specs.Reading.{read}
use Rattle.uasm_image.proofs.Parts.{image_made, image_read, end_failed, cells_failed}
use Rattle.uasm_image.proofs.reading.image_of.Goals as goal

pub unreachable-requires : goal.unreachable-requires
unreachable-requires c =
    image_made c.args.bytes.now c.in_ok-count.count c.in_ok-boot.boot c.in_ok-cells.cells.items (λ i. omega (arith, c.type_inv.bytes i))
    (record { count_is = sym c.in_ok-count.ensures.value; boot_is = sym c.in_ok-boot.ensures; cells_are = c.in_ok-cells.ensures }) c.in-None.ensures

pub returns : goal.returns
returns c =
    image_read c.args.bytes.now c.in_ok-count.count c.in_ok-boot.boot c.in_ok-cells.cells.items c.in-Some.image _
    (record { count_is = sym c.in_ok-count.ensures.value; boot_is = sym c.in_ok-boot.ensures; cells_are = c.in_ok-cells.ensures })
    (sym c.in_ok-end_at.ensures) c.in-Some.ensures

pub returns-in_err-count : goal.returns-in_err-count
unfolding read
returns-in_err-count c =
    let p = err_from_is_err_and c.from_residual.result c.from_residual.ensures.1 in
    rw (p.1, p.2, ← c.in_err-count.ensures.value) refl

pub returns-in_err-boot : goal.returns-in_err-boot
unfolding read
returns-in_err-boot c =
    let p = err_from_is_err_and c.from_residual-in_err-boot.result c.from_residual-in_err-boot.ensures.1 in
    rw (p.1, p.2, ← c.in_ok-count.ensures.value, ← c.in_err-boot.ensures) refl

pub returns-in_err-cells : goal.returns-in_err-cells
returns-in_err-cells c =
    let p = err_from_is_err_and c.from_residual-in_err-cells.result c.from_residual-in_err-cells.ensures.1 in
    rw (p.1, p.2) (cells_failed c.args.bytes.now c.in_ok-count.count c.in_ok-boot.boot c.in_err-cells.field-0.0 (sym c.in_ok-count.ensures.value)
    (sym c.in_ok-boot.ensures) c.in_err-cells.ensures)

pub returns-in_err-end_at : goal.returns-in_err-end_at
returns-in_err-end_at c =
    let p = err_from_is_err_and c.from_residual-in_err-end_at.result c.from_residual-in_err-end_at.ensures.1 in
    rw (p.1, p.2)
    (end_failed c.args.bytes.now c.in_ok-count.count c.in_ok-boot.boot c.in_ok-cells.cells.items c.in_err-end_at.field-0.0
    (record { count_is = sym c.in_ok-count.ensures.value; boot_is = sym c.in_ok-boot.ensures; cells_are = c.in_ok-cells.ensures })
    (sym c.in_err-end_at.ensures))
