use Rattle.std.proofs.Common.{refl, sym, ◌∙◌, ap, arith}
use Rattle.std.specs.Prelude.{slice_get}
use Rattle.vm_sponsor.proofs.Rows.{passed-more, passed-found, passed-all, row_of-place}
use Rattle.vm_sponsor.proofs.sheet.place_of.Goals as goal

pub loop-place-preserved : goal.loop-place-preserved
loop-place-preserved c =
    let rows = c.args.rows.now in
    (refl, omega (arith, c.loop-place-test.true), passed-more c.args.who c.loop-place.place rows c.index-rows-place.result c.loop-place.invariant.2 c.loop-place-test.true (sym c.is_same.ensures ∙ c.if-not-is_same.true))

pub returns-else-not-is_same : goal.returns-else-not-is_same
returns-else-not-is_same c =
    let rows = c.args.rows.now in
    let found = passed-found c.args.who c.loop-place.place rows c.index-rows-place.result c.loop-place.invariant.2 c.loop-place-test.true (sym c.is_same.ensures ∙ c.if-not-is_same.false) in
    record { place = sym found; row = ap (slice_get rows) (sym found) ∙ row_of-place c.args.who rows c.requires }

pub returns-after-loop-place : goal.returns-after-loop-place
returns-after-loop-place c = absurd (passed-all c.args.who c.loop-place.place c.args.rows.now c.loop-place.invariant.2 c.loop-place-test.false c.requires)
