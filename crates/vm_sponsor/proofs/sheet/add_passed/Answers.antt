use Rattle.std.proofs.Common.{refl, ◌∙◌, ap}
use Rattle.vm_sponsor.specs.Ledger.{place_of, row_passing}
use Rattle.vm_sponsor.proofs.Rows.{row-written}
use Rattle.vm_sponsor.proofs.sheet.add_passed.Goals as goal

pub returns : goal.returns
returns c =
    let rows = c.args.rows.now.items in
    let row = c.index-row.result.now in
    rw c.raised.ensures (record {
      rows = row-written c.args.who (row_passing c.args.kind c.args.n) rows c.place_of-place.result row c.requires.named (c.place_of-place.ensures.place ∙ ap (place_of c.args.who) c.deref.ensures.value) c.index-row.ensures;
      len = refl;
      capacity = refl;
    })
