use Rattle.std.proofs.Common.{◌≡◌, ap, sym, subst, ◌∙◌, arith, List, [], ◌∷◌, ◌++◌, length, length-append}
use Rattle.hum_code.specs.Layout.{Shape}
use Rattle.hum_emit.specs.Shaping.{kind_of}
use Rattle.hum_emit.specs.Rowing.{shape_at, shapes_in, IsTop}
use Rattle.hum_emit.proofs.Tops.{one_row, length_rows, new_top}
use Rattle.hum_emit.proofs.rows.Rows.enter.Goals as goal

pub returns : goal.returns
returns c =
    let now = c.args.self.now in
    let top = c.args.top in
    let kind = kind_of c.args.entry in
    let before = c.self.inside.rows.items in
    let after = c.push.new.self.items in
    let view = c.self.view_is in
    let rows : shapes_in after ≡ now ++ (kind ∷ shape_at now top) ∷ []
    = ap shapes_in c.in_ok-push.ensures.items
    ∙ one_row before (record { behind = top; entry = c.args.entry })
    ∙ (λ i. view i ++ (kind ∷ shape_at (view i) top) ∷ []) in
    let long = length_rows after in
    let short = length_rows before in
    let viewed = ap length view in
    let more = ap length c.in_ok-push.ensures.items ∙ length-append before (record { behind = top; entry = c.args.entry } ∷ []) in
    let counted = c.len.ensures in
    record {
      rows = rows;
      top = subst (λ (shapes : List Shape). IsTop shapes c.len.result (kind ∷ shape_at now top)) (sym rows)
          (new_top now (kind ∷ shape_at now top) c.len.result (omega (arith, long, short, viewed, more, counted)));
    }
