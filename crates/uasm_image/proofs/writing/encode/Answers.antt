use Rattle.std.proofs.Common.{◌≡◌, ◌<◌, ◌++◌, List, length, get_or, subst}
use Rattle.cap_words.specs.declared.word.Quad.{Quad}
use Rattle.uasm_image.specs.Spelled.{magic, number, word, cell, is_exact_quad}
use Rattle.uasm_image.proofs.Joined.{piece_joined, one_more}
use Rattle.uasm_image.proofs.writing.encode.Goals as goal

pub loop-cell-preserved : goal.loop-cell-preserved
loop-cell-preserved c =
    let i = c.args.image.now in
    let at = c.loop-cell.cell-index in
    let same = c.cells-cells.ensures.value in
    let below = subst (λ (xs : List Quad). at < length xs) same c.loop-cell-test.true in
    let item = subst (λ (xs : List Quad). c.cell-item.result ≡ get_or xs at c.cell-item.result) same c.cell-item.is in
    record {
      written = piece_joined cell (magic ++ number (length i.cells) ++ word i.boot) i.cells at c.cell-item.result c.loop-cell.bytes.items
          c.push_cell.new.bytes.items below item c.loop-cell.invariant.written c.in_ok-push_cell.ensures.pushed;
      exact = one_more is_exact_quad i.cells at c.cell-item.result below item c.loop-cell.invariant.exact c.in_ok-push_cell.ensures.exact;
    }
