use Rattle.std.proofs.Common.{◌≡◌, ◌≤◌, ◌*◌, length, sym, subst}
use Rattle.hum_syntax.specs.Tokens.{weight_of_kinds}
use Rattle.hum_syntax.specs.Writes.{text_of}
use Rattle.hum_syntax.specs.Prints.{printed}
use Rattle.hum_syntax.specs.Laws.{IsTextOf}
use Rattle.hum_syntax.proofs.Texts.{text_of_tree, text_is_short}
use Rattle.hum_syntax.proofs.printer.print.Goals as goal

value : (c : goal.After-into_bytes) → c.into_bytes.result.items ≡ text_of (printed c.args.tree.now.statements)
value c = cc (c.into_bytes.ensures, c.in_ok-stmts.ensures, c.new-out.ensures, c.as_slice.ensures)

pub returns-clause-text : goal.returns-clause-text
returns-clause-text c =
    let xs = c.args.tree.now.statements in subst (λ t. IsTextOf t xs) (sym (value c)) (text_of_tree xs c.args.tree.now.formed)

pub returns-clause-short : goal.returns-clause-short
returns-clause-short c =
    let xs = c.args.tree.now.statements in
    subst (λ t. length t ≤ 129 * weight_of_kinds (printed xs)) (sym (value c)) (text_is_short xs c.args.tree.now.formed)
