-- What is printed is the text of its tree.
use Rattle.std.proofs.Common.{◌≡◌, ◌≤◌, ◌*◌, true, false, [], length, List, arith}
use Rattle.hum_syntax.specs.declared.tree.Stmt.{Stmt}
use Rattle.hum_syntax.specs.Formed.{are_formed}
use Rattle.hum_syntax.specs.Tokens.{weight_of_kinds}
use Rattle.hum_syntax.specs.Writes.{text_of}
use Rattle.hum_syntax.specs.Prints.{printed}
use Rattle.hum_syntax.specs.Laws.{IsTextOf}
use Rattle.hum_syntax.proofs.LexedTexts.{text_lexed}
use Rattle.hum_syntax.proofs.PrintedTrees.{printed_spelled}
use Rattle.hum_syntax.proofs.ShortTexts.{written-short}
use Rattle.hum_syntax.proofs.WritableTrees.{printed_writes}

pub text_of_tree : (xs : List Stmt) → are_formed xs ≡ true → IsTextOf (text_of (printed xs)) xs
text_of_tree xs h =
    let is = text_lexed (printed xs) (printed_writes xs h) in
    record { tokens = is.0; lexes = is.1; kinds = is.2; spell = λ n below. printed_spelled n xs h below }

pub text_is_short : (xs : List Stmt) → are_formed xs ≡ true → length (text_of (printed xs)) ≤ 129 * weight_of_kinds (printed xs)
text_is_short xs h = omega (arith, written-short false [] (printed xs) (printed_writes xs h))
