use Rattle.std.proofs.Common.{◌≡◌, map, drop}
use Rattle.hum_syntax.specs.Writes.{written}
use Rattle.hum_syntax.specs.Prints as spec
use Rattle.hum_syntax.specs.Prints.{part_of_expr, part_of_pat, piece_of_stmt, piece_of_arm, piece_of_branch, printed}
use Rattle.hum_syntax.proofs.printer.+printer.Given as goal

abbrev pub invariant-arms-loop-arm : goal.invariant-arms-loop-arm
invariant-arms-loop-arm l =
    written l.out (spec.in_line (map piece_of_arm (drop l.arm-index l.arms))) ≡ written l.fn.out (spec.in_line (map piece_of_arm l.arms))

abbrev pub invariant-branches-loop-i : goal.invariant-branches-loop-i
invariant-branches-loop-i l =
    written l.out (spec.branches (map piece_of_branch (drop l.i l.branches))) ≡ written l.fn.out (spec.branches (map piece_of_branch l.branches))

abbrev pub invariant-pat_tuple-loop-i : goal.invariant-pat_tuple-loop-i
invariant-pat_tuple-loop-i l =
    written l.out (spec.tuple (map spec.as_term (map part_of_pat (drop l.i l.items)))).tokens
    ≡ written l.fn.out (spec.tuple (map spec.as_term (map part_of_pat l.items))).tokens

abbrev pub invariant-stmts-loop-statement : goal.invariant-stmts-loop-statement
invariant-stmts-loop-statement l = written l.out (printed (drop l.statement-index l.statements)) ≡ written l.fn.out (printed l.statements)

abbrev pub invariant-tuple-loop-i : goal.invariant-tuple-loop-i
invariant-tuple-loop-i l =
    written l.out (spec.tuple (spec.items_in (map part_of_expr (drop l.i l.items)))).tokens
    ≡ written l.fn.out (spec.tuple (spec.items_in (map part_of_expr l.items))).tokens
