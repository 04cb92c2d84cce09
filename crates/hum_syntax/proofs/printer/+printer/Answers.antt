use Rattle.std.proofs.Common.{arith}
use Rattle.hum_syntax.proofs.Written.{expr_last, expr_more, pat_last, pat_more, branch_last, branch_more}
use Rattle.hum_syntax.proofs.printer.+printer.Goals as goal
use Rattle.hum_syntax.proofs.printer.+printer.Goals.{branches-then-i-branches+in_ok-keyword, branches-else-i-branches, pat_tuple-then-i-items+in_ok-token, pat_tuple-else-i-items, tuple-then-i-items+in_ok-part, tuple-else-i-items+in_ok-part-2+in_ok-token}

pub branches-loop-i-preserved : goal.branches-loop-i-preserved
branches-loop-i-preserved t c =
    let xs = c.args.branches.now in
    let i = c.loop-i.i in
    let x = c.index-branches-i.result in
    elim c.if-i-branches.branch [
      | branches-then-i-branches+in_ok-keyword w ↦
          (let e = branch_more xs i x c.loop-i.out c.index-branches-i.is (omega arith) in
          cc (e, w.out-is, w.in_ok-keyword.ensures, c.in_ok-branch.ensures, c.loop-i.invariant))
      | branches-else-i-branches w ↦
          (let e = branch_last xs i x c.loop-i.out c.index-branches-i.is (omega arith) (omega arith) in
          cc (e, w.out-is, c.in_ok-branch.ensures, c.loop-i.invariant))
    ]

pub pat_tuple-loop-i-preserved : goal.pat_tuple-loop-i-preserved
pat_tuple-loop-i-preserved t c =
    let xs = c.args.items.now in
    let i = c.loop-i.i in
    let x = c.index-items-i.result in
    elim c.if-i-items.branch [
      | pat_tuple-then-i-items+in_ok-token w ↦
          (let e = pat_more xs i x c.loop-i.out c.index-items-i.is (omega arith) in
          cc (e, w.out-is, w.in_ok-token.ensures, c.in_ok-pat_part.ensures, c.is_wide.ensures, c.form_of_pat.ensures, c.loop-i.invariant))
      | pat_tuple-else-i-items w ↦
          (let e = pat_last xs i x c.loop-i.out c.index-items-i.is (omega arith) (omega arith) in
          cc (e, w.out-is, c.in_ok-pat_part.ensures, c.is_wide.ensures, c.form_of_pat.ensures, c.loop-i.invariant))
    ]

pub tuple-loop-i-preserved : goal.tuple-loop-i-preserved
tuple-loop-i-preserved t c =
    let xs = c.args.items.now in
    let i = c.loop-i.i in
    let x = c.index-items-i.result in
    elim c.if-i-items.branch [
      | tuple-then-i-items+in_ok-part w ↦
          (let e = expr_last xs i x c.loop-i.out c.index-items-i.is (omega arith) (omega arith) in
          cc (e, w.out-is, w.in_ok-part.ensures, w.is_tuple.ensures, w.form_of_expr.ensures, c.loop-i.invariant))
      | tuple-else-i-items+in_ok-part-2+in_ok-token w ↦
          (let e = expr_more xs i x c.loop-i.out c.index-items-i.is (omega arith) in
          cc (e, w.out-is, w.in_ok-token.ensures, w.in_ok-part-2.ensures, w.is_wide.ensures, w.form_of_expr-else-i-items.ensures, c.loop-i.invariant))
    ]
