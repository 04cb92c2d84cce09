use Rattle.std.proofs.Common.{◌++◌, ◌∷◌, [], ap, sym, ◌∙◌, arith, map, append_assoc}
use Rattle.uasm_read.specs.Lines.{line_of as line_in_text}
use Rattle.uasm_read.proofs.Parts.{lines_last, lines_more}
use Rattle.uasm_read.proofs.read.read_lines.Goals as goal

pub returns-in-None-clause-lines : goal.returns-in-None-clause-lines
returns-in-None-clause-lines c =
    let last = lines_last c.loop-lines.rest.now c.cut_line.result.0.now (rw c.in-None.is at c.cut_line.ensures.lines) in
    c.in_ok-push-in-None.ensures.items ∙ ap (λ line. c.loop-lines.lines.items ++ line ∷ []) c.in_ok-line_of-in-None.ensures
    ∙ ap (λ lines. c.loop-lines.lines.items ++ map line_in_text lines) (sym last) ∙ c.loop-lines.invariant.same

pub loop-lines-preserved : goal.loop-lines-preserved
loop-lines-preserved c =
    let more = lines_more c.loop-lines.rest.now c.cut_line.result.0.now c.in-Some.more.now (rw c.in-Some.is at c.cut_line.ensures.lines) in
    let shorter = rw c.in-Some.is at c.cut_line.ensures.shorter in
    record {
      same = rw (c.in_ok-push-in-Some.ensures.items, c.in_ok-line_of-in-Some.ensures, c.without_return.ensures, append_assoc)
          (ap (λ lines. c.loop-lines.lines.items ++ map line_in_text lines) (sym more) ∙ c.loop-lines.invariant.same);
      few = omega (arith, shorter, c.loop-lines.invariant.few, c.in_ok-push-in-Some.ensures.len);
    }
