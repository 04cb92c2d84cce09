use Rattle.std.proofs.Common.{◌≡◌, ◌∙◌, ◌++◌, ◌∷◌, [], ap, sym, arith, append-nil, append_assoc, Some, false}
use Rattle.uasm_read.specs.Texts.{lines_of}
use Rattle.quad_debug.specs.declared.line.Line.{Line}
use Rattle.quad_debug.specs.Script.{line_of as spec_line, commands_in, commands_of, is_bad}
use Rattle.quad_debug.proofs.Reading.{bad_from-one, bad-here, bad-last, bad-more, commands-last, commands-more}
use Rattle.quad_debug.proofs.script.read_script.Goals as goal
use Rattle.quad_debug.proofs.script.read_script.Goals.{in-Blank, in-Says+in_ok-add-in-Says}

pub returns-in-Bad-clause-refused : goal.returns-in-Bad-clause-refused
returns-in-Bad-clause-refused c = λ line e.
    let number : c.lines.number ≡ line = cc in
    sym (bad_from-one c.args.bytes.now) ∙ sym c.lines.invariant.bad
    ∙ bad-here c.lines.rest.now c.cut_line.result.0.now _ c.cut_line.ensures.lines c.lines.number (ap is_bad (sym c.in-Bad.ensures.value)) ∙ ap Some number

pub returns-in_default-clause-commands : goal.returns-in_default-clause-commands
returns-in_default-clause-commands c =
    let rest = c.lines.rest.now in
    let line = c.cut_line.result.0.now in
    let is : lines_of rest ≡ line ∷ [] = rw c.in_default.is at c.cut_line.ensures.lines in
    let items : c.match-line_of.commands.items ≡ c.lines.commands.items ++ commands_in c.line_of.result =
    elim c.match-line_of.branch [
      | in-Blank w ↦ ap (λ v. v.items) w.commands-is ∙ sym (append-nil c.lines.commands.items) ∙ ap (λ (l : Line). c.lines.commands.items ++ commands_in l) (sym w.in-Blank.is)
      | in-Says+in_ok-add-in-Says w ↦ ap (λ v. v.items) w.commands-is ∙ w.in_ok-add-in-Says.ensures ∙ ap (λ (l : Line). c.lines.commands.items ++ commands_in l) (sym w.in-Says.is)
    ] in
    items ∙ ap (λ (l : Line). c.lines.commands.items ++ commands_in l) c.line_of.ensures.value
    ∙ ap (λ cs. c.lines.commands.items ++ cs) (sym (append-nil (commands_in (spec_line line))) ∙ sym (commands-last rest line is)) ∙ c.lines.invariant.same

pub returns-in_default-clause-formed : goal.returns-in_default-clause-formed
returns-in_default-clause-formed c =
    let rest = c.lines.rest.now in
    let line = c.cut_line.result.0.now in
    let is : lines_of rest ≡ line ∷ [] = rw c.in_default.is at c.cut_line.ensures.lines in
    let good : is_bad (spec_line c.cut_line.result.0.now) ≡ false =
    ap is_bad (sym c.line_of.ensures.value) ∙ elim c.match-line_of.branch [ in-Blank w ↦ ap is_bad w.in-Blank.is | in-Says+in_ok-add-in-Says w ↦ ap is_bad w.in-Says.is ] in
    sym (bad_from-one c.args.bytes.now) ∙ sym c.lines.invariant.bad ∙ bad-last rest line is c.lines.number good

pub lines-preserved : goal.lines-preserved
lines-preserved c =
    let rest = c.lines.rest.now in
    let line = c.cut_line.result.0.now in
    let after = c.in-Some.after.now in
    let is : lines_of rest ≡ line ∷ lines_of after = rw c.in-Some.is at c.cut_line.ensures.lines in
    let shorter = rw c.in-Some.is at c.cut_line.ensures.shorter in
    let items : c.match-line_of.commands.items ≡ c.lines.commands.items ++ commands_in c.line_of.result =
    elim c.match-line_of.branch [
      | in-Blank w ↦ ap (λ v. v.items) w.commands-is ∙ sym (append-nil c.lines.commands.items) ∙ ap (λ (l : Line). c.lines.commands.items ++ commands_in l) (sym w.in-Blank.is)
      | in-Says+in_ok-add-in-Says w ↦ ap (λ v. v.items) w.commands-is ∙ w.in_ok-add-in-Says.ensures ∙ ap (λ (l : Line). c.lines.commands.items ++ commands_in l) (sym w.in-Says.is)
    ] in
    let good : is_bad (spec_line c.cut_line.result.0.now) ≡ false =
    ap is_bad (sym c.line_of.ensures.value) ∙ elim c.match-line_of.branch [ in-Blank w ↦ ap is_bad w.in-Blank.is | in-Says+in_ok-add-in-Says w ↦ ap is_bad w.in-Says.is ] in
    record {
      same = ap (λ cs. cs ++ commands_of after) (items ∙ ap (λ (l : Line). c.lines.commands.items ++ commands_in l) c.line_of.ensures.value)
          ∙ append_assoc c.lines.commands.items (commands_in (spec_line line)) (commands_of after)
          ∙ ap (λ cs. c.lines.commands.items ++ cs) (sym (commands-more rest line after is)) ∙ c.lines.invariant.same;
      bad = sym (bad-more rest line after is c.lines.number good) ∙ c.lines.invariant.bad;
      within = omega (arith, shorter, c.lines.invariant.within);
    }
