use Rattle.std.proofs.Common.{sym, ◌∙◌, arith, length-take-le}
use Rattle.hum_lex.proofs.Reading.{fault_open, fault_text, token_text, bad_within}
use Rattle.hum_lex.proofs.front.text_front.Goals as goal
use Rattle.hum_lex.proofs.front.text_front.Goals.{in-Text, in-Bad}

pub returns-in_default : goal.returns-in_default
returns-in_default c called = fault_open called c.args.rest.now (sym c.inside_len.ensures.value ∙ c.in_default.is)

pub overflow_add-result-in-Bad : goal.overflow_add-result-in-Bad
overflow_add-result-in-Bad c =
    let within = bad_within _ _ (rw c.in-Bad.is at c.in_ok-text.ensures) in
    let len = c.in-Some.ensures.within in
    let taken = length-take-le c.in-Some.len c.args.rest.now (omega arith) in
    omega arith

pub returns : goal.returns
returns c called = elim c.match-branch-2.branch [
  | in-Text w ↦ (let text = rw w.in-Text.is at c.in_ok-text.ensures in
      rw w.result-is (token_text called c.args.rest.now w.in-Text.text c.in-Some.len (sym c.inside_len.ensures.value ∙ c.in-Some.is) text.0 text.1))
  | in-Bad w ↦ (let bad = rw w.in-Bad.is at c.in_ok-text.ensures in
      rw w.result-is (fault_text called c.args.rest.now c.in-Some.len w.in-Bad.at (sym c.inside_len.ensures.value ∙ c.in-Some.is) bad))
]
