use Rattle.std.proofs.Common.{sym, ◌∙◌}
use Rattle.hum_lex.proofs.Reading.{at_long, at_run_form, at_allowed, at_refused}
use Rattle.hum_lex.proofs.front.run_front.Goals as goal
use Rattle.hum_lex.proofs.front.run_front.Goals.{in-Ok, in-Err}

pub returns-then-len-gt-RUN_LIMIT : goal.returns-then-len-gt-RUN_LIMIT
returns-then-len-gt-RUN_LIMIT c called = at_long c.args.bytes.now c.len_of-len.result c.requires.some c.requires.run c.len_of-len.ensures.value called c.if-len-gt-RUN_LIMIT.true

pub kind_of_run-requires : goal.kind_of_run-requires
kind_of_run-requires c = at_run_form c.args.bytes.now c.len_of-len.result c.requires.some c.requires.run c.len_of-len.ensures.value c.if-len-gt-RUN_LIMIT.false

pub returns : goal.returns
returns c called = elim c.match-branch-2.branch [
  | in-Ok w ↦ rw w.result-is (at_allowed c.args.bytes.now c.len_of-len.result c.requires.some c.requires.run c.len_of-len.ensures.value c.if-len-gt-RUN_LIMIT.false w.in-Ok.kind (sym w.in-Ok.is ∙ c.in_ok-kind.ensures) called)
  | in-Err w ↦ rw w.result-is (at_refused c.args.bytes.now c.len_of-len.result c.requires.some c.requires.run c.len_of-len.ensures.value c.if-len-gt-RUN_LIMIT.false w.in-Err.cause (sym w.in-Err.is ∙ c.in_ok-kind.ensures) called)
]
