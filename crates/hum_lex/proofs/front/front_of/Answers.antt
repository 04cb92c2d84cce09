use Rattle.std.proofs.Common.{sym, ◌∙◌, slice_index}
use Rattle.hum_lex.proofs.Reading.{at_blank, at_mark, at_stray, stray_byte, mark_carried}
use Rattle.hum_lex.proofs.front.front_of.Goals as goal
use Rattle.hum_lex.proofs.front.front_of.Goals.{in-Some, in-None}

pub returns-then-is_blank : goal.returns-then-is_blank
returns-then-is_blank c = at_blank c.args.called c.args.bytes.now c.requires (sym c.is_blank.ensures ∙ c.if-is_blank.true)

pub returns : goal.returns
returns c = elim c.match-mark.branch [
  | in-Some w ↦ (let is = sym c.mark.ensures ∙ w.in-Some.is in
      rw w.result-is (at_mark c.args.called c.args.bytes.now c.requires w.in-Some.kind is (mark_carried c.args.called (slice_index c.args.bytes.now 0) w.in-Some.kind is)))
  | in-None w ↦ rw w.result-is (at_stray c.args.called c.args.bytes.now c.requires
      (stray_byte c.args.called (slice_index c.args.bytes.now 0) (sym c.is_blank.ensures ∙ c.if-is_blank.false) (sym c.is_run_byte.ensures ∙ c.if-is_run_byte.false) c.if-first-eq35.false c.if-first-eq34.false (sym c.mark.ensures ∙ w.in-None.is)))
]
