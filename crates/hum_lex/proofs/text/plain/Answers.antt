use Rattle.std.proofs.Common.{sym, ◌∙◌}
use Rattle.hum_lex.proofs.Points.{plain_at, none_plain, none_decoded}
use Rattle.hum_lex.proofs.text.plain.Goals as goal

pub returns-then-is_plain : goal.returns-then-is_plain
returns-then-is_plain c =
    plain_at c.args.bytes.now c.in-Some-default.c c.decode.result.1 (sym c.decode.ensures.char ∙ c.in-Some-default.is-0) c.decode.ensures.size (sym c.is_plain.ensures ∙ c.if-is_plain.true)

pub returns-else-is_plain : goal.returns-else-is_plain
returns-else-is_plain c =
    none_plain c.args.bytes.now c.in-Some-default.c c.requires (sym c.decode.ensures.char ∙ c.in-Some-default.is-0) (sym c.is_plain.ensures ∙ c.if-is_plain.false)

pub returns-in-None-default : goal.returns-in-None-default
returns-in-None-default c = none_decoded c.args.bytes.now c.requires (sym c.decode.ensures.char ∙ c.in-None-default.is-0)
