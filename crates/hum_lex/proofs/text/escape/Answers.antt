use Rattle.std.proofs.Common.{sym, ◌∙◌}
use Rattle.hum_lex.proofs.Points.{escape_end, escape_none, escape_some}
use Rattle.hum_lex.proofs.text.escape.Goals as goal

pub returns-in_default : goal.returns-in_default
returns-in_default c = escape_end c.args.rest.now c.in_default.len_below

pub returns-in_err-escaped : goal.returns-in_err-escaped
returns-in_err-escaped c = rw c.from_residual.ensures (escape_none c.args.rest.now c.in-len1-up.len_at_least (sym c.escaped.ensures ∙ c.in_err-escaped.was))

pub returns : goal.returns
returns c = escape_some c.args.rest.now c.in_ok-escaped.field-0 c.in-len1-up.len_at_least (sym c.escaped.ensures ∙ c.in_ok-escaped.was)
