use Rattle.std.proofs.Common.{sym, ◌∙◌, ap, subst, ◌∷◌, ◌+◌}
use Rattle.hum_syntax.specs.declared.TokenKind.TheVariants as k
use Rattle.hum_syntax.specs.Forms as forms
use Rattle.hum_lex.specs.Fronts.{IsToken}
use Rattle.hum_lex.proofs.Reading.{hash_end, hash_blank, hash_at_delimiter, hash_at_stray, at_long_symbol, at_run_form, at_symbol}
use Rattle.hum_lex.proofs.front.hash_front.Goals as goal

pub returns-in_default : goal.returns-in_default
returns-in_default c called = hash_end called c.args.rest.now c.in_default.len_below

pub returns-then-is_blank : goal.returns-then-is_blank
returns-then-is_blank c called = hash_blank called c.args.rest.now c.in-len1-up.len_at_least (sym c.is_blank.ensures ∙ c.if-is_blank.true) c.len_of.result c.len_of.ensures.value

pub returns-then-is_delimiter : goal.returns-then-is_delimiter
returns-then-is_delimiter c called = hash_at_delimiter called c.args.rest.now c.in-len1-up.len_at_least (sym c.is_delimiter.ensures ∙ c.if-is_delimiter.true)

pub returns-then-not-is_run_byte : goal.returns-then-not-is_run_byte
returns-then-not-is_run_byte c called =
    hash_at_stray called c.args.rest.now c.in-len1-up.len_at_least (sym c.is_blank.ensures ∙ c.if-is_blank.false) (sym c.is_delimiter.ensures ∙ c.if-is_delimiter.false)
    (sym c.is_run_byte.ensures ∙ c.if-not-is_run_byte.true)

pub returns-then-len-gt-RUN_LIMIT : goal.returns-then-len-gt-RUN_LIMIT
returns-then-len-gt-RUN_LIMIT c called =
    at_long_symbol c.args.rest.now c.len_of-len.result c.in-len1-up.len_at_least (sym c.is_run_byte.ensures ∙ c.if-not-is_run_byte.false)
    c.len_of-len.ensures.value called c.if-len-gt-RUN_LIMIT.true

pub from_bytes-name-requires : goal.from_bytes-name-requires
from_bytes-name-requires c =
    ap forms.is_run c.in_ok-from_slice.ensures.items
    ∙ at_run_form c.args.rest.now c.len_of-len.result c.in-len1-up.len_at_least (sym c.is_run_byte.ensures ∙ c.if-not-is_run_byte.false)
    c.len_of-len.ensures.value c.if-len-gt-RUN_LIMIT.false

pub returns : goal.returns
returns c called =
    subst (λ xs. IsToken called (35 ∷ c.args.rest.now) (1 + c.len_of-len.result) (k.Symbol xs)) (sym (c.from_bytes-name.ensures ∙ c.in_ok-from_slice.ensures.items))
    (at_symbol c.args.rest.now c.len_of-len.result c.in-len1-up.len_at_least (sym c.is_run_byte.ensures ∙ c.if-not-is_run_byte.false)
    c.len_of-len.ensures.value called c.if-len-gt-RUN_LIMIT.false)
