use Rattle.std.proofs.Common.{◌≡◌, ◌≢◌, ◌∙◌, ◌-◌, sym, ap, arith, length, take, drop}
use Rattle.std.proofs.lemmas.List.{take_rest, drop_all}
use Rattle.std.specs.List.{prefix_len, position_or_len}
use Rattle.uasm_read.specs.Texts.{is_blank, parts_of}
use Rattle.quad_debug.proofs.Cutting.{skipped, first_part, some_part}
use Rattle.quad_debug.proofs.texts.next_part.Goals as goal

pub returns-then-start-text-clause-parts : goal.returns-then-start-text-clause-parts
unfolding parts_of
returns-then-start-text-clause-parts c =
    let all : prefix_len is_blank c.args.text.now ≡ length c.args.text.now = sym c.len_of-start.ensures.value ∙ c.if-start-text.true in
    sym (skipped c.args.text.now) ∙ ap parts_of (drop_all (prefix_len is_blank c.args.text.now) c.args.text.now (omega (arith, all)))

pub returns-clause-parts : goal.returns-clause-parts
returns-clause-parts c =
    let text = c.args.text.now in
    let rest : take (length text - c.len_of-start.result) (drop c.len_of-start.result text) ≡ drop (prefix_len is_blank text) text = take_rest text c.len_of-start.result ∙ ap (λ n. drop n text) c.len_of-start.ensures.value in
    let len : c.len_of-end.result ≡ position_or_len is_blank (drop (prefix_len is_blank text) text) = c.len_of-end.ensures.value ∙ ap (position_or_len is_blank) rest in
    let front : c.split_at.result.0.now ≡ take (position_or_len is_blank (drop (prefix_len is_blank text) text)) (drop (prefix_len is_blank text) text) = cc (c.split_at.ensures.front, rest, len) in
    let back : c.split_at.result.1.now ≡ drop (position_or_len is_blank (drop (prefix_len is_blank text) text)) (drop (prefix_len is_blank text) text) = cc (c.split_at.ensures.back, rest, len) in
    let ne : prefix_len is_blank text ≢ length text = λ same. c.if-start-text.false (c.len_of-start.ensures.value ∙ same) in
    rw (front, back) (sym (skipped text) ∙ first_part (drop (prefix_len is_blank text) text) (some_part text ne))
