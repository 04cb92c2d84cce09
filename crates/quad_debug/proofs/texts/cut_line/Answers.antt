use Rattle.std.proofs.Common.{◌≡◌, ◌∙◌, ◌-◌, ◌+◌, ◌∷◌, sym, length, take, drop, add-one}
use Rattle.std.proofs.lemmas.List.{take_rest}
use Rattle.std.specs.List.{position_or_len, slice_split}
use Rattle.uasm_read.specs.Texts.{is_line_feed}
use Rattle.quad_debug.proofs.Cutting.{split_whole, split_at, lines_last, lines_more}
use Rattle.quad_debug.proofs.texts.cut_line.Goals as goal

pub returns-then-len-text-clause-lines : goal.returns-then-len-text-clause-lines
returns-then-len-text-clause-lines c =
    lines_last c.args.text.now c.args.text.now (split_whole is_line_feed c.args.text.now (sym c.len_of-len.ensures.value ∙ c.if-len-text.true))

pub returns-clause-lines : goal.returns-clause-lines
returns-clause-lines c =
    let text = c.args.text.now in
    let n = c.len_of-len.result in
    let len : n ≡ position_or_len is_line_feed text = c.len_of-len.ensures.value in
    let rest : take (length text - (n + 1)) (drop (n + 1) text) ≡ drop (n + 1) text = take_rest text (n + 1) in
    let split : slice_split is_line_feed text ≡ take n text ∷ slice_split is_line_feed (drop (n + 1) text) = rw (len, add-one) (split_at is_line_feed text (λ same. c.if-len-text.false (len ∙ same))) in
    rw (rest, c.without_return.ensures.value) (lines_more text (take n text) (drop (n + 1) text) split)
