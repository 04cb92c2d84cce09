use Rattle.std.proofs.Common.{◌≡◌, ◌∙◌, ◌-◌, ◌+◌, sym, length, take, drop, add-one}
use Rattle.std.proofs.lemmas.List.{take_rest}
use Rattle.std.specs.List.{position_or_len}
use Rattle.uasm_read.specs.Texts.{is_line_feed}
use Rattle.uasm_read.proofs.Parts.{split_whole, split_at}
use Rattle.uasm_read.proofs.texts.cut_line.Goals as goal

pub returns-then-len-text-clause-lines : goal.returns-then-len-text-clause-lines
returns-then-len-text-clause-lines c = split_whole is_line_feed c.args.text.now (sym c.len_of-len.ensures.value ∙ c.if-len-text.true)

pub returns-clause-lines : goal.returns-clause-lines
returns-clause-lines c =
    let text = c.args.text.now in
    let len : c.len_of-len.result ≡ position_or_len is_line_feed text = c.len_of-len.ensures.value in
    let rest : take (length text - (c.len_of-len.result + 1)) (drop (c.len_of-len.result + 1) text) ≡ drop (c.len_of-len.result + 1) text = take_rest text (c.len_of-len.result + 1) in
    rw (rest, len, add-one) (split_at is_line_feed text (λ same. c.if-len-text.false (len ∙ same)))
