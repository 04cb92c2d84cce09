use Rattle.std.proofs.Common.{◌≡◌, ap, ◌∙◌, unwrap_or}
use Rattle.cap_words.specs.Words.{undef}
use Rattle.uasm_read.specs.Links.{boot_name}
use Rattle.uasm_link.specs.Numbering.{number_in, rom_of}
use Rattle.uasm_link.proofs.whole.boot_word.Goals as goal

pub returns : goal.returns
returns c =
    let number : c.unwrap_or-number.result ≡ unwrap_or (number_in c.args.exports.now boot_name) 0 =
    c.unwrap_or-number.ensures ∙ ap (λ o. unwrap_or o 0) (c.copied.ensures ∙ c.get.ensures.value ∙ ap (number_in c.args.exports.now) c.as_slice.ensures) in
    c.unwrap_or.ensures ∙ ap (λ o. unwrap_or o undef) c.rom_bits.ensures ∙ ap rom_of number
