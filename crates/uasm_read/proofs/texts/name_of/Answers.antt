use Rattle.std.proofs.Common.{◌≡◌, true, refl, rules}
use borrow.Author.Tests.{tests}
use Rattle.cap_words.specs.Text as words
use Rattle.uasm_read.specs.Texts.{is_name}
use Rattle.uasm_read.proofs.NameForms.{name_visible}
use Rattle.uasm_read.proofs.texts.name_of.Goals as goal

pub returns : goal.returns
returns c =
    let named : is_name c.args.part.now ≡ true = search (rules, tests) in
    let seen : words.is_name c.args.part.now ≡ true = name_visible c.args.part.now named in
    rw (c.new.ensures, c.in_ok-from_slice.ensures.items, named, seen) refl
