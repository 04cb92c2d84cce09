use Rattle.std.proofs.Common.{◌≡◌, Ok, sym, ap, ◌∙◌, inl, rules}
use Rattle.uasm_read.specs.Links.{boot_name, linked_boot}
use Rattle.uasm_link.specs.Numbering.{number_in}
use Rattle.uasm_link.proofs.Images.{sound_of, boot_word, image_made, linked_image, only_image}
use Rattle.uasm_link.proofs.whole.link.Goals as goal

pub exports_of-requires : goal.exports_of-requires
exports_of-requires c = (sound_of c.args.modules.now c.in_ok-check.ensures.sound).few

pub cells_of-requires-clause-few : goal.cells_of-requires-clause-few
cells_of-requires-clause-few c = (sound_of c.args.modules.now c.in_ok-check.ensures.sound).few

pub unwrap-requires : goal.unwrap-requires
unwrap-requires c =
    let few = (sound_of c.args.modules.now c.in_ok-check.ensures.sound).few in
    let boot : c.boot_word-boot.result ≡ linked_boot c.args.modules.now = c.boot_word-boot.ensures ∙ boot_word c.args.modules.now (number_in c.in_ok-exports.exports boot_name) few (c.in_ok-exports.ensures boot_name) in
    let made = image_made c.args.modules.now c.boot_word-boot.result c.in_ok-cells.cells.items c.new.result c.in_ok-check.ensures.kept c.in_ok-check.ensures.sound boot c.in_ok-cells.ensures c.new.ensures in
    rw made (search rules)

pub returns-clause-image : goal.returns-clause-image
returns-clause-image c =
    let few = (sound_of c.args.modules.now c.in_ok-check.ensures.sound).few in
    let boot : c.boot_word-boot.result ≡ linked_boot c.args.modules.now = c.boot_word-boot.ensures ∙ boot_word c.args.modules.now (number_in c.in_ok-exports.exports boot_name) few (c.in_ok-exports.ensures boot_name) in
    let made = image_made c.args.modules.now c.boot_word-boot.result c.in_ok-cells.cells.items c.new.result c.in_ok-check.ensures.kept c.in_ok-check.ensures.sound boot c.in_ok-cells.ensures c.new.ensures in
    linked_image c.args.modules.now c.unwrap.result c.in_ok-check.ensures.sound (sym c.unwrap.ensures ∙ made)

pub returns-clause-only : goal.returns-clause-only
returns-clause-only c = λ boot_cell cells linked.
    let few = (sound_of c.args.modules.now c.in_ok-check.ensures.sound).few in
    let boot : c.boot_word-boot.result ≡ linked_boot c.args.modules.now = c.boot_word-boot.ensures ∙ boot_word c.args.modules.now (number_in c.in_ok-exports.exports boot_name) few (c.in_ok-exports.ensures boot_name) in
    let made = image_made c.args.modules.now c.boot_word-boot.result c.in_ok-cells.cells.items c.new.result c.in_ok-check.ensures.kept c.in_ok-check.ensures.sound boot c.in_ok-cells.ensures c.new.ensures in
    inl (ap Ok (only_image c.args.modules.now c.unwrap.result boot_cell cells (linked_image c.args.modules.now c.unwrap.result c.in_ok-check.ensures.sound (sym c.unwrap.ensures ∙ made)) linked))
