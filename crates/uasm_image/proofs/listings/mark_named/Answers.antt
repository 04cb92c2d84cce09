use Rattle.std.proofs.Common.{◌≡◌, true, false, length, get_or, sym, ◌∙◌, subst, arith}
use Rattle.quad_memory.specs.Image.{is_rom_word}
use Rattle.uasm_image.proofs.ListedCells.{rom_parts}
use Rattle.uasm_image.proofs.Marks.{three_marked, four_marked}
use Rattle.uasm_image.proofs.listings.mark_named.Goals as goal

pub mark-requires-then-not-is_followed-clause-within : goal.mark-requires-then-not-is_followed-clause-within
mark-requires-then-not-is_followed-clause-within c =
    let count = length c.args.named.now in
    let same : length c.mark-3.new.named ≡ count = omega arith in
    subst (λ n. is_rom_word n c.args.cell.now.z ≡ true) (sym same) (rom_parts count c.args.cell.now c.requires.within).3

pub returns-then-not-is_followed : goal.returns-then-not-is_followed
returns-then-not-is_followed c = λ k below.
    let count = length c.args.named.now in
    rw (c.mark-then-not-is_followed.ensures k, c.mark-3.ensures k, c.mark-2.ensures k, c.mark.ensures k)
    (four_marked count c.requires.few c.args.at c.args.cell.now c.args.after.now c.requires.within k
    (omega (arith, c.requires.few, below)) (get_or c.args.named.now k false)
    (sym c.is_followed.ensures ∙ c.if-not-is_followed.true))

pub returns-else-not-is_followed : goal.returns-else-not-is_followed
returns-else-not-is_followed c = λ k below.
    let count = length c.args.named.now in
    rw (c.mark-3.ensures k, c.mark-2.ensures k, c.mark.ensures k)
    (three_marked count c.requires.few c.args.at c.args.cell.now c.args.after.now c.requires.within k
    (omega (arith, c.requires.few, below)) (get_or c.args.named.now k false)
    (sym c.is_followed.ensures ∙ c.if-not-is_followed.false))
