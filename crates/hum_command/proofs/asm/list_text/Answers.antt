use Rattle.std.proofs.Common.{sym, subst}
use Rattle.quad_memory.specs.Image.{RomImage}
use Rattle.hum_command.specs.Code.{Compiles}
use Rattle.hum_command.proofs.asm.list_text.Goals as goal

pub returns-in-Ok-listing_text-clause-listing : goal.returns-in-Ok-listing_text-clause-listing
returns-in-Ok-listing_text-clause-listing c =
    let made = c.in-Ok.compiled in
    let code : Compiles c.args.text.now made.image =
    record { tree = made.tree; units = made.units; accepted = c.in-Ok.ensures.accepted; compiled = c.image.ensures.compiled } in
    (c.image.result.now, subst (λ (i : RomImage). Compiles c.args.text.now i) (sym c.image.ensures.value) code, c.in-Ok-listing_text.ensures)
