use Rattle.std.proofs.Common.{sym, subst}
use Rattle.quad_memory.specs.Image.{RomImage}
use Rattle.hum_command.specs.Code.{Compiles}
use Rattle.hum_command.proofs.debug.boot_text.Goals as goal

pub returns-in-Ok-booted-clause-boots : goal.returns-in-Ok-booted-clause-boots
returns-in-Ok-booted-clause-boots c =
    let made = c.in-Ok.compiled in
    let code : Compiles c.args.text.now made.image =
    record { tree = made.tree; units = made.units; accepted = c.in-Ok.ensures.accepted; compiled = c.image.ensures.compiled } in
    let booted = c.in-Ok-booted.ensures in
    (c.image.result.now, subst (λ (i : RomImage). Compiles c.args.text.now i) (sym c.image.ensures.value) code, record { from = booted.from; fresh = booted.fresh })
