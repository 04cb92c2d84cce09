use Rattle.std.proofs.Common.{◌∙◌, ◌<◌, ℕ, subst, sym, length}
use Rattle.hum_emit.proofs.CodePlaces.{all_below, apply_below}
use Rattle.hum_emit.proofs.UnitTurns.{made_of, module_is}
use Rattle.hum_emit.proofs.whole.emit_with_places.Goals as goal

pub module_of-requires : goal.module_of-requires
module_of-requires c =
    let is = c.in_ok-emission.ensures in
    let made = made_of c.args.program.now.units c.as_slice.result.now c.as_slice-code.result.now c.as_slice-cells.result.now c.as_slice-entries.result.now c.as_slice.ensures c.requires
    (c.as_slice-code.ensures.value ∙ is.code) (c.as_slice-cells.ensures.value ∙ is.cells) (c.as_slice-entries.ensures.value ∙ is.entries)
    c.in_ok-few.ensures c.in_ok-few-2.ensures in
    record { applies = is.apply; made = made }

pub rom_numbers-requires-clause-entries : goal.rom_numbers-requires-clause-entries
rom_numbers-requires-clause-entries c =
    let is = c.in_ok-emission.ensures in
    let made = made_of c.args.program.now.units c.as_slice.result.now c.as_slice-code.result.now c.as_slice-cells.result.now c.as_slice-entries.result.now c.as_slice.ensures c.requires
    (c.as_slice-code.ensures.value ∙ is.code) (c.as_slice-cells.ensures.value ∙ is.cells) (c.as_slice-entries.ensures.value ∙ is.entries)
    c.in_ok-few.ensures c.in_ok-few-2.ensures in
    all_below (length c.as_slice-code.result.now) c.as_slice-entries.result.now made.entries_descend

pub rom_numbers-requires-clause-apply : goal.rom_numbers-requires-clause-apply
rom_numbers-requires-clause-apply c =
    let is = c.in_ok-emission.ensures in
    subst (λ (n : ℕ). n < length c.as_slice-code.result.now) (sym is.apply)
    (apply_below c.args.program.now.units c.as_slice.result.now c.as_slice-code.result.now c.as_slice.ensures c.requires (c.as_slice-code.ensures.value ∙ is.code))

pub returns-clause-module : goal.returns-clause-module
returns-clause-module c =
    let is = c.in_ok-emission.ensures in
    c.in_ok-module.ensures
    ∙ module_is c.args.program.now.units c.as_slice.result.now c.as_slice-code.result.now c.as_slice-cells.result.now c.as_slice-entries.result.now c.as_slice.ensures
    (c.as_slice-code.ensures.value ∙ is.code) (c.as_slice-cells.ensures.value ∙ is.cells) (c.as_slice-entries.ensures.value ∙ is.entries)
