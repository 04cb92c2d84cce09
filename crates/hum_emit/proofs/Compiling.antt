-- The image that a program's module links to holds the program.
use Rattle.std.proofs.Common.{arith, List, [], ◌∷◌, ◌≡◌, refl, sym, subst, ◌∙◌, ap, ◌+◌, ◌-◌, suc, length, Some, option_map}
use Rattle.cap_words.specs.declared.word.Quad.{Quad}
use Rattle.cap_words.specs.Words.{W, Rom}
use Rattle.cap_words.specs.Seen.{Seen}
use Rattle.uasm_read.specs.Links.{Linked}
use Rattle.hum_core.specs.declared.tested.TestUnit.{TestUnit}
use Rattle.hum_emit.specs.Compiled.{compiled, compiled_module, CompiledImagesHold, LabelsArePlaces}
use Rattle.hum_emit.specs.declared.instruction.Instruction.{Instruction}
use Rattle.hum_emit.specs.Holds.{place_word, Holds}
use Rattle.hum_emit.specs.ProgramLayout.{places_of}
use Rattle.hum_emit.specs.Shapes.{shapes_of, ShapesFit}
use Rattle.hum_emit.proofs.Emitting.{code_stands}
use Rattle.hum_emit.proofs.Expressions.{index_is}
use Rattle.hum_emit.proofs.FairStart.{emission_made, emission_long, emission_entries}
use Rattle.hum_emit.proofs.Images.{linked_holds}
use Rattle.hum_emit.proofs.PlainImages.{image_plain}
use Rattle.hum_emit.proofs.Linking.{few_link}
use Rattle.hum_emit.proofs.Modules.{number_of_boot, number_of_apply, number_of_unit}

module _ (units : List TestUnit) (boot : W) (cells : List Quad) (fit : ShapesFit units (shapes_of units)) (linked : Linked (compiled_module units ∷ []) boot cells) where
  abbrev code : List Instruction
  code = (compiled units).0.code

  -- each store with the image's cells holds what was emitted
  held : (s : Seen) → s.rom ≡ cells → Holds (places_of (compiled units)) s (compiled units).0 × (boot ≡ place_word (places_of (compiled units)) (length code - 1))
  held s rom =
      let few = few_link (compiled units).0 (compiled units).1 boot cells linked in
      linked_holds (compiled units).0 (compiled units).1 boot s (emission_made units (shapes_of units) fit (omega (arith, few)) (omega (arith, few)))
      (subst (λ (qs : List Quad). Linked (compiled_module units ∷ []) boot qs) (sym rom) linked)

pub compiled_images_hold : CompiledImagesHold
compiled_images_hold units boot cells fit linked = record {
  code = λ m rom. code_stands m units (shapes_of units) fit (held units boot cells fit linked m.base rom).0;
  boot_is = (held units boot cells fit linked (record { rom = cells; slots = [] }) refl).1;
  file = record { statements = fit.first.statements; is = fit.first.is };
  shape = index_is (shapes_of units) 0 _ [] fit.first.stands;
  operations = image_plain units (shapes_of units) fit boot cells linked;
}

pub labels_are_places : LabelsArePlaces
labels_are_places units fits few =
    let e = (compiled units).0 in
    let entries = (compiled units).1 in
    let made = emission_made units (shapes_of units) fits (omega (arith, few)) (omega (arith, few)) in
    let some = made.some in
    let count = emission_entries units (shapes_of units) fits in
    record {
      boot = ap (option_map Rom) (number_of_boot e.code e.cells entries made)
          ∙ ap (λ n. Some (Rom n)) (let z : 16 ≡ 16 + (length e.code - suc (length e.code - 1)) = omega (arith, some) in z);
      apply = ap (option_map Rom) (number_of_apply e.code e.cells entries made (emission_long units (shapes_of units) fits));
      unit = λ k h. ap (option_map Rom) (number_of_unit e.code e.cells entries made k (omega (arith, count, h)));
    }
