use Rattle.std.proofs.Common.{◌≡◌, ◌+◌, true, false, ◌++◌, length, get_or, take, drop, sym, ap, ◌∙◌, subst, arith}
use Rattle.std.specs.Prelude.{◌||◌}
use Rattle.std.specs.List.{list_all}
use Rattle.std.proofs.lemmas.Bool.{and_parts, and_from}
use Rattle.quad_memory.specs.Image.{is_rom_quad}
use Rattle.uasm_read.specs.Texts.{has_name}
use Rattle.uasm_read.proofs.Fronts.{behind, front_item, no_item, length-behind}
use Rattle.uasm_image.specs.Spelled.{is_exact_quad}
use Rattle.uasm_image.specs.Listed.{cell_label, names_of, operand_names}
use Rattle.uasm_image.proofs.Marks.{all_written, marks_on, marks_done}
use Rattle.uasm_image.proofs.listings.named_cells.Goals as goal

pub loop-rest-preserved : goal.loop-rest-preserved
loop-rest-preserved c =
    let rest = c.loop-rest.rest.now in
    let q = c.cell-item.result in
    let at = c.loop-rest.at in
    let count = length c.args.cells.now in
    let split = front_item rest q c.in-len1-up.len_at_least c.cell-item.is in
    let roms = and_parts (is_rom_quad count q) (list_all (is_rom_quad count) (behind rest))
    (subst (λ qs. list_all (is_rom_quad count) qs ≡ true) split c.loop-rest.invariant.roms) in
    let old = c.loop-rest.named.items in
    let new = c.mark_named.new.named in
    let lent = ap length c.deref_mut.ensures.value in
    let same : length new ≡ c.loop-rest.named.len = omega (arith, lent, c.loop-rest.named.ok.0) in
    let whole : take c.loop-rest.named.len (new ++ drop (length new) old)
    ≡ new = all_written c.loop-rest.named.len new (drop (length new) old) same in
    record {
      count = ap length whole ∙ (let z : length new ≡ count = omega (arith, lent, c.loop-rest.invariant.count) in z);
      marks = λ k below.
          ap (λ bs. get_or bs k false || has_name (operand_names (at + 1) (behind rest)) (cell_label (16 + k))) whole
          ∙ marks_on at rest (behind rest) q split (cell_label (16 + k)) (get_or old k false) (get_or new k false)
          (has_name (operand_names 16 c.args.cells.now) (cell_label (16 + k)))
          (c.mark_named.ensures k (omega (arith, lent, c.loop-rest.invariant.count, below))
          ∙ ap (λ bs. get_or bs k false || has_name (names_of at q (behind rest)) (cell_label (16 + k))) c.deref_mut.ensures.value)
          (c.loop-rest.invariant.marks k below);
      place = omega (arith, length-behind rest c.in-len1-up.len_at_least, c.loop-rest.invariant.place);
      roms = roms.1;
      exact = λ h. c.loop-rest.invariant.exact
          (subst (λ qs. list_all is_exact_quad qs ≡ true) (sym split)
          (and_from (is_exact_quad q) (list_all is_exact_quad (behind rest))
          (sym c.has_exact_words.ensures.value ∙ c.has_exact_words.ensures.holds) h));
    }

pub returns-clause-named : goal.returns-clause-named
returns-clause-named c = λ k below.
    marks_done c.loop-rest.at c.loop-rest.rest.now (no_item c.loop-rest.rest.now c.in_default.len_below) (cell_label (16 + k))
    (get_or c.loop-rest.named.items k false) _ (c.loop-rest.invariant.marks k below)
