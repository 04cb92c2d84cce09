-- Each cell of the image of an emission that spells an operation spells one of programs.
use Rattle.std.proofs.Common.{◌≡◌, sym, subst, ◌∙◌, ℕ, suc, ◌+◌, true, List, [], ◌∷◌, ◌++◌, length, reverse, if◌then◌else◌}
use Rattle.std.specs.List.{AllByRecursion}
use Rattle.std.proofs.lemmas.Option.{none-some}
use Rattle.cap_words.specs.declared.word.Quad.{Quad}
use Rattle.cap_words.specs.Words.{W}
use Rattle.instr_table.specs.Reach.{Every}
use Rattle.instr_table.proofs.GotWords.{every-append, every-reverse}
use Rattle.uasm_read.specs.declared.item.Item.{Item}
use Rattle.uasm_read.specs.Texts.{Name}
use Rattle.uasm_read.specs.Links.{linked_cell, linked_cells, linked_modules, name_word, Linked}
use Rattle.hum_core.specs.declared.tested.TestUnit.{TestUnit}
use Rattle.hum_code.specs.Layout.{Shape}
use Rattle.hum_code.specs.Program.{IsProgramCell}
use Rattle.hum_emit.specs.declared.instruction.Instruction.{Instruction}
use Rattle.hum_emit.specs.declared.instruction.Datum.{Datum}
use Rattle.hum_emit.specs.Emitted.{Emitted}
use Rattle.hum_emit.specs.Module.{begins, labels_of, rest_if, item_of, code_items, datum_item, datum_items, module_of}
use Rattle.hum_emit.specs.Program.{emission}
use Rattle.hum_emit.specs.Shapes.{ShapesFit}
use Rattle.hum_emit.proofs.PlainCode.{is_used, instruction_plain, other_quad}
use Rattle.hum_emit.proofs.Fair.{Proper, NoCode}
use Rattle.hum_emit.proofs.FairStart.{whole}

abbrev Used : Instruction → Type 0
Used x = is_used x.operation x.field ≡ true

module _ (units size count : ℕ) where
  each_used : (xs : List Instruction) → AllByRecursion (Proper units size count) xs → Every Used xs
  each_used [] h = tt
  each_used (x ∷ xs) h = (h.0.used, each_used xs h.1)

-- ---- the cells of items

module _ (words : Name → W) where
  data_plain : (at j : ℕ) (ds : List Datum) → Every NoCode ds → Every IsProgramCell (linked_cells words at (datum_items j ds))
  unfolding linked_cells
  data_plain at j [] e = tt
  data_plain at j (d ∷ ds) e = (
    (λ op h. absurd (none-some op (sym (let q = linked_cell words at (datum_item j d).cell in other_quad d.kind q.x q.y q.z e.0) ∙ h))),
    data_plain (at + 1) (suc j) ds e.1,
  )

  code_plain : (size at : ℕ) (tail : List Item) (xs : List Instruction) (k : ℕ) (entries : List ℕ) → Every Used xs
      → ((n : ℕ) → Every IsProgramCell (linked_cells words n tail)) → Every IsProgramCell (linked_cells words at (code_items size xs k entries ++ tail))
  unfolding linked_cells
  code_plain size at tail [] k entries e rest = rest at
  code_plain size at tail (x ∷ xs) k entries e rest = (
    (λ op h.
        let q = linked_cell words at (item_of (labels_of size (length xs) k entries) x).cell in
        instruction_plain words at x.operation x.field q.z e.0 op h),
    code_plain size (at + 1) tail xs (if begins entries (length xs) then suc k else k) (rest_if (begins entries (length xs)) entries) e.1 rest,
  )

-- ---- the image

cells_plain : (e : Emitted) (entries : List ℕ) → Every Used e.code → Every NoCode e.cells → (boot : W) (cells : List Quad)
    → Linked (module_of e entries ∷ []) boot cells → Every IsProgramCell cells
unfolding linked_modules
cells_plain e entries used no_code boot cells h =
    let m = module_of e entries in
    let words = name_word (m ∷ []) 16 m in
    let all = code_plain words (length e.code) 16 (datum_items 0 e.cells) (reverse e.code) 0 entries (every-reverse Used e.code used)
    (λ n. data_plain words n 0 e.cells no_code) in
    subst (Every IsProgramCell) (sym h.placed) (every-append IsProgramCell _ [] all tt)

pub image_plain : (units : List TestUnit) (shapes : List Shape) → ShapesFit units shapes → (boot : W) (cells : List Quad)
    → Linked (module_of (emission units shapes).0 (emission units shapes).1 ∷ []) boot cells → Every IsProgramCell cells
image_plain units shapes fit boot cells h =
    let fair = (whole units shapes fit).fair in
    let e = (emission units shapes).0 in
    cells_plain e (emission units shapes).1 (each_used (length units) (length e.code) (length e.cells) e.code fair.instructions)
    fair.no_code boot cells h
