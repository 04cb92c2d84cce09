-- The image that the module of an emission links to.
use Rattle.std.proofs.Common.{◌≡◌, ℕ, zero, suc, ◌+◌, ◌-◌, List, [], ◌∷◌, ◌++◌, length, reverse, get_or, Option, Some, None, refl, sym, ap, ◌∙◌, subst, arith}
use Rattle.std.specs.Prelude.{if◌then◌else◌, nat_lt, slice_get, slice_index, pos, unwrap_or}
use Rattle.std.specs.List.{All}
use Rattle.std.specs.Option.{option_or}
use Rattle.std.proofs.lemmas.Bool.{le-ltb, cond-false}
use Rattle.std.proofs.lemmas.List.{length-reverse, get_or-reverse, append-nil}
use Rattle.std.proofs.lemmas.List.Elements.{All-get_or}
use Rattle.std.proofs.lemmas.Option.{slice_get-get_or, slice_get_within, get_or_from_slice_get}
use Rattle.cap_words.specs.declared.word.Quad.{Quad}
use Rattle.cap_words.specs.Words.{W, Fix, Rom, undef}
use Rattle.cap_words.specs.Store.{rom_cell}
use Rattle.cap_words.specs.Seen.{Seen}
use Rattle.instr_table.specs.Code.{named, with_next, fetched_in}
use Rattle.uasm_read.specs.declared.item.Item.{Item}
use Rattle.uasm_read.specs.Texts.{Name}
use Rattle.uasm_read.specs.Modules.{ModuleParts}
use Rattle.uasm_read.specs.Links.{label_number, export_number, first_number, name_word, linked_word, linked_cell, linked_cells, linked_modules, Linked}
use Rattle.hum_emit.specs.declared.instruction.Field.{Field}
use Rattle.hum_emit.specs.declared.instruction.Field.TheVariants as field
use Rattle.hum_emit.specs.declared.instruction.Instruction.{Instruction}
use Rattle.hum_emit.specs.declared.instruction.Datum.{Datum}
use Rattle.hum_emit.specs.Emitted.{Emitted}
use Rattle.hum_emit.specs.Module.{code_label, unit_label, datum_label, begins, operand_of, next_operand, labels_of, rest_if, item_of, code_items, datum_items, module_of}
use Rattle.hum_emit.specs.Made.{FieldMade, NextMade, InstructionMade, DatumMade, Made}
use Rattle.hum_emit.specs.Holds.{Places, place_word, word_of, next_word, Holds}
use Rattle.hum_emit.specs.ProgramLayout.{places_of}
use Rattle.hum_emit.specs.Laws.{LinkedHolds}
use Rattle.hum_emit.proofs.Modules.{items, number_of_code, number_of_unit, number_of_datum, number_of_boot}

-- ---- the cells of items

module _ (words : Name → W) where
  -- the cell of an instruction
  instruction_quad : Instruction → Quad
  instruction_quad x = record { t = Rom 9; x = Fix (pos x.operation); y = linked_word words 0 (operand_of x.field); z = linked_word words 0 (next_operand x.next) }

  field_anywhere : (at : ℕ) (f : Field) → linked_word words at (operand_of f) ≡ linked_word words 0 (operand_of f)
  field_anywhere at (field.Number n) = refl
  field_anywhere at (field.Constant c) = refl
  field_anywhere at (field.Place i) = refl
  field_anywhere at (field.Unit k) = refl
  field_anywhere at (field.Data j) = refl

  next_anywhere : (at : ℕ) (next : Option ℕ) → linked_word words at (next_operand next) ≡ linked_word words 0 (next_operand next)
  next_anywhere at None = refl
  next_anywhere at (Some i) = refl

  item_cell : (at : ℕ) (labels : List Name) (x : Instruction) → linked_cell words at (item_of labels x).cell ≡ instruction_quad x
  unfolding instruction_quad
  item_cell at labels x = rw (field_anywhere at x.field, next_anywhere at x.next) refl

  code_cell : (size at : ℕ) (tail : List Item) (xs : List Instruction) (k : ℕ) (entries : List ℕ) (n : ℕ) (x : Instruction) → slice_get xs n ≡ Some x
      → slice_get (linked_cells words at (code_items size xs k entries ++ tail)) n ≡ Some (instruction_quad x)
  unfolding linked_cells
  code_cell size at tail [] k entries n x h = absurd (let e : None ≡ Some x = h in cc)
  code_cell size at tail (y ∷ xs) k entries zero x h =
      let e : Some y ≡ Some x = h in
      let same : y ≡ x = cc in
      ap Some (item_cell at (labels_of size (length xs) k entries) y ∙ ap instruction_quad same)
  code_cell size at tail (y ∷ xs) k entries (suc n) x h =
      code_cell size (at + 1) tail xs (if begins entries (length xs) then suc k else k) (rest_if (begins entries (length xs)) entries) n x h

  -- the cell of a datum
  datum_cell : Datum → Quad
  datum_cell d = record { t = Rom d.kind; x = linked_word words 0 (operand_of d.first); y = linked_word words 0 (operand_of d.second); z = undef }

  data_cell : (at j : ℕ) (ds : List Datum) (n : ℕ) (d : Datum) → slice_get ds n ≡ Some d → slice_get (linked_cells words at (datum_items j ds)) n ≡ Some (datum_cell d)
  unfolding linked_cells datum_cell
  data_cell at j [] n d h = absurd (let e : None ≡ Some d = h in cc)
  data_cell at j (c ∷ ds) zero d h =
      let e : Some c ≡ Some d = h in
      let same : c ≡ d = cc in
      ap Some (rw (field_anywhere at c.first, field_anywhere at c.second) refl ∙ ap datum_cell same)
  data_cell at j (c ∷ ds) (suc n) d h = data_cell (at + 1) (suc j) ds n d h

  behind_code : (size at : ℕ) (tail : List Item) (xs : List Instruction) (k : ℕ) (entries : List ℕ) (n : ℕ)
      → slice_get (linked_cells words at (code_items size xs k entries ++ tail)) (length xs + n) ≡ slice_get (linked_cells words (at + length xs) tail) n
  unfolding linked_cells
  behind_code size at tail [] k entries n =
      ap (λ m. slice_get (linked_cells words at tail) m) (let z : 0 + n ≡ n = omega arith in z)
      ∙ ap (λ a. slice_get (linked_cells words a tail) n) (let z : at ≡ at + 0 = omega arith in z)
  behind_code size at tail (x ∷ xs) k entries n =
      let more = code_items size xs (if begins entries (length xs) then suc k else k) (rest_if (begins entries (length xs)) entries) ++ tail in
      ap (λ m. slice_get (linked_cell words at (item_of (labels_of size (length xs) k entries) x).cell ∷ linked_cells words (at + 1) more) m)
      (let z : suc (length xs) + n ≡ suc (length xs + n) = omega arith in z)
      ∙ behind_code size (at + 1) tail xs (if begins entries (length xs) then suc k else k) (rest_if (begins entries (length xs)) entries) n
      ∙ ap (λ a. slice_get (linked_cells words a tail) n) (let z : at + 1 + length xs ≡ at + suc (length xs) = omega arith in z)

-- ---- reading

-- what stands behind the constants
rom_at : (rom : List Quad) (n : ℕ) → rom_cell rom (16 + n) ≡ slice_get rom n
rom_at rom n =
    cond-false (nat_lt (16 + n) 16) None (slice_get rom (16 + n - 16)) (le-ltb (16 + n) 16 (omega arith))
    ∙ ap (slice_get rom) (let z : 16 + n - 16 ≡ n = omega arith in z)

from_end : {X : Type 0} (xs : List X) (i : ℕ) (x : X) → slice_get xs i ≡ Some x → slice_get (reverse xs) (length xs - suc i) ≡ Some x
from_end xs i x h =
    let within = slice_get_within xs i x h in
    let same = length-reverse xs in
    slice_get-get_or (reverse xs) (length xs - suc i) x (omega arith)
    ∙ ap Some (get_or-reverse xs (length xs - suc i) x (omega arith)
    ∙ ap (λ n. get_or xs n x) (let z : length xs - 1 - (length xs - suc i) ≡ i = omega arith in z)
    ∙ get_or_from_slice_get xs i x x h)

fetches : (x : Instruction) (y z : W) → fetched_in (Some (record { t = Rom 9; x = Fix (pos x.operation); y = y; z = z })) ≡ with_next (named x.operation y) z
fetches x y z = refl

-- ---- the image

module _ (e : Emitted) (entries : List ℕ) (made : Made e.code e.cells entries) where
  m : ModuleParts
  m = module_of e entries

  p : Places
  p = places_of (e, entries)

  words : Name → W
  words = name_word (m ∷ []) 16 m

  numbered : (name : Name) (n : ℕ) → label_number 16 (items e.code e.cells entries made) name ≡ Some n → words name ≡ Rom n
  unfolding m words
  numbered name n h = ap (λ (o : Option ℕ). Rom (unwrap_or (option_or o (export_number first_number (module_of e entries ∷ []) name)) 0)) h

  field_right : (f : Field) → FieldMade (length e.code) (length entries) (length e.cells) f → linked_word words 0 (operand_of f) ≡ word_of p f
  unfolding p
  field_right (field.Number n) h = refl
  field_right (field.Constant c) h = refl
  field_right (field.Place i) h = numbered (code_label i) (16 + (length e.code - suc i)) (number_of_code e.code e.cells entries made i h)
  field_right (field.Unit k) h =
      numbered (unit_label k) (16 + (length e.code - suc (slice_index entries k))) (number_of_unit e.code e.cells entries made k h)
  field_right (field.Data j) h = numbered (datum_label j) (16 + (length e.code + j)) (number_of_datum e.code e.cells entries made j h)

  next_right : (next : Option ℕ) → NextMade (length e.code) (length entries) (length e.cells) next → linked_word words 0 (next_operand next) ≡ next_word p next
  unfolding p
  next_right None h = refl
  next_right (Some i) h = numbered (code_label i) (16 + (length e.code - suc i)) (number_of_code e.code e.cells entries made i h)

  module _ (rom : List Quad) (placed : rom ≡ linked_modules (m ∷ []) first_number (m ∷ [])) where
    cells_of : rom ≡ linked_cells words 16 (code_items (length e.code) (reverse e.code) 0 entries ++ datum_items 0 e.cells)
    unfolding linked_modules m words
    cells_of = placed ∙ append-nil _

    instruction_there : (i : ℕ) (x : Instruction) → slice_get e.code i ≡ Some x → rom_cell rom (16 + (length e.code - suc i)) ≡ Some (instruction_quad words x)
    instruction_there i x h =
        rom_at rom (length e.code - suc i) ∙ ap (λ cells. slice_get cells (length e.code - suc i)) cells_of
        ∙ code_cell words (length e.code) 16 (datum_items 0 e.cells) (reverse e.code) 0 entries (length e.code - suc i) x (from_end e.code i x h)

    datum_there : (j : ℕ) (d : Datum) → slice_get e.cells j ≡ Some d → rom_cell rom (16 + (length e.code + j)) ≡ Some (datum_cell words d)
    datum_there j d h =
        rom_at rom (length e.code + j) ∙ ap (λ cells. slice_get cells (length e.code + j)) cells_of
        ∙ ap (λ n. slice_get (linked_cells words 16 (code_items (length e.code) (reverse e.code) 0 entries ++ datum_items 0 e.cells)) (n + j)) (sym (length-reverse e.code))
        ∙ behind_code words (length e.code) 16 (datum_items 0 e.cells) (reverse e.code) 0 entries j
        ∙ data_cell words (16 + length (reverse e.code)) 0 e.cells j d h

element : {X : Type 0} (P : X → Type 0) (xs : List X) (i : ℕ) (x : X) → All P xs → slice_get xs i ≡ Some x → P x
element P xs i x all h = subst P (get_or_from_slice_get xs i x x h) (All-get_or P xs i x (slice_get_within xs i x h) all)

holds : (e : Emitted) (entries : List ℕ) (boot : W) (s : Seen) → Made e.code e.cells entries → Linked (module_of e entries ∷ []) boot s.rom → Holds (places_of (e, entries)) s e
unfolding m p words instruction_quad datum_cell
holds e entries boot s made linked = record {
  instructions = λ i x h.
      let is : InstructionMade (length e.code) (length entries) (length e.cells) x = element (InstructionMade (length e.code) (length entries) (length e.cells)) e.code i x made.instructions_made h in
      ap fetched_in (instruction_there e entries made s.rom linked.placed i x h)
      ∙ fetches x (linked_word (words e entries made) 0 (operand_of x.field)) (linked_word (words e entries made) 0 (next_operand x.next))
      ∙ rw (field_right e entries made x.field is.field, next_right e entries made x.next is.next) refl;
  cells = λ j d h.
      let is : DatumMade (length e.code) (length entries) (length e.cells) d = element (DatumMade (length e.code) (length entries) (length e.cells)) e.cells j d made.cells_made h in
      datum_there e entries made s.rom linked.placed j d h
      ∙ rw (field_right e entries made d.first is.first, field_right e entries made d.second is.second) refl;
}

boots : (e : Emitted) (entries : List ℕ) (boot : W) (s : Seen) → Made e.code e.cells entries → Linked (module_of e entries ∷ []) boot s.rom
    → boot ≡ place_word (places_of (e, entries)) (length e.code - 1)
unfolding export_number
boots e entries boot s made linked =
    let some = made.some in
    linked.boots ∙ ap (λ (o : Option ℕ). Rom (unwrap_or o 0)) (number_of_boot e.code e.cells entries made)
    ∙ ap Rom (let z : 16 ≡ 16 + (length e.code - suc (length e.code - 1)) = omega arith in z)

pub linked_holds : LinkedHolds
linked_holds e entries boot s made linked = (holds e entries boot s made linked, boots e entries boot s made linked)
