-- The items of a listing are cells of assembly.
use Rattle.std.proofs.Common.{◌≡◌, ℕ, ◌+◌, ◌≤◌, Bool, true, false, List, [], ◌∷◌, Option, Some, None, refl, ap, ◌∙◌, subst, pos, negsuc, ℤ}
use Rattle.std.specs.Prelude.{◌&&◌, if◌then◌else◌, is_some, option_map}
use Rattle.std.specs.List.{list_all}
use Rattle.std.proofs.lemmas.Bool.{and_parts, and_from, both_ways}
use Rattle.cap_words.specs.declared.word.Quad.{Quad}
use Rattle.cap_words.specs.Words.{W, Fix, same_word, number_of, undef, instr_t}
use Rattle.cap_words.proofs.Same.{word_same}
use Rattle.quad_memory.specs.Image.{is_rom_quad}
use Rattle.instr_table.specs.declared.op.Op.{Op}
use Rattle.instr_table.specs.declared.op.Op.TheVariants as machine
use Rattle.instr_table.specs.Code.{operation, by_number, numbered as op_numbered, within}
use Rattle.uasm_read.specs.declared.operand.Operand.{Operand}
use Rattle.uasm_read.specs.declared.operand.Operand.TheVariants as operand
use Rattle.uasm_read.specs.declared.operation.Operation.{Operation}
use Rattle.uasm_read.specs.declared.operation.Operation.TheVariants as o
use Rattle.uasm_read.specs.declared.item.Item.{Item}
use Rattle.uasm_read.specs.Operations.{row_of, goes_on as line_goes_on}
use Rattle.uasm_read.specs.Modules.{is_word, is_instr_t, fits, numbered, may_go_on, begins_with_instruction, is_cell, are_items}
use Rattle.uasm_read.specs.Laws.{LineOf, OperationsHaveLines}
use Rattle.uasm_read.proofs.Fits.{number_found}
use Rattle.uasm_image.specs.Spelled.{is_exact_quad}
use Rattle.uasm_image.specs.Listed.{word_operand, goes_on, is_instruction_first, is_followed, cell_operands, cell_items}
use Rattle.uasm_image.proofs.ListedCells.{rom_parts, exact_parts, operand_word, operand_written, followed_parts}

-- ---- the line of a cell that goes on

-- the operation of these words, by whether the word before them is `#instr_t`
abbrev op_of : Bool → W → W → Option Op
op_of instruction x y = if instruction then by_number (number_of x) y else None

is_there : (instruction : Bool) (x y : W) → goes_on (op_of instruction x y) ≡ true → is_some (op_of true x y) ≡ true
is_there true x y h = some_goes_on (op_of true x y) h
  where
    some_goes_on : (op : Option Op) → goes_on op ≡ true → is_some op ≡ true
    some_goes_on None h = absurd (both_ways false refl h)
    some_goes_on (Some op) h = refl
is_there false x y h = absurd (both_ways false refl h)

-- a cell that has an operation is an instruction
is_instruction_cell : (q : Quad) → goes_on (operation q) ≡ true → q.t ≡ instr_t
is_instruction_cell q h = by_case (same_word q.t instr_t) refl h
  where
    by_case : (b : Bool) → same_word q.t instr_t ≡ b → goes_on (op_of b q.x q.y) ≡ true → q.t ≡ instr_t
    by_case true is h = word_same q.t instr_t is
    by_case false is h = absurd (both_ways false refl h)

-- `end` and `jump` do not go on
end_stops : (instruction : Bool) (y : W) → goes_on (op_of instruction (Fix (pos 21)) y) ≡ false
end_stops true y = ends (number_of y)
  where
    by_case : (b : Bool) (n : ℤ) → goes_on (option_map machine.End (if b then Some n else None)) ≡ false
    by_case true n = refl
    by_case false n = refl

    ends : (n : Option ℤ) → goes_on (op_numbered (within (negsuc 0) (pos 1)) machine.End n) ≡ false
    ends None = refl
    ends (Some n) = by_case (within (negsuc 0) (pos 1) n) n
end_stops false y = refl

jump_stops : (instruction : Bool) (y : W) → goes_on (op_of instruction (Fix (pos 16)) y) ≡ false
jump_stops true y = by_case (same_word y undef)
  where
    by_case : (b : Bool) → goes_on (if b then Some machine.Jump else None) ≡ false
    by_case true = refl
    by_case false = refl
jump_stops false y = refl

line_goes : (line : Operation) (q : Quad) → q.x ≡ Fix (pos (row_of line).number) → goes_on (operation q) ≡ true → line_goes_on line ≡ true
line_goes o.End q is h =
    absurd (both_ways (goes_on (op_of (same_word q.t instr_t) (Fix (pos 21)) q.y)) (end_stops (same_word q.t instr_t) q.y)
    (subst (λ (x : W). goes_on (op_of (same_word q.t instr_t) x q.y) ≡ true) is h))
line_goes o.Jump q is h =
    absurd (both_ways (goes_on (op_of (same_word q.t instr_t) (Fix (pos 16)) q.y)) (jump_stops (same_word q.t instr_t) q.y)
    (subst (λ (x : W). goes_on (op_of (same_word q.t instr_t) x q.y) ≡ true) is h))
line_goes line q is h = refl

-- ---- cells

four : (a b c d : Bool) → a ≡ true → b ≡ true → c ≡ true → d ≡ true → (a && b && c && d) ≡ true
four a b c d ha hb hc hd = rw (ha, hb, hc, hd) refl

plain_cell : (t x y z : Operand) (after : List Item) → is_word t ≡ true → is_word x ≡ true → is_word y ≡ true → is_word z ≡ true
    → is_cell (t ∷ x ∷ y ∷ z ∷ []) after ≡ true
plain_cell t x y (operand.Fix n) after ht hx hy hz = four (is_word t) (is_word x) (is_word y) (is_word (operand.Fix n)) ht hx hy hz
plain_cell t x y (operand.Const k) after ht hx hy hz = four (is_word t) (is_word x) (is_word y) (is_word (operand.Const k)) ht hx hy hz
plain_cell t x y (operand.Label name) after ht hx hy hz = four (is_word t) (is_word x) (is_word y)
    (is_word (operand.Label name)) ht hx hy hz
plain_cell t x y operand.Following after ht hx hy hz = absurd (both_ways false refl hz)

instr_operand : (w : W) → w ≡ instr_t → is_instr_t (word_operand w) ≡ true
instr_operand w e = ap (λ (v : W). is_instr_t (word_operand v)) e

begins : (boot : W) (named : ℕ → Bool) (at : ℕ) (qs : List Quad) → is_instruction_first qs ≡ true
    → begins_with_instruction (cell_items boot named at qs) ≡ true
unfolding cell_items
begins boot named at [] h = absurd (both_ways false refl h)
begins boot named at (q ∷ after) h = instr_operand q.t (word_same q.t instr_t h)

module _ (lines : OperationsHaveLines) (count : ℕ) (few : count ≤ 1048560) where
  line_of_cell : (q : Quad) → is_rom_quad count q ≡ true → is_exact_quad q ≡ true → goes_on (operation q) ≡ true
      → LineOf q.x (word_operand q.y)
  line_of_cell q rom exact h =
      let own = rom_parts count q rom in
      let in_range = exact_parts q exact in
      lines (word_operand q.y) q.x q.y q.z (operand_word count few q.y own.2 in_range.2) (operand_written count few q.y own.2)
      (is_there (same_word q.t instr_t) q.x q.y h)

  goes_as_line : (q : Quad) → is_rom_quad count q ≡ true → is_exact_quad q ≡ true → goes_on (operation q) ≡ true
      → may_go_on (numbered (word_operand q.x)) (word_operand q.y) ≡ true
  goes_as_line q rom exact h =
      let line = line_of_cell q rom exact h in
      ap (λ (x : W). may_go_on (numbered (word_operand x)) (word_operand q.y)) line.number
      ∙ ap (λ (found : Option Operation). may_go_on found (word_operand q.y)) (number_found line.line)
      ∙ and_from (line_goes_on line.line) (fits (row_of line.line).operand (word_operand q.y))
      (line_goes line.line q line.number h) line.operand

  cell_is : (boot : W) (named : ℕ → Bool) (at : ℕ) (q : Quad) (after : List Quad) → is_rom_quad count q ≡ true → is_exact_quad q ≡ true
      → is_cell (cell_operands at q after) (cell_items boot named (at + 1) after) ≡ true
  cell_is boot named at q after rom exact = by_case (is_followed at q after) refl
    where
      by_case : (b : Bool) → is_followed at q after ≡ b
          → is_cell (word_operand q.t ∷ word_operand q.x ∷ word_operand q.y ∷ (if b then operand.Following else word_operand q.z) ∷ [])
          (cell_items boot named (at + 1) after) ≡ true
      by_case true is =
          let parts = followed_parts at q after is in
          let own = rom_parts count q rom in
          let in_range = exact_parts q exact in
          four (is_instr_t (word_operand q.t)) (is_word (word_operand q.x)) (may_go_on (numbered (word_operand q.x)) (word_operand q.y))
          (begins_with_instruction (cell_items boot named (at + 1) after))
          (instr_operand q.t (is_instruction_cell q parts.0)) (operand_word count few q.x own.1 in_range.1)
          (goes_as_line q rom exact parts.0)
          (begins boot named (at + 1) after parts.2)
      by_case false is =
          let own = rom_parts count q rom in
          let in_range = exact_parts q exact in
          plain_cell (word_operand q.t) (word_operand q.x) (word_operand q.y) (word_operand q.z) (cell_items boot named (at + 1) after)
          (operand_word count few q.t own.0 in_range.0) (operand_word count few q.x own.1 in_range.1)
          (operand_word count few q.y own.2 in_range.2) (operand_word count few q.z own.3 in_range.3)

  pub items_are : (boot : W) (named : ℕ → Bool) (at : ℕ) (qs : List Quad) → list_all (is_rom_quad count) qs ≡ true
      → list_all is_exact_quad qs ≡ true
      → are_items (cell_items boot named at qs) ≡ true
  unfolding cell_items
  items_are boot named at [] roms exacts = refl
  items_are boot named at (q ∷ after) roms exacts =
      let rom = and_parts (is_rom_quad count q) (list_all (is_rom_quad count) after) roms in
      let exact = and_parts (is_exact_quad q) (list_all is_exact_quad after) exacts in
      and_from (is_cell (cell_operands at q after) (cell_items boot named (at + 1) after))
      (are_items (cell_items boot named (at + 1) after))
      (cell_is boot named at q after rom.0 exact.0) (items_are boot named (at + 1) after rom.1 exact.1)
