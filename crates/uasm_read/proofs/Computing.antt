-- For worked rows: `unfolding assembling` computes what a literal text assembles to.
use Rattle.std.specs.Prelude.{⊤}
use Rattle.uasm_read.specs.Texts.{lines_of, parts_of, is_name, fixnum_of, place_of}
use Rattle.uasm_read.specs.Operations.{operation_of, value_of, operand_in, operand_of}
use Rattle.uasm_read.specs.Lines.{name_alone, label_in, pair_line, cell_line, item_line, line_in, line_of}
use Rattle.uasm_read.specs.Faults.{labels_of, imports_of, exports_of, defined_in, first, follows_instruction, next_named, instruction_follows, refusal}
use Rattle.uasm_read.specs.Assembles.{items_of, module_of}

unfoldable pub assembling : ⊤
unfolding lines_of parts_of is_name fixnum_of place_of operation_of value_of operand_in operand_of name_alone label_in pair_line cell_line item_line line_in line_of labels_of imports_of exports_of defined_in first follows_instruction next_named instruction_follows refusal items_of module_of
assembling = tt
