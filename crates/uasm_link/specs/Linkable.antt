-- Operands that have a word.
use Rattle.std.specs.Prelude.{Bool, true, ◌&&◌, nat_lt, List, [], ◌∷◌}
use Rattle.std.specs.List.{list_all}
use Rattle.cap_words.specs.Fixnums.{in_range}
use Rattle.uasm_read.specs.declared.operand.Operand.{Operand}
use Rattle.uasm_read.specs.declared.operand.Operand.TheVariants.{Fix, Const, Label, Following}
use Rattle.uasm_read.specs.declared.item.Item.{Item}

-- its number is a fixnum or a constant, if it has one
abbrev pub is_linkable : Operand → Bool
is_linkable (Fix n) = in_range n
is_linkable (Const k) = nat_lt k 16
is_linkable (Label name) = true
is_linkable Following = true

abbrev pub are_linkable : List Item → Bool
are_linkable [] = true
are_linkable (item ∷ items) = list_all is_linkable item.cell && are_linkable items
