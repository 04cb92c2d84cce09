-- Numbers lie among those of the items.
use Rattle.std.proofs.Common.{ℕ, suc, ◌+◌, ◌<◌, ◌≤◌, Bool, true, false, List, [], ◌∷◌, length, Option, Some, None, arith}
use Rattle.std.specs.Prelude.{if◌then◌else◌, unwrap_or}
use Rattle.std.specs.Option.{option_or}
use Rattle.uasm_read.specs.declared.item.Item.{Item}
use Rattle.uasm_read.specs.Texts.{Name, has_name}
use Rattle.uasm_read.specs.Modules.{ModuleParts}
use Rattle.uasm_read.specs.Links.{label_number, export_number, count_of_items}

-- a number that is there lies from low on below high
abbrev pub Bounded : ℕ → ℕ → Option ℕ → Type 0
Bounded low high None = Unit {0}
Bounded low high (Some k) = (low ≤ k) × (k < high)

bounded_if : (b : Bool) (low high v : ℕ) (o : Option ℕ) → (low ≤ v) × (v < high) → Bounded low high o → Bounded low high (if b then Some v else o)
bounded_if true low high v o h k = h
bounded_if false low high v o h k = k

either_bounded : (b : Bool) (low high : ℕ) (o other : Option ℕ) → Bounded low high o → Bounded low high other → Bounded low high (if b then o else other)
either_bounded true low high o other h k = h
either_bounded false low high o other h k = k

wider : (low high low' high' : ℕ) (o : Option ℕ) → low' ≤ low → high ≤ high' → Bounded low high o → Bounded low' high' o
wider low high low' high' None l h b = tt
wider low high low' high' (Some k) l h b = (omega (arith, l, b.0), omega (arith, h, b.1))

pub label_bounded : (at : ℕ) (items : List Item) (name : Name) → Bounded at (at + length items) (label_number at items name)
unfolding label_number
label_bounded at [] name = tt
label_bounded at (item ∷ items) name =
    bounded_if (has_name item.labels name) at (at + suc (length items)) at (label_number (at + 1) items name) (omega arith, omega arith)
    (wider (at + 1) (at + 1 + length items) at (at + suc (length items)) (label_number (at + 1) items name) (omega arith) (omega arith) (label_bounded (at + 1) items name))

pub export_bounded : (at : ℕ) (modules : List ModuleParts) (name : Name) → Bounded at (at + count_of_items modules) (export_number at modules name)
unfolding export_number count_of_items
export_bounded at [] name = tt
export_bounded at (m ∷ modules) name =
    either_bounded (has_name m.exports name) at (at + (length m.items + count_of_items modules)) (label_number at m.items name) (export_number (at + length m.items) modules name)
    (wider at (at + length m.items) at (at + (length m.items + count_of_items modules)) (label_number at m.items name) (omega arith) (omega arith) (label_bounded at m.items name))
    (wider (at + length m.items) (at + length m.items + count_of_items modules) at (at + (length m.items + count_of_items modules)) (export_number (at + length m.items) modules name) (omega arith) (omega arith) (export_bounded (at + length m.items) modules name))

-- the number of a name, 0 where it has none
pub name_bounded : (low high high' : ℕ) (o other : Option ℕ) (low' : ℕ) → 0 < high → high' ≤ high → Bounded low high' o → Bounded low' high other → unwrap_or (option_or o other) 0 < high
name_bounded low high high' None None low' some less b c = some
name_bounded low high high' None (Some k) low' some less b c = c.1
name_bounded low high high' (Some k) other low' some less b c = omega (arith, less, b.1)
