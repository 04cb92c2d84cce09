-- Entries that name the one behind them, and the shapes that begin with them.
use Rattle.std.specs.Prelude.{◌≡◌, ℕ, zero, suc, ◌≤◌, List, [], ◌∷◌, ◌++◌, length, fold, slice_index_or}
use Rattle.hum_code.specs.Layout.{Shape}
use Rattle.hum_emit.specs.declared.rows.Row.{Row}
use Rattle.hum_emit.specs.Shaping.{kind_of}

-- the shape that begins with the entry of that number; numbers begin at 1, and 0 is no entry
abbrev pub shape_at : List Shape → ℕ → Shape
shape_at shapes zero = []
shape_at shapes (suc i) = slice_index_or shapes i []

-- one row more
abbrev pub with_row : List Shape → Row → List Shape
with_row shapes row = shapes ++ (kind_of row.entry ∷ shape_at shapes row.behind) ∷ []

unfoldable pub shapes_in : List Row → List Shape
shapes_in rows = fold with_row [] rows

-- the number of an entry that is there, or 0, with which that shape begins
abbrev pub IsTop : List Shape → ℕ → Shape → Type 0
IsTop shapes top shape = (top ≤ length shapes) × (shape_at shapes top ≡ shape)
