-- What the emitter's entries are.
use Rattle.std.specs.Prelude.{ℕ, map, reverse, slice_get}
use Rattle.hum_core.specs.Numbered.{Of}
use Rattle.hum_code.specs.Layout.{Kind, Single, Several, Shape, with_singles}
use Rattle.hum_emit.specs.declared.shape.Entry.{Entry}
use Rattle.hum_emit.specs.declared.shape.Entry.TheVariants as entry
use Rattle.hum_emit.specs.declared.scope.Scope.{Scope}
use Rattle.hum_emit.specs.Templates.{unit_of}

abbrev pub kind_of : Entry → Kind
kind_of entry.Single = Single
kind_of (entry.Group numbers) = Several (map Of numbers.now)

-- the entries in sight of an expression, the newest first
unfoldable pub shape_in : Scope → Shape
shape_in scope = with_singles scope.inner (reverse (map kind_of scope.entries.now))

-- the unit of a member of an entry
abbrev pub unit_in : Kind → (member : ℕ) → ℕ
unit_in Single member = 0
unit_in (Several codes) member = unit_of (slice_get codes member)
