use Rattle.std.proofs.Common.{◌≡◌, map, drop}
use Rattle.hum_core.specs.Alike.{with_marks}
use Rattle.hum_core.specs.Units.{item_names}
use Rattle.hum_scope.specs.Translations.{made_of_pat}
use Rattle.hum_scope.proofs.translation.+marks.Given as goal

abbrev pub invariant-bind_items-loop-item : goal.invariant-bind_items-loop-item
invariant-bind_items-loop-item l =
    with_marks (item_names (map made_of_pat (drop l.item-index l.items))) l.sight ≡ with_marks (item_names (map made_of_pat l.items)) l.fn.sight
