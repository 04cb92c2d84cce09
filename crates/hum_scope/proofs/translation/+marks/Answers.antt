use Rattle.std.proofs.Common.{arith}
use Rattle.hum_scope.specs.Translations.{made_of_pat}
use Rattle.hum_scope.proofs.Entered.{marks_step}
use Rattle.hum_scope.proofs.Sights.{from_one}
use Rattle.hum_scope.proofs.translation.+marks.Goals as goal

pub bind_items-loop-item-preserved : goal.bind_items-loop-item-preserved
bind_items-loop-item-preserved t c =
    let e = from_one made_of_pat c.args.items.now c.loop-item.item-index c.item-item.result c.item-item.is (omega arith) in
    marks_step _ _ _ _ _ _ e c.in_ok-bind.ensures c.loop-item.invariant
