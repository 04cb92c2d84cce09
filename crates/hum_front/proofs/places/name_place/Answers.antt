use Rattle.std.proofs.Common.{arith, sym, ◌∙◌}
use Rattle.hum_front.proofs.Names.{name_behind}
use Rattle.hum_front.proofs.places.name_place.Goals as goal

pub loop-rest-preserved-else-left-eq0 : goal.loop-rest-preserved-else-left-eq0
loop-rest-preserved-else-left-eq0 c =
    name_behind c.loop-rest.rest.now c.loop-rest.left c.token-item.result c.in-len1-up.len_at_least c.token-item.is (sym c.is_name.ensures ∙ c.if-is_name.true) (omega arith)
    ∙ c.loop-rest.invariant
