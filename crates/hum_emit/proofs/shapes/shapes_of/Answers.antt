use Rattle.std.proofs.Common.{refl, ap, ◌∙◌, ◌++◌, drop, reverse}
use Rattle.std.proofs.lemmas.List.{drop_all}
use Rattle.hum_emit.specs.Shapes.{shapes_of}
use Rattle.hum_emit.proofs.Findings.{nothing_more, first_underway, unit_turn, units_done}
use Rattle.hum_emit.proofs.shapes.shapes_of.Goals as goal

pub loop-each-init : goal.loop-each-init
loop-each-init c =
    first_underway c.enter_singles.new.walk c.new-tops.result.items c.push.new.self.items c.new-waiting.result.items c.in_ok-enter_singles.field-0 c.args.units.now
    c.new-tops.ensures.items c.in_ok-push.ensures.items c.new-waiting.ensures.items c.in_ok-enter_singles.ensures.top
    (nothing_more (record { rows = c.new.result; found = c.new-2.result }) c.enter_singles.new.walk c.in_ok-enter_singles.ensures.found ∙ c.new-2.ensures.items)

pub loop-each-preserved : goal.loop-each-preserved
loop-each-preserved c =
    unit_turn c.loop-each.walk c.unit.new.walk (record { rows = c.unit.new.walk.rows; found = c.clear.new.self }) c.loop-each.tops.items c.push-in-loop-each.new.self.items
    c.loop-each.waiting.items c.next-top.new.waiting.items c.wait.new.waiting.items c.next-top.result c.args.units.now c.loop-each.each-index c.each-item.result
    (shapes_of c.args.units.now) c.loop-each-test.true c.each-item.is c.loop-each.invariant c.next-top.ensures.first c.next-top.ensures.rest c.in_ok-push-2.ensures.items
    c.in_ok-unit.ensures (c.in_ok-wait.ensures ∙ ap (λ xs. c.next-top.new.waiting.items ++ reverse xs) c.as_slice.ensures.value) refl c.clear.ensures.items

pub returns : goal.returns
returns c =
    units_done c.loop-each.walk c.loop-each.tops.items c.loop-each.waiting.items (drop c.loop-each.each-index c.args.units.now) (shapes_of c.args.units.now)
    (drop_all c.loop-each.each-index c.args.units.now c.loop-each-test.false) c.loop-each.invariant
