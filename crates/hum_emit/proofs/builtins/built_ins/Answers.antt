use Rattle.std.proofs.Common.{refl, [], ◌∷◌}
use Rattle.hum_emit.specs.Emitted.{◌▷◌}
use Rattle.hum_emit.specs.Emitting.{emitted}
use Rattle.hum_emit.specs.Routines.{goes, cmp, alu, two_of_them, calculates, orders, both, any, negates}
use Rattle.hum_emit.specs.Runtime.{fail_in}
use Rattle.hum_emit.proofs.RoutineTurns.{each_more}
use Rattle.hum_emit.proofs.builtins.built_ins.Goals as goal

pub returns : goal.returns
returns c =
    let fails = c.args.fails.now in
    let k = c.args.k in
    let last = emitted c.negates.new.out in
    each_more (calculates (fail_in fails) (alu 4)) ((calculates (fail_in fails) (alu 5)) ∷ (calculates (fail_in fails) (alu 6)) ∷ (orders (fail_in fails)) ∷ (calculates (fail_in fails) (cmp 3)) ∷ (calculates (fail_in fails) (cmp 4)) ∷ (calculates (fail_in fails) (cmp 2)) ∷ (calculates (fail_in fails) (cmp 1)) ∷ (two_of_them (fail_in fails) ▷ goes c.args.compare) ∷ (both (fail_in fails)) ∷ (any (fail_in fails)) ∷ (negates (fail_in fails)) ∷ []) k (emitted c.args.out.now) (emitted c.calculates.new.out, c.in_ok-add.add) (last, c.in_ok-sub.sub ∷ c.in_ok-mul.mul ∷ c.in_ok-order.order ∷ c.in_ok-less.less ∷ c.in_ok-less_equal.less_equal ∷ c.in_ok-greater.greater ∷ c.in_ok-greater_equal.greater_equal ∷ c.in_ok-equal.equal ∷ c.in_ok-both_true.both_true ∷ c.in_ok-any_true.any_true ∷ c.in_ok-negated.negated ∷ []) c.in_ok-add.ensures
    (each_more (calculates (fail_in fails) (alu 5)) ((calculates (fail_in fails) (alu 6)) ∷ (orders (fail_in fails)) ∷ (calculates (fail_in fails) (cmp 3)) ∷ (calculates (fail_in fails) (cmp 4)) ∷ (calculates (fail_in fails) (cmp 2)) ∷ (calculates (fail_in fails) (cmp 1)) ∷ (two_of_them (fail_in fails) ▷ goes c.args.compare) ∷ (both (fail_in fails)) ∷ (any (fail_in fails)) ∷ (negates (fail_in fails)) ∷ []) k (emitted c.calculates.new.out) (emitted c.calculates-2.new.out, c.in_ok-sub.sub) (last, c.in_ok-mul.mul ∷ c.in_ok-order.order ∷ c.in_ok-less.less ∷ c.in_ok-less_equal.less_equal ∷ c.in_ok-greater.greater ∷ c.in_ok-greater_equal.greater_equal ∷ c.in_ok-equal.equal ∷ c.in_ok-both_true.both_true ∷ c.in_ok-any_true.any_true ∷ c.in_ok-negated.negated ∷ []) c.in_ok-sub.ensures
    (each_more (calculates (fail_in fails) (alu 6)) ((orders (fail_in fails)) ∷ (calculates (fail_in fails) (cmp 3)) ∷ (calculates (fail_in fails) (cmp 4)) ∷ (calculates (fail_in fails) (cmp 2)) ∷ (calculates (fail_in fails) (cmp 1)) ∷ (two_of_them (fail_in fails) ▷ goes c.args.compare) ∷ (both (fail_in fails)) ∷ (any (fail_in fails)) ∷ (negates (fail_in fails)) ∷ []) k (emitted c.calculates-2.new.out) (emitted c.calculates-3.new.out, c.in_ok-mul.mul) (last, c.in_ok-order.order ∷ c.in_ok-less.less ∷ c.in_ok-less_equal.less_equal ∷ c.in_ok-greater.greater ∷ c.in_ok-greater_equal.greater_equal ∷ c.in_ok-equal.equal ∷ c.in_ok-both_true.both_true ∷ c.in_ok-any_true.any_true ∷ c.in_ok-negated.negated ∷ []) c.in_ok-mul.ensures
    (each_more (orders (fail_in fails)) ((calculates (fail_in fails) (cmp 3)) ∷ (calculates (fail_in fails) (cmp 4)) ∷ (calculates (fail_in fails) (cmp 2)) ∷ (calculates (fail_in fails) (cmp 1)) ∷ (two_of_them (fail_in fails) ▷ goes c.args.compare) ∷ (both (fail_in fails)) ∷ (any (fail_in fails)) ∷ (negates (fail_in fails)) ∷ []) k (emitted c.calculates-3.new.out) (emitted c.orders.new.out, c.in_ok-order.order) (last, c.in_ok-less.less ∷ c.in_ok-less_equal.less_equal ∷ c.in_ok-greater.greater ∷ c.in_ok-greater_equal.greater_equal ∷ c.in_ok-equal.equal ∷ c.in_ok-both_true.both_true ∷ c.in_ok-any_true.any_true ∷ c.in_ok-negated.negated ∷ []) c.in_ok-order.ensures
    (each_more (calculates (fail_in fails) (cmp 3)) ((calculates (fail_in fails) (cmp 4)) ∷ (calculates (fail_in fails) (cmp 2)) ∷ (calculates (fail_in fails) (cmp 1)) ∷ (two_of_them (fail_in fails) ▷ goes c.args.compare) ∷ (both (fail_in fails)) ∷ (any (fail_in fails)) ∷ (negates (fail_in fails)) ∷ []) k (emitted c.orders.new.out) (emitted c.tests.new.out, c.in_ok-less.less) (last, c.in_ok-less_equal.less_equal ∷ c.in_ok-greater.greater ∷ c.in_ok-greater_equal.greater_equal ∷ c.in_ok-equal.equal ∷ c.in_ok-both_true.both_true ∷ c.in_ok-any_true.any_true ∷ c.in_ok-negated.negated ∷ []) c.in_ok-less.ensures
    (each_more (calculates (fail_in fails) (cmp 4)) ((calculates (fail_in fails) (cmp 2)) ∷ (calculates (fail_in fails) (cmp 1)) ∷ (two_of_them (fail_in fails) ▷ goes c.args.compare) ∷ (both (fail_in fails)) ∷ (any (fail_in fails)) ∷ (negates (fail_in fails)) ∷ []) k (emitted c.tests.new.out) (emitted c.tests-2.new.out, c.in_ok-less_equal.less_equal) (last, c.in_ok-greater.greater ∷ c.in_ok-greater_equal.greater_equal ∷ c.in_ok-equal.equal ∷ c.in_ok-both_true.both_true ∷ c.in_ok-any_true.any_true ∷ c.in_ok-negated.negated ∷ []) c.in_ok-less_equal.ensures
    (each_more (calculates (fail_in fails) (cmp 2)) ((calculates (fail_in fails) (cmp 1)) ∷ (two_of_them (fail_in fails) ▷ goes c.args.compare) ∷ (both (fail_in fails)) ∷ (any (fail_in fails)) ∷ (negates (fail_in fails)) ∷ []) k (emitted c.tests-2.new.out) (emitted c.tests-3.new.out, c.in_ok-greater.greater) (last, c.in_ok-greater_equal.greater_equal ∷ c.in_ok-equal.equal ∷ c.in_ok-both_true.both_true ∷ c.in_ok-any_true.any_true ∷ c.in_ok-negated.negated ∷ []) c.in_ok-greater.ensures
    (each_more (calculates (fail_in fails) (cmp 1)) ((two_of_them (fail_in fails) ▷ goes c.args.compare) ∷ (both (fail_in fails)) ∷ (any (fail_in fails)) ∷ (negates (fail_in fails)) ∷ []) k (emitted c.tests-3.new.out) (emitted c.tests-4.new.out, c.in_ok-greater_equal.greater_equal) (last, c.in_ok-equal.equal ∷ c.in_ok-both_true.both_true ∷ c.in_ok-any_true.any_true ∷ c.in_ok-negated.negated ∷ []) c.in_ok-greater_equal.ensures
    (each_more (two_of_them (fail_in fails) ▷ goes c.args.compare) ((both (fail_in fails)) ∷ (any (fail_in fails)) ∷ (negates (fail_in fails)) ∷ []) k (emitted c.tests-4.new.out) (emitted c.two_of_them.new.out, c.in_ok-equal.equal) (last, c.in_ok-both_true.both_true ∷ c.in_ok-any_true.any_true ∷ c.in_ok-negated.negated ∷ []) c.in_ok-equal.ensures
    (each_more (both (fail_in fails)) ((any (fail_in fails)) ∷ (negates (fail_in fails)) ∷ []) k (emitted c.two_of_them.new.out) (emitted c.both.new.out, c.in_ok-both_true.both_true) (last, c.in_ok-any_true.any_true ∷ c.in_ok-negated.negated ∷ []) c.in_ok-both_true.ensures
    (each_more (any (fail_in fails)) ((negates (fail_in fails)) ∷ []) k (emitted c.both.new.out) (emitted c.any.new.out, c.in_ok-any_true.any_true) (last, c.in_ok-negated.negated ∷ []) c.in_ok-any_true.ensures
    (each_more (negates (fail_in fails)) ([]) k (emitted c.any.new.out) (emitted c.negates.new.out, c.in_ok-negated.negated) (last, []) c.in_ok-negated.ensures
    (refl))))))))))))
