use Rattle.std.proofs.Common.{◌≡◌, refl, ap, ◌∙◌, ◌+◌, suc, [], ◌∷◌, arith}
use Rattle.hum_code.specs.Layout.{Single, with_singles}
use Rattle.hum_emit.specs.Rowing.{shape_at}
use Rattle.hum_emit.proofs.Findings.{found_then}
use Rattle.hum_emit.proofs.Parting.{nothing}
use Rattle.hum_emit.proofs.shapes.enter_singles.Goals as goal

pub loop-turn-init : goal.loop-turn-init
loop-turn-init c = (nothing c.args.walk.now, (c.requires, refl))

pub loop-turn-preserved : goal.loop-turn-preserved
loop-turn-preserved c =
    let next : suc c.loop-turn._turn ≡ c.loop-turn._turn + 1 = omega arith in (
      found_then [] [] c.args.walk.now c.loop-turn.walk c.enter.new.walk c.loop-turn.invariant.0 c.in_ok-newest.ensures.found,
      (
        c.in_ok-newest.ensures.top.0,
        c.in_ok-newest.ensures.top.1 ∙ ap (λ sh. Single ∷ sh) c.loop-turn.invariant.1.1 ∙ ap (λ n. with_singles n (shape_at c.args.walk.now.rows c.args.top)) next,
      ),
    )
