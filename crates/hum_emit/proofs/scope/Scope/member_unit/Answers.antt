use Rattle.std.proofs.Common.{map, reverse, ◌∙◌}
use Rattle.hum_emit.specs.Shaping.{kind_of, shape_in}
use Rattle.hum_emit.proofs.Scopes.{unit_inside, unit_past, unit_at}
use Rattle.hum_emit.proofs.scope.Scope.member_unit.Goals as goal
use Rattle.hum_emit.proofs.scope.Scope.member_unit.Goals.{then-back-self-via-then-back-self, then-back-self-via-else-back-self+then-back-self-2}

pub returns-then-back-self : goal.returns-then-back-self
unfolding shape_in
returns-then-back-self c =
    let s = c.args.self.now in
    elim c.then-back-self.branch [
      | then-back-self-via-then-back-self w ↦ unit_inside s.inner (reverse (map kind_of s.entries.now)) c.args.back c.args.member w.if-back-self.true
      | then-back-self-via-else-back-self+then-back-self-2 w ↦
          unit_past s.inner s.entries.now c.args.back c.args.member w.if-back-self.false w.if-back-self-2.true
    ]

pub returns : goal.returns
unfolding shape_in
returns c =
    let s = c.args.self.now in
    c.unit_in.ensures ∙ unit_at s.inner s.entries.now c.args.back c.args.member _ c.if-back-self.false c.if-back-self-2.false
