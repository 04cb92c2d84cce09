use Rattle.std.proofs.Common.{ap, ◌∙◌, map, reverse}
use Rattle.hum_emit.specs.Shaping.{kind_of, shape_in}
use Rattle.hum_emit.proofs.shape.Shape.scope.Goals as goal

pub returns : goal.returns
unfolding shape_in
returns c = ap (λ entries. reverse (map kind_of entries)) c.as_slice.ensures.value ∙ c.self.view_is
