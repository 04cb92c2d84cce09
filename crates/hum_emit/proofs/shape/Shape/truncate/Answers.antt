use Rattle.std.proofs.Common.{◌≤◌, length, subst, sym}
use Rattle.hum_emit.specs.Shaping.{kind_of}
use Rattle.hum_core.proofs.NewestItems.{truncated}
use Rattle.hum_emit.proofs.shape.Shape.truncate.Goals as goal

pub returns : goal.returns
returns c =
    let e = truncated kind_of c.self.inside.entries.items c.args.len (subst (λ entries. c.args.len ≤ length entries) (sym c.self.view_is) c.requires) in
    cc (e, c.truncate.ensures.items, c.self.view_is)
