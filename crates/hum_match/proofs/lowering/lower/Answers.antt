use Rattle.std.proofs.Common.{sym, subst, ap, ◌∙◌}
use Rattle.hum_core.specs.Lists.{tested}
use Rattle.hum_match.specs.Keeps.{KeepsMeaning}
use Rattle.hum_match.proofs.Kept.{kept}
use Rattle.hum_match.proofs.lowering.lower.Goals as goal

pub returns-clause-meaning : goal.returns-clause-meaning
returns-clause-meaning c =
    let units = c.args.resolved.now.units in
    let is = c.in_ok-units.ensures ∙ ap tested c.as_slice.ensures in
    subst (KeepsMeaning units) (sym is) (kept units c.args.resolved.now.formed)
