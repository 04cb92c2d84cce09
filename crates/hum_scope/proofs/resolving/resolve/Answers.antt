use Rattle.std.proofs.Common.{◌≡◌, true, sym, subst, ap, ◌∙◌}
use Rattle.hum_core.specs.Formed.{are_formed}
use Rattle.hum_core.specs.Laws.{FileStands}
use Rattle.hum_core.specs.Units.{resolved}
use Rattle.hum_core.proofs.Meant.{resolved_means}
use Rattle.hum_core.proofs.ResolvedFormed.{resolved-trees-are-formed}
use Rattle.hum_scope.proofs.Counts.{accepted_stands}
use Rattle.hum_scope.proofs.resolving.resolve.Goals as goal

pub invariant_of-result : goal.invariant_of-result
invariant_of-result c =
    let is = c.in_ok-units.ensures ∙ ap resolved c.as_slice.ensures in
    record { formed = subst (λ us. are_formed us ≡ true) (sym is) (resolved-trees-are-formed c.args.tree.now.statements c.args.tree.now.formed) }

pub returns-clause-stands : goal.returns-clause-stands
returns-clause-stands c =
    let file = c.args.tree.now.statements in
    let is = c.in_ok-units.ensures ∙ ap resolved c.as_slice.ensures in
    subst (FileStands file) (sym is) (accepted_stands file c.check_scope.result c.check_scope.ensures c.in_ok-check_scope.was)

pub returns-clause-meaning : goal.returns-clause-meaning
returns-clause-meaning c = resolved_means _
