use Rattle.std.proofs.Common.{ap, map, ◌∙◌, ◌++◌}
use Rattle.hum_meaning.specs.Scope.{outermost_scope}
use Rattle.hum_core.specs.Alike.{with_marks}
use Rattle.hum_core.specs.Units.{of_file, block}
use Rattle.hum_scope.specs.Translations.{units}
use Rattle.hum_scope.proofs.resolving.units.Goals as goal

pub returns : goal.returns
returns c =
    let file = block (map of_file c.args.statements.now) in
    let sight = c.in_ok-bind_all.ensures ∙ ap (λ names. with_marks names c.new-sight.result) c.in_ok-outermost.ensures ∙ ap (with_marks outermost_scope) c.new-sight.ensures in
    c.in_ok-block.ensures.units ∙ ap (λ us. us ++ units file c.bind_all.new.self 0) c.new.ensures ∙ ap (λ scope. units file scope 0) sight
