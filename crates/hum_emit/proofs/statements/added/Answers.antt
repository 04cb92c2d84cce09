use Rattle.std.proofs.Common.{ap, sym, ◌∙◌, drop, length, map}
use Rattle.hum_code.specs.Layout.{with_singles}
use Rattle.hum_emit.specs.Templates.{after_all, shape_after, test_code}
use Rattle.hum_emit.proofs.Turns.{drop_singles, length_singles}
use Rattle.hum_emit.proofs.statements.added.Goals as goal

pub returns-in-Let-clause-back : goal.returns-in-Let-clause-back
returns-in-Let-clause-back c = λ shape.
    let n = c.bindings.result in
    let bound = c.bindings.ensures.value ∙ ap (λ ts. after_all (map test_code ts) 0) c.as_slice.ensures in
    ap (λ x. drop n (shape_after x shape)) c.in-Let.is ∙ ap (λ m. drop n (with_singles m shape)) (sym bound) ∙ drop_singles n shape

pub returns-in-Let-clause-more : goal.returns-in-Let-clause-more
returns-in-Let-clause-more c = λ shape.
    let n = c.bindings.result in
    let bound = c.bindings.ensures.value ∙ ap (λ ts. after_all (map test_code ts) 0) c.as_slice.ensures in
    ap (λ x. length (shape_after x shape)) c.in-Let.is ∙ ap (λ m. length (with_singles m shape)) (sym bound) ∙ length_singles n shape
