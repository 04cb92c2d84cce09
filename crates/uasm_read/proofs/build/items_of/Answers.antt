use Rattle.std.proofs.Common.{◌++◌, ap, sym, ◌∙◌, append-nil}
use Rattle.uasm_read.specs.Assembles.{items_of as items_in}
use Rattle.uasm_read.proofs.Fronts.{no_item}
use Rattle.uasm_read.proofs.build.items_of.Goals as goal

pub returns : goal.returns
unfolding items_in
returns c = sym (append-nil c.loop-rest.items.items) ∙ ap (λ rest. c.loop-rest.items.items ++ items_in c.loop-rest.labels.items rest) (sym (no_item c.loop-rest.rest.now c.in_default.len_below)) ∙ c.loop-rest.invariant
