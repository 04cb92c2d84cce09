use Rattle.std.proofs.Common.{sym, ◌∙◌}
use Rattle.uasm_link.specs.Numbering.{number_in}
use Rattle.uasm_link.proofs.Steps.{none_of, was_put}
use Rattle.uasm_link.proofs.numbers.put.Goals as goal

pub returns-in_ok-insert : goal.returns-in_ok-insert
returns-in_ok-insert c =
    was_put c.args.name.now (number_in c.args.numbers.now) (number_in c.insert.new.self) c.args.number (λ other. c.in_ok-insert.ensures.updates.0 (record { ref_ptr = (0, 0); now = other })) (none_of (number_in c.args.numbers.now c.args.name.now) (sym c.contains_key.ensures ∙ c.if-not-contains_key.true))
