use Rattle.std.proofs.Common.{◌≡◌, ◌∙◌}
use Rattle.vm_step.specs.declared.group.Group.TheVariants.{Sponsors}
use Rattle.vm_step.specs.Groups.{group_of}
use Rattle.vm_step.proofs.Rows.{plain-acts, plain-ready}
use Rattle.vm_step.proofs.Typing.{books-whole}
use Rattle.vm_step.proofs.instruction.act.Goals as goal

pub returns-in_default : goal.returns-in_default
returns-in_default c =
    let x = plain-acts c.args.quads.now c.turn.new.quads c.args.sheet.now c.args.lane.now c.turn.new.lane c.args.op.now c.args.next c.turn.result
    (λ e. c.in_default.not-Sponsors (c.group_of.ensures ∙ e)) c.requires.paid c.turn.ensures in
    record { acts = x.0; stays = x.1 }

pub turn-requires : goal.turn-requires
turn-requires c =
    let plain : group_of c.args.op.now ≡ Sponsors → ⊥ = λ e. c.in_default.not-Sponsors (c.group_of.ensures ∙ e) in
    record {
      in_row = c.requires.in_row;
      own = c.requires.own;
      plain = plain;
      whole = books-whole c.args.quads.now c.args.sheet.now c.requires.paid.books;
      ready = plain-ready c.args.quads.now c.args.sheet.now c.args.lane.now c.args.op.now c.args.next plain c.requires.paid;
    }
