use Rattle.std.proofs.Common.{◌∙◌, ap, sym, nat_eq, take}
use Rattle.vm_turn.specs.declared.journal.Entry.{Entry}
use Rattle.quad_debug.specs.declared.wait.Wait.{Wait}
use Rattle.quad_debug.specs.Obeys.{has_ended, is_over as over_by}
use Rattle.quad_debug.specs.Parts.{stands_in}
use Rattle.quad_debug.proofs.Searching.{any-behind}
use Rattle.quad_debug.proofs.wait.is_over.Goals as goal

pub returns-in-Message : goal.returns-in-Message
returns-in-Message c =
    let journal = c.args.journal.now in
    c.has_ended.ensures ∙ ap (has_ended c.in-Message.message) c.entries_from.ensures
    ∙ any-behind (λ (e : Entry). nat_eq e.message c.in-Message.message) c.args.seen journal
    (ap (λ (w : Wait). stands_in w (take c.args.seen journal)) (sym c.in-Message.is) ∙ c.requires.unseen)
    ∙ ap (λ (w : Wait). over_by w journal) (sym c.in-Message.is)
