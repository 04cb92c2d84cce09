use Rattle.std.proofs.Common.{false, true, Ok, ◌≡◌, ap, refl, sym, ◌∙◌, subst}
use Rattle.std.specs.Prelude.{is_ok}
use Rattle.cap_words.specs.Seen.{seen}
use Rattle.vm_turn.specs.declared.journal.Turn.TheVariants.{Finished}
use Rattle.vm_turn.specs.Turn.{entry}
use Rattle.vm_turn.specs.Piece.{piece}
use Rattle.vm_devices.specs.Delivery.{Delivers}
use Rattle.vm_machine.specs.View.{state_of}
use Rattle.vm_machine.proofs.Delivering.{kept-told, takes-told}
use Rattle.vm_machine.proofs.Quiet.{piece-some, quiet-told}
use Rattle.vm_machine.proofs.start.deliver.Goals as goal

pub returns-clause-kept : goal.returns-clause-kept
returns-clause-kept g c =
    kept-told c.args.parts.now c.requires.kept c.args.number c.requires.ready c.remove.new.self c.note.new.journal c.outcome_of.result c.remove.ensures c.note.ensures.items c.note.ensures.len c.note.ensures.capacity

pub returns-clause-turn : goal.returns-clause-turn
returns-clause-turn g c =
    takes-told c.args.parts.now c.requires.kept c.args.number c.requires.ready c.remove.new.self c.note.new.journal c.outcome_of.result c.remove.ensures c.note.ensures.items c.note.ensures.len c.note.ensures.capacity
    (piece c.args.device (seen c.args.parts.now.quads.store) c.args.message) c.in_ok-done.done (g.K.Sink.written c.args.out.now) (g.K.Sink.written c.deliver.new.out)
    (subst (λ r. Delivers (piece c.args.device (seen c.args.parts.now.quads.store) c.args.message) r (g.K.Sink.written c.args.out.now) (g.K.Sink.written c.deliver.new.out)) c.in_ok-done.was c.deliver.ensures.written) c.outcome_of.ensures

pub returns-clause-quiet : goal.returns-clause-quiet
returns-clause-quiet g c =
    let s = seen c.args.parts.now.quads.store in
    quiet-told (state_of c.args.parts.now) c.args.number (piece c.args.device s c.args.message) c.deliver.result (Ok (Finished (entry c.args.number c.outcome_of.result))) (g.K.Sink.written c.args.out.now) (g.K.Sink.written c.deliver.new.out) (g.K.Sink.faults c.args.out.now) (g.K.Sink.faults c.deliver.new.out)
    refl (λ h. piece-some c.args.device s c.args.message h) c.deliver.ensures.written c.deliver.ensures.quiet (λ ok. refl)

pub returns-in_err-done-clause-quiet : goal.returns-in_err-done-clause-quiet
returns-in_err-done-clause-quiet g c =
    let s = seen c.args.parts.now.quads.store in
    quiet-told (state_of c.args.parts.now) c.args.number (piece c.args.device s c.args.message) c.deliver.result c.from_residual.result (g.K.Sink.written c.args.out.now) (g.K.Sink.written c.deliver.new.out) (g.K.Sink.faults c.args.out.now) (g.K.Sink.faults c.deliver.new.out)
    refl (λ h. piece-some c.args.device s c.args.message h) c.deliver.ensures.written c.deliver.ensures.quiet (λ ok. let x : false ≡ true = ap is_ok (sym c.in_err-done.was) ∙ ok in cc)
