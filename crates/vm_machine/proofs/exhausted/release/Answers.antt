use Rattle.std.proofs.Common.{ap, ◌∙◌, pos}
use Rattle.cap_words.specs.Words.{W, Fix}
use Rattle.cap_words.specs.Seen.{seen}
use Rattle.vm_turn.specs.Actors.{with_content}
use Rattle.vm_turn.specs.Turn.{signal_number}
use Rattle.vm_machine.proofs.Releasing.{kept-filled, state-filled}
use Rattle.vm_machine.proofs.exhausted.release.Goals as goal

pub returns-clause-kept : goal.returns-clause-kept
returns-clause-kept c =
    kept-filled c.args.parts.now c.requires.kept c.args.signal (Fix (pos (signal_number c.args.kind))) c.fill.new.quads c.append-number.new.self
    (c.fill.ensures.seen ∙ ap (λ (w : W). with_content (seen c.args.parts.now.quads.store) c.args.signal w) c.signal_word.ensures) c.fill.ensures.frame c.fill.ensures.absent c.fill.ensures.room
    c.append-number.ensures.after c.requires.room c.requires.no_message c.requires.not_sent

pub returns-clause-state : goal.returns-clause-state
returns-clause-state c =
    state-filled c.args.parts.now c.requires.kept c.args.signal (Fix (pos (signal_number c.args.kind))) c.fill.new.quads c.append-number.new.self
    (c.fill.ensures.seen ∙ ap (λ (w : W). with_content (seen c.args.parts.now.quads.store) c.args.signal w) c.signal_word.ensures) c.fill.ensures.frame c.fill.ensures.absent c.fill.ensures.room
    c.append-number.ensures.after c.requires.room c.requires.no_message c.requires.not_sent
