use Rattle.vm_machine.proofs.Booting.{actors-seen, actors-frame}
use Rattle.vm_machine.proofs.boot.take_actors.Goals as goal

pub returns-clause-seen : goal.returns-clause-seen
returns-clause-seen c =
    actors-seen c.args.code c.args.sponsor c.number_word.result c.number_word-2.result c.take_idle-println.result c.take_idle-say.result c.take_pair-end.result c.take_pair-devices.result c.take_idle-first.result
    c.args.quads.now c.take_idle-println.new.quads c.take_idle-say.new.quads c.take_pair-end.new.quads c.take_pair-devices.new.quads c.take_idle-first.new.quads c.take_event-event.new.self
    c.requires.used c.requires.sponsor c.number_word.ensures c.number_word-2.ensures
    c.take_idle-println.ensures.word c.take_idle-println.ensures.after c.take_idle-say.ensures.word c.take_idle-say.ensures.after
    c.take_pair-end.ensures.word c.take_pair-end.ensures.after c.take_pair-devices.ensures.word c.take_pair-devices.ensures.after
    c.take_idle-first.ensures.word c.take_idle-first.ensures.after c.take_event-event.ensures.after

pub returns-clause-frame : goal.returns-clause-frame
returns-clause-frame c =
    actors-frame c.args.code c.args.sponsor c.number_word.result c.number_word-2.result c.take_idle-println.result c.take_idle-say.result c.take_pair-end.result c.take_pair-devices.result c.take_idle-first.result
    c.args.quads.now c.take_idle-println.new.quads c.take_idle-say.new.quads c.take_pair-end.new.quads c.take_pair-devices.new.quads c.take_idle-first.new.quads c.take_event-event.new.self
    c.requires.used c.requires.sponsor c.number_word.ensures c.number_word-2.ensures
    c.take_idle-println.ensures.word c.take_idle-println.ensures.after c.take_idle-say.ensures.word c.take_idle-say.ensures.after
    c.take_pair-end.ensures.word c.take_pair-end.ensures.after c.take_pair-devices.ensures.word c.take_pair-devices.ensures.after
    c.take_idle-first.ensures.word c.take_idle-first.ensures.after c.take_event-event.ensures.after
