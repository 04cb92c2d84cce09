use Rattle.std.proofs.Common.{◌∙◌, ap, subst, [], ◌∷◌}
use Rattle.std.specs.Prelude.{IsTrue}
use Rattle.cap_words.specs.Words.{W, Cap}
use Rattle.cap_words.specs.Store.{used}
use Rattle.quad_memory.specs.Image.{is_image}
use Rattle.quad_memory.specs.Memory.{Memory}
use Rattle.vm_sponsor.specs.Sheets.{root_account}
use Rattle.vm_machine.proofs.Booting.{whole-booted, state-booted}
use Rattle.vm_machine.proofs.boot.boot.Goals as goal

pub root_of-root-requires-clause-alone : goal.root_of-root-requires-clause-alone
root_of-root-requires-clause-alone c =
    (c.args.grant, c.in_ok-sheet.ensures.sheet ∙ ap (λ (m : Memory). root_account (Cap (used m.store)) c.args.grant ∷ []) c.in_ok-quads.ensures)

pub returns-clause-whole : goal.returns-clause-whole
returns-clause-whole c =
    whole-booted
    c.args.image.now c.args.grant c.args.lanes c.memory-room.result c.events-messages.result c.boot.result c.root_of-root.result c.take_actors-words.result c.in_ok-quads.quads c.with_root.new.quads c.take_actors-words.new.quads
    c.in_ok-sheet.sheet c.in_ok-queue.queue c.in_ok-roll.roll c.in_ok-flight.flight c.in_ok-journal.journal
    c.memory-room.ensures.value c.memory-room.ensures.limit c.events-messages.ensures.value c.events-messages.ensures.limit c.boot.ensures.value c.root_of-root.ensures c.take_actors-words.ensures.words c.requires.some_lanes c.requires.lanes_limit
    c.in_ok-quads.ensures c.in_ok-sheet.ensures.sheet c.in_ok-sheet.ensures.belongs c.in_ok-sheet.ensures.room c.in_ok-sheet.ensures.transfers c.in_ok-sheet.ensures.seen c.with_root.ensures.quads_room
    c.take_actors-words.ensures.seen c.take_actors-words.ensures.frame c.take_actors-words.ensures.room c.in_ok-queue.ensures c.in_ok-roll.ensures.items c.in_ok-roll.ensures.capacity
    c.in_ok-flight.ensures.items c.in_ok-flight.ensures.len c.in_ok-flight.ensures.capacity c.in_ok-journal.ensures.items c.in_ok-journal.ensures.capacity
    (subst (λ (w : W). IsTrue (is_image w c.args.image.now.cells)) c.boot.ensures.value c.boot.ensures.is_image)

pub returns-clause-state : goal.returns-clause-state
returns-clause-state c =
    state-booted
    c.args.image.now c.args.grant c.args.lanes c.memory-room.result c.events-messages.result c.boot.result c.root_of-root.result c.take_actors-words.result c.in_ok-quads.quads c.with_root.new.quads c.take_actors-words.new.quads
    c.in_ok-sheet.sheet c.in_ok-queue.queue c.in_ok-roll.roll c.in_ok-flight.flight c.in_ok-journal.journal
    c.memory-room.ensures.value c.memory-room.ensures.limit c.events-messages.ensures.value c.events-messages.ensures.limit c.boot.ensures.value c.root_of-root.ensures c.take_actors-words.ensures.words c.requires.some_lanes c.requires.lanes_limit
    c.in_ok-quads.ensures c.in_ok-sheet.ensures.sheet c.in_ok-sheet.ensures.belongs c.in_ok-sheet.ensures.room c.in_ok-sheet.ensures.transfers c.in_ok-sheet.ensures.seen c.with_root.ensures.quads_room
    c.take_actors-words.ensures.seen c.take_actors-words.ensures.frame c.take_actors-words.ensures.room c.in_ok-queue.ensures c.in_ok-roll.ensures.items c.in_ok-roll.ensures.capacity
    c.in_ok-flight.ensures.items c.in_ok-flight.ensures.len c.in_ok-flight.ensures.capacity c.in_ok-journal.ensures.items c.in_ok-journal.ensures.capacity
