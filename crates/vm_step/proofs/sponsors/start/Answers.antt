use Rattle.std.proofs.Common.{◌≡◌, ◌∙◌, [], ◌∷◌, ap, sym, arith}
use Rattle.cap_words.specs.Words.{Cap, undef, nil}
use Rattle.cap_words.specs.Seen.{EventSlot}
use Rattle.quad_memory.specs.declared.cells.EventCell.{EventCell}
use Rattle.instr_table.specs.Event.{Starts}
use Rattle.instr_table.specs.Sheet.{start, runs}
use Rattle.vm_dict.proofs.Taking.{next-used}
use Rattle.vm_sponsor.specs.declared.answer.Running.{Running}
use Rattle.vm_step.specs.Step.{sheet_in}
use Rattle.vm_step.proofs.Typing.{books-whole}
use Rattle.vm_step.proofs.Shifting.{shifts-act}
use Rattle.vm_step.proofs.Sponsoring.{event-shifts, signal-shifts, still-off, start-acts, shifts-ready, not-err, started}
use Rattle.vm_step.proofs.sponsors.start.Goals as goal

pub is_sponsor-requires : goal.is_sponsor-requires
is_sponsor-requires c = books-whole c.args.quads.now c.args.sheet.now c.requires.paid.books

pub start-requires-clause-belongs : goal.start-requires-clause-belongs
start-requires-clause-belongs c =
    let cell : EventCell = record { sponsor = c.args.who; target = c.at-controller.result; message = undef; next = nil } in
    (event-shifts c.args.quads.now c.take_event-signal.new.self c.args.sheet.now c.args.lane.now cell c.requires.paid c.take_event-signal.ensures.after).books.belongs

pub unreachable-requires : goal.unreachable-requires
unreachable-requires c =
    let a = c.args.quads.now in
    let old = c.args.sheet.now in
    let l = c.args.lane.now in
    let mid = c.take_event-signal.new.self in
    let w = c.at-sponsor.result in
    let signal = c.take_event-signal.result in
    let cell : EventCell = record { sponsor = c.args.who; target = c.at-controller.result; message = undef; next = nil } in
    let is = sym c.is_sponsor.ensures ∙ c.if-not-is_sponsor.false in
    let off = sym c.running.ensures ∙ c.if-running.false in
    let quiet = still-off a mid c.start.new.quads old c.start.new.self l cell w signal c.requires.paid c.take_event-signal.ensures.after is off in
    not-err {E = Running} c.start.result (record {}) c.in-Err.field-0 (runs (sheet_in mid old) w) c.start.ensures.answer quiet c.in-Err.is

pub goes-requires : goal.goes-requires
goes-requires c =
    let a = c.args.quads.now in
    let old = c.args.sheet.now in
    let l = c.args.lane.now in
    let mid = c.take_event-signal.new.self in
    let w = c.at-sponsor.result in
    let signal = c.take_event-signal.result in
    let cell : EventCell = record { sponsor = c.args.who; target = c.at-controller.result; message = undef; next = nil } in
    let is = sym c.is_sponsor.ensures ∙ c.if-not-is_sponsor.false in
    let off = sym c.running.ensures ∙ c.if-running.false in
    let quiet = still-off a mid c.start.new.quads old c.start.new.self l cell w signal c.requires.paid c.take_event-signal.ensures.after is off in
    let b = c.start.new.quads in
    let new = c.start.new.self in
    let made = EventSlot c.args.who c.at-controller.result undef ∷ [] in
    let sheet = started {E = Running} c.start.result (record {}) (sheet_in b new ≡ start (sheet_in mid old) w signal) (runs (sheet_in mid old) w) c.start.ensures.answer quiet c.start.ensures.sheet in
    let p = signal-shifts a mid b old new l cell w signal c.requires.paid c.take_event-signal.ensures.after is off sheet c.start.ensures.rows c.start.ensures.keeps in
    shifts-ready a b old new l made (Starts w signal) 1 0 c.requires.paid p

pub returns-clause-acts : goal.returns-clause-acts
returns-clause-acts c =
    let a = c.args.quads.now in
    let old = c.args.sheet.now in
    let l = c.args.lane.now in
    let mid = c.take_event-signal.new.self in
    let w = c.at-sponsor.result in
    let signal = c.take_event-signal.result in
    let cell : EventCell = record { sponsor = c.args.who; target = c.at-controller.result; message = undef; next = nil } in
    let is = sym c.is_sponsor.ensures ∙ c.if-not-is_sponsor.false in
    let off = sym c.running.ensures ∙ c.if-running.false in
    let quiet = still-off a mid c.start.new.quads old c.start.new.self l cell w signal c.requires.paid c.take_event-signal.ensures.after is off in
    let b = c.start.new.quads in
    let new = c.start.new.self in
    let made = EventSlot c.args.who c.at-controller.result undef ∷ [] in
    let sheet = started {E = Running} c.start.result (record {}) (sheet_in b new ≡ start (sheet_in mid old) w signal) (runs (sheet_in mid old) w) c.start.ensures.answer quiet c.start.ensures.sheet in
    let p = signal-shifts a mid b old new l cell w signal c.requires.paid c.take_event-signal.ensures.after is off sheet c.start.ensures.rows c.start.ensures.keeps in
    let x = shifts-act a b old new l made (Starts w signal) 0 c.requires.paid.held p b c.goes.new.self 2 [] c.args.next c.goes.result (omega arith) c.goes.ensures in
    start-acts a b old new l c.goes.new.self c.args.who w c.at-controller.result signal c.args.next c.goes.result (sym c.is_actor.ensures ∙ c.if-not-is_actor.false) is off
    (c.take_event-signal.ensures.word ∙ ap Cap (sym (next-used a.store))) c.at-controller.ensures c.at-sponsor.ensures x.0

pub returns-clause-stays : goal.returns-clause-stays
returns-clause-stays c =
    let a = c.args.quads.now in
    let old = c.args.sheet.now in
    let l = c.args.lane.now in
    let mid = c.take_event-signal.new.self in
    let w = c.at-sponsor.result in
    let signal = c.take_event-signal.result in
    let cell : EventCell = record { sponsor = c.args.who; target = c.at-controller.result; message = undef; next = nil } in
    let is = sym c.is_sponsor.ensures ∙ c.if-not-is_sponsor.false in
    let off = sym c.running.ensures ∙ c.if-running.false in
    let quiet = still-off a mid c.start.new.quads old c.start.new.self l cell w signal c.requires.paid c.take_event-signal.ensures.after is off in
    let b = c.start.new.quads in
    let new = c.start.new.self in
    let made = EventSlot c.args.who c.at-controller.result undef ∷ [] in
    let sheet = started {E = Running} c.start.result (record {}) (sheet_in b new ≡ start (sheet_in mid old) w signal) (runs (sheet_in mid old) w) c.start.ensures.answer quiet c.start.ensures.sheet in
    let p = signal-shifts a mid b old new l cell w signal c.requires.paid c.take_event-signal.ensures.after is off sheet c.start.ensures.rows c.start.ensures.keeps in
    (shifts-act a b old new l made (Starts w signal) 0 c.requires.paid.held p b c.goes.new.self 2 [] c.args.next c.goes.result (omega arith) c.goes.ensures).1
