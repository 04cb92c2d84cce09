use Rattle.std.proofs.Common.{◌∙◌, [], ◌∷◌, true, length, nat_lt, sym}
use Rattle.cap_words.specs.Words.{Cap}
use Rattle.cap_words.specs.Store.{used}
use Rattle.cap_words.specs.Seen.{SponsorSlot, SpentSlot, seen}
use Rattle.instr_table.specs.Lists.{next_quad}
use Rattle.instr_table.specs.Event.{Sponsors}
use Rattle.vm_step.proofs.Shifting.{make-shifts}
use Rattle.vm_step.proofs.Sponsoring.{full-acts, new-paid, new-acts, made-word, shifts-ready}
use Rattle.vm_step.proofs.sponsors.make.Goals as goal

pub returns-then-not-may_grow-clause-acts : goal.returns-then-not-may_grow-clause-acts
returns-then-not-may_grow-clause-acts c =
    (full-acts c.args.quads.now c.gives.new.quads c.args.sheet.now c.args.lane.now c.gives.new.self c.args.next c.gives.result (sym c.may_grow.ensures ∙ c.if-not-may_grow.true) c.requires c.gives.ensures).0

pub returns-then-not-may_grow-clause-stays : goal.returns-then-not-may_grow-clause-stays
returns-then-not-may_grow-clause-stays c =
    (full-acts c.args.quads.now c.gives.new.quads c.args.sheet.now c.args.lane.now c.gives.new.self c.args.next c.gives.result (sym c.may_grow.ensures ∙ c.if-not-may_grow.true) c.requires c.gives.ensures).1

pub gives-requires-in-Some : goal.gives-requires-in-Some
gives-requires-in-Some c =
    let a = c.args.quads.now in
    let old = c.args.sheet.now in
    let l = c.args.lane.now in
    let e = c.in-Some.ensures in
    let word = made-word c.in-Some.sponsor (nat_lt (length old.rows) old.room) (used a.store) e.word in
    let paid = new-paid a old l c.args.next true (sym c.may_grow.ensures ∙ c.if-not-may_grow.false) c.requires in
    shifts-ready a c.make.new.quads old c.make.new.self l (SponsorSlot ∷ SpentSlot ∷ []) (Sponsors (Cap (next_quad (seen a.store)))) 3 1 paid
    (make-shifts a c.make.new.quads old c.make.new.self l c.in-Some.sponsor paid word e.sheet e.names e.belongs e.seen e.frame e.transfers e.room e.quads_room)

pub returns-clause-acts : goal.returns-clause-acts
returns-clause-acts c =
    let a = c.args.quads.now in
    let old = c.args.sheet.now in
    let l = c.args.lane.now in
    let e = c.in-Some.ensures in
    let grows = sym c.may_grow.ensures ∙ c.if-not-may_grow.false in
    let word = made-word c.in-Some.sponsor (nat_lt (length old.rows) old.room) (used a.store) e.word in
    let paid = new-paid a old l c.args.next true grows c.requires in
    (new-acts a c.make.new.quads c.gives-in-Some.new.quads old c.make.new.self l c.gives-in-Some.new.self c.in-Some.sponsor c.args.next c.gives-in-Some.result grows paid word
    (make-shifts a c.make.new.quads old c.make.new.self l c.in-Some.sponsor paid word e.sheet e.names e.belongs e.seen e.frame e.transfers e.room e.quads_room) c.gives-in-Some.ensures).0

pub returns-clause-stays : goal.returns-clause-stays
returns-clause-stays c =
    let a = c.args.quads.now in
    let old = c.args.sheet.now in
    let l = c.args.lane.now in
    let e = c.in-Some.ensures in
    let grows = sym c.may_grow.ensures ∙ c.if-not-may_grow.false in
    let word = made-word c.in-Some.sponsor (nat_lt (length old.rows) old.room) (used a.store) e.word in
    let paid = new-paid a old l c.args.next true grows c.requires in
    (new-acts a c.make.new.quads c.gives-in-Some.new.quads old c.make.new.self l c.gives-in-Some.new.self c.in-Some.sponsor c.args.next c.gives-in-Some.result grows paid word
    (make-shifts a c.make.new.quads old c.make.new.self l c.in-Some.sponsor paid word e.sheet e.names e.belongs e.seen e.frame e.transfers e.room e.quads_room) c.gives-in-Some.ensures).1
