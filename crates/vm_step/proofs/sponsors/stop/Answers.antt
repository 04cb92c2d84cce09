use Rattle.std.proofs.Common.{[], ◌∙◌, sym, subst, arith, if◌then◌else◌}
use Rattle.cap_words.specs.Words.{W}
use Rattle.cap_words.specs.Seen.{seen}
use Rattle.instr_table.specs.Types.{is_sponsor}
use Rattle.instr_table.specs.Event.{Stops}
use Rattle.instr_table.specs.Outcome.{does, faults, not_sponsor}
use Rattle.vm_step.specs.Paid.{Acts}
use Rattle.vm_step.proofs.Typing.{books-whole}
use Rattle.vm_step.proofs.Shifting.{shifts-act}
use Rattle.vm_step.proofs.Sponsoring.{stop-shifts, shifts-ready, first-branch}
use Rattle.vm_step.proofs.sponsors.stop.Goals as goal

pub is_sponsor-requires : goal.is_sponsor-requires
is_sponsor-requires c = books-whole c.args.quads.now c.args.sheet.now c.requires.books

pub goes-requires : goal.goes-requires
goes-requires c =
    let e = c.stop-signal.ensures in
    let p = stop-shifts c.args.quads.now c.args.sheet.now c.args.lane.now 0 c.requires c.stop-signal.new.quads c.stop-signal.new.self c.at-sponsor.result (sym c.is_sponsor.ensures ∙ c.if-not-is_sponsor.false) e.sheet e.rows e.keeps in
    shifts-ready c.args.quads.now c.stop-signal.new.quads c.args.sheet.now c.stop-signal.new.self c.args.lane.now [] (Stops c.at-sponsor.result) 0 0 c.requires p

pub returns-clause-acts : goal.returns-clause-acts
returns-clause-acts c =
    let a = c.args.quads.now in
    let old = c.args.sheet.now in
    let l = c.args.lane.now in
    let w = c.at-sponsor.result in
    let e = c.stop-signal.ensures in
    let is = sym c.is_sponsor.ensures ∙ c.if-not-is_sponsor.false in
    let p = stop-shifts a old l 0 c.requires c.stop-signal.new.quads c.stop-signal.new.self w is e.sheet e.rows e.keeps in
    let x = shifts-act a c.stop-signal.new.quads old c.stop-signal.new.self l [] (Stops w) 0 c.requires.held p c.stop-signal.new.quads c.goes.new.self 0 [] c.args.next c.goes.result (omega arith) c.goes.ensures in
    subst (λ (v : W). Acts a c.stop-signal.new.quads old c.stop-signal.new.self l c.goes.new.self (if is_sponsor (seen a.store) v then does 0 [] [] c.args.next (Stops v) else faults 0 0 not_sponsor).outcome c.goes.result) c.at-sponsor.ensures
    (first-branch a c.stop-signal.new.quads old c.stop-signal.new.self l c.goes.new.self c.goes.result (is_sponsor (seen a.store) w) (does 0 [] [] c.args.next (Stops w)) (faults 0 0 not_sponsor) is x.0)

pub returns-clause-stays : goal.returns-clause-stays
returns-clause-stays c =
    let a = c.args.quads.now in
    let old = c.args.sheet.now in
    let l = c.args.lane.now in
    let w = c.at-sponsor.result in
    let e = c.stop-signal.ensures in
    let p = stop-shifts a old l 0 c.requires c.stop-signal.new.quads c.stop-signal.new.self w (sym c.is_sponsor.ensures ∙ c.if-not-is_sponsor.false) e.sheet e.rows e.keeps in
    (shifts-act a c.stop-signal.new.quads old c.stop-signal.new.self l [] (Stops w) 0 c.requires.held p c.stop-signal.new.quads c.goes.new.self 0 [] c.args.next c.goes.result (omega arith) c.goes.ensures).1
