use Rattle.std.proofs.Common.{[], ◌∙◌, sym, subst, arith, if◌then◌else◌}
use Rattle.cap_words.specs.Words.{W}
use Rattle.cap_words.specs.Seen.{seen}
use Rattle.instr_table.specs.Types.{is_sponsor}
use Rattle.instr_table.specs.Event.{Reclaims}
use Rattle.instr_table.specs.Outcome.{does, faults, not_sponsor}
use Rattle.vm_step.specs.Paid.{Acts}
use Rattle.vm_step.proofs.Typing.{books-whole}
use Rattle.vm_step.proofs.Shifting.{shifts-act}
use Rattle.vm_step.proofs.Sponsoring.{reclaim-shifts, shifts-ready, first-branch}
use Rattle.vm_step.proofs.sponsors.reclaim.Goals as goal

pub is_sponsor-requires : goal.is_sponsor-requires
is_sponsor-requires c = books-whole c.args.quads.now c.args.sheet.now c.requires.paid.books

pub goes-requires : goal.goes-requires
goes-requires c =
    let e = c.reclaim.ensures in
    let p = reclaim-shifts c.args.quads.now c.args.sheet.now c.args.lane.now 0 c.requires.paid c.reclaim.new.quads c.reclaim.new.self c.args.who c.at-sponsor.result c.requires.who (sym c.is_sponsor.ensures ∙ c.if-not-is_sponsor.false) e.sheet e.keeps e.transfers in
    shifts-ready c.args.quads.now c.reclaim.new.quads c.args.sheet.now c.reclaim.new.self c.args.lane.now [] (Reclaims c.at-sponsor.result) 0 0 c.requires.paid p

pub returns-clause-acts : goal.returns-clause-acts
returns-clause-acts c =
    let a = c.args.quads.now in
    let old = c.args.sheet.now in
    let l = c.args.lane.now in
    let w = c.at-sponsor.result in
    let e = c.reclaim.ensures in
    let is = sym c.is_sponsor.ensures ∙ c.if-not-is_sponsor.false in
    let p = reclaim-shifts a old l 0 c.requires.paid c.reclaim.new.quads c.reclaim.new.self c.args.who w c.requires.who is e.sheet e.keeps e.transfers in
    let x = shifts-act a c.reclaim.new.quads old c.reclaim.new.self l [] (Reclaims w) 0 c.requires.paid.held p c.reclaim.new.quads c.goes.new.self 0 [] c.args.next c.goes.result (omega arith) c.goes.ensures in
    subst (λ (v : W). Acts a c.reclaim.new.quads old c.reclaim.new.self l c.goes.new.self (if is_sponsor (seen a.store) v then does 0 [] [] c.args.next (Reclaims v) else faults 0 0 not_sponsor).outcome c.goes.result) c.at-sponsor.ensures
    (first-branch a c.reclaim.new.quads old c.reclaim.new.self l c.goes.new.self c.goes.result (is_sponsor (seen a.store) w) (does 0 [] [] c.args.next (Reclaims w)) (faults 0 0 not_sponsor) is x.0)

pub returns-clause-stays : goal.returns-clause-stays
returns-clause-stays c =
    let a = c.args.quads.now in
    let old = c.args.sheet.now in
    let l = c.args.lane.now in
    let w = c.at-sponsor.result in
    let e = c.reclaim.ensures in
    let p = reclaim-shifts a old l 0 c.requires.paid c.reclaim.new.quads c.reclaim.new.self c.args.who w c.requires.who (sym c.is_sponsor.ensures ∙ c.if-not-is_sponsor.false) e.sheet e.keeps e.transfers in
    (shifts-act a c.reclaim.new.quads old c.reclaim.new.self l [] (Reclaims w) 0 c.requires.paid.held p c.reclaim.new.quads c.goes.new.self 0 [] c.args.next c.goes.result (omega arith) c.goes.ensures).1
