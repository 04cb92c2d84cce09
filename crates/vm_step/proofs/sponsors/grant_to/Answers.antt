use Rattle.std.proofs.Common.{[], ◌∙◌, sym, subst, arith, if◌then◌else◌}
use Rattle.cap_words.specs.Words.{W}
use Rattle.cap_words.specs.Seen.{seen}
use Rattle.instr_table.specs.Types.{is_sponsor}
use Rattle.instr_table.specs.Event.{Grants}
use Rattle.instr_table.specs.Outcome.{does, faults, not_sponsor}
use Rattle.vm_step.specs.Paid.{Acts}
use Rattle.vm_step.proofs.Typing.{books-whole}
use Rattle.vm_step.proofs.Shifting.{shifts-act}
use Rattle.vm_step.proofs.Sponsoring.{grant-shifts, shifts-ready, first-branch}
use Rattle.vm_step.proofs.sponsors.grant_to.Goals as goal

pub is_sponsor-requires : goal.is_sponsor-requires
is_sponsor-requires c = books-whole c.args.quads.now c.args.sheet.now c.requires.paid.books

pub goes-requires : goal.goes-requires
goes-requires c =
    let e = c.in-Ok.ensures in
    let p = grant-shifts c.args.quads.now c.args.sheet.now c.args.lane.now 0 c.requires.paid c.grant.new.quads c.grant.new.self c.args.who c.at-sponsor.result c.args.kind c.args.amount c.requires.who (sym c.is_sponsor.ensures ∙ c.if-not-is_sponsor.false) c.requires.enough e.sheet e.keeps e.transfers in
    shifts-ready c.args.quads.now c.grant.new.quads c.args.sheet.now c.grant.new.self c.args.lane.now [] (Grants c.at-sponsor.result c.args.kind c.args.amount) 0 0 c.requires.paid p

pub returns-clause-acts : goal.returns-clause-acts
returns-clause-acts c =
    let a = c.args.quads.now in
    let old = c.args.sheet.now in
    let l = c.args.lane.now in
    let w = c.at-sponsor.result in
    let e = c.in-Ok.ensures in
    let is = sym c.is_sponsor.ensures ∙ c.if-not-is_sponsor.false in
    let p = grant-shifts a old l 0 c.requires.paid c.grant.new.quads c.grant.new.self c.args.who w c.args.kind c.args.amount c.requires.who is c.requires.enough e.sheet e.keeps e.transfers in
    let x = shifts-act a c.grant.new.quads old c.grant.new.self l [] (Grants w c.args.kind c.args.amount) 0 c.requires.paid.held p c.grant.new.quads c.goes.new.self 1 [] c.args.next c.goes.result (omega arith) c.goes.ensures in
    subst (λ (v : W). Acts a c.grant.new.quads old c.grant.new.self l c.goes.new.self (if is_sponsor (seen a.store) v then does 1 [] [] c.args.next (Grants v c.args.kind c.args.amount) else faults 0 0 not_sponsor).outcome c.goes.result) c.at-sponsor.ensures
    (first-branch a c.grant.new.quads old c.grant.new.self l c.goes.new.self c.goes.result (is_sponsor (seen a.store) w) (does 1 [] [] c.args.next (Grants w c.args.kind c.args.amount)) (faults 0 0 not_sponsor) is x.0)

pub returns-clause-stays : goal.returns-clause-stays
returns-clause-stays c =
    let a = c.args.quads.now in
    let old = c.args.sheet.now in
    let l = c.args.lane.now in
    let w = c.at-sponsor.result in
    let e = c.in-Ok.ensures in
    let p = grant-shifts a old l 0 c.requires.paid c.grant.new.quads c.grant.new.self c.args.who w c.args.kind c.args.amount c.requires.who (sym c.is_sponsor.ensures ∙ c.if-not-is_sponsor.false) c.requires.enough e.sheet e.keeps e.transfers in
    (shifts-act a c.grant.new.quads old c.grant.new.self l [] (Grants w c.args.kind c.args.amount) 0 c.requires.paid.held p c.grant.new.quads c.goes.new.self 1 [] c.args.next c.goes.result (omega arith) c.goes.ensures).1
