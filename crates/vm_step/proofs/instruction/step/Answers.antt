use Rattle.std.proofs.Common.{◌≡◌, None, Some, refl, ap, sym, ◌∙◌, subst}
use Rattle.instr_table.specs.declared.charge.Charge.{Charge}
use Rattle.instr_table.specs.Event.{Own}
use Rattle.instr_table.specs.Outcome.{Row, Faults, bad_instruction, charge, faults}
use Rattle.instr_table.specs.Sheet.{account, short}
use Rattle.vm_step.specs.declared.lane.StepEnd.TheVariants.{Abort}
use Rattle.vm_step.specs.Step.{sheet_in, payer, ActsBy}
use Rattle.vm_step.specs.Paid.{Paid, Acts, paid_row_in, unpaid_row_in}
use Rattle.vm_step.proofs.Going.{Pays, acts-after, stays-after, stays-refl}
use Rattle.vm_step.proofs.Rows.{row-paid, row-fetched, paid-by, steps-paid, steps-short}
use Rattle.vm_step.proofs.instruction.step.Goals as goal

pub act-requires-clause-paid : goal.act-requires-clause-paid
act-requires-clause-paid c =
    let a = c.args.quads.now in
    let old = c.args.sheet.now in
    let l = c.args.lane.now in
    let e = c.in-Ok.ensures in
    let cost = c.charge_of-charge.result in
    let p : Pays a c.spend.new.quads old c.spend.new.self l cost =
    (paid-by a c.spend.new.quads old c.spend.new.self l cost c.of-own.result.sponsor c.requires.books c.requires.held (ap (λ (o : Own). o.sponsor) c.of-own.ensures) e.answer e.sheet e.rows e.keeps).1 in
    let charged = c.charge_of-charge.ensures c.in-Some.next in
    let row = row-paid a c.spend.new.quads old c.spend.new.self l cost c.in-Some.op c.in-Some.next p c.in-Some.ensures.in_row charged in
    subst (λ (x : Charge). Paid c.spend.new.quads c.spend.new.self l x.quads) (charged ∙ ap (λ (r : Row). r.charge) (sym row)) p.paid

pub returns-in-Ok-clause-steps : goal.returns-in-Ok-clause-steps
returns-in-Ok-clause-steps c =
    let a = c.args.quads.now in
    let b = c.spend.new.quads in
    let old = c.args.sheet.now in
    let mid = c.spend.new.self in
    let l = c.args.lane.now in
    let e = c.in-Ok.ensures in
    let cost = c.charge_of-charge.result in
    let by = paid-by a b old mid l cost c.of-own.result.sponsor c.requires.books c.requires.held (ap (λ (o : Own). o.sponsor) c.of-own.ensures) e.answer e.sheet e.rows e.keeps in
    let charged = c.charge_of-charge.ensures c.in-Some.next in
    let r = unpaid_row_in a old l c.in-Some.op c.in-Some.next in
    let row : paid_row_in b mid l c.in-Some.op c.in-Some.next ≡ r = row-paid a b old mid l cost c.in-Some.op c.in-Some.next by.1 c.in-Some.ensures.in_row charged in
    let acts = subst (λ (q : Row). Acts b c.act.new.quads mid c.act.new.sheet l c.act.new.lane q.outcome c.act.result) row c.act.ensures.acts in
    let done = acts-after a b c.act.new.quads old mid c.act.new.sheet l c.act.new.lane cost by.1 r.outcome c.act.result acts in
    steps-paid a c.act.new.quads old c.act.new.sheet l c.act.new.lane r c.act.result (row-fetched a old l (Some (c.in-Some.op, c.in-Some.next)) c.in-Some.ensures.value)
    (ap (λ (x : Charge). short (account (sheet_in a old) (payer a l)) x) (sym charged) ∙ by.0)
    (subst (λ (x : Charge). ActsBy a c.act.new.quads old c.act.new.sheet l c.act.new.lane x r.outcome c.act.result) charged done)

pub returns-in-Ok-clause-stays : goal.returns-in-Ok-clause-stays
returns-in-Ok-clause-stays c =
    let a = c.args.quads.now in
    let old = c.args.sheet.now in
    let l = c.args.lane.now in
    let e = c.in-Ok.ensures in
    let cost = c.charge_of-charge.result in
    let by = paid-by a c.spend.new.quads old c.spend.new.self l cost c.of-own.result.sponsor c.requires.books c.requires.held (ap (λ (o : Own). o.sponsor) c.of-own.ensures) e.answer e.sheet e.rows e.keeps in
    stays-after a c.spend.new.quads c.act.new.quads old c.spend.new.self c.act.new.sheet l c.act.new.lane cost by.1 c.act.ensures.stays

pub returns-in-Err-clause-steps : goal.returns-in-Err-clause-steps
returns-in-Err-clause-steps c =
    let a = c.args.quads.now in
    let old = c.args.sheet.now in
    let l = c.args.lane.now in
    let e = c.in-Err.ensures in
    steps-short a c.spend.new.quads old c.spend.new.self l (unpaid_row_in a old l c.in-Some.op c.in-Some.next) c.charge_of-charge.result c.of-own.result.sponsor c.in-Err.short
    (row-fetched a old l (Some (c.in-Some.op, c.in-Some.next)) c.in-Some.ensures.value) (c.charge_of-charge.ensures c.in-Some.next) (ap (λ (o : Own). o.sponsor) c.of-own.ensures) e.answer e.ran_out e.rows

pub returns-in-Ok-spend-clause-steps : goal.returns-in-Ok-spend-clause-steps
returns-in-Ok-spend-clause-steps c =
    let a = c.args.quads.now in
    let b = c.spend-in-None.new.quads in
    let old = c.args.sheet.now in
    let mid = c.spend-in-None.new.self in
    let l = c.args.lane.now in
    let e = c.in-Ok-spend.ensures in
    let by = paid-by a b old mid l (charge 0 0) c.of-own.result.sponsor c.requires.books c.requires.held (ap (λ (o : Own). o.sponsor) c.of-own.ensures) e.answer e.sheet e.rows e.keeps in
    let done = acts-after a b b old mid mid l l (charge 0 0) by.1 (Faults bad_instruction) (Abort c.number_word.result) (ap Abort c.number_word.ensures, refl, refl, refl) in
    steps-paid a b old mid l l (faults 0 0 bad_instruction) (Abort c.number_word.result) (row-fetched a old l None c.in-None.ensures.value) by.0 done

pub returns-in-Ok-spend-clause-stays : goal.returns-in-Ok-spend-clause-stays
returns-in-Ok-spend-clause-stays c =
    let a = c.args.quads.now in
    let b = c.spend-in-None.new.quads in
    let old = c.args.sheet.now in
    let mid = c.spend-in-None.new.self in
    let l = c.args.lane.now in
    let e = c.in-Ok-spend.ensures in
    let by = paid-by a b old mid l (charge 0 0) c.of-own.result.sponsor c.requires.books c.requires.held (ap (λ (o : Own). o.sponsor) c.of-own.ensures) e.answer e.sheet e.rows e.keeps in
    stays-after a b b old mid mid l l (charge 0 0) by.1 (stays-refl b mid by.1.paid.books)
