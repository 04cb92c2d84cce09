use Rattle.std.proofs.Common.{subst, ap, ◌∙◌, ◌++◌, ◌≡◌}
use Rattle.hum_outside.specs.Outside.{AppendsFront, appended}
use Rattle.hum_outside.proofs.Fronts.{front_after, front_left, on_err}
use Rattle.instr_table.specs.declared.charge.Quota.TheVariants.{Memory, Events, Cycles}
use Rattle.vm_sponsor.specs.declared.amounts.SheetRow.{SheetRow}
use Rattle.failure_lines.proofs.Results.{on_err-map}
use Rattle.quad_debug.specs.Texts.{amount_line}
use Rattle.quad_debug.specs.Reading.{row_amount}
use Rattle.quad_debug.proofs.sheet.put_account.Goals as goal

pub returns-in_err-put_amount-clause-front : goal.returns-in_err-put_amount-clause-front
returns-in_err-put_amount-clause-front g c = λ a is.
    let w = g.K.Sink.written in
    let n = c.args.number in
    on_err c.from_residual.result
    (front_left (w c.args.out.now) (w c.put_amount.new.out) (amount_line n Memory a.memory) (amount_line n Events a.events ++ amount_line n Cycles a.cycles)
    (subst (λ (r : SheetRow). AppendsFront (w c.args.out.now) (w c.put_amount.new.out) (amount_line n Memory (row_amount Memory r))) is c.in_err-put_amount.ensures.front))

pub returns-in_err-put_amount-2-clause-front : goal.returns-in_err-put_amount-2-clause-front
returns-in_err-put_amount-2-clause-front g c = λ a is.
    let w = g.K.Sink.written in
    let n = c.args.number in
    let first : w c.put_amount.new.out ≡ appended (w c.args.out.now) (amount_line n Memory a.memory) = c.in_ok-put_amount.ensures.all ∙ ap (λ (r : SheetRow). appended (w c.args.out.now) (amount_line n Memory (row_amount Memory r))) is in
    on_err c.from_residual-in_err-put_amount-2.result
    (front_after (w c.args.out.now) (w c.put_amount.new.out) (w c.put_amount-2.new.out) (amount_line n Memory a.memory) (amount_line n Events a.events ++ amount_line n Cycles a.cycles) first
    (front_left (w c.put_amount.new.out) (w c.put_amount-2.new.out) (amount_line n Events a.events) (amount_line n Cycles a.cycles)
    (subst (λ (r : SheetRow). AppendsFront (w c.put_amount.new.out) (w c.put_amount-2.new.out) (amount_line n Events (row_amount Events r))) is c.in_err-put_amount-2.ensures.front)))

pub returns-clause-front : goal.returns-clause-front
returns-clause-front g c = λ a is.
    let w = g.K.Sink.written in
    let n = c.args.number in
    let first : w c.put_amount.new.out ≡ appended (w c.args.out.now) (amount_line n Memory a.memory) = c.in_ok-put_amount.ensures.all ∙ ap (λ (r : SheetRow). appended (w c.args.out.now) (amount_line n Memory (row_amount Memory r))) is in
    let second : w c.put_amount-2.new.out ≡ appended (w c.put_amount.new.out) (amount_line n Events a.events) = c.in_ok-put_amount-2.ensures.all ∙ ap (λ (r : SheetRow). appended (w c.put_amount.new.out) (amount_line n Events (row_amount Events r))) is in
    on_err-map c.put_amount-3.result c.put_amount-3.ensures.front c.put_amount-3.ensures.cause.failed
    (λ front rose. front_after (w c.args.out.now) (w c.put_amount.new.out) (w c.put_amount-3.new.out) (amount_line n Memory a.memory) (amount_line n Events a.events ++ amount_line n Cycles a.cycles) first
    (front_after (w c.put_amount.new.out) (w c.put_amount-2.new.out) (w c.put_amount-3.new.out) (amount_line n Events a.events) (amount_line n Cycles a.cycles) second
    (subst (λ (r : SheetRow). AppendsFront (w c.put_amount-2.new.out) (w c.put_amount-3.new.out) (amount_line n Cycles (row_amount Cycles r))) is front)))
