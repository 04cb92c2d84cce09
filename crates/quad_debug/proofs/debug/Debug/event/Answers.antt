use Rattle.std.proofs.Common.{◌≡◌, ◌∙◌, ◌+◌, ap, subst, length, ℕ}
use Rattle.std.specs.Prelude.{OnOk, OnErr}
use Rattle.vm_machine.specs.Machine.{Machine}
use Rattle.quad_debug.specs.declared.wait.Wait.TheVariants.{Entries}
use Rattle.quad_debug.specs.Parts.{Waits, BreaksWait}
use Rattle.quad_debug.proofs.debug.Debug.event.Goals as goal

pub returns-clause-obeys : goal.returns-clause-obeys
returns-clause-obeys g c =
    let w = g.K.Sink.written in
    let old = c.args.self.now in
    let count : length c.journal.result.now + c.args.count ≡ length old.machine.state.journal + c.args.count =
    ap (λ j. length j + c.args.count) (c.journal.ensures.value ∙ ap (λ (m : Machine). m.state.journal) c.machine.ensures) in
    subst (λ (n : ℕ). OnOk c.wait_for.result (Waits (Entries n) old c.wait_for.new.self (w c.args.out.now) (w c.wait_for.new.out))) count c.wait_for.ensures.waits

pub returns-clause-breaks : goal.returns-clause-breaks
returns-clause-breaks g c =
    let w = g.K.Sink.written in
    let old = c.args.self.now in
    let count : length c.journal.result.now + c.args.count ≡ length old.machine.state.journal + c.args.count =
    ap (λ j. length j + c.args.count) (c.journal.ensures.value ∙ ap (λ (m : Machine). m.state.journal) c.machine.ensures) in
    subst (λ (n : ℕ). OnErr c.wait_for.result (BreaksWait (Entries n) old c.wait_for.new.self (w c.args.out.now) (w c.wait_for.new.out))) count c.wait_for.ensures.breaks
