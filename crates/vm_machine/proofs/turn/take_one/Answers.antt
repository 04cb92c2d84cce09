use Rattle.std.proofs.Common.{◌≡◌, ◌<◌, true, false, ap, sym, subst, ◌∙◌, arith}
use Rattle.std.proofs.lemmas.Nat.{mod_below}
use Rattle.vm_turn.specs.Run.{not_rest}
use Rattle.vm_machine.specs.View.{state_of}
use Rattle.vm_machine.proofs.Taking.{lane-there}
use Rattle.vm_machine.proofs.Unchanged.{step-tells}
use Rattle.vm_machine.proofs.turn.take_one.Goals as goal

pub returns-clause-unchanged : goal.returns-clause-unchanged
returns-clause-unchanged c = λ h.
    let p = c.args.parts.now in
    let n = c.len-count.result in
    let k = c.chosen.result in
    let some : 0 < n = omega (arith, c.if-count-eq0.false) in
    let below : k < n = subst (λ j. j < n) (sym c.chosen.ensures) (mod_below c.args.pick n some) in
    let l = lane-there p k (omega (arith, below, c.len-count.ensures)) in
    let tells : not_rest c.take.result ≡ true = ap not_rest (c.take.ensures.turn l.0 l.1) ∙ step-tells (state_of p) k l.0 in
    let no : false ≡ true = sym h ∙ tells in cc
