use Rattle.std.proofs.Common.{◌≡◌, suc, ◌-◌, ap, sym, ◌∙◌, arith, refl}
use Rattle.cap_words.proofs.Same.{word_same, word_differs}
use Rattle.instr_table.specs.Event.{has_created}
use Rattle.vm_effects.specs.Gathered.{made_from}
use Rattle.vm_effects.proofs.Created.{has_created-here, has_created-further}
use Rattle.vm_effects.proofs.effects.has_created.Goals as goal

pub loop-init : goal.loop-init
loop-init c = (c.args.created.now.count, omega arith, refl)

pub returns-then-is_same : goal.returns-then-is_same
returns-then-is_same c =
    let v = c.loop.invariant in
    sym (has_created-here c.args.quads.now.store v.0 c.loop.word c.args.actor (λ z. omega (arith, z, v.1, c.loop-test.true)) (word_same c.loop.word c.args.actor (sym c.is_same.ensures ∙ c.if-is_same.true))) ∙ v.2

pub loop-preserved : goal.loop-preserved
loop-preserved c =
    let s = c.args.quads.now.store in
    let v = c.loop.invariant in
    let k = v.0 - 1 in
    let more : v.0 ≡ suc k = omega (arith, v.1, c.loop-test.true) in (
      k,
      omega (arith, v.1, c.loop-test.true),
      ap (λ w. has_created c.args.actor (made_from s k w)) c.link_of-word.ensures
          ∙ sym (has_created-further s k c.loop.word c.args.actor (word_differs c.loop.word c.args.actor (sym c.is_same.ensures ∙ c.if-is_same.false)))
          ∙ ap (λ n. has_created c.args.actor (made_from s n c.loop.word)) (sym more)
          ∙ v.2,
    )
