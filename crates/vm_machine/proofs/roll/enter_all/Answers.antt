use Rattle.std.proofs.Common.{arith, ◌≡◌, ℕ, suc, ◌-◌, ◌∷◌, [], ◌++◌, List, refl, sym, ◌∙◌, ap, subst, append_assoc}
use Rattle.cap_words.specs.declared.word.Tag.TheVariants.{Actor}
use Rattle.cap_words.specs.Words.{W}
use Rattle.cap_words.specs.Store.{opaque_cell}
use Rattle.vm_effects.specs.Links.{walk}
use Rattle.vm_effects.proofs.Records.{made_words-read}
use Rattle.vm_machine.proofs.Failing.{append-none}
use Rattle.vm_machine.proofs.roll.enter_all.Goals as goal

pub loop-init : goal.loop-init
loop-init c = (c.args.count, omega arith, refl, omega arith, omega arith)

pub enter-requires : goal.enter-requires
enter-requires c = let v = c.loop.invariant in omega (arith, v.1, v.3, v.4, c.requires, c.loop-test.true)

pub loop-preserved : goal.loop-preserved
loop-preserved c =
    let look = opaque_cell c.args.quads.now.store Actor in
    let v = c.loop.invariant in
    let k = v.0 - 1 in
    let more : v.0 ≡ suc k = omega (arith, v.1, c.loop-test.true) in
    let whole = c.args.roll.now.items ++ walk look c.args.count c.args.first in
    let before = subst (λ (n : ℕ). c.loop.roll.items ++ walk look n c.loop.actor ≡ whole) more v.2 in
    let after = subst (λ (w : W). c.loop.roll.items ++ c.loop.actor ∷ walk look k w ≡ whole) (sym c.link_of-actor.ensures) before in (
      k,
      omega (arith, v.1, c.loop-test.true),
      ap (λ (l : List W). l ++ walk look k c.link_of-actor.result) c.enter.ensures.items ∙ append_assoc c.loop.roll.items (c.loop.actor ∷ []) (walk look k c.link_of-actor.result) ∙ after,
      omega (arith, v.3, c.enter.ensures.len),
      omega (arith, v.4, c.enter.ensures.capacity),
    )

pub returns-clause-items : goal.returns-clause-items
returns-clause-items c =
    let s = c.args.quads.now.store in
    let look = opaque_cell s Actor in
    let v = c.loop.invariant in
    let none : v.0 ≡ 0 = omega (arith, v.1, c.loop-test.false) in
    let ws = walk look c.args.count c.args.first in
    let e = subst (λ (n : ℕ). c.loop.roll.items ++ walk look n c.loop.actor ≡ c.args.roll.now.items ++ ws) none v.2 in
    sym (append-none c.loop.roll.items) ∙ e ∙ ap (λ (l : List W). c.args.roll.now.items ++ l) (sym (made_words-read s ws))

pub returns-clause-len : goal.returns-clause-len
returns-clause-len c = let v = c.loop.invariant in omega (arith, v.1, v.3, c.loop-test.false)

pub returns-clause-capacity : goal.returns-clause-capacity
returns-clause-capacity c = c.loop.invariant.4
