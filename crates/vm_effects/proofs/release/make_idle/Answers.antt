use Rattle.std.proofs.Common.{◌≡◌, ℕ, suc, ◌-◌, ap, sym, ◌∙◌, arith, refl, subst}
use Rattle.cap_words.specs.declared.word.Tag.TheVariants.{Actor}
use Rattle.cap_words.specs.Store.{Store, opaque_cell}
use Rattle.quad_memory.specs.Memory.{Memory}
use Rattle.vm_effects.specs.Links.{walk}
use Rattle.vm_effects.proofs.Idled.{Idling, idling-start, idling-more, idling-end}
use Rattle.vm_effects.proofs.release.make_idle.Goals as goal

pub loop-init : goal.loop-init
loop-init c = (c.args.count, omega arith, idling-start c.args.quads.now.store c.args.count c.args.first c.requires, refl)

pub loop-preserved : goal.loop-preserved
loop-preserved c =
    let s = c.args.quads.now.store in
    let ws = walk (opaque_cell s Actor) c.args.count c.args.first in
    let v = c.loop.invariant in
    let k = v.0 - 1 in
    let more : v.0 ≡ suc k = omega (arith, v.1, c.loop-test.true) in
    let before = subst (λ (n : ℕ). Idling s c.loop.quads.store ws n c.loop.word) more v.2 in (
      k,
      omega (arith, v.1, c.loop-test.true),
      subst (λ (t : Store). Idling s t ws k c.link_of-next.result) (sym (ap (λ (m : Memory). m.store) c.set_mark.ensures))
          (subst (Idling s _ ws k) (sym c.link_of-next.ensures) (idling-more s c.loop.quads.store ws k c.loop.word before)),
      ap (λ (m : Memory). m.room) c.set_mark.ensures ∙ v.3,
    )

pub returns : goal.returns
returns c =
    let s = c.args.quads.now.store in
    let v = c.loop.invariant in
    let none : v.0 ≡ 0 = omega (arith, v.1, c.loop-test.false) in
    let r = idling-end s c.loop.quads.store c.args.count c.args.first c.loop.word (subst (λ (n : ℕ). Idling s c.loop.quads.store (walk (opaque_cell s Actor) c.args.count c.args.first) n c.loop.word) none v.2) in
    record { seen = r.0; frame = r.1; room = v.3 }
