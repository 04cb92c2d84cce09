use Rattle.std.proofs.Common.{ap, sym, ◌∙◌, subst}
use Rattle.cap_words.specs.Store.{Store}
use Rattle.quad_memory.specs.Memory.{Memory}
use Rattle.vm_effects.proofs.Created.{Assigned, after-assign}
use Rattle.vm_effects.proofs.effects.Effects.assign.Goals as goal

pub returns : goal.returns
returns c =
    let e = c.args.self.now in
    let fresh = sym c.has_created.ensures ∙ c.if-not-has_created.false in
    let a = subst (λ (t : Store). Assigned c.args.quads.now.store t e (record { actor = c.args.actor; state = c.args.state; code = c.args.code })) (sym (ap (λ (m : Memory). m.store) c.set_behaviour.ensures))
    (after-assign c.args.quads.now.store e c.args.code c.args.state c.args.actor c.requires.linked fresh) in
    record { fresh = sym fresh; effects = a.effects; linked = a.linked; seen = a.sees; frame = a.frame; refused = tt; room = ap (λ (m : Memory). m.room) c.set_behaviour.ensures }
