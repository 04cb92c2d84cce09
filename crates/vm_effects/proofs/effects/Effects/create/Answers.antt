use Rattle.std.proofs.Common.{refl, ap, ◌∙◌}
use Rattle.quad_memory.specs.Memory.{Memory}
use Rattle.vm_effects.proofs.Calls.{after-create}
use Rattle.vm_effects.proofs.effects.Effects.create.Goals as goal

pub returns : goal.returns
returns c =
    let took = c.take_actor-word.ensures in
    let g = after-create c.args.quads.now.store c.args.self.now c.requires.linked c.take_actor-word.new.self.store c.set_mark.new.quads.store c.take_actor-word.result c.with-self.result _ refl
    took.word (ap (λ (m : Memory). m.store) took.after) (ap (λ (m : Memory). m.store) c.set_mark.ensures) c.with-self.ensures in
    record { word = took.word; effects = g.effects; linked = g.linked; seen = g.sees; frame = g.frame; room = ap (λ (m : Memory). m.room) c.set_mark.ensures ∙ ap (λ (m : Memory). m.room) took.after }
