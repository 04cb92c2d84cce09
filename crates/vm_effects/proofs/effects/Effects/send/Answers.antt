use Rattle.std.proofs.Common.{refl, ap, ◌∙◌}
use Rattle.quad_memory.specs.Memory.{Memory}
use Rattle.vm_effects.proofs.Calls.{after-send}
use Rattle.vm_effects.proofs.effects.Effects.send.Goals as goal

pub returns : goal.returns
returns c =
    let took = c.take_event-word.ensures in
    let g = after-send c.args.quads.now.store c.args.self.now c.requires.linked c.take_event-word.new.self.store c.set_next.new.quads.store c.take_event-word.result c.with-self.result _ refl
    took.word (ap (λ (m : Memory). m.store) took.after) (ap (λ (m : Memory). m.store) c.set_next.ensures) c.with-self.ensures in
    record { effects = g.effects; linked = g.linked; seen = g.sees; frame = g.frame; room = ap (λ (m : Memory). m.room) c.set_next.ensures ∙ ap (λ (m : Memory). m.room) took.after }
