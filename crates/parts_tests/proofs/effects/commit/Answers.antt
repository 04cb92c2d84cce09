use Rattle.std.proofs.Common.{ap₂, sym, ◌∙◌}
use Rattle.quad_memory.specs.Memory.{Memory}
use Rattle.instr_table.specs.Event.{has_created}
use Rattle.vm_effects.specs.declared.effects.Effects.{Effects}
use Rattle.vm_effects.specs.Gathered.{made_from}
use Rattle.parts_tests.proofs.effects.commit.Goals as goal

pub commit-requires-clause-other : goal.commit-requires-clause-other
commit-requires-clause-other g c =
    let refused = c.in-Err.ensures.refused in
    ap₂ (λ (m : Memory) (e : Effects). has_created c.cap-actor.result (made_from m.store e.created.count e.created.first)) refused.0 refused.1 ∙ sym c.in-Err.ensures.fresh
