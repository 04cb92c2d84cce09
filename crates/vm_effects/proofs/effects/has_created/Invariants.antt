use Rattle.std.proofs.Common.{◌≡◌, ℕ, ◌+◌}
use Rattle.instr_table.specs.Event.{has_created}
use Rattle.vm_effects.specs.Gathered.{made_from}
use Rattle.vm_effects.proofs.effects.has_created.Given as goal

abbrev pub invariant-loop : goal.invariant-loop
invariant-loop l = (n : ℕ) × (n + l.counter ≡ l.created.count) × (has_created l.actor (made_from l.quads.store n l.word) ≡ has_created l.actor (made_from l.quads.store l.created.count l.created.first))
