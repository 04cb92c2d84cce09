use Rattle.std.proofs.Common.{◌≡◌, ℕ, ◌+◌}
use Rattle.cap_words.specs.declared.word.Tag.TheVariants.{Actor}
use Rattle.cap_words.specs.Store.{opaque_cell}
use Rattle.vm_effects.specs.Links.{walk}
use Rattle.vm_effects.proofs.Idled.{Idling}
use Rattle.vm_effects.proofs.release.make_idle.Given as goal

abbrev pub invariant-loop : goal.invariant-loop
invariant-loop l = (n : ℕ) × (n + l.counter ≡ l.count) × Idling l.fn.quads.store l.quads.store (walk (opaque_cell l.fn.quads.store Actor) l.count l.fn.first) n l.word × (l.quads.room ≡ l.fn.quads.room)
