use Rattle.std.proofs.Common.{◌≡◌, ◌+◌, ◌≤◌, ◌++◌, vec_len, vec_capacity, ℕ}
use Rattle.cap_words.specs.declared.word.Tag.TheVariants.{Actor}
use Rattle.cap_words.specs.Store.{opaque_cell}
use Rattle.vm_effects.specs.Links.{walk}
use Rattle.vm_machine.proofs.roll.enter_all.Given as goal

-- so many actors are still to come
abbrev pub invariant-loop : goal.invariant-loop
invariant-loop l = (left : ℕ) × (left + l.counter ≡ l.count)
    × (l.roll.items ++ walk (opaque_cell l.quads.store Actor) left l.actor ≡ l.fn.roll.items ++ walk (opaque_cell l.quads.store Actor) l.count l.fn.first)
    × (vec_len l.roll ≡ vec_len l.fn.roll + l.counter) × (vec_capacity l.fn.roll ≤ vec_capacity l.roll)
