use Rattle.std.proofs.Common.{◌≡◌, ◌+◌, ◌≤◌, ℕ, length}
use Rattle.cap_words.specs.declared.word.Tag.TheVariants.{Event}
use Rattle.cap_words.specs.Store.{opaque_cell}
use Rattle.vm_effects.specs.Links.{walk}
use Rattle.event_queue.specs.Pending.{appended}
use Rattle.event_queue.proofs.release.append_all.Given as goal

-- so many events are still to come
abbrev pub invariant-loop : goal.invariant-loop
invariant-loop l = (left : ℕ) × (left + l.counter ≡ l.count)
    × (appended l.queue (walk (opaque_cell l.quads.store Event) left l.event) ≡ appended l.fn.queue (walk (opaque_cell l.quads.store Event) l.count l.fn.first))
    × (length l.queue.given + left ≤ l.queue.room)
