-- Each entry is of an event that committed, failed or ran out.
use Rattle.std.proofs.Common.{◌≡◌, ◌+◌, ℕ, List, [], ◌∷◌, length, refl, arith}
use Rattle.vm_turn.specs.declared.journal.Entry.{Entry}
use Rattle.vm_turn.specs.declared.journal.Outcome.{Outcome}
use Rattle.vm_turn.specs.declared.journal.Outcome.TheVariants.{Committed, Failed, RanOut}
use Rattle.vm_turn.specs.Turn.{entry}
use Rattle.hum_run.specs.Report.{count_of, is_committed, is_failed, is_ran_out}

abbrev AddUp : List Entry → Type 0
AddUp journal = length journal ≡ count_of is_committed journal + count_of is_failed journal + count_of is_ran_out journal

one_more : (message : ℕ) (outcome : Outcome) (more : List Entry) → AddUp more → AddUp (entry message outcome ∷ more)
one_more message Committed more h = omega (arith, h)
one_more message (Failed reason) more h = omega (arith, h)
one_more message (RanOut kind) more h = omega (arith, h)

pub counts-add_up : (journal : List Entry) → length journal ≡ count_of is_committed journal + count_of is_failed journal + count_of is_ran_out journal
counts-add_up [] = refl
counts-add_up (e ∷ more) = one_more e.message e.outcome more (counts-add_up more)
