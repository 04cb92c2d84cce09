use Rattle.std.proofs.Common.{◌≡◌, ◌≤◌, ◌-◌, length}
use Rattle.vm_sponsor.proofs.Rows.{Passed}
use Rattle.vm_sponsor.proofs.sheet.place_of.Given as goal

abbrev pub invariant-loop-place : goal.invariant-loop-place
invariant-loop-place l = (l.rows ≡ l.fn.rows) × (l.place ≤ length l.rows) × Passed l.who l.place l.rows

abbrev pub decreases-loop-place : goal.decreases-loop-place
decreases-loop-place l = length l.rows - l.place
