use Rattle.std.proofs.Common.{◌≤◌, ◌-◌, length}
use Rattle.hum_lex.proofs.Insides.{IsInsideAt}
use Rattle.hum_lex.proofs.text.inside_of.Given as goal

abbrev pub invariant-loop-at : goal.invariant-loop-at
invariant-loop-at l = record {
  read : IsInsideAt l.bytes l.at l.points.items;
  within : l.at ≤ length l.bytes;
}

abbrev pub decreases-loop-at : goal.decreases-loop-at
decreases-loop-at l = length l.bytes - l.at
