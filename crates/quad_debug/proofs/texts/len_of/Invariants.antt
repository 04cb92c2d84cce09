use Rattle.std.proofs.Common.{◌≡◌, length, ◌+◌}
use Rattle.std.specs.List.{prefix_len}
use Rattle.quad_debug.specs.Reading as spec
use Rattle.quad_debug.proofs.texts.len_of.Given as goal

abbrev pub invariant-loop-rest : goal.invariant-loop-rest
invariant-loop-rest l = record {
  counted : l.len + prefix_len (spec.is_in l.class) l.rest ≡ prefix_len (spec.is_in l.class) l.bytes;
  left : l.len + length l.rest ≡ length l.bytes;
}

abbrev pub decreases-loop-rest : goal.decreases-loop-rest
decreases-loop-rest l = length l.rest
