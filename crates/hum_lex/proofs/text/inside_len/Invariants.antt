use Rattle.std.proofs.Common.{◌≡◌, ◌+◌, false, length}
use Rattle.hum_lex.specs.Fronts as spec
use Rattle.hum_lex.proofs.Insides.{further}
use Rattle.hum_lex.proofs.text.inside_len.Given as goal

abbrev pub invariant-loop-rest : goal.invariant-loop-rest
invariant-loop-rest l = record {
  counted : further l.len (spec.closing l.taken l.rest) ≡ spec.closing false l.bytes;
  left : l.len + length l.rest ≡ length l.bytes;
}

abbrev pub decreases-loop-rest : goal.decreases-loop-rest
decreases-loop-rest l = length l.rest
