use Rattle.std.proofs.Common.{◌≡◌, length}
use Rattle.hum_syntax.specs.Tokens.{all_placed}
use Rattle.hum_syntax.specs.Places.{name_place}
use Rattle.hum_front.proofs.places.name_place.Given as goal

abbrev pub invariant-loop-rest : goal.invariant-loop-rest
invariant-loop-rest l = name_place (all_placed l.rest) l.left ≡ name_place (all_placed l.tokens) l.n

abbrev pub decreases-loop-rest : goal.decreases-loop-rest
decreases-loop-rest l = length l.rest
