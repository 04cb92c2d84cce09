use Rattle.std.proofs.Common.{◌≡◌, map, drop}
use Rattle.hum_core.specs.Agreement.{place}
use Rattle.hum_scope.proofs.Entered.{moved}
use Rattle.hum_scope.proofs.sight.place.Given as goal

abbrev pub invariant-loop-i : goal.invariant-loop-i
invariant-loop-i l = moved l.i (place (map (λ n. n.now) (drop l.i l.names)) l.name) ≡ place (map (λ n. n.now) l.names) l.name
