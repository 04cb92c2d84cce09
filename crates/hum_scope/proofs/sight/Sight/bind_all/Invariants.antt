use Rattle.std.proofs.Common.{◌≡◌, map, take, reverse}
use Rattle.hum_core.specs.Alike.{with_marks}
use Rattle.hum_scope.proofs.sight.Sight.bind_all.Given as goal

abbrev pub invariant-loop-name : goal.invariant-loop-name
invariant-loop-name l = l.self ≡ with_marks (reverse (map (λ n. n.now) (take l.name-index l.names))) l.fn.self
