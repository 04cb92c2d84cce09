use Rattle.std.proofs.Common.{◌≡◌, ◌≤◌, map, drop}
use Rattle.hum_emit.specs.Templates.{after_all, test_code}
use Rattle.hum_emit.proofs.exprs.bindings.Given as goal

abbrev pub invariant-loop-test : goal.invariant-loop-test
invariant-loop-test l = (after_all (map test_code (drop l.test-index l.tests)) l.count ≡ after_all (map test_code l.tests) 0) × (l.count ≤ l.test-index)
