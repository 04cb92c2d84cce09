use Rattle.hum_emit.specs.Emitting.{emitted}
use Rattle.hum_emit.proofs.RoutineTurns.{fixed_made}
use Rattle.hum_emit.proofs.runtime.fixed_code.Goals as goal

pub returns : goal.returns
returns c =
    (fixed_made (emitted c.new-out.result) (emitted c.ends.new.self) (emitted c.ends-2.new.self) (emitted c.failures.new.out) (emitted c.back.new.out)
    (emitted c.call_code.new.out) (emitted c.exec_code.new.out) (emitted c.apply_code.new.out) (emitted c.compare_code.new.out) (emitted c.roll_down.new.self)
    (emitted c.built_ins.new.out) c.in_ok-end.end c.in_ok-abort.abort c.in_ok-goes_back.goes_back c.in_ok-call.call c.in_ok-exec.exec c.in_ok-apply.apply
    c.in_ok-compare.compare c.in_ok-same.same c.in_ok-fails.fails c.in_ok-built_ins.built_ins c.new-out.ensures c.in_ok-end.ensures c.in_ok-abort.ensures
    c.in_ok-fails.ensures c.in_ok-goes_back.ensures c.in_ok-call.ensures c.in_ok-exec.ensures c.in_ok-apply.ensures c.in_ok-compare.ensures
    c.in_ok-same.ensures c.in_ok-built_ins.ensures).code

pub invariant_of-routines : goal.invariant_of-routines
invariant_of-routines c =
    let made = fixed_made (emitted c.new-out.result) (emitted c.ends.new.self) (emitted c.ends-2.new.self) (emitted c.failures.new.out) (emitted c.back.new.out)
    (emitted c.call_code.new.out) (emitted c.exec_code.new.out) (emitted c.apply_code.new.out) (emitted c.compare_code.new.out) (emitted c.roll_down.new.self)
    (emitted c.built_ins.new.out) c.in_ok-end.end c.in_ok-abort.abort c.in_ok-goes_back.goes_back c.in_ok-call.call c.in_ok-exec.exec c.in_ok-apply.apply
    c.in_ok-compare.compare c.in_ok-same.same c.in_ok-fails.fails c.in_ok-built_ins.built_ins c.new-out.ensures c.in_ok-end.ensures c.in_ok-abort.ensures
    c.in_ok-fails.ensures c.in_ok-goes_back.ensures c.in_ok-call.ensures c.in_ok-exec.ensures c.in_ok-apply.ensures c.in_ok-compare.ensures
    c.in_ok-same.ensures c.in_ok-built_ins.ensures in
    record {
      ends = made.ends_there;
      failing = made.fails_there;
      calls = made.calls_there;
      executes = made.executes_there;
      applies = made.applies_there;
      compares = made.compares_there;
      built = made.built_there;
    }
