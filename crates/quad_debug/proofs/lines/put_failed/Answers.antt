use Rattle.std.specs.Prelude.{codes}
use Rattle.hum_outside.proofs.Fronts.{front_after, front_left, on_err}
use Rattle.failure_lines.specs.Failure.{failure_line}
use Rattle.failure_lines.proofs.Results.{on_err-map}
use Rattle.quad_debug.proofs.lines.put_failed.Goals as goal

pub returns-in_err-put_all-clause-front : goal.returns-in_err-put_all-clause-front
returns-in_err-put_all-clause-front g c =
    on_err c.from_residual.result (front_left (g.K.Sink.written c.args.out.now) (g.K.Sink.written c.put_all.new.sink) (codes "* ") (failure_line c.args.message c.args.reason) c.in_err-put_all.ensures.front)

pub returns-clause-front : goal.returns-clause-front
returns-clause-front g c =
    let w = g.K.Sink.written in
    on_err-map c.put_failure.result c.put_failure.ensures.front c.put_failure.ensures.cause.failed
    (λ front rose. front_after (w c.args.out.now) (w c.put_all.new.sink) (w c.put_failure.new.err) (codes "* ") (failure_line c.args.message c.args.reason) c.in_ok-put_all.ensures.all front)
