use Rattle.std.proofs.Common.{◌≡◌, ◌∙◌, ap, subst, rules}
use Rattle.std.specs.Prelude.{decimal}
use Rattle.hum_outside.specs.Outside.{appended, AppendsFront}
use Rattle.failure_lines.proofs.Results.{on_ok-map, on_err-map}
use Rattle.quad_debug.proofs.Written.{flight_line-is}
use Rattle.quad_debug.proofs.lines.put_flight.Goals as goal

pub returns-clause-all : goal.returns-clause-all
returns-clause-all g c =
    let number : c.as_bytes.result.now ≡ decimal c.args.message = search rules in
    on_ok-map c.put_parts.result c.put_parts.ensures.all (λ h. h ∙ ap (appended (g.K.Sink.written c.args.out.now)) (flight_line-is c.args.message c.as_bytes.result.now number))

pub returns-clause-front : goal.returns-clause-front
returns-clause-front g c =
    let w = g.K.Sink.written in
    let number : c.as_bytes.result.now ≡ decimal c.args.message = search rules in
    on_err-map c.put_parts.result c.put_parts.ensures.front c.put_parts.ensures.cause.failed
    (λ front rose. subst (AppendsFront (w c.args.out.now) (w c.put_parts.new.sink)) (flight_line-is c.args.message c.as_bytes.result.now number) front)
