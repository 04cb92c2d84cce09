use Rattle.std.proofs.Common.{◌≡◌, ◌∙◌, ap, subst, rules}
use Rattle.std.specs.Prelude.{decimal}
use Rattle.std.specs.Fmt.{signed_decimal}
use Rattle.hum_outside.specs.Outside.{appended, AppendsFront}
use Rattle.failure_lines.proofs.Results.{on_ok-map, on_err-map}
use Rattle.failure_lines.proofs.Failures.{coded_line}
use Rattle.failure_lines.proofs.failure.put_coded.Goals as goal

pub returns-clause-all : goal.returns-clause-all
returns-clause-all g c =
    let number : c.as_bytes-message.result.now ≡ decimal c.args.message = search rules in
    let code : c.as_bytes-code.result.now ≡ signed_decimal c.args.reason = search rules in
    on_ok-map c.put_parts.result c.put_parts.ensures.all (λ h. h ∙ ap (appended (g.K.Sink.written c.args.err.now)) (coded_line c.args.message c.args.reason c.as_bytes-message.result.now c.as_bytes-code.result.now number code))

pub returns-clause-front : goal.returns-clause-front
returns-clause-front g c =
    let w = g.K.Sink.written in
    let number : c.as_bytes-message.result.now ≡ decimal c.args.message = search rules in
    let code : c.as_bytes-code.result.now ≡ signed_decimal c.args.reason = search rules in
    on_err-map c.put_parts.result c.put_parts.ensures.front c.put_parts.ensures.cause.failed
    (λ front rose. subst (AppendsFront (w c.args.err.now) (w c.put_parts.new.sink)) (coded_line c.args.message c.args.reason c.as_bytes-message.result.now c.as_bytes-code.result.now number code) front)
