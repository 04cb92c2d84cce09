use Rattle.hum_outside.proofs.Fronts.{front_after}
use Rattle.hum_command.specs.Ending.{spent_line, counts_line}
use Rattle.hum_command.proofs.Results.{on_err-map}
use Rattle.hum_command.proofs.ending.put_ending.Goals as goal

pub returns-clause-front : goal.returns-clause-front
returns-clause-front g c =
    let w = g.K.Sink.written in
    on_err-map c.put_counts.result c.put_counts.ensures.front c.put_counts.ensures.cause.failed
    (λ front rose. front_after (w c.args.err.now) (w c.put_spent.new.err) (w c.put_counts.new.err) (spent_line c.args.stop) (counts_line c.args.report) c.in_ok-put_spent.ensures.all front)
