use Rattle.std.proofs.Common.{ℕ, refl}
use Rattle.hum_command.specs.Call.{call}
use Rattle.hum_command.specs.Chain.{chain_text}
use Rattle.hum_command.proofs.Causes.{declined_chain, ran_chain}
use Rattle.hum_command.proofs.top.run_chain.Goals as goal

pub returns-in-Err-clause-answered : goal.returns-in-Err-clause-answered
returns-in-Err-clause-answered g c = λ files faults.
    let w = g.K.Sink.written in
    let a = c.args in
    declined_chain a.n a.keys
    (call (λ (k : ℕ). files) (λ (k : ℕ). k) w g.K.Sink.faults faults faults a.out.now a.out.now a.err.now c.refuse.new.err a.last.now a.last.now)
    refl c.in-Err.answer c.in-Err.ensures.fails
    (record { line = c.refuse.ensures.said; out = refl {a = w a.out.now}; last = refl {a = a.last.now} })

pub returns-in-Ok-clause-answered : goal.returns-in-Ok-clause-answered
returns-in-Ok-clause-answered g c = λ files faults.
    let a = c.args in
    let done = c.finish_run-answer in
    ran_chain a.n a.keys
    (call (λ (k : ℕ). files) (λ (k : ℕ). k) g.K.Sink.written g.K.Sink.faults faults faults a.out.now done.new.out a.err.now done.new.err a.last.now c.leave_run.new.self)
    refl done.result (record {
      text = chain_text a.n;
      is_text = refl;
      run = done.new.run;
      left = c.leave_run.ensures;
      ends = done.ensures.ends (chain_text a.n) c.in-Ok.ensures.starts;
    })
