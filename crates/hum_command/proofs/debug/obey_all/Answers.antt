use Rattle.std.proofs.Common.{◌∙◌, ◌++◌, ◌∷◌, [], List, sym, ap, arith, append_assoc}
use Rattle.quad_debug.specs.declared.command.Command.{Command}
use Rattle.hum_command.proofs.Debugging.{obeys-next}
use Rattle.hum_command.proofs.debug.obey_all.Goals as goal

pub loop-command-preserved : goal.loop-command-preserved
loop-command-preserved g c =
    let w = g.K.Sink.written in
    let command = c.in-Some.command.now in
    let before = c.loop-command.invariant.obeyed in
    record {
      obeyed = (
        before.0 ++ command ∷ [],
        before.1 ∙ ap (λ (cs : List Command). before.0 ++ cs) c.in-Some.ensures.cases.0 ∙ sym (append_assoc before.0 (command ∷ []) c.in-Some.more.now),
        obeys-next before.0 command c.args.debug.now c.loop-command.debug c.obey.new.self (w c.args.out.now) (w c.loop-command.out) (w c.obey.new.out) before.2 c.in_ok-obey.ensures.obeys,
      );
      later = omega (arith, c.in_ok-obey.ensures.cause, c.loop-command.invariant.later);
    }
