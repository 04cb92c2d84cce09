use Rattle.std.proofs.Common.{refl, sym, subst, Bool}
use Rattle.hum_run.specs.Drive.{Goes}
use Rattle.hum_run.proofs.Completed.{turned, line_broken, piece_broken}
use Rattle.hum_run.proofs.Results.{false-true}
use Rattle.hum_run.proofs.turns.step_once.Goals as goal

pub returns-in_default-clause-breaks : goal.returns-in_default-clause-breaks
returns-in_default-clause-breaks g c =
    let m = g.D.Driven.machine_of in
    let w = g.K.Sink.written in
    let e = c.in_default.ensures in
    piece_broken (m c.args.driven.now) (m c.turn.new.self) (w c.args.out.now) (w c.turn.new.out) (w c.args.err.now) (w c.args.err.now) c.requires.run e.image e.grant e.lanes e.seed e.turns e.turn.0 (λ none. false-true (e.quiet none).0) e.turn.1 refl

pub returns-in-Ok-put_turn-clause-drives : goal.returns-in-Ok-put_turn-clause-drives
returns-in-Ok-put_turn-clause-drives g c =
    let m = g.D.Driven.machine_of in
    let w = g.K.Sink.written in
    let e = c.in-Ok.ensures in
    (turned (m c.args.driven.now) (m c.turn.new.self) (w c.args.out.now) (w c.turn.new.out) (w c.args.err.now) (w c.put_turn.new.err) c.in-Ok.turn
    (record { runs = c.requires.run; not_out = c.requires.not_out; image = e.image; grant = e.grant; lanes = e.lanes; seed = e.seed; turns = e.turns; takes = e.turn }) c.in-Ok-put_turn.ensures.all).0

pub returns-in-Ok-put_turn-clause-goes : goal.returns-in-Ok-put_turn-clause-goes
returns-in-Ok-put_turn-clause-goes g c =
    let m = g.D.Driven.machine_of in
    let w = g.K.Sink.written in
    let e = c.in-Ok.ensures in
    subst (λ (b : Bool). Goes b (m c.args.driven.now) (m c.turn.new.self)) (sym c.is_turn.ensures)
    (turned (m c.args.driven.now) (m c.turn.new.self) (w c.args.out.now) (w c.turn.new.out) (w c.args.err.now) (w c.put_turn.new.err) c.in-Ok.turn
    (record { runs = c.requires.run; not_out = c.requires.not_out; image = e.image; grant = e.grant; lanes = e.lanes; seed = e.seed; turns = e.turns; takes = e.turn }) c.in-Ok-put_turn.ensures.all).1

pub returns-in-Err-clause-breaks : goal.returns-in-Err-clause-breaks
returns-in-Err-clause-breaks g c =
    let m = g.D.Driven.machine_of in
    let w = g.K.Sink.written in
    let e = c.in-Ok.ensures in
    let front = c.in-Err.ensures.front in
    line_broken (m c.args.driven.now) (m c.turn.new.self) (w c.args.out.now) (w c.turn.new.out) (w c.args.err.now) (w c.put_turn.new.err) c.in-Ok.turn front.0 front.1
    (record { runs = c.requires.run; not_out = c.requires.not_out; image = e.image; grant = e.grant; lanes = e.lanes; seed = e.seed; turns = e.turns; takes = e.turn }) front.2 front.3
