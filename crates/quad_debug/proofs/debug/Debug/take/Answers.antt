use Rattle.std.proofs.Common.{◌+◌, ap, subst, arith, nat_le, true, false, Bool}
use Rattle.std.specs.Prelude.{◌||◌, not}
use Rattle.hum_outside.proofs.Fronts.{on_err}
use Rattle.quad_debug.specs.Obeys.{piece_at, goes_on}
use Rattle.quad_debug.specs.Parts.{Stands, no_text, TookTurn}
use Rattle.quad_debug.proofs.Going.{counted-none, counted-more, goes-ends, took-all, device-breaks, silent-holds}
use Rattle.quad_debug.proofs.Counting.{not-enough, is-enough}
use Rattle.quad_debug.proofs.debug.Debug.take.Goals as goal

pub turns-init : goal.turns-init
turns-init g c =
    let stands : Stands c.args.self.now.machine = subst Stands c.machine.ensures c.turns_of-turns.ensures.stands in
    record {
      goes = counted-none (nat_le c.args.count) (piece_at c.args.self.now.machine) c.args.self.now (g.K.Sink.written c.args.out.now) stands;
      later = omega arith;
    }

pub turns-preserved : goal.turns-preserved
turns-preserved g c =
    let w = g.K.Sink.written in
    let m = c.args.self.now.machine in
    let so_far = c.turns.invariant.goes in
    let took : TookTurn c.turns.self c.turn.new.self (w c.turns.out) (w c.turn.new.out) true = subst (TookTurn c.turns.self c.turn.new.self (w c.turns.out) (w c.turn.new.out)) c.if-not-branch.false c.in_ok-turn.ensures.turns in
    let none = not-enough c.args.count so_far.goes.turns c.turns._taken so_far.counted c.turns-test.true in
    record {
      goes = counted-more c.turns._taken (nat_le c.args.count) c.args.self.now c.turns.self c.turn.new.self (w c.args.out.now) (w c.turns.out) (w c.turn.new.out) so_far none took;
      later = omega (arith, c.turns.invariant.later, c.turn.ensures.cause.later);
    }

pub returns-in_err-turn-clause-breaks : goal.returns-in_err-turn-clause-breaks
returns-in_err-turn-clause-breaks g c =
    let w = g.K.Sink.written in
    let m = c.args.self.now.machine in
    let so_far = c.turns.invariant.goes in
    let none = not-enough c.args.count so_far.goes.turns c.turns._taken so_far.counted c.turns-test.true in
    on_err c.from_residual.result
    (device-breaks (nat_le c.args.count) (piece_at m) c.args.self.now c.turns.self (w c.args.out.now) (w c.turns.out) so_far.goes c.turn.new.self (w c.turn.new.out) no_text (silent-holds m) none c.in_err-turn.ensures.breaks)

pub returns-clause-runs : goal.returns-clause-runs
returns-clause-runs g c =
    let w = g.K.Sink.written in
    let m = c.args.self.now.machine in
    let so_far = c.turns.invariant.goes in
    let all = is-enough c.args.count so_far.goes.turns c.turns._taken so_far.counted c.turns-test.false in
    goes-ends (nat_le c.args.count) (piece_at m) c.args.self.now c.turns.self (w c.args.out.now) (w c.turns.out) so_far.goes
    (ap (λ (b : Bool). b || not (goes_on m (m.turns + so_far.goes.turns))) all)

pub returns-then-not-branch-clause-runs : goal.returns-then-not-branch-clause-runs
returns-then-not-branch-clause-runs g c =
    let w = g.K.Sink.written in
    let m = c.args.self.now.machine in
    let so_far = c.turns.invariant.goes in
    let took : TookTurn c.turns.self c.turn.new.self (w c.turns.out) (w c.turn.new.out) false = subst (TookTurn c.turns.self c.turn.new.self (w c.turns.out) (w c.turn.new.out)) c.if-not-branch.true c.in_ok-turn.ensures.turns in
    took-all (nat_le c.args.count) (piece_at m) c.args.self.now c.turns.self (w c.args.out.now) (w c.turns.out) so_far.goes c.turn.new.self (w c.turn.new.out) took
