use Rattle.std.proofs.Common.{◌≡◌, ◌<◌, ◌+◌, ℕ, length, Option, refl, sym, subst, arith}
use Rattle.std.specs.Prelude.{slice_get}
use Rattle.hum_outside.proofs.Fronts.{on_err}
use Rattle.event_queue.specs.Pending.{IsAscending}
use Rattle.quad_debug.proofs.Queues.{Walks, left, walks-all, walks-front, walks-less, walks-more}
use Rattle.quad_debug.proofs.lines.put_queue.Goals as goal

pub returns-in_err-put_ready-clause-front : goal.returns-in_err-put_ready-clause-front
returns-in_err-put_ready-clause-front g c =
    let w = g.K.Sink.written in
    let ready = c.args.queue.now.ready in
    let walk = subst (λ (o : Option ℕ). Walks ready o (w c.args.out.now) (w c.ready.out)) c.in-Some.is c.ready.invariant.walks in
    on_err c.from_residual.result (walks-front ready c.in-Some.message c.ready.next (w c.args.out.now) (w c.ready.out) (w c.put_ready.new.out) walk c.in_err-put_ready.ensures.front)

pub ready-smaller : goal.ready-smaller
ready-smaller g c =
    let w = g.K.Sink.written in
    let ready = c.args.queue.now.ready in
    let high = length c.args.queue.now.given in
    let next = c.next_ready-next-in-Some.result in
    let walk = subst (λ (o : Option ℕ). Walks ready o (w c.args.out.now) (w c.ready.out)) c.in-Some.is c.ready.invariant.walks in
    let at : next ≡ slice_get ready (walk.place + 1) = c.next_ready-next-in-Some.ensures.goes_on walk.place c.in-Some.message refl (sym walk.at) in
    let ascends : IsAscending 0 high ready = subst (λ (n : ℕ). IsAscending 0 n ready) c.given-given.ensures.count c.given-given.ensures.ascending in
    let less = walks-less ready c.in-Some.message next (w c.args.out.now) (w c.ready.out) (w c.put_ready.new.out) walk high ascends at in
    subst (λ (o : Option ℕ). left next high < left o high) (sym c.in-Some.is) less

pub ready-preserved : goal.ready-preserved
ready-preserved g c =
    let w = g.K.Sink.written in
    let ready = c.args.queue.now.ready in
    let next = c.next_ready-next-in-Some.result in
    let walk = subst (λ (o : Option ℕ). Walks ready o (w c.args.out.now) (w c.ready.out)) c.in-Some.is c.ready.invariant.walks in
    let at : next ≡ slice_get ready (walk.place + 1) = c.next_ready-next-in-Some.ensures.goes_on walk.place c.in-Some.message refl (sym walk.at) in
    record {
      walks = walks-more ready c.in-Some.message next (w c.args.out.now) (w c.ready.out) (w c.put_ready.new.out) walk c.in_ok-put_ready.ensures.all at;
      later = omega (arith, c.ready.invariant.later, c.put_ready.ensures.cause.later);
    }

pub returns-clause-all : goal.returns-clause-all
returns-clause-all g c =
    let w = g.K.Sink.written in
    let ready = c.args.queue.now.ready in
    walks-all ready (w c.args.out.now) (w c.ready.out) (subst (λ (o : Option ℕ). Walks ready o (w c.args.out.now) (w c.ready.out)) c.in_default.is c.ready.invariant.walks)
