use Rattle.std.proofs.Common.{arith, ◌≡◌, ℕ, ◌+◌, Ok, Err, Option, Some, subst, sym, ap, ◌∙◌}
use Rattle.std.specs.Prelude.{vec_len, slice_get}
use Rattle.std.proofs.lemmas.List.Sorted.{searched}
use Rattle.event_queue.specs.Pending.{Pending, first_from, walks_from}
use Rattle.event_queue.proofs.Ascending.{ascending-order, first-at, next-at}
use Rattle.event_queue.proofs.queue.Queue.place_after.Goals as goal

-- the same of the queue as callers see it, from the number that was given
seen_so : (q r : Pending) (after : Option ℕ) (n place : ℕ) → q ≡ r → after ≡ Some n → slice_get q.ready place ≡ first_from (n + 1) q.ready → slice_get r.ready place ≡ first_from (walks_from after) r.ready
seen_so q r after n place v e h =
    let low : n + 1 ≡ walks_from after = omega arith ∙ sym (ap walks_from e) in
    subst (λ (low : ℕ). slice_get r.ready place ≡ first_from low r.ready) low (subst (λ (p : Pending). slice_get p.ready place ≡ first_from (n + 1) p.ready) v h)

pub returns-in-Ok : goal.returns-in-Ok
returns-in-Ok c =
    let ns = c.self.inside.ready.items in
    let high = vec_len c.self.inside.events in
    let n = c.in-Some.number in
    let r = searched ns n (Ok c.in-Ok.place) c.in-Ok.ensures.position (ascending-order 0 high ns c.self.invariant.4) in
    seen_so _ _ c.args.after n (c.in-Ok.place + 1) c.self.view_is c.in-Some.is (next-at 0 high ns c.in-Ok.place n c.self.invariant.4 r.0 r.1)

pub returns-in-Err : goal.returns-in-Err
returns-in-Err c =
    let ns = c.self.inside.ready.items in
    let n = c.in-Some.number in
    let place = c.in-Err.place in
    let r = searched ns n (Err place) c.in-Err.ensures.position (ascending-order 0 (vec_len c.self.inside.events) ns c.self.invariant.4) in
    let at : slice_get ns place ≡ first_from (n + 1) ns = first-at ns place (n + 1)
    (λ j h k. let o = r.1 j h in omega (arith, o))
    (λ h. let o = r.2 place (omega arith) h in omega (arith, o)) in
    seen_so _ _ c.args.after n place c.self.view_is c.in-Some.is at

pub returns-in_default : goal.returns-in_default
returns-in_default c =
    let ns = c.args.self.now.ready in
    let low : walks_from c.args.after ≡ 0 = ap walks_from c.in_default.is in
    rw low (first-at ns 0 0 (λ j h k. absurd (omega arith)) (λ h. omega arith))
