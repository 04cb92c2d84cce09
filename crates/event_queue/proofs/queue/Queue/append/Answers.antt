use Rattle.std.proofs.Common.{arith, ◌≡◌, rules, add-one}
use Rattle.std.specs.Prelude.{vec_len}
use Rattle.event_queue.proofs.Ascending.{ascending-push}
use Rattle.event_queue.proofs.queue.Queue.append.Goals as goal

pub invariant_of-self : goal.invariant_of-self
invariant_of-self c =
    let i = c.self.invariant in
    let a = c.in-Ok.ensures in
    let b = c.in-Ok-push_back.ensures in
    let number : c.len-number.result ≡ vec_len c.self.inside.events = search rules in
    (search (rules, arith), omega (arith, a.len, b.len, i.1), omega (arith, a.capacity), omega (arith, b.capacity), rw (b.items, a.len, number, add-one) (ascending-push 0 (vec_len c.self.inside.events) c.self.inside.ready.items (omega arith) i.4), i.5)
