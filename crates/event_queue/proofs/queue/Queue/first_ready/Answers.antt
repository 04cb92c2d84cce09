use Rattle.std.proofs.Common.{rules, arith, ◌≡◌, ◌<◌, ◌≤◌, length, drop, Some, None, ap, sym, ◌∙◌, subst}
use Rattle.std.specs.Prelude.{vec_len}
use Rattle.std.proofs.lemmas.Grind.{get_or_default_zero}
use Rattle.event_queue.specs.Pending.{Pending, IsAscending}
use Rattle.event_queue.specs.Starts.{first_ready}
use Rattle.event_queue.proofs.Ascending.{ascending-at}
use Rattle.event_queue.proofs.Starting.{search-ends, search-none, answers}
use Rattle.event_queue.proofs.queue.Queue.first_ready.Goals as goal

pub index-requires : goal.index-requires
index-requires c =
    let ns = c.self.inside.ready.items in
    let h : c.loop-place.place < length ns = search (rules, arith) in
    let r = ascending-at 0 (vec_len c.self.inside.events) ns c.loop-place.place c.index-number.result.now c.self.invariant.4 h in
    omega (arith, r.1, c.index-number.ensures)

pub returns-then-can_start : goal.returns-then-can_start
returns-then-can_start c =
    let s = c.args.quads.now.store in
    let ws = c.self.inside.events.items in
    let ns = c.self.inside.ready.items in
    let place = c.loop-place.place in
    let number = c.index-number.result.now in
    let high = vec_len c.self.inside.events in
    let h : place < length ns = search (rules, arith) in
    let at = ascending-at 0 high ns place number c.self.invariant.4 h in
    let given : number < length ws = omega (arith, at.1, c.index-number.ensures, c.self.inside.events.ok.0) in
    let ends = search-ends s ws ns place number c.index.result.now h (c.index-number.ensures ∙ get_or_default_zero ns place number h) given c.index.ensures (sym c.can_start.ensures ∙ c.if-can_start.true) in
    let found = subst (λ (q : Pending). first_ready s q.given (drop place q.ready) ≡ Some number) c.self.view_is ends in
    let count : high ≡ length c.args.self.now.given = c.self.inside.events.ok.0 ∙ ap (λ (q : Pending). length q.given) c.self.view_is in
    let r = answers s c.args.self.now high (Some number) count (subst (λ (q : Pending). IsAscending 0 high q.ready) c.self.view_is c.self.invariant.4) (sym (c.loop-place.invariant ∙ found)) in
    record { value = r.value; first = r.first; none = r.none }

pub returns : goal.returns
returns c =
    let s = c.args.quads.now.store in
    let ns = c.self.inside.ready.items in
    let place = c.loop-place.place in
    let high = vec_len c.self.inside.events in
    let h : length ns ≤ place = search (rules, arith) in
    let none = subst (λ (q : Pending). first_ready s q.given (drop place q.ready) ≡ None) c.self.view_is (search-none s c.self.inside.events.items ns place h) in
    let count : high ≡ length c.args.self.now.given = c.self.inside.events.ok.0 ∙ ap (λ (q : Pending). length q.given) c.self.view_is in
    let r = answers s c.args.self.now high None count (subst (λ (q : Pending). IsAscending 0 high q.ready) c.self.view_is c.self.invariant.4) (sym (c.loop-place.invariant ∙ none)) in
    record { value = r.value; first = r.first; none = r.none }
