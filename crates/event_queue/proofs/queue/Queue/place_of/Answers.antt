use Rattle.std.proofs.Common.{arith, ◌≡◌, length, Ok, Err, Some, refl, subst, sym, ap, ◌∙◌}
use Rattle.std.specs.Prelude.{vec_len, slice_get}
use Rattle.std.specs.List.{Contains}
use Rattle.std.proofs.lemmas.List.Sorted.{searched}
use Rattle.std.proofs.lemmas.Option.{slice_get_read, slice_get-get_or}
use Rattle.event_queue.specs.Pending.{Pending}
use Rattle.event_queue.proofs.Ascending.{ascending-order, not-absent}
use Rattle.event_queue.proofs.queue.Queue.place_of.Goals as goal

pub index-requires : goal.index-requires
index-requires c =
    let has = subst (λ (q : Pending). Contains q.ready c.args.number) (sym c.self.view_is) c.requires in
    omega (arith, has.1, c.self.inside.ready.ok.0)

pub unreachable-requires : goal.unreachable-requires
unreachable-requires c =
    let ns = c.self.inside.ready.items in
    let r = searched ns c.args.number (Err c.in-Err.field-0) c.in-Err.ensures.position (ascending-order 0 (vec_len c.self.inside.events) ns c.self.invariant.4) in
    not-absent ns c.args.number c.in-Err.field-0 r.1 r.2 (subst (λ (q : Pending). Contains q.ready c.args.number) (sym c.self.view_is) c.requires)

pub returns-then-index-number : goal.returns-then-index-number
returns-then-index-number c =
    let ns = c.self.inside.ready.items in
    let n = c.args.number in
    let has = subst (λ (q : Pending). Contains q.ready n) (sym c.self.view_is) c.requires in
    let at = slice_get_read ns (length ns) 0 c.index.result.now refl (omega (arith, has.1)) c.index.ensures in
    subst (λ (q : Pending). slice_get q.ready 0 ≡ Some n) c.self.view_is (at ∙ ap Some c.if-index-number.true)

pub returns : goal.returns
returns c =
    let ns = c.self.inside.ready.items in
    let n = c.args.number in
    let found = searched ns n (Ok c.in-Ok.place) c.in-Ok.ensures.position (ascending-order 0 (vec_len c.self.inside.events) ns c.self.invariant.4) in
    subst (λ (q : Pending). slice_get q.ready c.in-Ok.place ≡ Some n) c.self.view_is (slice_get-get_or ns c.in-Ok.place 0 found.0 ∙ ap Some found.1)
