use Rattle.std.proofs.Common.{arith, ◌≡◌, Option, Some, None, subst, sym, ap, ◌∙◌}
use Rattle.std.specs.Prelude.{vec_len, slice_get, OnSome}
use Rattle.std.proofs.lemmas.Option.{slice_get_within, get_or_from_slice_get}
use Rattle.event_queue.specs.Pending.{Pending, without}
use Rattle.event_queue.proofs.Ascending.{ascending-remove, without-at}
use Rattle.event_queue.proofs.queue.Queue.remove.Goals as goal

on_some : {A : Type 0} {P : Type 0} (o : Option A) (x : A) → o ≡ Some x → OnSome o P → P
on_some None x e h = cc
on_some (Some y) x e h = h

pub invariant_of-self : goal.invariant_of-self
invariant_of-self c =
    let i = c.self.invariant in
    let ns = c.self.inside.ready.items in
    let place = c.place_of-place.result in
    let at = subst (λ (q : Pending). slice_get q.ready place ≡ Some c.args.number) (sym c.self.view_is) c.place_of-place.ensures in
    let within = slice_get_within ns place c.args.number at in
    let r = c.remove-number.ensures in
    let taken = r.succeeds 0 (omega (arith, within, c.self.inside.ready.ok.0)) in
    let items = on_some c.remove-number.result _ taken r.items in
    let len = on_some c.remove-number.result _ taken r.len in
    (i.0, omega (arith, len, i.1), i.2, omega (arith, r.capacity, i.3), rw items (ascending-remove 0 (vec_len c.self.inside.events) ns place i.4), i.5)

pub returns : goal.returns
returns c =
    let ns = c.self.inside.ready.items in
    let n = c.args.number in
    let place = c.place_of-place.result in
    let at = subst (λ (q : Pending). slice_get q.ready place ≡ Some n) (sym c.self.view_is) c.place_of-place.ensures in
    let within = slice_get_within ns place n at in
    let r = c.remove-number.ensures in
    let items = on_some c.remove-number.result _ (r.succeeds 0 (omega (arith, within, c.self.inside.ready.ok.0))) r.items in
    let gone = without-at 0 (vec_len c.self.inside.events) ns place n c.self.invariant.4 within (get_or_from_slice_get ns place n 0 at) in
    let ready : c.remove-number.new.self.items ≡ without n ns = items ∙ sym gone in
    (λ i. record { given = c.self.inside.events.items; ready = ready i; room = c.self.inside.room })
    ∙ ap (λ (q : Pending). record q { ready = without n q.ready }) c.self.view_is
