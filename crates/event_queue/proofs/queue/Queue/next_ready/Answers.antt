use Rattle.std.proofs.Common.{arith, ◌≡◌, ℕ, ◌+◌, List, length, Option, Some, None, Bor, refl, subst, sym, ap, ◌∙◌}
use Rattle.std.specs.Prelude.{vec_len, slice_get}
use Rattle.std.specs.Slice.{IsItemAt}
use Rattle.std.specs.Option.{option_copied}
use Rattle.std.proofs.lemmas.Option.{slice_get_within, slice_get_past, slice_get_read, get_or_from_slice_get}
use Rattle.event_queue.specs.Pending.{Pending, first_from, walks_from, IsAscending}
use Rattle.event_queue.proofs.Ascending.{first-at, next-at}
use Rattle.event_queue.proofs.queue.Queue.next_ready.Goals as goal

copied_item : (ns : List ℕ) (place : ℕ) (r : Option (Bor ℕ)) → IsItemAt ns place r → option_copied r ≡ slice_get ns place
copied_item ns place None h = sym (slice_get_past ns place h.3)
copied_item ns place (Some n) h = sym (slice_get_read ns (length ns) place n.now refl h.3.0 h.1)

-- the number that is found, as callers see the queue
found : (q r : Pending) (place : ℕ) (after : Option ℕ) (item : Option (Bor ℕ)) → q ≡ r → IsItemAt q.ready place item → slice_get r.ready place ≡ first_from (walks_from after) r.ready → option_copied item ≡ first_from (walks_from after) r.ready
found q r place after item v h e = copied_item q.ready place item h ∙ ap (λ (p : Pending). slice_get p.ready place) v ∙ e

pub returns : goal.returns
returns c =
    let ns = c.args.self.now.ready in
    let high = vec_len c.self.inside.events in
    let a = subst (λ (q : Pending). IsAscending 0 high q.ready) c.self.view_is c.self.invariant.4 in
    let value : c.copied.result ≡ first_from (walks_from c.args.after) ns = c.copied.ensures ∙ found _ _ c.place_after.result c.args.after c.get.result c.self.view_is c.get.ensures.item c.place_after.ensures in
    record {
      value = value;
      begins = λ e. value ∙ ap (λ (o : Option ℕ). first_from (walks_from o) ns) e ∙ sym (first-at ns 0 0 (λ j h k. absurd (omega arith)) (λ h. omega arith));
      goes_on = λ place n e h.
          let low : walks_from c.args.after ≡ n + 1 = ap walks_from e ∙ omega arith in
          value ∙ ap (λ (k : ℕ). first_from k ns) low ∙ sym (next-at 0 high ns place n a (slice_get_within ns place n h) (get_or_from_slice_get ns place n 0 h));
    }
