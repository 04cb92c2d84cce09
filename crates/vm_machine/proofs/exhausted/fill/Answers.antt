use Rattle.std.proofs.Common.{◌≡◌, Option, Some, None, true, ap, refl, sym, ◌∙◌, subst, inl, [], ◌∷◌}
use Rattle.std.specs.Prelude.{option_map, is_some}
use Rattle.cap_words.specs.declared.word.Tag.TheVariants.{Event}
use Rattle.cap_words.specs.Words.{W}
use Rattle.cap_words.specs.Store.{Store, changed, cell_as, cap_place}
use Rattle.cap_words.specs.Seen.{Slot, OpenSlot, ActorSlot, UnbornSlot, EventSlot, SponsorSlot, SpentSlot, seen, slot_seen}
use Rattle.cap_words.specs.Frame.{Framed}
use Rattle.cap_words.proofs.Stores.{named}
use Rattle.cap_words.proofs.Frames.{framed-changed}
use Rattle.cap_words.proofs.Erased.{seen-changed, slot-seen, event-there}
use Rattle.quad_memory.specs.declared.cells.EventCell.{EventCell}
use Rattle.quad_memory.specs.Memory.{Memory}
use Rattle.quad_memory.specs.Cells.{event_at, event_in, event_words}
use Rattle.quad_memory.proofs.Typed.{at-quad}
use Rattle.vm_turn.specs.Actors.{refilled, with_content}
use Rattle.vm_machine.proofs.exhausted.fill.Goals as goal

-- an event that is there has another content
filled : (s : Store) (w content : W) (cell : EventCell) → event_at s w ≡ Some cell → seen (changed s (cap_place w) (cell_as Event (event_words (record cell { message = content })))) ≡ with_content (seen s) w content
filled s w content cell h =
    let q = at-quad event_in s Event w cell h in
    let at : slot_seen (seen s) w ≡ Some (EventSlot cell.sponsor cell.target cell.message) = slot-seen s Event w q.0 q.1 ∙ ap (λ (e : EventCell). Some (EventSlot e.sponsor e.target e.message)) q.2 in
    seen-changed s (cap_place w) (cell_as Event (event_words (record cell { message = content }))) ∙ sym (ap (λ (o : Option Slot). refilled o w content (seen s)) at)

-- where there is none nothing is filled
unfilled : (s : Store) (w content : W) → (is_some (event_at s w) ≡ true → ⊥) → seen s ≡ with_content (seen s) w content
unfilled s w content none = by (slot_seen (seen s) w) refl
  where
    by : (o : Option Slot) → slot_seen (seen s) w ≡ o → seen s ≡ refilled o w content (seen s)
    by None h = refl
    by (Some (OpenSlot q)) h = refl
    by (Some (ActorSlot a b m)) h = refl
    by (Some UnbornSlot) h = refl
    by (Some (EventSlot a b m)) h = let q = event-there s w a b m h in absurd (none (ap (λ o. is_some (option_map event_in o)) q.1))
    by (Some SponsorSlot) h = refl
    by (Some SpentSlot) h = refl

pub returns-in-Some-clause-seen : goal.returns-in-Some-clause-seen
returns-in-Some-clause-seen c =
    ap (λ (m : Memory). seen m.store) c.set_event.ensures ∙ filled c.args.quads.now.store c.args.event c.args.content c.in-Some.cell (sym c.event.ensures ∙ c.in-Some.is)

pub returns-in-Some-clause-frame : goal.returns-in-Some-clause-frame
returns-in-Some-clause-frame c =
    let s = c.args.quads.now.store in
    let w = c.args.event in
    let q = at-quad event_in s Event w c.in-Some.cell (sym c.event.ensures ∙ c.in-Some.is) in
    let new = cell_as Event (event_words (record c.in-Some.cell { message = c.args.content })) in
    subst (λ (m : Memory). Framed s m.store (w ∷ [])) (sym c.set_event.ensures) (framed-changed s (cap_place w) new (w ∷ []) (inl (sym (named s Event w q.0 q.1).place_is)))

pub returns-in_default-clause-seen : goal.returns-in_default-clause-seen
returns-in_default-clause-seen c = unfilled c.args.quads.now.store c.args.event c.args.content (λ h. none (sym (ap (λ (o : Option EventCell). is_some o) (sym c.event.ensures ∙ c.in_default.is)) ∙ h))
  where
    none : is_some {T = EventCell} None ≡ true → ⊥
    none h = cc
