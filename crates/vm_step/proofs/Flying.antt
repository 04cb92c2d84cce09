-- What an event in flight has of its own, after quads were taken or sponsors were changed.
use Rattle.std.proofs.Common.{◌≡◌, ℕ, suc, zero, List, [], ◌∷◌, ◌++◌, Option, Some, None, true, false, refl, ap, sym, ◌∙◌, subst, inl, inr}
use Rattle.std.specs.Prelude.{slice_get, option_map}
use Rattle.std.proofs.lemmas.Option.{slice_get_within}
use Rattle.cap_words.specs.declared.word.Quad.{Quad}
use Rattle.cap_words.specs.declared.word.Tag.{Tag}
use Rattle.cap_words.specs.declared.word.Tag.TheVariants.{Actor, Event, SponsorHeld, SponsorSpent}
use Rattle.cap_words.specs.Words.{W, Fix, Rom, Ram, Cap}
use Rattle.cap_words.specs.Store.{Store, opaque_cell}
use Rattle.cap_words.specs.Seen.{Seen, Slot, OpenSlot, ActorSlot, UnbornSlot, EventSlot, SponsorSlot, SpentSlot, grown, slot_seen, cell_seen}
use Rattle.cap_words.specs.Frame.{Among, Framed}
use Rattle.cap_words.proofs.Places.{get-left}
use Rattle.cap_words.proofs.Stores.{opaque_twice}
use Rattle.cap_words.proofs.Frames.{opaque-framed}
use Rattle.quad_memory.proofs.Typed.{Sponsor, sponsor, sponsor-quads}
use Rattle.instr_table.specs.Types.{Readable, opaque_in, look_up, shows_sponsor, is_sponsor}
use Rattle.instr_table.specs.Lists.{pair_quad}
use Rattle.instr_table.specs.Event.{Own, Effect, Nothing, Sends, Creates, Assigns, Becomes, Sponsors, Grants, Reclaims, Starts, Stops}
use Rattle.instr_table.specs.Lane.{Item, push_one, push_all, top_at}
use Rattle.instr_table.specs.Making.{IsOrdinaryCell, MadeWith}
use Rattle.instr_table.specs.Reach.{Every}
use Rattle.vm_turn.specs.Actors.{sent_at, sent_in, behaviour_in}
use Rattle.vm_turn.specs.Turn.{own_of}
use Rattle.vm_sponsor.specs.Sheets.{IsThere, quads_of}
use Rattle.vm_sponsor.proofs.Framed.{Aside as IsAside}
use Rattle.vm_effects.specs.declared.effects.Effects.{Effects as Gathered}
use Rattle.vm_effects.specs.Gathered.{effects_of, IsLinked, own_words}
use Rattle.vm_effects.proofs.Apart.{Owned, owned}
use Rattle.vm_effects.proofs.Records.{effects-framed}
use Rattle.vm_step.specs.Flight.{own_at, Aside}
use Rattle.vm_step.specs.Reads.{IsInFlight}
use Rattle.vm_step.specs.Moves.{IsAlone}

-- what is seen under a word stays when quads are taken
pub slot-grown : (s : Seen) (cells : List Slot) (w : W) (slot : Slot) → slot_seen s w ≡ Some slot → slot_seen (grown s cells) w ≡ Some slot
slot-grown s cells (Fix n) slot h = h
slot-grown s cells (Rom n) slot h = h
slot-grown s cells (Ram n) slot h = h
slot-grown s cells (Cap n) slot h = get-left s.slots cells n (slice_get_within s.slots n slot h) ∙ h

-- so what the event has of its own stays
pub own-kept : (s t : Seen) (event : W) → IsInFlight s event → ((w : W) (slot : Slot) → slot_seen s w ≡ Some slot → slot_seen t w ≡ Some slot) → own_at t event ≡ own_at s event
own-kept s t event f k =
    let m = sent_at s event in
    let sent = f.sent in
    let actor = f.actor in
    let e : slot_seen t event ≡ slot_seen s event = k event (EventSlot sent.0 sent.1 sent.2) sent.3 ∙ sym sent.3 in
    let b : slot_seen t m.target ≡ slot_seen s m.target = k m.target (ActorSlot actor.0 actor.1 actor.2) actor.3 ∙ sym actor.3 in
    ap (λ (o : Option Slot). own_of t (sent_in event o)) e
    ∙ (λ i. record { sponsor = m.sponsor; actor = m.target; code = (behaviour_in (b i)).code; state = (behaviour_in (b i)).state; message = m.content })

pub flight-kept : (s t : Seen) (event : W) → IsInFlight s event → ((w : W) (slot : Slot) → slot_seen s w ≡ Some slot → slot_seen t w ≡ Some slot) → IsInFlight t event
flight-kept s t event f k =
    let sent = f.sent in
    let actor = f.actor in
    record {
      sent = (sent.0, sent.1, sent.2, k event (EventSlot sent.0 sent.1 sent.2) sent.3);
      actor = (actor.0, actor.1, actor.2, ap (λ (o : Own). slot_seen t o.actor) (own-kept s t event f k) ∙ k (own_at s event).actor (ActorSlot actor.0 actor.1 actor.2) actor.3);
    }

-- ---- no sponsor is made

-- a quad that is no sponsor's first one
abbrev pub IsNoSponsor : Slot → Type 0
IsNoSponsor slot = shows_sponsor (opaque_in (Some slot)) ≡ false

none_of : (ys : List Slot) (n : ℕ) → Every IsNoSponsor ys → shows_sponsor (opaque_in (slice_get ys n)) ≡ false
none_of [] n e = refl
none_of (y ∷ ys) zero e = e.0
none_of (y ∷ ys) (suc n) e = none_of ys n e.1

before_them : (xs ys : List Slot) (n : ℕ) → Every IsNoSponsor ys → shows_sponsor (opaque_in (slice_get (xs ++ ys) n)) ≡ true → shows_sponsor (opaque_in (slice_get xs n)) ≡ true
before_them [] ys n e h = let f = none_of ys n e in cc
before_them (x ∷ xs) ys zero e h = h
before_them (x ∷ xs) ys (suc n) e h = before_them xs ys n e h

readable_none : (o : Option Quad) → shows_sponsor (option_map Readable o) ≡ false
readable_none None = refl
readable_none (Some q) = refl

pub sponsor-grown : (s : Seen) (cells : List Slot) (w : W) → Every IsNoSponsor cells → is_sponsor (grown s cells) w ≡ true → is_sponsor s w ≡ true
unfolding look_up
sponsor-grown s cells (Fix n) e h = h
sponsor-grown s cells (Rom n) e h = h
sponsor-grown s cells (Ram n) e h = let f = readable_none (cell_seen (grown s cells) (Ram n)) in cc
sponsor-grown s cells (Cap n) e h = before_them s.slots cells n e h

pub sponsor-pushed : (p : Seen × List Item) (vs : List W) (w : W) → is_sponsor (push_all p vs).0 w ≡ true → is_sponsor p.0 w ≡ true
sponsor-pushed p [] w h = h
sponsor-pushed p (v ∷ vs) w h = sponsor-grown p.0 (OpenSlot (pair_quad v (top_at p.1)) ∷ []) w (refl, tt) (sponsor-pushed (push_one p v) vs w h)

ordinary_none : (s : Seen) (cells : List Slot) → Every (IsOrdinaryCell s) cells → Every IsNoSponsor cells
ordinary_none s [] h = tt
ordinary_none s (OpenSlot q ∷ cells) h = (refl, ordinary_none s cells h.1)
ordinary_none s (ActorSlot a b c ∷ cells) h = absurd h.0
ordinary_none s (UnbornSlot ∷ cells) h = absurd h.0
ordinary_none s (EventSlot a b c ∷ cells) h = absurd h.0
ordinary_none s (SponsorSlot ∷ cells) h = absurd h.0
ordinary_none s (SpentSlot ∷ cells) h = absurd h.0

pub made-none : (payer controller : W) (s : Seen) (made : List Slot) (e : Effect) → IsAlone e → MadeWith payer controller s made e → Every IsNoSponsor made
made-none payer controller s made Nothing a h = ordinary_none s made h
made-none payer controller s made (Sends m) a h = subst (Every IsNoSponsor) (sym h.1) (refl, tt)
made-none payer controller s made (Creates m) a h = subst (Every IsNoSponsor) (sym h.1) (refl, tt)
made-none payer controller s made (Assigns m) a h = ordinary_none s made h
made-none payer controller s made (Becomes b) a h = ordinary_none s made h
made-none payer controller s made (Sponsors w) a h = absurd a
made-none payer controller s made (Grants w kind n) a h = absurd a
made-none payer controller s made (Reclaims w) a h = absurd a
made-none payer controller s made (Starts w signal) a h = absurd a
made-none payer controller s made (Stops w) a h = absurd a

-- ---- an event's own quads are no sponsor's

pub own-aside : (s : Store) (e : Gathered) → IsLinked s e → (w : W) → Among w (own_words (effects_of s e)) → IsAside s w
own-aside s e h w a =
    let o : Owned s w = owned s e h w a in
    record {
      tag = o.tag;
      words = o.quad;
      there = o.there;
      not_held = λ k. elim o.kind [ inl x ↦ cc | inr x ↦ cc ];
      not_spent = λ k. elim o.kind [ inl x ↦ cc | inr x ↦ cc ];
    }

-- a word of a sponsor's quads names nothing else
pub sponsor-other : (s : Store) (who v : W) (tag : Tag) (q : Quad) → IsThere s who → Among v (quads_of who) → opaque_cell s tag v ≡ Some q → (tag ≡ SponsorHeld → ⊥) → (tag ≡ SponsorSpent → ⊥) → ⊥
sponsor-other s who v tag q j (inl e) h f g =
    let k = sponsor-quads s who j.0 j.1 in
    f (opaque_twice s tag SponsorHeld v q k.0 h (ap (opaque_cell s SponsorHeld) e ∙ k.2))
sponsor-other s who v tag q j (inr (inl e)) h f g =
    let k : Sponsor s who = sponsor s who j.0 j.1 in
    g (opaque_twice s tag SponsorSpent v q k.spent h (ap (opaque_cell s SponsorSpent) e ∙ k.spent_is))
sponsor-other s who v tag q j (inr (inr n)) h f g = n

-- a payment leaves events and actors, and an event's record
pub paid-aside : (s t : Store) (who : W) → IsThere s who → Framed s t (quads_of who) → Aside s t []
paid-aside s t who j f = record {
  events = λ v q n h. opaque-framed s t (quads_of who) Event v q f (λ a. sponsor-other s who v Event q j a h (λ e. cc) (λ e. cc)) h;
  actors = λ v q n h. opaque-framed s t (quads_of who) Actor v q f (λ a. sponsor-other s who v Actor q j a h (λ e. cc) (λ e. cc)) h;
}

pub paid-effects : (s t : Store) (who : W) (e : Gathered) → IsThere s who → Framed s t (quads_of who) → IsLinked s e → (effects_of t e ≡ effects_of s e) × IsLinked t e
paid-effects s t who e j f h = effects-framed s t (quads_of who) e h f (λ w a b.
    let o : IsAside s w = own-aside s e h w a in
    sponsor-other s who w o.tag o.words j b o.there o.not_held o.not_spent)
