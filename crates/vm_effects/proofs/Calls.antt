-- What each call makes of a record.
use Rattle.std.proofs.Common.{◌≡◌, List, [], ◌∷◌, ◌++◌, length, refl, ap, ap₂, ◌∙◌, arith, length-append}
use Rattle.cap_words.specs.declared.word.Tag.TheVariants.{Actor, Event}
use Rattle.cap_words.specs.Words.{W, Cap, nil}
use Rattle.cap_words.specs.Store.{Store, opaque_cell, taken, cell_as, used}
use Rattle.cap_words.specs.Seen.{Slot, UnbornSlot, EventSlot, seen, grown, erase_actor}
use Rattle.cap_words.specs.Frame.{Framed}
use Rattle.cap_words.proofs.Frames.{framed-more}
use Rattle.quad_memory.specs.declared.cells.ActorCell.{ActorCell}
use Rattle.quad_memory.specs.declared.cells.EventCell.{EventCell}
use Rattle.quad_memory.specs.Cells.{actor_words, event_words}
use Rattle.instr_table.specs.Event.{Sent, Made, Effect, Sends, Creates, with_effect}
use Rattle.vm_effects.specs.declared.chain.Chain.{Chain}
use Rattle.vm_effects.specs.declared.effects.Effects.{Effects as Gathered}
use Rattle.vm_effects.specs.Links.{words_of, extended}
use Rattle.vm_effects.specs.Rewritten.{rewritten, with_next, with_mark}
use Rattle.vm_effects.specs.Gathered.{sent_in, made_in, effects_of, IsLinked, own_words}
use Rattle.vm_effects.proofs.Appended.{items-appended, appended_framed, appended_seen}
use Rattle.vm_effects.proofs.Rewrites.{rewritten_used}
use Rattle.vm_effects.proofs.Records.{keeps-other, items-kept, own-sent, own-created}

-- a call gathered one effect
pub record Gathers (s u : Store) (e d : Gathered) (effect : Effect) (slots : List Slot) : Type 0 where
  pub effects : effects_of u d ≡ with_effect (effects_of s e) effect
  pub linked : IsLinked u d
  pub sees : seen u ≡ grown (seen s) slots
  pub frame : Framed s u (own_words (effects_of s e))

module _ (s : Store) (e : Gathered) (h : IsLinked s e) where
  abbrev events : List W
  events = words_of (opaque_cell s Event) e.sent

  abbrev actors : List W
  actors = words_of (opaque_cell s Actor) e.created

  abbrev word : W
  word = Cap (used s)

  -- for the store, the chain and the word that the code has
  gathers-is : (u t : Store) (d f : Gathered) (effect : Effect) (slots : List Slot) → Gathers s u e d effect slots → t ≡ u → f ≡ d → Gathers s t e f effect slots
  gathers-is u t d f effect slots g x y = rw (x, y) g

  send-gathers : (cell : EventCell) → cell.next ≡ nil
      → let u = rewritten Event (with_next word) (taken s (cell_as Event (event_words cell) ∷ [])) e.sent.last in
      Gathers s u e (record e { sent = extended e.sent word }) (Sends (record { event = word; sponsor = cell.sponsor; target = cell.target; content = cell.message })) (EventSlot cell.sponsor cell.target cell.message ∷ [])
  send-gathers cell z =
      let q = event_words cell in
      let t = taken s (cell_as Event q ∷ []) in
      let u = rewritten Event (with_next word) t e.sent.last in
      let frame = appended_framed s Event e.sent events q (with_next word) h.sent in
      let sent = items-appended sent_in s Event e.sent q (with_next word) h.sent z (λ p. refl) (λ v p. refl) in
      let made = items-kept made_in (opaque_cell s Actor) (opaque_cell u Actor) e.created h.created (keeps-other s u events actors Event Actor frame h.sent.listed.chained (λ x. cc)) in
      let more : used u ≡ length (s.ram ++ cell_as Event q ∷ []) = rewritten_used t Event (with_next word) e.sent.last in
      record {
        effects = ap₂ (λ (c : List Made) (d : List Sent). record { created = c; sent = d; next = (effects_of s e).next }) made.0 sent.0;
        linked = record { sent = sent.1; created = made.1; few = omega (arith, h.few, more, length-append s.ram (cell_as Event q ∷ [])) };
        sees = appended_seen s Event e.sent events q (with_next word) h.sent (λ p x. refl);
        frame = framed-more s u events (own_words (effects_of s e)) frame (own-sent s e);
      }

  create-gathers : (cell : ActorCell) → cell.mark ≡ nil
      → let u = rewritten Actor (with_mark word) (taken s (cell_as Actor (actor_words cell) ∷ [])) e.created.last in
      Gathers s u e (record e { created = extended e.created word }) (Creates (record { actor = word; state = cell.state; code = cell.code })) (UnbornSlot ∷ [])
  create-gathers cell z =
      let q = actor_words cell in
      let t = taken s (cell_as Actor q ∷ []) in
      let u = rewritten Actor (with_mark word) t e.created.last in
      let frame = appended_framed s Actor e.created actors q (with_mark word) h.created in
      let made = items-appended made_in s Actor e.created q (with_mark word) h.created z (λ p. refl) (λ v p. refl) in
      let sent = items-kept sent_in (opaque_cell s Event) (opaque_cell u Event) e.sent h.sent (keeps-other s u actors events Actor Event frame h.created.listed.chained (λ x. cc)) in
      let more : used u ≡ length (s.ram ++ cell_as Actor q ∷ []) = rewritten_used t Actor (with_mark word) e.created.last in
      let unborn : erase_actor cell.code cell.state cell.mark ≡ UnbornSlot = ap (erase_actor cell.code cell.state) z in
      record {
        effects = ap₂ (λ (c : List Made) (d : List Sent). record { created = c; sent = d; next = (effects_of s e).next }) made.0 sent.0;
        linked = record { sent = sent.1; created = made.1; few = omega (arith, h.few, more, length-append s.ram (cell_as Actor q ∷ [])) };
        sees = appended_seen s Actor e.created actors q (with_mark word) h.created (λ p x. ap (erase_actor p.x p.y) x) ∙ ap (λ (slot : Slot). grown (seen s) (slot ∷ [])) unborn;
        frame = framed-more s u actors (own_words (effects_of s e)) frame (own-created s e);
      }

  pub after-send : (t u : Store) (w : W) (chain : Chain) (cell : EventCell) → cell.next ≡ nil → w ≡ word → t ≡ taken s (cell_as Event (event_words cell) ∷ []) → u ≡ rewritten Event (with_next w) t e.sent.last → chain ≡ extended e.sent w
      → Gathers s u e (record e { sent = chain }) (Sends (record { event = word; sponsor = cell.sponsor; target = cell.target; content = cell.message })) (EventSlot cell.sponsor cell.target cell.message ∷ [])
  after-send t u w chain cell z wi ti ui ci =
      gathers-is _ u _ (record e { sent = chain }) _ _ (send-gathers cell z)
      (ui ∙ ap₂ (λ (x : Store) (v : W). rewritten Event (with_next v) x e.sent.last) ti wi)
      (ap (λ (x : Chain). record e { sent = x }) (ci ∙ ap (extended e.sent) wi))

  pub after-create : (t u : Store) (w : W) (chain : Chain) (cell : ActorCell) → cell.mark ≡ nil → w ≡ word → t ≡ taken s (cell_as Actor (actor_words cell) ∷ []) → u ≡ rewritten Actor (with_mark w) t e.created.last → chain ≡ extended e.created w
      → Gathers s u e (record e { created = chain }) (Creates (record { actor = word; state = cell.state; code = cell.code })) (UnbornSlot ∷ [])
  after-create t u w chain cell z wi ti ui ci =
      gathers-is _ u _ (record e { created = chain }) _ _ (create-gathers cell z)
      (ui ∙ ap₂ (λ (x : Store) (v : W). rewritten Actor (with_mark v) x e.created.last) ti wi)
      (ap (λ (x : Chain). record e { created = x }) (ci ∙ ap (extended e.created) wi))
