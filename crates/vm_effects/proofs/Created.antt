-- The created actors: which words they have, how they are seen, and one of them with another behaviour.
use Rattle.std.proofs.Common.{◌≡◌, ℕ, zero, suc, List, [], ◌∷◌, Some, Bool, true, false, if◌then◌else◌, refl, ap, ap₂, sym, ◌∙◌, subst, inl, inr, ◌⊎◌, arith}
use Rattle.std.specs.Prelude.{map}
use Rattle.cap_words.specs.declared.word.Quad.{Quad}
use Rattle.cap_words.specs.declared.word.Tag.TheVariants.{Actor, Event}
use Rattle.cap_words.specs.Words.{W, nil, same_word}
use Rattle.cap_words.specs.Store.{Store, opaque_cell}
use Rattle.cap_words.specs.Seen.{UnbornSlot, seen, slot_seen, erase_actor}
use Rattle.cap_words.specs.Frame.{Among, Framed}
use Rattle.cap_words.proofs.Same.{word_is, word_same, word_differs, word_other}
use Rattle.cap_words.proofs.Stores.{named}
use Rattle.cap_words.proofs.Erased.{slot-seen}
use Rattle.instr_table.specs.Event.{Sent, Made, Assigns, with_effect, has_created, reassigned}
use Rattle.vm_effects.specs.declared.effects.Effects.{Effects as Gathered}
use Rattle.vm_effects.specs.Links.{Chained, words_of, walk, link_in}
use Rattle.vm_effects.specs.Rewritten.{rewritten, with_behaviour}
use Rattle.vm_effects.specs.Gathered.{made_at, made_in, made_from, sent_in, effects_of, IsLinked, own_words}
use Rattle.vm_effects.proofs.Chains.{chained-among, chained-link, no_twice, map-among}
use Rattle.vm_effects.proofs.Rewrites.{rewritten_same, rewritten_other, rewritten_kind, rewritten_either, rewritten_framed, rewritten_used, rewritten_unseen}
use Rattle.vm_effects.proofs.Records.{chain-kept, items-kept, own-created}

-- the event created an actor where its word is in the list
pub has_created-among : (s : Store) (w : W) (ws : List W) → Among w ws → has_created w (map (made_at s) ws) ≡ true
has_created-among s w [] a = absurd a
has_created-among s w (v ∷ vs) (inl e) = ap (λ (b : Bool). if b then true else has_created w (map (made_at s) vs)) (subst (λ (x : W). same_word x w ≡ true) e (word_is w))
has_created-among s w (v ∷ vs) (inr a) = by (same_word v w) (has_created-among s w vs a)
  where
    by : (b : Bool) → has_created w (map (made_at s) vs) ≡ true → (if b then true else has_created w (map (made_at s) vs)) ≡ true
    by true k = refl
    by false k = k

pub among-has_created : (s : Store) (w : W) (ws : List W) → has_created w (map (made_at s) ws) ≡ true → Among w ws
among-has_created s w [] h = cc
among-has_created s w (v ∷ vs) h = by (same_word v w) refl h (among-has_created s w vs)
  where
    by : (b : Bool) → same_word v w ≡ b → (if b then true else has_created w (map (made_at s) vs)) ≡ true → (has_created w (map (made_at s) vs) ≡ true → Among w vs) → Among w (v ∷ vs)
    by true e k r = inl (sym (word_same v w e))
    by false e k r = inr (r k)

-- a walk from the actor finds it, and one from another word finds what the rest of the walk finds
pub has_created-here : (s : Store) (n : ℕ) (w actor : W) → (n ≡ 0 → ⊥) → w ≡ actor → has_created actor (made_from s n w) ≡ true
has_created-here s zero w actor some e = absurd (some refl)
has_created-here s (suc n) w actor some e = has_created-among s actor (walk (opaque_cell s Actor) (suc n) w) (inl (sym e))

pub has_created-further : (s : Store) (n : ℕ) (w actor : W) → (w ≡ actor → ⊥) → has_created actor (made_from s (suc n) w) ≡ has_created actor (made_from s n (link_in (opaque_cell s Actor w)))
has_created-further s n w actor other =
    let rest = has_created actor (made_from s n (link_in (opaque_cell s Actor w))) in
    ap (λ (b : Bool). if b then true else rest) (word_other w actor other)

-- the mark of a created actor is a link, so it is not seen as committed
unborn : (s : Store) (ws : List W) (a b mark : W) → Chained (opaque_cell s Actor) ws → (mark ≡ nil) ⊎ Among mark ws → erase_actor a b mark ≡ UnbornSlot
unborn s ws a b mark h (inl e) = ap (erase_actor a b) e
unborn s ws a b mark h (inr m) =
    let k = chained-among (opaque_cell s Actor) ws mark h m in
    ap (erase_actor a b) (named s Actor mark k.0 k.1).place_is

pub created-unborn : (s : Store) (e : Gathered) (w : W) → IsLinked s e → Among w (words_of (opaque_cell s Actor) e.created) → slot_seen (seen s) w ≡ Some UnbornSlot
created-unborn s e w h a =
    let ws = words_of (opaque_cell s Actor) e.created in
    let k = chained-among (opaque_cell s Actor) ws w h.created.listed.chained a in
    slot-seen s Actor w k.0 k.1 ∙ ap Some (unborn s ws k.0.x k.0.y k.0.z h.created.listed.chained (chained-link (opaque_cell s Actor) ws w k.0 h.created.listed.chained a k.1))

module _ (s : Store) (code state actor : W) where
  abbrev assigned : Store
  assigned = rewritten Actor (with_behaviour code state) s actor

  abbrev new : Made
  new = record { actor = actor; state = state; code = code }

  same_made : (v : W) → (v ≡ actor → ⊥) → made_at assigned v ≡ made_at s v
  same_made v n = ap (made_in v) (rewritten_other s Actor (with_behaviour code state) actor Actor v n)

  new_made : (v : W) (q : Quad) → v ≡ actor → opaque_cell s Actor v ≡ Some q → made_at assigned v ≡ new
  new_made v q e h =
      let k : opaque_cell assigned Actor actor ≡ Some (with_behaviour code state q) = rewritten_same s Actor (with_behaviour code state) actor q (ap (opaque_cell s Actor) (sym e) ∙ h) in
      ap (made_at assigned) e ∙ ap (made_in actor) k

  -- the chain has no word twice, so one of its actors alone is another
  made-assigned : (ws : List W) → Chained (opaque_cell s Actor) ws → Among actor ws → map (made_at assigned) ws ≡ reassigned new (map (made_at s) ws)
  made-assigned [] h a = absurd a
  made-assigned (v ∷ vs) h a = by (same_word v actor) refl (made-assigned vs h.3)
    where
      chosen : Bool → List Made
      chosen b = if b then new ∷ map (made_at s) vs else made_at s v ∷ reassigned new (map (made_at s) vs)

      later : Among actor (v ∷ vs) → (v ≡ actor → ⊥) → Among actor vs
      later (inl e) n = absurd (n (sym e))
      later (inr b) n = b

      by : (b : Bool) → same_word v actor ≡ b → (Among actor vs → map (made_at assigned) vs ≡ reassigned new (map (made_at s) vs)) → map (made_at assigned) (v ∷ vs) ≡ chosen (same_word v actor)
      by true e r =
          let is = word_same v actor e in
          ap₂ (λ (m : Made) (ms : List Made). m ∷ ms) (new_made v h.0 is h.1)
          (map-among (made_at assigned) (made_at s) vs (λ u b. same_made u (λ k. no_twice (opaque_cell s Actor) refl v vs h (subst (λ (x : W). Among x vs) (k ∙ sym is) b))))
          ∙ ap chosen (sym e)
      by false e r =
          let other = word_differs v actor e in
          ap₂ (λ (m : Made) (ms : List Made). m ∷ ms) (same_made v other) (r (later a other)) ∙ ap chosen (sym e)

-- after another behaviour was given to an actor that the event created
pub record Assigned (s u : Store) (e : Gathered) (m : Made) : Type 0 where
  pub effects : effects_of u e ≡ with_effect (effects_of s e) (Assigns m)
  pub linked : IsLinked u e
  pub sees : seen u ≡ seen s
  pub frame : Framed s u (own_words (effects_of s e))

pub after-assign : (s : Store) (e : Gathered) (code state actor : W) → IsLinked s e → has_created actor (effects_of s e).created ≡ true → Assigned s (rewritten Actor (with_behaviour code state) s actor) e (record { actor = actor; state = state; code = code })
after-assign s e code state actor h c =
    let ws = words_of (opaque_cell s Actor) e.created in
    let f = with_behaviour code state in
    let u = rewritten Actor f s actor in
    let a = among-has_created s actor ws c in
    let chain = h.created.listed.chained in
    let sent = items-kept sent_in (opaque_cell s Event) (opaque_cell u Event) e.sent h.sent (λ v q b k. rewritten_kind s Actor f actor Event v (λ x. cc) ∙ k) in
    let made = chain-kept (opaque_cell s Actor) (opaque_cell u Actor) e.created h.created (λ v q b k. elim (rewritten_either s Actor f actor v q k) [ inl x ↦ (q, x, refl) | inr x ↦ (f q, x, refl) ]) in
    record {
      effects = ap₂ (λ (x : List Made) (y : List Sent). record { created = x; sent = y; next = (effects_of s e).next }) (ap (map (made_at u)) made.0 ∙ made-assigned s code state actor ws chain a) sent.0;
      linked = record { sent = sent.1; created = made.1; few = omega (arith, h.few, rewritten_used s Actor f actor) };
      sees = rewritten_unseen s Actor f actor (λ q k.
          let l = chained-link (opaque_cell s Actor) ws actor q chain a k in
          unborn s ws q.x q.y q.z chain l ∙ sym (unborn s ws code state q.z chain l));
      frame = rewritten_framed s Actor f actor (own_words (effects_of s e)) (λ q k. own-created s e actor a);
    }
