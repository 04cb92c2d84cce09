-- Which words a record owns, and which it never does.
use Rattle.std.proofs.Common.{◌≡◌, ℕ, ◌+◌, ◌<◌, ◌≤◌, List, [], ◌∷◌, ◌++◌, length, Option, Some, Bool, true, false, if◌then◌else◌, refl, ap, sym, ◌∙◌, subst, inl, inr, ◌⊎◌, arith, length-append}
use Rattle.std.specs.Prelude.{map}
use Rattle.std.proofs.lemmas.List.{length-map, map-append}
use Rattle.cap_words.specs.declared.word.Quad.{Quad}
use Rattle.cap_words.specs.declared.word.Tag.{Tag}
use Rattle.cap_words.specs.declared.word.Tag.TheVariants.{Actor, Event}
use Rattle.cap_words.specs.Words.{W, Cap, same_word}
use Rattle.cap_words.specs.Store.{Store, Cell, opaque_cell, taken, used, cap_place}
use Rattle.cap_words.specs.Seen.{Slot, Seen, ActorSlot, UnbornSlot, EventSlot, seen, slot_seen, grown, erase}
use Rattle.cap_words.specs.Frame.{Among}
use Rattle.cap_words.proofs.Same.{word_same}
use Rattle.cap_words.proofs.Stores.{named, opaque_twice}
use Rattle.cap_words.proofs.Frames.{framed-taken, among-left, among-right, among-split}
use Rattle.cap_words.proofs.Erased.{actor-there, slot-seen}
use Rattle.instr_table.specs.Event.{Sent, Made, Effects, Sends, Creates, Assigns, with_effect, has_created, reassigned}
use Rattle.vm_effects.specs.declared.effects.Effects.{Effects as Gathered}
use Rattle.vm_effects.specs.Links.{words_of}
use Rattle.vm_effects.specs.Gathered.{sent_at, sent_in, effects_of, IsLinked, own_words, sent_words, made_words}
use Rattle.vm_effects.proofs.Chains.{chained-among}
use Rattle.vm_effects.proofs.Records.{own-split, own-created, effects-framed}
use Rattle.vm_effects.proofs.Created.{created-unborn, among-has_created}

-- a quad of a record: an event or an actor
pub record Owned (s : Store) (w : W) : Type 0 where
  pub tag : Tag
  pub quad : Quad
  pub there : opaque_cell s tag w ≡ Some quad
  pub kind : (tag ≡ Event) ⊎ (tag ≡ Actor)

module _ (s : Store) (e : Gathered) (h : IsLinked s e) where
  pub owned : (w : W) → Among w (own_words (effects_of s e)) → Owned s w
  owned w a = elim (own-split s e w a) [
    | inl b ↦ let k = chained-among (opaque_cell s Event) (words_of (opaque_cell s Event) e.sent) w h.sent.listed.chained b in record { tag = Event; quad = k.0; there = k.1; kind = inl refl }
    | inr b ↦ let k = chained-among (opaque_cell s Actor) (words_of (opaque_cell s Actor) e.created) w h.created.listed.chained b in record { tag = Actor; quad = k.0; there = k.1; kind = inr refl }
  ]

  -- each own word names a quad that is taken
  pub own-named : (w : W) → Among w (own_words (effects_of s e)) → (w ≡ Cap (cap_place w)) × (cap_place w < used s)
  own-named w a = let o = owned w a in let n = named s o.tag w o.quad o.there in (n.place_is, n.within)

  -- so the word of a quad that is still free is none of them
  pub own-free : (n : ℕ) → used s ≤ n → Among (Cap n) (own_words (effects_of s e)) → ⊥
  own-free n free a = let k = own-named (Cap n) a in omega (arith, free, k.1)

  -- nor is the word of a quad that was taken for anything else
  pub own-other : (tag : Tag) (w : W) (q : Quad) → opaque_cell s tag w ≡ Some q → (tag ≡ Event → ⊥) → (tag ≡ Actor → ⊥) → Among w (own_words (effects_of s e)) → ⊥
  own-other tag w q k event actor a =
      let o = owned w a in
      let same : tag ≡ o.tag = opaque_twice s tag o.tag w q o.quad k o.there in
      elim o.kind [ inl x ↦ event (same ∙ x) | inr x ↦ actor (same ∙ x) ]

  not_born : (o : Option Slot) (a b c : W) → o ≡ Some UnbornSlot → o ≡ Some (ActorSlot a b c) → ⊥
  not_born o a b c x y = cc

  -- nor is an actor that is committed, idle or busy
  pub own-committed : (w a b c : W) → slot_seen (seen s) w ≡ Some (ActorSlot a b c) → Among w (own_words (effects_of s e)) → ⊥
  own-committed w a b c k m = elim (own-split s e w m) [
    | inl x ↦
        let o = chained-among (opaque_cell s Event) (words_of (opaque_cell s Event) e.sent) w h.sent.listed.chained x in
        let there = actor-there s w a b c k in
        let twice : Event ≡ Actor = opaque_twice s Event Actor w o.0 _ o.1 there.1 in
        cc
    | inr x ↦ not_born (slot_seen (seen s) w) a b c (created-unborn s e w h x) k
  ]

  -- and the event did not create it
  pub has_created-committed : (w a b c : W) → slot_seen (seen s) w ≡ Some (ActorSlot a b c) → has_created w (effects_of s e).created ≡ false
  has_created-committed w a b c k =
      by (has_created w (effects_of s e).created) (λ t. own-committed w a b c k (own-created s e w (among-has_created s w (words_of (opaque_cell s Actor) e.created) t)))
    where
      by : (t : Bool) → (t ≡ true → ⊥) → t ≡ false
      by true f = absurd (f refl)
      by false f = refl

  -- a message that was sent is seen in its event
  pub sent-seen : (w : W) → Among w (words_of (opaque_cell s Event) e.sent) → slot_seen (seen s) w ≡ Some (EventSlot (sent_at s w).sponsor (sent_at s w).target (sent_at s w).content)
  sent-seen w a =
      let k = chained-among (opaque_cell s Event) (words_of (opaque_cell s Event) e.sent) w h.sent.listed.chained a in
      slot-seen s Event w k.0 k.1 ∙ ap (λ (o : Option Quad). Some (EventSlot (sent_in w o).sponsor (sent_in w o).target (sent_in w o).content)) (sym k.1)

  -- the record stands for the same after others took quads
  pub effects-taken : (cells : List Cell) → (effects_of (taken s cells) e ≡ effects_of s e) × IsLinked (taken s cells) e
  effects-taken cells = effects-framed s (taken s cells) [] e h (framed-taken s cells []) (λ w a b. b)

-- a word of a list of words with one more is the last one, or of the list
last-split : (w v : W) (ws : List W) → Among w (ws ++ v ∷ []) → Among w ws ⊎ (w ≡ v)
last-split w v ws a = elim (among-split w ws (v ∷ []) a) [
  | inl b ↦ inl b
  | inr b ↦ elim b [ inl e ↦ inr e | inr x ↦ absurd x ]
]

-- which words a call adds
pub own_words-sends : (e : Effects) (m : Sent) (w : W) → Among w (own_words (with_effect e (Sends m))) → Among w (own_words e) ⊎ (w ≡ m.event)
own_words-sends e m w a = elim (among-split w (sent_words (e.sent ++ m ∷ [])) (made_words e.created) a) [
  | inl b ↦ elim (last-split w m.event (sent_words e.sent) (subst (λ (ws : List W). Among w ws) (map-append (λ (x : Sent). x.event) e.sent (m ∷ [])) b)) [
    | inl c ↦ inl (among-left w (sent_words e.sent) (made_words e.created) c)
    | inr x ↦ inr x
  ]
  | inr b ↦ inl (among-right w (sent_words e.sent) (made_words e.created) b)
]

pub own_words-creates : (e : Effects) (m : Made) (w : W) → Among w (own_words (with_effect e (Creates m))) → Among w (own_words e) ⊎ (w ≡ m.actor)
own_words-creates e m w a = elim (among-split w (sent_words e.sent) (made_words (e.created ++ m ∷ [])) a) [
  | inl b ↦ inl (among-left w (sent_words e.sent) (made_words e.created) b)
  | inr b ↦ elim (last-split w m.actor (made_words e.created) (subst (λ (ws : List W). Among w ws) (map-append (λ (x : Made). x.actor) e.created (m ∷ [])) b)) [
    | inl c ↦ inl (among-right w (sent_words e.sent) (made_words e.created) c)
    | inr x ↦ inr x
  ]
]

made_words-reassigned : (m : Made) (ms : List Made) → made_words (reassigned m ms) ≡ made_words ms
made_words-reassigned m [] = refl
made_words-reassigned m (n ∷ ms) = by (same_word n.actor m.actor) refl (made_words-reassigned m ms)
  where
    by : (b : Bool) → same_word n.actor m.actor ≡ b → made_words (reassigned m ms) ≡ made_words ms → made_words (if b then m ∷ ms else n ∷ reassigned m ms) ≡ n.actor ∷ made_words ms
    by true e r = ap (λ (w : W). w ∷ made_words ms) (sym (word_same n.actor m.actor e))
    by false e r = ap (λ (ws : List W). n.actor ∷ ws) r

pub own_words-assigns : (e : Effects) (m : Made) → own_words (with_effect e (Assigns m)) ≡ own_words e
own_words-assigns e m = ap (λ (ws : List W). sent_words e.sent ++ ws) (made_words-reassigned m e.created)

-- how many quads a store that is seen to have grown has taken
pub used-grown : (s t : Store) (slots : List Slot) → seen t ≡ grown (seen s) slots → used t ≡ used s + length slots
used-grown s t slots g =
    let e : length (map erase t.ram) ≡ length (map erase s.ram ++ slots) = ap (λ (x : Seen). length x.slots) g in
    omega (arith, e, length-map t.ram erase, length-map s.ram erase, length-append (map erase s.ram) slots)
