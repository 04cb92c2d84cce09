-- What a record stands for, after its own calls and after others'.
use Rattle.std.proofs.Common.{◌≡◌, ◌≤◌, List, [], ◌∷◌, Option, Some, refl, ap, ap₂, sym, ◌∙◌, subst, arith, inl, inr, ◌⊎◌}
use Rattle.std.specs.Prelude.{map}
use Rattle.cap_words.specs.declared.word.Quad.{Quad}
use Rattle.cap_words.specs.declared.word.Tag.{Tag}
use Rattle.cap_words.specs.declared.word.Tag.TheVariants.{Actor, Event}
use Rattle.cap_words.specs.Words.{W}
use Rattle.cap_words.specs.Store.{Store, opaque_cell, used}
use Rattle.cap_words.specs.Seen.{Slot, seen, slot_seen}
use Rattle.cap_words.specs.Frame.{Among, Framed}
use Rattle.cap_words.proofs.Stores.{opaque_twice}
use Rattle.cap_words.proofs.Frames.{opaque-framed, among-left, among-right, among-split}
use Rattle.cap_words.proofs.Erased.{slot-seen, slot-there}
use Rattle.instr_table.specs.Event.{Sent, Made}
use Rattle.vm_effects.specs.declared.chain.Chain.{Chain}
use Rattle.vm_effects.specs.declared.effects.Effects.{Effects as Gathered}
use Rattle.vm_effects.specs.Links.{Chained, IsChain, words_of}
use Rattle.vm_effects.specs.Gathered.{sent_at, made_at, sent_in, made_in, effects_of, IsLinked, own_words, sent_words, made_words}
use Rattle.vm_effects.proofs.Chains.{Keeps, KeepsLinks, keeps-links, chain-walked, chained-kept, chained-among, map-among}

-- a chain stands where its links stay, and has the same words
pub chain-kept : (look look' : W → Option Quad) (c : Chain) → IsChain look c (words_of look c) → KeepsLinks look look' (words_of look c) → (words_of look' c ≡ words_of look c) × IsChain look' c (words_of look' c)
chain-kept look look' c h k = chain-walked look' c (words_of look c) (record {
  listed = record { chained = chained-kept look look' (words_of look c) h.listed.chained k; first_is = h.listed.first_is; count_is = h.listed.count_is };
  last_is = h.last_is;
})

-- quads of one kind stay where only quads of another one are changed
pub keeps-other : (s t : Store) (ws vs : List W) (one other : Tag) → Framed s t ws → Chained (opaque_cell s one) ws → (one ≡ other → ⊥) → Keeps (opaque_cell s other) (opaque_cell t other) vs
keeps-other s t ws vs one other f h n v q a e =
    opaque-framed s t ws other v q f (λ b. let k = chained-among (opaque_cell s one) ws v h b in n (opaque_twice s one other v k.0 q k.1 e)) e

pub keeps-framed : (s t : Store) (ws vs : List W) (tag : Tag) → Framed s t ws → ((v : W) → Among v vs → Among v ws → ⊥) → Keeps (opaque_cell s tag) (opaque_cell t tag) vs
keeps-framed s t ws vs tag f n v q a e = opaque-framed s t ws tag v q f (n v a) e

-- what is seen under a word that a frame does not name stays
pub slot-framed : (s t : Store) (ws : List W) (w : W) (slot : Slot) → Framed s t ws → (Among w ws → ⊥) → slot_seen (seen s) w ≡ Some slot → slot_seen (seen t) w ≡ Some slot
slot-framed s t ws w slot f out h =
    let k = slot-there s w slot h in
    slot-seen t k.0 w k.1 (opaque-framed s t ws k.0 w k.1 f out k.2) ∙ ap Some k.3

-- a chain has the same items where what is under its words stays
module _ {A : Type 0} (read : W → Option Quad → A) (look look' : W → Option Quad) (c : Chain) where
  pub items-kept : IsChain look c (words_of look c) → Keeps look look' (words_of look c)
      → (map (λ (v : W). read v (look' v)) (words_of look' c) ≡ map (λ (v : W). read v (look v)) (words_of look c)) × IsChain look' c (words_of look' c)
  items-kept h k =
      let w = chain-kept look look' c h (keeps-links look look' (words_of look c) k) in (
        ap (map (λ (v : W). read v (look' v))) w.0
            ∙ map-among (λ v. read v (look' v)) (λ v. read v (look v)) (words_of look c) (λ v a. let o = chained-among look (words_of look c) v h.listed.chained a in ap (read v) (k v o.0 a o.1 ∙ sym o.1)),
        w.1,
      )

words-read : {A : Type 0} (word : A → W) (read : W → A) → ((w : W) → word (read w) ≡ w) → (ws : List W) → map word (map read ws) ≡ ws
words-read {A = A} word read k [] = refl
words-read {A = A} word read k (w ∷ ws) = ap₂ (λ (v : W) (l : List W). v ∷ l) (k w) (words-read word read k ws)

pub sent_words-read : (s : Store) (ws : List W) → sent_words (map (sent_at s) ws) ≡ ws
sent_words-read s ws = words-read (λ (m : Sent). m.event) (sent_at s) (λ w. refl) ws

pub made_words-read : (s : Store) (ws : List W) → made_words (map (made_at s) ws) ≡ ws
made_words-read s ws = words-read (λ (m : Made). m.actor) (made_at s) (λ w. refl) ws

-- a record's own words are those of its two chains
module _ (s : Store) (e : Gathered) where
  pub own-sent : (w : W) → Among w (words_of (opaque_cell s Event) e.sent) → Among w (own_words (effects_of s e))
  own-sent w a = among-left w (sent_words (effects_of s e).sent) (made_words (effects_of s e).created) (subst (λ (ws : List W). Among w ws) (sym (sent_words-read s (words_of (opaque_cell s Event) e.sent))) a)

  pub own-created : (w : W) → Among w (words_of (opaque_cell s Actor) e.created) → Among w (own_words (effects_of s e))
  own-created w a = among-right w (sent_words (effects_of s e).sent) (made_words (effects_of s e).created) (subst (λ (ws : List W). Among w ws) (sym (made_words-read s (words_of (opaque_cell s Actor) e.created))) a)

  pub own-split : (w : W) → Among w (own_words (effects_of s e)) → Among w (words_of (opaque_cell s Event) e.sent) ⊎ Among w (words_of (opaque_cell s Actor) e.created)
  own-split w a = elim (among-split w (sent_words (effects_of s e).sent) (made_words (effects_of s e).created) a) [
    | inl b ↦ inl (subst (λ (ws : List W). Among w ws) (sent_words-read s (words_of (opaque_cell s Event) e.sent)) b)
    | inr b ↦ inr (subst (λ (ws : List W). Among w ws) (made_words-read s (words_of (opaque_cell s Actor) e.created)) b)
  ]

-- the record stands for the same where what is under its own words stays
pub effects-kept : (s t : Store) (e : Gathered) → IsLinked s e → used s ≤ used t
    → Keeps (opaque_cell s Event) (opaque_cell t Event) (words_of (opaque_cell s Event) e.sent)
    → Keeps (opaque_cell s Actor) (opaque_cell t Actor) (words_of (opaque_cell s Actor) e.created)
    → (effects_of t e ≡ effects_of s e) × IsLinked t e
effects-kept s t e h g k l =
    let sent = items-kept sent_in (opaque_cell s Event) (opaque_cell t Event) e.sent h.sent k in
    let made = items-kept made_in (opaque_cell s Actor) (opaque_cell t Actor) e.created h.created l in (
      ap₂ (λ (c : List Made) (d : List Sent). record { created = c; sent = d; next = (effects_of s e).next }) made.0 sent.0,
      record { sent = sent.1; created = made.1; few = omega (arith, h.few, g) },
    )

-- so it does where a call leaves its own words alone
pub effects-framed : (s t : Store) (ws : List W) (e : Gathered) → IsLinked s e → Framed s t ws → ((w : W) → Among w (own_words (effects_of s e)) → Among w ws → ⊥) → (effects_of t e ≡ effects_of s e) × IsLinked t e
effects-framed s t ws e h f n = effects-kept s t e h f.grows
    (keeps-framed s t ws (words_of (opaque_cell s Event) e.sent) Event f (λ v a b. n v (own-sent s e v a) b))
    (keeps-framed s t ws (words_of (opaque_cell s Actor) e.created) Actor f (λ v a b. n v (own-created s e v a) b))
