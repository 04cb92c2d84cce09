-- What an event's end leaves.
use Rattle.std.proofs.Common.{◌≡◌, [], ◌∷◌, Option, Some, None, false, refl, ap, sym, ◌∙◌, subst, inl, inr}
use Rattle.std.specs.Prelude.{option_map, IfSome, IsSome}
use Rattle.cap_words.specs.declared.word.Quad.{Quad}
use Rattle.cap_words.specs.declared.word.Tag.TheVariants.{Actor, Event}
use Rattle.cap_words.specs.Words.{W}
use Rattle.cap_words.specs.Store.{Store, opaque_cell, cap_place}
use Rattle.cap_words.specs.Seen.{seen, altered, erase_as}
use Rattle.cap_words.specs.Frame.{Among, Framed}
use Rattle.cap_words.proofs.Stores.{opaque_twice}
use Rattle.quad_memory.specs.declared.cells.ActorCell.{ActorCell}
use Rattle.quad_memory.specs.Cells.{actor_at, actor_in, actor_words}
use Rattle.instr_table.specs.Event.{Behaviour, has_created}
use Rattle.vm_effects.specs.declared.effects.Effects.{Effects as Gathered}
use Rattle.vm_effects.specs.Links.{words_of}
use Rattle.vm_effects.specs.Actors.{idle_cell, actor_slot}
use Rattle.vm_effects.specs.Rewritten.{rewritten, with_end}
use Rattle.vm_effects.specs.Gathered.{effects_of, IsLinked, own_words}
use Rattle.vm_effects.proofs.Chains.{chained-among}
use Rattle.vm_effects.proofs.Rewrites.{rewritten_framed, rewritten_seen}
use Rattle.vm_effects.proofs.Records.{own-split, effects-framed}
use Rattle.vm_effects.proofs.Created.{has_created-among}

idle-seen : (next : Option Behaviour) (c : ActorCell) → erase_as Actor (actor_words (idle_cell next c)) ≡ actor_slot (idle_cell next c)
idle-seen None c = refl
idle-seen (Some b) c = refl

-- the actor is seen to be idle, and no other quad is changed
pub end-seen : (s : Store) (next : Option Behaviour) (w : W) → IfSome (actor_at s w) (λ c. seen (rewritten Actor (with_end next) s w) ≡ altered (seen s) (cap_place w) (actor_slot (idle_cell next c)))
end-seen s next w = by (opaque_cell s Actor w) refl
  where
    by : (o : Option Quad) → opaque_cell s Actor w ≡ o → IfSome (option_map actor_in o) (λ c. seen (rewritten Actor (with_end next) s w) ≡ altered (seen s) (cap_place w) (actor_slot (idle_cell next c)))
    by None h = tt
    by (Some q) h = rewritten_seen s Actor (with_end next) w q h ∙ ap (altered (seen s) (cap_place w)) (idle-seen next (actor_in q))

pub end-framed : (s : Store) (next : Option Behaviour) (w : W) → Framed s (rewritten Actor (with_end next) s w) (w ∷ [])
end-framed s next w = rewritten_framed s Actor (with_end next) w (w ∷ []) (λ q h. inl refl)

quad_of : (o : Option Quad) → IsSome (option_map actor_in o) → (q : Quad) × (o ≡ Some q)
quad_of None h = cc
quad_of (Some q) h = (q, refl)

-- an actor that the event did not create is none of the record's own words
pub actor-apart : (s : Store) (e : Gathered) (actor : W) → IsLinked s e → IsSome (actor_at s actor) → has_created actor (effects_of s e).created ≡ false → (w : W) → Among w (own_words (effects_of s e)) → Among w (actor ∷ []) → ⊥
actor-apart s e actor h there other w a (inr b) = b
actor-apart s e actor h there other w a (inl is) = elim (own-split s e w a) [
  | inl b ↦
      let k = chained-among (opaque_cell s Event) (words_of (opaque_cell s Event) e.sent) w h.sent.listed.chained b in
      let q = quad_of (opaque_cell s Actor actor) there in
      let twice : Event ≡ Actor = opaque_twice s Event Actor w k.0 q.0 k.1 (ap (opaque_cell s Actor) is ∙ q.1) in
      cc
  | inr b ↦
      let t = has_created-among s actor (words_of (opaque_cell s Actor) e.created) (subst (λ (x : W). Among x (words_of (opaque_cell s Actor) e.created)) is b) in
      cc
]

-- so the record stands for the same after the actor's end
pub end-kept : (s u : Store) (e : Gathered) (next : Option Behaviour) (actor : W) → IsLinked s e → IsSome (actor_at s actor) → has_created actor (effects_of s e).created ≡ false → u ≡ rewritten Actor (with_end next) s actor → (effects_of u e ≡ effects_of s e) × IsLinked u e
end-kept s u e next actor h there other ui =
    effects-framed s u (actor ∷ []) e h (subst (λ (t : Store). Framed s t (actor ∷ [])) (sym ui) (end-framed s next actor)) (actor-apart s e actor h there other)
