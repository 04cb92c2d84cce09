-- What is seen where the actors of a chain were made idle.
use Rattle.std.proofs.Common.{◌≡◌, ℕ, List, [], ◌∷◌, length, Some, refl, ap, sym, ◌∙◌, subst, inl, inr, arith}
use Rattle.std.specs.Prelude.{map}
use Rattle.std.proofs.lemmas.List.{length-map, length-set}
use Rattle.cap_words.specs.declared.word.Tag.TheVariants.{Actor}
use Rattle.cap_words.specs.Words.{W, Cap, undef}
use Rattle.cap_words.specs.Store.{Store, opaque_cell, used, cap_place}
use Rattle.cap_words.specs.Seen.{Slot, ActorSlot, Seen, seen, erase, slot_seen, altered}
use Rattle.cap_words.specs.Frame.{Among}
use Rattle.cap_words.proofs.Places.{get-set_same, get-set_other}
use Rattle.cap_words.proofs.Stores.{named}
use Rattle.vm_effects.specs.Links.{Chained, walk}
use Rattle.vm_effects.specs.Actors.{all_idle}
use Rattle.vm_effects.specs.Gathered.{made_at, made_from, AreMade}
use Rattle.vm_effects.proofs.Chains.{chained-among, no_twice}

module _ (s : Store) where
  -- an actor as it is seen when it is idle
  abbrev idle_at : W → Slot
  idle_at w = ActorSlot (made_at s w).code (made_at s w).state undef

  -- elsewhere is seen what was
  idle_slots-other : (x : Seen) (ws : List W) (n : ℕ) → ((v : W) → Among v ws → cap_place v ≡ n → ⊥) → slot_seen (all_idle x (map (made_at s) ws)) (Cap n) ≡ slot_seen x (Cap n)
  idle_slots-other x [] n k = refl
  idle_slots-other x (w ∷ ws) n k =
      idle_slots-other (altered x (cap_place w) (idle_at w)) ws n (λ v a. k v (inr a))
      ∙ get-set_other x.slots (cap_place w) n (idle_at w) (λ e. k w (inl refl) (sym e))

  -- two words of a chain with one number are one
  same_number : (v w : W) (ws : List W) → Chained (opaque_cell s Actor) ws → Among v ws → Among w ws → cap_place v ≡ cap_place w → v ≡ w
  same_number v w ws h a b e =
      let k = chained-among (opaque_cell s Actor) ws v h a in
      let l = chained-among (opaque_cell s Actor) ws w h b in
      (named s Actor v k.0 k.1).place_is ∙ ap Cap e ∙ sym (named s Actor w l.0 l.1).place_is

  idle_slots-same : (x : Seen) (ws : List W) → Chained (opaque_cell s Actor) ws → length x.slots ≡ used s → (v : W) → Among v ws → slot_seen (all_idle x (map (made_at s) ws)) v ≡ Some (idle_at v)
  idle_slots-same x [] h n v a = absurd a
  idle_slots-same x (w ∷ ws) h n v (inr a) = idle_slots-same (altered x (cap_place w) (idle_at w)) ws h.3 (length-set x.slots (cap_place w) (idle_at w) ∙ n) v a
  idle_slots-same x (w ∷ ws) h n v (inl e) =
      let p = named s Actor w h.0 h.1 in
      let y = altered x (cap_place w) (idle_at w) in
      let at : slot_seen (all_idle y (map (made_at s) ws)) (Cap (cap_place w)) ≡ Some (idle_at w) =
      idle_slots-other y ws (cap_place w) (λ u a k. no_twice (opaque_cell s Actor) refl w ws h (subst (λ (z : W). Among z ws) (same_number u w (w ∷ ws) h (inr a) (inl refl) k) a))
      ∙ get-set_same x.slots (cap_place w) (idle_at w) (omega (arith, n, p.within)) in
      subst (λ (u : W). slot_seen (all_idle y (map (made_at s) ws)) u ≡ Some (idle_at u)) (sym p.place_is ∙ sym e) (subst (λ (u : W). slot_seen (all_idle y (map (made_at s) ws)) (Cap (cap_place w)) ≡ Some (idle_at u)) p.place_is at)

  -- each actor of the list is seen to be idle
  pub made-idle : (n : ℕ) (first : W) → AreMade s n first → (w : W) → Among w (walk (opaque_cell s Actor) n first) → slot_seen (all_idle (seen s) (made_from s n first)) w ≡ Some (ActorSlot (made_at s w).code (made_at s w).state undef)
  made-idle n first h w a = idle_slots-same (seen s) (walk (opaque_cell s Actor) n first) h.chained (length-map s.ram erase) w a
