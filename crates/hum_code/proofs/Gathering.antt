-- A record that grows stands for effects that grow.
use Rattle.std.proofs.Common.{◌≡◌, refl, ap, sym, subst, ◌∙◌, ℕ, ◌+◌, List, [], ◌∷◌, ◌++◌, length, append_assoc, Option, Some, None}
use Rattle.std.specs.Prelude.{map, slice_get}
use Rattle.std.proofs.lemmas.List.{length-append, length-map, map-append}
use Rattle.cap_words.specs.Words.{W}
use Rattle.cap_words.specs.Seen.{Seen}
use Rattle.cap_words.proofs.Places.{get-seam}
use Rattle.instr_table.specs.Types.{AnActor, look_up}
use Rattle.instr_table.specs.Event.{Made, Sent, Behaviour, Effects}
use Rattle.hum_meaning.specs.Value.{Plain, Actor}
use Rattle.hum_core.specs.Alike.{Both, Each}
use Rattle.hum_core.proofs.Acts.{each_length}
use Rattle.hum_code.specs.Comes.{roll_with}
use Rattle.hum_code.specs.Layout.{Layout}
use Rattle.hum_code.specs.Stands.{Stands, MadeStands, SentStands, NextStands, EffectsStand}
use Rattle.hum_code.proofs.World.{same}
use Rattle.hum_code.proofs.Makings.{with_made, with_sent, with_next}
use Rattle.hum_code.proofs.Standing.{CoreValue, Gathered, Longer, longer_by, each_map, stands_later, next_later}

each_end : {A B : Type 0} (R : A → B → Type 0) (xs : List A) (ys : List B) (a : A) (b : B) → Each R xs ys → R a b
    → Each R (xs ++ a ∷ []) (ys ++ b ∷ [])
each_end R [] [] a b p h = (h, tt)
each_end R [] (y ∷ ys) a b p h = absurd p
each_end R (x ∷ xs) [] a b p h = absurd p
each_end R (x ∷ xs) (y ∷ ys) a b p h = (p.0, each_end R xs ys a b p.1 h)

-- the roll with one more actor
pub roll_end : (roll : List W) (d : Effects) (a : Made) → roll_with roll (with_made d a) ≡ roll_with roll d ++ a.actor ∷ []
roll_end roll d a = ap (λ xs. roll ++ xs) (map-append (λ m. m.actor) d.created (a ∷ [])) ∙ sym
    (append_assoc roll (map (λ m. m.actor) d.created) (a.actor ∷ []))

pub longer_made : (roll : List W) (d : Effects) (a : Made) → Longer (roll_with roll d) (roll_with roll (with_made d a))
longer_made roll d a = subst (λ r. Longer (roll_with roll d) r) (sym (roll_end roll d a)) (longer_by (roll_with roll d) (a.actor ∷ []))

module _ (lay : Layout) (roll : List W) (t : Seen) (f : Gathered) (d : Effects) (h : EffectsStand lay roll t f d) where
  -- the new actor's number
  pub number_stands : (a : Made) → look_up t a.actor ≡ Some AnActor
      → Stands lay t (roll_with roll (with_made d a)) a.actor (Plain (Actor (length roll + length f.created)))
  unfolding Stands
  number_stands a is =
      let n : length (roll_with roll d) ≡ length roll + length f.created
      = length-append roll (map (λ m. m.actor) d.created) ∙ ap (λ n. length roll + n)
      (length-map d.created (λ m. m.actor) ∙ sym (each_length _ f.created d.created h.created)) in
      let e : slice_get (roll_with roll (with_made d a)) (length roll + length f.created) ≡ Some a.actor = rw (roll_end, sym n)
      (get-seam (roll_with roll d) [] a.actor) in
      (e, is)

  pub made_stands : (a : Made) (v : CoreValue) → Stands lay t (roll_with roll d) a.state v → a.code ≡ lay.apply
      → EffectsStand lay roll t (record f { created = f.created ++ v ∷ [] }) (with_made d a)
  made_stands a v vs code =
      let l = longer_made roll d a in
      let r = roll_with roll d in
      let r' = roll_with roll (with_made d a) in
      record {
        created = each_end (MadeStands lay t r') f.created d.created v a
            (each_map (MadeStands lay t r) (MadeStands lay t r') (λ v m p. (stands_later lay t t r r' (same t) l m.state v p.0, p.1)) f.created
            d.created h.created)
            (stands_later lay t t r r' (same t) l a.state v vs, code);
        sent = each_map (SentStands lay t r) (SentStands lay t r')
            (λ v m p. (l.keeps v.0 m.target p.0, stands_later lay t t r r' (same t) l m.content v.1 p.1)) f.sent d.sent h.sent;
        next = next_later lay t t r r' (same t) l f.next d.next h.next;
      }

  pub sent_stands : (n : ℕ) (v : CoreValue) (x : Sent) → slice_get (roll_with roll d) n ≡ Some x.target → Stands lay t (roll_with roll d) x.content v
      → EffectsStand lay roll t (record f { sent = f.sent ++ (n, v) ∷ [] }) (with_sent d x)
  sent_stands n v x p q = record {
    created = h.created;
    sent = each_end (SentStands lay t (roll_with roll d)) f.sent d.sent (n, v) x h.sent
        (p, q);
    next = h.next;
  }

  pub sends_stand : length d.sent ≡ length f.sent
  sends_stand = sym (each_length _ f.sent d.sent h.sent)

  pub next_stands : (v : CoreValue) (state : W) → Stands lay t (roll_with roll d) state v
      → EffectsStand lay roll t (record f { next = Some v }) (with_next d state lay.apply)
  next_stands v state p = record { created = h.created; sent = h.sent; next = (p, refl) }

  pub no_next : (o : Option CoreValue) (b : Option Behaviour) → Both (NextStands lay t (roll_with roll d)) o b → o ≡ None → b ≡ None
  no_next None None p e = refl
  no_next None (Some b) p e = absurd p
  no_next (Some v) b p e = cc
