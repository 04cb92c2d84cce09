-- Making the actors of a chain idle, one after another.
use Rattle.std.proofs.Common.{◌≡◌, ℕ, suc, List, [], ◌∷◌, length, Some, refl, ap, ap₂, sym, ◌∙◌, subst, inl, inr, arith}
use Rattle.std.specs.Prelude.{map}
use Rattle.cap_words.specs.declared.word.Tag.TheVariants.{Actor}
use Rattle.cap_words.specs.Words.{W, undef}
use Rattle.cap_words.specs.Store.{Store, opaque_cell, cap_place}
use Rattle.cap_words.specs.Seen.{ActorSlot, seen, altered}
use Rattle.cap_words.specs.Frame.{Among, Framed}
use Rattle.cap_words.proofs.Frames.{framed-refl, framed-then}
use Rattle.instr_table.specs.Event.{Made}
use Rattle.vm_effects.specs.Links.{walk, link_in, first_or, Chained}
use Rattle.vm_effects.specs.Actors.{all_idle}
use Rattle.vm_effects.specs.Rewritten.{rewritten, with_mark}
use Rattle.vm_effects.specs.Gathered.{made_at, made_in, made_from, made_words, AreMade}
use Rattle.vm_effects.proofs.Chains.{chained-kept, no_twice, map-among}
use Rattle.vm_effects.proofs.Rewrites.{rewritten_other, rewritten_framed, rewritten_seen}
use Rattle.vm_effects.proofs.Records.{made_words-read}

-- so far: the words that are left, and what is to become of them
pub record Idling (s t : Store) (ws : List W) (n : ℕ) (word : W) : Type 0 where
  pub rest : List W
  pub chain : Chained (opaque_cell t Actor) rest
  pub word_is : word ≡ first_or rest
  pub left : length rest ≡ n
  pub sees : all_idle (seen t) (map (made_at t) rest) ≡ all_idle (seen s) (map (made_at s) ws)
  pub frame : Framed s t ws
  pub inside : (v : W) → Among v rest → Among v ws

pub idling-start : (s : Store) (n : ℕ) (f : W) → AreMade s n f → Idling s s (walk (opaque_cell s Actor) n f) n f
idling-start s n f h = record {
  rest = walk (opaque_cell s Actor) n f;
  chain = h.chained;
  word_is = h.first_is;
  left = sym h.count_is;
  sees = refl;
  frame = framed-refl s (walk (opaque_cell s Actor) n f);
  inside = λ v a. a;
}

pub idling-more : (s t : Store) (ws : List W) (n : ℕ) (word : W) → Idling s t ws (suc n) word → Idling s (rewritten Actor (with_mark undef) t word) ws n (link_in (opaque_cell t Actor word))
idling-more s t ws n word i = by i.rest i.chain i.word_is i.left i.sees i.inside
  where
    by : (rest : List W) → Chained (opaque_cell t Actor) rest → word ≡ first_or rest → length rest ≡ suc n → all_idle (seen t) (map (made_at t) rest) ≡ all_idle (seen s) (map (made_at s) ws) → ((v : W) → Among v rest → Among v ws)
        → Idling s (rewritten Actor (with_mark undef) t word) ws n (link_in (opaque_cell t Actor word))
    by [] h w l x a = absurd (omega (arith, l))
    by (r ∷ rs) h w l x a =
        let q : opaque_cell t Actor word ≡ Some h.0 = ap (opaque_cell t Actor) w ∙ h.1 in
        let u = rewritten Actor (with_mark undef) t word in
        let other : (v : W) → Among v rs → v ≡ word → ⊥ = λ v b e. no_twice (opaque_cell t Actor) refl r rs h (subst (λ (y : W). Among y rs) (e ∙ w) b) in
        let same : (v : W) → Among v rs → opaque_cell u Actor v ≡ opaque_cell t Actor v = λ v b. rewritten_other t Actor (with_mark undef) word Actor v (other v b) in
        let now : seen u ≡ altered (seen t) (cap_place r) (ActorSlot h.0.x h.0.y undef) = rewritten_seen t Actor (with_mark undef) word h.0 q ∙ ap (λ (v : W). altered (seen t) (cap_place v) (ActorSlot h.0.x h.0.y undef)) w in
        let was : made_at t r ≡ record { actor = r; state = h.0.y; code = h.0.x } = ap (made_in r) h.1 in
        record {
          rest = rs;
          chain = chained-kept (opaque_cell t Actor) (opaque_cell u Actor) rs h.3 (λ v p b k. (p, same v b ∙ k, refl));
          word_is = ap link_in q ∙ h.2;
          left = omega (arith, l);
          sees =
              ap₂ all_idle now (map-among (made_at u) (made_at t) rs (λ v b. ap (made_in v) (same v b)))
              ∙ ap (λ (m : Made). all_idle (altered (seen t) (cap_place m.actor) (ActorSlot m.code m.state undef)) (map (made_at t) rs)) (sym was)
              ∙ x;
          frame = framed-then s t u ws ws ws i.frame (rewritten_framed t Actor (with_mark undef) word ws (λ p k. a word (inl w))) (λ v b. b) (λ v b. b);
          inside = λ v b. a v (inr b);
        }

pub idling-end : (s t : Store) (n : ℕ) (f word : W) → Idling s t (walk (opaque_cell s Actor) n f) 0 word → (seen t ≡ all_idle (seen s) (made_from s n f)) × Framed s t (made_words (made_from s n f))
idling-end s t n f word i = (by i.rest i.left i.sees, subst (λ (ws : List W). Framed s t ws) (sym (made_words-read s (walk (opaque_cell s Actor) n f))) i.frame)
  where
    by : (rest : List W) → length rest ≡ 0 → all_idle (seen t) (map (made_at t) rest) ≡ all_idle (seen s) (made_from s n f) → seen t ≡ all_idle (seen s) (made_from s n f)
    by [] l x = x
    by (r ∷ rs) l x = absurd (omega (arith, l))
