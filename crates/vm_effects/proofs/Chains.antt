-- Chains of linked quads: what is walked along them, and that they have no word twice.
use Rattle.std.proofs.Common.{◌≡◌, ℕ, zero, suc, ◌<◌, List, [], ◌∷◌, ◌++◌, length, Option, Some, None, refl, ap, ap₂, sym, ◌∙◌, subst, inl, inr, ◌⊎◌, arith}
use Rattle.std.specs.Prelude.{map}
use Rattle.cap_words.specs.declared.word.Quad.{Quad}
use Rattle.cap_words.specs.Words.{W, nil}
use Rattle.cap_words.specs.Frame.{Among}
use Rattle.vm_effects.specs.declared.chain.Chain.{Chain}
use Rattle.vm_effects.specs.Links.{link_in, walk, first_or, last_from, last_or, Chained, IsListed, IsChain, words_of}

-- two quads under one word are one
pub same_quad : (o : Option Quad) (p q : Quad) → o ≡ Some p → o ≡ Some q → p ≡ q
same_quad o p q x y = cc

-- what is under these words stays
abbrev pub Keeps : (W → Option Quad) → (W → Option Quad) → List W → Type 0
Keeps look look' ws = (v : W) (q : Quad) → Among v ws → look v ≡ Some q → look' v ≡ Some q

-- the links of these words stay
abbrev pub KeepsLinks : (W → Option Quad) → (W → Option Quad) → List W → Type 0
KeepsLinks look look' ws = (v : W) (q : Quad) → Among v ws → look v ≡ Some q → (r : Quad) × (look' v ≡ Some r) × (r.z ≡ q.z)

pub keeps-links : (look look' : W → Option Quad) (ws : List W) → Keeps look look' ws → KeepsLinks look look' ws
keeps-links look look' ws k v q a h = (q, k v q a h, refl)

pub length-walk : (look : W → Option Quad) (n : ℕ) (w : W) → length (walk look n w) ≡ n
length-walk look zero w = refl
length-walk look (suc n) w = ap suc (length-walk look n (link_in (look w)))

-- a chain is what is walked from its first word
chained-walked : (look : W → Option Quad) (ws : List W) → Chained look ws → walk look (length ws) (first_or ws) ≡ ws
chained-walked look [] h = refl
chained-walked look (w ∷ ws) h =
    let e : link_in (look w) ≡ first_or ws = ap link_in h.1 ∙ h.2 in
    ap (λ l. w ∷ l) (ap (walk look (length ws)) e ∙ chained-walked look ws h.3)

pub walked : (look : W → Option Quad) (n : ℕ) (w : W) (ws : List W) → IsListed look n w ws → walk look n w ≡ ws
walked look n w ws h = ap₂ (walk look) h.count_is h.first_is ∙ chained-walked look ws h.chained

-- what is walked along a chain is the chain
pub chain-walked : (look : W → Option Quad) (c : Chain) (ws : List W) → IsChain look c ws → (words_of look c ≡ ws) × IsChain look c (words_of look c)
chain-walked look c ws h =
    let e = walked look c.count c.first ws h.listed in
    (e, subst (λ (vs : List W). IsChain look c vs) (sym e) h)

-- a chain stands where its links do
pub chained-kept : (look look' : W → Option Quad) (ws : List W) → Chained look ws → KeepsLinks look look' ws → Chained look' ws
chained-kept look look' [] h k = tt
chained-kept look look' (w ∷ ws) h k =
    let new = k w h.0 (inl refl) h.1 in
    (new.0, new.1, new.2 ∙ h.2, chained-kept look look' ws h.3 (λ v q a. k v q (inr a)))

-- each word of a chain names a quad
pub chained-among : (look : W → Option Quad) (ws : List W) (v : W) → Chained look ws → Among v ws → (q : Quad) × (look v ≡ Some q)
chained-among look [] v h a = absurd a
chained-among look (w ∷ ws) v h (inl e) = (h.0, ap look e ∙ h.1)
chained-among look (w ∷ ws) v h (inr a) = chained-among look ws v h.3 a

-- its link is a word of the chain, or none
pub chained-link : (look : W → Option Quad) (ws : List W) (v : W) (p : Quad) → Chained look ws → Among v ws → look v ≡ Some p → (p.z ≡ nil) ⊎ Among p.z ws
chained-link look [] v p h a e = absurd a
chained-link look (w ∷ ws) v p h (inl m) e =
    let q : p ≡ h.0 = same_quad (look v) p h.0 e (ap look m ∙ h.1) in
    by ws (ap (λ (x : Quad). x.z) q ∙ h.2)
  where
    by : (us : List W) → p.z ≡ first_or us → (p.z ≡ nil) ⊎ Among p.z (w ∷ us)
    by [] x = inl x
    by (u ∷ us) x = inr (inr (inl x))
chained-link look (w ∷ ws) v p h (inr a) e = elim (chained-link look ws v p h.3 a e) [ inl x ↦ inl x | inr b ↦ inr (inr b) ]

-- the last word of a chain is linked to none
pub chained-last : (look : W → Option Quad) (w : W) (ws : List W) → Chained look (w ∷ ws) → (q : Quad) × (look (last_from w ws) ≡ Some q) × (q.z ≡ nil)
chained-last look w [] h = (h.0, h.1, h.2)
chained-last look w (v ∷ vs) h = chained-last look v vs h.3

pub last_from-append : (v w : W) (ws : List W) → last_from v (ws ++ w ∷ []) ≡ w
last_from-append v w [] = refl
last_from-append v w (u ∷ us) = last_from-append u w us

pub last-among : (w : W) (ws : List W) → Among (last_from w ws) (w ∷ ws)
last-among w [] = inl refl
last-among w (v ∷ vs) = inr (last-among v vs)

no_quad : (o : Option Quad) (q : Quad) → o ≡ None → o ≡ Some q → ⊥
no_quad o q x y = cc

module _ (look : W → Option Quad) (none : look nil ≡ None) where
  not_nil : (v : W) (q : Quad) → look v ≡ Some q → v ≡ nil → ⊥
  not_nil v q h e = no_quad (look v) q (ap look e ∙ none) h

  -- two chains from one word are one
  chained-once : (w : W) (us vs : List W) → Chained look (w ∷ us) → Chained look (w ∷ vs) → us ≡ vs
  chained-once w [] [] h k = refl
  chained-once w [] (v ∷ vs) h k =
      let q = same_quad (look w) h.0 k.0 h.1 k.1 in
      absurd (not_nil v k.3.0 k.3.1 (sym k.2 ∙ ap (λ (x : Quad). x.z) (sym q) ∙ h.2))
  chained-once w (u ∷ us) [] h k =
      let q = same_quad (look w) h.0 k.0 h.1 k.1 in
      absurd (not_nil u h.3.0 h.3.1 (sym h.2 ∙ ap (λ (x : Quad). x.z) q ∙ k.2))
  chained-once w (u ∷ us) (v ∷ vs) h k =
      let q = same_quad (look w) h.0 k.0 h.1 k.1 in
      let uv : u ≡ v = sym h.2 ∙ ap (λ (x : Quad). x.z) q ∙ k.2 in
      let k' : Chained look (u ∷ vs) = subst (λ (x : W). Chained look (x ∷ vs)) (sym uv) k.3 in
      ap₂ (λ (x : W) (l : List W). x ∷ l) uv (chained-once u us vs h.3 k')

  suffix : (w : W) (vs : List W) → Chained look vs → Among w vs → (us : List W) × Chained look (w ∷ us) × (length us < length vs)
  suffix w [] h a = absurd a
  suffix w (v ∷ vs) h (inl e) = (vs, subst (λ (x : W). Chained look (x ∷ vs)) (sym e) h, omega arith)
  suffix w (v ∷ vs) h (inr a) = let r = suffix w vs h.3 a in (r.0, r.1, omega (arith, r.2))

  -- a chain has no word twice
  pub no_twice : (w : W) (vs : List W) → Chained look (w ∷ vs) → Among w vs → ⊥
  no_twice w vs h a =
      let r = suffix w vs h.3 a in
      let e = ap (λ (l : List W). length l) (chained-once w r.0 vs r.1 h) in
      omega (arith, e, r.2)

  -- no word before the last one is the last one
  not_last : (w v : W) (vs : List W) → Chained look (w ∷ v ∷ vs) → w ≡ last_from v vs → ⊥
  not_last w v vs h e = no_twice w (v ∷ vs) h (subst (λ (x : W). Among x (v ∷ vs)) (sym e) (last-among v vs))

  -- a chain with one word more: the last one is linked to it, and the others stay
  pub chained-append : (look' : W → Option Quad) (ws : List W) (w : W) (q : Quad) → Chained look ws → look' w ≡ Some q → q.z ≡ nil
      → ((v : W) (p : Quad) → Among v ws → (v ≡ last_or ws → ⊥) → look v ≡ Some p → look' v ≡ Some p)
      → ((p : Quad) → look (last_or ws) ≡ Some p → (r : Quad) × (look' (last_or ws) ≡ Some r) × (r.z ≡ w))
      → Chained look' (ws ++ w ∷ [])
  chained-append look' [] w q h e z keep link = (q, e, z, tt)
  chained-append look' (v ∷ []) w q h e z keep link = let l = link h.0 h.1 in (l.0, l.1, l.2, (q, e, z, tt))
  chained-append look' (v ∷ u ∷ us) w q h e z keep link = (
    h.0,
    keep v h.0 (inl refl) (not_last v u us h) h.1,
    h.2,
    chained-append look' (u ∷ us) w q h.3 e z (λ x p a f g. keep x p (inr a) f g) link,
  )

-- the same items are read of words that read the same
pub map-among : {A : Type 0} (f g : W → A) (ws : List W) → ((v : W) → Among v ws → f v ≡ g v) → map f ws ≡ map g ws
map-among {A = A} f g [] k = refl
map-among {A = A} f g (w ∷ ws) k = ap₂ (λ (x : A) (l : List A). x ∷ l) (k w (inl refl)) (map-among f g ws (λ v a. k v (inr a)))
