-- What a quad was taken for.
use Rattle.std.proofs.Common.{◌≡◌, Bool, true, false, Option, Some, None, if◌then◌else◌, refl}
use Rattle.cap_words.specs.declared.word.Quad.{Quad}
use Rattle.cap_words.specs.declared.word.Tag.{Tag}
use Rattle.cap_words.specs.declared.word.Tag.TheVariants.{Ordinary, Actor, Event, SponsorHeld, SponsorSpent}
use Rattle.cap_words.specs.Store.{Cell, same_tag, tagged, cell_as}

pub tag_same : (t u : Tag) → same_tag t u ≡ true → t ≡ u
tag_same Ordinary Ordinary h = refl
tag_same Actor Actor h = refl
tag_same Event Event h = refl
tag_same SponsorHeld SponsorHeld h = refl
tag_same SponsorSpent SponsorSpent h = refl
tag_same t u h = cc

pub tag_is : (t : Tag) → same_tag t t ≡ true
tag_is Ordinary = refl
tag_is Actor = refl
tag_is Event = refl
tag_is SponsorHeld = refl
tag_is SponsorSpent = refl

pub tag_other : (t u : Tag) → (t ≡ u → ⊥) → same_tag t u ≡ false
tag_other t u f = other (same_tag t u) (λ h. f (tag_same t u h))
  where
    other : (b : Bool) → (b ≡ true → ⊥) → b ≡ false
    other true g = absurd (g refl)
    other false g = refl

-- a quad that was taken for this is found under this tag
pub tagged-same : (t : Tag) (q : Quad) → tagged t (Some (cell_as t q)) ≡ Some q
tagged-same t q = rw tag_is

-- and under no other
pub tagged-other : (t u : Tag) (q : Quad) → (t ≡ u → ⊥) → tagged u (Some (cell_as t q)) ≡ None
tagged-other t u q f = rw (tag_other t u f)

chosen : (b : Bool) (p q : Quad) → (if b then Some p else None) ≡ Some q → (b ≡ true) × (p ≡ q)
chosen true p q h = (refl, cc)
chosen false p q h = cc

-- what is found under a tag is a cell of that tag
pub tagged_is : (t : Tag) (o : Option Cell) (q : Quad) → tagged t o ≡ Some q → o ≡ Some (cell_as t q)
tagged_is t None q h = cc
tagged_is t (Some c) q h =
    let k = chosen (same_tag c.tag t) c.words q h in
    let e : c.tag ≡ t = tag_same c.tag t k.0 in
    λ i. Some (record { tag = e i; words = k.1 i })

-- a quad is not found under two tags
pub tagged_twice : (t u : Tag) (o : Option Cell) (p q : Quad) → tagged t o ≡ Some p → tagged u o ≡ Some q → t ≡ u
tagged_twice t u None p q h k = cc
tagged_twice t u (Some c) p q h k =
    let a = tag_same c.tag t (chosen (same_tag c.tag t) c.words p h).0 in
    let b = tag_same c.tag u (chosen (same_tag c.tag u) c.words q k).0 in
    cc
