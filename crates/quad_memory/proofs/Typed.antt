-- What is under a word as an actor, an event or a sponsor. Actors and events have the same laws, which take the tag and how the words are read.
use Rattle.std.proofs.Common.{◌≡◌, ℕ, ◌+◌, ◌<◌, List, [], ◌∷◌, Option, Some, None, refl, ap, ap₂, sym, ◌∙◌, subst, arith}
use Rattle.std.specs.Prelude.{option_map, slice_get, IsSome}
use Rattle.std.proofs.lemmas.Option.{slice_get_within}
use Rattle.cap_words.specs.declared.word.Quad.{Quad}
use Rattle.cap_words.specs.declared.word.Tag.{Tag}
use Rattle.cap_words.specs.declared.word.Tag.TheVariants.{Ordinary, SponsorHeld, SponsorSpent}
use Rattle.cap_words.specs.Words.{W, Fix, Rom, Ram, Cap}
use Rattle.cap_words.specs.Store.{Store, Cell, cell, opaque_cell, spent_cell, tagged, used, taken, changed, cell_as, cap_place}
use Rattle.cap_words.specs.Seen.{seen}
use Rattle.cap_words.specs.Frame.{Among, Framed}
use Rattle.cap_words.proofs.Tags.{tagged_is}
use Rattle.cap_words.proofs.Stores.{opaque-taken, opaque-first, opaque-changed_same, opaque-changed_other, opaque-changed_kind, spent-taken, spent-first, spent-changed_same, spent-changed_other, spent-changed_kind, cell-changed}
use Rattle.cap_words.proofs.Frames.{opaque-framed, spent-framed}
use Rattle.cap_words.proofs.Erased.{seen-unseen}
use Rattle.quad_memory.specs.declared.cells.SponsorCell.{SponsorCell}
use Rattle.quad_memory.specs.Cells.{sponsor_in, sponsor_at, held_words, spent_words, sponsor_cells, sponsor_changed}

mapped : {C : Type 0} (f : Quad → C) (o : Option Quad) (c : C) → option_map f o ≡ Some c → (q : Quad) × (o ≡ Some q) × (f q ≡ c)
mapped f None c h = cc
mapped f (Some q) c h = (q, refl, cc)

-- the quad that it was read from
pub at-quad : {C : Type 0} (f : Quad → C) (s : Store) (tag : Tag) (w : W) (c : C) → option_map f (opaque_cell s tag w) ≡ Some c → (q : Quad) × (opaque_cell s tag w ≡ Some q) × (f q ≡ c)
at-quad f s tag w c h = mapped f (opaque_cell s tag w) c h

pub some : {C : Type 0} (o : Option C) → IsSome o → (c : C) × (o ≡ Some c)
some None h = cc
some (Some c) h = (c, refl)

-- a change of it leaves each cell that a program reads
pub cell-changed_at : {C : Type 0} (f : Quad → C) (s : Store) (v w : W) (tag : Tag) (q : Quad) → IsSome (option_map f (opaque_cell s tag v)) → (tag ≡ Ordinary → ⊥) → cell (changed s (cap_place v) (cell_as tag q)) w ≡ cell s w
cell-changed_at f s (Fix n) w tag q h out = cc
cell-changed_at f s (Rom n) w tag q h out = cc
cell-changed_at f s (Ram n) w tag q h out = cc
cell-changed_at f s (Cap n) w tag q h out =
    let k = some (option_map f (opaque_cell s tag (Cap n))) h in
    let p = at-quad f s tag (Cap n) k.0 k.1 in
    cell-changed s n tag p.0 q w p.1 out

-- it stays when quads are taken
pub at-taken : {C : Type 0} (f : Quad → C) (s : Store) (cells : List Cell) (tag : Tag) (w : W) (c : C) → option_map f (opaque_cell s tag w) ≡ Some c → option_map f (opaque_cell (taken s cells) tag w) ≡ Some c
at-taken f s cells tag w c h = let k = at-quad f s tag w c h in ap (option_map f) (opaque-taken s cells tag w k.0 k.1) ∙ ap Some k.2

-- the first that is taken
pub at-first : {C : Type 0} (f : Quad → C) (s : Store) (cells : List Cell) (tag : Tag) (q : Quad) → option_map f (opaque_cell (taken s (cell_as tag q ∷ cells)) tag (Cap (used s))) ≡ Some (f q)
at-first f s cells tag q = ap (option_map f) (opaque-first s cells tag q)

-- it stays outside a frame
pub at-framed : {C : Type 0} (f : Quad → C) (s t : Store) (ws : List W) (tag : Tag) (w : W) (c : C) → Framed s t ws → (Among w ws → ⊥) → option_map f (opaque_cell s tag w) ≡ Some c → option_map f (opaque_cell t tag w) ≡ Some c
at-framed f s t ws tag w c fr out h = let k = at-quad f s tag w c h in ap (option_map f) (opaque-framed s t ws tag w k.0 fr out k.1) ∙ ap Some k.2

sponsor_quads : (o p : Option Quad) (c : SponsorCell) → sponsor_in o p ≡ Some c → (held : Quad) × (spent : Quad) × (o ≡ Some held) × (p ≡ Some spent)
sponsor_quads None p c h = cc
sponsor_quads (Some held) None c h = cc
sponsor_quads (Some held) (Some spent) c h = (held, spent, refl, refl)

-- both quads of a sponsor that is there
pub sponsor-quads : (s : Store) (w : W) (c : SponsorCell) → sponsor_at s w ≡ Some c → (held : Quad) × (spent : Quad) × (opaque_cell s SponsorHeld w ≡ Some held) × (spent_cell s w ≡ Some spent)
sponsor-quads s w c h = sponsor_quads (opaque_cell s SponsorHeld w) (spent_cell s w) c h

pub sponsor-taken : (s : Store) (cells : List Cell) (w : W) (c : SponsorCell) → sponsor_at s w ≡ Some c → sponsor_at (taken s cells) w ≡ Some c
sponsor-taken s cells w c h =
    let k = sponsor-quads s w c h in
    ap₂ sponsor_in (opaque-taken s cells SponsorHeld w k.0 k.2 ∙ sym k.2) (spent-taken s cells w k.1 k.3 ∙ sym k.3) ∙ h

pub sponsor-framed : (s t : Store) (ws : List W) (w : W) (c : SponsorCell) → Framed s t ws → (Among w ws → ⊥) → (Among (Cap (cap_place w + 1)) ws → ⊥) → sponsor_at s w ≡ Some c → sponsor_at t w ≡ Some c
sponsor-framed s t ws w c f out out' h =
    let k = sponsor-quads s w c h in
    ap₂ sponsor_in (opaque-framed s t ws SponsorHeld w k.0 f out k.2 ∙ sym k.2) (spent-framed s t ws w k.1 f out' k.3 ∙ sym k.3) ∙ h

-- the first two quads that are taken for a sponsor are one
pub sponsor-first : (s : Store) (c : SponsorCell) → sponsor_at (taken s (sponsor_cells c)) (Cap (used s)) ≡ Some c
sponsor-first s c = ap₂ sponsor_in (opaque-first s (cell_as SponsorSpent (spent_words c) ∷ []) SponsorHeld (held_words c)) (spent-first s [] (cell_as SponsorHeld (held_words c)) (spent_words c))

-- a change of an actor or an event leaves each sponsor
pub sponsor-changed_kind : (s : Store) (n : ℕ) (tag : Tag) (p q : Quad) (w : W) → tagged tag (slice_get s.ram n) ≡ Some p → (tag ≡ SponsorHeld → ⊥) → (tag ≡ SponsorSpent → ⊥) → sponsor_at (changed s n (cell_as tag q)) w ≡ sponsor_at s w
sponsor-changed_kind s n tag p q w h f g = ap₂ sponsor_in (opaque-changed_kind s n tag SponsorHeld p q w h f) (spent-changed_kind s n tag p q w h g)

-- a sponsor that is changed
pub record Sponsor (s : Store) (w : W) : Type 0 where
  pub held : Quad
  pub spent : Quad
  pub held_is : tagged SponsorHeld (slice_get s.ram (cap_place w)) ≡ Some held
  pub spent_is : tagged SponsorSpent (slice_get s.ram (cap_place w + 1)) ≡ Some spent
  pub place_is : w ≡ Cap (cap_place w)

pub sponsor : (s : Store) (w : W) (c : SponsorCell) → sponsor_at s w ≡ Some c → Sponsor s w
sponsor s (Fix n) c h = cc
sponsor s (Rom n) c h = cc
sponsor s (Ram n) c h = cc
sponsor s (Cap n) c h = let k = sponsor-quads s (Cap n) c h in record { held = k.0; spent = k.1; held_is = k.2; spent_is = k.3; place_is = refl }

-- its second quad is there after its first was changed
spent_after : (s : Store) (w : W) (c : SponsorCell) (k : Sponsor s w) → tagged SponsorSpent (slice_get (changed s (cap_place w) (cell_as SponsorHeld (held_words c))).ram (cap_place w + 1)) ≡ Some k.spent
spent_after s w c k = spent-changed_kind s (cap_place w) SponsorHeld k.held (held_words c) (Cap (cap_place w)) k.held_is (λ e. cc) ∙ k.spent_is

-- a change of a sponsor leaves each actor, event and readable cell
pub opaque-sponsor_changed : (s : Store) (w v : W) (b c : SponsorCell) (tag : Tag) → sponsor_at s w ≡ Some b → (tag ≡ SponsorHeld → ⊥) → (tag ≡ SponsorSpent → ⊥) → opaque_cell (sponsor_changed s (cap_place w) c) tag v ≡ opaque_cell s tag v
opaque-sponsor_changed s w v b c tag h f g =
    let k = sponsor s w b h in
    opaque-changed_kind (changed s (cap_place w) (cell_as SponsorHeld (held_words c))) (cap_place w + 1) SponsorSpent tag k.spent (spent_words c) v (spent_after s w c k) (λ e. g (sym e))
    ∙ opaque-changed_kind s (cap_place w) SponsorHeld tag k.held (held_words c) v k.held_is (λ e. f (sym e))

pub cell-sponsor_changed : (s : Store) (w v : W) (b c : SponsorCell) → sponsor_at s w ≡ Some b → cell (sponsor_changed s (cap_place w) c) v ≡ cell s v
cell-sponsor_changed s w v b c h =
    let k = sponsor s w b h in
    cell-changed (changed s (cap_place w) (cell_as SponsorHeld (held_words c))) (cap_place w + 1) SponsorSpent k.spent (spent_words c) v (spent_after s w c k) (λ e. cc)
    ∙ cell-changed s (cap_place w) SponsorHeld k.held (held_words c) v k.held_is (λ e. cc)

-- a change of a sponsor is not seen
pub seen-sponsor_changed : (s : Store) (w : W) (b c : SponsorCell) → sponsor_at s w ≡ Some b → seen (sponsor_changed s (cap_place w) c) ≡ seen s
seen-sponsor_changed s w b c h =
    let k = sponsor s w b h in
    let t = changed s (cap_place w) (cell_as SponsorHeld (held_words c)) in
    seen-unseen t (cap_place w + 1) (cell_as SponsorSpent (spent_words c)) (cell_as SponsorSpent k.spent) (tagged_is SponsorSpent (slice_get t.ram (cap_place w + 1)) k.spent (spent_after s w c k)) refl
    ∙ seen-unseen s (cap_place w) (cell_as SponsorHeld (held_words c)) (cell_as SponsorHeld k.held) (tagged_is SponsorHeld (slice_get s.ram (cap_place w)) k.held k.held_is) refl

-- the sponsor that is changed, and the others
pub sponsor-changed_same : (s : Store) (w : W) (b c : SponsorCell) → sponsor_at s w ≡ Some b → sponsor_at (sponsor_changed s (cap_place w) c) w ≡ Some c
sponsor-changed_same s w b c h =
    let k = sponsor s w b h in
    let n = cap_place w in
    let t = changed s n (cell_as SponsorHeld (held_words c)) in
    let n_within : n < used s = slice_get_within s.ram n (cell_as SponsorHeld k.held) (tagged_is SponsorHeld (slice_get s.ram n) k.held k.held_is) in
    let within : n + 1 < used t = slice_get_within t.ram (n + 1) (cell_as SponsorSpent k.spent) (tagged_is SponsorSpent (slice_get t.ram (n + 1)) k.spent (spent_after s w c k)) in
    let held : opaque_cell (sponsor_changed s n c) SponsorHeld (Cap n) ≡ Some (held_words c) =
    opaque-changed_other t (n + 1) (cell_as SponsorSpent (spent_words c)) SponsorHeld (Cap n) (λ e. next_is_other n e) ∙ opaque-changed_same s n SponsorHeld (held_words c) n_within in
    let spent : spent_cell (sponsor_changed s n c) (Cap n) ≡ Some (spent_words c) = spent-changed_same t n (spent_words c) within in
    let both : sponsor_at (sponsor_changed s n c) (Cap n) ≡ Some c = ap₂ sponsor_in held spent in
    subst (λ (v : W). sponsor_at (sponsor_changed s n c) v ≡ Some c) (sym k.place_is) both
  where
    next_is_other : (n : ℕ) → Cap n ≡ Cap (n + 1) → ⊥
    next_is_other n e = let k : n ≡ n + 1 = cc in omega arith

pub sponsor-changed_other : (s : Store) (w v : W) (b c : SponsorCell) → sponsor_at s w ≡ Some b → (v ≡ w → ⊥) → sponsor_at (sponsor_changed s (cap_place w) c) v ≡ sponsor_at s v
sponsor-changed_other s w v b c h other =
    let k = sponsor s w b h in
    let n = cap_place w in
    let t = changed s n (cell_as SponsorHeld (held_words c)) in
    let out : v ≡ Cap n → ⊥ = λ e. other (e ∙ sym k.place_is) in
    ap₂ sponsor_in
    (opaque-changed_kind t (n + 1) SponsorSpent SponsorHeld k.spent (spent_words c) v (spent_after s w c k) (λ e. cc) ∙ opaque-changed_other s n (cell_as SponsorHeld (held_words c)) SponsorHeld v out)
    (spent-changed_other t n (cell_as SponsorSpent (spent_words c)) v out ∙ spent-changed_kind s n SponsorHeld k.held (held_words c) v k.held_is (λ e. cc))
