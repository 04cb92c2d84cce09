-- What a word shows, it shows from then on.
use Rattle.std.proofs.Common.{◌≡◌, ℕ, List, ◌++◌, Option, Some, None, option_map, refl, ◌↔◌, ◌∙◌, ap, subst, sym, drop, inl, inr, slice_get, slice_set}
use Rattle.std.proofs.lemmas.Bool.{cases_eq}
use Rattle.std.proofs.lemmas.Option.{slice_get_within}
use Rattle.cap_words.specs.declared.word.Quad.{Quad}
use Rattle.cap_words.specs.Words.{W, Fix, Rom, Ram, Cap}
use Rattle.cap_words.specs.Seen.{Seen, Slot, OpenSlot, ActorSlot, UnbornSlot, EventSlot, SponsorSlot, SpentSlot, cell_seen, open_in, grown, altered}
use Rattle.cap_words.proofs.Places.{get-left, get-set_same, get-set_other}
use Rattle.instr_table.specs.Types.{Shown, Readable, opaque_in, look_up, Grows}
use Rattle.instr_table.specs.Outcome.{Going}
use Rattle.instr_table.specs.Lane.{Item, after_going}
use Rattle.instr_table.specs.Laws.{ShowsTheSame}
use Rattle.instr_table.proofs.Authorities.{pushed-store}

-- each quad of the second list shows what the one of the first does
abbrev Keeps : List Slot → List Slot → Type 0
Keeps xs ys = (n : ℕ) (slot : Slot) → slice_get xs n ≡ Some slot → (open_in (slice_get ys n) ≡ open_in (Some slot)) × (opaque_in (slice_get ys n) ≡ opaque_in (Some slot))

some_is : {x y : Slot} → Some x ≡ Some y → x ≡ y
some_is h = cc

shows-same : (f : Option Slot → Option Shown) (o p : Option Slot) (x : Shown) → f None ≡ None → ((slot : Slot) → o ≡ Some slot → f p ≡ f (Some slot)) → f o ≡ Some x → f p ≡ Some x
shows-same f None p x e g h = cc
shows-same f (Some slot) p x e g h = g slot refl ∙ h

pub grows : (rom : List Quad) (xs ys : List Slot) → Keeps xs ys → Grows (record { rom = rom; slots = xs }) (record { rom = rom; slots = ys })
unfolding look_up
grows rom xs ys k = record { keeps = keeps }
  where
    keeps : (w : W) (x : Shown) → look_up (record { rom = rom; slots = xs }) w ≡ Some x → look_up (record { rom = rom; slots = ys }) w ≡ Some x
    keeps (Fix n) x h = h
    keeps (Rom n) x h = h
    keeps (Ram n) x h = shows-same (λ o. option_map Readable (open_in o)) (slice_get xs n) (slice_get ys n) x refl (λ slot e. ap (option_map Readable) (k n slot e).0) h
    keeps (Cap n) x h = shows-same opaque_in (slice_get xs n) (slice_get ys n) x refl (λ slot e. (k n slot e).1) h

pub grows-grown : (s : Seen) (slots : List Slot) → Grows s (grown s slots)
grows-grown s slots =
    grows s.rom s.slots (s.slots ++ slots) (λ n slot e.
    let g : slice_get (s.slots ++ slots) n ≡ Some slot = get-left s.slots slots n (slice_get_within s.slots n slot e) ∙ e in
    (ap open_in g, ap opaque_in g))

pub grows-then : (s t u : Seen) → Grows s t → Grows t u → Grows s u
grows-then s t u g h = record { keeps = λ w x e. h.keeps w x (g.keeps w x e) }

pub shown-stays : (s : Seen) (is : List Item) (g : Going) → Grows s (after_going s is g).0
shown-stays s is g =
    let p = pushed-store (grown s g.made, drop g.pops is) g.pushed in
    subst (λ (t : Seen). Grows s t) (sym p.1) (grows-then s (grown s g.made) (grown (grown s g.made) p.0) (grows-grown s g.made) (grows-grown (grown s g.made) p.0))

pub changes-keep : (s : Seen) (n : ℕ) (a b : Slot) → slice_get s.slots n ≡ Some a → ShowsTheSame a b → Grows s (altered s n b)
changes-keep s n a b h same = grows s.rom s.slots (slice_set s.slots n b) keeps
  where
    keeps : Keeps s.slots (slice_set s.slots n b)
    keeps k slot e = elim (cases_eq k n) [
      | inl p ↦
          let f : a ≡ slot = some_is (sym h ∙ (ap (λ (i : ℕ). slice_get s.slots i) (sym p) ∙ e)) in
          let g : slice_get (slice_set s.slots n b) k ≡ Some b = ap (λ (i : ℕ). slice_get (slice_set s.slots n b) i) p ∙ get-set_same s.slots n b (slice_get_within s.slots n a h) in
          (ap open_in g ∙ (same.0 ∙ ap (λ (x : Slot). open_in (Some x)) f), ap opaque_in g ∙ (same.1 ∙ ap (λ (x : Slot). opaque_in (Some x)) f))
      | inr p ↦
          let g : slice_get (slice_set s.slots n b) k ≡ Some slot = get-set_other s.slots n k b p ∙ e in
          (ap open_in g, ap opaque_in g)
    ]

-- ---- a word shows a cell's words exactly where it is read

mapped-is : (o : Option Quad) (q : Quad) → option_map Readable o ≡ Some (Readable q) → o ≡ Some q
mapped-is None q h = cc
mapped-is (Some p) q h = cc

opaque-unread : (o : Option Slot) (q : Quad) → opaque_in o ≡ Some (Readable q) → ⊥
opaque-unread None q h = cc
opaque-unread (Some (OpenSlot p)) q h = cc
opaque-unread (Some (ActorSlot a b c)) q h = cc
opaque-unread (Some UnbornSlot) q h = cc
opaque-unread (Some (EventSlot a b c)) q h = cc
opaque-unread (Some SponsorSlot) q h = cc
opaque-unread (Some SpentSlot) q h = cc

pub shown-read : (s : Seen) (w : W) (q : Quad) → look_up s w ≡ Some (Readable q) → cell_seen s w ≡ Some q
unfolding look_up
shown-read s (Fix n) q h = cc
shown-read s (Rom n) q h = mapped-is (cell_seen s (Rom n)) q h
shown-read s (Ram n) q h = mapped-is (cell_seen s (Ram n)) q h
shown-read s (Cap n) q h = absurd (opaque-unread (slice_get s.slots n) q h)

pub read-shown : (s : Seen) (w : W) (q : Quad) → cell_seen s w ≡ Some q → look_up s w ≡ Some (Readable q)
unfolding look_up
read-shown s (Fix n) q h = cc
read-shown s (Rom n) q h = ap (option_map Readable) h
read-shown s (Ram n) q h = ap (option_map Readable) h
read-shown s (Cap n) q h = cc

pub shows-cell : (s : Seen) (w : W) (q : Quad) → (look_up s w ≡ Some (Readable q)) ↔ (cell_seen s w ≡ Some q)
shows-cell s w q = (shown-read s w q, read-shown s w q)
