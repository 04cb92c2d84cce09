-- What keeps the books where quads change that are no sponsor's.
use Rattle.std.proofs.Common.{◌≡◌, ℕ, List, length, Option, Some, None, Bool, true, false, nat_eq, ap, refl, sym, ◌∙◌, arith}
use Rattle.std.specs.Prelude.{slice_get, slice_set, option_map}
use Rattle.std.proofs.lemmas.Bool.Decides.{nat_tests}
use Rattle.std.proofs.lemmas.List.{length-map}
use Rattle.std.proofs.lemmas.Option.{slice_get_within}
use Rattle.cap_words.specs.declared.word.Quad.{Quad}
use Rattle.cap_words.specs.Words.{W, Fix, Rom, Ram, Cap}
use Rattle.cap_words.specs.Store.{Store, used}
use Rattle.cap_words.specs.Seen.{Seen, Slot, seen, erase, cell_seen, altered}
use Rattle.cap_words.specs.Frame.{Among, Framed}
use Rattle.cap_words.proofs.Places.{get-set_same, get-set_other}
use Rattle.quad_memory.specs.Memory.{Memory}
use Rattle.instr_table.specs.Types.{Readable, opaque_in, look_up, shows_sponsor, is_sponsor}
use Rattle.vm_sponsor.specs.Ledger.{Ledger}
use Rattle.vm_sponsor.proofs.Framed.{Aside, sheet-framed, belongs-framed}
use Rattle.vm_step.specs.Books.{Books, held_quads}
use Rattle.vm_step.specs.Step.{sheet_in}

-- ---- which sponsors are seen

no_readable : (o : Option Quad) → shows_sponsor (option_map Readable o) ≡ false
no_readable None = refl
no_readable (Some q) = refl

-- a quad that is changed into one of its kind leaves all sponsors as they are seen
pub sponsor-altered : (s : Seen) (n : ℕ) (a b : Slot) → slice_get s.slots n ≡ Some a → opaque_in (Some b) ≡ opaque_in (Some a) → (w : W) → is_sponsor (altered s n b) w ≡ is_sponsor s w
unfolding look_up
sponsor-altered s n a b h k (Fix z) = refl
sponsor-altered s n a b h k (Rom m) = refl
sponsor-altered s n a b h k (Ram m) = no_readable (cell_seen (altered s n b) (Ram m)) ∙ sym (no_readable (cell_seen s (Ram m)))
sponsor-altered s n a b h k (Cap m) = by (nat_eq m n) refl
  where
    by : (t : Bool) → nat_eq m n ≡ t → shows_sponsor (opaque_in (slice_get (slice_set s.slots n b) m)) ≡ shows_sponsor (opaque_in (slice_get s.slots m))
    by true e =
        let x : m ≡ n = grind (arith, nat_tests) in
        let new : slice_get (slice_set s.slots n b) m ≡ Some b = ap (slice_get (slice_set s.slots n b)) x ∙ get-set_same s.slots n b (slice_get_within s.slots n a h) in
        let old : slice_get s.slots m ≡ Some a = ap (slice_get s.slots) x ∙ h in
        ap (λ (o : Option Slot). shows_sponsor (opaque_in o)) new ∙ ap shows_sponsor k ∙ ap (λ (o : Option Slot). shows_sponsor (opaque_in o)) (sym old)
    by false e =
        let x : m ≡ n → ⊥ = λ y. grind (arith, nat_tests) in
        ap (λ (o : Option Slot). shows_sponsor (opaque_in o)) (get-set_other s.slots n m b x)

-- ---- the books

pub used-same : (s t : Store) → length (seen t).slots ≡ length (seen s).slots → used t ≡ used s
used-same s t h = omega (arith, h, length-map s.ram erase, length-map t.ram erase)

pub record Quiet (before after : Memory) (sheet : Ledger) : Type 0 where
  pub books : Books after sheet
  pub sheet_is : sheet_in after sheet ≡ sheet_in before sheet

-- no quad was taken, no sponsor's changed and none came
pub quiet : (before after : Memory) (sheet : Ledger) (ws : List W) → Books before sheet → Framed before.store after.store ws → ((v : W) → Among v ws → Aside before.store v) → used after.store ≡ used before.store
    → ((w : W) → is_sponsor (seen after.store) w ≡ is_sponsor (seen before.store) w) → after.room ≡ before.room → Quiet before after sheet
quiet before after sheet ws b f o u i r =
    let same = sheet-framed before.store after.store ws sheet b.belongs f o in
    let held : held_quads (sheet_in after sheet) ≡ held_quads (sheet_in before sheet) = ap held_quads same in
    record {
      books = record {
        belongs = belongs-framed before.store after.store ws sheet b.belongs f o;
        listed = λ w h. b.listed w (sym (i w) ∙ h);
        rows_room = b.rows_room;
        covered = omega (arith, u, held, r, b.covered);
      };
      sheet_is = same;
    }
