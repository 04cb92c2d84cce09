-- What a change of one sponsor does to the rows, the plain sheet and the quads.
use Rattle.std.proofs.Common.{◌≡◌, ℕ, zero, suc, ◌+◌, ◌<◌, ◌≤◌, List, [], ◌∷◌, length, get_or, Option, Some, Bool, true, false, if◌then◌else◌, refl, ap, ap₂, sym, ◌∙◌, subst, inl, inr, arith}
use Rattle.std.specs.Prelude.{option_map, slice_get, slice_set}
use Rattle.cap_words.specs.Words.{W, same_word}
use Rattle.cap_words.specs.Store.{Store, cell_as, changed, cap_place}
use Rattle.cap_words.specs.declared.word.Tag.TheVariants.{SponsorHeld, SponsorSpent}
use Rattle.cap_words.specs.Frame.{Among, Framed}
use Rattle.cap_words.proofs.Same.{word_same, word_differs}
use Rattle.cap_words.proofs.Frames.{framed-changed, framed-then}
use Rattle.quad_memory.specs.declared.cells.SponsorCell.{SponsorCell}
use Rattle.quad_memory.specs.Memory.{Memory, with_store}
use Rattle.quad_memory.specs.Cells.{sponsor_at, sponsor_changed, held_words, spent_words}
use Rattle.quad_memory.proofs.Typed.{sponsor, sponsor-changed_same, sponsor-changed_other, seen-sponsor_changed}
use Rattle.instr_table.specs.Sheet.{Account, account, at_account}
use Rattle.vm_sponsor.specs.declared.amounts.Row.{Row}
use Rattle.vm_sponsor.specs.Ledger.{Ledger, names, row_of, place_of, at_row}
use Rattle.vm_sponsor.specs.Totals.{IsSound, sponsors}
use Rattle.vm_sponsor.specs.Sheets.{account_with, account_in, cell_or_new, sheet_of, shown, HasAmounts, IsThere, Apart, Belongs, quads_of}
use Rattle.vm_sponsor.specs.Keeps.{Keeps}

-- ---- rows

pub sponsors-sheet_of : (s : Store) (rows : List Row) → sponsors (sheet_of s rows) ≡ names rows
sponsors-sheet_of s [] = refl
sponsors-sheet_of s (r ∷ rows) = ap (λ vs. r.sponsor ∷ vs) (sponsors-sheet_of s rows)

pub names-at_row : (w : W) (g : Row → Row) (rows : List Row) → ((r : Row) → (g r).sponsor ≡ r.sponsor) → names (at_row w g rows) ≡ names rows
names-at_row w g [] k = refl
names-at_row w g (r ∷ rows) k = by (same_word r.sponsor w) (names-at_row w g rows k)
  where
    by : (b : Bool) → names (at_row w g rows) ≡ names rows → names (if b then g r ∷ rows else r ∷ at_row w g rows) ≡ r.sponsor ∷ names rows
    by true rest = ap (λ v. v ∷ names rows) (k r)
    by false rest = ap (λ vs. r.sponsor ∷ vs) rest

pub at_row-same : (w : W) (rows : List Row) → at_row w (λ r. r) rows ≡ rows
at_row-same w [] = refl
at_row-same w (r ∷ rows) = by (same_word r.sponsor w) (at_row-same w rows)
  where
    by : (b : Bool) → at_row w (λ x. x) rows ≡ rows → (if b then r ∷ rows else r ∷ at_row w (λ x. x) rows) ≡ r ∷ rows
    by true rest = refl
    by false rest = ap (λ l. r ∷ l) rest

-- the row at a sponsor's place is written
pub at_row-set : (w : W) (g : Row → Row) (rows : List Row) → slice_get rows (place_of w rows) ≡ Some (row_of w rows) → slice_set rows (place_of w rows) (g (row_of w rows)) ≡ at_row w g rows
at_row-set w g [] h = refl
at_row-set w g (r ∷ rows) h = by (same_word r.sponsor w) h (at_row-set w g rows)
  where
    by : (b : Bool) → slice_get (r ∷ rows) (if b then 0 else suc (place_of w rows)) ≡ Some (if b then r else row_of w rows) → (slice_get rows (place_of w rows) ≡ Some (row_of w rows) → slice_set rows (place_of w rows) (g (row_of w rows)) ≡ at_row w g rows) → slice_set (r ∷ rows) (if b then 0 else suc (place_of w rows)) (g (if b then r else row_of w rows)) ≡ (if b then g r ∷ rows else r ∷ at_row w g rows)
    by true k rest = refl
    by false k rest = ap (λ l. r ∷ l) (rest k)

-- the row of a sponsor that is there is its row
pub row_of-sponsor : (w : W) (rows : List Row) → Among w (names rows) → (row_of w rows).sponsor ≡ w
row_of-sponsor w [] i = absurd i
row_of-sponsor w (r ∷ rows) i = by (same_word r.sponsor w) refl i (row_of-sponsor w rows)
  where
    by : (b : Bool) → same_word r.sponsor w ≡ b → Among w (r.sponsor ∷ names rows) → (Among w (names rows) → (row_of w rows).sponsor ≡ w) → (if b then r else row_of w rows).sponsor ≡ w
    by true s a rest = word_same r.sponsor w s
    by false s (inl e) rest = absurd (word_differs r.sponsor w s (sym e))
    by false s (inr a) rest = rest a

-- ---- accounts

-- the account that is found is the account of the sponsor's row
account-row_of : (s : Store) (rows : List Row) (w : W) → Among w (names rows) → account (sheet_of s rows) w ≡ account_in s (row_of w rows)
account-row_of s [] w i = absurd i
account-row_of s (r ∷ rows) w i = by (same_word r.sponsor w) refl i (account-row_of s rows w)
  where
    by : (b : Bool) → same_word r.sponsor w ≡ b → Among w (r.sponsor ∷ names rows) → (Among w (names rows) → account (sheet_of s rows) w ≡ account_in s (row_of w rows)) → (if b then account_in s r else account (sheet_of s rows) w) ≡ account_in s (if b then r else row_of w rows)
    by true e a rest = refl
    by false e (inl k) rest = absurd (word_differs r.sponsor w e (sym k))
    by false e (inr a) rest = rest a

-- the account that a call reads
pub account-read : (s : Store) (rows : List Row) (w : W) (c : SponsorCell) → Among w (names rows) → sponsor_at s w ≡ Some c → account (sheet_of s rows) w ≡ account_with (row_of w rows) c
account-read s rows w c i h =
    let r = row_of w rows in
    account-row_of s rows w i ∙ ap (λ (o : Option SponsorCell). account_with r (cell_or_new o)) (ap (sponsor_at s) (row_of-sponsor w rows i) ∙ h)

-- the sheet is the same where each sponsor is
pub sheet-same : (s t : Store) (rows : List Row) → ((w : W) → Among w (names rows) → sponsor_at t w ≡ sponsor_at s w) → sheet_of t rows ≡ sheet_of s rows
sheet-same s t [] h = refl
sheet-same s t (r ∷ rows) h =
    ap₂ (λ (a : Account) (l : List Account). a ∷ l)
    (ap (λ (o : Option SponsorCell). account_with r (cell_or_new o)) (h r.sponsor (inl refl)))
    (sheet-same s t rows (λ w i. h w (inr i)))

-- a change of one sponsor, and of its row, is a change of its account
sheet-at_row : (s t : Store) (rows : List Row) (w : W) (f : Account → Account) (g : Row → Row) → Apart (names rows) → account_in t (g (row_of w rows)) ≡ f (account_in s (row_of w rows)) → ((v : W) → (v ≡ w → ⊥) → sponsor_at t v ≡ sponsor_at s v) → sheet_of t (at_row w g rows) ≡ at_account w f (sheet_of s rows)
sheet-at_row s t [] w f g d e h = refl
sheet-at_row s t (r ∷ rows) w f g d e h = by (same_word r.sponsor w) refl e (λ k. sheet-at_row s t rows w f g d.1 k h)
  where
    by : (b : Bool) → same_word r.sponsor w ≡ b → account_in t (g (if b then r else row_of w rows)) ≡ f (account_in s (if b then r else row_of w rows)) → (account_in t (g (row_of w rows)) ≡ f (account_in s (row_of w rows)) → sheet_of t (at_row w g rows) ≡ at_account w f (sheet_of s rows)) → sheet_of t (if b then g r ∷ rows else r ∷ at_row w g rows) ≡ (if b then f (account_in s r) ∷ sheet_of s rows else account_in s r ∷ at_account w f (sheet_of s rows))
    by true same k rest =
        let here : r.sponsor ≡ w = word_same r.sponsor w same in
        ap₂ (λ (a : Account) (l : List Account). a ∷ l) k (sheet-same s t rows (λ v i. h v (λ j. d.0 (subst (λ (x : W). Among x (names rows)) (j ∙ sym here) i))))
    by false same k rest =
        ap₂ (λ (a : Account) (l : List Account). a ∷ l) (ap (λ (o : Option SponsorCell). account_with r (cell_or_new o)) (h r.sponsor (word_differs r.sponsor w same))) (rest k)

-- ---- a sponsor that is changed

there-same : (s : Store) (w v : W) (b c : SponsorCell) → sponsor_at s w ≡ Some b → HasAmounts c → IsThere s v → IsThere (sponsor_changed s (cap_place w) c) v
there-same s w v b c h a j = by (same_word v w) refl
  where
    by : (t : Bool) → same_word v w ≡ t → IsThere (sponsor_changed s (cap_place w) c) v
    by true e = subst (λ (x : W). IsThere (sponsor_changed s (cap_place w) c) x) (sym (word_same v w e)) (c, sponsor-changed_same s w b c h, a)
    by false e = (j.0, sponsor-changed_other s w v b c h (word_differs v w e) ∙ j.1, j.2)

frame-sponsor : (s : Store) (w : W) (b c : SponsorCell) → sponsor_at s w ≡ Some b → Framed s (sponsor_changed s (cap_place w) c) (quads_of w)
frame-sponsor s w b c h =
    let k = sponsor s w b h in
    let t = changed s (cap_place w) (cell_as SponsorHeld (held_words c)) in
    framed-then s t (sponsor_changed s (cap_place w) c) (quads_of w) (quads_of w) (quads_of w)
    (framed-changed s (cap_place w) (cell_as SponsorHeld (held_words c)) (quads_of w) (inl (sym k.place_is)))
    (framed-changed t (cap_place w + 1) (cell_as SponsorSpent (spent_words c)) (quads_of w) (inr (inl refl)))
    (λ v i. i) (λ v i. i)

-- the memory and the ledger after a sponsor's quads and its row were changed
abbrev pub memory_after : Memory → W → SponsorCell → Memory
memory_after m w c = with_store m (sponsor_changed m.store (cap_place w) c)

abbrev pub ledger_after : Ledger → W → (Row → Row) → ℕ → Ledger
ledger_after sheet w g transfers = record { rows = at_row w g sheet.rows; transfers = transfers; room = sheet.room }

-- any change of one sponsor's account, where the sheet stays sound
pub sheet_set : (m : Memory) (sheet : Ledger) (w : W) (c : SponsorCell) (f : Account → Account) (g : Row → Row) (transfers : ℕ) → Belongs m.store sheet → Among w (names sheet.rows) → HasAmounts c → ((r : Row) → (g r).sponsor ≡ r.sponsor) → account_with (g (row_of w sheet.rows)) c ≡ f (account (sheet_of m.store sheet.rows) w) → IsSound transfers (at_account w f (sheet_of m.store sheet.rows))
    → (sheet_of (memory_after m w c).store (at_row w g sheet.rows) ≡ at_account w f (sheet_of m.store sheet.rows)) × Keeps m (memory_after m w c) sheet (ledger_after sheet w g transfers) (quads_of w)
sheet_set m sheet w c f g transfers b i a k e sound =
    let s = m.store in
    let t = (memory_after m w c).store in
    let rows = sheet.rows in
    let j = b.there w i in
    let r = row_of w rows in
    let same = names-at_row w g rows k in
    let now : account_in t (g r) ≡ account_with (g r) c =
    ap (λ (o : Option SponsorCell). account_with (g r) (cell_or_new o)) (ap (sponsor_at t) (k r ∙ row_of-sponsor w rows i) ∙ sponsor-changed_same s w j.0 c j.1) in
    let is : sheet_of t (at_row w g rows) ≡ at_account w f (sheet_of s rows) =
    sheet-at_row s t rows w f g b.apart (now ∙ e ∙ ap f (account-row_of s rows w i)) (λ v o. sponsor-changed_other s w v j.0 c j.1 o) in (
      is,
      record {
        belongs = record {
          apart = subst Apart (sym same) b.apart;
          there = λ v n. there-same s w v j.0 c j.1 a (b.there v (subst (λ (vs : List W). Among v vs) same n));
          sound = subst (λ (l : List Account). IsSound transfers l) (sym is) sound;
        };
        same_names = same;
        same_rows_room = refl;
        unseen = seen-sponsor_changed s w j.0 c j.1;
        frame = frame-sponsor s w j.0 c j.1;
        same_room = refl;
      },
    )

-- a change of a sponsor's quads alone
pub cell_set : (m : Memory) (sheet : Ledger) (w : W) (c : SponsorCell) (f : Account → Account) → Belongs m.store sheet → Among w (names sheet.rows) → HasAmounts c → account_with (row_of w sheet.rows) c ≡ f (account (sheet_of m.store sheet.rows) w) → IsSound sheet.transfers (at_account w f (sheet_of m.store sheet.rows))
    → (sheet_of (memory_after m w c).store sheet.rows ≡ at_account w f (sheet_of m.store sheet.rows)) × Keeps m (memory_after m w c) sheet sheet (quads_of w)
cell_set m sheet w c f b i a e sound =
    let same : at_row w (λ r. r) sheet.rows ≡ sheet.rows = at_row-same w sheet.rows in
    subst
    (λ (rows : List Row). (sheet_of (memory_after m w c).store rows ≡ at_account w f (sheet_of m.store sheet.rows)) × Keeps m (memory_after m w c) sheet (record { rows = rows; transfers = sheet.transfers; room = sheet.room }) (quads_of w))
    same (sheet_set m sheet w c f (λ r. r) sheet.transfers b i a (λ r. refl) e sound)

-- ---- the search for a row

-- none of the first rows is the sponsor's
abbrev pub Passed : W → ℕ → List Row → Type 0
Passed w zero rows = Unit {0}
Passed w (suc n) [] = ⊥
Passed w (suc n) (r ∷ rows) = (same_word r.sponsor w ≡ false) × Passed w n rows

passed-next : (w : W) (n : ℕ) (rows : List Row) (r : Row) → Passed w n rows → n < length rows → same_word (get_or rows n r).sponsor w ≡ false → Passed w (suc n) rows
passed-next w n [] r p h e = absurd (omega arith)
passed-next w zero (x ∷ rows) r p h e = (e, tt)
passed-next w (suc n) (x ∷ rows) r p h e = (p.0, passed-next w n rows r p.1 (omega arith) e)

pub passed-more : (w : W) (n : ℕ) (rows : List Row) (r : Row) → Passed w n rows → n < length rows → same_word (get_or rows n r).sponsor w ≡ false → Passed w (n + 1) rows
passed-more w n rows r p h e = let k : suc n ≡ n + 1 = omega arith in subst (λ (m : ℕ). Passed w m rows) k (passed-next w n rows r p h e)

pub passed-found : (w : W) (n : ℕ) (rows : List Row) (r : Row) → Passed w n rows → n < length rows → same_word (get_or rows n r).sponsor w ≡ true → place_of w rows ≡ n
passed-found w n [] r p h e = absurd (omega arith)
passed-found w zero (x ∷ rows) r p h e = rw e
passed-found w (suc n) (x ∷ rows) r p h e = rw p.0 (ap suc (passed-found w n rows r p.1 (omega arith) e))

pub passed-all : (w : W) (n : ℕ) (rows : List Row) → Passed w n rows → length rows ≤ n → Among w (names rows) → ⊥
passed-all w n [] p h i = i
passed-all w zero (x ∷ rows) p h i = omega arith
passed-all w (suc n) (x ∷ rows) p h (inl e) = word_differs x.sponsor w p.0 (sym e)
passed-all w (suc n) (x ∷ rows) p h (inr i) = passed-all w n rows p.1 (omega arith) i

pub row_of-place : (w : W) (rows : List Row) → Among w (names rows) → slice_get rows (place_of w rows) ≡ Some (row_of w rows)
row_of-place w [] i = absurd i
row_of-place w (r ∷ rows) i = by (same_word r.sponsor w) refl i (row_of-place w rows)
  where
    by : (b : Bool) → same_word r.sponsor w ≡ b → Among w (r.sponsor ∷ names rows) → (Among w (names rows) → slice_get rows (place_of w rows) ≡ Some (row_of w rows)) → slice_get (r ∷ rows) (if b then 0 else suc (place_of w rows)) ≡ Some (if b then r else row_of w rows)
    by true e a rest = refl
    by false e (inl k) rest = absurd (word_differs r.sponsor w e (sym k))
    by false e (inr a) rest = rest a

-- the row that is read at a place
got : (rows : List Row) (n : ℕ) (r d : Row) → slice_get rows n ≡ Some r → get_or rows n d ≡ r
got [] n r d h = cc
got (x ∷ rows) zero r d h = cc
got (x ∷ rows) (suc n) r d h = got rows n r d h

-- the sponsor's row was read at its place, changed and written there
pub row-written : (w : W) (g : Row → Row) (rows : List Row) (n : ℕ) (r : Row) → Among w (names rows) → n ≡ place_of w rows → r ≡ get_or rows n r → slice_set rows n (g r) ≡ at_row w g rows
row-written w g rows n r i e h =
    let there = row_of-place w rows i in
    let is : r ≡ row_of w rows = h ∙ ap (λ (k : ℕ). get_or rows k r) e ∙ got rows (place_of w rows) (row_of w rows) r there in
    ap₂ (λ (k : ℕ) (x : Row). slice_set rows k (g x)) e is ∙ at_row-set w g rows there

-- ---- a row that is read

pub row-named : (rows : List Row) (k : ℕ) (r d : Row) → k < length rows → r ≡ get_or rows k d → Among r.sponsor (names rows)
row-named [] k r d h e = absurd (omega arith)
row-named (x ∷ rows) zero r d h e = inl (ap (λ (y : Row). y.sponsor) e)
row-named (x ∷ rows) (suc k) r d h e = inr (row-named rows k r d (omega arith) e)

sheet-at : (s : Store) (rows : List Row) (k : ℕ) (r d : Row) → k < length rows → r ≡ get_or rows k d → slice_get (sheet_of s rows) k ≡ Some (account_in s r)
sheet-at s [] k r d h e = absurd (omega arith)
sheet-at s (x ∷ rows) zero r d h e = ap (λ (y : Row). Some (account_in s y)) (sym e)
sheet-at s (x ∷ rows) (suc k) r d h e = sheet-at s rows k r d (omega arith) e

pub account-shown : (s : Store) (rows : List Row) (k : ℕ) (r d : Row) (c : SponsorCell) → k < length rows → r ≡ get_or rows k d → sponsor_at s r.sponsor ≡ Some c → Some (shown (account_with r c)) ≡ option_map shown (slice_get (sheet_of s rows) k)
account-shown s rows k r d c h e j = ap (λ (o : Option SponsorCell). Some (shown (account_with r (cell_or_new o)))) (sym j) ∙ ap (option_map shown) (sym (sheet-at s rows k r d h e))

-- ---- one call after another

pub keeps-then : (m n o : Memory) (a b c : Ledger) (vs ws xs : List W) → Keeps m n a b vs → Keeps n o b c ws → ((w : W) → Among w vs → Among w xs) → ((w : W) → Among w ws → Among w xs) → Keeps m o a c xs
keeps-then m n o a b c vs ws xs f g p q = record {
  belongs = g.belongs;
  same_names = g.same_names ∙ f.same_names;
  same_rows_room = g.same_rows_room ∙ f.same_rows_room;
  unseen = g.unseen ∙ f.unseen;
  frame = framed-then m.store n.store o.store vs ws xs f.frame g.frame p q;
  same_room = g.same_room ∙ f.same_room;
}
