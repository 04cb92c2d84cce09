-- Shapes that begin with entries that name the one behind them.
use Rattle.std.proofs.Common.{◌≡◌, refl, sym, ap, ◌∙◌, arith, ℕ, zero, suc, ◌+◌, ◌-◌, ◌<◌, ◌≤◌, List, [], ◌∷◌, ◌++◌, length, map, take, drop, get_or, append_assoc}
use Rattle.std.specs.Prelude.{fold}
use Rattle.std.proofs.lemmas.List.{get_or_append_left, length-append, append-nil, map-append, take-append-drop, take_more, length-take-le}
use Rattle.std.proofs.Math.ListN.{get_or-eq_default}
use Rattle.std.proofs.lemmas.List.Sums.{fold-append}
use Rattle.hum_code.specs.Layout.{Shape}
use Rattle.hum_emit.specs.declared.rows.Row.{Row}
use Rattle.hum_emit.specs.declared.shape.Entry.{Entry}
use Rattle.hum_emit.specs.Shaping.{kind_of}
use Rattle.hum_emit.specs.Rowing.{shape_at, with_row, shapes_in, IsTop}

pub one_row : (rows : List Row) (r : Row) → shapes_in (rows ++ r ∷ []) ≡ shapes_in rows ++ (kind_of r.entry ∷ shape_at (shapes_in rows) r.behind) ∷ []
unfolding shapes_in
one_row rows r = fold-append with_row [] rows (r ∷ [])

length_folded : (shapes : List Shape) (rows : List Row) → length (fold with_row shapes rows) ≡ length shapes + length rows
length_folded shapes [] = omega arith
length_folded shapes (r ∷ rows) =
    let more = length-append shapes ((kind_of r.entry ∷ shape_at shapes r.behind) ∷ []) in
    length_folded (with_row shapes r) rows ∙ omega (arith, more)

pub length_rows : (rows : List Row) → length (shapes_in rows) ≡ length rows
unfolding shapes_in
length_rows rows = let same = length_folded [] rows in omega (arith, same)

pub top_later : (shapes more : List Shape) (top : ℕ) → top ≤ length shapes → shape_at (shapes ++ more) top ≡ shape_at shapes top
top_later shapes more zero h = refl
top_later shapes more (suc i) h = get_or_append_left shapes more [] i (omega (arith, h))

at_seam : (shapes : List Shape) (sh : Shape) → shape_at (shapes ++ sh ∷ []) (suc (length shapes)) ≡ sh
at_seam [] sh = refl
at_seam (x ∷ shapes) sh = at_seam shapes sh

pub new_top : (shapes : List Shape) (sh : Shape) (at : ℕ) → at ≡ suc (length shapes) → IsTop (shapes ++ sh ∷ []) at sh
new_top shapes sh at is =
    let more = length-append shapes (sh ∷ []) in
    (omega (arith, is, more), ap (shape_at (shapes ++ sh ∷ [])) is ∙ at_seam shapes sh)

-- ---- one row's shape

-- rows only add shapes
folded_adds : (shapes : List Shape) (rows : List Row) → (more : List Shape) × (fold with_row shapes rows ≡ shapes ++ more)
folded_adds shapes [] = ([], sym (append-nil shapes))
folded_adds shapes (r ∷ rows) =
    let x = kind_of r.entry ∷ shape_at shapes r.behind in
    let rest = folded_adds (with_row shapes r) rows in
    (x ∷ rest.0, rest.1 ∙ append_assoc shapes (x ∷ []) rest.0)

front_rows : (rows : List Row) (i : ℕ) (r : Row) → i < length rows → r ≡ get_or rows i r
    → (more : List Shape) × (shapes_in rows ≡ (shapes_in (take i rows) ++ (kind_of r.entry ∷ shape_at (shapes_in (take i rows)) r.behind) ∷ []) ++ more)
unfolding shapes_in
front_rows rows i r h is =
    let front = fold with_row [] (take i rows) in
    let split : rows ≡ (take i rows ++ r ∷ []) ++ drop (i + 1) rows
    = sym (take-append-drop (i + 1) rows) ∙ ap (λ z. z ++ drop (i + 1) rows) (take_more rows i r h ∙ ap (λ y. take i rows ++ y ∷ []) (sym is)) in
    let rest = folded_adds (with_row front r) (drop (i + 1) rows) in (
      rest.0,
      ap (fold with_row []) split ∙ fold-append with_row [] (take i rows ++ r ∷ []) (drop (i + 1) rows)
          ∙ ap (λ z. fold with_row z (drop (i + 1) rows)) (fold-append with_row [] (take i rows) (r ∷ []))
          ∙ rest.1,
    )

past_end : (shapes : List Shape) (top : ℕ) → length shapes < top → shape_at shapes top ≡ []
past_end shapes zero h = absurd (omega (arith, h))
past_end shapes (suc i) h = get_or-eq_default shapes [] (omega (arith, h))

row_begins : (rows : List Row) (shapes : List Shape) (i : ℕ) (r : Row) → shapes_in rows ≡ shapes → i < length rows → r ≡ get_or rows i r
    → (shape_at shapes (suc i) ≡ kind_of r.entry ∷ shape_at (shapes_in (take i rows)) r.behind)
    × (r.behind ≤ i → shape_at (shapes_in (take i rows)) r.behind ≡ shape_at shapes r.behind)
    × (i < r.behind → shape_at (shapes_in (take i rows)) r.behind ≡ [])
row_begins rows shapes i r view h is =
    let front = shapes_in (take i rows) in
    let x = kind_of r.entry ∷ shape_at front r.behind in
    let split = front_rows rows i r h is in
    let long : length front ≡ i = length_rows (take i rows) ∙ length-take-le i rows (omega (arith, h)) in
    let all = length-append front (x ∷ []) in (
      ap (λ z. shape_at z (suc i)) (sym view ∙ split.1)
          ∙ top_later (front ++ x ∷ []) split.0 (suc i) (omega (arith, long, all))
          ∙ (new_top front x (suc i) (ap suc (sym long))).1,
      λ low. sym (ap (λ z. shape_at z r.behind) (sym view ∙ split.1)
          ∙ top_later (front ++ x ∷ []) split.0 r.behind (omega (arith, long, all, low))
          ∙ top_later front (x ∷ []) r.behind (omega (arith, long, low))),
      λ high. past_end front r.behind (omega (arith, long, high)),
    )

-- an entry more, from the newest on
pub entry_more : (rows : List Row) (shapes : List Shape) (next : ℕ) (r : Row) (before after : List Entry) (whole : Shape) → shapes_in rows ≡ shapes
    → 0 < next → next ≤ length rows → r ≡ get_or rows (next - 1) r → after ≡ before ++ r.entry ∷ []
    → map kind_of before ++ shape_at shapes next ≡ whole
    → (r.behind < next → map kind_of after ++ shape_at shapes r.behind ≡ whole) × (next ≤ r.behind → map kind_of after ≡ whole)
entry_more rows shapes next r before after whole view some within is more so =
    let i = next - 1 in
    let this : suc i ≡ next = omega (arith, some) in
    let begins = row_begins rows shapes i r view (omega (arith, some, within)) is in
    let entries : map kind_of after ≡ map kind_of before ++ kind_of r.entry ∷ [] = ap (map kind_of) more ∙ map-append kind_of before (r.entry ∷ []) in
    let here : map kind_of after ++ shape_at (shapes_in (take i rows)) r.behind ≡ whole
    = ap (λ z. z ++ shape_at (shapes_in (take i rows)) r.behind) entries
    ∙ append_assoc (map kind_of before) (kind_of r.entry ∷ []) (shape_at (shapes_in (take i rows)) r.behind)
    ∙ ap (λ z. map kind_of before ++ z) (sym begins.0 ∙ ap (shape_at shapes) this)
    ∙ so in (
      λ low. ap (λ z. map kind_of after ++ z) (sym (begins.1 (omega (arith, this, low)))) ∙ here,
      λ high. sym (append-nil (map kind_of after)) ∙ ap (λ z. map kind_of after ++ z) (sym (begins.2 (omega (arith, this, high)))) ∙ here,
    )

-- no entry there
pub no_entry : (shapes : List Shape) (next : ℕ) (entries : List Entry) (whole : Shape) → map kind_of entries ++ shape_at shapes next ≡ whole
    → shape_at shapes next ≡ [] → map kind_of entries ≡ whole
no_entry shapes next entries whole so none = sym (append-nil (map kind_of entries)) ∙ ap (λ z. map kind_of entries ++ z) (sym none) ∙ so

pub past_rows : (rows : List Row) (shapes : List Shape) (next : ℕ) → shapes_in rows ≡ shapes → length rows < next → shape_at shapes next ≡ []
past_rows rows shapes next view h =
    let long = length_rows rows in
    let same = ap length view in
    past_end shapes next (omega (arith, long, same, h))
