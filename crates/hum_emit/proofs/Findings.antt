-- What a walk finds, one part after the other.
use Rattle.std.proofs.Common.{◌≡◌, refl, sym, ap, subst, ◌∙◌, arith, ℕ, suc, ◌+◌, ◌<◌, List, [], ◌∷◌, ◌++◌, length, map, take, drop, drop-cons, reverse, get_or, append_assoc}
use Rattle.std.specs.List.{AllZip}
use Rattle.std.proofs.lemmas.List.{append-nil, map-append, take_more, length-append, reverse-append, reverse-reverse}
use Rattle.std.specs.Prelude.{slice_index}
use Rattle.hum_core.specs.declared.tested.TestUnit.{TestUnit}
use Rattle.hum_code.specs.Layout.{Shape}
use Rattle.hum_emit.specs.declared.shapes.Walk.{Walk}
use Rattle.hum_emit.specs.Shapes.{Inside, in_all, in_unit, first_shape, other_shapes, shapes_from, shapes_of, outermost_shape}
use Rattle.hum_emit.specs.Rowing.{shape_at, IsTop}
use Rattle.hum_emit.specs.Finding.{Found}
use Rattle.hum_emit.proofs.Tops.{top_later}

pub is_top_later : (rows more : List Shape) (top : ℕ) (shape : Shape) → IsTop rows top shape → IsTop (rows ++ more) top shape
is_top_later rows more top shape h =
    let low = h.0 in
    let all = length-append rows more in
    (omega (arith, low, all), top_later rows more top h.0 ∙ h.1)

tops_later : (rows more : List Shape) (tops : List ℕ) (shapes : List Shape) → AllZip (IsTop rows) tops shapes → AllZip (IsTop (rows ++ more)) tops shapes
tops_later rows more [] [] h = h
tops_later rows more [] (sh ∷ shapes) h = h
tops_later rows more (t ∷ tops) [] h = h
tops_later rows more (t ∷ tops) (sh ∷ shapes) h = (is_top_later rows more t sh h.0, tops_later rows more tops shapes h.1)

zip_append : (R : ℕ → Shape → Type 0) (ts : List ℕ) (xs : List Shape) (us : List ℕ) (ys : List Shape) → AllZip R ts xs → AllZip R us ys → AllZip R (ts ++ us) (xs ++ ys)
zip_append R [] [] us ys h k = k
zip_append R [] (x ∷ xs) us ys h k = absurd h
zip_append R (t ∷ ts) [] us ys h k = absurd h
zip_append R (t ∷ ts) (x ∷ xs) us ys h k = (h.0, zip_append R ts xs us ys h.1 k)

pub nothing_found : (w v : Walk) → v.rows ≡ w.rows → v.found.items ≡ w.found.items → Found [] w v
nothing_found w v rows found = record {
  more = [];
  rows = rows ∙ sym (append-nil w.rows);
  tops = [];
  found = found ∙ sym (append-nil w.found.items);
  stand = tt;
}

pub found_then : (xs ys : List Shape) (u v w : Walk) → Found xs u v → Found ys v w → Found (xs ++ ys) u w
found_then xs ys u v w g h = record {
  more = g.more ++ h.more;
  rows = h.rows ∙ (ap (λ r. r ++ h.more) g.rows ∙ append_assoc u.rows g.more h.more);
  tops = g.tops ++ h.tops;
  found = h.found ∙ (ap (λ r. r ++ h.tops) g.found ∙ append_assoc u.found.items g.tops h.tops);
  stand = zip_append (IsTop w.rows) g.tops xs h.tops ys (subst (λ rows. AllZip (IsTop rows) g.tops xs) (sym h.rows) (tops_later v.rows h.more g.tops xs g.stand)) h.stand;
}

pub found_as : (xs ys : List Shape) (u w : Walk) → xs ≡ ys → Found xs u w → Found ys u w
found_as xs ys u w is h = subst (λ zs. Found zs u w) is h

-- what a top begins, it begins later
pub top_stays : (xs : List Shape) (u w : Walk) (top : ℕ) (shape : Shape) → Found xs u w → IsTop u.rows top shape → IsTop w.rows top shape
top_stays xs u w top shape h is = subst (λ rows. IsTop rows top shape) (sym h.rows) (is_top_later u.rows h.more top shape is)

pub one_found : (w v : Walk) (top : ℕ) (shape : Shape) → IsTop w.rows top shape → v.rows ≡ w.rows → v.found.items ≡ w.found.items ++ top ∷ []
    → Found (shape ∷ []) w v
one_found w v top shape is rows found = record {
  more = [];
  rows = rows ∙ sym (append-nil w.rows);
  tops = top ∷ [];
  found = found;
  stand = (subst (λ r. IsTop r top shape) (sym rows) is, tt);
}

-- ---- lists of parts

in_all-append : (xs ys : List Inside) (shape : Shape) → in_all (xs ++ ys) shape ≡ in_all xs shape ++ in_all ys shape
in_all-append [] ys shape = refl
in_all-append (x ∷ xs) ys shape = ap (λ z. x shape ++ z) (in_all-append xs ys shape) ∙ sym (append_assoc (x shape) (in_all xs shape) (in_all ys shape))

pub one_more : {A : Type 0} (inside : A → Inside) (xs : List A) (i : ℕ) (x : A) (shape : Shape) → i < length xs → x ≡ get_or xs i x
    → in_all (map inside (take i xs)) shape ++ inside x shape ≡ in_all (map inside (take (i + 1) xs)) shape
one_more inside xs i x shape h is =
    sym (ap (λ ys. in_all (map inside ys) shape) (take_more xs i x h ∙ ap (λ y. take i xs ++ y ∷ []) (sym is))
    ∙ ap (λ ys. in_all ys shape) (map-append inside (take i xs) (x ∷ []))
    ∙ in_all-append (map inside (take i xs)) (inside x ∷ []) shape
    ∙ ap (λ z. in_all (map inside (take i xs)) shape ++ z) (append-nil (inside x shape)))

-- ---- all units, one after the other

pub nothing_more : (u v : Walk) → Found [] u v → v.found.items ≡ u.found.items
nothing_more u v h = h.found ∙ (ap (λ ts. u.found.items ++ ts) (none h.tops h.stand) ∙ append-nil u.found.items)
  where
    none : (ts : List ℕ) → AllZip (IsTop v.rows) ts [] → ts ≡ []
    none [] k = refl
    none (t ∷ ts) k = absurd k

pub firsts : (rows : List Shape) (tops : List ℕ) (shapes : List Shape) → AllZip (IsTop rows) tops shapes
    → IsTop rows (slice_index tops 0) (first_shape shapes) × AllZip (IsTop rows) (drop 1 tops) (other_shapes shapes)
firsts rows [] [] h = ((omega arith, refl), tt)
firsts rows [] (sh ∷ shapes) h = absurd h
firsts rows (t ∷ tops) [] h = absurd h
firsts rows (t ∷ tops) (sh ∷ shapes) h = (h.0, h.1)

pub zip_shapes : (rows : List Shape) (tops : List ℕ) (shapes : List Shape) → AllZip (IsTop rows) tops shapes → map (shape_at rows) tops ≡ shapes
zip_shapes rows [] [] h = refl
zip_shapes rows [] (sh ∷ shapes) h = absurd h
zip_shapes rows (t ∷ tops) [] h = absurd h
zip_shapes rows (t ∷ tops) (sh ∷ shapes) h = (λ i. h.0.1 i ∷ zip_shapes rows tops shapes h.1 i)

-- where a walk over units is: the tops of those before, and of those that wait, the last one first
abbrev pub Underway : Walk → (tops waiting : List ℕ) → (left : List TestUnit) → (whole : List Shape) → Type 0
Underway w tops waiting left whole =
    (before : List Shape) × (later : List Shape) × AllZip (IsTop w.rows) tops before × AllZip (IsTop w.rows) (reverse waiting) later
    × (before ++ shapes_from later left ≡ whole) × (w.found.items ≡ [])

pub unit_turn : (u v w : Walk) (tops tops' waiting taken waiting' : List ℕ) (top : ℕ) (us : List TestUnit) (i : ℕ) (x : TestUnit) (whole : List Shape)
    → i < length us → x ≡ get_or us i x → Underway u tops waiting (drop i us) whole → top ≡ slice_index (reverse waiting) 0
    → reverse taken ≡ drop 1 (reverse waiting) → tops' ≡ tops ++ top ∷ [] → Found (in_unit x (shape_at u.rows top)) u v
    → waiting' ≡ taken ++ reverse v.found.items → w.rows ≡ v.rows → w.found.items ≡ [] → Underway w tops' waiting' (drop (i + 1) us) whole
unit_turn u v w tops tops' waiting taken waiting' top us i x whole h is so first rest more found waits rows none =
    let at = firsts u.rows (reverse waiting) so.1 so.3 in
    let sh = first_shape so.1 in
    let here : shape_at u.rows top ≡ sh = ap (shape_at u.rows) first ∙ at.0.1 in
    let inside = in_unit x sh in
    let seen : Found inside u v = found_as (in_unit x (shape_at u.rows top)) inside u v (ap (in_unit x) here) found in
    let later : List ℕ → List Shape → Type 0 = λ ts xs. AllZip (IsTop w.rows) ts xs in
    let grown : (ts : List ℕ) (xs : List Shape) → AllZip (IsTop u.rows) ts xs → AllZip (IsTop w.rows) ts xs
    = λ ts xs k. subst (λ r. AllZip (IsTop r) ts xs) (sym (rows ∙ seen.rows)) (tops_later u.rows seen.more ts xs k) in
    let new : AllZip (IsTop w.rows) seen.tops inside = subst (λ r. AllZip (IsTop r) seen.tops inside) (sym rows) seen.stand in
    let all_tops : v.found.items ≡ seen.tops = seen.found ∙ ap (λ ts. ts ++ seen.tops) so.5 in
    let turned : reverse waiting' ≡ seen.tops ++ drop 1 (reverse waiting)
    = ap reverse waits ∙ reverse-append taken (reverse v.found.items)
    ∙ (λ j. (reverse-reverse v.found.items ∙ all_tops) j ++ rest j) in
    let left : drop i us ≡ x ∷ drop (suc i) us = drop-cons us i x h ∙ ap (λ y. y ∷ drop (suc i) us) (sym is) in
    let next : i + 1 ≡ suc i = omega arith in (
      so.0 ++ sh ∷ [],
      inside ++ other_shapes so.1,
      subst (λ ts. AllZip (IsTop w.rows) ts (so.0 ++ sh ∷ [])) (sym more)
          (zip_append (IsTop w.rows) tops so.0 (top ∷ []) (sh ∷ []) (grown tops so.0 so.2)
          (grown (top ∷ []) (sh ∷ []) (subst (λ n. IsTop u.rows n sh) (sym first) at.0, tt))),
      subst (λ ts. AllZip (IsTop w.rows) ts (inside ++ other_shapes so.1)) (sym turned)
          (zip_append (IsTop w.rows) seen.tops inside (drop 1 (reverse waiting)) (other_shapes so.1) new (grown (drop 1 (reverse waiting)) (other_shapes so.1) at.1)),
      append_assoc so.0 (sh ∷ []) (shapes_from (inside ++ other_shapes so.1) (drop (i + 1) us))
          ∙ ap (λ n. so.0 ++ sh ∷ shapes_from (inside ++ other_shapes so.1) (drop n us)) next
          ∙ sym (ap (λ ys. so.0 ++ shapes_from so.1 ys) left)
          ∙ so.4,
      none,
    )

pub units_done : (w : Walk) (tops waiting : List ℕ) (left : List TestUnit) (whole : List Shape) → left ≡ [] → Underway w tops waiting left whole
    → map (shape_at w.rows) tops ≡ whole
units_done w tops waiting left whole none so =
    zip_shapes w.rows tops so.0 so.2 ∙ sym (append-nil so.0) ∙ sym (ap (λ ys. so.0 ++ shapes_from so.1 ys) none) ∙ so.4

pub first_underway : (w : Walk) (tops waiting old : List ℕ) (first : ℕ) (us : List TestUnit) → tops ≡ [] → waiting ≡ old ++ first ∷ [] → old ≡ []
    → IsTop w.rows first outermost_shape → w.found.items ≡ [] → Underway w tops waiting us (shapes_of us)
first_underway w tops waiting old first us none one empty begins found =
    let waits : waiting ≡ first ∷ [] = one ∙ ap (λ ts. ts ++ first ∷ []) empty in (
      [],
      outermost_shape ∷ [],
      subst (λ ts. AllZip (IsTop w.rows) ts []) (sym none) tt,
      subst (λ ts. AllZip (IsTop w.rows) (reverse ts) (outermost_shape ∷ [])) (sym waits) (begins, tt),
      refl,
      found,
    )
