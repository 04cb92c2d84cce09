-- The entries in sight of an expression, the newest first.
use Rattle.std.proofs.Common.{◌≡◌, refl, sym, ap, ◌∙◌, arith, ℕ, zero, suc, ◌+◌, ◌-◌, ◌<◌, ◌≤◌, List, [], ◌∷◌, map, length, reverse, get_or, Option, Some, None}
use Rattle.std.specs.Prelude.{slice_get}
use Rattle.std.proofs.lemmas.List.{length-reverse, get_or-reverse, length-map}
use Rattle.std.proofs.lemmas.Option.{slice_get-get_or}
use Rattle.hum_code.specs.Layout.{Kind, Single, Several, Shape, with_singles}
use Rattle.hum_emit.specs.declared.shape.Entry.{Entry}
use Rattle.hum_emit.specs.Templates.{member_unit}
use Rattle.hum_emit.specs.Shaping.{kind_of, unit_in}

-- ---- one of them

-- the unit of a member of an entry, if there is one
abbrev unit_of_entry : Option Kind → (member : ℕ) → ℕ
unit_of_entry None member = 0
unit_of_entry (Some kind) member = unit_in kind member

entry_unit : (shape : Shape) (back member : ℕ) → member_unit shape back member ≡ unit_of_entry (slice_get shape back) member
entry_unit [] back member = refl
entry_unit (Single ∷ shape) zero member = refl
entry_unit (Several codes ∷ shape) zero member = refl
entry_unit (Single ∷ shape) (suc back) member = entry_unit shape back member
entry_unit (Several codes ∷ shape) (suc back) member = entry_unit shape back member

pub unit_inside : (inner : ℕ) (shape : Shape) (back member : ℕ) → back < inner → 0 ≡ member_unit (with_singles inner shape) back member
unit_inside zero shape back member h = absurd (omega (arith, h))
unit_inside (suc inner) shape zero member h = refl
unit_inside (suc inner) shape (suc back) member h = unit_inside inner shape back member (omega (arith, h))

unit_outside : (inner : ℕ) (shape : Shape) (back member : ℕ) → inner ≤ back
    → member_unit (with_singles inner shape) back member ≡ member_unit shape (back - inner) member
unit_outside zero shape back member h = ap (λ b. member_unit shape b member) (let same : back ≡ back - 0 = omega arith in same)
unit_outside (suc inner) shape zero member h = absurd (omega (arith, h))
unit_outside (suc inner) shape (suc back) member h =
    unit_outside inner shape back member (omega (arith, h)) ∙ ap (λ b. member_unit shape b member) (let same : back - inner ≡ suc back - suc inner = omega arith in same)

pub more_singles : (inner count : ℕ) (shape : Shape) → with_singles (inner + count) shape ≡ with_singles count (with_singles inner shape)
more_singles inner zero shape = ap (λ n. with_singles n shape) (let same : inner + 0 ≡ inner = omega arith in same)
more_singles inner (suc count) shape =
    ap (λ n. with_singles n shape) (let same : inner + suc count ≡ suc (inner + count) = omega arith in same) ∙ ap (λ sh. Single ∷ sh) (more_singles inner count shape)

get_past : {X : Type 0} (xs : List X) (i : ℕ) → length xs ≤ i → slice_get xs i ≡ None
get_past [] i h = refl
get_past (x ∷ xs) zero h = absurd (omega (arith, h))
get_past (x ∷ xs) (suc i) h = get_past xs i (omega (arith, h))

pub unit_past : (inner : ℕ) (es : List Entry) (back member : ℕ) → inner ≤ back → length es ≤ back - inner
    → 0 ≡ member_unit (with_singles inner (reverse (map kind_of es))) back member
unit_past inner es back member h past =
    let shape = reverse (map kind_of es) in
    let long = length-reverse (map kind_of es) in
    let all = length-map es kind_of in
    sym (unit_outside inner shape back member h ∙ entry_unit shape (back - inner) member
    ∙ ap (λ o. unit_of_entry o member) (get_past shape (back - inner) (omega (arith, long, all, past))))

get_map : {X Y : Type 0} (f : X → Y) (xs : List X) (i : ℕ) (d : X) → i < length xs → get_or (map f xs) i (f d) ≡ f (get_or xs i d)
get_map f [] i d h = refl
get_map f (x ∷ xs) zero d h = refl
get_map f (x ∷ xs) (suc i) d h = get_map f xs i d (omega (arith, h))

pub unit_at : (inner : ℕ) (es : List Entry) (back member : ℕ) (d : Entry) → inner ≤ back → back - inner < length es
    → unit_in (kind_of (get_or es (length es - 1 - (back - inner)) d)) member ≡ member_unit (with_singles inner (reverse (map kind_of es))) back member
unit_at inner es back member d h within =
    let shape = reverse (map kind_of es) in
    let long = length-reverse (map kind_of es) in
    let all = length-map es kind_of in
    let i = back - inner in
    let here : slice_get shape i ≡ Some (kind_of (get_or es (length es - 1 - i) d))
    = slice_get-get_or shape i (kind_of d) (omega (arith, long, all, within))
    ∙ ap Some (get_or-reverse (map kind_of es) i (kind_of d) (omega (arith, all, within))
    ∙ (get_map kind_of es (length (map kind_of es) - 1 - i) d (omega (arith, all, within))
    ∙ ap kind_of (ap (λ n. get_or es n d) (let same : length (map kind_of es) - 1 - i ≡ length es - 1 - i = omega (arith, all) in same)))) in
    sym (unit_outside inner shape back member h ∙ entry_unit shape i member ∙ ap (λ o. unit_of_entry o member) here)
