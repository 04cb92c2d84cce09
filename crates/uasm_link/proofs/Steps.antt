-- Steps of walks that number names.
use Rattle.std.proofs.Common.{◌≡◌, ℕ, ◌+◌, Bool, true, false, List, [], ◌∷◌, length, Option, Some, None, refl, sym, ap, ◌∙◌, subst, inl, inr}
use Rattle.std.specs.Prelude.{◌||◌, not, cond, if◌then◌else◌, is_some}
use Rattle.std.specs.List.{list_all}
use Rattle.std.specs.Option.{option_or}
use Rattle.std.specs.Str.{bytes_eq}
use Rattle.std.proofs.lemmas.Bool.{and_parts, or_cases, cond-true, cond-false}
use Rattle.std.proofs.lemmas.Cmp.{nat_list_eq_equiv}
use Rattle.std.proofs.lemmas.Slice.Eq.{bytes_eq-Decides}
use Rattle.std.proofs.lemmas.List.Folds.{list_any-append}
use Rattle.uasm_read.specs.declared.item.Item.{Item}
use Rattle.uasm_read.specs.Texts.{Name, has_name}
use Rattle.uasm_read.specs.Modules.{ModuleParts, labels_in, are_items, is_module}
use Rattle.uasm_read.specs.Links.{label_number, export_number, count_of_items}

-- ---- one name put

put_cases : (asked : Bool) (key other : Name) (f g : Name → Option ℕ) (v : ℕ) → bytes_eq key other ≡ asked → g other ≡ cond (bytes_eq key other) (Some v) (f other) → f key ≡ None
    → g other ≡ option_or (f other) (if bytes_eq other key then Some v else None)
put_cases true key other f g v e put absent =
    let same : key ≡ other = (bytes_eq-Decides key other).0 e in
    put ∙ cond-true (bytes_eq key other) _ _ e ∙ sym (rw (ap f (sym same) ∙ absent, nat_list_eq_equiv.symm other key, e) refl)
put_cases false key other f g v e put absent =
    put ∙ cond-false (bytes_eq key other) _ _ e ∙ sym (rw (nat_list_eq_equiv.symm other key, e) (or_none (f other)))
  where
    or_none : (o : Option ℕ) → option_or o None ≡ o
    or_none None = refl
    or_none (Some x) = refl

pub was_put : (key : Name) (f g : Name → Option ℕ) (v : ℕ) → ((other : Name) → g other ≡ cond (bytes_eq key other) (Some v) (f other)) → f key ≡ None
    → (other : Name) → g other ≡ option_or (f other) (if bytes_eq other key then Some v else None)
was_put key f g v put absent other = put_cases (bytes_eq key other) key other f g v refl (put other) absent

-- ---- names put one after the other

self_or : (o : Option ℕ) → option_or o o ≡ o
self_or None = refl
self_or (Some x) = refl

or_nothing : (o : Option ℕ) → option_or o None ≡ o
or_nothing None = refl
or_nothing (Some x) = refl

pub step_or : (old new number : Option ℕ) (key more : Bool) → new ≡ option_or old (if key then number else None)
    → option_or new (if more then number else None) ≡ option_or old (if key || more then number else None)
step_or (Some x) new number key more e = rw e refl
step_or None new number true true e = rw e (self_or number)
step_or None new number true false e = rw e (or_nothing number)
step_or None new number false more e = rw e refl

pub step_if : (old new : Option ℕ) (b : Bool) (v : ℕ) (more : Option ℕ) → new ≡ option_or old (if b then Some v else None) → option_or new more ≡ option_or old (if b then Some v else more)
step_if (Some x) new b v more e = rw e refl
step_if None new true v more e = rw e refl
step_if None new false v more e = rw e refl

pub step_some : (old new number : Option ℕ) (b : Bool) (more : Option ℕ) → new ≡ option_or old (if b then number else None) → (b ≡ true → is_some number ≡ true)
    → option_or new more ≡ option_or old (if b then number else more)
step_some (Some x) new number b more e some = rw e refl
step_some None new (Some v) true more e some = rw e refl
step_some None new None true more e some = absurd (let no : false ≡ true = some refl in cc)
step_some None new number false more e some = rw e refl

-- ---- what is exported has a number

some_if : (b : Bool) (v : ℕ) (o : Option ℕ) → (b || is_some o) ≡ true → is_some (if b then Some v else o) ≡ true
some_if true v o h = refl
some_if false v o h = h

or_less : (b c d : Bool) → (c ≡ true → d ≡ true) → (b || c) ≡ true → (b || d) ≡ true
or_less true c d more h = refl
or_less false c d more h = more h

pub label_found : (at : ℕ) (items : List Item) (name : Name) → has_name (labels_in items) name ≡ true → is_some (label_number at items name) ≡ true
unfolding label_number
label_found at [] name h = absurd (let no : false ≡ true = h in cc)
label_found at (item ∷ items) name h =
    some_if (has_name item.labels name) at (label_number (at + 1) items name)
    (or_less (has_name item.labels name) (has_name (labels_in items) name) _ (label_found (at + 1) items name) (sym (list_any-append (bytes_eq name) item.labels (labels_in items)) ∙ h))

pub any_passes : (p : Name → Bool) (names : List Name) (name : Name) → list_all p names ≡ true → has_name names name ≡ true → p name ≡ true
any_passes p [] name each h = absurd (let no : false ≡ true = h in cc)
any_passes p (other ∷ names) name each h =
    let parts = and_parts (p other) _ each in
    elim (or_cases (bytes_eq name other) (has_name names name) h) [
      | inl here ↦ subst (λ n. p n ≡ true) (sym ((bytes_eq-Decides name other).0 here)) parts.0
      | inr more ↦ any_passes p names name parts.1 more
    ]

pub record Kept (m : ModuleParts) : Type 0 where
  pub exports : list_all (has_name (labels_in m.items)) m.exports ≡ true
  pub items : are_items m.items ≡ true

pub module_kept : (m : ModuleParts) → is_module m ≡ true → Kept m
unfolding is_module
module_kept m h =
    let last = and_parts _ (are_items m.items) h in
    let used = and_parts _ _ last.0 in
    let exported = and_parts _ (list_all (has_name (labels_in m.items)) m.exports) used.0 in
    record { exports = exported.1; items = last.1 }

pub export_found : (at : ℕ) (m : ModuleParts) (name : Name) → is_module m ≡ true → has_name m.exports name ≡ true → is_some (label_number at m.items name) ≡ true
export_found at m name kept h = label_found at m.items name (any_passes (has_name (labels_in m.items)) m.exports name (module_kept m kept).exports h)

-- ---- fronts

pub label_front : (at : ℕ) (rest : List Item) (item : Item) (more : List Item) (name : Name) → rest ≡ item ∷ more → label_number at rest name ≡ (if has_name item.labels name then Some at else label_number (at + 1) more name)
unfolding label_number
label_front at rest item more name split = ap (λ r. label_number at r name) split

pub export_front : (at : ℕ) (rest : List ModuleParts) (m : ModuleParts) (more : List ModuleParts) (name : Name) → rest ≡ m ∷ more
    → export_number at rest name ≡ (if has_name m.exports name then label_number at m.items name else export_number (at + length m.items) more name)
unfolding export_number
export_front at rest m more name split = ap (λ r. export_number at r name) split

pub count_front : (rest : List ModuleParts) (m : ModuleParts) (more : List ModuleParts) → rest ≡ m ∷ more → count_of_items rest ≡ length m.items + count_of_items more
unfolding count_of_items
count_front rest m more split = ap count_of_items split

pub no_label : (at : ℕ) (name : Name) → label_number at [] name ≡ None
unfolding label_number
no_label at name = refl

pub no_export : (at : ℕ) (name : Name) → export_number at [] name ≡ None
unfolding export_number
no_export at name = refl

pub no_count : count_of_items [] ≡ 0
unfolding count_of_items
no_count = refl

pub none_of : {X : Type 0} (o : Option X) → is_some o ≡ false → o ≡ None
none_of None h = refl
none_of (Some x) h = absurd (let no : true ≡ false = h in cc)

pub not_true : (b : Bool) → not b ≡ false → b ≡ true
not_true true h = refl
not_true false h = sym h

pub not_false : (b : Bool) → not b ≡ true → b ≡ false
not_false true h = sym h
not_false false h = refl
