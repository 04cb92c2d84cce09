-- Each name that is seen has a slot.
use Rattle.std.proofs.Common.{◌≡◌, refl, sym, ◌∙◌, ℕ, Bool, true, false, ◌||◌, [], ◌∷◌, ◌++◌, Option, Some, None}
use Rattle.std.specs.Prelude.{if◌then◌else◌, is_none}
use Rattle.std.specs.Str.{bytes_eq}
use Rattle.std.specs.List.{list_all}
use Rattle.std.proofs.lemmas.Bool.{and_parts}
use Rattle.std.proofs.lemmas.Bool.Decides.{same_from_decides}
use Rattle.std.proofs.lemmas.List.Folds.{list_all-append, list_any-append}
use Rattle.std.proofs.lemmas.Slice.Eq.{bytes_eq-Decides}
use Rattle.hum_core.specs.declared.slot.Slot.{Slot}
use Rattle.hum_meaning.specs.declared.cause.ScopeCause.{ScopeCause}
use Rattle.hum_meaning.specs.declared.cause.ScopeCause.TheVariants.{Unbound}
use Rattle.hum_meaning.specs.Named.{Name}
use Rattle.hum_meaning.specs.Scope.{Names, Verdicts, has, used}
use Rattle.hum_core.specs.Alike.{One, Many, with_marks}
use Rattle.hum_core.specs.Agreement.{newest, further, next_place, place, in_group, slot_of}
use Rattle.hum_core.specs.Units.{Scope, slot_or_newest}

-- nothing is wrong with any name
pub record Fine (verdicts : Verdicts) : Type 0 where
  pub none : list_all is_none verdicts ≡ true

pub fine_parts : (us vs : Verdicts) → Fine (us ++ vs) → Fine us × Fine vs
fine_parts us vs h =
    let parts = and_parts _ _ (sym (list_all-append is_none us vs) ∙ h.none) in
    (record { none = parts.0 }, record { none = parts.1 })

pub fine_behind : (v : Option ScopeCause) (vs : Verdicts) → Fine (v ∷ vs) → Fine vs
fine_behind v vs h = record { none = (and_parts _ _ h.none).1 }

-- ---- slots

abbrev pub Found : Option Slot → Type 0
Found slot = slot ≡ Some (slot_or_newest slot)

further_found : (slot : Option Slot) → Found slot → Found (further slot)
further_found (Some slot) h = refl
further_found None h = absurd (cc)

later_found : (k : Option ℕ) (slot : Option Slot) → Found slot → Found (in_group k slot)
later_found (Some k) slot h = refl
later_found None slot h = further_found slot h

turned : (x m : Name) → bytes_eq x m ≡ bytes_eq m x
turned x m =
    let other = bytes_eq-Decides m x in
    same_from_decides _ _ (bytes_eq-Decides x m) ((λ e. sym (other.0 e)), (λ e. other.1 (sym e)))

-- a name that is one, or among others
newest_found : (a b among : Bool) (slot : Option Slot) → a ≡ b → (a || among) ≡ true → (among ≡ true → Found slot)
    → Found (if b then Some newest else further slot)
newest_found a true among slot e h k = refl
newest_found true false among slot e h k = absurd (cc)
newest_found false false among slot e h k = further_found slot (k h)

placed : (a b among : Bool) (k : Option ℕ) (slot : Option Slot) → a ≡ b → (a || among) ≡ true → (among ≡ true → Found (in_group k slot))
    → Found (in_group (if b then Some 0 else next_place k) slot)
placed a true among k slot e h g = refl
placed true false among k slot e h g = absurd (cc)
placed false false among (Some k) slot e h g = refl
placed false false among None slot e h g = g h

member_found : (names : Names) (x : Name) (slot : Option Slot) → has names x ≡ true → Found (in_group (place names x) slot)
member_found [] x slot h = absurd (cc)
member_found (m ∷ names) x slot h = placed (bytes_eq x m) (bytes_eq m x) (has names x) (place names x) slot (turned x m) h (member_found names x slot)

-- ---- scopes

-- each of the names has a slot in the scope
abbrev pub Sees : Scope → Names → Type 0
Sees scope seen = (x : Name) → has seen x ≡ true → Found (slot_of scope x)

pub nothing_seen : Sees [] []
nothing_seen x h = absurd (cc)

pub one_seen : (m : Name) (scope : Scope) (seen : Names) → Sees scope seen → Sees (One m ∷ scope) (m ∷ seen)
one_seen m scope seen h x e = newest_found (bytes_eq x m) (bytes_eq m x) (has seen x) (slot_of scope x) (turned x m) e (h x)

pub marks_seen : (names : Names) (scope : Scope) (seen : Names) → Sees scope seen → Sees (with_marks names scope) (names ++ seen)
marks_seen [] scope seen h = h
marks_seen (m ∷ names) scope seen h = one_seen m (with_marks names scope) (names ++ seen) (marks_seen names scope seen h)

-- behind a group, whose names are those of a list
pub group_seen : (group names : Names) (scope : Scope) (seen : Names) → ((x : Name) → has names x ≡ true → has group x ≡ true)
    → Sees scope seen → Sees (Many group ∷ scope) (names ++ seen)
group_seen group names scope seen among h x e = inside (has names x) refl (sym (list_any-append (bytes_eq x) names seen) ∙ e)
  where
    inside : (b : Bool) → has names x ≡ b → (b || has seen x) ≡ true → Found (in_group (place group x) (slot_of scope x))
    inside true is k = member_found group x (slot_of scope x) (among x is)
    inside false is k = later_found (place group x) (slot_of scope x) (h x k)

allowed : (b : Bool) → list_all is_none ((if b then None else Some Unbound) ∷ []) ≡ true → b ≡ true
allowed true e = refl
allowed false e = absurd (cc)

-- a use that is not refused
pub use_found : (scope : Scope) (seen : Names) (x : Name) → Sees scope seen → Fine (used seen x ∷ []) → Found (slot_of scope x)
use_found scope seen x h fine = h x (allowed (has seen x) fine.none)
