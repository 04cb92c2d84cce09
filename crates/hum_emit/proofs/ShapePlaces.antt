-- Where the units of a part and their shapes stand among all, and how a scope stands for a shape.
use Rattle.std.proofs.Common.{◌≡◌, refl, ap, sym, subst, ◌∙◌, ℕ, zero, suc, ◌+◌, Bool, true, false, List, [], ◌∷◌, ◌++◌, length, Option, Some, None, arith, slice_get, length-append, append_assoc}
use Rattle.std.specs.Prelude.{◌≤◌, ◌<◌, if◌then◌else◌}
use Rattle.std.specs.Str.{bytes_eq}
use Rattle.std.proofs.lemmas.List.{append-nil, map-append, length-map}
use Rattle.hum_core.specs.declared.slot.Slot.{Slot}
use Rattle.hum_core.specs.declared.resolved.CoreUnit.{CoreUnit}
use Rattle.hum_core.specs.declared.tested.TestUnit.{TestUnit}
use Rattle.hum_meaning.specs.Named.{Name}
use Rattle.hum_meaning.specs.Scope.{most_bindings}
use Rattle.hum_core.specs.Numbered.{Code, Opening, Of}
use Rattle.hum_core.specs.Alike.{One, Many, with_marks, Each}
use Rattle.hum_core.specs.Agreement.{Names, newest, further, next_place, place, in_group, slot_of}
use Rattle.hum_core.specs.Units.{Scope}
use Rattle.hum_core.specs.Lists.{tested_unit, tested}
use Rattle.hum_core.proofs.ScopedNames.{Sees}
use Rattle.hum_code.specs.Layout.{Single, Several, Shape, with_singles}
use Rattle.hum_emit.specs.Shapes.{in_unit, shapes_from, FunctionIn, SlotFits, UnitFits, fits_to}
use Rattle.hum_emit.proofs.Walking.{Walks, walked_both}

-- ---- places in a list

module _ {A : Type 0} (all : List A) where
  -- these stand in the list from the number n on
  abbrev pub StandAt : ℕ → List A → Type 0
  StandAt n [] = Unit {0}
  StandAt n (x ∷ xs) = (slice_get all n ≡ Some x) × StandAt (suc n) xs

  pub stand_parts : (n m : ℕ) (xs ys : List A) → n + length xs ≡ m → StandAt n (xs ++ ys) → StandAt n xs × StandAt m ys
  stand_parts n m [] ys e h = (tt, subst (λ k. StandAt k ys) (omega (arith, e)) h)
  stand_parts n m (x ∷ xs) ys e h = let more = stand_parts (suc n) m xs ys (omega (arith, e)) h.1 in ((h.0, more.0), more.1)

at_end : {A : Type 0} (before : List A) (x : A) (own : List A) (n : ℕ) → length before ≡ n → slice_get (before ++ x ∷ own) n ≡ Some x
at_end [] x own n e = subst (λ k. slice_get (x ∷ own) k ≡ Some x) e refl
at_end (y ∷ before) x own n e = subst (λ k. slice_get (y ∷ before ++ x ∷ own) k ≡ Some x) e (at_end before x own (length before) refl)

all_stand : {A : Type 0} (before own : List A) (n : ℕ) → length before ≡ n → StandAt (before ++ own) n own
all_stand before [] n e = tt
all_stand before (x ∷ own) n e =
    let count : length (before ++ x ∷ []) ≡ suc n = omega (arith, length-append before (x ∷ []), e) in
    (at_end before x own n e, subst (λ all. StandAt all (suc n) own) (append_assoc before (x ∷ []) own) (all_stand (before ++ x ∷ []) own (suc n) count))

pub themselves : {A : Type 0} (all : List A) → StandAt all 0 all
themselves all = all_stand [] all 0 refl

pub as_many : (us : List TestUnit) (found : List Shape) → length (shapes_from found us) ≡ length us
as_many [] found = refl
as_many (u ∷ us) found = ap suc (as_many us _)

each_append : {A B : Type 0} (R : A → B → Type 0) (as' : List A) (bs : List B) (cs : List A) (ds : List B) → Each R as' bs → Each R cs ds
    → Each R (as' ++ cs) (bs ++ ds)
each_append R [] [] cs ds h k = k
each_append R (a ∷ as') (b ∷ bs) cs ds h k = (h.0, each_append R as' bs cs ds h.1 k)
each_append R [] (b ∷ bs) cs ds h k = absurd h
each_append R (a ∷ as') [] cs ds h k = absurd h

-- ---- units and their shapes

module _ (units : List TestUnit) (shapes : List Shape) where
  -- the units stand among all from the number n on, and the shapes with which the walk finds them
  pub record Here (n : ℕ) (us : List CoreUnit) (found : List Shape) : Type 0 where
    pub units_at : StandAt units n (tested us)
    pub shapes_at : StandAt shapes n (shapes_from found (tested us))

  pub here_parts : (n size : ℕ) (us vs : List CoreUnit) (f g : List Shape) → length us ≡ size → Walks us f → Here n (us ++ vs) (f ++ g)
      → Here n us f × Here (n + size) vs g
  here_parts n size us vs f g e w h =
      let counted : length (tested us) ≡ size = length-map us tested_unit ∙ e in
      let a = stand_parts units n (n + size) (tested us) (tested vs) (ap (λ k. n + k) counted) (subst (StandAt units n) (map-append tested_unit us vs) h.units_at) in
      let b = stand_parts shapes n (n + size) (shapes_from f (tested us)) (shapes_from g (tested vs)) (ap (λ k. n + k) (as_many (tested us) f ∙ counted))
      (subst (StandAt shapes n) (walked_both us vs f g w) h.shapes_at) in
      (record { units_at = a.0; shapes_at = b.0 }, record { units_at = a.1; shapes_at = b.1 })

  pub here_as : (n : ℕ) (us : List CoreUnit) (f g : List Shape) → f ≡ g → Here n us f → Here n us g
  here_as n us f g e h = subst (Here n us) e h

  pub record AtUnit (n : ℕ) (u : CoreUnit) (us : List CoreUnit) (shape : Shape) : Type 0 where
    pub is : slice_get units n ≡ Some (tested_unit u)
    pub stands : slice_get shapes n ≡ Some shape
    pub inside : Here (suc n) us (in_unit (tested_unit u) shape)

  pub here_unit : (n : ℕ) (u : CoreUnit) (us : List CoreUnit) (shape : Shape) → Here n (u ∷ us) (shape ∷ []) → AtUnit n u us shape
  here_unit n u us shape h = record {
    is = h.units_at.0;
    stands = h.shapes_at.0;
    inside = record {
      units_at = h.units_at.1;
      shapes_at = subst (λ f. StandAt shapes (suc n) (shapes_from f (tested us))) (append-nil (in_unit (tested_unit u) shape)) h.shapes_at.1;
    };
  }

  -- each of these units fits in the shape with which the walk finds it
  pub record AllFit (m : ℕ) (us : List CoreUnit) (found : List Shape) : Type 0 where
    pub each : Each (UnitFits units shapes (fits_to units shapes m)) (tested us) (shapes_from found (tested us))

  pub none_fit : (m : ℕ) → AllFit m [] []
  none_fit m = record { each = tt }

  pub fit_both : (m : ℕ) (us vs : List CoreUnit) (f g : List Shape) → Walks us f → AllFit m us f → AllFit m vs g → AllFit m (us ++ vs) (f ++ g)
  fit_both m us vs f g w h k =
      let R = UnitFits units shapes (fits_to units shapes m) in
      record {
        each = subst (λ x. Each R x (shapes_from (f ++ g) (tested (us ++ vs)))) (sym (map-append tested_unit us vs))
            (subst (Each R (tested us ++ tested vs)) (sym (walked_both us vs f g w)) (each_append R _ _ _ _ h.each k.each));
      }

  pub fit_unit : (m : ℕ) (u : CoreUnit) (us : List CoreUnit) (shape : Shape) → UnitFits units shapes (fits_to units shapes m) (tested_unit u) shape
      → AllFit m us (in_unit (tested_unit u) shape) → AllFit m (u ∷ us) (shape ∷ [])
  fit_unit m u us shape h k = record { each = (h, (subst (AllFit m us) (sym (append-nil (in_unit (tested_unit u) shape))) k).each) }

  pub fit_as : (m : ℕ) (us : List CoreUnit) (f g : List Shape) → f ≡ g → AllFit m us g → AllFit m us f
  fit_as m us f g e h = subst (AllFit m us) (sym e) h

  -- ---- scopes

  -- these names are those of functions that stand in a shape
  abbrev pub MembersFit : Shape → List Name → List Code → Type 0
  MembersFit whole [] [] = Unit {0}
  MembersFit whole (name ∷ names) (Of u ∷ codes) = FunctionIn units shapes whole u × MembersFit whole names codes
  MembersFit whole _ _ = ⊥

  -- entry by entry
  abbrev pub ScopeFits : Scope → Shape → Type 0
  ScopeFits [] [] = Unit {0}
  ScopeFits (One name ∷ scope) (Single ∷ shape) = ScopeFits scope shape
  ScopeFits (Many names ∷ scope) (Several codes ∷ shape) = MembersFit (Several codes ∷ shape) names codes × ScopeFits scope shape
  ScopeFits _ _ = ⊥

  pub scope_singles : (names : Names) (scope : Scope) (shape : Shape) → ScopeFits scope shape
      → ScopeFits (with_marks names scope) (with_singles (length names) shape)
  scope_singles [] scope shape h = h
  scope_singles (name ∷ names) scope shape h = scope_singles names scope shape h

  -- ---- slots

  abbrev SlotIn : Shape → Option Slot → Type 0
  SlotIn shape (Some slot) = SlotFits units shapes shape slot.back slot.member × (slot.back < length shape)
  SlotIn shape None = Unit {0}

  abbrev PlaceIn : Shape → List Code → Option ℕ → Type 0
  PlaceIn whole codes (Some k) = (u : ℕ) × (slice_get codes k ≡ Some (Of u)) × FunctionIn units shapes whole u
  PlaceIn whole codes None = Unit {0}

  first_or : (b : Bool) (whole : Shape) (u : ℕ) (codes : List Code) (k : Option ℕ) → FunctionIn units shapes whole u → PlaceIn whole codes k
      → PlaceIn whole (Of u ∷ codes) (if b then Some 0 else next_place k)
  first_or true whole u codes k f h = (u, refl, f)
  first_or false whole u codes (Some k) f h = h
  first_or false whole u codes None f h = tt

  placed : (whole : Shape) (names : List Name) (codes : List Code) (x : Name) → MembersFit whole names codes → PlaceIn whole codes (place names x)
  placed whole [] [] x h = tt
  placed whole (name ∷ names) (Of u ∷ codes) x h = first_or (bytes_eq name x) whole u codes (place names x) h.0 (placed whole names codes x h.1)
  placed whole [] (c ∷ codes) x h = absurd h
  placed whole (name ∷ names) [] x h = absurd h
  placed whole (name ∷ names) (Opening ∷ codes) x h = absurd h

  behind_single : (shape : Shape) (back : ℕ) (member : Option ℕ) → SlotFits units shapes shape back member
      → SlotFits units shapes (Single ∷ shape) (suc back) member
  behind_single shape back None h = h
  behind_single shape back (Some k) h = h

  behind_group : (codes : List Code) (shape : Shape) (back : ℕ) (member : Option ℕ) → SlotFits units shapes shape back member
      → SlotFits units shapes (Several codes ∷ shape) (suc back) member
  behind_group codes shape back None h = h
  behind_group codes shape back (Some k) h = h

  new_or : (b : Bool) (shape : Shape) (slot : Option Slot) → SlotIn shape slot → SlotIn (Single ∷ shape) (if b then Some newest else further slot)
  new_or true shape slot h = (tt, omega arith)
  new_or false shape (Some slot) h = (behind_single shape slot.back slot.member h.0, omega (arith, h.1))
  new_or false shape None h = tt

  member_or : (codes : List Code) (shape : Shape) (k : Option ℕ) (slot : Option Slot) → PlaceIn (Several codes ∷ shape) codes k → SlotIn shape slot
      → SlotIn (Several codes ∷ shape) (in_group k slot)
  member_or codes shape (Some k) slot h g = (h, omega arith)
  member_or codes shape None (Some slot) h g = (behind_group codes shape slot.back slot.member g.0, omega (arith, g.1))
  member_or codes shape None None h g = tt

  pub slot_in : (scope : Scope) (shape : Shape) (x : Name) → ScopeFits scope shape → SlotIn shape (slot_of scope x)
  slot_in [] [] x h = tt
  slot_in (One name ∷ scope) (Single ∷ shape) x h = new_or (bytes_eq name x) shape (slot_of scope x) (slot_in scope shape x h)
  slot_in (Many names ∷ scope) (Several codes ∷ shape) x h =
      member_or codes shape (place names x) (slot_of scope x) (placed (Several codes ∷ shape) names codes x h.0) (slot_in scope shape x h.1)
  slot_in [] (entry ∷ shape) x h = absurd h
  slot_in (One name ∷ scope) [] x h = absurd h
  slot_in (One name ∷ scope) (Several codes ∷ shape) x h = absurd h
  slot_in (Many names ∷ scope) [] x h = absurd h
  slot_in (Many names ∷ scope) (Single ∷ shape) x h = absurd h

  -- a slot that is found
  pub slot_fits : (scope : Scope) (shape : Shape) (x : Name) (slot : Slot) → ScopeFits scope shape → slot_of scope x ≡ Some slot
      → SlotFits units shapes shape slot.back slot.member × (slot.back < length shape)
  slot_fits scope shape x slot h e = subst (SlotIn shape) e (slot_in scope shape x h)

  -- ---- where a part stands

  -- The scope stands for the shape, each name that is seen has a slot, and there are not more entries than names, nor than there may be.
  pub record Ready (scope : Scope) (shape : Shape) (seen : Names) : Type 0 where
    pub fits : ScopeFits scope shape
    pub sees : Sees scope seen
    pub few : length shape ≤ length seen
    pub bounded : length shape ≤ most_bindings

pub singles_more : (n : ℕ) (shape : Shape) → length (with_singles n shape) ≡ n + length shape
singles_more zero shape = omega arith
singles_more (suc n) shape = omega (arith, singles_more n shape)
