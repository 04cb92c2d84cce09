-- Where the units of a part stand among all of a tree, and what is formed of it there.
use Rattle.std.proofs.Common.{◌≡◌, refl, ap, sym, subst, ◌∙◌, ℕ, suc, Bool, true, false, List, [], ◌∷◌, ◌++◌, map, length, slice_get, Some, None, arith}
use Rattle.std.specs.Prelude.{◌+◌, nat_le, sum}
use Rattle.std.specs.List.{list_all, AllByRecursion}
use Rattle.std.proofs.Math.Path.{ap₂}
use Rattle.std.proofs.lemmas.Bool.{and_from}
use Rattle.std.proofs.lemmas.Bool.Decides.{nat_tests}
use Rattle.std.proofs.lemmas.List.{length-append}
use Rattle.std.proofs.lemmas.List.Folds.{list_all-append}
use Rattle.std.proofs.lemmas.List.Sums.{sum_by-cons}
use Rattle.hum_core.specs.declared.resolved.CoreUnit.{CoreUnit}
use Rattle.hum_core.specs.declared.resolved.CoreUnit.TheVariants as unit
use Rattle.hum_core.specs.declared.resolved.CoreStmt.{CoreStmt}
use Rattle.hum_core.specs.Formed.{is_abstraction, names_abs, names_block, is_formed_stmt, is_formed_unit}
use Rattle.hum_meaning.specs.Scope.{Binds, Function, Values, Nothing, grouped_after}
use Rattle.hum_core.specs.Alike.{with_marks}
use Rattle.hum_core.specs.Agreement.{Names}
use Rattle.hum_core.specs.Units.{Scope, Part, plain, mapped, under, in_order, numbered, OfStmt, with_binds, functions, at_statement, scope_at, scope_after, statements, block}

-- ---- where units stand among all

-- the kinds of units are those from place n on
abbrev pub StandAt : List Bool → ℕ → List CoreUnit → Type 0
StandAt kinds n [] = Unit {0}
StandAt kinds n (u ∷ us) = (slice_get kinds n ≡ Some (is_abstraction u)) × StandAt kinds (suc n) us

pub front : (kinds : List Bool) (n : ℕ) (us vs : List CoreUnit) → StandAt kinds n (us ++ vs) → StandAt kinds n us
front kinds n [] vs h = tt
front kinds n (u ∷ us) vs h = (h.0, front kinds (suc n) us vs h.1)

pub back : (kinds : List Bool) (n m : ℕ) (us vs : List CoreUnit) → n + length us ≡ m → StandAt kinds n (us ++ vs) → StandAt kinds m vs
back kinds n m [] vs e h = subst (λ k. StandAt kinds k vs) (omega (arith, e)) h
back kinds n m (u ∷ us) vs e h = back kinds (suc n) m us vs (omega (arith, e)) h.1

pub behind : (kind : Bool) (kinds : List Bool) (n : ℕ) (us : List CoreUnit) → StandAt kinds n us → StandAt (kind ∷ kinds) (suc n) us
behind kind kinds n [] h = tt
behind kind kinds n (u ∷ us) h = (h.0, behind kind kinds (suc n) us h.1)

pub themselves : (us : List CoreUnit) → StandAt (map is_abstraction us) 0 us
themselves [] = tt
themselves (u ∷ us) = (refl, behind _ _ 0 us (themselves us))

-- ---- parts

-- a part has as many units as it says; where they stand at its number they are formed, and F is so of what it becomes
pub record PartFormed {A : Type 0} (F : List Bool → A → Type 0) (a : Part A) : Type 0 where
  pub counted : (scope : Scope) (n : ℕ) → length (a.make scope n).1 ≡ a.size
  pub made : (kinds : List Bool) (scope : Scope) (n : ℕ) → StandAt kinds n (a.make scope n).1
      → F kinds (a.make scope n).0 × (list_all (is_formed_unit kinds) (a.make scope n).1 ≡ true)

pub plain_formed : {A : Type 0} (F : List Bool → A → Type 0) (f : Scope → A) → ((kinds : List Bool) (scope : Scope) → F kinds (f scope))
    → PartFormed F (plain f)
plain_formed F f h = record { counted = λ scope n. refl; made = λ kinds scope n at. (h kinds scope, refl) }

module _ {A B : Type 0} (F : List Bool → A → Type 0) (G : List Bool → B → Type 0) where
  pub mapped_formed : (f : A → B) (a : Part A) → ((kinds : List Bool) (x : A) → F kinds x → G kinds (f x)) → PartFormed F a
      → PartFormed G (mapped f a)
  mapped_formed f a go h = record {
    counted = h.counted;
    made = λ kinds scope n at. let x = h.made kinds scope n at in (go kinds _ x.0, x.1);
  }

module _ {A B C : Type 0} (F : List Bool → A → Type 0) (G : List Bool → B → Type 0) (H : List Bool → C → Type 0) where
  pub under_formed : (names : Names) (f : A → B → C) (a : Part A) (b : Part B)
      → ((kinds : List Bool) (x : A) (y : B) → F kinds x → G kinds y → H kinds (f x y)) → PartFormed F a → PartFormed G b
      → PartFormed H (under names f a b)
  under_formed names f a b go h k = record {
    counted = λ scope n.
        length-append (a.make scope n).1 (b.make (with_marks names scope) (n + a.size)).1
        ∙ ap₂ (λ i j. i + j) (h.counted scope n) (k.counted (with_marks names scope) (n + a.size));
    made = λ kinds scope n at.
        let us = (a.make scope n).1 in
        let inner = with_marks names scope in
        let vs = (b.make inner (n + a.size)).1 in
        let x = h.made kinds scope n (front kinds n us vs at) in
        let y = k.made kinds inner (n + a.size) (back kinds n _ us vs (ap (λ i. n + i) (h.counted scope n)) at) in
        (go kinds _ _ x.0 y.0, list_all-append (is_formed_unit kinds) us vs ∙ and_from _ _ x.1 y.1);
  }

-- each of a list, which has k
abbrev pub Those : {A : Type 0} → (List Bool → A → Type 0) → ℕ → List Bool → List A → Type 0
Those F k kinds xs = AllByRecursion (F kinds) xs × (length xs ≡ k)

pub in_order_formed : {A : Type 0} (F : List Bool → A → Type 0) (parts : List (Part A)) → AllByRecursion (PartFormed F) parts
    → PartFormed (Those F (length parts)) (in_order parts)
in_order_formed F [] h = plain_formed (Those F 0) (λ scope. []) (λ kinds scope. (tt, refl))
in_order_formed F (a ∷ more) h =
    under_formed F (Those F (length more)) (Those F (suc (length more))) [] (λ x xs. x ∷ xs) a (in_order more)
    (λ kinds x xs k ks. ((k, ks.0), ap suc ks.1)) h.0 (in_order_formed F more h.1)

-- a unit of one kind
abbrev pub FormedUnit : Bool → List Bool → CoreUnit → Type 0
FormedUnit kind kinds u = (is_abstraction u ≡ kind) × (is_formed_unit kinds u ≡ true)

-- a number of a unit of one kind
abbrev pub NumberOf : Bool → List Bool → ℕ → Type 0
NumberOf kind kinds k = slice_get kinds k ≡ Some kind

pub numbered_formed : (kind : Bool) (a : Part CoreUnit) → PartFormed (FormedUnit kind) a → PartFormed (NumberOf kind) (numbered a)
numbered_formed kind a h = record {
  counted = λ scope n. ap suc (h.counted scope (suc n));
  made = λ kinds scope n at.
      let u = h.made kinds scope (suc n) at.1 in
      (at.0 ∙ ap Some u.0.0, and_from _ _ u.0.1 u.1);
}

pub is_abs : (kinds : List Bool) (k : ℕ) → NumberOf true kinds k → names_abs kinds k ≡ true
is_abs kinds k h = ap (λ o. elim o [ Some kind ↦ kind | None ↦ false ]) h

pub is_block : (kinds : List Bool) (k : ℕ) → NumberOf false kinds k → names_block kinds k ≡ true
is_block kinds k h = ap (λ o. elim o [ Some true ↦ false | Some false ↦ true | None ↦ false ]) h

-- ---- blocks

-- P, of a function's definition
abbrev pub IfFunction : Binds → Type 0 → Type 0
IfFunction (Function names) P = P
IfFunction _ P = Unit {0}

abbrev pub StmtHolds : List Bool → CoreStmt → Type 0
StmtHolds kinds c = is_formed_stmt kinds c ≡ true

-- a function's number is an abstraction's
pub record StmtFormed (s : OfStmt) : Type 0 where
  pub part : PartFormed StmtHolds s.part
  pub function : (kinds : List Bool) (scope : Scope) (n : ℕ) → StandAt kinds n (s.part.make scope n).1
      → IfFunction s.binds (NumberOf true kinds n)

abbrev numbers : List (Names × ℕ) → List ℕ
numbers fs = map (λ f. f.1) fs

module _ (kinds : List Bool) where
  functions_with : (b : Binds) (n : ℕ) (more : List (Names × ℕ)) → IfFunction b (NumberOf true kinds n)
      → list_all (names_abs kinds) (numbers more) ≡ true → list_all (names_abs kinds) (numbers (with_binds b n more)) ≡ true
  functions_with (Function names) n more h k = and_from _ _ (is_abs kinds n h) k
  functions_with (Values names) n more h k = refl
  functions_with Nothing n more h k = k

  some_function : (b : Binds) (n : ℕ) (more : List (Names × ℕ)) → IfFunction b (nat_le 1 (length (numbers (with_binds b n more))) ≡ true)
  some_function (Function names) n more = grind (arith, nat_tests)
  some_function (Values names) n more = tt
  some_function Nothing n more = tt

  at_statement_formed : (b : Binds) (grouped : Bool) (fs : List (Names × ℕ)) (scope : Scope) (c : CoreStmt)
      → IfFunction b (nat_le 1 (length (numbers fs)) ≡ true) → list_all (names_abs kinds) (numbers fs) ≡ true → StmtHolds kinds c
      → StmtHolds kinds (at_statement b grouped fs scope c)
  at_statement_formed (Function names) false fs scope c some h k = and_from _ _ some h
  at_statement_formed (Function names) true fs scope c some h k = k
  at_statement_formed (Values names) grouped fs scope c some h k = k
  at_statement_formed Nothing grouped fs scope c some h k = k

pub statements_counted : (ss : List OfStmt) → AllByRecursion StmtFormed ss → (grouped : Bool) (scope : Scope) (n : ℕ)
    → length (statements grouped ss scope n).1 ≡ sum (map (λ s. s.part.size) ss)
statements_counted [] h grouped scope n = refl
statements_counted (s ∷ more) h grouped scope n =
    let here = scope_at s.binds grouped (functions n (s ∷ more)) scope in
    length-append (s.part.make here n).1 (statements (grouped_after s.binds grouped) more (scope_after s.binds here) (n + s.part.size)).1
    ∙ ap₂ (λ i j. i + j) (h.0.part.counted here n)
    (statements_counted more h.1 (grouped_after s.binds grouped) (scope_after s.binds here) (n + s.part.size))
    ∙ sym (sum_by-cons (λ k. k) s.part.size (map (λ s. s.part.size) more))

module _ (kinds : List Bool) where
  -- a statement's units, and those of the statements behind it
  abbrev Two : OfStmt → List OfStmt → Bool → Scope → ℕ → Type 0
  Two s more grouped scope n =
      let here = scope_at s.binds grouped (functions n (s ∷ more)) scope in
      StandAt kinds n (s.part.make here n).1
      × StandAt kinds (n + s.part.size) (statements (grouped_after s.binds grouped) more (scope_after s.binds here) (n + s.part.size)).1

  apart : (s : OfStmt) (more : List OfStmt) → StmtFormed s → (grouped : Bool) (scope : Scope) (n : ℕ)
      → StandAt kinds n (statements grouped (s ∷ more) scope n).1 → Two s more grouped scope n
  apart s more h grouped scope n at =
      let here = scope_at s.binds grouped (functions n (s ∷ more)) scope in
      let us = (s.part.make here n).1 in
      let vs = (statements (grouped_after s.binds grouped) more (scope_after s.binds here) (n + s.part.size)).1 in
      (front kinds n us vs at, back kinds n (n + s.part.size) us vs (ap (λ i. n + i) (h.part.counted here n)) at)

  functions_named : (ss : List OfStmt) → AllByRecursion StmtFormed ss → (grouped : Bool) (scope : Scope) (n : ℕ)
      → StandAt kinds n (statements grouped ss scope n).1 → list_all (names_abs kinds) (numbers (functions n ss)) ≡ true
  functions_named [] h grouped scope n at = refl
  functions_named (s ∷ more) h grouped scope n at =
      let here = scope_at s.binds grouped (functions n (s ∷ more)) scope in
      let two = apart s more h.0 grouped scope n at in
      functions_with kinds s.binds n (functions (n + s.part.size) more) (h.0.function kinds here n two.0)
      (functions_named more h.1 (grouped_after s.binds grouped) (scope_after s.binds here) (n + s.part.size) two.1)

  statements_made : (ss : List OfStmt) → AllByRecursion StmtFormed ss → (grouped : Bool) (scope : Scope) (n : ℕ)
      → StandAt kinds n (statements grouped ss scope n).1
      → (list_all (is_formed_stmt kinds) (statements grouped ss scope n).0 ≡ true)
      × (list_all (is_formed_unit kinds) (statements grouped ss scope n).1 ≡ true)
  statements_made [] h grouped scope n at = (refl, refl)
  statements_made (s ∷ more) h grouped scope n at =
      let fs = functions n (s ∷ more) in
      let here = scope_at s.binds grouped fs scope in
      let two = apart s more h.0 grouped scope n at in
      let x = h.0.part.made kinds here n two.0 in
      let named = functions_named (s ∷ more) h grouped scope n at in
      let some = some_function kinds s.binds n (functions (n + s.part.size) more) in
      let y = statements_made more h.1 (grouped_after s.binds grouped) (scope_after s.binds here) (n + s.part.size) two.1 in (
        and_from _ _ (at_statement_formed kinds s.binds grouped fs here _ some named x.0) y.0,
        list_all-append (is_formed_unit kinds) (s.part.make here n).1 _ ∙ and_from _ _ x.1 y.1,
      )

-- a block before it has a number
abbrev unnumbered : List OfStmt → Part CoreUnit
unnumbered ss = record {
  size = sum (map (λ s. s.part.size) ss);
  make = λ scope n. let x = statements false ss scope n in (unit.Block x.0, x.1);
}

pub block_formed : (ss : List OfStmt) → AllByRecursion StmtFormed ss → PartFormed (NumberOf false) (block ss)
block_formed ss h =
    numbered_formed false (unnumbered ss) (record {
      counted = λ scope n. statements_counted ss h false scope n;
      made = λ kinds scope n at. let x = statements_made kinds ss h false scope n at in ((refl, x.0), x.1);
    })
