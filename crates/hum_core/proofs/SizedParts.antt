-- How large the parts of a program become, with their units.
use Rattle.std.proofs.Common.{◌≡◌, ℕ, suc, ◌+◌, ◌*◌, ◌≤◌, Bool, true, false, List, [], ◌∷◌, ◌++◌, map, arith}
use Rattle.std.specs.Prelude.{sum}
use Rattle.hum_syntax.proofs.Induction.{Each, nodes}
use Rattle.hum_core.specs.declared.resolved.CoreUnit.{CoreUnit}
use Rattle.hum_core.specs.declared.resolved.CoreUnit.TheVariants as unit
use Rattle.hum_core.specs.declared.resolved.CoreStmt.{CoreStmt}
use Rattle.hum_meaning.specs.Scope.{Binds, Function, Values, Nothing, grouped_after}
use Rattle.hum_core.specs.Alike.{with_marks}
use Rattle.hum_core.specs.Agreement.{Names}
use Rattle.hum_core.specs.Units.{Scope, Part, plain, mapped, under, in_order, numbered, OfStmt, functions, at_statement, scope_at, scope_after, statements, block}
use Rattle.hum_core.specs.Lists.{tested_stmt, tested_unit, tested}
use Rattle.hum_core.specs.Sizes.{size_of_stmt, size_of_unit, size_of_units}
use Rattle.hum_syntax.proofs.SizedTrees.{sum-cons}
use Rattle.hum_core.proofs.Sums.{sum-le}
use Rattle.hum_core.proofs.SizedNodes.{stmt_becomes, some_stmt}

abbrev pub units_become : List CoreUnit → ℕ
units_become us = size_of_units (tested us)

units-append : (us vs : List CoreUnit) → units_become (us ++ vs) ≡ units_become us + units_become vs
units-append [] vs = omega arith
units-append (u ∷ us) vs =
    omega (
      arith,
      sum-cons size_of_unit (tested_unit u) (tested (us ++ vs)),
      sum-cons size_of_unit (tested_unit u) (tested us),
      units-append us vs,
    )

-- ---- parts

-- what a part becomes and its units have at most that size together
pub record PartSized {A : Type 0} (size : A → ℕ) (most : ℕ) (a : Part A) : Type 0 where
  pub at : (scope : Scope) (n : ℕ) → size (a.make scope n).0 + units_become (a.make scope n).1 ≤ most

pub part_fits : {A : Type 0} {size : A → ℕ} {m n : ℕ} {a : Part A} → m ≤ n → PartSized size m a → PartSized size n a
part_fits le h = record { at = λ scope n. let is = h.at scope n in omega (arith, is, le) }

pub plain_sized : {A : Type 0} (size : A → ℕ) (most : ℕ) (f : Scope → A) → ((scope : Scope) → size (f scope) ≤ most) → PartSized size most (plain f)
plain_sized size most f h = record { at = λ scope n. let is = h scope in omega (arith, is) }

pub mapped_sized : {A B : Type 0} (F : A → ℕ) (G : B → ℕ) (more most : ℕ) (f : A → B) (a : Part A) → ((x : A) → G (f x) ≤ F x + more)
    → PartSized F most a → PartSized G (most + more) (mapped f a)
mapped_sized F G more most f a go h = record {
  at = λ scope n. let is = h.at scope n in let le = go (a.make scope n).0 in omega (arith, is, le);
}

pub under_sized : {A B C : Type 0} (F : A → ℕ) (G : B → ℕ) (H : C → ℕ) (more most most' : ℕ) (names : Names) (f : A → B → C) (a : Part A) (b : Part B)
    → ((x : A) (y : B) → H (f x y) ≤ F x + G y + more) → PartSized F most a → PartSized G most' b
    → PartSized H (most + most' + more) (under names f a b)
under_sized F G H more most most' names f a b go h k = record {
  at = λ scope n.
      let x = a.make scope n in
      let y = b.make (with_marks names scope) (n + a.size) in
      let is = h.at scope n in
      let is' = k.at (with_marks names scope) (n + a.size) in
      let le = go x.0 y.0 in
      let all = units-append x.1 y.1 in
      omega (arith, is, is', le, all);
}

-- a number has no size
abbrev pub none : ℕ → ℕ
none k = 0

pub numbered_sized : (most : ℕ) (a : Part CoreUnit) → PartSized (λ u. size_of_unit (tested_unit u)) most a → PartSized none most (numbered a)
numbered_sized most a h = record {
  at = λ scope n.
      let made = a.make scope (suc n) in
      let is = h.at scope (suc n) in
      let all = sum-cons size_of_unit (tested_unit made.0) (tested made.1) in
      omega (arith, is, all);
}

-- ---- lists of parts

abbrev pub those : {A : Type 0} → (A → ℕ) → List A → ℕ
those F xs = sum (map F xs)

-- where each is at most three times as large as what it comes from, so are all
pub in_order_sized : {X A : Type 0} (F : A → ℕ) (s : X → ℕ) (p : X → Part A) (xs : Each (λ x. PartSized F (3 * s x) (p x)))
    → PartSized (those F) (3 * sum (map s (nodes xs))) (in_order (map p (nodes xs)))
in_order_sized F s p [] = record { at = λ scope n. omega arith }
in_order_sized F s p (x ∷ xs) =
    let all = sum-cons s x.0 (nodes xs) in
    part_fits (omega (arith, all))
    (under_sized F (those F) (those F) 0 (3 * s x.0) (3 * sum (map s (nodes xs))) [] (λ y ys. y ∷ ys) (p x.0) (in_order (map p (nodes xs)))
    (λ y ys. let is = sum-cons F y ys in omega (arith, is)) x.1 (in_order_sized F s p xs))

-- ---- blocks

-- a group in place of a statement is no larger than that
at_statement_sized : (b : Binds) (grouped : Bool) (fs : List (Names × ℕ)) (scope : Scope) (c : CoreStmt)
    → stmt_becomes (at_statement b grouped fs scope c) ≤ stmt_becomes c
at_statement_sized (Function names) false fs scope c = some_stmt c
at_statement_sized (Function names) true fs scope c = omega arith
at_statement_sized (Values names) grouped fs scope c = omega arith
at_statement_sized Nothing grouped fs scope c = omega arith

module _ {X : Type 0} (s : X → ℕ) (p : X → OfStmt) where
  abbrev Stmts : Type 0
  Stmts = Each (λ x. PartSized stmt_becomes (3 * s x) (p x).part)

  statements_sized : (xs : Stmts) (grouped : Bool) (scope : Scope) (n : ℕ)
      → (let made = statements grouped (map p (nodes xs)) scope n in those stmt_becomes made.0 + units_become made.1 ≤ 3 * sum (map s (nodes xs)))
  statements_sized [] grouped scope n = omega arith
  statements_sized (x ∷ xs) grouped scope n =
      let o = p x.0 in
      let fs = functions n (o ∷ map p (nodes xs)) in
      let here = scope_at o.binds grouped fs scope in
      let made = o.part.make here n in
      let others = statements (grouped_after o.binds grouped) (map p (nodes xs)) (scope_after o.binds here) (n + o.part.size) in
      omega (
        arith,
        sum-cons s x.0 (nodes xs),
        sum-cons stmt_becomes (at_statement o.binds grouped fs here made.0) others.0,
        at_statement_sized o.binds grouped fs here made.0,
        units-append made.1 others.1,
        x.1.at here n,
        statements_sized xs (grouped_after o.binds grouped) (scope_after o.binds here) (n + o.part.size),
      )

  -- a block before it has a number
  abbrev unnumbered : Stmts → Part CoreUnit
  unnumbered xs = record {
    size = sum (map (λ o. o.part.size) (map p (nodes xs)));
    make = λ scope n. let made = statements false (map p (nodes xs)) scope n in (unit.Block made.0, made.1);
  }

  unnumbered_sized : (xs : Stmts) → PartSized (λ u. size_of_unit (tested_unit u)) (1 + 3 * sum (map s (nodes xs))) (unnumbered xs)
  unnumbered_sized xs = record {
    at = λ scope n.
        let made = statements false (map p (nodes xs)) scope n in
        let is = statements_sized xs false scope n in
        let le = sum-le size_of_stmt tested_stmt stmt_becomes (λ c. omega arith) made.0 in
        omega (arith, is, le);
  }

  -- a block's unit is one more
  pub block_sized : (xs : Stmts) → PartSized none (1 + 3 * sum (map s (nodes xs))) (block (map p (nodes xs)))
  block_sized xs = numbered_sized (1 + 3 * sum (map s (nodes xs))) (unnumbered xs) (unnumbered_sized xs)
