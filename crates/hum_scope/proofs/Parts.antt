-- Parts of a tree that are made one after the other.
use Rattle.std.proofs.Common.{◌≡◌, ap, ◌∙◌, subst, ℕ, suc, ◌+◌, Bool, List, [], ◌∷◌, ◌++◌, length, map, append_assoc, slice_set, arith}
use Rattle.std.proofs.Math.Seq.{set-append_seam}
use Rattle.hum_core.specs.declared.resolved.CoreUnit.{CoreUnit}
use Rattle.hum_core.specs.declared.resolved.CoreUnit.TheVariants as unit
use Rattle.hum_core.specs.declared.resolved.CoreStmt.{CoreStmt}
use Rattle.hum_core.specs.declared.resolved.CoreExpr.{CoreExpr}
use Rattle.hum_core.specs.declared.resolved.CorePat.{CorePat}
use Rattle.hum_core.specs.Alike.{with_marks}
use Rattle.hum_core.specs.Agreement.{Names}
use Rattle.hum_core.specs.Units.{Scope, Part, OfExpr, OfPat, in_order, under, numbered, OfStmt, statements, functions}
use Rattle.hum_scope.specs.Translations.{IsAbove, itself, units, in_block}

-- what was made, with what the rest becomes, is what the whole becomes
pub record Underway {A : Type 0} (rest : Part (List A)) (made : List A) (here : Scope) (n : ℕ) (own : List CoreUnit)
    (whole : Part (List A)) (outer : Scope) (first : ℕ) (before : List CoreUnit) : Type 0 where
  pub parts_are : made ++ itself rest here n ≡ itself whole outer first
  pub units_are : own ++ units rest here n ≡ before ++ units whole outer first
  pub next_is : n + rest.size ≡ first + whole.size
  pub sight_is : here ≡ outer

-- the same of the statements of a block, of which those so far depend on the functions that are yet to come in their stretch
pub record Progress (grouped : Bool) (so_far : List ℕ → List CoreStmt) (rest : List OfStmt) (here : Scope) (n : ℕ) (own : List CoreUnit)
    (whole : List OfStmt) (outer : Scope) (first : ℕ) (before : List CoreUnit) : Type 0 where
  pub parts_are : so_far (map (λ f. f.1) (functions n rest)) ++ (statements grouped rest here n).0 ≡ itself (in_block whole) outer first
  pub units_are : own ++ (statements grouped rest here n).1 ≡ before ++ units (in_block whole) outer first
  pub next_is : n + (in_block rest).size ≡ first + (in_block whole).size
  pub sight_is : IsAbove outer here

-- one more
pub one_made : {A : Type 0} (a : Part A) (rest all : List (Part A)) (x : A) (made made' : List A) (here here' : Scope) (n n' : ℕ) (own own' : List CoreUnit)
    (whole : Part (List A)) (outer : Scope) (first : ℕ) (before : List CoreUnit)
    → all ≡ a ∷ rest
    → x ≡ itself a here n
    → made' ≡ made ++ x ∷ []
    → own' ≡ own ++ units a here n
    → n' ≡ n + a.size
    → here' ≡ here
    → Underway (in_order all) made here n own whole outer first before
    → Underway (in_order rest) made' here' n' own' whole outer first before
one_made a rest all x made made' here here' n n' own own' whole outer first before is is_x is_made is_own is_n is_here h =
    let k : Underway (in_order (a ∷ rest)) made here n own whole outer first before
    = subst (λ all. Underway (in_order all) made here n own whole outer first before) is h in
    let later = in_order rest in
    let parts : itself later here' n' ≡ itself later here (n + a.size) = cc (is_here, is_n) in
    let others : units later here' n' ≡ units later here (n + a.size) = cc (is_here, is_n) in
    record {
      parts_are = cc (is_made, is_x, parts, append_assoc made (x ∷ []) (itself later here (n + a.size)), k.parts_are);
      units_are = cc (is_own, others, append_assoc own (units a here n) (units later here (n + a.size)), k.units_are);
      next_is = omega (arith, is_n, k.next_is);
      sight_is = is_here ∙ h.sight_is;
    }

-- the units of two parts, the second where the names of the first are seen
pub two_units : {A B C : Type 0} (names : Names) (f : A → B → C) (a : Part A) (b : Part B) (here here' : Scope) (n n' : ℕ) (own own' own'' : List CoreUnit)
    → own' ≡ own ++ units a here n
    → n' ≡ n + a.size
    → here' ≡ here
    → own'' ≡ own' ++ units b (with_marks names here') n'
    → own'' ≡ own ++ units (under names f a b) here n
two_units names f a b here here' n n' own own' own'' is_own is_n is_here is_own' =
    let seen = with_marks names here in
    is_own'
    ∙ ap (λ own'. own' ++ units b (with_marks names here') n') is_own
    ∙ ap (λ here'. (own ++ units a here n) ++ units b (with_marks names here') n') is_here
    ∙ ap (λ n'. (own ++ units a here n) ++ units b seen n') is_n
    ∙ append_assoc own (units a here n) (units b seen (n + a.size))

pub two_parts : {A B C : Type 0} (names : Names) (f : A → B → C) (a : Part A) (b : Part B) (x : A) (y : B) (here here' : Scope) (n n' : ℕ)
    → x ≡ itself a here n
    → n' ≡ n + a.size
    → here' ≡ here
    → y ≡ itself b (with_marks names here') n'
    → f x y ≡ itself (under names f a b) here n
two_parts names f a b x y here here' n n' is_x is_n is_here is_y =
    ap (λ x. f x y) is_x
    ∙ ap (f (itself a here n)) (is_y ∙ ap (λ here'. itself b (with_marks names here') n') is_here ∙ ap (itself b (with_marks names here)) is_n)

-- one more, of two parts
pub two_made : {A B C : Type 0} (names : Names) (f : A → B → C) (a : Part A) (b : Part B) (part : Part C) (rest all : List (Part C)) (x : A) (y : B)
    (made made' : List C) (here here' here'' : Scope) (n n' n'' : ℕ) (own own' own'' : List CoreUnit)
    (whole : Part (List C)) (outer : Scope) (first : ℕ) (before : List CoreUnit)
    → all ≡ part ∷ rest
    → part ≡ under names f a b
    → x ≡ itself a here n
    → own' ≡ own ++ units a here n
    → n' ≡ n + a.size
    → here' ≡ here
    → y ≡ itself b (with_marks names here') n'
    → own'' ≡ own' ++ units b (with_marks names here') n'
    → n'' ≡ n' + b.size
    → here'' ≡ here'
    → made' ≡ made ++ f x y ∷ []
    → Underway (in_order all) made here n own whole outer first before
    → Underway (in_order rest) made' here'' n'' own'' whole outer first before
two_made names f a b part rest all x y made made' here here' here'' n n' n'' own own' own'' whole outer first before
    is is_part is_x is_own is_n is_here is_y is_own' is_n' is_here' is_made h =
    let size : n'' ≡ n + (a.size + b.size) = omega (arith, is_n, is_n') in
    one_made (under names f a b) rest all (f x y) made made' here here'' n n'' own own'' whole outer first before
    (is ∙ ap (λ p. p ∷ rest) is_part) (two_parts names f a b x y here here' n n' is_x is_n is_here is_y) is_made
    (two_units names f a b here here' n n' own own' own'' is_own is_n is_here is_own')
    size (is_here' ∙ is_here) h

-- a unit is put at its place, before those that are in it
pub filled : {X : Type 0} (a : Part X) (wrap : X → CoreUnit) (x : X) (here here' : Scope) (next next' place : ℕ) (empty : CoreUnit)
    (before own own' own'' : List CoreUnit)
    → place ≡ length before
    → here' ≡ here
    → next' ≡ suc next
    → own ≡ before ++ empty ∷ []
    → x ≡ itself a here' next'
    → own' ≡ own ++ units a here' next'
    → own'' ≡ slice_set own' place (wrap x)
    → own'' ≡ before ++ wrap (itself a here (suc next)) ∷ units a here (suc next)
filled a wrap x here here' next next' place empty before own own' own'' is_place is_here is_next is_own is_x is_own' is_own'' =
    let made = units a here (suc next) in
    let x_is : x ≡ itself a here (suc next) = cc (is_x, is_here, is_next) in
    let made_is : units a here' next' ≡ made = cc (is_here, is_next) in
    let own_is : own' ≡ before ++ empty ∷ made = cc (is_own', is_own, made_is, append_assoc before (empty ∷ []) made) in
    is_own''
    ∙ ap (λ us. slice_set us place (wrap x)) own_is
    ∙ ap (λ n. slice_set (before ++ empty ∷ made) n (wrap x)) is_place
    ∙ set-append_seam before empty made (wrap x)
    ∙ ap (λ x. before ++ wrap x ∷ made) x_is

pub abstracted : (p : OfPat) (e : OfExpr) (x : CorePat) (y : CoreExpr) (here here' here'' : Scope) (next next' next'' place : ℕ) (empty : CoreUnit)
    (before own own' own'' made : List CoreUnit)
    → place ≡ length before
    → here' ≡ here
    → next' ≡ suc next
    → own ≡ before ++ empty ∷ []
    → x ≡ itself p.part here' next'
    → own' ≡ own ++ units p.part here' next'
    → next'' ≡ next' + p.part.size
    → here'' ≡ here'
    → y ≡ itself e.part (with_marks p.names here'') next''
    → own'' ≡ own' ++ units e.part (with_marks p.names here'') next''
    → made ≡ slice_set own'' place (unit.Abs x y)
    → made ≡ before ++ units (numbered (under p.names unit.Abs p.part e.part)) here next
abstracted p e x y here here' here'' next next' next'' place empty before own own' own'' made
    is_place is_here is_next is_own is_x is_own' is_next' is_here' is_y is_own'' is_made =
    let both_parts = under p.names unit.Abs p.part e.part in
    filled both_parts (λ u. u) (unit.Abs x y) here here' next next' place empty before own own'' made is_place is_here is_next is_own
    (two_parts p.names unit.Abs p.part e.part x y here' here'' next' next'' is_x is_next' is_here' is_y)
    (two_units p.names unit.Abs p.part e.part here' here'' next' next'' own own' own'' is_own' is_next' is_here' is_own'')
    is_made
