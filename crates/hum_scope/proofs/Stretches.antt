-- One statement more of a block, with the group of its stretch.
use Rattle.std.proofs.Common.{◌≡◌, refl, ap, sym, subst, ◌∙◌, ℕ, ◌+◌, Bool, true, false, List, [], ◌∷◌, ◌++◌, map, append_assoc, arith}
use Rattle.std.proofs.lemmas.List.Sums.{sum_by-cons}
use Rattle.hum_core.specs.declared.resolved.CoreUnit.{CoreUnit}
use Rattle.hum_core.specs.declared.resolved.CoreStmt.{CoreStmt}
use Rattle.hum_core.specs.declared.resolved.CoreStmt.TheVariants as stmt
use Rattle.hum_core.specs.Alike.{Many}
use Rattle.hum_core.specs.Agreement.{Names}
use Rattle.hum_meaning.specs.Scope.{Binds, Function, Values, Nothing, grouped_after}
use Rattle.hum_core.specs.Units.{Scope, OfStmt, functions, with_binds, group_names, at_statement, scope_at, scope_after, statements}
use Rattle.hum_scope.specs.Walks.{kind_of, groups}
use Rattle.hum_scope.specs.Bodies.{with_group, added}
use Rattle.hum_scope.specs.Translations.{IsAbove, itself, units, in_block, gathered_in_order, function_names, scope_with, scope_at as place}
use Rattle.hum_scope.proofs.Entered.{above_marks}
use Rattle.hum_scope.proofs.Parts.{Progress}

abbrev pub numbers : List (Names × ℕ) → List ℕ
numbers fs = map (λ f. f.1) fs

-- ---- the statements that were made

one_added : (grouped : Bool) (closed behind : List CoreStmt) (group : List ℕ) (b : Binds) (n : ℕ) (more : List (Names × ℕ)) (here : Scope)
    (made : CoreStmt) (others : List CoreStmt)
    → with_group grouped closed (group ++ numbers (with_binds b n more)) behind ++ at_statement b grouped (with_binds b n more) here made ∷ others
    ≡ added (kind_of b) grouped n made (λ later. with_group grouped closed (group ++ later) behind) (numbers more) ++ others
one_added true closed behind group (Function names) n more here made others =
    sym (append_assoc (closed ++ stmt.Group (group ++ n ∷ numbers more) ∷ behind) (made ∷ []) others)
one_added false closed behind group (Function names) n more here made others = sym (append_assoc closed (stmt.Group (n ∷ numbers more) ∷ []) others)
one_added grouped closed behind group (Values names) n more here made others =
    sym (append_assoc (with_group grouped closed (group ++ []) behind) (made ∷ []) others)
one_added grouped closed behind group Nothing n more here made others =
    sym (append_assoc (with_group grouped closed (group ++ numbers more) behind) (made ∷ []) others)

-- ---- scopes

gathered : (b : Binds) (n : ℕ) (fs : List (Names × ℕ)) → group_names (with_binds b n fs) ≡ gathered_in_order (kind_of b) (group_names fs)
gathered (Function names) n fs = refl
gathered (Values names) n fs = refl
gathered Nothing n fs = refl

names_in_order : (n : ℕ) (ss : List OfStmt) → group_names (functions n ss) ≡ function_names ss
names_in_order n [] = refl
names_in_order n (s ∷ more) =
    gathered s.binds n (functions (n + s.part.size) more)
    ∙ ap (gathered_in_order (kind_of s.binds)) (names_in_order (n + s.part.size) more)

entered : (b : Binds) (grouped : Bool) (fs : List (Names × ℕ)) (names : Names) (scope : Scope) → group_names fs ≡ names
    → scope_with (kind_of b) grouped names scope ≡ scope_at b grouped fs scope
entered (Function ns) false fs names scope e = ap (λ ns. Many ns ∷ scope) (sym e)
entered (Function ns) true fs names scope e = refl
entered (Values ns) grouped fs names scope e = refl
entered Nothing grouped fs names scope e = refl

grouped_behind : (b : Binds) (grouped : Bool) → groups (kind_of b) grouped ≡ grouped_after b grouped
grouped_behind (Function names) grouped = refl
grouped_behind (Values names) grouped = refl
grouped_behind Nothing grouped = refl

above_group : (outer scope : Scope) (b : Binds) (grouped : Bool) (fs : List (Names × ℕ)) → IsAbove outer scope
    → IsAbove outer (scope_at b grouped fs scope)
above_group outer scope (Function ns) false fs h = (Many (group_names fs) ∷ h.0, ap (λ s. Many (group_names fs) ∷ s) h.1)
above_group outer scope (Function ns) true fs h = h
above_group outer scope (Values ns) grouped fs h = h
above_group outer scope Nothing grouped fs h = h

above_behind : (outer scope : Scope) (b : Binds) → IsAbove outer scope → IsAbove outer (scope_after b scope)
above_behind outer scope (Function ns) h = h
above_behind outer scope (Values ns) h = above_marks outer scope ns h
above_behind outer scope Nothing h = h

-- ---- the whole step

pub stepped : (s : OfStmt) (more all from_here whole : List OfStmt) (grouped grouped' : Bool) (closed behind : List CoreStmt) (group : List ℕ)
    (after : List ℕ → List CoreStmt) (scope scope' outer : Scope) (n n' first : ℕ) (own own' before : List CoreUnit)
    → all ≡ s ∷ more
    → from_here ≡ all
    → own' ≡ own ++ units s.part (place s grouped from_here scope) n
    → n' ≡ n + s.part.size
    → scope' ≡ scope_after s.binds (place s grouped from_here scope)
    → grouped' ≡ groups (kind_of s.binds) grouped
    → ((later : List ℕ) → after later ≡ added (kind_of s.binds) grouped n (itself s.part (place s grouped from_here scope) n) (λ later. with_group grouped closed (group ++ later) behind) later)
    → Progress grouped (λ later. with_group grouped closed (group ++ later) behind) all scope n own whole outer first before
    → Progress grouped' after more scope' n' own' whole outer first before
stepped s more all from_here whole grouped grouped' closed behind group after scope scope' outer n n' first own own' before
    is_all is_from_here is_own is_next is_scope is_grouped is_after h =
    let so_far = λ (later : List ℕ). with_group grouped closed (group ++ later) behind in
    let now : Progress grouped so_far (s ∷ more) scope n own whole outer first before
    = subst (λ all. Progress grouped so_far all scope n own whole outer first before) is_all h in
    let b = s.binds in
    let fs = functions n (s ∷ more) in
    let later = functions (n + s.part.size) more in
    let here = place s grouped from_here scope in
    let at = scope_at b grouped fs scope in
    let others = statements (grouped_after b grouped) more (scope_after b at) (n + s.part.size) in
    let e_here : here ≡ at
    = ap (λ all. place s grouped all scope) (is_from_here ∙ is_all) ∙ entered b grouped fs (function_names (s ∷ more)) scope (names_in_order n (s ∷ more)) in
    let e_grouped : grouped' ≡ grouped_after b grouped = is_grouped ∙ grouped_behind b grouped in
    let e_scope : scope' ≡ scope_after b at = is_scope ∙ ap (scope_after b) e_here in
    let e_others : statements grouped' more scope' n' ≡ others
    = ap (λ g. statements g more scope' n') e_grouped ∙ ap (λ z. statements (grouped_after b grouped) more z n') e_scope
    ∙ ap (statements (grouped_after b grouped) more (scope_after b at)) is_next in
    let e_later : after (numbers (functions n' more)) ≡ added (kind_of b) grouped n (itself s.part at n) so_far (numbers later)
    = is_after (numbers (functions n' more))
    ∙ ap (λ here. added (kind_of b) grouped n (itself s.part here n) so_far (numbers (functions n' more))) e_here
    ∙ ap (λ n'. added (kind_of b) grouped n (itself s.part at n) so_far (numbers (functions n' more))) is_next in
    let sizes : (in_block (s ∷ more)).size ≡ s.part.size + (in_block more).size = sum_by-cons (λ k. k) s.part.size (map (λ s. s.part.size) more) in
    record {
      parts_are =
          ap (λ made. made ++ (statements grouped' more scope' n').0) e_later
          ∙ ap (λ others. added (kind_of b) grouped n (itself s.part at n) so_far (numbers later) ++ others.0) e_others
          ∙ sym (one_added grouped closed behind group b n later at (itself s.part at n) others.0)
          ∙ now.parts_are;
      units_are =
          ap (λ own. own ++ (statements grouped' more scope' n').1) (is_own ∙ ap (λ here. own ++ units s.part here n) e_here)
          ∙ ap (λ others. (own ++ units s.part at n) ++ others.1) e_others
          ∙ append_assoc own (units s.part at n) others.1
          ∙ now.units_are;
      next_is = omega (arith, sizes, is_next, now.next_is);
      sight_is = subst (IsAbove outer) (sym e_scope) (above_behind outer at b (above_group outer scope b grouped fs now.sight_is));
    }
