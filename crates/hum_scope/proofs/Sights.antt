-- The names in sight in a block.
use Rattle.std.proofs.Common.{[], ◌++◌, length-append, ℕ, suc, ◌+◌, ◌<◌, ap, sym, ◌∙◌, map, length, drop, get_or, drop-cons, arith, ◌≡◌, refl, List, ◌∷◌}
use Rattle.hum_syntax.specs.declared.tree.Stmt.{Stmt}
use Rattle.hum_meaning.specs.Scope.{fresh, behind, found_of_stmt, Names, Binds, Function, Values, Nothing, OfStmt, with_binds, functions}
use Rattle.hum_scope.specs.Walks.{place, Kind, kind_of, gathered}

gathered_binds : (b : Binds) (more : Names) → with_binds b more ≡ gathered (kind_of b) more
gathered_binds (Function names) more = refl
gathered_binds (Values names) more = refl
gathered_binds Nothing more = refl

pub functions_first : (s : OfStmt) (more : List OfStmt) → functions (s ∷ more) ≡ gathered (kind_of s.binds) (functions more)
functions_first s more = gathered_binds s.binds (functions more)

-- the items from one on
pub from_one : {X Y : Type 0} (f : X → Y) (xs : List X) (i : ℕ) (x : X) → x ≡ get_or xs i x → i < length xs
    → map f (drop i xs) ≡ f x ∷ map f (drop (i + 1) xs)
from_one f xs i x is within =
    let next : suc i ≡ i + 1 = omega arith in
    ap (map f) (drop-cons xs i x within)
    ∙ ap (λ y. f y ∷ map f (drop (suc i) xs)) (sym is)
    ∙ ap (λ j. f x ∷ map f (drop j xs)) next

pub group_step : (xs : List Stmt) (i : ℕ) (s : Stmt) (k : Kind) → s ≡ get_or xs i s → i < length xs → k ≡ kind_of (found_of_stmt s).binds
    → functions (map found_of_stmt (drop i xs)) ≡ gathered k (functions (map found_of_stmt (drop (i + 1) xs)))
group_step xs i s k is within e =
    ap functions (from_one found_of_stmt xs i s is within)
    ∙ functions_first (found_of_stmt s) (map found_of_stmt (drop (i + 1) xs))
    ∙ ap (λ kind. gathered kind (functions (map found_of_stmt (drop (i + 1) xs)))) (sym e)

-- ---- places

none : (n : ℕ) → n ≡ 0 + n
none n = omega arith

pub fresh_place : (seen : Names) → fresh seen ≡ place seen [] (length seen)
fresh_place seen = ap (λ k. record { seen = seen; taken = []; besides = k }) (none (length seen))

pub behind_place : (names seen taken : Names) (outer : ℕ) → behind names (place seen taken outer) ≡ place seen (names ++ taken) outer
behind_place names seen taken outer =
    let n : length names + (length taken + outer) ≡ length (names ++ taken) + outer = omega (arith, length-append names taken) in
    ap (λ k. record { seen = seen; taken = names ++ taken; besides = k }) n
