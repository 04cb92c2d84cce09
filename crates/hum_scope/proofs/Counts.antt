-- What a count of judged names tells.
use Rattle.std.proofs.Common.{◌≡◌, refl, sym, subst, ℕ, suc, ◌+◌, true, List, [], ◌∷◌, Option, Some, None, Ok, Err, arith}
use Rattle.std.specs.Prelude.{is_none, Result}
use Rattle.std.specs.List.{list_all}
use Rattle.hum_syntax.specs.declared.tree.Stmt.{Stmt}
use Rattle.hum_meaning.specs.Scope.{Verdicts, verdicts, first_from, first_refused}
use Rattle.hum_scope.specs.declared.refusal.ScopeRefused.{ScopeRefused}
use Rattle.hum_meaning.specs.declared.cause.ScopeCause.{ScopeCause}
use Rattle.hum_core.specs.Units.{resolved}
use Rattle.hum_core.specs.Laws.{FileStands}
use Rattle.hum_core.proofs.ScopedFiles.{scoped-files-stand}
use Rattle.hum_scope.specs.declared.refusal.ScopeError.{ScopeError}
use Rattle.hum_scope.specs.declared.refusal.ScopeError.TheVariants.{NoMemory, Refused}
use Rattle.hum_scope.specs.Walks.{Count, judged}
use Rattle.hum_scope.specs.Told.{Told, ScopedTreesHaveNoRefusedName}

refused_stays : (r : ScopeRefused) (vs : Verdicts) → judged (Err r) vs ≡ Err r
refused_stays r [] = refl
refused_stays r (v ∷ vs) = refused_stays r vs

abbrev Tells : ℕ → Verdicts → Count → Type 0
Tells n vs (Ok m) = first_from n vs ≡ None
Tells n vs (Err r) = first_from n vs ≡ Some (r.at, r.cause)

one_right : (n : ℕ) (vs : Verdicts) (c : Count) → Tells (suc n) vs c → Tells n (None ∷ vs) c
one_right n vs (Ok m) h = h
one_right n vs (Err r) h = h

tells : (n : ℕ) (vs : Verdicts) → Tells n vs (judged (Ok n) vs)
tells n [] = refl
tells n (None ∷ vs) =
    let next : suc n ≡ n + 1 = omega arith in
    one_right n vs (judged (Ok (n + 1)) vs) (subst (λ k. Tells (suc n) vs (judged (Ok k) vs)) next (tells (suc n) vs))
tells n (Some cause ∷ vs) = subst (Tells n (Some cause ∷ vs)) (sym (refused_stays (record { at = n; cause = cause }) vs)) refl

pub accepted : (file : List Stmt) (m : ℕ) → judged (Ok 0) (verdicts file) ≡ Ok m → Told {A = Unit {0}} (first_refused file) (Ok tt)
accepted file m e =
    let h : first_refused file ≡ None = subst (Tells 0 (verdicts file)) e (tells 0 (verdicts file)) in
    subst (λ first. Told {A = Unit {0}} first (Ok tt)) (sym h) tt

pub refused : (file : List Stmt) (r : ScopeRefused) → judged (Ok 0) (verdicts file) ≡ Err r
    → Told {A = Unit {0}} (first_refused file) (Err (Refused r))
refused file r e =
    let h : first_refused file ≡ Some (r.at, r.cause) = subst (Tells 0 (verdicts file)) e (tells 0 (verdicts file)) in
    subst (λ first. Told {A = Unit {0}} first (Err (Refused r))) (sym h) refl

pub no_memory : (first : Option (ℕ × ScopeCause)) → Told {A = Unit {0}} first (Err NoMemory)
no_memory None = tt
no_memory (Some first) = tt

-- ---- scoped trees

none_first : (n : ℕ) (vs : Verdicts) → list_all is_none vs ≡ true → first_from n vs ≡ None
none_first n [] h = refl
none_first n (None ∷ vs) h = none_first (suc n) vs h
none_first n (Some cause ∷ vs) h = cc h

all_none : (n : ℕ) (vs : Verdicts) → first_from n vs ≡ None → list_all is_none vs ≡ true
all_none n [] h = refl
all_none n (None ∷ vs) h = all_none (suc n) vs h
all_none n (Some cause ∷ vs) h = cc h

pub scoped-trees : ScopedTreesHaveNoRefusedName
scoped-trees file = (none_first 0 (verdicts file), all_none 0 (verdicts file))

told_none : (first : Option (ℕ × ScopeCause)) → Told {A = Unit {0}} first (Ok tt) → first ≡ None
told_none None h = refl
told_none (Some first) h = absurd h

-- a file that is accepted stands for its numbered tree
pub accepted_stands : (file : List Stmt) (r : Result (Unit {0}) ScopeError) → Told (first_refused file) r → r ≡ Ok tt
    → FileStands file (resolved file)
accepted_stands file r h e =
    scoped-files-stand file ((scoped-trees file).1 (told_none (first_refused file) (subst (λ r. Told {A = Unit {0}} (first_refused file) r) e h)))
