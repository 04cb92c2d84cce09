-- What is told of a whole tree.
use Rattle.std.specs.Prelude.{◌≡◌, ◌↔◌, ℕ, List, Option, Some, None, Result, Ok, Err}
use Rattle.hum_syntax.specs.declared.tree.Stmt.{Stmt}
use Rattle.hum_meaning.specs.declared.cause.ScopeCause.{ScopeCause}
use Rattle.hum_meaning.specs.Scope.{Scoped, first_refused}
use Rattle.hum_scope.specs.declared.refusal.ScopeError.{ScopeError}
use Rattle.hum_scope.specs.declared.refusal.ScopeError.TheVariants.{NoMemory, Refused}

-- the answer is the first refused name if there is one, and else that there is none, unless memory fails
abbrev pub Told : {A : Type 0} → Option (ℕ × ScopeCause) → Result A ScopeError → Type 0
Told None (Ok a) = Unit {0}
Told None (Err (Refused r)) = ⊥
Told None (Err NoMemory) = Unit {0}
Told (Some first) (Ok a) = ⊥
Told (Some first) (Err (Refused r)) = first ≡ (r.at, r.cause)
Told (Some first) (Err NoMemory) = Unit {0}

abbrev pub ScopedTreesHaveNoRefusedName : Type 0
ScopedTreesHaveNoRefusedName = (file : List Stmt) → Scoped file ↔ (first_refused file ≡ None)
