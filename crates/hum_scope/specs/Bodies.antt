-- The statements of a block, with the groups of its stretches.
use Rattle.std.specs.Prelude.{ℕ, Bool, true, false, List, [], ◌∷◌, ◌++◌}
use Rattle.hum_core.specs.declared.resolved.CoreStmt.{CoreStmt}
use Rattle.hum_core.specs.declared.resolved.CoreStmt.TheVariants as stmt
use Rattle.hum_scope.specs.declared.body.Body.{Body}
use Rattle.hum_scope.specs.Walks.{Kind, OfFunction, OfValues, OfNothing}

-- the statements up to here, where these are the units of the functions that are yet to come in the stretch
abbrev pub with_group : (grouped : Bool) → (closed : List CoreStmt) → (group : List ℕ) → (behind : List CoreStmt) → List CoreStmt
with_group true closed group behind = closed ++ stmt.Group group ∷ behind
with_group false closed group behind = closed

abbrev pub so_far : Body → (later : List ℕ) → List CoreStmt
so_far body later = with_group body.grouped body.closed (body.group ++ later) body.behind

-- the same behind one statement more, by what it binds
abbrev pub added : Kind → (grouped : Bool) → ℕ → CoreStmt → (List ℕ → List CoreStmt) → (later : List ℕ) → List CoreStmt
added (OfFunction names) true n made before later = before (n ∷ later) ++ made ∷ []
added (OfFunction names) false n made before later = before [] ++ stmt.Group (n ∷ later) ∷ []
added OfValues grouped n made before later = before [] ++ made ∷ []
added OfNothing grouped n made before later = before later ++ made ∷ []
