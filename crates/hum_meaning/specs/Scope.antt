-- The scope rule: which names of a program are refused, and why.
use Rattle.std.specs.Prelude.{◌≡◌, ℕ, suc, ◌+◌, nat_le, Bool, true, false, ◌&&◌, if◌then◌else◌, List, [], ◌∷◌, ◌++◌, length, map, reverse, Option, Some, None, is_none}
use Rattle.std.specs.List.{flat_map, list_all, list_any}
use Rattle.std.specs.Str.{bytes_eq}
use Rattle.hum_syntax.specs.declared.tree.Stmt.{Stmt, fold-Stmt}
use Rattle.hum_syntax.specs.declared.tree.Expr.TheOpen.{Expr-F, Pat-F, Stmt-F, Arm-F, Branch-F}
use Rattle.hum_syntax.specs.declared.tree.Expr.TheOpen as layer
use Rattle.hum_meaning.specs.declared.cause.ScopeCause.{ScopeCause}
use Rattle.hum_meaning.specs.declared.cause.ScopeCause.TheVariants.{Unbound, Twice, TooManyNames}
use Rattle.hum_meaning.specs.Named.{Name, written}
use Rattle.hum_meaning.specs.Look.{outermost_names}

abbrev pub Names : Type 0
Names = List Name

-- what is wrong with each name of a part, in the order in which they are spelled; none where nothing is
abbrev pub Verdicts : Type 0
Verdicts = List (Option ScopeCause)

-- so many bindings at most are in scope at any place
abbrev pub most_bindings : ℕ
most_bindings = 4000

abbrev pub has : Names → Name → Bool
has names name = list_any (bytes_eq name) names

-- ---- one name

-- a name that is used, among the names that are seen there
abbrev pub used : Names → Name → Option ScopeCause
used seen name = if has seen name then None else Some Unbound

-- A place in a pattern or among the statements of a block: the names that an expression sees there, those that may not be bound again, and
-- the number of bindings in scope besides the next one.
pub record Place : Type 0 where
  pub seen : Names
  pub taken : Names
  pub besides : ℕ

-- a name that is bound at a place
abbrev pub bound : Place → Name → Option ScopeCause
bound place name = if has place.taken name then Some Twice else if nat_le most_bindings place.besides then Some TooManyNames else None

-- where a pattern begins that is not a statement's
abbrev pub fresh : Names → Place
fresh seen = record { seen = seen; taken = []; besides = length seen }

-- behind names of the same pattern, which its expressions do not see
abbrev pub behind : Names → Place → Place
behind names place = record place { taken = names ++ place.taken; besides = length names + place.besides }

-- ---- what is found of a part: its verdicts, whatever is seen there

-- an expression; whether it is an abstraction
pub record OfExpr : Type 0 where
  pub is_abstraction : Bool
  pub at : Names → Verdicts

-- a pattern: the names that it binds, the newest first; whether it is a name and nothing else
pub record OfPat : Type 0 where
  pub is_name : Bool
  pub names : Names
  pub at : Place → Verdicts

-- what a statement binds: a function, seen in its whole stretch; names of values or of an actor, seen from the next statement on; or nothing
pub data Binds : Type 0 where
  Function : Names → Binds
  Values : Names → Binds
  Nothing : Binds

pub record OfStmt : Type 0 where
  pub binds : Binds
  pub at : Place → Verdicts

-- an arm, or a branch
abbrev pub Part : Type 0
Part = Names → Verdicts

-- ---- blocks

abbrev pub names_of : Binds → Names
names_of (Function names) = names
names_of (Values names) = names
names_of Nothing = []

abbrev pub with_binds : Binds → Names → Names
with_binds (Function names) more = more ++ names
with_binds (Values names) more = []
with_binds Nothing more = more

-- the names of the functions that are defined from here to the end of the stretch, the newest first
abbrev pub functions : List OfStmt → Names
functions [] = []
functions (s ∷ more) = with_binds s.binds (functions more)

-- the names of the group that a statement sees and that are not taken yet, of those from here on; `grouped` says whether its group has begun
abbrev pub ahead : Binds → (grouped : Bool) → Names → Names
ahead (Function names) grouped fs = fs
ahead (Values names) grouped fs = []
ahead Nothing grouped fs = if grouped then fs else []

abbrev pub grouped_after : Binds → (grouped : Bool) → Bool
grouped_after (Function names) grouped = true
grouped_after (Values names) grouped = false
grouped_after Nothing grouped = grouped

-- the statements of a block that stands where the outer names are seen, behind statements that bound the taken names
abbrev pub in_block : (outer taken : Names) → (grouped : Bool) → List OfStmt → Verdicts
in_block outer taken grouped [] = []
in_block outer taken grouped (s ∷ more) =
    s.at (record { seen = ahead s.binds grouped (functions (s ∷ more)) ++ taken ++ outer; taken = taken; besides = length (taken ++ outer) })
    ++ in_block outer (names_of s.binds ++ taken) (grouped_after s.binds grouped) more

-- a block
abbrev pub block : List OfStmt → Part
block ss seen = in_block seen [] false ss

-- ---- one node, with what is found of the nodes below in their places

abbrev pub in_all : List Part → Part
in_all parts seen = flat_map (λ part. part seen) parts

abbrev pub exprs : List OfExpr → Part
exprs es = in_all (map (λ e. e.at) es)

-- the names of a pattern are seen in what stands behind it
abbrev pub scoped_by : OfPat → OfExpr → Part
scoped_by p e seen = p.at (fresh seen) ++ e.at (p.names ++ seen)

-- the verdicts of an expression that is no abstraction
abbrev pub plain : Part → OfExpr
plain part = record { is_abstraction = false; at = part }

abbrev pub of_expr : Expr-F OfExpr OfPat OfStmt Part Part → OfExpr
of_expr (layer.Var name) = plain (λ seen. used seen name ∷ [])
of_expr (layer.Abs p e) = record { is_abstraction = true; at = scoped_by p e }
of_expr (layer.Block ss) = plain (block ss)
of_expr (layer.Call f a) = plain (exprs (f ∷ a ∷ []))
of_expr (layer.Expr::Tuple es) = plain (exprs es)
of_expr (layer.New e) = plain e.at
of_expr (layer.Case e arms) = plain (in_all (e.at ∷ arms))
of_expr (layer.If branches None) = plain (in_all branches)
of_expr (layer.If branches (Some ss)) = plain (in_all (branches ++ block ss ∷ []))
of_expr _ = plain (λ seen. [])

abbrev pub item_names : List OfPat → Names
item_names [] = []
item_names (p ∷ ps) = item_names ps ++ p.names

abbrev pub items : List OfPat → Place → Verdicts
items [] place = []
items (p ∷ ps) place = p.at place ++ items ps (behind p.names place)

-- a pattern that is no name
abbrev pub other_pat : Names → (Place → Verdicts) → OfPat
other_pat names at = record { is_name = false; names = names; at = at }

abbrev pub of_pat : Pat-F OfExpr OfPat OfStmt Part Part → OfPat
of_pat (layer.Bind name) = record { is_name = true; names = name ∷ []; at = λ place. bound place name ∷ [] }
of_pat (layer.Value e) = other_pat [] (λ place. e.at place.seen)
of_pat (layer.Pat::Tuple ps) = other_pat (item_names ps) (items ps)
of_pat _ = other_pat [] (λ place. [])

-- a name with an abstraction is the definition of a function
abbrev pub let_binds : OfPat → OfExpr → Binds
let_binds p e = if p.is_name && e.is_abstraction then Function p.names else Values p.names

-- a statement that binds nothing
abbrev pub act : List OfExpr → OfStmt
act es = record { binds = Nothing; at = λ place. exprs es place.seen }

abbrev pub of_stmt : Stmt-F OfExpr OfPat OfStmt Part Part → OfStmt
of_stmt (layer.Let p e) = record { binds = let_binds p e; at = λ place. p.at place ++ e.at place.seen }
of_stmt (layer.Create name e) = record { binds = Values (name ∷ []); at = λ place. bound place name ∷ e.at place.seen }
of_stmt (layer.Send e a) = act (e ∷ a ∷ [])
of_stmt (layer.Become e) = act (e ∷ [])
of_stmt (layer.Throw e) = act (e ∷ [])
of_stmt (layer.Do e) = act (e ∷ [])

abbrev pub of_arm : Arm-F OfExpr OfPat OfStmt Part Part → Part
of_arm arm = scoped_by arm.pattern arm.value

abbrev pub of_branch : Branch-F OfExpr OfPat OfStmt Part Part → Part
of_branch branch = in_all (branch.condition.at ∷ block branch.block ∷ [])

-- ---- whole programs

abbrev pub found_of_stmt : Stmt → OfStmt
found_of_stmt = fold-Stmt OfExpr OfPat OfStmt Part Part of_expr of_pat of_stmt of_arm of_branch

-- the built-in functions and the devices
abbrev pub outermost_scope : Names
outermost_scope = reverse (map (λ b. b.0) (outermost_names written))

-- what is wrong with each name of a file
abbrev pub verdicts : List Stmt → Verdicts
verdicts file = block (map found_of_stmt file) outermost_scope

-- nothing is
abbrev pub Scoped : List Stmt → Type 0
Scoped file = list_all is_none (verdicts file) ≡ true

-- the first name that is refused, with the number of names before it
abbrev pub first_from : ℕ → Verdicts → Option (ℕ × ScopeCause)
first_from n [] = None
first_from n (None ∷ more) = first_from (suc n) more
first_from n (Some cause ∷ more) = Some (n, cause)

abbrev pub first_refused : List Stmt → Option (ℕ × ScopeCause)
first_refused file = first_from 0 (verdicts file)
