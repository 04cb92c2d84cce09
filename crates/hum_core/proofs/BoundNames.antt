-- What the scope rule, the numbered tree and the meaning say alike of a tree: the names that a pattern binds, and what a statement binds.
use Rattle.std.proofs.Common.{◌≡◌, refl, ap, sym, subst, ◌∙◌, ℕ, Bool, true, false, ◌&&◌, List, [], ◌∷◌, ◌++◌, map, Some, None}
use Rattle.std.specs.Prelude.{if◌then◌else◌}
use Rattle.hum_syntax.specs.declared.tree.Expr.{Expr, out-Expr, fold-Expr, fold_out-Expr}
use Rattle.hum_syntax.specs.declared.tree.Pat.{Pat, out-Pat, fold-Pat, fold_out-Pat}
use Rattle.hum_syntax.specs.declared.tree.Stmt.{Stmt, out-Stmt, fold_out-Stmt}
use Rattle.hum_syntax.specs.declared.tree.Arm.{Arm, fold-Arm}
use Rattle.hum_syntax.specs.declared.tree.Branch.{Branch, fold-Branch}
use Rattle.hum_syntax.specs.declared.tree.Expr.TheOpen.{Expr-F, Pat-F, Stmt-F, Arm-F, Branch-F}
use Rattle.hum_syntax.specs.declared.tree.Expr.TheOpen as layer
use Rattle.hum_syntax.specs.declared.tree.Expr.TheFolds as folds
use Rattle.hum_syntax.specs.declared.tree.Expr.TheViews.{roll-Expr, roll-Pat, roll-Stmt, roll-Arm, roll-Branch}
use Rattle.hum_core.specs.declared.resolved.CoreExpr.TheVariants as expr
use Rattle.hum_meaning.specs.Named.{written, ExprTree, PatTree, StmtTree}
use Rattle.hum_meaning.specs.Body.{Role, Defines, Divides, Other, let_role, role}
use Rattle.hum_meaning.specs.Scope as judged
use Rattle.hum_meaning.specs.Scope.{Binds, Function, Values, Nothing}
use Rattle.hum_core.specs.Agreement.{Names, joined, names_node, names_of}
use Rattle.hum_core.specs.Units as made
use Rattle.hum_core.specs.Units.{let_stmt}
use Rattle.hum_core.proofs.Names.{names_here, names_out}
use Rattle.hum_core.proofs.UnitPlaces.{made_expr, made_pat, made_stmt, expr_made, pat_made, stmt_made, made_rolled_pat}

-- ---- what is found of trees

abbrev pub found_expr : Expr → judged.OfExpr
found_expr = fold-Expr judged.OfExpr judged.OfPat judged.OfStmt judged.Part judged.Part judged.of_expr judged.of_pat judged.of_stmt judged.of_arm judged.of_branch

abbrev pub found_pat : Pat → judged.OfPat
found_pat = fold-Pat judged.OfExpr judged.OfPat judged.OfStmt judged.Part judged.Part judged.of_expr judged.of_pat judged.of_stmt judged.of_arm judged.of_branch

abbrev pub found_stmt : Stmt → judged.OfStmt
found_stmt = judged.found_of_stmt

abbrev pub found_arm : Arm → judged.Part
found_arm = fold-Arm judged.OfExpr judged.OfPat judged.OfStmt judged.Part judged.Part judged.of_expr judged.of_pat judged.of_stmt judged.of_arm judged.of_branch

abbrev pub found_branch : Branch → judged.Part
found_branch = fold-Branch judged.OfExpr judged.OfPat judged.OfStmt judged.Part judged.Part judged.of_expr judged.of_pat judged.of_stmt judged.of_arm judged.of_branch

-- ---- one node of it, over what is found below

abbrev pub expr_found : ExprTree written → judged.OfExpr
expr_found x = judged.of_expr (folds.map-Expr Expr Pat Stmt Arm Branch judged.OfExpr judged.OfPat judged.OfStmt judged.Part judged.Part found_expr found_pat found_stmt found_arm found_branch x)

abbrev pub pat_found : PatTree written → judged.OfPat
pat_found x = judged.of_pat (folds.map-Pat Expr Pat Stmt Arm Branch judged.OfExpr judged.OfPat judged.OfStmt judged.Part judged.Part found_expr found_pat found_stmt found_arm found_branch x)

abbrev pub stmt_found : StmtTree written → judged.OfStmt
stmt_found x = judged.of_stmt (folds.map-Stmt Expr Pat Stmt Arm Branch judged.OfExpr judged.OfPat judged.OfStmt judged.Part judged.Part found_expr found_pat found_stmt found_arm found_branch x)

abbrev pub arm_found : Arm-F Expr Pat Stmt Arm Branch → judged.Part
arm_found x = judged.of_arm (folds.map-Arm Expr Pat Stmt Arm Branch judged.OfExpr judged.OfPat judged.OfStmt judged.Part judged.Part found_expr found_pat found_stmt found_arm found_branch x)

abbrev pub branch_found : Branch-F Expr Pat Stmt Arm Branch → judged.Part
branch_found x = judged.of_branch (folds.map-Branch Expr Pat Stmt Arm Branch judged.OfExpr judged.OfPat judged.OfStmt judged.Part judged.Part found_expr found_pat found_stmt found_arm found_branch x)

pub found_rolled_expr : (x : ExprTree written) → found_expr (roll-Expr x) ≡ expr_found x
found_rolled_expr x = folds.fold-roll-Expr judged.OfExpr judged.OfPat judged.OfStmt judged.Part judged.Part judged.of_expr judged.of_pat judged.of_stmt judged.of_arm judged.of_branch x

pub found_rolled_pat : (x : PatTree written) → found_pat (roll-Pat x) ≡ pat_found x
found_rolled_pat x = folds.fold-roll-Pat judged.OfExpr judged.OfPat judged.OfStmt judged.Part judged.Part judged.of_expr judged.of_pat judged.of_stmt judged.of_arm judged.of_branch x

pub found_rolled_stmt : (x : StmtTree written) → found_stmt (roll-Stmt x) ≡ stmt_found x
found_rolled_stmt x = folds.fold-roll-Stmt judged.OfExpr judged.OfPat judged.OfStmt judged.Part judged.Part judged.of_expr judged.of_pat judged.of_stmt judged.of_arm judged.of_branch x

pub found_rolled_arm : (x : Arm-F Expr Pat Stmt Arm Branch) → found_arm (roll-Arm x) ≡ arm_found x
found_rolled_arm x = folds.fold-roll-Arm judged.OfExpr judged.OfPat judged.OfStmt judged.Part judged.Part judged.of_expr judged.of_pat judged.of_stmt judged.of_arm judged.of_branch x

pub found_rolled_branch : (x : Branch-F Expr Pat Stmt Arm Branch) → found_branch (roll-Branch x) ≡ branch_found x
found_rolled_branch x = folds.fold-roll-Branch judged.OfExpr judged.OfPat judged.OfStmt judged.Part judged.Part judged.of_expr judged.of_pat judged.of_stmt judged.of_arm judged.of_branch x

-- ---- the names of a pattern

abbrev E : Expr → Type 0
E x = Unit {0}

abbrev P : Pat → Type 0
P p = ((made_pat p).names ≡ names_of p) × ((found_pat p).names ≡ names_of p)

abbrev S : Stmt → Type 0
S x = Unit {0}

abbrev A : Arm → Type 0
A x = Unit {0}

abbrev B : Branch → Type 0
B x = Unit {0}

abbrev EE : Type 0
EE = (x : Expr) × E x

abbrev PP : Type 0
PP = (x : Pat) × P x

abbrev SS : Type 0
SS = (x : Stmt) × S x

abbrev AA : Type 0
AA = (x : Arm) × A x

abbrev BB : Type 0
BB = (x : Branch) × B x

abbrev bare_pat : Pat-F EE PP SS AA BB → PatTree written
bare_pat = folds.map-Pat EE PP SS AA BB Expr Pat Stmt Arm Branch (λ z. z.0) (λ z. z.0) (λ z. z.0) (λ z. z.0) (λ z. z.0)

names_rolled : (x : PatTree written)
    → names_of (roll-Pat x) ≡ names_node (folds.map-Pat Expr Pat Stmt Arm Branch (Unit {0}) Names (Unit {0}) (Unit {0}) (Unit {0}) _ names_of _ _ _ x)
names_rolled x = folds.fold-roll-Pat (Unit {0}) Names (Unit {0}) (Unit {0}) (Unit {0}) (λ _. tt) names_node (λ _. tt) (λ _. tt) (λ _. tt) x

beside : (ns ms ns' ms' : Names) → ns ≡ ns' → ms ≡ ms' → ns ++ ms ≡ ns' ++ ms'
beside ns ms ns' ms' e k = ap (λ x. x ++ ms) e ∙ ap (λ x. ns' ++ x) k

made_items : (ps : List PP) → made.item_names (map made_pat (map (λ p. p.0) ps)) ≡ joined (map names_of (map (λ p. p.0) ps))
made_items [] = refl
made_items (p ∷ ps) = beside _ _ _ _ (made_items ps) p.1.0

found_items : (ps : List PP) → judged.item_names (map found_pat (map (λ p. p.0) ps)) ≡ joined (map names_of (map (λ p. p.0) ps))
found_items [] = refl
found_items (p ∷ ps) = beside _ _ _ _ (found_items ps) p.1.1

node_named : (y : Pat-F EE PP SS AA BB) → ((pat_made (bare_pat y)).names ≡ names_of (roll-Pat (bare_pat y))) × ((pat_found (bare_pat y)).names ≡ names_of (roll-Pat (bare_pat y)))
node_named (layer.Pat::Tuple ps) = (made_items ps ∙ sym (names_rolled _), found_items ps ∙ sym (names_rolled _))
node_named y = (sym (names_rolled _), sym (names_rolled _))

pat_step : (x : PatTree written) (y : Pat-F EE PP SS AA BB) → bare_pat y ≡ x → P (roll-Pat x)
pat_step x y is =
    let names = node_named y in
    subst (λ z. P (roll-Pat z)) is (
      ap (λ z. z.names) (made_rolled_pat (bare_pat y)) ∙ names.0,
      ap (λ z. z.names) (found_rolled_pat (bare_pat y)) ∙ names.1,
    )

both_named : (p : Pat) → P p
both_named = folds.ind-Pat E P S A B (λ x y is. tt) pat_step (λ x y is. tt) (λ x y is. tt) (λ x y is. tt)

pub made_names : (p : Pat) → (made_pat p).names ≡ names_of p
made_names p = (both_named p).0

pub found_names : (p : Pat) → (found_pat p).names ≡ names_of p
found_names p = (both_named p).1

-- ---- what a statement binds

abbrev is_name : PatTree written → Bool
is_name (layer.Bind name) = true
is_name _ = false

abbrev is_function : ExprTree written → Bool
is_function (layer.Abs p e) = true
is_function _ = false

name_made : (x : PatTree written) → (pat_made x).is_name ≡ is_name x
name_made (layer.Bind name) = refl
name_made _ = refl

name_found : (x : PatTree written) → (pat_found x).is_name ≡ is_name x
name_found (layer.Bind name) = refl
name_found _ = refl

function_made : (x : ExprTree written) → (expr_made x).is_abstraction ≡ is_function x
function_made (layer.If bs (Some ss)) = refl
function_made (layer.If bs None) = refl
function_made _ = refl

function_found : (x : ExprTree written) → (expr_found x).is_abstraction ≡ is_function x
function_found (layer.If bs (Some ss)) = refl
function_found (layer.If bs None) = refl
function_found _ = refl

made_is_name : (p : Pat) → (made_pat p).is_name ≡ is_name (out-Pat p)
made_is_name p = ap (λ (z : made.OfPat). z.is_name) (fold_out-Pat _ _ _ _ _ _ _ _ _ _ p) ∙ name_made (out-Pat p)

found_is_name : (p : Pat) → (found_pat p).is_name ≡ is_name (out-Pat p)
found_is_name p = ap (λ (z : judged.OfPat). z.is_name) (fold_out-Pat _ _ _ _ _ _ _ _ _ _ p) ∙ name_found (out-Pat p)

made_is_function : (e : Expr) → (made_expr e).is_abstraction ≡ is_function (out-Expr e)
made_is_function e = ap (λ (z : made.OfExpr). z.is_abstraction) (fold_out-Expr _ _ _ _ _ _ _ _ _ _ e) ∙ function_made (out-Expr e)

found_is_function : (e : Expr) → (found_expr e).is_abstraction ≡ is_function (out-Expr e)
found_is_function e = ap (λ (z : judged.OfExpr). z.is_abstraction) (fold_out-Expr _ _ _ _ _ _ _ _ _ _ e) ∙ function_found (out-Expr e)

-- whether a definition is a function's
abbrev pub defines : Pat → Expr → Bool
defines p e = (made_pat p).is_name && (made_expr e).is_abstraction

defines_by : (p : Pat) (e : Expr) → defines p e ≡ (is_name (out-Pat p) && is_function (out-Expr e))
defines_by p e = ap (λ b. b && (made_expr e).is_abstraction) (made_is_name p) ∙ ap (λ b. is_name (out-Pat p) && b) (made_is_function e)

-- a role, and the two nodes of a definition that has it
abbrev pub LetAs : Role written → Bool → PatTree written → ExprTree written → Type 0
LetAs (Defines name f) true x y = (x ≡ layer.Bind name) × (y ≡ layer.Abs f.0 f.1)
LetAs Divides false x y = Unit {0}
LetAs _ _ x y = ⊥

let_node : (x : PatTree written) (y : ExprTree written) → LetAs (let_role written x y) (is_name x && is_function y) x y
let_node (layer.Bind name) (layer.Abs p e) = (refl, refl)
let_node _ _ = tt

pub let_as : (p : Pat) (e : Expr) → LetAs (let_role written (out-Pat p) (out-Expr e)) (defines p e) (out-Pat p) (out-Expr e)
let_as p e = subst (λ b. LetAs (let_role written (out-Pat p) (out-Expr e)) b (out-Pat p) (out-Expr e)) (sym (defines_by p e)) (let_node (out-Pat p) (out-Expr e))

-- a role, and what a statement that has it binds
abbrev pub RoleAs : Role written → Binds → Type 0
RoleAs (Defines name f) (Function names) = names ≡ name ∷ []
RoleAs Divides (Values names) = Unit {0}
RoleAs Other Nothing = Unit {0}
RoleAs _ _ = ⊥

let_role_as : (r : Role written) (b : Bool) (p : Pat) (e : Expr) → LetAs r b (out-Pat p) (out-Expr e)
    → RoleAs r (let_stmt b (made_pat p) (made_expr e)).binds
let_role_as (Defines name f) true p e h = made_names p ∙ names_out p ∙ ap names_here h.0
let_role_as Divides false p e h = tt
let_role_as _ _ p e h = absurd h

role_node : (x : StmtTree written) → RoleAs (role written x) (stmt_made x).binds
role_node (layer.Let p e) = let_role_as (let_role written (out-Pat p) (out-Expr e)) (defines p e) p e (let_as p e)
role_node _ = tt

pub role_as : (s : Stmt) → RoleAs (role written (out-Stmt s)) (made_stmt s).binds
role_as s = subst (λ (z : made.OfStmt). RoleAs (role written (out-Stmt s)) z.binds) (sym (fold_out-Stmt _ _ _ _ _ _ _ _ _ _ s)) (role_node (out-Stmt s))

let_binds_as : (b : Bool) (p : made.OfPat) (e : made.OfExpr) → (if b then Function p.names else Values p.names) ≡ (let_stmt b p e).binds
let_binds_as true p e = refl
let_binds_as false p e = refl

let_found : (p : Pat) (e : Expr) → judged.let_binds (found_pat p) (found_expr e) ≡ (let_stmt (defines p e) (made_pat p) (made_expr e)).binds
let_found p e =
    ap (λ b. if b && (found_expr e).is_abstraction then Function (found_pat p).names else Values (found_pat p).names) (found_is_name p ∙ sym (made_is_name p))
    ∙ ap (λ b. if (made_pat p).is_name && b then Function (found_pat p).names else Values (found_pat p).names) (found_is_function e ∙ sym (made_is_function e))
    ∙ ap (λ ns. if defines p e then Function ns else Values ns) (found_names p ∙ sym (made_names p))
    ∙ let_binds_as (defines p e) (made_pat p) (made_expr e)

binds_node : (x : StmtTree written) → (stmt_found x).binds ≡ (stmt_made x).binds
binds_node (layer.Let p e) = let_found p e
binds_node _ = refl

pub same_binds : (s : Stmt) → (found_stmt s).binds ≡ (made_stmt s).binds
same_binds s =
    ap (λ (z : judged.OfStmt). z.binds) (fold_out-Stmt _ _ _ _ _ _ _ _ _ _ s)
    ∙ binds_node (out-Stmt s)
    ∙ ap (λ (z : made.OfStmt). z.binds) (sym (fold_out-Stmt _ _ _ _ _ _ _ _ _ _ s))

-- an abstraction becomes the number of its unit, which is the first of its own
pub abstraction_numbered : (e : Expr) (p : Pat) (value : Expr) → out-Expr e ≡ layer.Abs p value → (scope : made.Scope) (n : ℕ)
    → ((made_expr e).part.make scope n).0 ≡ expr.Abs n
abstraction_numbered e p value is scope n =
    ap (λ (z : made.OfExpr). (z.part.make scope n).0) (fold_out-Expr _ _ _ _ _ _ _ _ _ _ e ∙ ap expr_made is)
