-- Worked numbered trees.
use Rattle.std.proofs.Common.{◌≡◌, refl, ap, sym, ◌∙◌, ℕ, pos, Bool, true, false, List, [], ◌∷◌, ◌++◌, map, Some, None}
use Rattle.std.specs.Prelude.{codes}
use Rattle.hum_syntax.specs.declared.tree.Expr.TheOpen as layer
use Rattle.hum_syntax.specs.declared.tree.Expr.TheVariants as written_expr
use Rattle.hum_syntax.specs.declared.tree.Pat.TheVariants as written_pat
use Rattle.hum_syntax.specs.declared.tree.Stmt.TheVariants as written_stmt
use Rattle.hum_syntax.specs.Spells as spelled
use Rattle.hum_syntax.proofs.Folding as folding
use Rattle.hum_syntax.proofs.Folding.{Steps}
use Rattle.hum_core.specs.declared.slot.Slot.{Slot}
use Rattle.hum_core.specs.declared.slot.Const.{Const}
use Rattle.hum_core.specs.declared.slot.Const.TheVariants as const
use Rattle.hum_core.specs.declared.resolved.CoreUnit.{CoreUnit}
use Rattle.hum_core.specs.declared.resolved.CoreUnit.TheVariants as unit
use Rattle.hum_core.specs.declared.resolved.CoreStmt.TheVariants as stmt
use Rattle.hum_core.specs.declared.resolved.CoreExpr.{CoreExpr}
use Rattle.hum_core.specs.declared.resolved.CoreExpr.TheVariants as expr
use Rattle.hum_core.specs.declared.resolved.CorePat.{CorePat}
use Rattle.hum_core.specs.declared.resolved.CorePat.TheVariants as pat
use Rattle.hum_core.specs.declared.resolved.CoreArm.{CoreArm, roll-CoreArm}
use Rattle.hum_core.specs.declared.resolved.CoreBranch.{CoreBranch, roll-CoreBranch}
use Rattle.hum_core.specs.declared.resolved.CoreExpr.TheOpen as core
use Rattle.hum_core.specs.declared.resolved.CoreExpr.TheFolds as folds
use Rattle.hum_core.specs.declared.tested.TestExpr.{TestExpr}
use Rattle.hum_core.specs.declared.tested.TestArm.{TestArm}
use Rattle.hum_core.specs.declared.tested.TestBranch.{TestBranch}
use Rattle.hum_core.specs.declared.tested.Test.{Test}
use Rattle.hum_core.specs.declared.tested.Test.TheVariants as test
use Rattle.hum_meaning.specs.Named.{written}
use Rattle.hum_meaning.specs.Look.{outermost}
use Rattle.hum_core.specs.Alike.{scope_of}
use Rattle.hum_core.specs.Units.{Part, OfExpr, OfPat, OfStmt, of_expr, of_pat, of_stmt, of_arm, of_branch, of_file, resolved, block as block_unit}
use Rattle.hum_core.specs.Formed as formed
use Rattle.hum_core.specs.Lists.{expr_tested, pat_tested, arm_tested, branch_tested, tuple_tested, tested_pat}
use Rattle.hum_core.specs.CoreTrees.{Core}
use Rattle.hum_core.specs.Numbered.{Of, members, at_slot}
use Rattle.hum_meaning.specs.Value.{Nil, Plain, Function, Env, Outside, Bind, Group}
use Rattle.hum_meaning.proofs.Plain.{Expr, Pat, Stmt, Arm, Branch, Exprs, Pats, Stmts, Arms, Branches, undefined, nil, myself, truth, int, symbol, text, var, abs, block_of, call, tuple_of, new, case_of, if_of, if_else_of, any, nil_pat, bind, int_pat, symbol_pat, value, tuple_pat_of, let_, send, create, become, throw, perform, arm, branch_of, no_expr, and_expr, no_pat, and_pat, no_stmt, and_stmt, no_arm, and_arm, no_branch, and_branch, stmts, branches, block, cases, when, num, pair, triple, pair_pat, triple_pat, define, set, println, say}

-- ---- what plain trees become

mutual
  in_expr : Expr → OfExpr
  in_expr undefined = of_expr layer.Expr::Undef
  in_expr nil = of_expr layer.Expr::Nil
  in_expr myself = of_expr layer.Myself
  in_expr (truth true) = of_expr layer.Expr::True
  in_expr (truth false) = of_expr layer.Expr::False
  in_expr (int n) = of_expr (layer.Expr::Num n)
  in_expr (symbol name) = of_expr (layer.Expr::Sym (codes name))
  in_expr (text points) = of_expr (layer.Text (codes points))
  in_expr (var name) = of_expr (layer.Var (codes name))
  in_expr (abs p e) = of_expr (layer.Abs (in_pat p) (in_expr e))
  in_expr (block_of ss) = of_expr (layer.Block (in_stmts ss))
  in_expr (call f a) = of_expr (layer.Call (in_expr f) (in_expr a))
  in_expr (tuple_of es) = of_expr (layer.Expr::Tuple (in_exprs es))
  in_expr (new e) = of_expr (layer.New (in_expr e))
  in_expr (case_of e xs) = of_expr (layer.Case (in_expr e) (in_arms xs))
  in_expr (if_of bs) = of_expr (layer.If (in_branches bs) None)
  in_expr (if_else_of bs ss) = of_expr (layer.If (in_branches bs) (Some (in_stmts ss)))

  in_pat : Pat → OfPat
  in_pat any = of_pat layer.Any
  in_pat nil_pat = of_pat layer.Pat::Nil
  in_pat (bind name) = of_pat (layer.Bind (codes name))
  in_pat (int_pat n) = of_pat (layer.Pat::Num n)
  in_pat (symbol_pat name) = of_pat (layer.Pat::Sym (codes name))
  in_pat (value e) = of_pat (layer.Value (in_expr e))
  in_pat (tuple_pat_of ps) = of_pat (layer.Pat::Tuple (in_pats ps))

  in_stmt : Stmt → OfStmt
  in_stmt (let_ p e) = of_stmt (layer.Let (in_pat p) (in_expr e))
  in_stmt (send e a) = of_stmt (layer.Send (in_expr e) (in_expr a))
  in_stmt (create name e) = of_stmt (layer.Create (codes name) (in_expr e))
  in_stmt (become e) = of_stmt (layer.Become (in_expr e))
  in_stmt (throw e) = of_stmt (layer.Throw (in_expr e))
  in_stmt (perform e) = of_stmt (layer.Do (in_expr e))

  in_arm : Arm → Part CoreArm
  in_arm (arm p e) = of_arm (record { pattern = in_pat p; value = in_expr e })

  in_branch : Branch → Part CoreBranch
  in_branch (branch_of e ss) = of_branch (record { condition = in_expr e; block = in_stmts ss })

  in_exprs : Exprs → List OfExpr
  in_exprs no_expr = []
  in_exprs (and_expr x xs) = in_expr x ∷ in_exprs xs

  in_pats : Pats → List OfPat
  in_pats no_pat = []
  in_pats (and_pat x xs) = in_pat x ∷ in_pats xs

  in_stmts : Stmts → List OfStmt
  in_stmts no_stmt = []
  in_stmts (and_stmt x xs) = in_stmt x ∷ in_stmts xs

  in_arms : Arms → List (Part CoreArm)
  in_arms no_arm = []
  in_arms (and_arm x xs) = in_arm x ∷ in_arms xs

  in_branches : Branches → List (Part CoreBranch)
  in_branches no_branch = []
  in_branches (and_branch x xs) = in_branch x ∷ in_branches xs

abbrev units : List Stmt → List CoreUnit
units file = ((block_unit (in_stmts (stmts file))).make (scope_of (outermost written)) 0).1

-- ---- the same trees as tokens spell them

mutual
  expr_tree : Expr → written.Expr
  expr_tree undefined = written_expr.Undef
  expr_tree nil = written_expr.Nil
  expr_tree myself = written_expr.Myself
  expr_tree (truth true) = written_expr.True
  expr_tree (truth false) = written_expr.False
  expr_tree (int n) = written_expr.Num n
  expr_tree (symbol name) = written_expr.Sym (codes name)
  expr_tree (text points) = written_expr.Text (codes points)
  expr_tree (var name) = written_expr.Var (codes name)
  expr_tree (abs p e) = written_expr.Abs (pat_tree p) (expr_tree e)
  expr_tree (block_of ss) = written_expr.Block (stmt_trees ss)
  expr_tree (call f a) = written_expr.Call (expr_tree f) (expr_tree a)
  expr_tree (tuple_of es) = written_expr.Tuple (expr_trees es)
  expr_tree (new e) = written_expr.New (expr_tree e)
  expr_tree (case_of e xs) = written_expr.Case (expr_tree e) (arm_trees xs)
  expr_tree (if_of bs) = written_expr.If (branch_trees bs) None
  expr_tree (if_else_of bs ss) = written_expr.If (branch_trees bs) (Some (stmt_trees ss))

  pat_tree : Pat → written.Pat
  pat_tree any = written_pat.Any
  pat_tree nil_pat = written_pat.Nil
  pat_tree (bind name) = written_pat.Bind (codes name)
  pat_tree (int_pat n) = written_pat.Num n
  pat_tree (symbol_pat name) = written_pat.Sym (codes name)
  pat_tree (value e) = written_pat.Value (expr_tree e)
  pat_tree (tuple_pat_of ps) = written_pat.Tuple (pat_trees ps)

  stmt_tree : Stmt → written.Stmt
  stmt_tree (let_ p e) = written_stmt.Let (pat_tree p) (expr_tree e)
  stmt_tree (send e a) = written_stmt.Send (expr_tree e) (expr_tree a)
  stmt_tree (create name e) = written_stmt.Create (codes name) (expr_tree e)
  stmt_tree (become e) = written_stmt.Become (expr_tree e)
  stmt_tree (throw e) = written_stmt.Throw (expr_tree e)
  stmt_tree (perform e) = written_stmt.Do (expr_tree e)

  arm_tree : Arm → written.Arm
  arm_tree (arm p e) = spelled.arm (pat_tree p) (expr_tree e)

  branch_tree : Branch → written.Branch
  branch_tree (branch_of e ss) = spelled.branch (expr_tree e) (stmt_trees ss)

  expr_trees : Exprs → List written.Expr
  expr_trees no_expr = []
  expr_trees (and_expr x xs) = expr_tree x ∷ expr_trees xs

  pat_trees : Pats → List written.Pat
  pat_trees no_pat = []
  pat_trees (and_pat x xs) = pat_tree x ∷ pat_trees xs

  stmt_trees : Stmts → List written.Stmt
  stmt_trees no_stmt = []
  stmt_trees (and_stmt x xs) = stmt_tree x ∷ stmt_trees xs

  arm_trees : Arms → List written.Arm
  arm_trees no_arm = []
  arm_trees (and_arm x xs) = arm_tree x ∷ arm_trees xs

  branch_trees : Branches → List written.Branch
  branch_trees no_branch = []
  branch_trees (and_branch x xs) = branch_tree x ∷ branch_trees xs

abbrev steps : Steps OfExpr OfPat OfStmt (Part CoreArm) (Part CoreBranch)
steps = record { expr = of_expr; pat = of_pat; stmt = of_stmt; an_arm = of_arm; a_branch = of_branch }

mutual
  unfolding expr_tree in_expr

  expr_same : (e : Expr) → folding.of_expr steps (expr_tree e) ≡ in_expr e
  expr_same undefined = folding.fold_undef steps
  expr_same nil = folding.fold_nil steps
  expr_same myself = folding.fold_myself steps
  expr_same (truth true) = folding.fold_true steps
  expr_same (truth false) = folding.fold_false steps
  expr_same (int n) = folding.fold_num steps n
  expr_same (symbol name) = folding.fold_sym steps (codes name)
  expr_same (text points) = folding.fold_text steps (codes points)
  expr_same (var name) = folding.fold_var steps (codes name)
  expr_same (abs p e) = folding.fold_abs steps _ _ ∙ (λ i. of_expr (layer.Abs (pat_same p i) (expr_same e i)))
  expr_same (block_of ss) = folding.fold_block steps _ ∙ (λ i. of_expr (layer.Block (stmts_same ss i)))
  expr_same (call f a) = folding.fold_call steps _ _ ∙ (λ i. of_expr (layer.Call (expr_same f i) (expr_same a i)))
  expr_same (tuple_of es) = folding.fold_tuple steps _ ∙ (λ i. of_expr (layer.Expr::Tuple (exprs_same es i)))
  expr_same (new e) = folding.fold_new steps _ ∙ (λ i. of_expr (layer.New (expr_same e i)))
  expr_same (case_of e xs) = folding.fold_case steps _ _ ∙ (λ i. of_expr (layer.Case (expr_same e i) (arms_same xs i)))
  expr_same (if_of bs) = folding.fold_if steps _ ∙ (λ i. of_expr (layer.If (branches_same bs i) None))
  expr_same (if_else_of bs ss) = folding.fold_if_else steps _ _ ∙ (λ i. of_expr (layer.If (branches_same bs i) (Some (stmts_same ss i))))

  pat_same : (p : Pat) → folding.of_pat steps (pat_tree p) ≡ in_pat p
  pat_same any = folding.fold_any steps
  pat_same nil_pat = folding.fold_pat_nil steps
  pat_same (bind name) = folding.fold_bind steps (codes name)
  pat_same (int_pat n) = folding.fold_pat_num steps n
  pat_same (symbol_pat name) = folding.fold_pat_sym steps (codes name)
  pat_same (value e) = folding.fold_value steps _ ∙ (λ i. of_pat (layer.Value (expr_same e i)))
  pat_same (tuple_pat_of ps) = folding.fold_pat_tuple steps _ ∙ (λ i. of_pat (layer.Pat::Tuple (pats_same ps i)))

  stmt_same : (s : Stmt) → of_file (stmt_tree s) ≡ in_stmt s
  stmt_same (let_ p e) = folding.fold_let steps _ _ ∙ (λ i. of_stmt (layer.Let (pat_same p i) (expr_same e i)))
  stmt_same (send e a) = folding.fold_send steps _ _ ∙ (λ i. of_stmt (layer.Send (expr_same e i) (expr_same a i)))
  stmt_same (create name e) = folding.fold_create steps _ _ ∙ (λ i. of_stmt (layer.Create (codes name) (expr_same e i)))
  stmt_same (become e) = folding.fold_become steps _ ∙ (λ i. of_stmt (layer.Become (expr_same e i)))
  stmt_same (throw e) = folding.fold_throw steps _ ∙ (λ i. of_stmt (layer.Throw (expr_same e i)))
  stmt_same (perform e) = folding.fold_do steps _ ∙ (λ i. of_stmt (layer.Do (expr_same e i)))

  arm_same : (a : Arm) → folding.of_arm steps (arm_tree a) ≡ in_arm a
  arm_same (arm p e) = folding.fold_arm steps _ _ ∙ (λ i. of_arm (record { pattern = pat_same p i; value = expr_same e i }))

  branch_same : (b : Branch) → folding.of_branch steps (branch_tree b) ≡ in_branch b
  branch_same (branch_of e ss) = folding.fold_branch steps _ _ ∙ (λ i. of_branch (record { condition = expr_same e i; block = stmts_same ss i }))

  exprs_same : (es : Exprs) → map (folding.of_expr steps) (expr_trees es) ≡ in_exprs es
  exprs_same no_expr = refl
  exprs_same (and_expr x xs) = λ i. expr_same x i ∷ exprs_same xs i

  pats_same : (ps : Pats) → map (folding.of_pat steps) (pat_trees ps) ≡ in_pats ps
  pats_same no_pat = refl
  pats_same (and_pat x xs) = λ i. pat_same x i ∷ pats_same xs i

  stmts_same : (ss : Stmts) → map of_file (stmt_trees ss) ≡ in_stmts ss
  stmts_same no_stmt = refl
  stmts_same (and_stmt x xs) = λ i. stmt_same x i ∷ stmts_same xs i

  arms_same : (xs : Arms) → map (folding.of_arm steps) (arm_trees xs) ≡ in_arms xs
  arms_same no_arm = refl
  arms_same (and_arm x xs) = λ i. arm_same x i ∷ arms_same xs i

  branches_same : (bs : Branches) → map (folding.of_branch steps) (branch_trees bs) ≡ in_branches bs
  branches_same no_branch = refl
  branches_same (and_branch x xs) = λ i. branch_same x i ∷ branches_same xs i

-- the rows below are of what a file becomes
units_of_a_file : (file : List Stmt) → resolved (stmt_trees (stmts file)) ≡ units file
units_of_a_file file = ap (λ ss. ((block_unit ss).make (scope_of (outermost written)) 0).1) (stmts_same (stmts file))

abbrev slot : ℕ → Slot
slot back = record { back = back; member = None }

abbrev in_group : ℕ → ℕ → Slot
in_group back member = record { back = back; member = Some member }

abbrev var_at : ℕ → CoreExpr
var_at back = expr.Var (slot back)

abbrev var_in_group : ℕ → ℕ → CoreExpr
var_in_group back member = expr.Var (in_group back member)

abbrev number : ℕ → CoreExpr
number n = expr.Is (const.Num (pos n))

abbrev core_arm : CorePat → CoreExpr → CoreArm
core_arm p e = roll-CoreArm (record { pattern = p; value = e })

abbrev core_branch : CoreExpr → ℕ → CoreBranch
core_branch e k = roll-CoreBranch (record { condition = e; block = k })

-- ---- slots

-- (add, less, say): the oldest of the outermost entries, one between, and the newest
outermost_entries : units (perform (triple (var "add") (var "less") say) ∷ [])
    ≡ unit.Block (stmt.Do (expr.Tuple (var_at 13 ∷ var_at 9 ∷ var_at 0 ∷ [])) ∷ []) ∷ []
unfolding in_stmts
outermost_entries = refl

-- SEND 1 TO println: of the outermost entries only `say` was bound later
one_statement : units (send (num 1) println ∷ []) ≡ unit.Block (stmt.Send (expr.Is (const.Num (pos 1))) (expr.Var (slot 1)) ∷ []) ∷ []
unfolding in_stmts
one_statement = refl

-- LET f(x) = g(x)
-- LET g(y) = f(y)
-- SEND f TO say
two_functions : units (define "f" (bind "x") (call (var "g") (var "x")) ∷ define "g" (bind "y") (call (var "f") (var "y")) ∷ send (var "f") (var "say") ∷ [])
    ≡ unit.Block (stmt.Group (1 ∷ 2 ∷ []) ∷ stmt.Defined ∷ stmt.Send (expr.Var (in_group 0 0)) (expr.Var (slot 1)) ∷ [])
    ∷ unit.Abs pat.Bind (expr.Call (expr.Var (in_group 1 1)) (expr.Var (slot 0)))
    ∷ unit.Abs pat.Bind (expr.Call (expr.Var (in_group 1 0)) (expr.Var (slot 0))) ∷ []
unfolding in_stmts
two_functions = refl

-- LET x = 1
-- CASE 2 OF (a, $x) : \_.a _ : x END
in_a_pattern : units (set "x" (num 1) ∷ perform (cases (num 2) (arm (pair_pat (bind "a") (value (var "x"))) (abs any (var "a")) ∷ arm any (var "x") ∷ [])) ∷ [])
    ≡ unit.Block (stmt.Let pat.Bind (expr.Is (const.Num (pos 1))) ∷ stmt.Do (expr.Case (expr.Is (const.Num (pos 2))) (
    roll-CoreArm (record { pattern = pat.Tuple (pat.Bind ∷ pat.Value (expr.Var (slot 0)) ∷ []); value = expr.Abs 1 })
    ∷ roll-CoreArm (record { pattern = pat.Any; value = expr.Var (slot 0) }) ∷ [])) ∷ [])
    ∷ unit.Abs pat.Any (expr.Var (slot 0)) ∷ []
unfolding in_stmts
in_a_pattern = refl

-- IF TRUE [ SEND 1 TO say ] ELIF FALSE [ ]
-- [ ]
without_else : units (perform (if_of (branches (when (truth true) (send (num 1) (var "say") ∷ []) ∷ when (truth false) [] ∷ []))) ∷ perform (block []) ∷ [])
    ≡ unit.Block (stmt.Do (expr.If (
    roll-CoreBranch (record { condition = expr.Is const.True; block = 1 }) ∷ roll-CoreBranch (record { condition = expr.Is const.False; block = 2 }) ∷ []) 3)
    ∷ stmt.Do (expr.Block 4) ∷ [])
    ∷ unit.Block (stmt.Send (expr.Is (const.Num (pos 1))) (expr.Var (slot 0)) ∷ []) ∷ unit.Block [] ∷ unit.Block [] ∷ unit.Block [] ∷ []
unfolding in_stmts
without_else = refl

-- ---- groups

-- LET f(x) = g(x)
-- SEND f TO say
-- LET g(y) = f(y)
-- LET v = f
-- LET h(z) = k(v)
-- LET k(w) = h(g)
-- SEND k TO say
-- The statement between f and g ends no stretch, and the value does. A group is one entry.
two_stretches : units (define "f" (bind "x") (call (var "g") (var "x")) ∷ send (var "f") say ∷ define "g" (bind "y") (call (var "f") (var "y"))
    ∷ set "v" (var "f") ∷ define "h" (bind "z") (call (var "k") (var "v")) ∷ define "k" (bind "w") (call (var "h") (var "g")) ∷ send (var "k") say ∷ [])
    ≡ unit.Block (stmt.Group (1 ∷ 2 ∷ []) ∷ stmt.Send (var_in_group 0 0) (var_at 1) ∷ stmt.Defined ∷ stmt.Let pat.Bind (var_in_group 0 0)
    ∷ stmt.Group (3 ∷ 4 ∷ []) ∷ stmt.Defined ∷ stmt.Send (var_in_group 0 1) (var_at 3) ∷ [])
    ∷ unit.Abs pat.Bind (expr.Call (var_in_group 1 1) (var_at 0))
    ∷ unit.Abs pat.Bind (expr.Call (var_in_group 1 0) (var_at 0))
    ∷ unit.Abs pat.Bind (expr.Call (var_in_group 1 1) (var_at 2))
    ∷ unit.Abs pat.Bind (expr.Call (var_in_group 1 0) (var_in_group 3 1)) ∷ []
unfolding in_stmts
two_stretches = refl

-- LET f(x) = [ LET g(y) = f(x) [ SEND g TO f ] ]
-- LET h(x) = x
-- [ f [ LET h(z) = f(h) ] ]
-- The group of f and h is seen from inside, and the units of f come before that of h.
nested_blocks : units (define "f" (bind "x") (block (define "g" (bind "y") (call (var "f") (var "x")) ∷ perform (block (send (var "g") (var "f") ∷ [])) ∷ []))
    ∷ define "h" (bind "x") (var "x")
    ∷ perform (block (perform (var "f") ∷ perform (block (define "h" (bind "z") (call (var "f") (var "h")) ∷ [])) ∷ [])) ∷ [])
    ≡ unit.Block (stmt.Group (1 ∷ 5 ∷ []) ∷ stmt.Defined ∷ stmt.Do (expr.Block 6) ∷ [])
    ∷ unit.Abs pat.Bind (expr.Block 2)
    ∷ unit.Block (stmt.Group (3 ∷ []) ∷ stmt.Do (expr.Block 4) ∷ [])
    ∷ unit.Abs pat.Bind (expr.Call (var_in_group 3 0) (var_at 2))
    ∷ unit.Block (stmt.Send (var_in_group 0 0) (var_in_group 2 0) ∷ [])
    ∷ unit.Abs pat.Bind (var_at 0)
    ∷ unit.Block (stmt.Do (var_in_group 0 0) ∷ stmt.Do (expr.Block 7) ∷ [])
    ∷ unit.Block (stmt.Group (8 ∷ []) ∷ [])
    ∷ unit.Abs pat.Bind (expr.Call (var_in_group 2 0) (var_in_group 1 0)) ∷ []
unfolding in_stmts
nested_blocks = refl

-- LET f(x) = x
-- CREATE a WITH f
-- LET g(y) = f(a)
-- A `CREATE` ends a stretch.
created_between : units (define "f" (bind "x") (var "x") ∷ create "a" (var "f") ∷ define "g" (bind "y") (call (var "f") (var "a")) ∷ [])
    ≡ unit.Block (stmt.Group (1 ∷ []) ∷ stmt.Create (var_in_group 0 0) ∷ stmt.Group (2 ∷ []) ∷ [])
    ∷ unit.Abs pat.Bind (var_at 0)
    ∷ unit.Abs pat.Bind (expr.Call (var_in_group 3 0) (var_at 2)) ∷ []
unfolding in_stmts
created_between = refl

-- LET (f, g) = (\x.x, \y.y)
-- LET _ = \z.f
-- Neither defines a function.
no_functions : units (let_ (pair_pat (bind "f") (bind "g")) (pair (abs (bind "x") (var "x")) (abs (bind "y") (var "y")))
    ∷ let_ any (abs (bind "z") (var "f")) ∷ [])
    ≡ unit.Block (stmt.Let (pat.Tuple (pat.Bind ∷ pat.Bind ∷ [])) (expr.Tuple (expr.Abs 1 ∷ expr.Abs 2 ∷ [])) ∷ stmt.Let pat.Any (expr.Abs 3) ∷ [])
    ∷ unit.Abs pat.Bind (var_at 0) ∷ unit.Abs pat.Bind (var_at 0) ∷ unit.Abs pat.Bind (var_at 2) ∷ []
unfolding in_stmts
no_functions = refl

-- ---- names of values and of actors

-- LET (a, (b, c)) = (1, 2, 3)
-- SEND (a, b, c) TO println
-- Each name of a pattern is an entry, the last one the newest.
names_in_order : units (let_ (pair_pat (bind "a") (pair_pat (bind "b") (bind "c"))) (triple (num 1) (num 2) (num 3))
    ∷ send (triple (var "a") (var "b") (var "c")) println ∷ [])
    ≡ unit.Block (stmt.Let (pat.Tuple (pat.Bind ∷ pat.Tuple (pat.Bind ∷ pat.Bind ∷ []) ∷ [])) (expr.Tuple (number 1 ∷ number 2 ∷ number 3 ∷ []))
    ∷ stmt.Send (expr.Tuple (var_at 2 ∷ var_at 1 ∷ var_at 0 ∷ [])) (var_at 4) ∷ []) ∷ []
unfolding in_stmts
names_in_order = refl

-- CREATE a WITH \m.[ SEND m TO SELF ]
-- CREATE b WITH a
-- SEND b TO a
created_and_used : units (create "a" (abs (bind "m") (block (send (var "m") myself ∷ []))) ∷ create "b" (var "a") ∷ send (var "b") (var "a") ∷ [])
    ≡ unit.Block (stmt.Create (expr.Abs 1) ∷ stmt.Create (var_at 0) ∷ stmt.Send (var_at 0) (var_at 1) ∷ [])
    ∷ unit.Abs pat.Bind (expr.Block 2)
    ∷ unit.Block (stmt.Send (var_at 0) expr.Myself ∷ []) ∷ []
unfolding in_stmts
created_and_used = refl

-- CREATE println WITH println
-- LET add(x) = \x.add(x)
-- SEND CASE println OF println : println END TO println
-- The newest entry of a name is meant; in the expression of a `CREATE` its own name is not seen.
shadowed : units (create "println" println ∷ define "add" (bind "x") (abs (bind "x") (call (var "add") (var "x")))
    ∷ send (cases println (arm (bind "println") println ∷ [])) println ∷ [])
    ≡ unit.Block (stmt.Create (var_at 1) ∷ stmt.Group (1 ∷ [])
    ∷ stmt.Send (expr.Case (var_at 1) (core_arm pat.Bind (var_at 0) ∷ [])) (var_at 1) ∷ [])
    ∷ unit.Abs pat.Bind (expr.Abs 2)
    ∷ unit.Abs pat.Bind (expr.Call (var_in_group 2 0) (var_at 0)) ∷ []
unfolding in_stmts
shadowed = refl

-- LET x = 1
-- [ LET x = x LET y = x ]
-- SEND x TO println
-- What a block binds is not seen behind it.
block_ends : units (set "x" (num 1) ∷ perform (block (set "x" (var "x") ∷ set "y" (var "x") ∷ [])) ∷ send (var "x") println ∷ [])
    ≡ unit.Block (stmt.Let pat.Bind (number 1) ∷ stmt.Do (expr.Block 1) ∷ stmt.Send (var_at 0) (var_at 2) ∷ [])
    ∷ unit.Block (stmt.Let pat.Bind (var_at 0) ∷ stmt.Let pat.Bind (var_at 0) ∷ []) ∷ []
unfolding in_stmts
block_ends = refl

-- ---- expressions in patterns

-- LET x = 1
-- CASE (2, 3, 4) OF
-- (a, $(\_.x), (b, $x)) : [ SEND (a, b) TO say ]
-- a : \b.x
-- END
-- `$` sees the entries outside the whole pattern. The units of a pattern come before those of what sees its names.
in_a_tuple : units (set "x" (num 1) ∷ perform (cases (triple (num 2) (num 3) (num 4)) (
    arm (triple_pat (bind "a") (value (abs any (var "x"))) (pair_pat (bind "b") (value (var "x")))) (block (send (pair (var "a") (var "b")) say ∷ []))
    ∷ arm (bind "a") (abs (bind "b") (var "x")) ∷ [])) ∷ [])
    ≡ unit.Block (stmt.Let pat.Bind (number 1) ∷ stmt.Do (expr.Case (expr.Tuple (number 2 ∷ number 3 ∷ number 4 ∷ [])) (
    core_arm (pat.Tuple (pat.Bind ∷ pat.Value (expr.Abs 1) ∷ pat.Tuple (pat.Bind ∷ pat.Value (var_at 0) ∷ []) ∷ [])) (expr.Block 2)
    ∷ core_arm pat.Bind (expr.Abs 3) ∷ [])) ∷ [])
    ∷ unit.Abs pat.Any (var_at 0)
    ∷ unit.Block (stmt.Send (expr.Tuple (var_at 1 ∷ var_at 0 ∷ [])) (var_at 3) ∷ [])
    ∷ unit.Abs pat.Bind (var_at 2) ∷ []
unfolding in_stmts
in_a_tuple = refl

-- LET $[ ] = \x.x
-- \(a, $[ ], b).\_.b
-- An abstraction's unit comes before those of its pattern, and these before those of its body.
units_of_patterns : units (let_ (value (block [])) (abs (bind "x") (var "x"))
    ∷ perform (abs (triple_pat (bind "a") (value (block [])) (bind "b")) (abs any (var "b"))) ∷ [])
    ≡ unit.Block (stmt.Let (pat.Value (expr.Block 1)) (expr.Abs 2) ∷ stmt.Do (expr.Abs 3) ∷ [])
    ∷ unit.Block []
    ∷ unit.Abs pat.Bind (var_at 0)
    ∷ unit.Abs (pat.Tuple (pat.Bind ∷ pat.Value (expr.Block 4) ∷ pat.Bind ∷ [])) (expr.Abs 5)
    ∷ unit.Block []
    ∷ unit.Abs pat.Any (var_at 0) ∷ []
unfolding in_stmts
units_of_patterns = refl

-- ---- numbers of units

-- SEND [ ] TO (\x.x)([ ])
-- BECOME (\y.y, [ ])
-- THROW NEW [ ]
in_order_of_spelling : units (send (block []) (call (abs (bind "x") (var "x")) (block [])) ∷ become (pair (abs (bind "y") (var "y")) (block []))
    ∷ throw (new (block [])) ∷ [])
    ≡ unit.Block (stmt.Send (expr.Block 1) (expr.Call (expr.Abs 2) (expr.Block 3)) ∷ stmt.Become (expr.Tuple (expr.Abs 4 ∷ expr.Block 5 ∷ []))
    ∷ stmt.Throw (expr.New (expr.Block 6)) ∷ [])
    ∷ unit.Block [] ∷ unit.Abs pat.Bind (var_at 0) ∷ unit.Block [] ∷ unit.Abs pat.Bind (var_at 0) ∷ unit.Block [] ∷ unit.Block [] ∷ []
unfolding in_stmts
in_order_of_spelling = refl

-- IF less(1, 2) [ SEND \x.x TO say ]
-- ELIF (\y.y)(TRUE) [ LET f(z) = [ ] f(1) ]
-- \w.w
-- The empty block of the missing `ELSE` comes behind all units of the last branch.
branches_with_units : units (perform (if_of (branches (when (call (var "less") (pair (num 1) (num 2))) (send (abs (bind "x") (var "x")) say ∷ [])
    ∷ when (call (abs (bind "y") (var "y")) (truth true)) (define "f" (bind "z") (block []) ∷ perform (call (var "f") (num 1)) ∷ []) ∷ [])))
    ∷ perform (abs (bind "w") (var "w")) ∷ [])
    ≡ unit.Block (stmt.Do (expr.If (core_branch (expr.Call (var_at 9) (expr.Tuple (number 1 ∷ number 2 ∷ []))) 1
    ∷ core_branch (expr.Call (expr.Abs 3) (expr.Is const.True)) 4 ∷ []) 7) ∷ stmt.Do (expr.Abs 8) ∷ [])
    ∷ unit.Block (stmt.Send (expr.Abs 2) (var_at 0) ∷ [])
    ∷ unit.Abs pat.Bind (var_at 0)
    ∷ unit.Abs pat.Bind (var_at 0)
    ∷ unit.Block (stmt.Group (5 ∷ []) ∷ stmt.Do (expr.Call (var_in_group 0 0) (number 1)) ∷ [])
    ∷ unit.Abs pat.Bind (expr.Block 6)
    ∷ unit.Block []
    ∷ unit.Block []
    ∷ unit.Abs pat.Bind (var_at 0) ∷ []
unfolding in_stmts
branches_with_units = refl

-- IF TRUE [ IF FALSE [ ] ]
-- The inner missing `ELSE` comes before the outer one.
one_if_in_another : units (perform (if_of (branches (when (truth true) (perform (if_of (branches (when (truth false) [] ∷ []))) ∷ []) ∷ []))) ∷ [])
    ≡ unit.Block (stmt.Do (expr.If (core_branch (expr.Is const.True) 1 ∷ []) 4) ∷ [])
    ∷ unit.Block (stmt.Do (expr.If (core_branch (expr.Is const.False) 2 ∷ []) 3) ∷ [])
    ∷ unit.Block [] ∷ unit.Block [] ∷ unit.Block [] ∷ []
unfolding in_stmts
one_if_in_another = refl

-- IF TRUE [ ] ELSE [ \x.x ]
with_else : units (perform (if_else_of (branches (when (truth true) [] ∷ [])) (stmts (perform (abs (bind "x") (var "x")) ∷ []))) ∷ [])
    ≡ unit.Block (stmt.Do (expr.If (core_branch (expr.Is const.True) 1 ∷ []) 2) ∷ [])
    ∷ unit.Block [] ∷ unit.Block (stmt.Do (expr.Abs 3) ∷ []) ∷ unit.Abs pat.Bind (var_at 0) ∷ []
unfolding in_stmts
with_else = refl

-- ---- constants

-- ?
-- NIL
-- #red
-- SEND "hi" TO say
-- CASE "" OF () : 1 2 : 2 #red : 3 END
constants : units (perform undefined ∷ perform nil ∷ perform (symbol "red") ∷ send (text "hi") say
    ∷ perform (cases (text "") (arm nil_pat (num 1) ∷ arm (int_pat (pos 2)) (num 2) ∷ arm (symbol_pat "red") (num 3) ∷ [])) ∷ [])
    ≡ unit.Block (stmt.Do (expr.Is const.Undef) ∷ stmt.Do (expr.Is const.Nil) ∷ stmt.Do (expr.Is (const.Sym (codes "red")))
    ∷ stmt.Send (expr.Text (codes "hi")) (var_at 0)
    ∷ stmt.Do (expr.Case (expr.Text []) (core_arm (pat.Is const.Nil) (number 1) ∷ core_arm (pat.Is (const.Num (pos 2))) (number 2)
    ∷ core_arm (pat.Is (const.Sym (codes "red"))) (number 3) ∷ [])) ∷ []) ∷ []
unfolding in_stmts
constants = refl

-- ---- formed trees

-- a file and an abstraction
abbrev kinds : List Bool
kinds = false ∷ true ∷ []

an_abstraction : formed.expr_formed kinds (core.Abs 1) ≡ true
an_abstraction = refl

no_abstraction : formed.expr_formed kinds (core.Abs 0) ≡ false
no_abstraction = refl

no_unit : formed.expr_formed kinds (core.Abs 2) ≡ false
no_unit = refl

a_block : formed.expr_formed kinds (core.Block 0) ≡ true
a_block = refl

no_block : formed.expr_formed kinds (core.Block 1) ≡ false
no_block = refl

one_item : formed.expr_formed kinds (core.CoreExpr::Tuple (true ∷ [])) ≡ false
one_item = refl

two_items : formed.expr_formed kinds (core.CoreExpr::Tuple (true ∷ true ∷ [])) ≡ true
two_items = refl

one_item_in_a_pattern : formed.pat_formed kinds (core.CorePat::Tuple (true ∷ [])) ≡ false
one_item_in_a_pattern = refl

no_arm_there : formed.expr_formed kinds (core.Case true []) ≡ false
no_arm_there = refl

no_branch_there : formed.expr_formed kinds (core.If [] 0) ≡ false
no_branch_there = refl

else_is_no_block : formed.expr_formed kinds (core.If (true ∷ []) 1) ≡ false
else_is_no_block = refl

group_of_a_block : formed.is_formed_stmt kinds (stmt.Group (1 ∷ 0 ∷ [])) ≡ false
group_of_a_block = refl

group_of_none : formed.is_formed_stmt kinds (stmt.Group []) ≡ false
group_of_none = refl

empty_file : formed.are_formed (unit.Block [] ∷ []) ≡ true
empty_file = refl

no_file : formed.are_formed [] ≡ false
no_file = refl

-- ---- slots that find nothing

-- in a group that has one function, bound before a value
abbrev small_env : Env Core
small_env = Bind tt (Plain Nil) (Group (members (1 ∷ [])) Outside)

finds_a_value : at_slot small_env (slot 0) ≡ Some (Plain Nil)
finds_a_value = refl

-- the function's environment begins with its group
finds_a_function : at_slot small_env (in_group 1 0) ≡ Some (Function (Of 1) (Group (members (1 ∷ [])) Outside))
finds_a_function = refl

no_group_there : at_slot small_env (in_group 0 0) ≡ None
no_group_there = refl

no_value_there : at_slot small_env (slot 1) ≡ None
no_value_there = refl

no_such_function : at_slot small_env (in_group 1 1) ≡ None
no_such_function = refl

no_such_entry : at_slot small_env (slot 2) ≡ None
no_such_entry = refl

-- ---- tests

tuple_becomes : (ps : List CorePat) → tested_pat (pat.Tuple ps) ≡ tuple_tested (map tested_pat ps)
tuple_becomes ps = ap tested_pat (sym (pat.rolls-Tuple ps))
    ∙ folds.fold-roll-CorePat TestExpr (List Test) TestArm TestBranch expr_tested pat_tested arm_tested branch_tested (core.CorePat::Tuple ps)

bind_becomes : tested_pat pat.Bind ≡ test.Bind ∷ []
bind_becomes = ap tested_pat (sym pat.rolls-Bind)
    ∙ folds.fold-roll-CorePat TestExpr (List Test) TestArm TestBranch expr_tested pat_tested arm_tested branch_tested core.Bind

is_becomes : (c : Const) → tested_pat (pat.Is c) ≡ test.Is c ∷ []
is_becomes c = ap tested_pat (sym (pat.rolls-Is c))
    ∙ folds.fold-roll-CorePat TestExpr (List Test) TestArm TestBranch expr_tested pat_tested arm_tested branch_tested (core.CorePat::Is c)

abbrev one_and_b : CorePat
one_and_b = pat.Tuple (pat.Is (const.Num (pos 1)) ∷ pat.Bind ∷ [])

-- (1, b)
tests_of_a_pair : tested_pat one_and_b ≡ test.Pair ∷ test.Is (const.Num (pos 1)) ∷ test.Bind ∷ []
tests_of_a_pair = tuple_becomes (pat.Is (const.Num (pos 1)) ∷ pat.Bind ∷ [])
    ∙ (λ i. test.Pair ∷ is_becomes (const.Num (pos 1)) i ++ bind_becomes i)

-- \(a, (1, b)).a
abstraction_of_a_tuple : units (perform (abs (pair_pat (bind "a") (pair_pat (int_pat (pos 1)) (bind "b"))) (var "a")) ∷ [])
    ≡ unit.Block (stmt.Do (expr.Abs 1) ∷ []) ∷ unit.Abs (pat.Tuple (pat.Bind ∷ one_and_b ∷ [])) (var_at 1) ∷ []
unfolding in_stmts
abstraction_of_a_tuple = refl

tests_of_its_pattern : tested_pat (pat.Tuple (pat.Bind ∷ one_and_b ∷ []))
    ≡ test.Pair ∷ test.Bind ∷ test.Pair ∷ test.Is (const.Num (pos 1)) ∷ test.Bind ∷ []
tests_of_its_pattern = tuple_becomes (pat.Bind ∷ one_and_b ∷ []) ∙ (λ i. test.Pair ∷ bind_becomes i ++ tests_of_a_pair i)

-- (a, 1, b), of three items, has the same tests
tests_of_three_items : tested_pat (pat.Tuple (pat.Bind ∷ pat.Is (const.Num (pos 1)) ∷ pat.Bind ∷ []))
    ≡ test.Pair ∷ test.Bind ∷ test.Pair ∷ test.Is (const.Num (pos 1)) ∷ test.Bind ∷ []
tests_of_three_items = tuple_becomes (pat.Bind ∷ pat.Is (const.Num (pos 1)) ∷ pat.Bind ∷ [])
    ∙ (λ i. test.Pair ∷ (bind_becomes i ++ (test.Pair ∷ (is_becomes (const.Num (pos 1)) i ++ bind_becomes i))))

-- ((1, b), a)
tests_of_the_head_first : tested_pat (pat.Tuple (one_and_b ∷ pat.Bind ∷ []))
    ≡ test.Pair ∷ test.Pair ∷ test.Is (const.Num (pos 1)) ∷ test.Bind ∷ test.Bind ∷ []
tests_of_the_head_first = tuple_becomes (one_and_b ∷ pat.Bind ∷ []) ∙ (λ i. test.Pair ∷ tests_of_a_pair i ++ bind_becomes i)
