-- Worked programs whose names are judged.
use Rattle.std.proofs.Common.{◌≡◌, refl, ℕ, true, false, List, [], ◌∷◌, replicate, Option, Some, None}
use Rattle.std.specs.Prelude.{codes, length, ◌+◌}
use Rattle.hum_syntax.specs.declared.tree.Expr.TheOpen as layer
use Rattle.hum_meaning.specs.declared.cause.ScopeCause.{ScopeCause}
use Rattle.hum_meaning.specs.declared.cause.ScopeCause.TheVariants.{Unbound, Twice, TooManyNames}
use Rattle.hum_meaning.specs.Scope.{Verdicts, OfExpr, OfPat, OfStmt, Part, of_expr, of_pat, of_stmt, of_arm, of_branch, bound, block as block_verdicts, outermost_scope, first_from}
use Rattle.hum_meaning.proofs.Plain.{Expr, Pat, Stmt, Arm, Branch, Exprs, Pats, Stmts, Arms, Branches, undefined, nil, myself, truth, int, symbol, text, var, abs, block_of, call, tuple_of, new, case_of, if_of, if_else_of, any, nil_pat, bind, int_pat, symbol_pat, value, tuple_pat_of, let_, send, create, become, throw, perform, arm, branch_of, no_expr, and_expr, no_pat, and_pat, no_stmt, and_stmt, no_arm, and_arm, no_branch, and_branch, stmts, block, cases, num, pair_pat, define, set, println}

-- ---- what is found of plain trees

mutual
  in_expr : Expr → OfExpr
  in_expr undefined = of_expr layer.Expr::Undef
  in_expr nil = of_expr layer.Expr::Nil
  in_expr myself = of_expr layer.Myself
  in_expr (truth true) = of_expr layer.Expr::True
  in_expr (truth false) = of_expr layer.Expr::False
  in_expr (int n) = of_expr (layer.Expr::Num n)
  in_expr (symbol name) = of_expr (layer.Expr::Sym (codes name))
  in_expr (text points) = of_expr (layer.Text (codes points))
  in_expr (var name) = of_expr (layer.Var (codes name))
  in_expr (abs p e) = of_expr (layer.Abs (in_pat p) (in_expr e))
  in_expr (block_of ss) = of_expr (layer.Block (in_stmts ss))
  in_expr (call f a) = of_expr (layer.Call (in_expr f) (in_expr a))
  in_expr (tuple_of es) = of_expr (layer.Expr::Tuple (in_exprs es))
  in_expr (new e) = of_expr (layer.New (in_expr e))
  in_expr (case_of e xs) = of_expr (layer.Case (in_expr e) (in_arms xs))
  in_expr (if_of bs) = of_expr (layer.If (in_branches bs) None)
  in_expr (if_else_of bs ss) = of_expr (layer.If (in_branches bs) (Some (in_stmts ss)))

  in_pat : Pat → OfPat
  in_pat any = of_pat layer.Any
  in_pat nil_pat = of_pat layer.Pat::Nil
  in_pat (bind name) = of_pat (layer.Bind (codes name))
  in_pat (int_pat n) = of_pat (layer.Pat::Num n)
  in_pat (symbol_pat name) = of_pat (layer.Pat::Sym (codes name))
  in_pat (value e) = of_pat (layer.Value (in_expr e))
  in_pat (tuple_pat_of ps) = of_pat (layer.Pat::Tuple (in_pats ps))

  in_stmt : Stmt → OfStmt
  in_stmt (let_ p e) = of_stmt (layer.Let (in_pat p) (in_expr e))
  in_stmt (send e a) = of_stmt (layer.Send (in_expr e) (in_expr a))
  in_stmt (create name e) = of_stmt (layer.Create (codes name) (in_expr e))
  in_stmt (become e) = of_stmt (layer.Become (in_expr e))
  in_stmt (throw e) = of_stmt (layer.Throw (in_expr e))
  in_stmt (perform e) = of_stmt (layer.Do (in_expr e))

  in_arm : Arm → Part
  in_arm (arm p e) = of_arm (record { pattern = in_pat p; value = in_expr e })

  in_branch : Branch → Part
  in_branch (branch_of e ss) = of_branch (record { condition = in_expr e; block = in_stmts ss })

  in_exprs : Exprs → List OfExpr
  in_exprs no_expr = []
  in_exprs (and_expr x xs) = in_expr x ∷ in_exprs xs

  in_pats : Pats → List OfPat
  in_pats no_pat = []
  in_pats (and_pat x xs) = in_pat x ∷ in_pats xs

  in_stmts : Stmts → List OfStmt
  in_stmts no_stmt = []
  in_stmts (and_stmt x xs) = in_stmt x ∷ in_stmts xs

  in_arms : Arms → List Part
  in_arms no_arm = []
  in_arms (and_arm x xs) = in_arm x ∷ in_arms xs

  in_branches : Branches → List Part
  in_branches no_branch = []
  in_branches (and_branch x xs) = in_branch x ∷ in_branches xs

abbrev judged : List Stmt → Verdicts
judged file = block_verdicts (in_stmts (stmts file)) outermost_scope

-- the first name that is refused, with the number of names before it
abbrev refused : List Stmt → Option (ℕ × ScopeCause)
refused file = first_from 0 (judged file)

-- ---- programs

-- SEND x TO println
unbound : refused (send (var "x") println ∷ []) ≡ Some (0, Unbound)
unfolding in_stmts
unbound = refl

-- LET a = 1 LET a = 2
twice : refused (set "a" (num 1) ∷ set "a" (num 2) ∷ []) ≡ Some (1, Twice)
unfolding in_stmts
twice = refl

-- \(a, a).a
twice_in_a_pattern : refused (perform (abs (pair_pat (bind "a") (bind "a")) (var "a")) ∷ []) ≡ Some (1, Twice)
unfolding in_stmts
twice_in_a_pattern = refl

-- LET add = 1 [ LET add = 2 ]
shadowed : judged (set "add" (num 1) ∷ perform (block (set "add" (num 2) ∷ [])) ∷ []) ≡ None ∷ None ∷ []
unfolding in_stmts
shadowed = refl

-- LET x = x
not_in_its_own_expression : refused (set "x" (var "x") ∷ []) ≡ Some (1, Unbound)
unfolding in_stmts
not_in_its_own_expression = refl

-- CASE 1 OF (x, $x) : x END
not_in_its_own_pattern : refused (perform (cases (num 1) (arm (pair_pat (bind "x") (value (var "x"))) (var "x") ∷ [])) ∷ []) ≡ Some (1, Unbound)
unfolding in_stmts
not_in_its_own_pattern = refl

-- LET f(x) = g(x) SEND 1 TO println LET g(x) = f(x)
a_group : judged (define "f" (bind "x") (call (var "g") (var "x")) ∷ send (num 1) println ∷ define "g" (bind "x") (call (var "f") (var "x")) ∷ []) ≡ replicate 9 None
unfolding in_stmts
a_group = refl

-- SEND f TO println LET f(x) = x
before_its_group : refused (send (var "f") println ∷ define "f" (bind "x") (var "x") ∷ []) ≡ Some (0, Unbound)
unfolding in_stmts
before_its_group = refl

-- LET f(x) = g(x) LET y = 1 LET g(x) = f(x)
two_stretches : refused (define "f" (bind "x") (call (var "g") (var "x")) ∷ set "y" (num 1) ∷ define "g" (bind "x") (call (var "f") (var "x")) ∷ []) ≡ Some (2, Unbound)
unfolding in_stmts
two_stretches = refl

-- CREATE a WITH b CREATE b WITH a
before_its_actor : refused (create "a" (var "b") ∷ create "b" (var "a") ∷ []) ≡ Some (1, Unbound)
unfolding in_stmts
before_its_actor = refl

-- LET f(x) = f(x) LET f(y) = 1
a_function_twice : refused (define "f" (bind "x") (call (var "f") (var "x")) ∷ define "f" (bind "y") (num 1) ∷ []) ≡ Some (4, Twice)
unfolding in_stmts
a_function_twice = refl

-- the fourteen outermost names and 3,985 others, and then one more; and then another
the_last_name : bound (record { seen = []; taken = []; besides = length outermost_scope + 3985 }) (codes "x") ≡ None
the_last_name = refl

one_name_more : bound (record { seen = []; taken = []; besides = length outermost_scope + 3986 }) (codes "x") ≡ Some TooManyNames
one_name_more = refl
