-- The numbered program of a file is at most three times as large as the file.
use Rattle.std.proofs.Common.{◌≡◌, refl, subst, sym, ℕ, ◌+◌, ◌*◌, ◌≤◌, Bool, true, false, List, [], map, length, Some, None, arith, ◌&&◌}
use Rattle.std.specs.Prelude.{sum}
use Rattle.std.proofs.lemmas.Simd.{map-map}
use Rattle.hum_syntax.specs.declared.tree.Expr.{Expr}
use Rattle.hum_syntax.specs.declared.tree.Pat.{Pat}
use Rattle.hum_syntax.specs.declared.tree.Stmt.{Stmt}
use Rattle.hum_syntax.specs.declared.tree.Arm.{Arm}
use Rattle.hum_syntax.specs.declared.tree.Branch.{Branch}
use Rattle.hum_syntax.specs.declared.tree.Expr.TheVariants as e
use Rattle.hum_syntax.specs.declared.tree.Pat.TheVariants as p
use Rattle.hum_syntax.specs.declared.tree.Stmt.TheVariants as s
use Rattle.hum_syntax.specs.Spells.{arm, branch}
use Rattle.hum_syntax.specs.Sizes as tree
use Rattle.hum_syntax.proofs.Folding as fold_of
use Rattle.hum_syntax.proofs.Folding.{Steps}
use Rattle.hum_syntax.proofs.SizedTrees.{sized}
use Rattle.hum_syntax.proofs.Induction.{Each, nodes, Cases, each_stmt, nodes-each_stmt}
use Rattle.hum_core.specs.declared.slot.Const.{Const}
use Rattle.hum_core.specs.declared.slot.Const.TheVariants as const
use Rattle.hum_core.specs.declared.resolved.CoreUnit.TheVariants as unit
use Rattle.hum_core.specs.declared.resolved.CoreStmt.{CoreStmt}
use Rattle.hum_core.specs.declared.resolved.CoreStmt.TheVariants as stmt
use Rattle.hum_core.specs.declared.resolved.CoreExpr.{CoreExpr}
use Rattle.hum_core.specs.declared.resolved.CoreExpr.TheVariants as expr
use Rattle.hum_core.specs.declared.resolved.CorePat.{CorePat}
use Rattle.hum_core.specs.declared.resolved.CorePat.TheVariants as pat
use Rattle.hum_core.specs.declared.resolved.CoreArm.{CoreArm, roll-CoreArm}
use Rattle.hum_core.specs.declared.resolved.CoreBranch.{CoreBranch, roll-CoreBranch}
use Rattle.hum_meaning.specs.Named.{written}
use Rattle.hum_meaning.specs.Look.{outermost}
use Rattle.hum_core.specs.Alike.{scope_of}
use Rattle.hum_core.specs.Units.{Scope, Part, plain, mapped, both, in_order, OfExpr, OfPat, OfStmt, block, constant, other_expr, of_expr, of_pat, let_stmt, act, constant_pat, of_stmt, of_arm, of_branch, of_file, resolved}
use Rattle.hum_core.specs.Lists.{tested_expr, tested_arm, tested_branch, tested}
use Rattle.hum_core.specs.Sizes.{const_size, size_of_expr, size_of_arm, size_of_branch, size_of_units, ProgramsAreSmall}
use Rattle.hum_core.proofs.Sums.{sum-le}
use Rattle.hum_core.proofs.SizedNodes as node
use Rattle.hum_core.proofs.SizedNodes.{expr_becomes, pat_becomes, arm_becomes, branch_becomes, stmt_becomes}
use Rattle.hum_core.proofs.SizedParts.{PartSized, part_fits, plain_sized, mapped_sized, under_sized, none, numbered_sized, those, in_order_sized, block_sized}

abbrev made : Steps OfExpr OfPat OfStmt (Part CoreArm) (Part CoreBranch)
made = record { expr = of_expr; pat = of_pat; stmt = of_stmt; an_arm = of_arm; a_branch = of_branch }

abbrev in_expr : Expr → OfExpr
in_expr = fold_of.of_expr made

abbrev in_pat : Pat → OfPat
in_pat = fold_of.of_pat made

abbrev in_arm : Arm → Part CoreArm
in_arm = fold_of.of_arm made

abbrev in_branch : Branch → Part CoreBranch
in_branch = fold_of.of_branch made

-- an expression and a pattern are smaller than three times what they come from: a statement that is an expression is one more
abbrev above : {A : Type 0} → (A → ℕ) → A → ℕ
above F x = 1 + F x

abbrev ExprSized : ℕ → OfExpr → Type 0
ExprSized n x = PartSized (above expr_becomes) n x.part

abbrev PatSized : ℕ → OfPat → Type 0
PatSized n x = PartSized (above pat_becomes) n x.part

abbrev StmtSized : ℕ → OfStmt → Type 0
StmtSized n x = PartSized stmt_becomes n x.part

abbrev E : Expr → Type 0
E x = ExprSized (3 * tree.size_of_expr x) (in_expr x)

abbrev P : Pat → Type 0
P x = PatSized (3 * tree.size_of_pat x) (in_pat x)

abbrev S : Stmt → Type 0
S x = StmtSized (3 * tree.size_of_stmt x) (of_file x)

abbrev A : Arm → Type 0
A x = PartSized arm_becomes (3 * tree.size_of_arm x) (in_arm x)

abbrev B : Branch → Type 0
B x = PartSized branch_becomes (3 * tree.size_of_branch x) (in_branch x)

-- ---- from what a node becomes

expr_by : {n : ℕ} (x : Expr) {y : OfExpr} → in_expr x ≡ y → n ≤ 3 * tree.size_of_expr x → ExprSized n y → E x
expr_by x is le h = part_fits le (subst (ExprSized _) (sym is) h)

pat_by : {n : ℕ} (x : Pat) {y : OfPat} → in_pat x ≡ y → n ≤ 3 * tree.size_of_pat x → PatSized n y → P x
pat_by x is le h = part_fits le (subst (PatSized _) (sym is) h)

stmt_by : {n : ℕ} (x : Stmt) {y : OfStmt} → of_file x ≡ y → n ≤ 3 * tree.size_of_stmt x → StmtSized n y → S x
stmt_by x is le h = part_fits le (subst (StmtSized _) (sym is) h)

-- ---- expressions

const_case : (c : Const) (x : Expr) → in_expr x ≡ constant c → tree.size_of_expr x ≡ const_size c → E x
const_case c x is size =
    let some = node.some_const c in
    expr_by x is (omega (arith, size, some))
    (plain_sized (above expr_becomes) (1 + const_size c) (λ scope. expr.Is c) (λ scope. let z = node.of_const c in omega (arith, z)))

-- an expression that holds no other
leaf_case : (f : Scope → CoreExpr) (x : Expr) (n : ℕ) → in_expr x ≡ other_expr (plain f) → ((scope : Scope) → expr_becomes (f scope) ≡ n)
    → 1 + n ≤ 3 * tree.size_of_expr x → E x
leaf_case f x n is size le =
    expr_by x is le
    (plain_sized (above expr_becomes) (1 + n) f (λ scope. let z = size scope in omega (arith, z)))

abs_case : (x : Pat) (a : Expr) → P x → E a → E (e.Abs x a)
abs_case x a h k =
    let size = fold_of.fold_abs sized x a in
    expr_by (e.Abs x a) (fold_of.fold_abs made x a) (omega (arith, size))
    (mapped_sized none (above expr_becomes) 2 _ expr.Abs _ (λ i. let z = node.of_abs i in omega (arith, z))
    (numbered_sized _ _ (under_sized (above pat_becomes) (above expr_becomes) _ 0 _ _ (in_pat x).names unit.Abs (in_pat x).part (in_expr a).part
    (λ y b. omega arith) h k)))

block_case : (xs : Each S) → E (e.Block (nodes xs))
block_case xs =
    let size = fold_of.fold_block sized (nodes xs) in
    expr_by (e.Block (nodes xs)) (fold_of.fold_block made (nodes xs)) (omega (arith, size))
    (mapped_sized none (above expr_becomes) 2 _ expr.Block _ (λ i. let z = node.of_block i in omega (arith, z))
    (block_sized tree.size_of_stmt of_file xs))

call_case : (f a : Expr) → E f → E a → E (e.Call f a)
call_case f a h k =
    let size = fold_of.fold_call sized f a in
    expr_by (e.Call f a) (fold_of.fold_call made f a) (omega (arith, size))
    (under_sized (above expr_becomes) (above expr_becomes) (above expr_becomes) 0 _ _ [] expr.Call (in_expr f).part (in_expr a).part
    (λ y b. let z = node.of_call y b in omega (arith, z)) h k)

tuple_case : (xs : Each E) → E (e.Tuple (nodes xs))
tuple_case xs =
    let size = fold_of.fold_tuple sized (nodes xs) in
    expr_by (e.Tuple (nodes xs)) (fold_of.fold_tuple made (nodes xs)) (omega (arith, size))
    (mapped_sized (those (above expr_becomes)) (above expr_becomes) 2 _ expr.Tuple _
    (λ ys. let z = node.of_tuple ys in let le = sum-le size_of_expr tested_expr (above expr_becomes) (λ y. omega arith) ys in omega (arith, z, le))
    (subst (λ parts. PartSized (those (above expr_becomes)) (3 * sum (map tree.size_of_expr (nodes xs))) (in_order parts))
    (sym (map-map (λ (o : OfExpr). o.part) in_expr (nodes xs)))
    (in_order_sized (above expr_becomes) tree.size_of_expr (λ x. (in_expr x).part) xs)))

new_case : (a : Expr) → E a → E (e.New a)
new_case a h =
    let size = fold_of.fold_new sized a in
    expr_by (e.New a) (fold_of.fold_new made a) (omega (arith, size))
    (mapped_sized (above expr_becomes) (above expr_becomes) 1 _ expr.New _ (λ y. let z = node.of_new y in omega (arith, z)) h)

case_case : (a : Expr) (xs : Each A) → E a → E (e.Case a (nodes xs))
case_case a xs h =
    let size = fold_of.fold_case sized a (nodes xs) in
    expr_by (e.Case a (nodes xs)) (fold_of.fold_case made a (nodes xs)) (omega (arith, size))
    (under_sized (above expr_becomes) (those arm_becomes) (above expr_becomes) 1 _ _ [] expr.Case (in_expr a).part _
    (λ y ys. let z = node.of_case y ys in let le = sum-le size_of_arm tested_arm arm_becomes (λ y. omega arith) ys in omega (arith, z, le))
    h (in_order_sized arm_becomes tree.size_of_arm in_arm xs))

-- the branches and the block behind them
if_sized : (xs : Each B) (most : ℕ) (other : Part ℕ) → PartSized none most other
    → ExprSized (3 * sum (map tree.size_of_branch (nodes xs)) + most + 2) (other_expr (both expr.If (in_order (map in_branch (nodes xs))) other))
if_sized xs most other h =
    under_sized (those branch_becomes) none (above expr_becomes) 2 _ _ [] expr.If _ other
    (λ ys k.
    let z = node.of_if ys k in
    let le = sum-le size_of_branch tested_branch branch_becomes (λ y. omega arith) ys in
    omega (arith, z, le))
    (in_order_sized branch_becomes tree.size_of_branch in_branch xs) h

-- there is a block for `ELSE` also where none is written
if_case : (xs : Each B) → E (e.If (nodes xs) None)
if_case xs =
    let size = fold_of.fold_if sized (nodes xs) in
    expr_by (e.If (nodes xs) None) (fold_of.fold_if made (nodes xs)) (omega (arith, size))
    (if_sized xs 1 (block []) (block_sized tree.size_of_stmt of_file []))

if_else_case : (xs : Each B) (ys : Each S) → E (e.If (nodes xs) (Some (nodes ys)))
if_else_case xs ys =
    let size = fold_of.fold_if_else sized (nodes xs) (nodes ys) in
    expr_by (e.If (nodes xs) (Some (nodes ys))) (fold_of.fold_if_else made (nodes xs) (nodes ys)) (omega (arith, size))
    (if_sized xs _ _ (block_sized tree.size_of_stmt of_file ys))

-- ---- patterns

leaf_pat_case : (q : CorePat) (x : Pat) (y : OfPat) (n : ℕ) → in_pat x ≡ y → y.part ≡ plain (λ scope. q) → pat_becomes q ≡ n
    → 1 + n ≤ 3 * tree.size_of_pat x → P x
leaf_pat_case q x y n is part size le =
    pat_by x is le
    (subst (PartSized (above pat_becomes) (1 + n)) (sym part) (plain_sized (above pat_becomes) (1 + n) (λ scope. q) (λ scope. omega (arith, size))))

const_pat_case : (c : Const) (x : Pat) → in_pat x ≡ constant_pat c → tree.size_of_pat x ≡ const_size c → P x
const_pat_case c x is size =
    let some = node.some_const c in
    leaf_pat_case (pat.Is c) x (constant_pat c) (const_size c) is refl (node.of_pat_const c) (omega (arith, size, some))

value_case : (a : Expr) → E a → P (p.Value a)
value_case a h =
    let size = fold_of.fold_value sized a in
    pat_by (p.Value a) (fold_of.fold_value made a) (omega (arith, size))
    (mapped_sized (above expr_becomes) (above pat_becomes) 1 _ pat.Value _ (λ y. let z = node.of_value y in omega (arith, z)) h)

pat_tuple_case : (xs : Each P) → P (p.Tuple (nodes xs))
pat_tuple_case xs =
    let size = fold_of.fold_pat_tuple sized (nodes xs) in
    pat_by (p.Tuple (nodes xs)) (fold_of.fold_pat_tuple made (nodes xs)) (omega (arith, size))
    (mapped_sized (those (above pat_becomes)) (above pat_becomes) 1 _ pat.Tuple _ (λ ys. let z = node.of_pat_tuple ys in omega (arith, z))
    (subst (λ parts. PartSized (those (above pat_becomes)) (3 * sum (map tree.size_of_pat (nodes xs))) (in_order parts))
    (sym (map-map (λ (o : OfPat). o.part) in_pat (nodes xs)))
    (in_order_sized (above pat_becomes) tree.size_of_pat (λ x. (in_pat x).part) xs)))

-- ---- statements

-- a definition of a function is its unit, and a mark
let_sized : (b : Bool) (m n : ℕ) (x : OfPat) (a : OfExpr) → PatSized m x → ExprSized n a → StmtSized (m + n) (let_stmt b x a)
let_sized true m n x a h k =
    part_fits (omega arith) (mapped_sized (above expr_becomes) stmt_becomes 0 n (λ d. stmt.Defined) a.part (λ y. omega arith) k)
let_sized false m n x a h k =
    part_fits (omega arith)
    (under_sized (above pat_becomes) (above expr_becomes) stmt_becomes 0 m n [] stmt.Let x.part a.part (λ y b. omega arith) h k)

let_case : (x : Pat) (a : Expr) → P x → E a → S (s.Let x a)
let_case x a h k =
    let size = fold_of.fold_let sized x a in
    stmt_by (s.Let x a) (fold_of.fold_let made x a) (omega (arith, size))
    (let_sized ((in_pat x).is_name && (in_expr a).is_abstraction) _ _ (in_pat x) (in_expr a) h k)

send_case : (a b : Expr) → E a → E b → S (s.Send a b)
send_case a b h k =
    let size = fold_of.fold_send sized a b in
    stmt_by (s.Send a b) (fold_of.fold_send made a b) (omega (arith, size))
    (under_sized (above expr_becomes) (above expr_becomes) stmt_becomes 0 _ _ [] stmt.Send (in_expr a).part (in_expr b).part (λ y z. omega arith) h k)

create_case : (t : List ℕ) (a : Expr) → E a → S (s.Create t a)
create_case t a h =
    let size = fold_of.fold_create sized t a in
    stmt_by (s.Create t a) (fold_of.fold_create made t a) (omega (arith, size))
    (mapped_sized (above expr_becomes) stmt_becomes 0 _ stmt.Create (in_expr a).part (λ y. omega arith) h)

-- a statement that is one expression
act_case : (a : Expr) (x : Stmt) (f : CoreExpr → CoreStmt) → of_file x ≡ act (mapped f (in_expr a).part)
    → ((y : CoreExpr) → stmt_becomes (f y) ≤ 1 + expr_becomes y) → tree.size_of_expr a ≤ tree.size_of_stmt x → E a → S x
act_case a x f is go le h =
    stmt_by x is (omega (arith, le))
    (mapped_sized (above expr_becomes) stmt_becomes 0 _ f (in_expr a).part (λ y. let z = go y in omega (arith, z)) h)

-- ---- arms and branches

arm_case : (x : Pat) (a : Expr) → P x → E a → A (arm x a)
arm_case x a h k =
    let size = fold_of.fold_arm sized x a in
    part_fits (omega (arith, size)) (subst (PartSized arm_becomes _) (sym (fold_of.fold_arm made x a))
    (under_sized (above pat_becomes) (above expr_becomes) arm_becomes 0 _ _ (in_pat x).names
    (λ p e. roll-CoreArm (record { pattern = p; value = e })) (in_pat x).part (in_expr a).part
    (λ y b. let z = node.of_arm y b in omega (arith, z)) h k))

branch_case : (a : Expr) (xs : Each S) → E a → B (branch a (nodes xs))
branch_case a xs h =
    let size = fold_of.fold_branch sized a (nodes xs) in
    part_fits (omega (arith, size)) (subst (PartSized branch_becomes _) (sym (fold_of.fold_branch made a (nodes xs)))
    (under_sized (above expr_becomes) none branch_becomes 0 _ _ []
    (λ e k. roll-CoreBranch (record { condition = e; block = k })) (in_expr a).part (block (map of_file (nodes xs)))
    (λ y k. let z = node.of_branch y k in omega (arith, z)) h (block_sized tree.size_of_stmt of_file xs)))

cases : Cases E P S A B
cases = record {
  at_undef = const_case const.Undef e.Undef (fold_of.fold_undef made) (fold_of.fold_undef sized);
  at_nil = const_case const.Nil e.Nil (fold_of.fold_nil made) (fold_of.fold_nil sized);
  at_true = const_case const.True e.True (fold_of.fold_true made) (fold_of.fold_true sized);
  at_false = const_case const.False e.False (fold_of.fold_false made) (fold_of.fold_false sized);
  at_num = λ z. const_case (const.Num z) (e.Num z) (fold_of.fold_num made z) (fold_of.fold_num sized z);
  at_sym = λ t. const_case (const.Sym t) (e.Sym t) (fold_of.fold_sym made t) (fold_of.fold_sym sized t);
  at_text = λ t. leaf_case (λ scope. expr.Text t) (e.Text t) (1 + length t) (fold_of.fold_text made t) (λ scope. node.of_text t)
      (let size = fold_of.fold_text sized t in omega (arith, size));
  at_var = λ t. leaf_case _ (e.Var t) 1 (fold_of.fold_var made t) (λ scope. node.of_var _) (let size = fold_of.fold_var sized t in omega (arith, size));
  at_myself = leaf_case (λ scope. expr.Myself) e.Myself 1 (fold_of.fold_myself made) (λ scope. node.of_myself)
      (let size = fold_of.fold_myself sized in omega (arith, size));
  at_abs = abs_case;
  at_block = block_case;
  at_call = call_case;
  at_tuple = tuple_case;
  at_new = new_case;
  at_case = case_case;
  at_if = if_case;
  at_if_else = if_else_case;
  at_any = leaf_pat_case pat.Any p.Any _ 1 (fold_of.fold_any made) refl node.of_any (let size = fold_of.fold_any sized in omega (arith, size));
  at_bind = λ t. leaf_pat_case pat.Bind (p.Bind t) _ 1 (fold_of.fold_bind made t) refl node.of_bind (let size = fold_of.fold_bind sized t in omega (arith, size));
  at_pat_undef = const_pat_case const.Undef p.Undef (fold_of.fold_pat_undef made) (fold_of.fold_pat_undef sized);
  at_pat_nil = const_pat_case const.Nil p.Nil (fold_of.fold_pat_nil made) (fold_of.fold_pat_nil sized);
  at_pat_true = const_pat_case const.True p.True (fold_of.fold_pat_true made) (fold_of.fold_pat_true sized);
  at_pat_false = const_pat_case const.False p.False (fold_of.fold_pat_false made) (fold_of.fold_pat_false sized);
  at_pat_num = λ z. const_pat_case (const.Num z) (p.Num z) (fold_of.fold_pat_num made z) (fold_of.fold_pat_num sized z);
  at_pat_sym = λ t. const_pat_case (const.Sym t) (p.Sym t) (fold_of.fold_pat_sym made t) (fold_of.fold_pat_sym sized t);
  at_value = value_case;
  at_pat_tuple = pat_tuple_case;
  at_let = let_case;
  at_send = send_case;
  at_create = create_case;
  at_become = λ a. act_case a (s.Become a) stmt.Become (fold_of.fold_become made a) (λ y. omega arith)
      (let size = fold_of.fold_become sized a in omega (arith, size));
  at_throw = λ a. act_case a (s.Throw a) stmt.Throw (fold_of.fold_throw made a) (λ y. omega arith)
      (let size = fold_of.fold_throw sized a in omega (arith, size));
  at_do = λ a. act_case a (s.Do a) stmt.Do (fold_of.fold_do made a) (λ y. omega arith)
      (let size = fold_of.fold_do sized a in omega (arith, size));
  at_arm = arm_case;
  at_branch = branch_case;
}

-- ---- files

pub programs_are_small : ProgramsAreSmall
programs_are_small file =
    subst (λ xs. size_of_units (tested (resolved xs)) ≤ 3 * tree.size_of xs + 1) (nodes-each_stmt cases file)
    (let is = (block_sized tree.size_of_stmt of_file (each_stmt cases file)).at (scope_of (outermost written)) 0 in omega (arith, is))
