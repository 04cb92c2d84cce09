-- What a formed file becomes is formed.
use Rattle.std.proofs.Common.{◌≡◌, refl, sym, subst, ◌∙◌, ℕ, Bool, true, false, List, [], ◌∷◌, map, length, Some, None}
use Rattle.std.specs.Prelude.{◌&&◌, nat_le}
use Rattle.std.specs.List.{AllByRecursion}
use Rattle.std.proofs.lemmas.Bool.{and_parts, and_from, true≢false}
use Rattle.std.proofs.lemmas.List.{length-map}
use Rattle.hum_syntax.specs.declared.tree.Expr.{Expr}
use Rattle.hum_syntax.specs.declared.tree.Pat.{Pat}
use Rattle.hum_syntax.specs.declared.tree.Stmt.{Stmt}
use Rattle.hum_syntax.specs.declared.tree.Arm.{Arm}
use Rattle.hum_syntax.specs.declared.tree.Branch.{Branch}
use Rattle.hum_syntax.specs.declared.tree.Expr.TheVariants as e
use Rattle.hum_syntax.specs.declared.tree.Pat.TheVariants as p
use Rattle.hum_syntax.specs.declared.tree.Stmt.TheVariants as s
use Rattle.hum_syntax.specs.Spells.{arm, branch}
use Rattle.hum_syntax.specs.Forms.{is_name}
use Rattle.hum_syntax.specs.Formed as tree
use Rattle.hum_syntax.proofs.Folding as fold_of
use Rattle.hum_syntax.proofs.Folding.{Steps}
use Rattle.hum_syntax.proofs.FormedTrees.{formed}
use Rattle.hum_syntax.proofs.Induction.{Each, nodes, Cases, every_stmt}
use Rattle.hum_core.specs.declared.slot.Const.{Const}
use Rattle.hum_core.specs.declared.slot.Const.TheVariants as const
use Rattle.hum_core.specs.declared.resolved.CoreUnit.TheVariants as unit
use Rattle.hum_core.specs.declared.resolved.CoreStmt.{CoreStmt}
use Rattle.hum_core.specs.declared.resolved.CoreStmt.TheVariants as stmt
use Rattle.hum_core.specs.declared.resolved.CoreExpr.{CoreExpr}
use Rattle.hum_core.specs.declared.resolved.CoreExpr.TheVariants as expr
use Rattle.hum_core.specs.declared.resolved.CorePat.{CorePat}
use Rattle.hum_core.specs.declared.resolved.CorePat.TheVariants as pat
use Rattle.hum_core.specs.declared.resolved.CoreArm.{CoreArm, roll-CoreArm}
use Rattle.hum_core.specs.declared.resolved.CoreBranch.{CoreBranch, roll-CoreBranch}
use Rattle.hum_core.specs.declared.resolved.CoreExpr.TheOpen.{CoreExpr-F, CorePat-F}
use Rattle.hum_core.specs.declared.resolved.CoreExpr.TheOpen as core
use Rattle.hum_core.specs.declared.resolved.CoreExpr.TheFolds as folds
use Rattle.hum_core.specs.declared.resolved.CoreExpr.TheViews.{roll-CoreExpr, roll-CorePat}
use Rattle.hum_core.specs.Formed.{all, is_abstraction, expr_formed, pat_formed, arm_formed, branch_formed, is_formed_expr, is_formed_pat, is_formed_arm, is_formed_branch}
use Rattle.hum_meaning.specs.Named.{written}
use Rattle.hum_meaning.specs.Look.{outermost}
use Rattle.hum_meaning.specs.Scope.{Binds, Values, Nothing}
use Rattle.hum_core.specs.Alike.{scope_of}
use Rattle.hum_core.specs.Units.{Scope, Part, plain, mapped, both, in_order, OfExpr, OfPat, OfStmt, block, constant, other_expr, of_expr, of_pat, let_stmt, act, constant_pat, of_stmt, of_arm, of_branch, of_file, resolved}
use Rattle.hum_core.specs.Laws.{ResolvedTreesAreFormed}
use Rattle.hum_core.proofs.FormedParts.{StandAt, themselves, PartFormed, plain_formed, mapped_formed, under_formed, Those, in_order_formed, FormedUnit, NumberOf, numbered_formed, is_abs, is_block, IfFunction, StmtHolds, StmtFormed, block_formed}

-- ---- nodes

abbrev pub ExprHolds : List Bool → CoreExpr → Type 0
ExprHolds kinds x = is_formed_expr kinds x ≡ true

abbrev pub PatHolds : List Bool → CorePat → Type 0
PatHolds kinds x = is_formed_pat kinds x ≡ true

abbrev pub ArmHolds : List Bool → CoreArm → Type 0
ArmHolds kinds x = is_formed_arm kinds x ≡ true

abbrev pub BranchHolds : List Bool → CoreBranch → Type 0
BranchHolds kinds x = is_formed_branch kinds x ≡ true

-- an abstraction's number is that of its unit
pub record ExprFormed (x : OfExpr) : Type 0 where
  pub part : PartFormed ExprHolds x.part
  pub abstraction : x.is_abstraction ≡ true → (kinds : List Bool) (scope : Scope) (n : ℕ) → StandAt kinds n (x.part.make scope n).1
      → NumberOf true kinds n

abbrev pub PatFormed : OfPat → Type 0
PatFormed x = PartFormed PatHolds x.part

other_formed : (part : Part CoreExpr) → PartFormed ExprHolds part → ExprFormed (other_expr part)
other_formed part h = record { part = h; abstraction = λ is. absurd (true≢false (sym is)) }

module _ (kinds : List Bool) where
  abbrev tests_at : CoreExpr-F CoreExpr CorePat CoreArm CoreBranch → CoreExpr-F Bool Bool Bool Bool
  tests_at =
      folds.map-CoreExpr CoreExpr CorePat CoreArm CoreBranch Bool Bool Bool Bool (is_formed_expr kinds) (is_formed_pat kinds)
      (is_formed_arm kinds) (is_formed_branch kinds)

  abbrev pat_tests_at : CorePat-F CoreExpr CorePat CoreArm CoreBranch → CorePat-F Bool Bool Bool Bool
  pat_tests_at =
      folds.map-CorePat CoreExpr CorePat CoreArm CoreBranch Bool Bool Bool Bool (is_formed_expr kinds) (is_formed_pat kinds)
      (is_formed_arm kinds) (is_formed_branch kinds)

  -- a node is formed where what is found of the nodes below says so
  expr_holds : (x : CoreExpr-F CoreExpr CorePat CoreArm CoreBranch) (a : CoreExpr) → roll-CoreExpr x ≡ a
      → expr_formed kinds (tests_at x) ≡ true → ExprHolds kinds a
  expr_holds x a rolls h =
      subst (ExprHolds kinds) rolls
      (folds.fold-roll-CoreExpr Bool Bool Bool Bool (expr_formed kinds) (pat_formed kinds) (arm_formed kinds) (branch_formed kinds) x ∙ h)

  pat_holds : (x : CorePat-F CoreExpr CorePat CoreArm CoreBranch) (a : CorePat) → roll-CorePat x ≡ a
      → pat_formed kinds (pat_tests_at x) ≡ true → PatHolds kinds a
  pat_holds x a rolls h =
      subst (PatHolds kinds) rolls
      (folds.fold-roll-CorePat Bool Bool Bool Bool (expr_formed kinds) (pat_formed kinds) (arm_formed kinds) (branch_formed kinds) x ∙ h)

  arm_holds : (x : CorePat) (y : CoreExpr) → PatHolds kinds x → ExprHolds kinds y → ArmHolds kinds (roll-CoreArm (record { pattern = x; value = y }))
  arm_holds x y h k =
      folds.fold-roll-CoreArm Bool Bool Bool Bool (expr_formed kinds) (pat_formed kinds) (arm_formed kinds) (branch_formed kinds)
      (record { pattern = x; value = y })
      ∙ and_from _ _ h k

  branch_holds : (x : CoreExpr) (k : ℕ) → ExprHolds kinds x → NumberOf false kinds k
      → BranchHolds kinds (roll-CoreBranch (record { condition = x; block = k }))
  branch_holds x k h at =
      folds.fold-roll-CoreBranch Bool Bool Bool Bool (expr_formed kinds) (pat_formed kinds) (arm_formed kinds) (branch_formed kinds)
      (record { condition = x; block = k })
      ∙ and_from _ _ h (is_block kinds k at)

-- tests that hold of each of a list
all_hold : {X : Type 0} (test : X → Bool) (xs : List X) → AllByRecursion (λ x. test x ≡ true) xs → all (map test xs) ≡ true
all_hold test [] h = refl
all_hold test (x ∷ xs) h = and_from _ _ h.0 (all_hold test xs h.1)

-- as many as there were, and so enough
enough : {X Y Z : Type 0} (m : ℕ) (f : X → Bool) (g : Y → Bool) (h : Y → Z) (xs : List X) (ys : List Y) → length xs ≡ length (map h ys)
    → nat_le m (length (map g ys)) ≡ true → nat_le m (length (map f xs)) ≡ true
enough m f g h xs ys same k =
    subst (λ i. nat_le m i ≡ true) (length-map ys g ∙ sym (length-map ys h) ∙ sym same ∙ sym (length-map xs f)) k

constant_formed : (c : Const) → ExprFormed (constant c)
constant_formed c =
    other_formed _ (plain_formed ExprHolds (λ scope. expr.Is c) (λ kinds scope. expr_holds kinds (core.CoreExpr::Is c) _ (expr.rolls-Is c) refl))

-- ---- the tree

abbrev made : Steps OfExpr OfPat OfStmt (Part CoreArm) (Part CoreBranch)
made = record { expr = of_expr; pat = of_pat; stmt = of_stmt; an_arm = of_arm; a_branch = of_branch }

abbrev in_expr : Expr → OfExpr
in_expr = fold_of.of_expr made

abbrev in_pat : Pat → OfPat
in_pat = fold_of.of_pat made

abbrev in_arm : Arm → Part CoreArm
in_arm = fold_of.of_arm made

abbrev in_branch : Branch → Part CoreBranch
in_branch = fold_of.of_branch made

abbrev ExprStands : Expr → Type 0
ExprStands x = tree.is_formed_expr x ≡ true → ExprFormed (in_expr x)

abbrev PatStands : Pat → Type 0
PatStands x = tree.is_formed_pat x ≡ true → PatFormed (in_pat x)

abbrev StmtStands : Stmt → Type 0
StmtStands x = tree.is_formed_stmt x ≡ true → StmtFormed (of_file x)

abbrev ArmStands : Arm → Type 0
ArmStands x = tree.is_formed_arm x ≡ true → PartFormed ArmHolds (in_arm x)

abbrev BranchStands : Branch → Type 0
BranchStands x = tree.is_formed_branch x ≡ true → PartFormed BranchHolds (in_branch x)

-- what is so of each node of a list, of what they become
each_made : {X Y : Type 0} (test : X → Bool) (Q : Y → Type 0) (f : X → Y) (xs : Each (λ x. test x ≡ true → Q (f x)))
    → all (map test (nodes xs)) ≡ true → AllByRecursion Q (map f (nodes xs))
each_made test Q f [] h = tt
each_made test Q f (x ∷ xs) h = let parts = and_parts _ _ h in (x.1 parts.0, each_made test Q f xs parts.1)

block_stands : (xs : Each StmtStands) → all (map tree.is_formed_stmt (nodes xs)) ≡ true → PartFormed (NumberOf false) (block (map of_file (nodes xs)))
block_stands xs h = block_formed _ (each_made tree.is_formed_stmt StmtFormed of_file xs h)

constant_stands : (c : Const) (x : Expr) → in_expr x ≡ constant c → ExprStands x
constant_stands c x is h = subst ExprFormed (sym is) (constant_formed c)

abs_stands : (x : Pat) (a : Expr) → PatStands x → ExprStands a → ExprStands (e.Abs x a)
abs_stands x a h k is =
    let parts = and_parts (tree.is_formed_pat x) (tree.is_formed_expr a) (sym (fold_of.fold_abs formed x a) ∙ is) in
    subst ExprFormed (sym (fold_of.fold_abs made x a)) (record {
      part = mapped_formed (NumberOf true) ExprHolds expr.Abs _ (λ kinds i at. expr_holds kinds (core.Abs i) _ (expr.rolls-Abs i) (is_abs kinds i at))
          (numbered_formed true _ (under_formed PatHolds ExprHolds (FormedUnit true) (in_pat x).names unit.Abs _ _
          (λ kinds y b s t. (refl, and_from _ _ s t)) (h parts.0) (k parts.1).part));
      abstraction = λ is kinds scope n at. at.0;
    })

block_expr_stands : (xs : Each StmtStands) → ExprStands (e.Block (nodes xs))
block_expr_stands xs is =
    subst ExprFormed (sym (fold_of.fold_block made (nodes xs)))
    (other_formed _ (mapped_formed (NumberOf false) ExprHolds expr.Block _
    (λ kinds i at. expr_holds kinds (core.Block i) _ (expr.rolls-Block i) (is_block kinds i at))
    (block_stands xs (sym (fold_of.fold_block formed (nodes xs)) ∙ is))))

call_stands : (f a : Expr) → ExprStands f → ExprStands a → ExprStands (e.Call f a)
call_stands f a h k is =
    let parts = and_parts (tree.is_formed_expr f) (tree.is_formed_expr a) (sym (fold_of.fold_call formed f a) ∙ is) in
    subst ExprFormed (sym (fold_of.fold_call made f a))
    (other_formed _ (under_formed ExprHolds ExprHolds ExprHolds [] expr.Call _ _
    (λ kinds x y s t. expr_holds kinds (core.Call x y) _ (expr.rolls-Call x y) (and_from _ _ s t)) (h parts.0).part (k parts.1).part))

tuple_stands : (xs : Each ExprStands) → ExprStands (e.Tuple (nodes xs))
tuple_stands xs is =
    let formed_items = map tree.is_formed_expr (nodes xs) in
    let parts = and_parts (nat_le 2 (length formed_items)) (all formed_items) (sym (fold_of.fold_tuple formed (nodes xs)) ∙ is) in
    let items = map in_expr (nodes xs) in
    subst ExprFormed (sym (fold_of.fold_tuple made (nodes xs)))
    (other_formed _ (mapped_formed (Those ExprHolds (length (map (λ e. e.part) items))) ExprHolds expr.Tuple _
    (λ kinds ys s. expr_holds kinds (core.CoreExpr::Tuple ys) _ (expr.rolls-Tuple ys)
    (and_from _ _ (enough 2 (is_formed_expr kinds) tree.is_formed_expr in_expr ys (nodes xs) (s.1 ∙ length-map items (λ e. e.part)) parts.0)
    (all_hold (is_formed_expr kinds) ys s.0)))
    (in_order_formed ExprHolds _ (exprs_formed items (each_made tree.is_formed_expr ExprFormed in_expr xs parts.1)))))
  where
    exprs_formed : (es : List OfExpr) → AllByRecursion ExprFormed es → AllByRecursion (PartFormed ExprHolds) (map (λ e. e.part) es)
    exprs_formed [] h = tt
    exprs_formed (x ∷ es) h = (h.0.part, exprs_formed es h.1)

new_stands : (a : Expr) → ExprStands a → ExprStands (e.New a)
new_stands a h is =
    subst ExprFormed (sym (fold_of.fold_new made a))
    (other_formed _ (mapped_formed ExprHolds ExprHolds expr.New _ (λ kinds x s. expr_holds kinds (core.New x) _ (expr.rolls-New x) s)
    (h (sym (fold_of.fold_new formed a) ∙ is)).part))

case_stands : (a : Expr) (xs : Each ArmStands) → ExprStands a → ExprStands (e.Case a (nodes xs))
case_stands a xs h is =
    let formed_arms = map tree.is_formed_arm (nodes xs) in
    let some = nat_le 1 (length formed_arms) in
    let parts = and_parts (some && tree.is_formed_expr a) (all formed_arms) (sym (fold_of.fold_case formed a (nodes xs)) ∙ is) in
    let first = and_parts some (tree.is_formed_expr a) parts.0 in
    subst ExprFormed (sym (fold_of.fold_case made a (nodes xs)))
    (other_formed _ (under_formed ExprHolds (Those ArmHolds (length (map in_arm (nodes xs)))) ExprHolds [] expr.Case _ _
    (λ kinds x ys s t. expr_holds kinds (core.Case x ys) _ (expr.rolls-Case x ys)
    (and_from _ _ (and_from _ _ (enough 1 (is_formed_arm kinds) tree.is_formed_arm in_arm ys (nodes xs) t.1 first.0) s)
    (all_hold (is_formed_arm kinds) ys t.0)))
    (h first.1).part (in_order_formed ArmHolds _ (each_made tree.is_formed_arm (PartFormed ArmHolds) in_arm xs parts.1))))

-- the branches and the block behind them
if_formed : (xs : Each BranchStands) (other : Part ℕ) → nat_le 1 (length (map tree.is_formed_branch (nodes xs))) ≡ true
    → all (map tree.is_formed_branch (nodes xs)) ≡ true → PartFormed (NumberOf false) other
    → ExprFormed (other_expr (both expr.If (in_order (map in_branch (nodes xs))) other))
if_formed xs other some each h =
    other_formed _ (under_formed (Those BranchHolds (length (map in_branch (nodes xs)))) (NumberOf false) ExprHolds [] expr.If _ _
    (λ kinds ys k s t. expr_holds kinds (core.If ys k) _ (expr.rolls-If ys k)
    (and_from _ _ (and_from _ _ (enough 1 (is_formed_branch kinds) tree.is_formed_branch in_branch ys (nodes xs) s.1 some)
    (all_hold (is_formed_branch kinds) ys s.0)) (is_block kinds k t)))
    (in_order_formed BranchHolds _ (each_made tree.is_formed_branch (PartFormed BranchHolds) in_branch xs each)) h)

if_stands : (xs : Each BranchStands) → ExprStands (e.If (nodes xs) None)
if_stands xs is =
    let formed_branches = map tree.is_formed_branch (nodes xs) in
    let parts = and_parts (nat_le 1 (length formed_branches)) (all formed_branches) (sym (fold_of.fold_if formed (nodes xs)) ∙ is) in
    subst ExprFormed (sym (fold_of.fold_if made (nodes xs))) (if_formed xs (block []) parts.0 parts.1 (block_formed [] tt))

if_else_stands : (xs : Each BranchStands) (ys : Each StmtStands) → ExprStands (e.If (nodes xs) (Some (nodes ys)))
if_else_stands xs ys is =
    let some = nat_le 1 (length (map tree.is_formed_branch (nodes xs))) in
    let each = all (map tree.is_formed_branch (nodes xs)) in
    let parts = and_parts (some && each) (all (map tree.is_formed_stmt (nodes ys))) (sym (fold_of.fold_if_else formed (nodes xs) (nodes ys)) ∙ is) in
    let first = and_parts some each parts.0 in
    subst ExprFormed (sym (fold_of.fold_if_else made (nodes xs) (nodes ys))) (if_formed xs _ first.0 first.1 (block_stands ys parts.1))

-- ---- patterns

constant_pat_stands : (c : Const) (x : Pat) → in_pat x ≡ constant_pat c → PatStands x
constant_pat_stands c x is h =
    subst PatFormed (sym is) (plain_formed PatHolds (λ scope. pat.Is c) (λ kinds scope. pat_holds kinds (core.CorePat::Is c) _ (pat.rolls-Is c) refl))

value_stands : (a : Expr) → ExprStands a → PatStands (p.Value a)
value_stands a h is =
    subst PatFormed (sym (fold_of.fold_value made a))
    (mapped_formed ExprHolds PatHolds pat.Value _ (λ kinds x s. pat_holds kinds (core.Value x) _ (pat.rolls-Value x) s)
    (h (sym (fold_of.fold_value formed a) ∙ is)).part)

pat_tuple_stands : (xs : Each PatStands) → PatStands (p.Tuple (nodes xs))
pat_tuple_stands xs is =
    let formed_items = map tree.is_formed_pat (nodes xs) in
    let parts = and_parts (nat_le 2 (length formed_items)) (all formed_items) (sym (fold_of.fold_pat_tuple formed (nodes xs)) ∙ is) in
    let items = map in_pat (nodes xs) in
    subst PatFormed (sym (fold_of.fold_pat_tuple made (nodes xs)))
    (mapped_formed (Those PatHolds (length (map (λ p. p.part) items))) PatHolds pat.Tuple _
    (λ kinds ys s. pat_holds kinds (core.CorePat::Tuple ys) _ (pat.rolls-Tuple ys)
    (and_from _ _ (enough 2 (is_formed_pat kinds) tree.is_formed_pat in_pat ys (nodes xs) (s.1 ∙ length-map items (λ p. p.part)) parts.0)
    (all_hold (is_formed_pat kinds) ys s.0)))
    (in_order_formed PatHolds _ (pats_formed items (each_made tree.is_formed_pat PatFormed in_pat xs parts.1))))
  where
    pats_formed : (ps : List OfPat) → AllByRecursion PatFormed ps → AllByRecursion (PartFormed PatHolds) (map (λ p. p.part) ps)
    pats_formed [] h = tt
    pats_formed (x ∷ ps) h = (h.0, pats_formed ps h.1)

-- ---- statements

let_formed : (b : Bool) (x : OfPat) (a : OfExpr) → (b ≡ true → a.is_abstraction ≡ true) → PatFormed x → ExprFormed a
    → StmtFormed (let_stmt b x a)
let_formed true x a is h k = record {
  part = mapped_formed ExprHolds StmtHolds (λ d. stmt.Defined) a.part (λ kinds y s. refl) k.part;
  function = λ kinds scope n at. k.abstraction (is refl) kinds scope n at;
}
let_formed false x a is h k = record {
  part = under_formed PatHolds ExprHolds StmtHolds [] stmt.Let x.part a.part (λ kinds y b s t. and_from _ _ s t) h k.part;
  function = λ kinds scope n at. tt;
}

-- a statement that binds no function
value_formed : (binds : Binds) (part : Part CoreStmt) → ((P : Type 0) → IfFunction binds P) → PartFormed StmtHolds part
    → StmtFormed (record { binds = binds; part = part })
value_formed binds part none h = record { part = h; function = λ kinds scope n at. none _ }

let_stands : (x : Pat) (a : Expr) → PatStands x → ExprStands a → StmtStands (s.Let x a)
let_stands x a h k is =
    let parts = and_parts (tree.is_formed_pat x) (tree.is_formed_expr a) (sym (fold_of.fold_let formed x a) ∙ is) in
    subst StmtFormed (sym (fold_of.fold_let made x a))
    (let_formed _ (in_pat x) (in_expr a) (λ b. (and_parts (in_pat x).is_name (in_expr a).is_abstraction b).1) (h parts.0) (k parts.1))

send_stands : (a b : Expr) → ExprStands a → ExprStands b → StmtStands (s.Send a b)
send_stands a b h k is =
    let parts = and_parts (tree.is_formed_expr a) (tree.is_formed_expr b) (sym (fold_of.fold_send formed a b) ∙ is) in
    subst StmtFormed (sym (fold_of.fold_send made a b))
    (value_formed Nothing _ (λ P. tt)
    (under_formed ExprHolds ExprHolds StmtHolds [] stmt.Send _ _ (λ kinds x y s t. and_from _ _ s t) (h parts.0).part (k parts.1).part))

create_stands : (t : List ℕ) (a : Expr) → ExprStands a → StmtStands (s.Create t a)
create_stands t a h is =
    let parts = and_parts (is_name t) (tree.is_formed_expr a) (sym (fold_of.fold_create formed t a) ∙ is) in
    subst StmtFormed (sym (fold_of.fold_create made t a))
    (value_formed (Values (t ∷ [])) _ (λ P. tt) (mapped_formed ExprHolds StmtHolds stmt.Create _ (λ kinds x s. s) (h parts.1).part))

-- a statement that is one expression
one_stands : (a : Expr) (x : Stmt) (f : CoreExpr → CoreStmt) → ExprStands a → tree.is_formed_stmt x ≡ tree.is_formed_expr a
    → of_file x ≡ act (mapped f (in_expr a).part) → ((kinds : List Bool) (d : CoreExpr) → ExprHolds kinds d → StmtHolds kinds (f d)) → StmtStands x
one_stands a x f h same becomes go is =
    subst StmtFormed (sym becomes) (value_formed Nothing _ (λ P. tt) (mapped_formed ExprHolds StmtHolds f _ go (h (sym same ∙ is)).part))

arm_stands : (x : Pat) (a : Expr) → PatStands x → ExprStands a → ArmStands (arm x a)
arm_stands x a h k is =
    let parts = and_parts (tree.is_formed_pat x) (tree.is_formed_expr a) (sym (fold_of.fold_arm formed x a) ∙ is) in
    subst (PartFormed ArmHolds) (sym (fold_of.fold_arm made x a))
    (under_formed PatHolds ExprHolds ArmHolds _ _ _ _ arm_holds (h parts.0) (k parts.1).part)

branch_stands : (a : Expr) (xs : Each StmtStands) → ExprStands a → BranchStands (branch a (nodes xs))
branch_stands a xs h is =
    let parts = and_parts (tree.is_formed_expr a) (all (map tree.is_formed_stmt (nodes xs))) (sym (fold_of.fold_branch formed a (nodes xs)) ∙ is) in
    subst (PartFormed BranchHolds) (sym (fold_of.fold_branch made a (nodes xs)))
    (under_formed ExprHolds (NumberOf false) BranchHolds [] _ _ _ branch_holds (h parts.0).part (block_stands xs parts.1))

-- an expression that holds no other
leaf_stands : (f : Scope → CoreExpr) (x : Expr) → in_expr x ≡ other_expr (plain f)
    → ((kinds : List Bool) (scope : Scope) → ExprHolds kinds (f scope)) → ExprStands x
leaf_stands f x is h _ = subst ExprFormed (sym is) (other_formed _ (plain_formed ExprHolds f h))

cases : Cases ExprStands PatStands StmtStands ArmStands BranchStands
cases = record {
  at_undef = constant_stands const.Undef e.Undef (fold_of.fold_undef made);
  at_nil = constant_stands const.Nil e.Nil (fold_of.fold_nil made);
  at_true = constant_stands const.True e.True (fold_of.fold_true made);
  at_false = constant_stands const.False e.False (fold_of.fold_false made);
  at_num = λ z. constant_stands (const.Num z) (e.Num z) (fold_of.fold_num made z);
  at_sym = λ t. constant_stands (const.Sym t) (e.Sym t) (fold_of.fold_sym made t);
  at_text = λ t. leaf_stands _ (e.Text t) (fold_of.fold_text made t) (λ kinds scope. expr_holds kinds (core.Text t) _ (expr.rolls-Text t) refl);
  at_var = λ t. leaf_stands _ (e.Var t) (fold_of.fold_var made t) (λ kinds scope. expr_holds kinds (core.Var _) _ (expr.rolls-Var _) refl);
  at_myself = leaf_stands _ e.Myself (fold_of.fold_myself made) (λ kinds scope. expr_holds kinds core.Myself _ expr.rolls-Myself refl);
  at_abs = abs_stands;
  at_block = block_expr_stands;
  at_call = call_stands;
  at_tuple = tuple_stands;
  at_new = new_stands;
  at_case = case_stands;
  at_if = if_stands;
  at_if_else = if_else_stands;
  at_any = λ h.
      subst PatFormed (sym (fold_of.fold_any made)) (plain_formed PatHolds _ (λ kinds scope. pat_holds kinds core.Any _ pat.rolls-Any refl));
  at_bind = λ t h.
      subst PatFormed (sym (fold_of.fold_bind made t)) (plain_formed PatHolds _ (λ kinds scope. pat_holds kinds core.Bind _ pat.rolls-Bind refl));
  at_pat_undef = constant_pat_stands const.Undef p.Undef (fold_of.fold_pat_undef made);
  at_pat_nil = constant_pat_stands const.Nil p.Nil (fold_of.fold_pat_nil made);
  at_pat_true = constant_pat_stands const.True p.True (fold_of.fold_pat_true made);
  at_pat_false = constant_pat_stands const.False p.False (fold_of.fold_pat_false made);
  at_pat_num = λ z. constant_pat_stands (const.Num z) (p.Num z) (fold_of.fold_pat_num made z);
  at_pat_sym = λ t. constant_pat_stands (const.Sym t) (p.Sym t) (fold_of.fold_pat_sym made t);
  at_value = value_stands;
  at_pat_tuple = pat_tuple_stands;
  at_let = let_stands;
  at_send = send_stands;
  at_create = create_stands;
  at_become = λ a h. one_stands a (s.Become a) stmt.Become h (fold_of.fold_become formed a) (fold_of.fold_become made a) (λ kinds d k. k);
  at_throw = λ a h. one_stands a (s.Throw a) stmt.Throw h (fold_of.fold_throw formed a) (fold_of.fold_throw made a) (λ kinds d k. k);
  at_do = λ a h. one_stands a (s.Do a) stmt.Do h (fold_of.fold_do formed a) (fold_of.fold_do made a) (λ kinds d k. k);
  at_arm = arm_stands;
  at_branch = branch_stands;
}

-- ---- files

file_stands : (file : List Stmt) → tree.are_formed file ≡ true → AllByRecursion StmtFormed (map of_file file)
file_stands [] h = tt
file_stands (x ∷ file) h = let parts = and_parts _ _ h in (every_stmt cases x parts.0, file_stands file parts.1)

pub resolved-trees-are-formed : ResolvedTreesAreFormed
resolved-trees-are-formed file h =
    let kinds = map is_abstraction (resolved file) in
    let x = (block_formed (map of_file file) (file_stands file h)).made kinds (scope_of (outermost written)) 0 (themselves (resolved file)) in
    and_from _ _ x.1 (is_block kinds 0 x.0)
