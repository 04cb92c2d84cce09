-- Where the units of a part stand among all, and that a part has as many as its size says.
use Rattle.std.proofs.Common.{◌≡◌, refl, ap, sym, subst, ◌∙◌, ℕ, suc, ◌+◌, Bool, true, false, List, [], ◌∷◌, ◌++◌, map, length, Some, None, arith, slice_get, length-append, append_assoc}
use Rattle.std.specs.Prelude.{sum}
use Rattle.std.proofs.lemmas.List.Sums.{sum_by-cons}
use Rattle.hum_syntax.specs.declared.tree.Expr.{Expr, fold-Expr}
use Rattle.hum_syntax.specs.declared.tree.Pat.{Pat, fold-Pat}
use Rattle.hum_syntax.specs.declared.tree.Stmt.{Stmt}
use Rattle.hum_syntax.specs.declared.tree.Arm.{Arm, fold-Arm}
use Rattle.hum_syntax.specs.declared.tree.Branch.{Branch, fold-Branch}
use Rattle.hum_syntax.specs.declared.tree.Expr.TheOpen.{Expr-F, Pat-F, Stmt-F, Arm-F, Branch-F}
use Rattle.hum_syntax.specs.declared.tree.Expr.TheOpen as layer
use Rattle.hum_syntax.specs.declared.tree.Expr.TheFolds as folds
use Rattle.hum_syntax.specs.declared.tree.Expr.TheViews.{roll-Expr, roll-Pat, roll-Stmt, roll-Arm, roll-Branch}
use Rattle.hum_meaning.specs.Scope.{grouped_after}
use Rattle.hum_core.specs.declared.resolved.CoreUnit.{CoreUnit}
use Rattle.hum_core.specs.declared.resolved.CoreArm.{CoreArm}
use Rattle.hum_core.specs.declared.resolved.CoreBranch.{CoreBranch}
use Rattle.hum_core.specs.Alike.{with_marks}
use Rattle.hum_core.specs.Agreement.{Names}
use Rattle.hum_core.specs.Units.{Scope, Part, in_order, exprs, block, functions, statements, scope_at, scope_after, OfExpr, OfPat, OfStmt, of_expr, of_pat, of_stmt, of_arm, of_branch, of_file, let_stmt}

-- ---- what trees become

abbrev pub made_expr : Expr → OfExpr
made_expr = fold-Expr OfExpr OfPat OfStmt (Part CoreArm) (Part CoreBranch) of_expr of_pat of_stmt of_arm of_branch

abbrev pub made_pat : Pat → OfPat
made_pat = fold-Pat OfExpr OfPat OfStmt (Part CoreArm) (Part CoreBranch) of_expr of_pat of_stmt of_arm of_branch

abbrev pub made_stmt : Stmt → OfStmt
made_stmt = of_file

abbrev pub made_arm : Arm → Part CoreArm
made_arm = fold-Arm OfExpr OfPat OfStmt (Part CoreArm) (Part CoreBranch) of_expr of_pat of_stmt of_arm of_branch

abbrev pub made_branch : Branch → Part CoreBranch
made_branch = fold-Branch OfExpr OfPat OfStmt (Part CoreArm) (Part CoreBranch) of_expr of_pat of_stmt of_arm of_branch

-- ---- sizes

-- as many units as the size says
abbrev pub Sized : {A : Type 0} → Part A → Type 0
Sized part = (scope : Scope) (n : ℕ) → length (part.make scope n).1 ≡ part.size

-- one list of units and then another
in_all : (us vs : List CoreUnit) (a b : ℕ) → length us ≡ a → length vs ≡ b → length (us ++ vs) ≡ a + b
in_all us vs a b h k = length-append us vs ∙ ap (λ i. i + length vs) h ∙ ap (λ i. a + i) k

sized_under : {A B : Type 0} (names : Names) (a : Part A) (b : Part B) → Sized a → Sized b → (scope : Scope) (n : ℕ)
    → length ((a.make scope n).1 ++ (b.make (with_marks names scope) (n + a.size)).1) ≡ a.size + b.size
sized_under names a b h k scope n = in_all _ _ _ _ (h scope n) (k (with_marks names scope) (n + a.size))

abbrev EE : Type 0
EE = (x : Expr) × Sized (made_expr x).part

abbrev PP : Type 0
PP = (x : Pat) × Sized (made_pat x).part

abbrev SS : Type 0
SS = (x : Stmt) × Sized (made_stmt x).part

abbrev AA : Type 0
AA = (x : Arm) × Sized (made_arm x)

abbrev BB : Type 0
BB = (x : Branch) × Sized (made_branch x)

sized_exprs : (es : List EE) → Sized (exprs (map made_expr (map (λ e. e.0) es)))
sized_exprs [] scope n = refl
sized_exprs (e ∷ es) scope n = in_all _ _ _ _ (e.1 scope n) (sized_exprs es scope (n + (made_expr e.0).part.size))

sized_pats : (ps : List PP) → Sized (in_order (map (λ p. p.part) (map made_pat (map (λ p. p.0) ps))))
sized_pats [] scope n = refl
sized_pats (p ∷ ps) scope n = in_all _ _ _ _ (p.1 scope n) (sized_pats ps scope (n + (made_pat p.0).part.size))

sized_arms : (as' : List AA) → Sized (in_order (map made_arm (map (λ a. a.0) as')))
sized_arms [] scope n = refl
sized_arms (a ∷ as') scope n = in_all _ _ _ _ (a.1 scope n) (sized_arms as' scope (n + (made_arm a.0).size))

pub sized_branches : {Z : Type 0} (node : Z → Branch) (zs : List Z) → ((z : Z) → Sized (made_branch (node z)))
    → Sized (in_order (map made_branch (map node zs)))
sized_branches node [] h scope n = refl
sized_branches node (z ∷ zs) h scope n = in_all _ _ _ _ (h z scope n) (sized_branches node zs h scope (n + (made_branch (node z)).size))

sized_statements : (grouped : Bool) (ss : List SS) (scope : Scope) (n : ℕ)
    → length (statements grouped (map made_stmt (map (λ s. s.0) ss)) scope n).1 ≡ sum (map (λ s. s.part.size) (map made_stmt (map (λ s. s.0) ss)))
sized_statements grouped [] scope n = refl
sized_statements grouped (s ∷ ss) scope n =
    let fs = functions n (made_stmt s.0 ∷ map made_stmt (map (λ s. s.0) ss)) in
    let here = scope_at (made_stmt s.0).binds grouped fs scope in
    let more = sized_statements (grouped_after (made_stmt s.0).binds grouped) ss (scope_after (made_stmt s.0).binds here) (n + (made_stmt s.0).part.size) in
    in_all _ _ _ _ (s.1 here n) more
    ∙ sym (sum_by-cons (λ size. size) (made_stmt s.0).part.size (map (λ s. s.part.size) (map made_stmt (map (λ s. s.0) ss))))

sized_block : (ss : List SS) → Sized (block (map made_stmt (map (λ s. s.0) ss)))
sized_block ss scope n = ap suc (sized_statements false ss scope (suc n))

abbrev bare_expr : Expr-F EE PP SS AA BB → Expr-F Expr Pat Stmt Arm Branch
bare_expr = folds.map-Expr EE PP SS AA BB Expr Pat Stmt Arm Branch (λ z. z.0) (λ z. z.0) (λ z. z.0) (λ z. z.0) (λ z. z.0)

abbrev bare_pat : Pat-F EE PP SS AA BB → Pat-F Expr Pat Stmt Arm Branch
bare_pat = folds.map-Pat EE PP SS AA BB Expr Pat Stmt Arm Branch (λ z. z.0) (λ z. z.0) (λ z. z.0) (λ z. z.0) (λ z. z.0)

abbrev bare_stmt : Stmt-F EE PP SS AA BB → Stmt-F Expr Pat Stmt Arm Branch
bare_stmt = folds.map-Stmt EE PP SS AA BB Expr Pat Stmt Arm Branch (λ z. z.0) (λ z. z.0) (λ z. z.0) (λ z. z.0) (λ z. z.0)

-- ---- one node of what a tree becomes, over what is below it

abbrev pub expr_made : Expr-F Expr Pat Stmt Arm Branch → OfExpr
expr_made x = of_expr (folds.map-Expr Expr Pat Stmt Arm Branch OfExpr OfPat OfStmt (Part CoreArm) (Part CoreBranch) made_expr made_pat made_stmt made_arm made_branch x)

abbrev pub pat_made : Pat-F Expr Pat Stmt Arm Branch → OfPat
pat_made x = of_pat (folds.map-Pat Expr Pat Stmt Arm Branch OfExpr OfPat OfStmt (Part CoreArm) (Part CoreBranch) made_expr made_pat made_stmt made_arm made_branch x)

abbrev pub stmt_made : Stmt-F Expr Pat Stmt Arm Branch → OfStmt
stmt_made x = of_stmt (folds.map-Stmt Expr Pat Stmt Arm Branch OfExpr OfPat OfStmt (Part CoreArm) (Part CoreBranch) made_expr made_pat made_stmt made_arm made_branch x)

abbrev pub arm_made : Arm-F Expr Pat Stmt Arm Branch → Part CoreArm
arm_made x = of_arm (folds.map-Arm Expr Pat Stmt Arm Branch OfExpr OfPat OfStmt (Part CoreArm) (Part CoreBranch) made_expr made_pat made_stmt made_arm made_branch x)

abbrev pub branch_made : Branch-F Expr Pat Stmt Arm Branch → Part CoreBranch
branch_made x = of_branch (folds.map-Branch Expr Pat Stmt Arm Branch OfExpr OfPat OfStmt (Part CoreArm) (Part CoreBranch) made_expr made_pat made_stmt made_arm made_branch x)

pub made_rolled_expr : (x : Expr-F Expr Pat Stmt Arm Branch) → made_expr (roll-Expr x) ≡ expr_made x
made_rolled_expr x = folds.fold-roll-Expr OfExpr OfPat OfStmt (Part CoreArm) (Part CoreBranch) of_expr of_pat of_stmt of_arm of_branch x

pub made_rolled_pat : (x : Pat-F Expr Pat Stmt Arm Branch) → made_pat (roll-Pat x) ≡ pat_made x
made_rolled_pat x = folds.fold-roll-Pat OfExpr OfPat OfStmt (Part CoreArm) (Part CoreBranch) of_expr of_pat of_stmt of_arm of_branch x

pub made_rolled_stmt : (x : Stmt-F Expr Pat Stmt Arm Branch) → made_stmt (roll-Stmt x) ≡ stmt_made x
made_rolled_stmt x = folds.fold-roll-Stmt OfExpr OfPat OfStmt (Part CoreArm) (Part CoreBranch) of_expr of_pat of_stmt of_arm of_branch x

pub made_rolled_arm : (x : Arm-F Expr Pat Stmt Arm Branch) → made_arm (roll-Arm x) ≡ arm_made x
made_rolled_arm x = folds.fold-roll-Arm OfExpr OfPat OfStmt (Part CoreArm) (Part CoreBranch) of_expr of_pat of_stmt of_arm of_branch x

pub made_rolled_branch : (x : Branch-F Expr Pat Stmt Arm Branch) → made_branch (roll-Branch x) ≡ branch_made x
made_rolled_branch x = folds.fold-roll-Branch OfExpr OfPat OfStmt (Part CoreArm) (Part CoreBranch) of_expr of_pat of_stmt of_arm of_branch x

-- ---- every part has its size

expr_sized : (y : Expr-F EE PP SS AA BB) → Sized (expr_made (bare_expr y)).part
expr_sized (layer.Abs p e) = λ scope n. ap suc (sized_under (made_pat p.0).names (made_pat p.0).part (made_expr e.0).part p.1 e.1 scope (suc n))
expr_sized (layer.Block ss) = sized_block ss
expr_sized (layer.Call f a) = sized_under [] (made_expr f.0).part (made_expr a.0).part f.1 a.1
expr_sized (layer.Expr::Tuple es) = sized_exprs es
expr_sized (layer.New e) = e.1
expr_sized (layer.Case e as') = sized_under [] (made_expr e.0).part (in_order (map made_arm (map (λ a. a.0) as'))) e.1 (sized_arms as')
expr_sized (layer.If bs (Some ss)) = sized_under [] (in_order (map made_branch (map (λ b. b.0) bs))) (block (map made_stmt (map (λ s. s.0) ss))) (sized_branches (λ b. b.0) bs (λ b. b.1)) (sized_block ss)
expr_sized (layer.If bs None) = sized_under [] (in_order (map made_branch (map (λ b. b.0) bs))) (block []) (sized_branches (λ b. b.0) bs (λ b. b.1)) (sized_block [])
expr_sized _ = λ scope n. refl

pat_sized : (y : Pat-F EE PP SS AA BB) → Sized (pat_made (bare_pat y)).part
pat_sized (layer.Value e) = e.1
pat_sized (layer.Pat::Tuple ps) = sized_pats ps
pat_sized _ = λ scope n. refl

let_sized : (b : Bool) (p : OfPat) (e : OfExpr) → Sized p.part → Sized e.part → Sized (let_stmt b p e).part
let_sized true p e h k = k
let_sized false p e h k = sized_under [] p.part e.part h k

stmt_sized : (y : Stmt-F EE PP SS AA BB) → Sized (stmt_made (bare_stmt y)).part
stmt_sized (layer.Let p e) = let_sized _ (made_pat p.0) (made_expr e.0) p.1 e.1
stmt_sized (layer.Create name e) = e.1
stmt_sized (layer.Send e a) = sized_under [] (made_expr e.0).part (made_expr a.0).part e.1 a.1
stmt_sized (layer.Become e) = e.1
stmt_sized (layer.Throw e) = e.1
stmt_sized (layer.Do e) = e.1

expr_step : (x : Expr-F Expr Pat Stmt Arm Branch) (y : Expr-F EE PP SS AA BB) → bare_expr y ≡ x → Sized (made_expr (roll-Expr x)).part
expr_step x y is = subst (λ z. Sized (made_expr (roll-Expr z)).part) is (subst (λ z. Sized z.part) (sym (made_rolled_expr (bare_expr y))) (expr_sized y))

pat_step : (x : Pat-F Expr Pat Stmt Arm Branch) (y : Pat-F EE PP SS AA BB) → bare_pat y ≡ x → Sized (made_pat (roll-Pat x)).part
pat_step x y is = subst (λ z. Sized (made_pat (roll-Pat z)).part) is (subst (λ z. Sized z.part) (sym (made_rolled_pat (bare_pat y))) (pat_sized y))

stmt_step : (x : Stmt-F Expr Pat Stmt Arm Branch) (y : Stmt-F EE PP SS AA BB) → bare_stmt y ≡ x → Sized (made_stmt (roll-Stmt x)).part
stmt_step x y is = subst (λ z. Sized (made_stmt (roll-Stmt z)).part) is (subst (λ z. Sized z.part) (sym (made_rolled_stmt (bare_stmt y))) (stmt_sized y))

arm_step : (x : Arm-F Expr Pat Stmt Arm Branch) (y : Arm-F EE PP SS AA BB)
    → folds.map-Arm EE PP SS AA BB Expr Pat Stmt Arm Branch (λ z. z.0) (λ z. z.0) (λ z. z.0) (λ z. z.0) (λ z. z.0) y ≡ x → Sized (made_arm (roll-Arm x))
arm_step x y is =
    subst (λ z. Sized (made_arm (roll-Arm z))) is
    (subst Sized (sym (made_rolled_arm _)) (sized_under (made_pat y.pattern.0).names (made_pat y.pattern.0).part (made_expr y.value.0).part y.pattern.1 y.value.1))

branch_step : (x : Branch-F Expr Pat Stmt Arm Branch) (y : Branch-F EE PP SS AA BB)
    → folds.map-Branch EE PP SS AA BB Expr Pat Stmt Arm Branch (λ z. z.0) (λ z. z.0) (λ z. z.0) (λ z. z.0) (λ z. z.0) y ≡ x
    → Sized (made_branch (roll-Branch x))
branch_step x y is =
    subst (λ z. Sized (made_branch (roll-Branch z))) is
    (subst Sized (sym (made_rolled_branch _)) (sized_under [] (made_expr y.condition.0).part (block (map made_stmt (map (λ s. s.0) y.block))) y.condition.1 (sized_block y.block)))

abbrev E : Expr → Type 0
E x = Sized (made_expr x).part

abbrev P : Pat → Type 0
P x = Sized (made_pat x).part

abbrev S : Stmt → Type 0
S x = Sized (made_stmt x).part

abbrev A : Arm → Type 0
A x = Sized (made_arm x)

abbrev B : Branch → Type 0
B x = Sized (made_branch x)

pub sized_expr : (x : Expr) → Sized (made_expr x).part
sized_expr = folds.ind-Expr E P S A B expr_step pat_step stmt_step arm_step branch_step

pub sized_pat : (x : Pat) → Sized (made_pat x).part
sized_pat = folds.ind-Pat E P S A B expr_step pat_step stmt_step arm_step branch_step

pub sized_stmt : (x : Stmt) → Sized (made_stmt x).part
sized_stmt = folds.ind-Stmt E P S A B expr_step pat_step stmt_step arm_step branch_step

pub sized_arm : (x : Arm) → Sized (made_arm x)
sized_arm = folds.ind-Arm E P S A B expr_step pat_step stmt_step arm_step branch_step

pub sized_branch : (x : Branch) → Sized (made_branch x)
sized_branch = folds.ind-Branch E P S A B expr_step pat_step stmt_step arm_step branch_step

-- ---- places

module _ (units : List CoreUnit) where
  -- these stand among all units from the number n on
  abbrev pub Stand : ℕ → List CoreUnit → Type 0
  Stand n [] = Unit {0}
  Stand n (u ∷ us) = (slice_get units n ≡ Some u) × Stand (suc n) us

  stand_parts : (n : ℕ) (us vs : List CoreUnit) → Stand n (us ++ vs) → Stand n us × Stand (n + length us) vs
  stand_parts n [] vs h = (tt, subst (λ k. Stand k vs) (omega arith) h)
  stand_parts n (u ∷ us) vs h =
      let more = stand_parts (suc n) us vs h.1 in
      let next : suc n + length us ≡ n + suc (length us) = omega arith in
      ((h.0, more.0), subst (λ k. Stand k vs) next more.1)

  pub stand_sized : (n size : ℕ) (us vs : List CoreUnit) → length us ≡ size → Stand n (us ++ vs) → Stand n us × Stand (n + size) vs
  stand_sized n size us vs e h = let parts = stand_parts n us vs h in (parts.0, subst (λ k. Stand (n + k) vs) e parts.1)

at_end : (before : List CoreUnit) (u : CoreUnit) (own : List CoreUnit) (n : ℕ) → length before ≡ n
    → slice_get (before ++ u ∷ own) n ≡ Some u
at_end [] u own n e = subst (λ k. slice_get (u ∷ own) k ≡ Some u) e refl
at_end (v ∷ before) u own n e = subst (λ k. slice_get (v ∷ before ++ u ∷ own) k ≡ Some u) e (at_end before u own (length before) refl)

pub all_stand : (before own : List CoreUnit) (n : ℕ) → length before ≡ n → Stand (before ++ own) n own
all_stand before [] n e = tt
all_stand before (u ∷ own) n e =
    let count : length (before ++ u ∷ []) ≡ suc n = omega (arith, length-append before (u ∷ []), e) in
    (at_end before u own n e, subst (λ units. Stand units (suc n) own) (append_assoc before (u ∷ []) own) (all_stand (before ++ u ∷ []) own (suc n) count))
