-- The scope rule has one verdict for each name.
use Rattle.std.proofs.Common.{◌≡◌, refl, ap, sym, subst, ◌∙◌, suc, Bool, false, List, [], ◌∷◌, ◌++◌, map, length, arith, length-append}
use Rattle.hum_syntax.specs.declared.tree.Expr.{Expr}
use Rattle.hum_syntax.specs.declared.tree.Pat.{Pat}
use Rattle.hum_syntax.specs.declared.tree.Stmt.{Stmt}
use Rattle.hum_syntax.specs.declared.tree.Arm.{Arm}
use Rattle.hum_syntax.specs.declared.tree.Branch.{Branch}
use Rattle.hum_syntax.specs.Names.{Names as AllNames, joined, expr_names, pat_names, stmt_names, arm_names, branch_names, names_of_expr, names_of_pat, names_of_stmt, names_of_arm, names_of_branch, names_of as all_names}
use Rattle.std.proofs.lemmas.List.Folds.{flat_map-map}
use Rattle.hum_syntax.proofs.Folding as folds
use Rattle.hum_syntax.proofs.Folding.{Steps}
use Rattle.hum_syntax.proofs.Induction.{Each, nodes, Cases, each_stmt, nodes-each_stmt}
use Rattle.hum_meaning.specs.Scope.{Names, Verdicts, Place, fresh, behind, OfExpr, OfPat, OfStmt, Part, in_block, in_all, exprs, items, of_expr, of_pat, of_stmt, of_arm, of_branch, outermost_scope}
use Rattle.hum_meaning.specs.Laws.{EachNameIsJudged}

abbrev judging : Steps OfExpr OfPat OfStmt Part Part
judging = record { expr = of_expr; pat = of_pat; stmt = of_stmt; an_arm = of_arm; a_branch = of_branch }

abbrev naming : Steps AllNames AllNames AllNames AllNames AllNames
naming = record { expr = expr_names; pat = pat_names; stmt = stmt_names; an_arm = arm_names; a_branch = branch_names }

-- ---- as many verdicts as names

abbrev Fits : Verdicts → AllNames → Type 0
Fits vs ns = length vs ≡ length ns

abbrev ExprFits : OfExpr → AllNames → Type 0
ExprFits x ns = (seen : Names) → Fits (x.at seen) ns

abbrev PatFits : OfPat → AllNames → Type 0
PatFits x ns = (place : Place) → Fits (x.at place) ns

abbrev StmtFits : OfStmt → AllNames → Type 0
StmtFits x ns = (place : Place) → Fits (x.at place) ns

abbrev PartFits : Part → AllNames → Type 0
PartFits x ns = (seen : Names) → Fits (x seen) ns

abbrev E : Expr → Type 0
E a = ExprFits (folds.of_expr judging a) (names_of_expr a)

abbrev P : Pat → Type 0
P x = PatFits (folds.of_pat judging x) (names_of_pat x)

abbrev S : Stmt → Type 0
S s = StmtFits (folds.of_stmt judging s) (names_of_stmt s)

abbrev A : Arm → Type 0
A x = PartFits (folds.of_arm judging x) (names_of_arm x)

abbrev B : Branch → Type 0
B x = PartFits (folds.of_branch judging x) (names_of_branch x)

-- of what a node becomes
by : {X Y : Type 0} (F : X → Y → Type 0) (x y : X) (n m : Y) → x ≡ y → n ≡ m → F y m → F x n
by F x y n m e e' h = subst (λ x. F x n) (sym e) (subst (F y) (sym e') h)

beside : (us vs : Verdicts) (ns ms : AllNames) → Fits us ns → Fits vs ms → Fits (us ++ vs) (ns ++ ms)
beside us vs ns ms h k = omega (arith, length-append us vs, length-append ns ms, h, k)

alone : (us : Verdicts) (ns : AllNames) → Fits us ns → Fits (us ++ []) ns
alone us ns h = omega (arith, length-append us [], h)

two : (us vs : Verdicts) (ns ms : AllNames) → Fits us ns → Fits vs ms → Fits (us ++ (vs ++ [])) (ns ++ ms)
two us vs ns ms h k = beside us (vs ++ []) ns ms h (alone vs ms k)

-- ---- lists of nodes

exprs_fit : (xs : Each E) (seen : Names) → Fits (exprs (map (folds.of_expr judging) (nodes xs)) seen)
    (joined (map names_of_expr (nodes xs)))
exprs_fit [] seen = refl
exprs_fit (x ∷ xs) seen = beside _ _ (names_of_expr x.0) _ (x.1 seen) (exprs_fit xs seen)

pats_fit : (xs : Each P) (place : Place) → Fits (items (map (folds.of_pat judging) (nodes xs)) place) (joined (map names_of_pat (nodes xs)))
pats_fit [] place = refl
pats_fit (x ∷ xs) place = beside _ _ (names_of_pat x.0) _ (x.1 place) (pats_fit xs (behind (folds.of_pat judging x.0).names place))

stmts_fit : (xs : Each S) (outer taken : Names) (grouped : Bool)
    → Fits (in_block outer taken grouped (map (folds.of_stmt judging) (nodes xs))) (joined (map names_of_stmt (nodes xs)))
stmts_fit [] outer taken grouped = refl
stmts_fit (x ∷ xs) outer taken grouped = beside _ _ (names_of_stmt x.0) _ (x.1 _) (stmts_fit xs outer _ _)

arms_fit : (xs : Each A) (seen : Names) → Fits (in_all (map (folds.of_arm judging) (nodes xs)) seen) (joined (map names_of_arm (nodes xs)))
arms_fit [] seen = refl
arms_fit (x ∷ xs) seen = beside _ _ (names_of_arm x.0) _ (x.1 seen) (arms_fit xs seen)

-- the branches of an `IF`, and what follows
branches_fit : (xs : Each B) (rest : List Part) (ns : AllNames) (seen : Names) → Fits (in_all rest seen) ns
    → Fits (in_all (map (folds.of_branch judging) (nodes xs) ++ rest) seen) (joined (map names_of_branch (nodes xs)) ++ ns)
branches_fit [] rest ns seen h = h
branches_fit (x ∷ xs) rest ns seen h =
    let others = joined (map names_of_branch (nodes xs)) in
    let first : Fits ((folds.of_branch judging x.0) seen) (names_of_branch x.0) = x.1 seen in
    let more : Fits (in_all (map (folds.of_branch judging) (nodes xs) ++ rest) seen) (others ++ ns) = branches_fit xs rest ns seen h in
    omega (
      arith,
      length-append ((folds.of_branch judging x.0) seen) (in_all (map (folds.of_branch judging) (nodes xs) ++ rest) seen),
      length-append (names_of_branch x.0 ++ others) ns,
      length-append (names_of_branch x.0) others,
      length-append others ns,
      first,
      more,
    )

only_branches_fit : (xs : Each B) (seen : Names) → Fits (in_all (map (folds.of_branch judging) (nodes xs)) seen)
    (joined (map names_of_branch (nodes xs)))
only_branches_fit [] seen = refl
only_branches_fit (x ∷ xs) seen = beside _ _ (names_of_branch x.0) _ (x.1 seen) (only_branches_fit xs seen)

-- ---- every node

cases : Cases E P S A B
cases = record {
  at_undef = by ExprFits _ _ _ _ (folds.fold_undef judging) (folds.fold_undef naming) (λ seen. refl);
  at_nil = by ExprFits _ _ _ _ (folds.fold_nil judging) (folds.fold_nil naming) (λ seen. refl);
  at_true = by ExprFits _ _ _ _ (folds.fold_true judging) (folds.fold_true naming) (λ seen. refl);
  at_false = by ExprFits _ _ _ _ (folds.fold_false judging) (folds.fold_false naming) (λ seen. refl);
  at_num = λ z. by ExprFits _ _ _ _ (folds.fold_num judging z) (folds.fold_num naming z) (λ seen. refl);
  at_sym = λ t. by ExprFits _ _ _ _ (folds.fold_sym judging t) (folds.fold_sym naming t) (λ seen. refl);
  at_text = λ t. by ExprFits _ _ _ _ (folds.fold_text judging t) (folds.fold_text naming t) (λ seen. refl);
  at_var = λ t. by ExprFits _ _ _ _ (folds.fold_var judging t) (folds.fold_var naming t) (λ seen. refl);
  at_myself = by ExprFits _ _ _ _ (folds.fold_myself judging) (folds.fold_myself naming) (λ seen. refl);
  at_abs = λ x a h k. by ExprFits _ _ _ _ (folds.fold_abs judging x a) (folds.fold_abs naming x a) (λ seen. beside _ _ (names_of_pat x) _ (h (fresh seen)) (k _));
  at_block = λ xs. by ExprFits _ _ _ _ (folds.fold_block judging (nodes xs)) (folds.fold_block naming (nodes xs)) (λ seen. stmts_fit xs seen [] false);
  at_call = λ f a h k. by ExprFits _ _ _ _ (folds.fold_call judging f a) (folds.fold_call naming f a) (λ seen. two _ _ (names_of_expr f) _ (h seen) (k seen));
  at_tuple = λ xs. by ExprFits _ _ _ _ (folds.fold_tuple judging (nodes xs)) (folds.fold_tuple naming (nodes xs)) (λ seen. exprs_fit xs seen);
  at_new = λ a h. by ExprFits _ _ _ _ (folds.fold_new judging a) (folds.fold_new naming a) (λ seen. h seen);
  at_case = λ a xs h. by ExprFits _ _ _ _ (folds.fold_case judging a (nodes xs)) (folds.fold_case naming a (nodes xs)) (λ seen. beside _ _ (names_of_expr a) _ (h seen) (arms_fit xs seen));
  at_if = λ xs. by ExprFits _ _ _ _ (folds.fold_if judging (nodes xs)) (folds.fold_if naming (nodes xs)) (λ seen. only_branches_fit xs seen);
  at_if_else = λ xs ys. by ExprFits _ _ _ _ (folds.fold_if_else judging (nodes xs) (nodes ys)) (folds.fold_if_else naming (nodes xs) (nodes ys))
      (λ seen. branches_fit xs _ _ seen (alone _ (joined (map names_of_stmt (nodes ys))) (stmts_fit ys seen [] false)));
  at_any = by PatFits _ _ _ _ (folds.fold_any judging) (folds.fold_any naming) (λ place. refl);
  at_bind = λ t. by PatFits _ _ _ _ (folds.fold_bind judging t) (folds.fold_bind naming t) (λ place. refl);
  at_pat_undef = by PatFits _ _ _ _ (folds.fold_pat_undef judging) (folds.fold_pat_undef naming) (λ place. refl);
  at_pat_nil = by PatFits _ _ _ _ (folds.fold_pat_nil judging) (folds.fold_pat_nil naming) (λ place. refl);
  at_pat_true = by PatFits _ _ _ _ (folds.fold_pat_true judging) (folds.fold_pat_true naming) (λ place. refl);
  at_pat_false = by PatFits _ _ _ _ (folds.fold_pat_false judging) (folds.fold_pat_false naming) (λ place. refl);
  at_pat_num = λ z. by PatFits _ _ _ _ (folds.fold_pat_num judging z) (folds.fold_pat_num naming z) (λ place. refl);
  at_pat_sym = λ t. by PatFits _ _ _ _ (folds.fold_pat_sym judging t) (folds.fold_pat_sym naming t) (λ place. refl);
  at_value = λ a h. by PatFits _ _ _ _ (folds.fold_value judging a) (folds.fold_value naming a) (λ place. h place.seen);
  at_pat_tuple = λ xs. by PatFits _ _ _ _ (folds.fold_pat_tuple judging (nodes xs)) (folds.fold_pat_tuple naming (nodes xs)) (λ place. pats_fit xs place);
  at_let = λ x a h k. by StmtFits _ _ _ _ (folds.fold_let judging x a) (folds.fold_let naming x a) (λ place. beside _ _ (names_of_pat x) _ (h place) (k place.seen));
  at_send = λ a b h k. by StmtFits _ _ _ _ (folds.fold_send judging a b) (folds.fold_send naming a b) (λ place. two _ _ (names_of_expr a) _ (h place.seen) (k place.seen));
  at_create = λ t a h. by StmtFits _ _ _ _ (folds.fold_create judging t a) (folds.fold_create naming t a) (λ place. ap suc (h place.seen));
  at_become = λ a h. by StmtFits _ _ _ _ (folds.fold_become judging a) (folds.fold_become naming a) (λ place. alone _ _ (h place.seen));
  at_throw = λ a h. by StmtFits _ _ _ _ (folds.fold_throw judging a) (folds.fold_throw naming a) (λ place. alone _ _ (h place.seen));
  at_do = λ a h. by StmtFits _ _ _ _ (folds.fold_do judging a) (folds.fold_do naming a) (λ place. alone _ _ (h place.seen));
  at_arm = λ x a h k. by PartFits _ _ _ _ (folds.fold_arm judging x a) (folds.fold_arm naming x a) (λ seen. beside _ _ (names_of_pat x) _ (h (fresh seen)) (k _));
  at_branch = λ a xs h. by PartFits _ _ _ _ (folds.fold_branch judging a (nodes xs)) (folds.fold_branch naming a (nodes xs)) (λ seen. two _ _ (names_of_expr a) _ (h seen) (stmts_fit xs seen [] false));
}

pub each-name-is-judged : EachNameIsJudged
each-name-is-judged file =
    subst (λ ys. Fits (in_block outermost_scope [] false (map (folds.of_stmt judging) ys)) (joined (map names_of_stmt ys))) (nodes-each_stmt cases file) (stmts_fit (each_stmt cases file) outermost_scope [] false)
    ∙ ap length (listed file)
  where
    listed : (xs : List Stmt) → joined (map names_of_stmt xs) ≡ all_names xs
    listed xs = flat_map-map (λ names. names) names_of_stmt xs
