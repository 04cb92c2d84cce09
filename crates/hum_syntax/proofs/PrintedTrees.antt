-- A formed tree is spelled by the tokens that it is printed as, where their levels are left.
use Rattle.std.proofs.Common.{◌≡◌, ℕ, zero, suc, ◌≤◌, Bool, true, List, [], ◌∷◌, ◌++◌, map, length, max, Some, None, refl, sym, ap, ◌∙◌, subst, arith, append_assoc}
use Rattle.std.specs.Prelude.{◌&&◌, nat_le}
use Rattle.std.specs.List.{list_all}
use Rattle.std.proofs.lemmas.Bool.{and_parts, true≢false}
use Rattle.std.proofs.lemmas.List.{append-nil}
use Rattle.std.proofs.lemmas.List.Folds.{list_all-map}
use Rattle.hum_syntax.specs.declared.token.TokenKind.TheVariants as k
use Rattle.hum_syntax.specs.declared.keyword.Keyword.TheVariants as w
use Rattle.hum_syntax.specs.declared.tree.Expr.{Expr}
use Rattle.hum_syntax.specs.declared.tree.Pat.{Pat}
use Rattle.hum_syntax.specs.declared.tree.Stmt.{Stmt}
use Rattle.hum_syntax.specs.declared.tree.Arm.{Arm}
use Rattle.hum_syntax.specs.declared.tree.Branch.{Branch}
use Rattle.hum_syntax.specs.declared.tree.Expr.TheVariants as e
use Rattle.hum_syntax.specs.declared.tree.Pat.TheVariants as p
use Rattle.hum_syntax.specs.declared.tree.Stmt.TheVariants as s
use Rattle.hum_syntax.specs.Forms.{is_name}
use Rattle.hum_syntax.specs.Formed.{all, is_formed_expr, is_formed_pat, is_formed_stmt, is_formed_arm, is_formed_branch, are_formed}
use Rattle.hum_syntax.specs.Spells as grammar
use Rattle.hum_syntax.specs.Spells.{Kinds, arm, branch, IsStmts, IsStmt, IsExpr, IsItems, IsTerm, IsBlock, IsBranches, IsArms, IsArm, IsPat, IsPats}
use Rattle.hum_syntax.specs.Prints.{Part, Piece, expr_part, pat_part, stmt_piece, arm_piece, branch_piece, part_of_expr, part_of_pat, piece_of_stmt, piece_of_arm, piece_of_branch, as_term, as_callee, in_line, levels_in, items_in, tuple, block, branches, printed, levels}
use Rattle.hum_syntax.proofs.Folding as folds
use Rattle.hum_syntax.proofs.Folding.{Steps}
use Rattle.hum_syntax.proofs.FormedTrees.{formed}
use Rattle.hum_syntax.proofs.Induction.{Each, nodes, Cases, each_stmt, nodes-each_stmt}
use Rattle.hum_syntax.proofs.Chains.{IsChain, Fits, PatFits, fits_expr, fits_term, fits_callee, fits_last, fits_pat, fits_pterm, atom_chain, call_callee}
use Rattle.hum_syntax.proofs.Written.{items_more}

abbrev pub parts : Steps Part Part Piece Piece Piece
parts = record { expr = expr_part; pat = pat_part; stmt = stmt_piece; an_arm = arm_piece; a_branch = branch_piece }

-- ---- what is so of each node

abbrev ExprFits : Expr → Type 0
ExprFits a = is_formed_expr a ≡ true → Fits (part_of_expr a) a

abbrev PatternFits : Pat → Type 0
PatternFits x = is_formed_pat x ≡ true → PatFits (part_of_pat x) x

abbrev StmtFits : Stmt → Type 0
StmtFits x = is_formed_stmt x ≡ true → (n : ℕ) → (piece_of_stmt x).levels ≤ n → IsStmt n (piece_of_stmt x).tokens x

abbrev ArmFits : Arm → Type 0
ArmFits x = is_formed_arm x ≡ true → (n : ℕ) → (piece_of_arm x).levels ≤ n → IsArm n (piece_of_arm x).tokens x

-- a condition and its block
record IsBranch (n : ℕ) (ks : Kinds) (x : Branch) : Type 0 where
  us : Kinds
  vs : Kinds
  a : Expr
  ys : List Stmt
  split : us ++ vs ≡ ks
  made : branch a ys ≡ x
  condition : IsExpr n us a
  statements : IsBlock n vs ys

abbrev BranchFits : Branch → Type 0
BranchFits x = is_formed_branch x ≡ true → (n : ℕ) → (piece_of_branch x).levels ≤ n → IsBranch n (piece_of_branch x).tokens x

-- ---- helpers

-- what is one deeper needs a level more
deeper : (l : ℕ) (Q : ℕ → Type 0) → ((m : ℕ) → l ≤ m → Q (suc m)) → (n : ℕ) → suc l ≤ n → Q n
deeper l Q f zero below = absurd (omega arith)
deeper l Q f (suc n) below = f n (omega arith)

-- an atom of one token
one : (l : ℕ) (ks : Kinds) (a : Expr) → ((n : ℕ) → grammar.IsAtom n ks a) → (n : ℕ) → l ≤ n → IsTerm n ks a
one l ks a atom n below = subst (λ us. IsTerm n us a) (append-nil ks) (grammar.chain (atom n) grammar.calls_done)

pub all_formed : {X : Type 0} (test : X → Bool) (xs : List X) → all (map test xs) ≡ true → list_all test xs ≡ true
all_formed test xs h = sym (list_all-map (λ b. b) test xs) ∙ h

-- ---- lists

stmts_fit : (xs : Each StmtFits) → are_formed (nodes xs) ≡ true → (n : ℕ) → levels (nodes xs) ≤ n → IsStmts n (printed (nodes xs)) (nodes xs)
stmts_fit [] h n below = grammar.stmts_none
stmts_fit (x ∷ xs) h n below =
    let both = and_parts (is_formed_stmt x.0) (are_formed (nodes xs)) h in
    grammar.stmts_more (x.1 both.0 n (omega arith)) (stmts_fit xs both.1 n (omega arith))

block_fits : (xs : Each StmtFits) → all (map is_formed_stmt (nodes xs)) ≡ true → (n : ℕ) → levels (nodes xs) ≤ n
    → IsBlock n (block (map piece_of_stmt (nodes xs))) (nodes xs)
block_fits xs h n below = grammar.square (stmts_fit xs (all_formed is_formed_stmt (nodes xs) h) n below)

items_levels : (q r : Part) (ps : List Part) → (tuple (items_in (q ∷ r ∷ ps))).levels ≡ max (as_term q).levels (tuple (items_in (r ∷ ps))).levels
items_levels q r [] = refl
items_levels q r (t ∷ ps) = refl

items_fit : (x : (a : Expr) × ExprFits a) (xs : Each ExprFits) → list_all is_formed_expr (nodes (x ∷ xs)) ≡ true → (n : ℕ)
    → (tuple (items_in (map part_of_expr (nodes (x ∷ xs))))).levels ≤ n
    → IsItems n (tuple (items_in (map part_of_expr (nodes (x ∷ xs))))).tokens (nodes (x ∷ xs))
items_fit x [] h n below = fits_last (part_of_expr x.0) x.0 (x.1 (and_parts (is_formed_expr x.0) true h).0) n (omega arith)
items_fit x (y ∷ ys) h n below =
    let both = and_parts (is_formed_expr x.0) (list_all is_formed_expr (nodes (y ∷ ys))) h in
    let each = items_levels (part_of_expr x.0) (part_of_expr y.0) (map part_of_expr (nodes ys)) in
    subst (λ ks. IsItems n ks (nodes (x ∷ y ∷ ys))) (sym (items_more x.0 y.0 (nodes ys)))
    (grammar.item_comma (fits_term (part_of_expr x.0) x.0 (x.1 both.0) n (omega arith)) (items_fit y ys both.1 n (omega arith)))

pats_fit : (x : (a : Pat) × PatternFits a) (xs : Each PatternFits) → list_all is_formed_pat (nodes (x ∷ xs)) ≡ true → (n : ℕ)
    → (tuple (map as_term (map part_of_pat (nodes (x ∷ xs))))).levels ≤ n
    → IsPats n (tuple (map as_term (map part_of_pat (nodes (x ∷ xs))))).tokens (nodes (x ∷ xs))
pats_fit x [] h n below = grammar.pats_last (fits_pterm (part_of_pat x.0) x.0 (x.1 (and_parts (is_formed_pat x.0) true h).0) n (omega arith))
pats_fit x (y ∷ ys) h n below =
    let both = and_parts (is_formed_pat x.0) (list_all is_formed_pat (nodes (y ∷ ys))) h in
    grammar.pats_comma (fits_pterm (part_of_pat x.0) x.0 (x.1 both.0) n (omega arith)) (pats_fit y ys both.1 n (omega arith))

arms_fit : (x : (a : Arm) × ArmFits a) (xs : Each ArmFits) → list_all is_formed_arm (nodes (x ∷ xs)) ≡ true → (n : ℕ)
    → levels_in (map piece_of_arm (nodes (x ∷ xs))) ≤ n → IsArms n (in_line (map piece_of_arm (nodes (x ∷ xs)))) (nodes (x ∷ xs))
arms_fit x [] h n below =
    subst (λ ks. IsArms n ks (x.0 ∷ [])) (sym (append-nil (piece_of_arm x.0).tokens))
    (grammar.arms_last (x.1 (and_parts (is_formed_arm x.0) true h).0 n (omega arith)))
arms_fit x (y ∷ ys) h n below =
    let both = and_parts (is_formed_arm x.0) (list_all is_formed_arm (nodes (y ∷ ys))) h in
    grammar.arms_more (x.1 both.0 n (omega arith)) (arms_fit y ys both.1 n (omega arith))

last_branch : {n : ℕ} {ks : Kinds} {x : Branch} → IsBranch n ks x → IsBranches n ks (x ∷ [])
last_branch {n} {ks} {x} is =
    subst (λ b. IsBranches n ks (b ∷ [])) is.made
    (subst (λ us. IsBranches n us (branch is.a is.ys ∷ [])) is.split (grammar.branch_last is.condition is.statements))

more_branches : {n : ℕ} {ks ws : Kinds} {x : Branch} {xs : List Branch} → IsBranch n ks x → IsBranches n ws xs
    → IsBranches n (ks ++ k.Keyword w.KwElif ∷ ws) (x ∷ xs)
more_branches {n} {ks} {ws} {x} {xs} is more =
    subst (λ b. IsBranches n (ks ++ k.Keyword w.KwElif ∷ ws) (b ∷ xs)) is.made
    (subst (λ us. IsBranches n us (branch is.a is.ys ∷ xs))
    (sym (append_assoc is.us is.vs (k.Keyword w.KwElif ∷ ws)) ∙ ap (λ z. z ++ k.Keyword w.KwElif ∷ ws) is.split)
    (grammar.branch_elif is.condition is.statements more))

branches_fit : (x : (a : Branch) × BranchFits a) (xs : Each BranchFits) → list_all is_formed_branch (nodes (x ∷ xs)) ≡ true → (n : ℕ)
    → levels_in (map piece_of_branch (nodes (x ∷ xs))) ≤ n → IsBranches n (branches (map piece_of_branch (nodes (x ∷ xs)))) (nodes (x ∷ xs))
branches_fit x [] h n below = last_branch (x.1 (and_parts (is_formed_branch x.0) true h).0 n (omega arith))
branches_fit x (y ∷ ys) h n below =
    let both = and_parts (is_formed_branch x.0) (list_all is_formed_branch (nodes (y ∷ ys))) h in
    more_branches (x.1 both.0 n (omega arith)) (branches_fit y ys both.1 n (omega arith))

-- ---- nodes with lists

tuple_fits : (xs : Each ExprFits) → ExprFits (e.Tuple (nodes xs))
tuple_fits [] h = absurd (true≢false (sym (sym (folds.fold_tuple formed []) ∙ h)))
tuple_fits (x ∷ []) h = absurd (true≢false (sym (sym (folds.fold_tuple formed (x.0 ∷ [])) ∙ h)))
tuple_fits (x ∷ y ∷ ys) h =
    let items = nodes (x ∷ y ∷ ys) in
    let both = and_parts _ _ (sym (folds.fold_tuple formed items) ∙ h) in
    subst (λ q. Fits q (e.Tuple items)) (sym (folds.fold_tuple parts items))
    (λ n below. grammar.expr_tuple (items_fit x (y ∷ ys) (all_formed is_formed_expr items both.1) n below))

pat_tuple_fits : (xs : Each PatternFits) → PatternFits (p.Tuple (nodes xs))
pat_tuple_fits [] h = absurd (true≢false (sym (sym (folds.fold_pat_tuple formed []) ∙ h)))
pat_tuple_fits (x ∷ []) h = absurd (true≢false (sym (sym (folds.fold_pat_tuple formed (x.0 ∷ [])) ∙ h)))
pat_tuple_fits (x ∷ y ∷ ys) h =
    let items = nodes (x ∷ y ∷ ys) in
    let both = and_parts _ _ (sym (folds.fold_pat_tuple formed items) ∙ h) in
    subst (λ q. PatFits q (p.Tuple items)) (sym (folds.fold_pat_tuple parts items))
    (λ n below. grammar.pat_tuple (pats_fit x (y ∷ ys) (all_formed is_formed_pat items both.1) n below))

case_fits : (a : Expr) (xs : Each ArmFits) → ExprFits a → ExprFits (e.Case a (nodes xs))
case_fits a [] fits h = absurd (true≢false (sym (sym (folds.fold_case formed a []) ∙ h)))
case_fits a (x ∷ xs) fits h =
    let ys = nodes (x ∷ xs) in
    let q = part_of_expr a in
    let some = nat_le 1 (length (map is_formed_arm ys)) in
    let both = and_parts (some && is_formed_expr a) (all (map is_formed_arm ys)) (sym (folds.fold_case formed a ys) ∙ h) in
    let subject = (and_parts some (is_formed_expr a) both.0).1 in
    subst (λ q. Fits q (e.Case a ys)) (sym (folds.fold_case parts a ys))
    (deeper (max q.levels (levels_in (map piece_of_arm ys)))
    (λ n. IsTerm n (k.Keyword w.KwCase ∷ q.tokens ++ k.Keyword w.KwOf ∷ in_line (map piece_of_arm ys) ++ k.Keyword w.KwEnd ∷ []) (e.Case a ys))
    (λ n below. grammar.case (fits_expr q a (fits subject) n (omega arith)) (arms_fit x xs (all_formed is_formed_arm ys both.1) n (omega arith))))

if_fits : (xs : Each BranchFits) → ExprFits (e.If (nodes xs) None)
if_fits [] h = absurd (true≢false (sym (sym (folds.fold_if formed []) ∙ h)))
if_fits (x ∷ xs) h =
    let bs = nodes (x ∷ xs) in
    let both = and_parts _ _ (sym (folds.fold_if formed bs) ∙ h) in
    subst (λ q. Fits q (e.If bs None)) (sym (folds.fold_if parts bs))
    (deeper (levels_in (map piece_of_branch bs))
    (λ n. IsTerm n (k.Keyword w.KwIf ∷ branches (map piece_of_branch bs)) (e.If bs None))
    (λ n below. grammar.if (branches_fit x xs (all_formed is_formed_branch bs both.1) n below)))

if_else_fits : (xs : Each BranchFits) (ys : Each StmtFits) → ExprFits (e.If (nodes xs) (Some (nodes ys)))
if_else_fits [] ys h = absurd (true≢false (sym (sym (folds.fold_if_else formed [] (nodes ys)) ∙ h)))
if_else_fits (x ∷ xs) ys h =
    let bs = nodes (x ∷ xs) in
    let some = nat_le 1 (length (map is_formed_branch bs)) in
    let both =
    and_parts (some && all (map is_formed_branch bs)) (all (map is_formed_stmt (nodes ys))) (sym (folds.fold_if_else formed bs (nodes ys)) ∙ h) in
    let conditions = (and_parts some (all (map is_formed_branch bs)) both.0).1 in
    subst (λ q. Fits q (e.If bs (Some (nodes ys)))) (sym (folds.fold_if_else parts bs (nodes ys)))
    (deeper (max (levels_in (map piece_of_branch bs)) (levels (nodes ys)))
    (λ n. IsTerm n (k.Keyword w.KwIf ∷ branches (map piece_of_branch bs) ++ k.Keyword w.KwElse ∷ block (map piece_of_stmt (nodes ys)))
    (e.If bs (Some (nodes ys))))
    (λ n below. grammar.if_else (branches_fit x xs (all_formed is_formed_branch bs conditions) n (omega arith))
    (block_fits ys both.1 n (omega arith))))

-- ---- the other nodes

abs_fits : (x : Pat) (a : Expr) → PatternFits x → ExprFits a → ExprFits (e.Abs x a)
abs_fits x a fits fits' h =
    let q = part_of_pat x in
    let r = part_of_expr a in
    let both = and_parts (is_formed_pat x) (is_formed_expr a) (sym (folds.fold_abs formed x a) ∙ h) in
    subst (λ t. Fits t (e.Abs x a)) (sym (folds.fold_abs parts x a))
    (deeper (max q.levels r.levels)
    (λ n. IsItems n (k.Backslash ∷ q.tokens ++ k.Dot ∷ r.tokens) (e.Abs x a ∷ []))
    (λ n below. grammar.item_abs (fits_pat q x (fits both.0) n (omega arith)) (fits_expr r a (fits' both.1) n (omega arith))))

name_fits : (t : List ℕ) → ExprFits (e.Var t)
name_fits t h =
    subst (λ q. Fits q (e.Var t)) (sym (folds.fold_var parts t))
    (record {
      within = omega arith;
      chain = λ n m below same. subst (λ m. IsChain n m (k.Name t ∷ []) (e.Var t))
          (let is : suc n ≡ m = omega arith in is) (atom_chain grammar.name);
    })

block_expr_fits : (xs : Each StmtFits) → ExprFits (e.Block (nodes xs))
block_expr_fits xs h =
    let ks = block (map piece_of_stmt (nodes xs)) in
    let inside = sym (folds.fold_block formed (nodes xs)) ∙ h in
    subst (λ q. Fits q (e.Block (nodes xs))) (sym (folds.fold_block parts (nodes xs)))
    (record {
      within = omega arith;
      chain = λ n m below same.
          let is : suc n ≡ m = omega arith in
          subst (λ m. IsChain n m ks (e.Block (nodes xs))) is
          (deeper (levels (nodes xs)) (λ n. IsChain n (suc n) ks (e.Block (nodes xs)))
          (λ n below. atom_chain (grammar.block (block_fits xs inside n below))) n below);
    })

call_fits : (f a : Expr) → ExprFits f → ExprFits a → ExprFits (e.Call f a)
call_fits f a fits fits' h =
    let both = and_parts (is_formed_expr f) (is_formed_expr a) (sym (folds.fold_call formed f a) ∙ h) in
    subst (λ q. Fits q (e.Call f a)) (sym (folds.fold_call parts f a))
    (call_callee (as_callee (part_of_expr f)) (part_of_expr a) f a (fits_callee (part_of_expr f) f (fits both.0)) (fits' both.1))

new_fits : (a : Expr) → ExprFits a → ExprFits (e.New a)
new_fits a fits h =
    let q = part_of_expr a in
    subst (λ t. Fits t (e.New a)) (sym (folds.fold_new parts a))
    (deeper (as_term q).levels (λ n. IsTerm n (k.Keyword w.KwNew ∷ (as_term q).tokens) (e.New a))
    (λ n below. grammar.new (fits_term q a (fits (sym (folds.fold_new formed a) ∙ h)) n below)))

value_fits : (a : Expr) → ExprFits a → PatternFits (p.Value a)
value_fits a fits h =
    let q = part_of_expr a in
    subst (λ t. PatFits t (p.Value a)) (sym (folds.fold_value parts a))
    (deeper (as_term q).levels (λ n. grammar.IsPterm n (k.Dollar ∷ (as_term q).tokens) (p.Value a))
    (λ n below. grammar.p_value (fits_term q a (fits (sym (folds.fold_value formed a) ∙ h)) n below)))

let_fits : (x : Pat) (a : Expr) → PatternFits x → ExprFits a → StmtFits (s.Let x a)
let_fits x a fits fits' h =
    let q = part_of_pat x in
    let r = part_of_expr a in
    let both = and_parts (is_formed_pat x) (is_formed_expr a) (sym (folds.fold_let formed x a) ∙ h) in
    subst (λ t. (n : ℕ) → t.levels ≤ n → IsStmt n t.tokens (s.Let x a)) (sym (folds.fold_let parts x a))
    (deeper (max q.levels r.levels) (λ n. IsStmt n (k.Keyword w.KwLet ∷ q.tokens ++ k.Equals ∷ r.tokens) (s.Let x a))
    (λ n below. grammar.let_is (fits_pat q x (fits both.0) n (omega arith)) (fits_expr r a (fits' both.1) n (omega arith))))

send_fits : (a b : Expr) → ExprFits a → ExprFits b → StmtFits (s.Send a b)
send_fits a b fits fits' h =
    let q = part_of_expr a in
    let r = part_of_expr b in
    let both = and_parts (is_formed_expr a) (is_formed_expr b) (sym (folds.fold_send formed a b) ∙ h) in
    subst (λ t. (n : ℕ) → t.levels ≤ n → IsStmt n t.tokens (s.Send a b)) (sym (folds.fold_send parts a b))
    (deeper (max q.levels r.levels) (λ n. IsStmt n (k.Keyword w.KwSend ∷ q.tokens ++ k.Keyword w.KwTo ∷ r.tokens) (s.Send a b))
    (λ n below. grammar.send (fits_expr q a (fits both.0) n (omega arith)) (fits_expr r b (fits' both.1) n (omega arith))))

create_fits : (t : List ℕ) (a : Expr) → ExprFits a → StmtFits (s.Create t a)
create_fits t a fits h =
    let q = part_of_expr a in
    let both = and_parts (is_name t) (is_formed_expr a) (sym (folds.fold_create formed t a) ∙ h) in
    subst (λ u. (n : ℕ) → u.levels ≤ n → IsStmt n u.tokens (s.Create t a)) (sym (folds.fold_create parts t a))
    (deeper q.levels (λ n. IsStmt n (k.Keyword w.KwCreate ∷ k.Name t ∷ k.Keyword w.KwWith ∷ q.tokens) (s.Create t a))
    (λ n below. grammar.create (fits_expr q a (fits both.1) n below)))

become_fits : (a : Expr) → ExprFits a → StmtFits (s.Become a)
become_fits a fits h =
    let q = part_of_expr a in
    subst (λ u. (n : ℕ) → u.levels ≤ n → IsStmt n u.tokens (s.Become a)) (sym (folds.fold_become parts a))
    (deeper q.levels (λ n. IsStmt n (k.Keyword w.KwBecome ∷ q.tokens) (s.Become a))
    (λ n below. grammar.become (fits_expr q a (fits (sym (folds.fold_become formed a) ∙ h)) n below)))

throw_fits : (a : Expr) → ExprFits a → StmtFits (s.Throw a)
throw_fits a fits h =
    let q = part_of_expr a in
    subst (λ u. (n : ℕ) → u.levels ≤ n → IsStmt n u.tokens (s.Throw a)) (sym (folds.fold_throw parts a))
    (deeper q.levels (λ n. IsStmt n (k.Keyword w.KwThrow ∷ q.tokens) (s.Throw a))
    (λ n below. grammar.throw (fits_expr q a (fits (sym (folds.fold_throw formed a) ∙ h)) n below)))

do_fits : (a : Expr) → ExprFits a → StmtFits (s.Do a)
do_fits a fits h =
    let q = part_of_expr a in
    subst (λ u. (n : ℕ) → u.levels ≤ n → IsStmt n u.tokens (s.Do a)) (sym (folds.fold_do parts a))
    (deeper q.levels (λ n. IsStmt n q.tokens (s.Do a)) (λ n below. grammar.does (fits_expr q a (fits (sym (folds.fold_do formed a) ∙ h)) n below)))

arm_fits : (x : Pat) (a : Expr) → PatternFits x → ExprFits a → ArmFits (arm x a)
arm_fits x a fits fits' h =
    let q = part_of_pat x in
    let r = part_of_expr a in
    let both = and_parts (is_formed_pat x) (is_formed_expr a) (sym (folds.fold_arm formed x a) ∙ h) in
    subst (λ t. (n : ℕ) → t.levels ≤ n → IsArm n t.tokens (arm x a)) (sym (folds.fold_arm parts x a))
    (deeper (max q.levels r.levels) (λ n. IsArm n (q.tokens ++ k.Colon ∷ r.tokens) (arm x a))
    (λ n below. grammar.colon (fits_pat q x (fits both.0) n (omega arith)) (fits_expr r a (fits' both.1) n (omega arith))))

branch_fits : (a : Expr) (xs : Each StmtFits) → ExprFits a → BranchFits (branch a (nodes xs))
branch_fits a xs fits h =
    let q = part_of_expr a in
    let both = and_parts (is_formed_expr a) (all (map is_formed_stmt (nodes xs))) (sym (folds.fold_branch formed a (nodes xs)) ∙ h) in
    subst (λ t. (n : ℕ) → t.levels ≤ n → IsBranch n t.tokens (branch a (nodes xs))) (sym (folds.fold_branch parts a (nodes xs)))
    (λ n below. record {
      us = q.tokens;
      vs = block (map piece_of_stmt (nodes xs));
      a = a;
      ys = nodes xs;
      split = refl;
      made = refl;
      condition = fits_expr q a (fits both.0) n (omega arith);
      statements = block_fits xs both.1 n (omega arith);
    })

cases : Cases ExprFits PatternFits StmtFits ArmFits BranchFits
cases = record {
  at_undef = λ h. subst (λ q. Fits q e.Undef) (sym (folds.fold_undef parts)) (one 0 (k.Undefined ∷ []) e.Undef (λ n. grammar.undef));
  at_nil = λ h. subst (λ q. Fits q e.Nil) (sym (folds.fold_nil parts)) (one 0 (k.Keyword w.KwNil ∷ []) e.Nil (λ n. grammar.nil));
  at_true = λ h. subst (λ q. Fits q e.True) (sym (folds.fold_true parts)) (one 0 (k.Keyword w.KwTrue ∷ []) e.True (λ n. grammar.true));
  at_false = λ h. subst (λ q. Fits q e.False) (sym (folds.fold_false parts)) (one 0 (k.Keyword w.KwFalse ∷ []) e.False (λ n. grammar.false));
  at_num = λ z h. subst (λ q. Fits q (e.Num z)) (sym (folds.fold_num parts z)) (one 0 (k.Number z ∷ []) (e.Num z) (λ n. grammar.number));
  at_sym = λ t h. subst (λ q. Fits q (e.Sym t)) (sym (folds.fold_sym parts t)) (one 0 (k.Symbol t ∷ []) (e.Sym t) (λ n. grammar.symbol));
  at_text = λ t h. subst (λ q. Fits q (e.Text t)) (sym (folds.fold_text parts t)) (one 0 (k.Text t ∷ []) (e.Text t) (λ n. grammar.text));
  at_var = name_fits;
  at_myself = λ h. subst (λ q. Fits q e.Myself) (sym (folds.fold_myself parts)) (one 0 (k.Keyword w.KwSelf ∷ []) e.Myself (λ n. grammar.myself));
  at_abs = abs_fits;
  at_block = block_expr_fits;
  at_call = call_fits;
  at_tuple = tuple_fits;
  at_new = new_fits;
  at_case = case_fits;
  at_if = if_fits;
  at_if_else = if_else_fits;
  at_any = λ h. subst (λ q. PatFits q p.Any) (sym (folds.fold_any parts)) (λ n below. grammar.p_any);
  at_bind = λ t h. subst (λ q. PatFits q (p.Bind t)) (sym (folds.fold_bind parts t)) (λ n below. grammar.p_name);
  at_pat_undef = λ h. subst (λ q. PatFits q p.Undef) (sym (folds.fold_pat_undef parts)) (λ n below. grammar.p_undef);
  at_pat_nil = λ h. subst (λ q. PatFits q p.Nil) (sym (folds.fold_pat_nil parts)) (λ n below. grammar.p_nil);
  at_pat_true = λ h. subst (λ q. PatFits q p.True) (sym (folds.fold_pat_true parts)) (λ n below. grammar.p_true);
  at_pat_false = λ h. subst (λ q. PatFits q p.False) (sym (folds.fold_pat_false parts)) (λ n below. grammar.p_false);
  at_pat_num = λ z h. subst (λ q. PatFits q (p.Num z)) (sym (folds.fold_pat_num parts z)) (λ n below. grammar.p_number);
  at_pat_sym = λ t h. subst (λ q. PatFits q (p.Sym t)) (sym (folds.fold_pat_sym parts t)) (λ n below. grammar.p_symbol);
  at_value = value_fits;
  at_pat_tuple = pat_tuple_fits;
  at_let = let_fits;
  at_send = send_fits;
  at_create = create_fits;
  at_become = become_fits;
  at_throw = throw_fits;
  at_do = do_fits;
  at_arm = arm_fits;
  at_branch = branch_fits;
}

pub printed_spelled : (n : ℕ) (xs : List Stmt) → are_formed xs ≡ true → levels xs ≤ n → IsStmts n (printed xs) xs
printed_spelled n xs h below =
    subst (λ ys. are_formed ys ≡ true → levels ys ≤ n → IsStmts n (printed ys) ys) (nodes-each_stmt cases xs)
    (λ h below. stmts_fit (each_stmt cases xs) h n below) h below
