-- What a formed tree is printed as can be written: each token has its form, and calling parentheses come behind callees.
use Rattle.std.proofs.Common.{◌≡◌, ℕ, Bool, true, false, List, [], ◌∷◌, ◌++◌, map, length, Some, None, refl, sym, ◌∙◌, subst}
use Rattle.std.specs.Prelude.{not, nat_le, ◌&&◌, ◌||◌}
use Rattle.std.specs.List.{list_all}
use Rattle.std.proofs.lemmas.Bool.{and_parts, and_from, true≢false}
use Rattle.hum_syntax.specs.declared.token.TokenKind.TheVariants as k
use Rattle.hum_syntax.specs.declared.keyword.Keyword.TheVariants as w
use Rattle.hum_syntax.specs.declared.tree.Expr.{Expr}
use Rattle.hum_syntax.specs.declared.tree.Pat.{Pat}
use Rattle.hum_syntax.specs.declared.tree.Stmt.{Stmt}
use Rattle.hum_syntax.specs.declared.tree.Arm.{Arm}
use Rattle.hum_syntax.specs.declared.tree.Branch.{Branch}
use Rattle.hum_syntax.specs.declared.tree.Expr.TheVariants as e
use Rattle.hum_syntax.specs.declared.tree.Pat.TheVariants as p
use Rattle.hum_syntax.specs.declared.tree.Stmt.TheVariants as s
use Rattle.hum_syntax.specs.Forms.{is_name}
use Rattle.hum_syntax.specs.Tokens.{is_callee}
use Rattle.hum_syntax.specs.Formed.{all, is_timer, is_formed_expr, is_formed_pat, is_formed_stmt, is_formed_arm, is_formed_branch, are_formed}
use Rattle.hum_syntax.specs.Spells.{Kinds, arm, branch}
use Rattle.hum_syntax.specs.Prints.{Part, part_of_expr, part_of_pat, piece_of_stmt, piece_of_arm, piece_of_branch, is_called, is_wide, is_tuple, parens, as_term, as_callee, in_line, items_in, tuple, block, branches, printed}
use Rattle.hum_syntax.proofs.Folding as folds
use Rattle.hum_syntax.proofs.FormedTrees.{formed}
use Rattle.hum_syntax.proofs.PrintedTrees.{parts, all_formed}
use Rattle.hum_syntax.proofs.Induction.{Each, nodes, Cases, each_stmt, nodes-each_stmt}
use Rattle.hum_syntax.proofs.LexedTexts.{is_lexed, is_call, writable}
use Rattle.hum_syntax.proofs.Written.{items_more}

-- ---- tokens side by side

-- whether the last of the tokens may be called
abbrev after : Bool → Kinds → Bool
after called [] = called
after called (kind ∷ ks) = after (is_callee kind) ks

after-append : (called : Bool) (us vs : Kinds) → after called (us ++ vs) ≡ after (after called us) vs
after-append called [] vs = refl
after-append called (u ∷ us) vs = after-append (is_callee u) us vs

abbrev Writes : Kinds → Type 0
Writes ks = writable false ks ≡ true

writable-append : (called : Bool) (us vs : Kinds) → writable called us ≡ true → writable (after called us) vs ≡ true
    → writable called (us ++ vs) ≡ true
writable-append called [] vs h h' = h'
writable-append called (u ∷ us) vs h h' =
    let both = and_parts ((called || not (is_call u)) && is_lexed u) (writable (is_callee u) us) h in
    and_from ((called || not (is_call u)) && is_lexed u) (writable (is_callee u) (us ++ vs)) both.0 (writable-append (is_callee u) us vs both.1 h')

any_writes : (called : Bool) (ks : Kinds) → Writes ks → writable called ks ≡ true
any_writes called [] h = refl
any_writes false (kind ∷ ks) h = h
any_writes true (kind ∷ ks) h =
    let outer = and_parts (not (is_call kind) && is_lexed kind) (writable (is_callee kind) ks) h in
    and_from (is_lexed kind) (writable (is_callee kind) ks) (and_parts (not (is_call kind)) (is_lexed kind) outer.0).1 outer.1

beside : (us vs : Kinds) → Writes us → Writes vs → Writes (us ++ vs)
beside us vs h h' = writable-append false us vs h (any_writes (after false us) vs h')

-- a token that carries something
carried : {test : Bool} → test ≡ true → (test && true && true) ≡ true
carried {test} h = and_from (test && true) true (and_from test true h refl) refl

-- ---- parts

record PartWrites (q : Part) : Type 0 where
  writes : Writes q.tokens
  ends : is_called q.form ≡ true → after false q.tokens ≡ true

-- a part that is not called
plain : {q : Part} → is_called q.form ≡ false → Writes q.tokens → PartWrites q
plain other h = record { writes = h; ends = λ called. absurd (true≢false (sym called ∙ other)) }

parens_write : (b : Bool) (q : Part) → Writes q.tokens → Writes (parens b q).tokens
parens_write true q h = beside q.tokens (k.ParenRight ∷ []) h refl
parens_write false q h = h

record CalleeWrites (q : Part) : Type 0 where
  writes : Writes q.tokens
  ends : after false q.tokens ≡ true

callee_writes : (q : Part) → PartWrites q → CalleeWrites (as_callee q)
callee_writes q h = go (is_called q.form) refl
  where
    go : (b : Bool) → is_called q.form ≡ b → CalleeWrites (parens (not b) q)
    go true called = record { writes = h.writes; ends = h.ends called }
    go false called = record { writes = parens_write true q h.writes; ends = after-append false (k.ParenLeft ∷ q.tokens) (k.ParenRight ∷ []) }

-- ---- what is so of each node

abbrev ExprWrites : Expr → Type 0
ExprWrites a = is_formed_expr a ≡ true → PartWrites (part_of_expr a)

abbrev PatternWrites : Pat → Type 0
PatternWrites x = is_formed_pat x ≡ true → Writes (part_of_pat x).tokens

abbrev StmtWrites : Stmt → Type 0
StmtWrites x = is_formed_stmt x ≡ true → Writes (piece_of_stmt x).tokens

abbrev ArmWrites : Arm → Type 0
ArmWrites x = is_formed_arm x ≡ true → Writes (piece_of_arm x).tokens

abbrev BranchWrites : Branch → Type 0
BranchWrites x = is_formed_branch x ≡ true → Writes (piece_of_branch x).tokens

-- ---- lists

stmts_write : (xs : Each StmtWrites) → are_formed (nodes xs) ≡ true → Writes (printed (nodes xs))
stmts_write [] h = refl
stmts_write (x ∷ xs) h =
    let both = and_parts (is_formed_stmt x.0) (are_formed (nodes xs)) h in
    beside (piece_of_stmt x.0).tokens (printed (nodes xs)) (x.1 both.0) (stmts_write xs both.1)

block_writes : (xs : Each StmtWrites) → all (map is_formed_stmt (nodes xs)) ≡ true → Writes (block (map piece_of_stmt (nodes xs)))
block_writes xs h = beside (printed (nodes xs)) (k.SquareRight ∷ []) (stmts_write xs (all_formed is_formed_stmt (nodes xs) h)) refl

items_write : (xs : Each ExprWrites) → list_all is_formed_expr (nodes xs) ≡ true → Writes (tuple (items_in (map part_of_expr (nodes xs)))).tokens
items_write [] h = refl
items_write (x ∷ []) h =
    let q = part_of_expr x.0 in
    let is = x.1 (and_parts (is_formed_expr x.0) true h).0 in
    parens_write (is_tuple q.form) q is.writes
items_write (x ∷ y ∷ ys) h =
    let q = part_of_expr x.0 in
    let both = and_parts (is_formed_expr x.0) (list_all is_formed_expr (nodes (y ∷ ys))) h in
    let is = x.1 both.0 in
    subst Writes (sym (items_more x.0 y.0 (nodes ys)))
    (beside (as_term q).tokens (k.Comma ∷ (tuple (items_in (map part_of_expr (nodes (y ∷ ys))))).tokens) (parens_write (is_wide q.form) q is.writes)
    (items_write (y ∷ ys) both.1))

pats_write : (xs : Each PatternWrites) → list_all is_formed_pat (nodes xs) ≡ true → Writes (tuple (map as_term (map part_of_pat (nodes xs)))).tokens
pats_write [] h = refl
pats_write (x ∷ []) h = let q = part_of_pat x.0 in parens_write (is_wide q.form) q (x.1 (and_parts (is_formed_pat x.0) true h).0)
pats_write (x ∷ y ∷ ys) h =
    let q = part_of_pat x.0 in
    let both = and_parts (is_formed_pat x.0) (list_all is_formed_pat (nodes (y ∷ ys))) h in
    beside (as_term q).tokens (k.Comma ∷ (tuple (map as_term (map part_of_pat (nodes (y ∷ ys))))).tokens)
    (parens_write (is_wide q.form) q (x.1 both.0)) (pats_write (y ∷ ys) both.1)

arms_write : (xs : Each ArmWrites) → list_all is_formed_arm (nodes xs) ≡ true → Writes (in_line (map piece_of_arm (nodes xs)))
arms_write [] h = refl
arms_write (x ∷ xs) h =
    let both = and_parts (is_formed_arm x.0) (list_all is_formed_arm (nodes xs)) h in
    beside (piece_of_arm x.0).tokens (in_line (map piece_of_arm (nodes xs))) (x.1 both.0) (arms_write xs both.1)

branches_write : (xs : Each BranchWrites) → list_all is_formed_branch (nodes xs) ≡ true → Writes (branches (map piece_of_branch (nodes xs)))
branches_write [] h = refl
branches_write (x ∷ []) h = x.1 (and_parts (is_formed_branch x.0) true h).0
branches_write (x ∷ y ∷ ys) h =
    let both = and_parts (is_formed_branch x.0) (list_all is_formed_branch (nodes (y ∷ ys))) h in
    beside (piece_of_branch x.0).tokens (k.Keyword w.KwElif ∷ branches (map piece_of_branch (nodes (y ∷ ys)))) (x.1 both.0)
    (branches_write (y ∷ ys) both.1)

-- ---- nodes

name_writes : (t : List ℕ) → ExprWrites (e.Var t)
name_writes t h =
    let both = and_parts (is_name t) (not (is_timer t)) (sym (folds.fold_var formed t) ∙ h) in
    subst PartWrites (sym (folds.fold_var parts t)) (record { writes = carried both.0; ends = λ called. refl })

abs_writes : (x : Pat) (a : Expr) → PatternWrites x → ExprWrites a → ExprWrites (e.Abs x a)
abs_writes x a writes writes' h =
    let both = and_parts (is_formed_pat x) (is_formed_expr a) (sym (folds.fold_abs formed x a) ∙ h) in
    subst PartWrites (sym (folds.fold_abs parts x a))
    (plain refl (beside (part_of_pat x).tokens (k.Dot ∷ (part_of_expr a).tokens) (writes both.0) (writes' both.1).writes))

block_expr_writes : (xs : Each StmtWrites) → ExprWrites (e.Block (nodes xs))
block_expr_writes xs h =
    subst PartWrites (sym (folds.fold_block parts (nodes xs)))
    (record {
      writes = block_writes xs (sym (folds.fold_block formed (nodes xs)) ∙ h);
      ends = λ called. after-append false (k.SquareLeft ∷ printed (nodes xs)) (k.SquareRight ∷ []);
    })

call_writes : (f a : Expr) → ExprWrites f → ExprWrites a → ExprWrites (e.Call f a)
call_writes f a writes writes' h =
    let both = and_parts (is_formed_expr f) (is_formed_expr a) (sym (folds.fold_call formed f a) ∙ h) in
    let callee = callee_writes (part_of_expr f) (writes both.0) in
    let us = (as_callee (part_of_expr f)).tokens in
    let vs = k.CallParen ∷ (part_of_expr a).tokens in
    let argument = (writes' both.1).writes in
    subst PartWrites (sym (folds.fold_call parts f a))
    (record {
      writes = beside (us ++ vs) (k.ParenRight ∷ [])
          (writable-append false us vs callee.writes (subst (λ called. writable called vs ≡ true) (sym callee.ends) argument)) refl;
      ends = λ called. after-append false (us ++ vs) (k.ParenRight ∷ []);
    })

tuple_writes : (xs : Each ExprWrites) → ExprWrites (e.Tuple (nodes xs))
tuple_writes xs h =
    let some = nat_le 2 (length (map is_formed_expr (nodes xs))) in
    let both = and_parts some (all (map is_formed_expr (nodes xs))) (sym (folds.fold_tuple formed (nodes xs)) ∙ h) in
    subst PartWrites (sym (folds.fold_tuple parts (nodes xs))) (plain refl (items_write xs (all_formed is_formed_expr (nodes xs) both.1)))

new_writes : (a : Expr) → ExprWrites a → ExprWrites (e.New a)
new_writes a writes h =
    let q = part_of_expr a in
    let is = writes (sym (folds.fold_new formed a) ∙ h) in
    subst PartWrites (sym (folds.fold_new parts a)) (plain refl (parens_write (is_wide q.form) q is.writes))

case_writes : (a : Expr) (xs : Each ArmWrites) → ExprWrites a → ExprWrites (e.Case a (nodes xs))
case_writes a xs writes h =
    let some = nat_le 1 (length (map is_formed_arm (nodes xs))) in
    let both = and_parts (some && is_formed_expr a) (all (map is_formed_arm (nodes xs))) (sym (folds.fold_case formed a (nodes xs)) ∙ h) in
    let is = writes (and_parts some (is_formed_expr a) both.0).1 in
    let us = (part_of_expr a).tokens in
    let vs = in_line (map piece_of_arm (nodes xs)) in
    subst PartWrites (sym (folds.fold_case parts a (nodes xs)))
    (plain refl (beside (us ++ k.Keyword w.KwOf ∷ vs) (k.Keyword w.KwEnd ∷ [])
    (beside us (k.Keyword w.KwOf ∷ vs) is.writes (arms_write xs (all_formed is_formed_arm (nodes xs) both.1))) refl))

if_writes : (xs : Each BranchWrites) → ExprWrites (e.If (nodes xs) None)
if_writes xs h =
    let some = nat_le 1 (length (map is_formed_branch (nodes xs))) in
    let both = and_parts some (all (map is_formed_branch (nodes xs))) (sym (folds.fold_if formed (nodes xs)) ∙ h) in
    subst PartWrites (sym (folds.fold_if parts (nodes xs))) (plain refl (branches_write xs (all_formed is_formed_branch (nodes xs) both.1)))

if_else_writes : (xs : Each BranchWrites) (ys : Each StmtWrites) → ExprWrites (e.If (nodes xs) (Some (nodes ys)))
if_else_writes xs ys h =
    let some = nat_le 1 (length (map is_formed_branch (nodes xs))) in
    let tests = all (map is_formed_branch (nodes xs)) in
    let both = and_parts (some && tests) (all (map is_formed_stmt (nodes ys))) (sym (folds.fold_if_else formed (nodes xs) (nodes ys)) ∙ h) in
    subst PartWrites (sym (folds.fold_if_else parts (nodes xs) (nodes ys)))
    (plain refl (beside (branches (map piece_of_branch (nodes xs))) (k.Keyword w.KwElse ∷ block (map piece_of_stmt (nodes ys)))
    (branches_write xs (all_formed is_formed_branch (nodes xs) (and_parts some tests both.0).1)) (block_writes ys both.1)))

value_writes : (a : Expr) → ExprWrites a → PatternWrites (p.Value a)
value_writes a writes h =
    let q = part_of_expr a in
    let is = writes (sym (folds.fold_value formed a) ∙ h) in
    subst (λ q. Writes q.tokens) (sym (folds.fold_value parts a)) (parens_write (is_wide q.form) q is.writes)

pat_tuple_writes : (xs : Each PatternWrites) → PatternWrites (p.Tuple (nodes xs))
pat_tuple_writes xs h =
    let some = nat_le 2 (length (map is_formed_pat (nodes xs))) in
    let both = and_parts some (all (map is_formed_pat (nodes xs))) (sym (folds.fold_pat_tuple formed (nodes xs)) ∙ h) in
    subst (λ q. Writes q.tokens) (sym (folds.fold_pat_tuple parts (nodes xs))) (pats_write xs (all_formed is_formed_pat (nodes xs) both.1))

let_writes : (x : Pat) (a : Expr) → PatternWrites x → ExprWrites a → StmtWrites (s.Let x a)
let_writes x a writes writes' h =
    let both = and_parts (is_formed_pat x) (is_formed_expr a) (sym (folds.fold_let formed x a) ∙ h) in
    subst (λ q. Writes q.tokens) (sym (folds.fold_let parts x a))
    (beside (part_of_pat x).tokens (k.Equals ∷ (part_of_expr a).tokens) (writes both.0) (writes' both.1).writes)

send_writes : (a b : Expr) → ExprWrites a → ExprWrites b → StmtWrites (s.Send a b)
send_writes a b writes writes' h =
    let both = and_parts (is_formed_expr a) (is_formed_expr b) (sym (folds.fold_send formed a b) ∙ h) in
    subst (λ q. Writes q.tokens) (sym (folds.fold_send parts a b))
    (beside (part_of_expr a).tokens (k.Keyword w.KwTo ∷ (part_of_expr b).tokens) (writes both.0).writes (writes' both.1).writes)

create_writes : (t : List ℕ) (a : Expr) → ExprWrites a → StmtWrites (s.Create t a)
create_writes t a writes h =
    let both = and_parts (is_name t) (is_formed_expr a) (sym (folds.fold_create formed t a) ∙ h) in
    let us = (part_of_expr a).tokens in
    subst (λ q. Writes q.tokens) (sym (folds.fold_create parts t a))
    (and_from (is_name t && true) (writable false us) (and_from (is_name t) true both.0 refl) (writes both.1).writes)

arm_writes : (x : Pat) (a : Expr) → PatternWrites x → ExprWrites a → ArmWrites (arm x a)
arm_writes x a writes writes' h =
    let both = and_parts (is_formed_pat x) (is_formed_expr a) (sym (folds.fold_arm formed x a) ∙ h) in
    subst (λ q. Writes q.tokens) (sym (folds.fold_arm parts x a))
    (beside (part_of_pat x).tokens (k.Colon ∷ (part_of_expr a).tokens) (writes both.0) (writes' both.1).writes)

branch_writes : (a : Expr) (xs : Each StmtWrites) → ExprWrites a → BranchWrites (branch a (nodes xs))
branch_writes a xs writes h =
    let both = and_parts (is_formed_expr a) (all (map is_formed_stmt (nodes xs))) (sym (folds.fold_branch formed a (nodes xs)) ∙ h) in
    subst (λ q. Writes q.tokens) (sym (folds.fold_branch parts a (nodes xs)))
    (beside (part_of_expr a).tokens (block (map piece_of_stmt (nodes xs))) (writes both.0).writes (block_writes xs both.1))

cases : Cases ExprWrites PatternWrites StmtWrites ArmWrites BranchWrites
cases = record {
  at_undef = λ h. subst PartWrites (sym (folds.fold_undef parts)) (plain refl refl);
  at_nil = λ h. subst PartWrites (sym (folds.fold_nil parts)) (plain refl refl);
  at_true = λ h. subst PartWrites (sym (folds.fold_true parts)) (plain refl refl);
  at_false = λ h. subst PartWrites (sym (folds.fold_false parts)) (plain refl refl);
  at_num = λ z h. subst PartWrites (sym (folds.fold_num parts z)) (plain refl (carried (sym (folds.fold_num formed z) ∙ h)));
  at_sym = λ t h. subst PartWrites (sym (folds.fold_sym parts t)) (plain refl (carried (sym (folds.fold_sym formed t) ∙ h)));
  at_text = λ t h. subst PartWrites (sym (folds.fold_text parts t)) (plain refl (carried (sym (folds.fold_text formed t) ∙ h)));
  at_var = name_writes;
  at_myself = λ h. subst PartWrites (sym (folds.fold_myself parts)) (plain refl refl);
  at_abs = abs_writes;
  at_block = block_expr_writes;
  at_call = call_writes;
  at_tuple = tuple_writes;
  at_new = new_writes;
  at_case = case_writes;
  at_if = if_writes;
  at_if_else = if_else_writes;
  at_any = λ h. subst (λ q. Writes q.tokens) (sym (folds.fold_any parts)) refl;
  at_bind = λ t h. subst (λ q. Writes q.tokens) (sym (folds.fold_bind parts t)) (carried (sym (folds.fold_bind formed t) ∙ h));
  at_pat_undef = λ h. subst (λ q. Writes q.tokens) (sym (folds.fold_pat_undef parts)) refl;
  at_pat_nil = λ h. subst (λ q. Writes q.tokens) (sym (folds.fold_pat_nil parts)) refl;
  at_pat_true = λ h. subst (λ q. Writes q.tokens) (sym (folds.fold_pat_true parts)) refl;
  at_pat_false = λ h. subst (λ q. Writes q.tokens) (sym (folds.fold_pat_false parts)) refl;
  at_pat_num = λ z h. subst (λ q. Writes q.tokens) (sym (folds.fold_pat_num parts z)) (carried (sym (folds.fold_pat_num formed z) ∙ h));
  at_pat_sym = λ t h. subst (λ q. Writes q.tokens) (sym (folds.fold_pat_sym parts t)) (carried (sym (folds.fold_pat_sym formed t) ∙ h));
  at_value = value_writes;
  at_pat_tuple = pat_tuple_writes;
  at_let = let_writes;
  at_send = send_writes;
  at_create = create_writes;
  at_become = λ a writes h. subst (λ q. Writes q.tokens) (sym (folds.fold_become parts a)) (writes (sym (folds.fold_become formed a) ∙ h)).writes;
  at_throw = λ a writes h. subst (λ q. Writes q.tokens) (sym (folds.fold_throw parts a)) (writes (sym (folds.fold_throw formed a) ∙ h)).writes;
  at_do = λ a writes h. subst (λ q. Writes q.tokens) (sym (folds.fold_do parts a)) (writes (sym (folds.fold_do formed a) ∙ h)).writes;
  at_arm = arm_writes;
  at_branch = branch_writes;
}

pub printed_writes : (xs : List Stmt) → are_formed xs ≡ true → writable false (printed xs) ≡ true
printed_writes xs h =
    subst (λ ys. are_formed ys ≡ true → Writes (printed ys)) (nodes-each_stmt cases xs) (λ h. stmts_write (each_stmt cases xs) h) h
