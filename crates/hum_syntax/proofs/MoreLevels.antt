-- What tokens spell they spell also where more levels are left.
use Rattle.std.proofs.Common.{ℕ, zero, suc, ◌≤◌, List, arith}
use Rattle.hum_syntax.specs.declared.tree.Expr.{Expr}
use Rattle.hum_syntax.specs.declared.tree.Pat.{Pat}
use Rattle.hum_syntax.specs.declared.tree.Stmt.{Stmt}
use Rattle.hum_syntax.specs.declared.tree.Arm.{Arm}
use Rattle.hum_syntax.specs.declared.tree.Branch.{Branch}
use Rattle.hum_syntax.specs.Laws.{MoreLevelsSpell}
use Rattle.hum_syntax.specs.Spells as grammar
use Rattle.hum_syntax.specs.Spells.{Kinds, IsStmts, IsStmt, IsExpr, IsItems, IsTerm, IsCalls, IsAtom, IsBlock, IsBranches, IsArms, IsArm, IsPat, IsPats, IsPterm}

-- a rule that takes a level has one to take
one_more : {n : ℕ} (Q : ℕ → Type 0) (m : ℕ) → suc n ≤ m → ((l : ℕ) → n ≤ l → Q (suc l)) → Q m
one_more Q zero h f = absurd (omega arith)
one_more Q (suc m) h f = f m (omega arith)

mutual
  pub more_stmts : {n : ℕ} {ks : Kinds} {xs : List Stmt} (m : ℕ) → n ≤ m → IsStmts n ks xs → IsStmts m ks xs
  more_stmts m b grammar.stmts_none = grammar.stmts_none
  more_stmts m b (grammar.stmts_more h h') = grammar.stmts_more (more_stmt m b h) (more_stmts m b h')

  pub more_stmt : {n : ℕ} {ks : Kinds} {x : Stmt} (m : ℕ) → n ≤ m → IsStmt n ks x → IsStmt m ks x
  more_stmt {ks = ks} {x = x} m b (grammar.let_is h h') =
      one_more (λ m. IsStmt m ks x) m b (λ m b. grammar.let_is (more_pat m b h) (more_expr m b h'))
  more_stmt {ks = ks} {x = x} m b (grammar.let_unit h) = one_more (λ m. IsStmt m ks x) m b (λ m b. grammar.let_unit (more_expr m b h))
  more_stmt {ks = ks} {x = x} m b (grammar.let_fun h h') =
      one_more (λ m. IsStmt m ks x) m b (λ m b. grammar.let_fun (more_pat m b h) (more_expr m b h'))
  more_stmt {ks = ks} {x = x} m b (grammar.send h h') = one_more (λ m. IsStmt m ks x) m b (λ m b. grammar.send (more_expr m b h) (more_expr m b h'))
  more_stmt {ks = ks} {x = x} m b (grammar.create h) = one_more (λ m. IsStmt m ks x) m b (λ m b. grammar.create (more_expr m b h))
  more_stmt {ks = ks} {x = x} m b (grammar.become h) = one_more (λ m. IsStmt m ks x) m b (λ m b. grammar.become (more_expr m b h))
  more_stmt {ks = ks} {x = x} m b (grammar.throw h) = one_more (λ m. IsStmt m ks x) m b (λ m b. grammar.throw (more_expr m b h))
  more_stmt {ks = ks} {x = x} m b (grammar.does h) = one_more (λ m. IsStmt m ks x) m b (λ m b. grammar.does (more_expr m b h))

  pub more_expr : {n : ℕ} {ks : Kinds} {a : Expr} (m : ℕ) → n ≤ m → IsExpr n ks a → IsExpr m ks a
  more_expr m b (grammar.expr_only h) = grammar.expr_only (more_items m b h)
  more_expr m b (grammar.expr_tuple h) = grammar.expr_tuple (more_items m b h)

  pub more_items : {n : ℕ} {ks : Kinds} {xs : List Expr} (m : ℕ) → n ≤ m → IsItems n ks xs → IsItems m ks xs
  more_items {ks = ks} {xs = xs} m b (grammar.item_abs h h') =
      one_more (λ m. IsItems m ks xs) m b (λ m b. grammar.item_abs (more_pat m b h) (more_expr m b h'))
  more_items m b (grammar.item_last h) = grammar.item_last (more_term m b h)
  more_items m b (grammar.item_comma h h') = grammar.item_comma (more_term m b h) (more_items m b h')

  pub more_term : {n : ℕ} {ks : Kinds} {a : Expr} (m : ℕ) → n ≤ m → IsTerm n ks a → IsTerm m ks a
  more_term m b (grammar.chain h h') = grammar.chain (more_atom m b h) (more_calls (suc m) (omega arith) h')
  more_term {ks = ks} {a = a} m b (grammar.new h) = one_more (λ m. IsTerm m ks a) m b (λ m b. grammar.new (more_term m b h))
  more_term {ks = ks} {a = a} m b (grammar.case h h') = one_more (λ m. IsTerm m ks a) m b (λ m b. grammar.case (more_expr m b h) (more_arms m b h'))
  more_term {ks = ks} {a = a} m b (grammar.if h) = one_more (λ m. IsTerm m ks a) m b (λ m b. grammar.if (more_branches m b h))
  more_term {ks = ks} {a = a} m b (grammar.if_else h h') =
      one_more (λ m. IsTerm m ks a) m b (λ m b. grammar.if_else (more_branches m b h) (more_block m b h'))

  pub more_calls : {n : ℕ} {f : Expr} {ks : Kinds} {a : Expr} (m : ℕ) → n ≤ m → IsCalls n f ks a → IsCalls m f ks a
  more_calls m b grammar.calls_done = grammar.calls_done
  more_calls {f = f} {ks = ks} {a = a} m b (grammar.calls_unit h) =
      one_more (λ m. IsCalls m f ks a) m b (λ m b. grammar.calls_unit (more_calls m b h))
  more_calls {f = f} {ks = ks} {a = a} m b (grammar.calls_call h h') =
      one_more (λ m. IsCalls m f ks a) m b
      (λ m b. one_more (λ m. IsCalls (suc m) f ks a) m b (λ m b. grammar.calls_call (more_expr m b h) (more_calls (suc m) (omega arith) h')))

  pub more_atom : {n : ℕ} {ks : Kinds} {a : Expr} (m : ℕ) → n ≤ m → IsAtom n ks a → IsAtom m ks a
  more_atom m b grammar.number = grammar.number
  more_atom m b grammar.symbol = grammar.symbol
  more_atom m b grammar.text = grammar.text
  more_atom m b grammar.true = grammar.true
  more_atom m b grammar.false = grammar.false
  more_atom m b grammar.nil = grammar.nil
  more_atom m b grammar.undef = grammar.undef
  more_atom m b grammar.name = grammar.name
  more_atom m b grammar.myself = grammar.myself
  more_atom m b grammar.empty = grammar.empty
  more_atom {ks = ks} {a = a} m b (grammar.paren h) = one_more (λ m. IsAtom m ks a) m b (λ m b. grammar.paren (more_expr m b h))
  more_atom {ks = ks} {a = a} m b (grammar.block h) = one_more (λ m. IsAtom m ks a) m b (λ m b. grammar.block (more_block m b h))

  pub more_block : {n : ℕ} {ks : Kinds} {xs : List Stmt} (m : ℕ) → n ≤ m → IsBlock n ks xs → IsBlock m ks xs
  more_block m b (grammar.square h) = grammar.square (more_stmts m b h)

  pub more_branches : {n : ℕ} {ks : Kinds} {xs : List Branch} (m : ℕ) → n ≤ m → IsBranches n ks xs → IsBranches m ks xs
  more_branches m b (grammar.branch_last h h') = grammar.branch_last (more_expr m b h) (more_block m b h')
  more_branches m b (grammar.branch_elif h h' h'') = grammar.branch_elif (more_expr m b h) (more_block m b h') (more_branches m b h'')

  pub more_arms : {n : ℕ} {ks : Kinds} {xs : List Arm} (m : ℕ) → n ≤ m → IsArms n ks xs → IsArms m ks xs
  more_arms m b (grammar.arms_last h) = grammar.arms_last (more_arm m b h)
  more_arms m b (grammar.arms_more h h') = grammar.arms_more (more_arm m b h) (more_arms m b h')

  pub more_arm : {n : ℕ} {ks : Kinds} {x : Arm} (m : ℕ) → n ≤ m → IsArm n ks x → IsArm m ks x
  more_arm {ks = ks} {x = x} m b (grammar.colon h h') = one_more (λ m. IsArm m ks x) m b (λ m b. grammar.colon (more_pat m b h) (more_expr m b h'))

  pub more_pat : {n : ℕ} {ks : Kinds} {x : Pat} (m : ℕ) → n ≤ m → IsPat n ks x → IsPat m ks x
  more_pat m b (grammar.pat_only h) = grammar.pat_only (more_pats m b h)
  more_pat m b (grammar.pat_tuple h) = grammar.pat_tuple (more_pats m b h)

  pub more_pats : {n : ℕ} {ks : Kinds} {xs : List Pat} (m : ℕ) → n ≤ m → IsPats n ks xs → IsPats m ks xs
  more_pats m b (grammar.pats_last h) = grammar.pats_last (more_pterm m b h)
  more_pats m b (grammar.pats_comma h h') = grammar.pats_comma (more_pterm m b h) (more_pats m b h')

  pub more_pterm : {n : ℕ} {ks : Kinds} {x : Pat} (m : ℕ) → n ≤ m → IsPterm n ks x → IsPterm m ks x
  more_pterm m b grammar.p_any = grammar.p_any
  more_pterm m b grammar.p_name = grammar.p_name
  more_pterm m b grammar.p_number = grammar.p_number
  more_pterm m b grammar.p_symbol = grammar.p_symbol
  more_pterm m b grammar.p_true = grammar.p_true
  more_pterm m b grammar.p_false = grammar.p_false
  more_pterm m b grammar.p_nil = grammar.p_nil
  more_pterm m b grammar.p_undef = grammar.p_undef
  more_pterm m b grammar.p_empty = grammar.p_empty
  more_pterm {ks = ks} {x = x} m b (grammar.p_value h) = one_more (λ m. IsPterm m ks x) m b (λ m b. grammar.p_value (more_term m b h))
  more_pterm {ks = ks} {x = x} m b (grammar.p_paren h) = one_more (λ m. IsPterm m ks x) m b (λ m b. grammar.p_paren (more_pat m b h))

pub more_levels : MoreLevelsSpell
more_levels n m ks xs b h = more_stmts m b h
