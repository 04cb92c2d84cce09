-- The grammar: which tokens spell which tree. The number says how many levels may still stand below the rule, which is at
-- depth 200 less that number. Spans play no part.
use Rattle.std.specs.Prelude.{ℕ, suc, ℤ, List, [], ◌∷◌, ◌++◌, map, Some, None}
use Rattle.hum_syntax.specs.declared.token.Token.{Token}
use Rattle.hum_syntax.specs.declared.token.TokenKind.{TokenKind}
use Rattle.hum_syntax.specs.declared.token.TokenKind.TheVariants as k
use Rattle.hum_syntax.specs.declared.keyword.Keyword.TheVariants as w
use Rattle.hum_syntax.specs.declared.tree.Expr.{Expr}
use Rattle.hum_syntax.specs.declared.tree.Expr.TheVariants as e
use Rattle.hum_syntax.specs.declared.tree.Pat.{Pat}
use Rattle.hum_syntax.specs.declared.tree.Pat.TheVariants as p
use Rattle.hum_syntax.specs.declared.tree.Stmt.{Stmt}
use Rattle.hum_syntax.specs.declared.tree.Stmt.TheVariants as s
use Rattle.hum_syntax.specs.declared.tree.Arm.{Arm, roll-Arm}
use Rattle.hum_syntax.specs.declared.tree.Branch.{Branch, roll-Branch}
use Rattle.hum_syntax.specs.declared.tree.Tree.{Tree}

abbrev pub Kinds : Type 0
Kinds = List TokenKind

abbrev pub kinds : List Token → Kinds
kinds ts = map (λ t. t.kind) ts

abbrev pub arm : Pat → Expr → Arm
arm pattern value = roll-Arm (record { pattern = pattern; value = value })

abbrev pub branch : Expr → List Stmt → Branch
branch condition block = roll-Branch (record { condition = condition; block = block })

mutual
  -- statements follow one another at one depth
  pub data IsStmts : ℕ → Kinds → List Stmt → Type 0 where
    stmts_none : {n : ℕ} → IsStmts n [] []
    stmts_more : {n : ℕ} {us vs : Kinds} {x : Stmt} {xs : List Stmt} → IsStmt n us x → IsStmts n vs xs → IsStmts n (us ++ vs) (x ∷ xs)

  -- what a statement uses is one deeper
  pub data IsStmt : ℕ → Kinds → Stmt → Type 0 where
    let_is : {n : ℕ} {us vs : Kinds} {x : Pat} {a : Expr} → IsPat n us x → IsExpr n vs a
        → IsStmt (suc n) (k.Keyword w.KwLet ∷ us ++ k.Equals ∷ vs) (s.Let x a)
    let_unit : {n : ℕ} {f : List ℕ} {vs : Kinds} {a : Expr} → IsExpr n vs a
        → IsStmt (suc n) (k.Keyword w.KwLet ∷ k.Name f ∷ k.CallParen ∷ k.ParenRight ∷ k.Equals ∷ vs) (s.Let (p.Bind f) (e.Abs p.Nil a))
    let_fun : {n : ℕ} {f : List ℕ} {us vs : Kinds} {x : Pat} {a : Expr} → IsPat n us x → IsExpr n vs a
        → IsStmt (suc n) (k.Keyword w.KwLet ∷ k.Name f ∷ k.CallParen ∷ us ++ k.ParenRight ∷ k.Equals ∷ vs) (s.Let (p.Bind f) (e.Abs x a))
    send : {n : ℕ} {us vs : Kinds} {a b : Expr} → IsExpr n us a → IsExpr n vs b
        → IsStmt (suc n) (k.Keyword w.KwSend ∷ us ++ k.Keyword w.KwTo ∷ vs) (s.Send a b)
    create : {n : ℕ} {f : List ℕ} {us : Kinds} {a : Expr} → IsExpr n us a
        → IsStmt (suc n) (k.Keyword w.KwCreate ∷ k.Name f ∷ k.Keyword w.KwWith ∷ us) (s.Create f a)
    become : {n : ℕ} {us : Kinds} {a : Expr} → IsExpr n us a → IsStmt (suc n) (k.Keyword w.KwBecome ∷ us) (s.Become a)
    throw : {n : ℕ} {us : Kinds} {a : Expr} → IsExpr n us a → IsStmt (suc n) (k.Keyword w.KwThrow ∷ us) (s.Throw a)
    does : {n : ℕ} {us : Kinds} {a : Expr} → IsExpr n us a → IsStmt (suc n) us (s.Do a)

  -- one item, or a tuple of several
  pub data IsExpr : ℕ → Kinds → Expr → Type 0 where
    expr_only : {n : ℕ} {us : Kinds} {a : Expr} → IsItems n us (a ∷ []) → IsExpr n us a
    expr_tuple : {n : ℕ} {us : Kinds} {a b : Expr} {xs : List Expr} → IsItems n us (a ∷ b ∷ xs) → IsExpr n us (e.Tuple (a ∷ b ∷ xs))

  -- what stands between commas, all at one depth; an abstraction takes all that follows
  pub data IsItems : ℕ → Kinds → List Expr → Type 0 where
    item_abs : {n : ℕ} {us vs : Kinds} {x : Pat} {a : Expr} → IsPat n us x → IsExpr n vs a
        → IsItems (suc n) (k.Backslash ∷ us ++ k.Dot ∷ vs) (e.Abs x a ∷ [])
    item_last : {n : ℕ} {us : Kinds} {a : Expr} → IsTerm n us a → IsItems n us (a ∷ [])
    item_comma : {n : ℕ} {us vs : Kinds} {a : Expr} {xs : List Expr} → IsTerm n us a → IsItems n vs xs → IsItems n (us ++ k.Comma ∷ vs) (a ∷ xs)

  -- an atom with its calls, or a form that begins with a keyword
  pub data IsTerm : ℕ → Kinds → Expr → Type 0 where
    chain : {n : ℕ} {us vs : Kinds} {f a : Expr} → IsAtom n us f → IsCalls (suc n) f vs a → IsTerm n (us ++ vs) a
    new : {n : ℕ} {us : Kinds} {a : Expr} → IsTerm n us a → IsTerm (suc n) (k.Keyword w.KwNew ∷ us) (e.New a)
    case : {n : ℕ} {us vs : Kinds} {a : Expr} {xs : List Arm} → IsExpr n us a → IsArms n vs xs
        → IsTerm (suc n) (k.Keyword w.KwCase ∷ us ++ k.Keyword w.KwOf ∷ vs ++ k.Keyword w.KwEnd ∷ []) (e.Case a xs)
    if : {n : ℕ} {us : Kinds} {xs : List Branch} → IsBranches n us xs → IsTerm (suc n) (k.Keyword w.KwIf ∷ us) (e.If xs None)
    if_else : {n : ℕ} {us vs : Kinds} {xs : List Branch} {ys : List Stmt} → IsBranches n us xs → IsBlock n vs ys
        → IsTerm (suc n) (k.Keyword w.KwIf ∷ us ++ k.Keyword w.KwElse ∷ vs) (e.If xs (Some ys))

  -- the calls of a chain, of which each is one deeper than the one before
  pub data IsCalls : ℕ → Expr → Kinds → Expr → Type 0 where
    calls_done : {n : ℕ} {f : Expr} → IsCalls n f [] f
    calls_unit : {n : ℕ} {f a : Expr} {vs : Kinds} → IsCalls n (e.Call f e.Nil) vs a → IsCalls (suc n) f (k.CallParen ∷ k.ParenRight ∷ vs) a
    calls_call : {n : ℕ} {f x a : Expr} {us vs : Kinds} → IsExpr n us x → IsCalls (suc n) (e.Call f x) vs a
        → IsCalls (suc (suc n)) f (k.CallParen ∷ us ++ k.ParenRight ∷ vs) a

  -- parentheses leave no trace
  pub data IsAtom : ℕ → Kinds → Expr → Type 0 where
    number : {n : ℕ} {z : ℤ} → IsAtom n (k.Number z ∷ []) (e.Num z)
    symbol : {n : ℕ} {t : List ℕ} → IsAtom n (k.Symbol t ∷ []) (e.Sym t)
    text : {n : ℕ} {t : List ℕ} → IsAtom n (k.Text t ∷ []) (e.Text t)
    true : {n : ℕ} → IsAtom n (k.Keyword w.KwTrue ∷ []) e.True
    false : {n : ℕ} → IsAtom n (k.Keyword w.KwFalse ∷ []) e.False
    nil : {n : ℕ} → IsAtom n (k.Keyword w.KwNil ∷ []) e.Nil
    undef : {n : ℕ} → IsAtom n (k.Undefined ∷ []) e.Undef
    name : {n : ℕ} {t : List ℕ} → IsAtom n (k.Name t ∷ []) (e.Var t)
    myself : {n : ℕ} → IsAtom n (k.Keyword w.KwSelf ∷ []) e.Myself
    empty : {n : ℕ} → IsAtom n (k.ParenLeft ∷ k.ParenRight ∷ []) e.Nil
    paren : {n : ℕ} {us : Kinds} {a : Expr} → IsExpr n us a → IsAtom (suc n) (k.ParenLeft ∷ us ++ k.ParenRight ∷ []) a
    block : {n : ℕ} {us : Kinds} {xs : List Stmt} → IsBlock n us xs → IsAtom (suc n) us (e.Block xs)

  pub data IsBlock : ℕ → Kinds → List Stmt → Type 0 where
    square : {n : ℕ} {us : Kinds} {xs : List Stmt} → IsStmts n us xs → IsBlock n (k.SquareLeft ∷ us ++ k.SquareRight ∷ []) xs

  -- conditions and their blocks, behind `IF` and each `ELIF`
  pub data IsBranches : ℕ → Kinds → List Branch → Type 0 where
    branch_last : {n : ℕ} {us vs : Kinds} {a : Expr} {ys : List Stmt} → IsExpr n us a → IsBlock n vs ys → IsBranches n (us ++ vs) (branch a ys ∷ [])
    branch_elif : {n : ℕ} {us vs ws : Kinds} {a : Expr} {ys : List Stmt} {xs : List Branch} → IsExpr n us a → IsBlock n vs ys → IsBranches n ws xs
        → IsBranches n (us ++ (vs ++ k.Keyword w.KwElif ∷ ws)) (branch a ys ∷ xs)

  -- one arm at least
  pub data IsArms : ℕ → Kinds → List Arm → Type 0 where
    arms_last : {n : ℕ} {us : Kinds} {x : Arm} → IsArm n us x → IsArms n us (x ∷ [])
    arms_more : {n : ℕ} {us vs : Kinds} {x : Arm} {xs : List Arm} → IsArm n us x → IsArms n vs xs → IsArms n (us ++ vs) (x ∷ xs)

  pub data IsArm : ℕ → Kinds → Arm → Type 0 where
    colon : {n : ℕ} {us vs : Kinds} {x : Pat} {a : Expr} → IsPat n us x → IsExpr n vs a → IsArm (suc n) (us ++ k.Colon ∷ vs) (arm x a)

  -- one pattern, or a tuple of several
  pub data IsPat : ℕ → Kinds → Pat → Type 0 where
    pat_only : {n : ℕ} {us : Kinds} {x : Pat} → IsPats n us (x ∷ []) → IsPat n us x
    pat_tuple : {n : ℕ} {us : Kinds} {x y : Pat} {xs : List Pat} → IsPats n us (x ∷ y ∷ xs) → IsPat n us (p.Tuple (x ∷ y ∷ xs))

  pub data IsPats : ℕ → Kinds → List Pat → Type 0 where
    pats_last : {n : ℕ} {us : Kinds} {x : Pat} → IsPterm n us x → IsPats n us (x ∷ [])
    pats_comma : {n : ℕ} {us vs : Kinds} {x : Pat} {xs : List Pat} → IsPterm n us x → IsPats n vs xs → IsPats n (us ++ k.Comma ∷ vs) (x ∷ xs)

  pub data IsPterm : ℕ → Kinds → Pat → Type 0 where
    p_any : {n : ℕ} → IsPterm n (k.Wildcard ∷ []) p.Any
    p_name : {n : ℕ} {t : List ℕ} → IsPterm n (k.Name t ∷ []) (p.Bind t)
    p_number : {n : ℕ} {z : ℤ} → IsPterm n (k.Number z ∷ []) (p.Num z)
    p_symbol : {n : ℕ} {t : List ℕ} → IsPterm n (k.Symbol t ∷ []) (p.Sym t)
    p_true : {n : ℕ} → IsPterm n (k.Keyword w.KwTrue ∷ []) p.True
    p_false : {n : ℕ} → IsPterm n (k.Keyword w.KwFalse ∷ []) p.False
    p_nil : {n : ℕ} → IsPterm n (k.Keyword w.KwNil ∷ []) p.Nil
    p_undef : {n : ℕ} → IsPterm n (k.Undefined ∷ []) p.Undef
    p_value : {n : ℕ} {us : Kinds} {a : Expr} → IsTerm n us a → IsPterm (suc n) (k.Dollar ∷ us) (p.Value a)
    p_empty : {n : ℕ} → IsPterm n (k.ParenLeft ∷ k.ParenRight ∷ []) p.Nil
    p_paren : {n : ℕ} {us : Kinds} {x : Pat} → IsPat n us x → IsPterm (suc n) (k.ParenLeft ∷ us ++ k.ParenRight ∷ []) x

-- the levels below a program's statements, which are at depth 1
abbrev pub deepest : ℕ
deepest = 199

-- The tokens spell the tree, no deeper than 200.
abbrev pub Spells : Kinds → Tree → Type 0
Spells ts tree = IsStmts deepest ts tree.statements
