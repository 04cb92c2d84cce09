-- What each function of the parser answers: one tree from the front, and where it stops.
use Rattle.std.specs.Prelude.{ℕ, zero, suc, ◌==◌, nat_lt, if◌then◌else◌, List, [], ◌∷◌, ◌++◌, Ok, Err, Some, None, length}
use Rattle.hum_syntax.specs.declared.TokenKind.{TokenKind}
use Rattle.hum_syntax.specs.declared.TokenKind.TheVariants as k
use Rattle.hum_syntax.specs.declared.Keyword.{Keyword}
use Rattle.hum_syntax.specs.declared.Keyword.TheVariants as w
use Rattle.hum_syntax.specs.declared.Expr.{Expr}
use Rattle.hum_syntax.specs.declared.Expr.TheVariants as e
use Rattle.hum_syntax.specs.declared.Pat.{Pat}
use Rattle.hum_syntax.specs.declared.Pat.TheVariants as p
use Rattle.hum_syntax.specs.declared.Stmt.{Stmt}
use Rattle.hum_syntax.specs.declared.Stmt.TheVariants as s
use Rattle.hum_syntax.specs.declared.Arm.{Arm}
use Rattle.hum_syntax.specs.declared.Branch.{Branch}
use Rattle.hum_syntax.specs.Spells.{arm, branch}
use Rattle.hum_parse.specs.declared.tokens.Mark.{Mark}
use Rattle.hum_parse.specs.declared.tokens.Mark.TheVariants as mark
use Rattle.hum_parse.specs.Input.{Parser, ◌>>=◌, ◌>>◌, pure, refuse, expect, either, sees, next, either_name, expect_name}

-- the rules one level down
pub record Inner : Type 0 where
  pub expr : Parser Expr
  pub term : Parser Expr
  pub calls : Expr → Parser Expr
  pub pat : Parser Pat
  -- after the pattern's first item
  pub pat_behind : Pat → Parser Pat
  pub arms : Parser (List Arm)
  -- after the opening bracket
  pub block : Parser (List Stmt)

-- one item stands for itself, and several are a tuple
abbrev pub pat_of : List Pat → Pat
pat_of (x ∷ []) = x
pat_of xs = p.Tuple xs

abbrev pub expr_of : List Expr → Expr
expr_of (x ∷ []) = x
expr_of xs = e.Tuple xs

-- at the token that was just taken
abbrev pub back : {A : Type 0} → TokenKind → Parser A
back t = λ ts. Err (t ∷ ts)

-- all up to this token, which is taken; the number bounds the turns
unfoldable pub until_from : {A : Type 0} → Mark → Parser A → ℕ → List A → Parser (List A)
until_from x p zero found = refuse
until_from x p (suc turns) found = either x (pure found) (do
  a ← p
  until_from x p turns (found ++ a ∷ []))

-- n levels may still stand below
module _ (n : ℕ) (inner : Inner) where
  -- ---- patterns

  unfoldable pub pat_inside : Parser Pat
  pat_inside = do
    x ← inner.pat
    expect mark.ParenRight
    pure x

  unfoldable pub pat_value : Parser Pat
  pat_value = do
    a ← inner.term
    pure (p.Value a)

  -- after the opening parenthesis
  unfoldable pub pat_paren : Parser Pat
  pat_paren = either mark.ParenRight (pure p.Nil) (if n == 0 then refuse else pat_inside)

  -- after this token
  unfoldable pub pterm_by : TokenKind → Parser Pat
  pterm_by k.Wildcard = pure p.Any
  pterm_by (k.Name t) = pure (p.Bind t)
  pterm_by (k.Number z) = pure (p.Num z)
  pterm_by (k.Symbol t) = pure (p.Sym t)
  pterm_by (k.Keyword w.KwTrue) = pure p.True
  pterm_by (k.Keyword w.KwFalse) = pure p.False
  pterm_by (k.Keyword w.KwNil) = pure p.Nil
  pterm_by k.Undefined = pure p.Undef
  pterm_by k.Dollar = if n == 0 then back k.Dollar else pat_value
  pterm_by k.ParenLeft = pat_paren
  pterm_by t = back t

  unfoldable pub pterm : Parser Pat
  pterm [] = Err []
  pterm (t ∷ ts) = pterm_by t ts

  -- what stands behind commas; the number bounds the turns
  unfoldable pub pats_from : ℕ → List Pat → Parser (List Pat)
  pats_from zero found = pure found
  pats_from (suc turns) found = either mark.Comma (do
    x ← pterm
    pats_from turns (found ++ x ∷ [])) (pure found)

  -- after the first item
  unfoldable pub pat_behind : Pat → Parser Pat
  pat_behind x = λ ts. (do
    found ← pats_from (length ts) (x ∷ [])
    pure (pat_of found)) ts

  unfoldable pub pat : Parser Pat
  pat = do
    x ← pterm
    pat_behind x

  -- ---- terms

  unfoldable pub call_inside : Expr → Parser Expr
  call_inside f = do
    x ← inner.expr
    expect mark.ParenRight
    inner.calls (e.Call f x)

  -- the calls that a chain goes on with
  unfoldable pub calls : Expr → Parser Expr
  calls f = either mark.CallParen (either mark.ParenRight (inner.calls (e.Call f e.Nil)) (if n == 0 then refuse else call_inside f)) (pure f)

  unfoldable pub paren_inside : Parser Expr
  paren_inside = do
    a ← inner.expr
    expect mark.ParenRight
    calls a

  unfoldable pub block_atom : Parser Expr
  block_atom = do
    xs ← inner.block
    calls (e.Block xs)

  unfoldable pub new_term : Parser Expr
  new_term = do
    a ← inner.term
    pure (e.New a)

  unfoldable pub case_term : Parser Expr
  case_term = do
    a ← inner.expr
    expect mark.Of
    xs ← inner.arms
    pure (e.Case a xs)

  unfoldable pub block : Parser (List Stmt)
  block = expect mark.SquareLeft >> inner.block

  unfoldable pub else_block : List Branch → Parser Expr
  else_block found = do
    ys ← block
    pure (e.If found (Some ys))

  -- behind the last branch
  unfoldable pub otherwise : List Branch → Parser Expr
  otherwise found = either mark.Else (else_block found) (pure (e.If found None))

  unfoldable pub ifs_from : ℕ → List Branch → Parser Expr
  ifs_from zero found = refuse
  ifs_from (suc turns) found = do
    a ← inner.expr
    ys ← block
    either mark.Elif (ifs_from turns (found ++ branch a ys ∷ [])) (otherwise (found ++ branch a ys ∷ []))

  unfoldable pub if_term : Parser Expr
  if_term = λ ts. ifs_from (length ts) [] ts

  -- after the opening parenthesis
  unfoldable pub paren_term : Parser Expr
  paren_term = either mark.ParenRight (calls e.Nil) (if n == 0 then refuse else paren_inside)

  -- after this keyword
  unfoldable pub keyword_term : Keyword → Parser Expr
  keyword_term w.KwTrue = calls e.True
  keyword_term w.KwFalse = calls e.False
  keyword_term w.KwNil = calls e.Nil
  keyword_term w.KwSelf = calls e.Myself
  keyword_term w.KwNew = if n == 0 then back (k.Keyword w.KwNew) else new_term
  keyword_term w.KwCase = if nat_lt n 2 then back (k.Keyword w.KwCase) else case_term
  keyword_term w.KwIf = if n == 0 then back (k.Keyword w.KwIf) else if_term
  keyword_term word = back (k.Keyword word)

  -- after this token
  unfoldable pub term_by : TokenKind → Parser Expr
  term_by (k.Number z) = calls (e.Num z)
  term_by (k.Symbol t) = calls (e.Sym t)
  term_by (k.Text t) = calls (e.Text t)
  term_by (k.Name t) = calls (e.Var t)
  term_by k.Undefined = calls e.Undef
  term_by k.ParenLeft = paren_term
  term_by k.SquareLeft = if n == 0 then back k.SquareLeft else block_atom
  term_by (k.Keyword word) = keyword_term word
  term_by t = back t

  unfoldable pub term : Parser Expr
  term [] = Err []
  term (t ∷ ts) = term_by t ts

  -- ---- expressions

  unfoldable pub abs_inside : Parser Expr
  abs_inside = do
    x ← inner.pat
    expect mark.Dot
    a ← inner.expr
    pure (e.Abs x a)

  unfoldable pub items_from : ℕ → List Expr → Parser (List Expr)
  items_from zero found ts = Err ts
  items_from (suc turns) found ts = (if sees mark.Backslash ts then (if n == 0 then refuse else (λ us. (do
    a ← abs_inside
    pure (found ++ a ∷ [])) (next us))) else (do
      a ← term
      either mark.Comma (items_from turns (found ++ a ∷ [])) (pure (found ++ a ∷ [])))) ts

  unfoldable pub expr : Parser Expr
  expr = λ ts. (do
    found ← items_from (length ts) []
    pure (expr_of found)) ts

  -- ---- arms

  unfoldable pub arm_rule : Parser Arm
  arm_rule = do
    x ← inner.pat
    expect mark.Colon
    a ← inner.expr
    pure (arm x a)

  -- with the END behind the last
  unfoldable pub arms : Parser (List Arm)
  arms = do
    x ← arm_rule
    (λ ts. until_from mark.End arm_rule (length ts) (x ∷ []) ts)

  -- ---- statements

  -- a statement of the expression behind the equals sign
  unfoldable pub equals : (Expr → Stmt) → Parser Stmt
  equals made = do
    expect mark.Equals
    a ← inner.expr
    pure (made a)

  -- a function of this name and argument
  unfoldable pub function_value : List ℕ → Pat → Parser Stmt
  function_value f x = equals (λ a. s.Let (p.Bind f) (e.Abs x a))

  unfoldable pub function_inside : List ℕ → Parser Stmt
  function_inside f = do
    x ← inner.pat
    expect mark.ParenRight
    function_value f x

  -- after the name and the opening parenthesis
  unfoldable pub function : List ℕ → Parser Stmt
  function f = either mark.ParenRight (function_value f p.Nil) (function_inside f)

  unfoldable pub let_value : List ℕ → Parser Stmt
  let_value f = do
    x ← inner.pat_behind (p.Bind f)
    equals (s.Let x)

  -- after the name
  unfoldable pub let_named : List ℕ → Parser Stmt
  let_named f = either mark.CallParen (function f) (let_value f)

  unfoldable pub let_pattern : Parser Stmt
  let_pattern = do
    x ← inner.pat
    equals (s.Let x)

  unfoldable pub let_rule : Parser Stmt
  let_rule = either_name let_named let_pattern

  unfoldable pub create : Parser Stmt
  create = do
    f ← expect_name
    expect mark.With
    a ← inner.expr
    pure (s.Create f a)

  unfoldable pub send : Parser Stmt
  send = do
    a ← inner.expr
    expect mark.To
    b ← inner.expr
    pure (s.Send a b)

  unfoldable pub does : Parser Stmt
  does = do
    a ← inner.expr
    pure (s.Do a)

  unfoldable pub becomes : Parser Stmt
  becomes = do
    a ← inner.expr
    pure (s.Become a)

  unfoldable pub throws : Parser Stmt
  throws = do
    a ← inner.expr
    pure (s.Throw a)

  -- after this token
  unfoldable pub stmt_by : TokenKind → Parser Stmt
  stmt_by (k.Keyword w.KwLet) = let_rule
  stmt_by (k.Keyword w.KwSend) = send
  stmt_by (k.Keyword w.KwCreate) = create
  stmt_by (k.Keyword w.KwBecome) = becomes
  stmt_by (k.Keyword w.KwThrow) = throws
  stmt_by t = λ ts. does (t ∷ ts)

  unfoldable pub stmt : Parser Stmt
  stmt [] = Err []
  stmt (t ∷ ts) = if n == 0 then Err (t ∷ ts) else stmt_by t ts

  -- to the closing bracket
  unfoldable pub stmts : Parser (List Stmt)
  stmts = λ ts. until_from mark.SquareRight stmt (length ts) [] ts

unfoldable pub inner_at : ℕ → Inner
inner_at zero = record { expr = refuse; term = refuse; calls = λ f. pure f; pat = refuse; pat_behind = λ x. refuse; arms = refuse; block = refuse }
inner_at (suc n) = record {
  expr = expr n (inner_at n);
  term = term n (inner_at n);
  calls = calls n (inner_at n);
  pat = pat n (inner_at n);
  pat_behind = pat_behind n (inner_at n);
  arms = arms n (inner_at n);
  block = stmts n (inner_at n);
}

-- to the end of the tokens
unfoldable pub program_from : ℕ → ℕ → List Stmt → Parser (List Stmt)
program_from n turns found [] = Ok (found, [])
program_from n zero found (t ∷ ts) = Err (t ∷ ts)
program_from n (suc turns) found (t ∷ ts) = (do
  x ← stmt n (inner_at n)
  program_from n turns (found ++ x ∷ [])) (t ∷ ts)

unfoldable pub program : ℕ → Parser (List Stmt)
program n = λ ts. program_from n (length ts) [] ts
