-- The tokens that a statement may begin with.
use Rattle.std.proofs.Common.{◌≡◌, ℕ, suc, Bool, true, false, [], ◌∷◌, refl, sym}
use Rattle.hum_syntax.specs.declared.TokenKind.{TokenKind}
use Rattle.hum_syntax.specs.declared.TokenKind.TheVariants as k
use Rattle.hum_syntax.specs.declared.Keyword.TheVariants as w
use Rattle.hum_syntax.specs.declared.Expr.{Expr}
use Rattle.hum_syntax.specs.declared.Expr.TheVariants as e
use Rattle.hum_syntax.specs.declared.Stmt.{Stmt}
use Rattle.hum_syntax.specs.declared.Stmt.TheVariants as s
use Rattle.hum_syntax.specs.Spells as G
use Rattle.hum_syntax.specs.Spells.{Kinds, arm, IsExpr, IsPat, IsArms, IsArm, IsStmts, IsStmt}
use Rattle.hum_parse.proofs.Exact.{Ends}
use Rattle.hum_parse.proofs.Steps.{Begins}
use Rattle.hum_parse.proofs.Levels.{goes_on}
use Rattle.hum_parse.proofs.First.{begins_expr, expr_begins}

abbrev pub begins_stmt : TokenKind → Bool
begins_stmt (k.Keyword w.KwLet) = true
begins_stmt (k.Keyword w.KwSend) = true
begins_stmt (k.Keyword w.KwCreate) = true
begins_stmt (k.Keyword w.KwBecome) = true
begins_stmt (k.Keyword w.KwThrow) = true
begins_stmt t = begins_expr t

expr_stmt : (u : Kinds) → Begins begins_expr u → Begins begins_stmt u
expr_stmt [] b = b
expr_stmt (t ∷ u) b = one t b
  where
    one : (t : TokenKind) → begins_expr t ≡ true → begins_stmt t ≡ true
    one (k.Keyword w.KwLet) b = refl
    one (k.Keyword w.KwSend) b = refl
    one (k.Keyword w.KwCreate) b = refl
    one (k.Keyword w.KwBecome) b = refl
    one (k.Keyword w.KwThrow) b = refl
    one _ b = b

pub stmt_begins : (n : ℕ) (u : Kinds) (x : Stmt) → IsStmt n u x → Begins begins_stmt u
stmt_begins n u x (G.let_is p a) = refl
stmt_begins n u x (G.let_unit a) = refl
stmt_begins n u x (G.let_fun p a) = refl
stmt_begins n u x (G.send a b) = refl
stmt_begins n u x (G.create a) = refl
stmt_begins n u x (G.become a) = refl
stmt_begins n u x (G.throw a) = refl
stmt_begins n u x (G.does a) = expr_stmt u (expr_begins a)

pub stmt_goes : (t : TokenKind) → begins_stmt t ≡ true → goes_on t ≡ false
stmt_goes k.CallParen h = sym h
stmt_goes (k.Keyword w.KwElif) h = sym h
stmt_goes (k.Keyword w.KwElse) h = sym h
stmt_goes k.Comma h = sym h
stmt_goes _ h = refl

pub stmt_ends : (n : ℕ) → Ends (IsStmt (suc n))
stmt_ends n = record {
  tail = k.Undefined ∷ [];
  carried = refl;
  tree = s.Do e.Undef;
  ends =
      G.does (G.expr_only (G.item_last (G.chain G.undef G.calls_done)));
}

-- a statement's own words
abbrev pub is_word : TokenKind → Bool
is_word (k.Keyword w.KwLet) = true
is_word (k.Keyword w.KwSend) = true
is_word (k.Keyword w.KwCreate) = true
is_word (k.Keyword w.KwBecome) = true
is_word (k.Keyword w.KwThrow) = true
is_word _ = false

pub expr_word : (u : Kinds) (b : Expr) (n : ℕ) → IsExpr n u b → Begins is_word u → ⊥
expr_word u b n x c = one u (expr_begins x) c
  where
    bad : (t : TokenKind) → begins_expr t ≡ true → is_word t ≡ true → ⊥
    bad (k.Keyword w.KwLet) h c = cc
    bad (k.Keyword w.KwSend) h c = cc
    bad (k.Keyword w.KwCreate) h c = cc
    bad (k.Keyword w.KwBecome) h c = cc
    bad (k.Keyword w.KwThrow) h c = cc
    bad _ h c = let no : false ≡ true = c in cc

    one : (u : Kinds) → Begins begins_expr u → Begins is_word u → ⊥
    one [] h c = h
    one (t ∷ u) h c = bad t h c
