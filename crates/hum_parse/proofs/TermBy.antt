-- A term by its first token.
use Rattle.std.proofs.Common.{◌≡◌, ℕ, ℤ, suc, List, [], ◌∷◌, ◌++◌, Some, None, refl, ap, subst, append_assoc}
use Rattle.hum_syntax.specs.declared.TokenKind.{TokenKind}
use Rattle.hum_syntax.specs.declared.TokenKind.TheVariants as k
use Rattle.hum_syntax.specs.declared.Keyword.TheVariants as w
use Rattle.hum_syntax.specs.declared.Expr.{Expr}
use Rattle.hum_syntax.specs.declared.Expr.TheVariants as e
use Rattle.hum_syntax.specs.declared.Arm.{Arm}
use Rattle.hum_syntax.specs.declared.Branch.{Branch}
use Rattle.hum_syntax.specs.declared.Stmt.{Stmt}
use Rattle.hum_syntax.specs.Spells as G
use Rattle.hum_syntax.specs.Spells.{Kinds, IsExpr, IsTerm, IsAtom, IsCalls, IsArms, IsBranches, IsBlock, IsStmts}

pub data TermBy : ℕ → TokenKind → Kinds → Expr → Type 0 where
  by_number : {n : ℕ} {z : ℤ} {us : Kinds} {b : Expr} → IsCalls (suc n) (e.Num z) us b → TermBy n (k.Number z) us b
  by_symbol : {n : ℕ} {t : List ℕ} {us : Kinds} {b : Expr} → IsCalls (suc n) (e.Sym t) us b → TermBy n (k.Symbol t) us b
  by_text : {n : ℕ} {t : List ℕ} {us : Kinds} {b : Expr} → IsCalls (suc n) (e.Text t) us b → TermBy n (k.Text t) us b
  by_true : {n : ℕ} {us : Kinds} {b : Expr} → IsCalls (suc n) e.True us b → TermBy n (k.Keyword w.KwTrue) us b
  by_false : {n : ℕ} {us : Kinds} {b : Expr} → IsCalls (suc n) e.False us b → TermBy n (k.Keyword w.KwFalse) us b
  by_nil : {n : ℕ} {us : Kinds} {b : Expr} → IsCalls (suc n) e.Nil us b → TermBy n (k.Keyword w.KwNil) us b
  by_undef : {n : ℕ} {us : Kinds} {b : Expr} → IsCalls (suc n) e.Undef us b → TermBy n k.Undefined us b
  by_name : {n : ℕ} {t : List ℕ} {us : Kinds} {b : Expr} → IsCalls (suc n) (e.Var t) us b → TermBy n (k.Name t) us b
  by_myself : {n : ℕ} {us : Kinds} {b : Expr} → IsCalls (suc n) e.Myself us b → TermBy n (k.Keyword w.KwSelf) us b
  by_empty : {n : ℕ} {us : Kinds} {b : Expr} → IsCalls (suc n) e.Nil us b → TermBy n k.ParenLeft (k.ParenRight ∷ us) b
  by_paren : {n : ℕ} {us vs : Kinds} {a b : Expr} → IsExpr n us a → IsCalls (suc (suc n)) a vs b → TermBy (suc n) k.ParenLeft
      (us ++ k.ParenRight ∷ vs) b
  by_block : {n : ℕ} {us vs : Kinds} {xs : List Stmt} {b : Expr} → IsStmts n us xs → IsCalls (suc (suc n)) (e.Block xs) vs b
      → TermBy (suc n) k.SquareLeft (us ++ k.SquareRight ∷ vs) b
  by_new : {n : ℕ} {us : Kinds} {a : Expr} → IsTerm n us a → TermBy (suc n) (k.Keyword w.KwNew) us (e.New a)
  by_case : {n : ℕ} {us vs : Kinds} {a : Expr} {xs : List Arm} → IsExpr n us a → IsArms n vs xs
      → TermBy (suc n) (k.Keyword w.KwCase) (us ++ k.Keyword w.KwOf ∷ vs ++ k.Keyword w.KwEnd ∷ []) (e.Case a xs)
  by_if : {n : ℕ} {us : Kinds} {xs : List Branch} → IsBranches n us xs → TermBy (suc n) (k.Keyword w.KwIf) us (e.If xs None)
  by_else : {n : ℕ} {us vs : Kinds} {xs : List Branch} {ys : List Stmt} → IsBranches n us xs → IsBlock n vs ys
      → TermBy (suc n) (k.Keyword w.KwIf) (us ++ k.Keyword w.KwElse ∷ vs) (e.If xs (Some ys))

pub record First (n : ℕ) (ts : Kinds) (b : Expr) : Type 0 where
  pub token : TokenKind
  pub rest : Kinds
  pub split : ts ≡ token ∷ rest
  pub by : TermBy n token rest b

pub term_to : {n : ℕ} {t : TokenKind} {us : Kinds} {b : Expr} → TermBy n t us b → IsTerm n (t ∷ us) b
term_to (by_number c) = G.chain G.number c
term_to (by_symbol c) = G.chain G.symbol c
term_to (by_text c) = G.chain G.text c
term_to (by_true c) = G.chain G.true c
term_to (by_false c) = G.chain G.false c
term_to (by_nil c) = G.chain G.nil c
term_to (by_undef c) = G.chain G.undef c
term_to (by_name c) = G.chain G.name c
term_to (by_myself c) = G.chain G.myself c
term_to (by_empty c) = G.chain G.empty c
term_to (by_paren {n = n} {us = us} {vs = vs} {b = b} x c) =
    subst (λ z. IsTerm (suc n) (k.ParenLeft ∷ z) b) (append_assoc us (k.ParenRight ∷ []) vs) (G.chain (G.paren x) c)
term_to (by_block {n = n} {us = us} {vs = vs} {b = b} x c) =
    subst (λ z. IsTerm (suc n) (k.SquareLeft ∷ z) b) (append_assoc us (k.SquareRight ∷ []) vs) (G.chain (G.block (G.square x)) c)
term_to (by_new x) = G.new x
term_to (by_case x y) = G.case x y
term_to (by_if x) = G.if x
term_to (by_else x y) = G.if_else x y

block_first : (n : ℕ) (us vs : Kinds) (xs : List Stmt) (b : Expr) → IsBlock n us xs → IsCalls (suc (suc n)) (e.Block xs) vs b
    → First (suc n) (us ++ vs) b
block_first n us vs xs b (G.square {us = ws} y) c = record {
  token = k.SquareLeft;
  rest = ws ++ k.SquareRight ∷ vs;
  split = ap (λ z. k.SquareLeft ∷ z) (append_assoc ws (k.SquareRight ∷ []) vs);
  by = by_block y c;
}

atom_first : (n : ℕ) (us vs : Kinds) (f b : Expr) → IsAtom n us f → IsCalls (suc n) f vs b → First n (us ++ vs) b
atom_first n us vs f b (G.number {z = z}) c = record { token = k.Number z; rest = vs; split = refl; by = by_number c }
atom_first n us vs f b (G.symbol {t = t}) c = record { token = k.Symbol t; rest = vs; split = refl; by = by_symbol c }
atom_first n us vs f b (G.text {t = t}) c = record { token = k.Text t; rest = vs; split = refl; by = by_text c }
atom_first n us vs f b G.true c = record { token = k.Keyword w.KwTrue; rest = vs; split = refl; by = by_true c }
atom_first n us vs f b G.false c = record { token = k.Keyword w.KwFalse; rest = vs; split = refl; by = by_false c }
atom_first n us vs f b G.nil c = record { token = k.Keyword w.KwNil; rest = vs; split = refl; by = by_nil c }
atom_first n us vs f b G.undef c = record { token = k.Undefined; rest = vs; split = refl; by = by_undef c }
atom_first n us vs f b (G.name {t = t}) c = record { token = k.Name t; rest = vs; split = refl; by = by_name c }
atom_first n us vs f b G.myself c = record { token = k.Keyword w.KwSelf; rest = vs; split = refl; by = by_myself c }
atom_first n us vs f b G.empty c = record { token = k.ParenLeft; rest = k.ParenRight ∷ vs; split = refl; by = by_empty c }
atom_first n us vs f b (G.paren {us = ws} x) c = record {
  token = k.ParenLeft;
  rest = ws ++ k.ParenRight ∷ vs;
  split = ap (λ z. k.ParenLeft ∷ z) (append_assoc ws (k.ParenRight ∷ []) vs);
  by = by_paren x c;
}
atom_first n us vs f b (G.block {n = m} {us = ws} {xs = xs} x) c = block_first m ws vs xs b x c

pub term_first : {n : ℕ} {ts : Kinds} {b : Expr} → IsTerm n ts b → First n ts b
term_first (G.chain f c) = atom_first _ _ _ _ _ f c
term_first (G.new {us = us} x) = record { token = k.Keyword w.KwNew; rest = us; split = refl; by = by_new x }
term_first (G.case x y) = record { token = k.Keyword w.KwCase; rest = _; split = refl; by = by_case x y }
term_first (G.if x) = record { token = k.Keyword w.KwIf; rest = _; split = refl; by = by_if x }
term_first (G.if_else x y) = record { token = k.Keyword w.KwIf; rest = _; split = refl; by = by_else x y }

pub term_from : (n : ℕ) (t : TokenKind) (us : Kinds) (b : Expr) → IsTerm n (t ∷ us) b → TermBy n t us b
term_from n t us b x =
    let y : First n (t ∷ us) b = term_first x in
    let all : t ∷ us ≡ y.token ∷ y.rest = y.split in
    let heads : y.token ≡ t = cc in
    let tails : y.rest ≡ us = cc in
    subst (λ z. TermBy n t z b) tails (subst (λ z. TermBy n z y.rest b) heads y.by)
