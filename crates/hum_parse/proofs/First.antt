-- The tokens that an expression may begin with.
use Rattle.std.proofs.Common.{ℕ, Bool, true, false, List, refl}
use Rattle.hum_syntax.specs.declared.TokenKind.{TokenKind}
use Rattle.hum_syntax.specs.declared.TokenKind.TheVariants as k
use Rattle.hum_syntax.specs.declared.Keyword.TheVariants as w
use Rattle.hum_syntax.specs.declared.Expr.{Expr}
use Rattle.hum_syntax.specs.declared.Stmt.{Stmt}
use Rattle.hum_syntax.specs.Spells as G
use Rattle.hum_syntax.specs.Spells.{Kinds, IsExpr, IsItems, IsTerm, IsAtom, IsBlock}
use Rattle.hum_parse.specs.declared.tokens.Mark.TheVariants as mark
use Rattle.hum_parse.specs.Input.{is}
use Rattle.hum_parse.proofs.Steps.{Begins, apart, begins_more}

abbrev pub begins_expr : TokenKind → Bool
begins_expr (k.Number z) = true
begins_expr (k.Symbol t) = true
begins_expr (k.Text t) = true
begins_expr (k.Keyword w.KwTrue) = true
begins_expr (k.Keyword w.KwFalse) = true
begins_expr (k.Keyword w.KwNil) = true
begins_expr k.Undefined = true
begins_expr (k.Name t) = true
begins_expr (k.Keyword w.KwSelf) = true
begins_expr k.ParenLeft = true
begins_expr k.SquareLeft = true
begins_expr (k.Keyword w.KwNew) = true
begins_expr (k.Keyword w.KwCase) = true
begins_expr (k.Keyword w.KwIf) = true
begins_expr k.Backslash = true
begins_expr _ = false

block_begins : {n : ℕ} {u : Kinds} {xs : List Stmt} → IsBlock n u xs → Begins begins_expr u
block_begins (G.square xs) = refl

atom_begins : {n : ℕ} {u : Kinds} {a : Expr} → IsAtom n u a → Begins begins_expr u
atom_begins G.number = refl
atom_begins G.symbol = refl
atom_begins G.text = refl
atom_begins G.true = refl
atom_begins G.false = refl
atom_begins G.nil = refl
atom_begins G.undef = refl
atom_begins G.name = refl
atom_begins G.myself = refl
atom_begins G.empty = refl
atom_begins (G.paren a) = refl
atom_begins (G.block xs) = block_begins xs

pub term_begins : {n : ℕ} {u : Kinds} {a : Expr} → IsTerm n u a → Begins begins_expr u
term_begins (G.chain f a) = begins_more begins_expr _ _ (atom_begins f)
term_begins (G.new a) = refl
term_begins (G.case a xs) = refl
term_begins (G.if xs) = refl
term_begins (G.if_else xs ys) = refl

pub items_begins : {n : ℕ} {u : Kinds} {xs : List Expr} → IsItems n u xs → Begins begins_expr u
items_begins (G.item_abs x a) = refl
items_begins (G.item_last a) = term_begins a
items_begins (G.item_comma a xs) = begins_more begins_expr _ _ (term_begins a)

pub expr_begins : {n : ℕ} {u : Kinds} {a : Expr} → IsExpr n u a → Begins begins_expr u
expr_begins (G.expr_only xs) = items_begins xs
expr_begins (G.expr_tuple xs) = items_begins xs

pub apart_right : (u : Kinds) → Begins begins_expr u → Begins (is mark.ParenRight) u → ⊥
apart_right u b c = apart begins_expr mark.ParenRight refl u b c
