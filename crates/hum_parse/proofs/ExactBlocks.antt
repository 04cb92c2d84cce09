-- The statements of a block, to its closing bracket.
use Rattle.std.proofs.Common.{◌≡◌, ℕ, zero, suc, Bool, List, [], ◌∷◌, ◌++◌, length, Err, refl, sym, ap, ◌∙◌, subst, arith, append_assoc, append-nil}
use Rattle.hum_syntax.specs.declared.TokenKind.{TokenKind}
use Rattle.hum_syntax.specs.declared.TokenKind.TheVariants as k
use Rattle.hum_syntax.specs.declared.Stmt.{Stmt}
use Rattle.hum_syntax.specs.Spells as G
use Rattle.hum_syntax.specs.Spells.{Kinds, arm, IsExpr, IsPat, IsArms, IsArm, IsStmts, IsStmt}
use Rattle.hum_parse.specs.declared.tokens.Mark.TheVariants as mark
use Rattle.hum_parse.specs.Input.{pure, either}
use Rattle.hum_parse.specs.Rules.{Inner, until_from, stmt, stmts}
use Rattle.hum_parse.proofs.Exact.{Language, Answers, Exact}
use Rattle.hum_parse.proofs.Steps.{Same, Close, along, close_is, closes, exact_shut}
use Rattle.hum_parse.proofs.Levels.{goes_on, BlockEnd, Levels}
use Rattle.hum_parse.proofs.Until.{Until, until_end, until_more, exact_until}
use Rattle.hum_parse.proofs.Words.{begins_stmt, stmt_begins, stmt_goes}
use Rattle.hum_parse.proofs.ExactStmts.{exact_stmt}

stmt_shut : {us : Kinds} {x : Stmt} → IsStmt 0 us x → ⊥
stmt_shut h = elim h [ ]

abbrev Blocks : ℕ → Language (List Stmt)
Blocks n = Until mark.SquareRight (IsStmt n) []

blocks_same : (n : ℕ) → Same (Blocks n) (BlockEnd n)
blocks_same n = record { to = to; from = from }
  where
    gather : (found : List Stmt) (v : Kinds) (all : List Stmt) → Until mark.SquareRight (IsStmt n) found v all
        → (rest : List Stmt) × (ws : Kinds) × (found ++ rest ≡ all) × (v ≡ ws ++ k.SquareRight ∷ []) × IsStmts n ws rest
    gather found v all until_end = ([], [], append-nil found, refl, G.stmts_none)
    gather found v all (until_more {us = us} {vs = vs} {a = a} l t) =
        let r = gather (found ++ a ∷ []) vs all t in (
          a ∷ r.0,
          us ++ r.1,
          sym (append_assoc found (a ∷ []) r.0) ∙ r.2,
          ap (λ z. us ++ z) r.3
              ∙ sym (append_assoc us r.1 (k.SquareRight ∷ [])),
          G.stmts_more l r.4,
        )

    to : (u : Kinds) (b : List Stmt) → Blocks n u b → BlockEnd n u b
    to u b y = let r = gather [] u b y in record {
      left = r.1;
      right = k.SquareRight ∷ [];
      split = r.3;
      first = b;
      is_left =
          subst (IsStmts n r.1) r.2 r.4;
      is_right = closes mark.SquareRight b;
    }

    spread : (found : List Stmt) (u : Kinds) (xs : List Stmt) → IsStmts n u xs → (all : List Stmt) → found ++ xs ≡ all → Until mark.SquareRight
        (IsStmt n) found (u ++ k.SquareRight ∷ []) all
    spread found u xs G.stmts_none all e = subst (λ z. Until mark.SquareRight (IsStmt n) found (k.SquareRight ∷ []) z)
        (sym (append-nil found) ∙ e) until_end
    spread found u xs (G.stmts_more {us = us} {vs = vs} {x = x} {xs = ys} y ys') all e =
        subst (λ z. Until mark.SquareRight (IsStmt n) found z all) (sym (append_assoc us vs (k.SquareRight ∷ [])))
        (until_more y (spread (found ++ x ∷ []) vs ys ys' all (append_assoc found (x ∷ []) ys ∙ e)))

    from : (u : Kinds) (b : List Stmt) → BlockEnd n u b → Blocks n u b
    from u b y =
        let ends : (y.right ≡ k.SquareRight ∷ []) × (y.first ≡ b) = close_is mark.SquareRight y.first y.right b y.is_right in
        subst (λ z. Blocks n z b) (sym (y.split ∙ ap (λ z. y.left ++ z) ends.0))
        (subst (Blocks n (y.left ++ k.SquareRight ∷ [])) ends.1 (spread [] y.left y.first y.is_left y.first refl))

-- where no statement can stand, the bracket closes at once
refuses : (inner : Inner) (us : Kinds) → stmt 0 inner us ≡ Err us
unfolding stmt
refuses inner [] = refl
refuses inner (t ∷ ts) = refl

shut_is : (inner : Inner) (ts : Kinds) → stmts 0 inner ts ≡ either mark.SquareRight (pure []) (λ us. Err us) ts
unfolding stmts until_from
shut_is inner [] = refl
shut_is inner (t ∷ ts) = rw refuses refl

shut_same : Same (Close mark.SquareRight []) (BlockEnd 0)
shut_same = record { to = to; from = from }
  where
    to : (u : Kinds) (b : List Stmt) → Close mark.SquareRight [] u b → BlockEnd 0 u b
    to u b y = record { left = []; right = u; split = refl; first = []; is_left = G.stmts_none; is_right = y }

    none : (left : Kinds) (xs : List Stmt) → IsStmts 0 left xs → (left ≡ []) × (xs ≡ [])
    none left xs G.stmts_none = (refl, refl)
    none left xs (G.stmts_more y ys) = absurd (stmt_shut y)

    from : (u : Kinds) (b : List Stmt) → BlockEnd 0 u b → Close mark.SquareRight [] u b
    from u b y = let empty = none y.left y.first y.is_left in
        subst (λ z. Close mark.SquareRight [] z b) (sym (y.split ∙ ap (λ z. z ++ y.right) empty.0))
        (subst (λ z. Close mark.SquareRight z y.right b) empty.1 y.is_right)

-- where no statement can stand, the bracket closes at once
shut_stmts : (inner : Inner) (g : TokenKind → Bool) (ts : Kinds) → Answers (BlockEnd 0) g ts (stmts 0 inner ts)
shut_stmts inner g ts = subst (Answers (BlockEnd 0) g ts) (sym (shut_is inner ts))
    (along (Close mark.SquareRight []) (BlockEnd 0) g ts (either mark.SquareRight (pure []) (λ us. Err us) ts) shut_same
    (exact_shut mark.SquareRight [] g (length ts) ts (omega arith)))

pub exact_stmts : (n : ℕ) (inner : Inner) → Levels n inner → (g : TokenKind → Bool) (m : ℕ) → Exact m (BlockEnd n) g (stmts n inner)
unfolding stmts
exact_stmts zero inner below g m ts h = shut_stmts inner g ts
exact_stmts (suc n) inner below g m ts h =
    along (Blocks (suc n)) (BlockEnd (suc n)) g ts (stmts (suc n) inner ts) (blocks_same (suc n))
    (exact_until mark.SquareRight (IsStmt (suc n)) begins_stmt goes_on (stmt_begins (suc n)) refl stmt_goes refl g (stmt (suc n) inner)
    (exact_stmt n inner below) (length ts) [] ts (omega arith))
