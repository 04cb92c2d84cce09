-- Which tokens a tree is printed as, and how many levels these need.
use Rattle.std.specs.Prelude.{ℕ, suc, ◌+◌, Bool, true, false, not, List, [], ◌∷◌, ◌++◌, map, max, Some, None}
use Rattle.std.specs.List.{flat_map}
use Rattle.hum_syntax.specs.declared.token.TokenKind.{TokenKind}
use Rattle.hum_syntax.specs.declared.token.TokenKind.TheVariants as k
use Rattle.hum_syntax.specs.declared.keyword.Keyword.TheVariants as w
use Rattle.hum_syntax.specs.declared.form.Form.{Form}
use Rattle.hum_syntax.specs.declared.form.Form.TheVariants as form
use Rattle.hum_syntax.specs.declared.tree.Stmt.{Stmt, fold-Stmt}
use Rattle.hum_syntax.specs.declared.tree.Expr.{Expr, fold-Expr}
use Rattle.hum_syntax.specs.declared.tree.Pat.{Pat, fold-Pat}
use Rattle.hum_syntax.specs.declared.tree.Arm.{Arm, fold-Arm}
use Rattle.hum_syntax.specs.declared.tree.Branch.{Branch, fold-Branch}
use Rattle.hum_syntax.specs.declared.tree.Expr.TheOpen.{Expr-F, Pat-F, Stmt-F, Arm-F, Branch-F}
use Rattle.hum_syntax.specs.declared.tree.Expr.TheOpen as layer
use Rattle.hum_syntax.specs.Spells.{Kinds}

-- tokens, and the levels that must be left for them
pub record Piece : Type 0 where
  pub tokens : Kinds
  pub levels : ℕ

abbrev pub piece : Kinds → ℕ → Piece
piece tokens levels = record { tokens = tokens; levels = levels }

-- the same of an expression or a pattern, with its form, and of a call with the number of calls in its chain
pub record Part : Type 0 where
  pub form : Form
  pub tokens : Kinds
  pub levels : ℕ
  pub calls : ℕ

abbrev pub part : Form → Kinds → ℕ → ℕ → Part
part form tokens levels calls = record { form = form; tokens = tokens; levels = levels; calls = calls }

-- a part that needs parentheses nowhere but before a call
abbrev pub term : Kinds → ℕ → Part
term tokens levels = part form.Term tokens levels 0

-- ---- parentheses

-- no item of a tuple is a tuple without parentheses
abbrev pub is_tuple : Form → Bool
is_tuple form.Tuple = true
is_tuple _ = false

-- no term is a tuple or an abstraction without parentheses
abbrev pub is_wide : Form → Bool
is_wide form.Tuple = true
is_wide form.Abstraction = true
is_wide _ = false

-- a name, a call and a block are called without parentheses
abbrev pub is_called : Form → Bool
is_called form.Callee = true
is_called _ = false

-- with parentheses, or as it is
abbrev pub parens : Bool → Part → Part
parens true p = part form.Callee (k.ParenLeft ∷ p.tokens ++ k.ParenRight ∷ []) (suc p.levels) 0
parens false p = p

-- where a term is wanted
abbrev pub as_term : Part → Part
as_term p = parens (is_wide p.form) p

-- before a calling parenthesis
abbrev pub as_callee : Part → Part
as_callee p = parens (not (is_called p.form)) p

-- as the last item of a tuple
abbrev pub as_last : Part → Part
as_last p = parens (is_tuple p.form) p

-- ---- lists

-- the greatest number
abbrev pub most : List ℕ → ℕ
most [] = 0
most (n ∷ ns) = max n (most ns)

-- one after another
abbrev pub in_line : List Piece → Kinds
in_line = flat_map (λ p. p.tokens)

-- the levels for each of them
abbrev pub levels_in : List Piece → ℕ
levels_in ps = most (map (λ p. p.levels) ps)

-- with a token between each two
abbrev pub between : TokenKind → List Kinds → Kinds
between mark [] = []
between mark (ks ∷ []) = ks
between mark (ks ∷ us ∷ more) = ks ++ mark ∷ between mark (us ∷ more)

-- the items of a tuple, of which the last may be an abstraction
abbrev pub items_in : List Part → List Part
items_in [] = []
items_in (p ∷ []) = as_last p ∷ []
items_in (p ∷ q ∷ ps) = as_term p ∷ items_in (q ∷ ps)

-- items with commas
abbrev pub tuple : List Part → Part
tuple ps = part form.Tuple (between k.Comma (map (λ p. p.tokens) ps)) (most (map (λ p. p.levels) ps)) 0

-- statements in brackets
abbrev pub block : List Piece → Kinds
block ps = k.SquareLeft ∷ in_line ps ++ k.SquareRight ∷ []

-- the branches of an `IF`, of which each but the first comes behind `ELIF`
abbrev pub branches : List Piece → Kinds
branches ps = between (k.Keyword w.KwElif) (map (λ p. p.tokens) ps)

-- ---- one node, with what the nodes below are printed as in their places

-- a call needs a level more for each call before it
abbrev pub call : Part → Part → Part
call f a = part form.Callee (f.tokens ++ k.CallParen ∷ a.tokens ++ k.ParenRight ∷ []) (max f.levels (suc f.calls + a.levels)) (suc f.calls)

abbrev pub expr_part : Expr-F Part Part Piece Piece Piece → Part
expr_part layer.Expr::Undef = term (k.Undefined ∷ []) 0
expr_part layer.Expr::Nil = term (k.Keyword w.KwNil ∷ []) 0
expr_part layer.Expr::True = term (k.Keyword w.KwTrue ∷ []) 0
expr_part layer.Expr::False = term (k.Keyword w.KwFalse ∷ []) 0
expr_part (layer.Expr::Num z) = term (k.Number z ∷ []) 0
expr_part (layer.Expr::Sym run) = term (k.Symbol run ∷ []) 0
expr_part (layer.Text cs) = term (k.Text cs ∷ []) 0
expr_part (layer.Var name) = part form.Callee (k.Name name ∷ []) 0 0
expr_part layer.Myself = term (k.Keyword w.KwSelf ∷ []) 0
expr_part (layer.Abs x a) = part form.Abstraction (k.Backslash ∷ x.tokens ++ k.Dot ∷ a.tokens) (suc (max x.levels a.levels)) 0
expr_part (layer.Block ss) = part form.Callee (block ss) (suc (levels_in ss)) 0
expr_part (layer.Call f a) = call (as_callee f) a
expr_part (layer.Expr::Tuple ps) = tuple (items_in ps)
expr_part (layer.New a) = term (k.Keyword w.KwNew ∷ (as_term a).tokens) (suc (as_term a).levels)
expr_part (layer.Case a arms) =
    term (k.Keyword w.KwCase ∷ a.tokens ++ k.Keyword w.KwOf ∷ in_line arms ++ k.Keyword w.KwEnd ∷ []) (suc (max a.levels (levels_in arms)))
expr_part (layer.If bs None) = term (k.Keyword w.KwIf ∷ branches bs) (suc (levels_in bs))
expr_part (layer.If bs (Some ss)) = term (k.Keyword w.KwIf ∷ branches bs ++ k.Keyword w.KwElse ∷ block ss) (suc (max (levels_in bs) (levels_in ss)))

abbrev pub pat_part : Pat-F Part Part Piece Piece Piece → Part
pat_part layer.Any = term (k.Wildcard ∷ []) 0
pat_part (layer.Bind name) = term (k.Name name ∷ []) 0
pat_part layer.Pat::Undef = term (k.Undefined ∷ []) 0
pat_part layer.Pat::Nil = term (k.Keyword w.KwNil ∷ []) 0
pat_part layer.Pat::True = term (k.Keyword w.KwTrue ∷ []) 0
pat_part layer.Pat::False = term (k.Keyword w.KwFalse ∷ []) 0
pat_part (layer.Pat::Num z) = term (k.Number z ∷ []) 0
pat_part (layer.Pat::Sym run) = term (k.Symbol run ∷ []) 0
pat_part (layer.Value a) = term (k.Dollar ∷ (as_term a).tokens) (suc (as_term a).levels)
pat_part (layer.Pat::Tuple ps) = tuple (map as_term ps)

abbrev pub stmt_piece : Stmt-F Part Part Piece Piece Piece → Piece
stmt_piece (layer.Let x a) = piece (k.Keyword w.KwLet ∷ x.tokens ++ k.Equals ∷ a.tokens) (suc (max x.levels a.levels))
stmt_piece (layer.Send a b) = piece (k.Keyword w.KwSend ∷ a.tokens ++ k.Keyword w.KwTo ∷ b.tokens) (suc (max a.levels b.levels))
stmt_piece (layer.Create name a) = piece (k.Keyword w.KwCreate ∷ k.Name name ∷ k.Keyword w.KwWith ∷ a.tokens) (suc a.levels)
stmt_piece (layer.Become a) = piece (k.Keyword w.KwBecome ∷ a.tokens) (suc a.levels)
stmt_piece (layer.Throw a) = piece (k.Keyword w.KwThrow ∷ a.tokens) (suc a.levels)
stmt_piece (layer.Do a) = piece a.tokens (suc a.levels)

abbrev pub arm_piece : Arm-F Part Part Piece Piece Piece → Piece
arm_piece arm = piece (arm.pattern.tokens ++ k.Colon ∷ arm.value.tokens) (suc (max arm.pattern.levels arm.value.levels))

abbrev pub branch_piece : Branch-F Part Part Piece Piece Piece → Piece
branch_piece branch = piece (branch.condition.tokens ++ block branch.block) (max branch.condition.levels (levels_in branch.block))

-- ---- whole trees

abbrev pub part_of_expr : Expr → Part
part_of_expr = fold-Expr Part Part Piece Piece Piece expr_part pat_part stmt_piece arm_piece branch_piece

abbrev pub part_of_pat : Pat → Part
part_of_pat = fold-Pat Part Part Piece Piece Piece expr_part pat_part stmt_piece arm_piece branch_piece

abbrev pub piece_of_stmt : Stmt → Piece
piece_of_stmt = fold-Stmt Part Part Piece Piece Piece expr_part pat_part stmt_piece arm_piece branch_piece

abbrev pub piece_of_arm : Arm → Piece
piece_of_arm = fold-Arm Part Part Piece Piece Piece expr_part pat_part stmt_piece arm_piece branch_piece

abbrev pub piece_of_branch : Branch → Piece
piece_of_branch = fold-Branch Part Part Piece Piece Piece expr_part pat_part stmt_piece arm_piece branch_piece

-- the tokens of the statements of a tree
abbrev pub printed : List Stmt → Kinds
printed xs = in_line (map piece_of_stmt xs)

-- how many levels must be left below the statements
abbrev pub levels : List Stmt → ℕ
levels xs = levels_in (map piece_of_stmt xs)
