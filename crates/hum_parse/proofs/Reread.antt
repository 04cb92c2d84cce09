-- The tokens of a printed tree are those of its text, and spell it.
use Rattle.std.proofs.Common.{◌≡◌, ◌≤◌, ◌<◌, List, [], ◌∷◌, length, sym, ap, ◌∙◌, subst, arith}
use Rattle.hum_syntax.specs.declared.Token.{Token}
use Rattle.hum_syntax.specs.declared.Tree.{Tree}
use Rattle.hum_syntax.specs.declared.Stmt.{Stmt}
use Rattle.hum_syntax.specs.Forms.{Bytes}
use Rattle.hum_syntax.specs.Laws.{IsTextOf}
use Rattle.hum_syntax.specs.Lexes.{Lexes, IsTokens}
use Rattle.hum_syntax.specs.Prints.{printed, levels}
use Rattle.hum_syntax.specs.Spells.{Spells, IsStmts, deepest, kinds}
use Rattle.hum_syntax.specs.Tokens.{all_placed, kinds_of, weight, weight_of, weight_of_kinds, weight_limit}
use Rattle.hum_lex.proofs.Wholes.{one_list}
use Rattle.hum_parse.proofs.Answered.{same_tree, one_at_each_level}
use Rattle.hum_syntax.proofs.ShortTexts.{some_weight}
use Rattle.hum_syntax.proofs.SizedTrees.{weight-kinds, kinds_of-placed}

pub text_tokens : (bytes slice : Bytes) (xs : List Stmt) (t : IsTextOf bytes xs) → slice ≡ bytes → weight_of_kinds (printed xs) ≤ weight_limit
    → IsTokens slice t.tokens
text_tokens bytes slice xs t same light =
    let short = subst (λ n. n ≤ weight_limit) (sym (weight-kinds t.tokens ∙ ap weight_of_kinds t.kinds)) light in
    subst (λ bs. IsTokens bs t.tokens) (sym same) (record { lexes = t.lexes; light = short })

pub text_kinds : (bytes : Bytes) (xs : List Stmt) (t : IsTextOf bytes xs) (ts : List Token) → all_placed ts ≡ t.tokens → kinds ts ≡ printed xs
text_kinds bytes xs t ts same = sym (kinds_of-placed ts) ∙ ap kinds_of same ∙ t.kinds

pub text_spells : (bytes : Bytes) (tree : Tree) (t : IsTextOf bytes tree.statements) → levels tree.statements ≤ deepest
    → (ts : List Token) → all_placed ts ≡ t.tokens → Spells (kinds ts) tree
text_spells bytes tree t shallow ts same =
    subst (λ ks. IsStmts deepest ks tree.statements) (sym (text_kinds bytes tree.statements t ts same)) (t.spell deepest shallow)

-- so the tree that they spell is the one that was printed
pub reread : (bytes : Bytes) (tree again : Tree) (t : IsTextOf bytes tree.statements) (ts : List Token) → Lexes bytes (all_placed ts)
    → Spells (kinds ts) again → again ≡ tree
reread bytes tree again t ts lexes spells =
    let xs = tree.statements in
    let same : all_placed ts ≡ t.tokens = one_list bytes (all_placed ts) t.tokens lexes t.lexes in
    let is : kinds ts ≡ printed xs = text_kinds bytes xs t ts same in
    let told : IsStmts (levels xs) (kinds ts) xs = subst (λ ks. IsStmts (levels xs) ks xs) (sym is) (t.spell (levels xs) (omega arith)) in
    same_tree again tree (one_at_each_level deepest (levels xs) (kinds ts) again.statements xs spells told)

pub few_tokens : (ts : List Token) → length ts ≤ weight (all_placed ts)
few_tokens [] = omega arith
few_tokens (t ∷ ts) =
    let one : 0 < weight_of t.kind = some_weight t.kind in
    let more : length ts ≤ weight (all_placed ts) = few_tokens ts in
    omega arith
