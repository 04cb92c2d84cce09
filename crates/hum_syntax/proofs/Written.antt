-- Texts that grow by the tokens of lists.
use Rattle.std.proofs.Common.{◌≡◌, ℕ, suc, ◌+◌, ◌<◌, ◌≤◌, List, [], ◌∷◌, ◌++◌, map, length, drop, get_or, refl, sym, ap, ◌∙◌, arith, drop-cons}
use Rattle.std.proofs.lemmas.List.Sums.{fold-append}
use Rattle.std.proofs.lemmas.List.{drop_all}
use Rattle.hum_syntax.specs.declared.token.TokenKind.{TokenKind}
use Rattle.hum_syntax.specs.declared.token.TokenKind.TheVariants as k
use Rattle.hum_syntax.specs.declared.keyword.Keyword.TheVariants as w
use Rattle.hum_syntax.specs.declared.tree.Expr.{Expr}
use Rattle.hum_syntax.specs.declared.tree.Pat.{Pat}
use Rattle.hum_syntax.specs.declared.tree.Branch.{Branch}
use Rattle.hum_syntax.specs.Forms.{Bytes}
use Rattle.hum_syntax.specs.Writes.{with_token, written}
use Rattle.hum_syntax.specs.Spells.{Kinds}
use Rattle.hum_syntax.specs.Prints.{part_of_expr, part_of_pat, piece_of_branch, as_term, as_last, items_in, branches, tuple}

pub written-append : (t : Bytes) (us vs : Kinds) → written t (us ++ vs) ≡ written (written t us) vs
written-append t us vs = fold-append with_token t us vs

-- a list with marks between its items: the loop that writes one item after another
module _ {X : Type 0} (mark : TokenKind) (last inner : X → Kinds) (tokens : List X → Kinds) (none : tokens [] ≡ [])
    (one : (x : X) → tokens (x ∷ []) ≡ last x)
    (more : (x y : X) (ys : List X) → tokens (x ∷ y ∷ ys) ≡ inner x ++ mark ∷ tokens (y ∷ ys)) where
  item_first : (xs : List X) (i : ℕ) (x : X) → x ≡ get_or xs i x → i < length xs → drop i xs ≡ x ∷ drop (suc i) xs
  item_first xs i x is within = drop-cons xs i x within ∙ ap (λ y. y ∷ drop (suc i) xs) (sym is)

  pub item_last : (xs : List X) (i : ℕ) (x : X) (t : Bytes) → x ≡ get_or xs i x → i < length xs → length xs ≤ i + 1
      → written t (tokens (drop i xs)) ≡ written (written t (last x)) (tokens (drop (i + 1) xs))
  item_last xs i x t is within ends =
      let past : drop (suc i) xs ≡ [] = drop_all (suc i) xs (omega arith) in
      let next : suc i ≡ i + 1 = omega arith in
      ap (λ ys. written t (tokens ys)) (item_first xs i x is within ∙ ap (λ ys. x ∷ ys) past)
      ∙ ap (written t) (one x)
      ∙ ap (written (written t (last x))) (sym (ap tokens (ap (λ j. drop j xs) (sym next) ∙ past) ∙ none))

  pub item_more : (xs : List X) (i : ℕ) (x : X) (t : Bytes) → x ≡ get_or xs i x → i + 1 < length xs
      → written t (tokens (drop i xs)) ≡ written (with_token (written t (inner x)) mark) (tokens (drop (i + 1) xs))
  item_more xs i x t is within =
      let y = get_or xs (suc i) x in
      let second : drop (suc i) xs ≡ y ∷ drop (suc (suc i)) xs = drop-cons xs (suc i) x (omega arith) in
      let next : suc i ≡ i + 1 = omega arith in
      ap (λ ys. written t (tokens ys)) (item_first xs i x is (omega arith) ∙ ap (λ ys. x ∷ ys) second)
      ∙ ap (written t) (more x y (drop (suc (suc i)) xs))
      ∙ written-append t (inner x) (mark ∷ tokens (y ∷ drop (suc (suc i)) xs))
      ∙ ap (λ ys. written (with_token (written t (inner x)) mark) (tokens ys)) (sym second ∙ ap (λ j. drop j xs) next)

abbrev pub item_tokens : List Expr → Kinds
item_tokens xs = (tuple (items_in (map part_of_expr xs))).tokens

pub items_more : (x y : Expr) (ys : List Expr) → item_tokens (x ∷ y ∷ ys) ≡ (as_term (part_of_expr x)).tokens ++ k.Comma ∷ item_tokens (y ∷ ys)
items_more x y [] = refl
items_more x y (z ∷ zs) = refl

abbrev pub inner_item : Expr → Kinds
inner_item x = (as_term (part_of_expr x)).tokens

abbrev pub last_item : Expr → Kinds
last_item x = (as_last (part_of_expr x)).tokens

pub expr_last : (xs : List Expr) (i : ℕ) (x : Expr) (t : Bytes) → x ≡ get_or xs i x → i < length xs → length xs ≤ i + 1
    → written t (item_tokens (drop i xs)) ≡ written (written t (last_item x)) (item_tokens (drop (i + 1) xs))
expr_last = item_last k.Comma last_item inner_item item_tokens refl (λ x. refl) items_more

pub expr_more : (xs : List Expr) (i : ℕ) (x : Expr) (t : Bytes) → x ≡ get_or xs i x → i + 1 < length xs
    → written t (item_tokens (drop i xs)) ≡ written (with_token (written t (inner_item x)) k.Comma) (item_tokens (drop (i + 1) xs))
expr_more = item_more k.Comma last_item inner_item item_tokens refl (λ x. refl) items_more

abbrev pub pat_tokens : List Pat → Kinds
pat_tokens xs = (tuple (map as_term (map part_of_pat xs))).tokens

abbrev pub pat_item : Pat → Kinds
pat_item x = (as_term (part_of_pat x)).tokens

pub pat_last : (xs : List Pat) (i : ℕ) (x : Pat) (t : Bytes) → x ≡ get_or xs i x → i < length xs → length xs ≤ i + 1
    → written t (pat_tokens (drop i xs)) ≡ written (written t (pat_item x)) (pat_tokens (drop (i + 1) xs))
pat_last = item_last k.Comma pat_item pat_item pat_tokens refl (λ x. refl) (λ x y ys. refl)

pub pat_more : (xs : List Pat) (i : ℕ) (x : Pat) (t : Bytes) → x ≡ get_or xs i x → i + 1 < length xs
    → written t (pat_tokens (drop i xs)) ≡ written (with_token (written t (pat_item x)) k.Comma) (pat_tokens (drop (i + 1) xs))
pat_more = item_more k.Comma pat_item pat_item pat_tokens refl (λ x. refl) (λ x y ys. refl)

abbrev pub branch_tokens : List Branch → Kinds
branch_tokens xs = branches (map piece_of_branch xs)

abbrev pub branch_item : Branch → Kinds
branch_item x = (piece_of_branch x).tokens

pub branch_last : (xs : List Branch) (i : ℕ) (x : Branch) (t : Bytes) → x ≡ get_or xs i x → i < length xs → length xs ≤ i + 1
    → written t (branch_tokens (drop i xs)) ≡ written (written t (branch_item x)) (branch_tokens (drop (i + 1) xs))
branch_last = item_last (k.Keyword w.KwElif) branch_item branch_item branch_tokens refl (λ x. refl) (λ x y ys. refl)

pub branch_more : (xs : List Branch) (i : ℕ) (x : Branch) (t : Bytes) → x ≡ get_or xs i x → i + 1 < length xs
    → written t (branch_tokens (drop i xs)) ≡ written (with_token (written t (branch_item x)) (k.Keyword w.KwElif)) (branch_tokens (drop (i + 1) xs))
branch_more = item_more (k.Keyword w.KwElif) branch_item branch_item branch_tokens refl (λ x. refl) (λ x y ys. refl)
