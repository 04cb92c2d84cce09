-- From the outcomes of a program to what the parser says.
use Rattle.std.proofs.Common.{◌≡◌, ◌≤◌, ◌+◌, ◌-◌, ℕ, zero, suc, true, List, [], ◌∷◌, ◌++◌, length, Ok, Err, IsTrue, refl, sym, ap, ◌∙◌, subst, arith, append-nil, length-append}
use Rattle.std.proofs.Math.Bool.{Bool-set}
use Rattle.hum_syntax.specs.Formed.{are_formed}
use Rattle.hum_syntax.specs.declared.Stmt.{Stmt}
use Rattle.hum_syntax.specs.declared.Tree.{Tree}
use Rattle.hum_syntax.specs.Spells.{Kinds, kinds, IsStmts, Spells, deepest}
use Rattle.hum_syntax.proofs.MoreLevels.{more_levels}
use Rattle.hum_parse.specs.Input.{Outcome, and_then}
use Rattle.hum_syntax.specs.declared.Token.{Token}
use Rattle.hum_parse.specs.Begins.{RefusedAt}
use Rattle.hum_parse.specs.Laws.{OneTree, OneAtEachLevel}
use Rattle.hum_parse.specs.Rules.{program, program_from, stmt, inner_at}
use Rattle.hum_parse.proofs.Exact.{Language, SameHead, Answers}
use Rattle.hum_parse.proofs.Levels.{Behind}
use Rattle.hum_parse.proofs.Place.{refused_at}
use Rattle.hum_parse.proofs.ExactProgram.{all_on, exact_program}

abbrev pub FormedList : List Stmt → Type 0
FormedList xs = IsTrue (are_formed xs)

abbrev pub tree_of : (xs : List Stmt) → FormedList xs → Tree
tree_of xs formed = record { statements = xs; formed = formed }

-- two trees with the same statements are one
pub same_tree : (a b : Tree) → a.statements ≡ b.statements → a ≡ b
same_tree a b e =
    let one : (formed : FormedList b.statements) → a ≡ tree_of b.statements formed =
    subst (λ xs. (formed : FormedList xs) → a ≡ tree_of xs formed) e
    (λ formed. ap (tree_of a.statements) (Bool-set (are_formed a.statements) true a.formed formed)) in
    one b.formed

same_head : (ts : Kinds) → SameHead ts ts
same_head [] = tt
same_head (t ∷ ts) = refl

abbrev WholeAt : ℕ → Language (List Stmt)
WholeAt n = Behind [] (IsStmts n)

abbrev Whole : Language (List Stmt)
Whole = WholeAt deepest

whole : (n : ℕ) (ts : Kinds) (xs : List Stmt) → IsStmts n ts xs → WholeAt n ts xs
whole n ts xs h = record { more = xs; is = refl; spelled = h }

thin : (ts : Kinds) (at : ℕ) → RefusedAt Whole ts at → RefusedAt (IsStmts deepest) ts at
thin ts at r = record {
  within = r.within;
  begins = (r.begins.0, r.begins.1, subst (IsStmts deepest (_ ++ kinds r.begins.0)) r.begins.2.is r.begins.2.spelled);
  no_longer = λ k a b x. r.no_longer k a b (x.0, x.1, whole deepest (_ ++ kinds x.0) x.1 x.2);
  no_tree = λ xs h. r.no_tree xs (whole deepest ts xs h);
}

stopped : (ts rest : Kinds) (o : Outcome (List Stmt)) → Answers Whole all_on ts o → o ≡ Err rest → RefusedAt (IsStmts deepest) ts
    (length ts - length rest)
stopped ts rest (Ok p) w e = cc
stopped ts rest (Err r) w e =
    let same : r ≡ rest = cc in
    let size : length ts ≡ length (w.front ++ r) = ap length w.split in
    let rests : length r ≡ length rest = ap length same in
    let at : length w.front ≡ length ts - length rest = omega (arith, length-append w.front r) in
    subst (RefusedAt (IsStmts deepest) ts) at (thin ts (length w.front) (refused_at Whole all_on ts r w))

pub refused_whole : (ts rest : Kinds) → program deepest ts ≡ Err rest → RefusedAt (IsStmts deepest) ts (length ts - length rest)
refused_whole ts rest e = stopped ts rest (program deepest ts) (exact_program 198 ts) e

only_at : (n : ℕ) (ts : Kinds) (xs : List Stmt) (o : Outcome (List Stmt)) → Answers (WholeAt n) all_on ts o → IsStmts n ts xs
    → (rest : Kinds) × (o ≡ Ok (xs, rest))
only_at n ts xs (Ok p) w h =
    let all : w.front ++ p.1 ≡ ts ++ [] = sym w.split ∙ sym (append-nil ts) in
    let one : (ts ≡ w.front) × (p.0 ≡ xs) = w.unique p.1 ts [] xs (same_head p.1) all (whole n ts xs h) tt in
    (p.1, ap (λ z. Ok (z, p.1)) one.1)
only_at n ts xs (Err rest) w h = absurd (w.dead rest ts [] xs (same_head rest) (sym w.split ∙ sym (append-nil ts)) (whole n ts xs h) tt)

only_level : (n : ℕ) (ts : Kinds) (xs : List Stmt) → IsStmts (suc n) ts xs → (rest : Kinds) × (program (suc n) ts ≡ Ok (xs, rest))
only_level n ts xs h = only_at (suc n) ts xs (program (suc n) ts) (exact_program n ts) h

pub only_whole : (ts : Kinds) (xs : List Stmt) → IsStmts deepest ts xs → (rest : Kinds) × (program deepest ts ≡ Ok (xs, rest))
only_whole ts xs h = only_level 198 ts xs h

abbrev okay : List Stmt × Kinds → Outcome (List Stmt)
okay p = Ok p

pair_of : (p q : List Stmt × Kinds) → okay p ≡ okay q → p ≡ q
pair_of p q e = cc

pub left_of : (xs ys : List Stmt) (r s : Kinds) (o : Outcome (List Stmt)) → o ≡ Ok (xs, r) → o ≡ Ok (ys, s) → (xs ≡ ys) × (r ≡ s)
left_of xs ys r s o d e =
    let both = sym d ∙ e in
    let pairs = pair_of (xs, r) (ys, s) both in
    (ap (λ z. z.0) pairs, ap (λ z. z.1) pairs)

ends_at : (n turns : ℕ) (found : List Stmt) (ts : Kinds) (xs : List Stmt) (rest : Kinds) → program_from n turns found ts ≡ Ok (xs, rest) → rest ≡ []
unfolding program_from
ends_at n turns found [] xs rest e = (left_of xs found rest [] (Ok (found, [])) e refl).1
ends_at n zero found (t ∷ ts) xs rest e = cc
ends_at n (suc turns) found (t ∷ ts) xs rest e = go (stmt n (inner_at n) (t ∷ ts)) e (λ x us d. ends_at n turns (found ++ x ∷ []) us xs rest d)
  where
    go : (o : Outcome Stmt) → and_then o (λ x. program_from n turns (found ++ x ∷ [])) ≡ Ok (xs, rest)
        → ((x : Stmt) (us : Kinds) → program_from n turns (found ++ x ∷ []) us ≡ Ok (xs, rest) → rest ≡ []) → rest ≡ []
    go (Ok p) d f = f p.0 p.1 d
    go (Err r) d f = cc

found_at : (ts : Kinds) (xs : List Stmt) (rest : Kinds) (o : Outcome (List Stmt)) → Answers Whole all_on ts o → o ≡ Ok (xs, rest)
    → rest ≡ [] → IsStmts deepest ts xs
found_at ts xs rest (Ok p) w e none =
    let parts = left_of p.0 xs p.1 rest (Ok p) refl e in
    let one : p.0 ≡ xs = parts.0 in
    let left : p.1 ≡ [] = parts.1 ∙ none in
    let all : ts ≡ w.front = w.split ∙ ap (λ z. w.front ++ z) left ∙ append-nil w.front in
    subst (λ z. IsStmts deepest z xs) (sym all) (subst (IsStmts deepest w.front) (w.spelled.is ∙ one) w.spelled.spelled)
found_at ts xs rest (Err r) w e none = cc

pub found_whole : (ts : Kinds) (xs : List Stmt) (rest : Kinds) → program deepest ts ≡ Ok (xs, rest) → IsStmts deepest ts xs
unfolding program
found_whole ts xs rest e = found_at ts xs rest (program deepest ts) (exact_program 198 ts) e (ends_at deepest (length ts) [] ts xs rest e)

shorter_at : (ts rest : Kinds) (o : Outcome (List Stmt)) → Answers Whole all_on ts o → o ≡ Err rest → length rest ≤ length ts
shorter_at ts rest (Ok p) w e = cc
shorter_at ts rest (Err r) w e =
    let same : r ≡ rest = cc in
    let size : length ts ≡ length (w.front ++ r) = ap length w.split in
    let rests : length r ≡ length rest = ap length same in
    omega (arith, length-append w.front r)

pub shorter_whole : (ts rest : Kinds) → program deepest ts ≡ Err rest → length rest ≤ length ts
shorter_whole ts rest e = shorter_at ts rest (program deepest ts) (exact_program 198 ts) e

pub only_tree : (ts : Kinds) (tree : Tree) (rest : Kinds) → program deepest ts ≡ Ok (tree.statements, rest) → (other : Tree)
    → Spells ts other → tree ≡ other
only_tree ts tree rest e other h =
    let r = only_whole ts other.statements h in
    same_tree tree other (left_of tree.statements other.statements rest r.0 (program deepest ts) e r.1).0

abbrev failed : Kinds → Outcome (List Stmt)
failed rest = Err rest

apart : (p : List Stmt × Kinds) (rest : Kinds) → okay p ≡ failed rest → ⊥
apart p rest e = cc

pub no_tree : (ts rest : Kinds) → program deepest ts ≡ Err rest → (tree : Tree) → Spells ts tree → ⊥
no_tree ts rest e tree h = let r = only_whole ts tree.statements h in apart (tree.statements, r.0) rest (sym r.1 ∙ e)

pub kinds_length : (ts : List Token) → length (kinds ts) ≡ length ts
kinds_length [] = refl
kinds_length (t ∷ ts) = ap suc (kinds_length ts)

pub ruleset whole_rules = (shorter_whole, refused_whole, only_whole, found_whole)

-- Tokens spell one program at most, whatever levels are left.
one_program : (n : ℕ) (ts : Kinds) (xs ys : List Stmt) → IsStmts (suc n) ts xs → IsStmts (suc n) ts ys → xs ≡ ys
one_program n ts xs ys a b =
    let r = only_level n ts xs a in
    let s = only_level n ts ys b in
    (left_of xs ys r.0 s.0 (program (suc n) ts) r.1 s.1).0

pub one_at_each_level : OneAtEachLevel
one_at_each_level m n ts xs ys a b =
    one_program (m + n) ts xs ys (more_levels m (suc (m + n)) ts xs (omega arith) a) (more_levels n (suc (m + n)) ts ys (omega arith) b)

pub one_tree : OneTree
one_tree ts a b h h' = same_tree a b (one_at_each_level deepest deepest ts a.statements b.statements h h')
