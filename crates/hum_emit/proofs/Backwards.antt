-- Code of a list's parts, which is made from the last part to the first one.
use Rattle.std.proofs.Common.{◌≡◌, ℕ, pos, List, [], ◌∷◌, ◌++◌, refl, ap}
use Rattle.hum_core.specs.declared.tested.TestStmt.{TestStmt}
use Rattle.hum_code.specs.Layout.{Shape}
use Rattle.hum_emit.specs.Emitted.{Emitted, ◌▷◌, dup, drop, part, roll, jump}
use Rattle.hum_emit.specs.Runtime.{fail_place}
use Rattle.hum_emit.specs.Templates.{OfExpr, OfTest, OfArm, OfBranch, items, tests, after_all, later_arms, restore, branches, block, statement, shape_after, statements}
use Rattle.hum_emit.specs.Emitting.{front_items, middle_arms, other_branches, through, front_statements}

-- ---- items

pub front_items_last : (es : List OfExpr) (e : OfExpr) (shape : Shape) (k : ℕ) (s : Emitted)
    → front_items (es ++ e ∷ []) shape k s ≡ (let r = (dup 1 ▷ e shape ▷ roll (pos 2)) k s in front_items es shape r.1 r.0)
front_items_last [] e shape k s = refl
front_items_last (f ∷ es) e shape k s = ap (λ (r : Emitted × ℕ). (dup 1 ▷ f shape ▷ roll (pos 2)) r.1 r.0) (front_items_last es e shape k s)

pub items_last : (es : List OfExpr) (e : OfExpr) (shape : Shape) (k : ℕ) (s : Emitted)
    → items (es ++ e ∷ []) shape k s ≡ (let r = e shape k s in front_items es shape r.1 r.0)
items_last [] e shape k s = refl
items_last (f ∷ []) e shape k s = refl
items_last (f ∷ g ∷ es) e shape k s = ap (λ (r : Emitted × ℕ). (dup 1 ▷ f shape ▷ roll (pos 2)) r.1 r.0) (items_last (g ∷ es) e shape k s)

-- ---- tests

pub after_all_last : (ts : List OfTest) (t : OfTest) (n : ℕ) → after_all (ts ++ t ∷ []) n ≡ t.after (after_all ts n)
after_all_last [] t n = refl
after_all_last (u ∷ ts) t n = after_all_last ts t (u.after n)

pub tests_last : (ts : List OfTest) (t : OfTest) (shape : Shape) (miss n k : ℕ) (s : Emitted)
    → tests (ts ++ t ∷ []) shape miss n k s ≡ (let r = t.code shape miss (after_all ts n) k s in tests ts shape miss n r.1 r.0)
tests_last [] t shape miss n k s = refl
tests_last (u ∷ ts) t shape miss n k s = ap (λ (r : Emitted × ℕ). u.code shape miss n r.1 r.0) (tests_last ts t shape miss (u.after n) k s)

-- ---- arms and branches

pub middle_arms_last : (as' : List OfArm) (a : OfArm) (shape : Shape) (k : ℕ) (next : Emitted × ℕ)
    → middle_arms (as' ++ a ∷ []) shape k next ≡ middle_arms as' shape k ((drop 2 ▷ restore ▷ a shape next.1) k next.0)
middle_arms_last [] a shape k next = refl
middle_arms_last (b ∷ as') a shape k next =
    ap (λ (r : Emitted × ℕ). (drop 2 ▷ restore ▷ b shape r.1) k r.0) (middle_arms_last as' a shape k next)

pub later_arms_last : (as' : List OfArm) (a : OfArm) (shape : Shape) (k : ℕ) (s : Emitted)
    → later_arms (as' ++ a ∷ []) shape k s ≡ middle_arms as' shape k ((drop 2 ▷ part 2 ▷ a shape (fail_place 1)) k s)
later_arms_last [] a shape k s = refl
later_arms_last (b ∷ []) a shape k s = refl
later_arms_last (b ∷ c ∷ as') a shape k s =
    ap (λ (r : Emitted × ℕ). (drop 2 ▷ restore ▷ b shape r.1) k r.0) (later_arms_last (c ∷ as') a shape k s)

pub other_branches_last : (bs : List OfBranch) (b : OfBranch) (shape : Shape) (k : ℕ) (next : Emitted × ℕ)
    → other_branches (bs ++ b ∷ []) shape k next ≡ other_branches bs shape k (b shape next.1 k next.0)
other_branches_last [] b shape k next = refl
other_branches_last (c ∷ bs) b shape k next = ap (λ (r : Emitted × ℕ). c shape r.1 k r.0) (other_branches_last bs b shape k next)

pub all_branches : (bs : List OfBranch) (other : ℕ) (shape : Shape) (k : ℕ) (s : Emitted)
    → branches bs other shape k s ≡ other_branches bs shape k (block other k s)
all_branches [] other shape k s = refl
all_branches (c ∷ bs) other shape k s = ap (λ (r : Emitted × ℕ). c shape r.1 k r.0) (all_branches bs other shape k s)

-- ---- statements

pub through_last : (ss : List TestStmt) (s : TestStmt) (shape : Shape) → through (ss ++ s ∷ []) shape ≡ shape_after s (through ss shape)
through_last [] s shape = refl
through_last (t ∷ ss) s shape = through_last ss s (shape_after t shape)

pub front_statements_last : (ss : List TestStmt) (s : TestStmt) (shape : Shape) (k : ℕ) (e : Emitted)
    → front_statements (ss ++ s ∷ []) shape k e ≡ (let r = statement s (through ss shape) k e in front_statements ss shape r.1 r.0)
front_statements_last [] s shape k e = refl
front_statements_last (t ∷ ss) s shape k e =
    ap (λ (r : Emitted × ℕ). statement t shape r.1 r.0) (front_statements_last ss s (shape_after t shape) k e)

pub all_statements : (ss : List TestStmt) (shape : Shape) (k : ℕ) (e : Emitted)
    → statements ss shape k e ≡ (let r = (drop 1 ▷ jump) k e in front_statements ss shape r.1 r.0)
all_statements [] shape k e = refl
all_statements (t ∷ ss) shape k e = ap (λ (r : Emitted × ℕ). statement t shape r.1 r.0) (all_statements ss (shape_after t shape) k e)
