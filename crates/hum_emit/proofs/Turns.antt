-- One turn of each loop that makes code of a list's parts, from the last part to the first one.
use Rattle.std.proofs.Common.{◌≡◌, refl, sym, ap, ◌∙◌, ℕ, zero, suc, ◌+◌, ◌-◌, ◌<◌, ◌≤◌, pos, List, [], ◌∷◌, ◌++◌, map, length, take, drop, get_or, arith}
use Rattle.std.proofs.lemmas.List.{map-append, length-map, take_more, take_all, length-take-le, drop-append-le, drop_all}
use Rattle.hum_core.specs.declared.tested.TestExpr.{TestExpr}
use Rattle.hum_core.specs.declared.tested.TestStmt.{TestStmt}
use Rattle.hum_core.specs.declared.tested.TestUnit.{TestUnit}
use Rattle.hum_core.specs.declared.tested.TestUnit.TheVariants as unit
use Rattle.hum_core.specs.declared.tested.Test.{Test}
use Rattle.hum_core.specs.declared.tested.TestArm.{TestArm, out-TestArm, fold_out-TestArm}
use Rattle.hum_core.specs.declared.tested.TestBranch.{TestBranch}
use Rattle.hum_code.specs.Layout.{Shape, with_singles}
use Rattle.hum_emit.specs.Emitted.{Emitted, Piece, ◌▷◌, dup, drop as drops, pair, part, roll, jump}
use Rattle.hum_emit.specs.Runtime.{fail_place}
use Rattle.hum_emit.specs.Templates.{OfArm, pairs, items, tuple, tests, after_all, restore, later_arms, arms, branches, block, expr_code, test_code, statement, statements, shape_after, matching, function_code, unit_code}
use Rattle.hum_emit.specs.Emitting.{front_items, middle_arms, other_branches, through, front_statements, arm_code, branch_code}
use Rattle.hum_emit.proofs.Backwards.{front_items_last, items_last, after_all_last, tests_last, middle_arms_last, later_arms_last, other_branches_last, all_branches, through_last, front_statements_last, all_statements}

-- the second piece was made first, and then the first one
pub after_it : (q r : Piece) {k : ℕ} {s : Emitted} {p o : Emitted × ℕ} → o ≡ q p.1 p.0 → p ≡ r k s → o ≡ (q ▷ r) k s
after_it q r {k} {s} {p} {o} g h = g ∙ ap (λ (z : Emitted × ℕ). q z.1 z.0) h

module _ (shape : Shape) (k : ℕ) (s : Emitted) where
  -- an item, from what was emitted before
  pub item_turn : (rest more : List TestExpr) (e : TestExpr) (p : Emitted × ℕ) → rest ≡ more ++ e ∷ []
      → p ≡ (dup 1 ▷ expr_code e shape ▷ roll (pos 2)) k s
      → front_items (map expr_code more) shape p.1 p.0 ≡ front_items (map expr_code rest) shape k s
  item_turn rest more e p is made =
      ap (λ (z : Emitted × ℕ). front_items (map expr_code more) shape z.1 z.0) made
      ∙ sym (ap (λ es. front_items (map expr_code es) shape k s) is
      ∙ (ap (λ es. front_items es shape k s) (map-append expr_code more (e ∷ [])) ∙ front_items_last (map expr_code more) (expr_code e) shape k s))

  -- a test
  pub test_turn : (rest more : List Test) (t : Test) (miss n : ℕ) (p : Emitted × ℕ) → rest ≡ more ++ t ∷ []
      → n ≡ after_all (map test_code more) 0 → p ≡ (test_code t).code shape miss n k s
      → tests (map test_code more) shape miss 0 p.1 p.0 ≡ tests (map test_code rest) shape miss 0 k s
  test_turn rest more t miss n p is bound made =
      ap (λ (z : Emitted × ℕ). tests (map test_code more) shape miss 0 z.1 z.0) (made ∙ ap (λ m. (test_code t).code shape miss m k s) bound)
      ∙ sym (ap (λ ts. tests (map test_code ts) shape miss 0 k s) is
      ∙ (ap (λ ts. tests ts shape miss 0 k s) (map-append test_code more (t ∷ [])) ∙ tests_last (map test_code more) (test_code t) shape miss 0 k s))

  -- a statement
  pub statement_turn : (rest more : List TestStmt) (x : TestStmt) (p : Emitted × ℕ) → rest ≡ more ++ x ∷ []
      → p ≡ statement x (through more shape) k s → front_statements more shape p.1 p.0 ≡ front_statements rest shape k s
  statement_turn rest more x p is made =
      ap (λ (z : Emitted × ℕ). front_statements more shape z.1 z.0) made
      ∙ sym (ap (λ xs. front_statements xs shape k s) is ∙ front_statements_last more x shape k s)

-- how many bindings there are before the last test
pub bound_before : (rest more : List Test) (t : Test) (n : ℕ) → rest ≡ more ++ t ∷ [] → n ≡ after_all (map test_code rest) 0
    → (test_code t).after (after_all (map test_code more) 0) ≡ n
bound_before rest more t n is bound =
    sym (bound ∙ (ap (λ ts. after_all (map test_code ts) 0) is
    ∙ (ap (λ ts. after_all ts 0) (map-append test_code more (t ∷ [])) ∙ after_all_last (map test_code more) (test_code t) 0)))

module _ (shape : Shape) (k : ℕ) (next : Emitted × ℕ) where
  -- an arm
  pub arm_turn : (rest more : List TestArm) (a : TestArm) (p : Emitted × ℕ) → rest ≡ more ++ a ∷ []
      → p ≡ (drops 2 ▷ restore ▷ arm_code a shape next.1) k next.0
      → middle_arms (map arm_code more) shape k p ≡ middle_arms (map arm_code rest) shape k next
  arm_turn rest more a p is made =
      ap (λ (z : Emitted × ℕ). middle_arms (map arm_code more) shape k z) made
      ∙ sym (ap (λ xs. middle_arms (map arm_code xs) shape k next) is
      ∙ (ap (λ xs. middle_arms xs shape k next) (map-append arm_code more (a ∷ [])) ∙ middle_arms_last (map arm_code more) (arm_code a) shape k next))

  -- a branch
  pub branch_turn : (rest more : List TestBranch) (b : TestBranch) (p : Emitted × ℕ) → rest ≡ more ++ b ∷ []
      → p ≡ branch_code b shape next.1 k next.0
      → other_branches (map branch_code more) shape k p ≡ other_branches (map branch_code rest) shape k next
  branch_turn rest more b p is made =
      ap (λ (z : Emitted × ℕ). other_branches (map branch_code more) shape k z) made
      ∙ sym (ap (λ xs. other_branches (map branch_code xs) shape k next) is
      ∙ (ap (λ xs. other_branches xs shape k next) (map-append branch_code more (b ∷ [])) ∙ other_branches_last (map branch_code more) (branch_code b) shape k next))

-- ---- the front of a list

pub front_more : {A : Type 0} (xs : List A) (n i : ℕ) (x : A) → i < n → n ≤ length xs → x ≡ get_or xs (n - 1 - i) x
    → take (n - i) xs ≡ take (n - (i + 1)) xs ++ x ∷ []
front_more xs n i x h le is =
    ap (λ m. take m xs) (let same : n - i ≡ n - (i + 1) + 1 = omega (arith, h) in same)
    ∙ take_more xs (n - (i + 1)) x (omega (arith, h, le))
    ∙ ap (λ y. take (n - (i + 1)) xs ++ y ∷ []) (ap (λ m. get_or xs m x) (let same : n - (i + 1) ≡ n - 1 - i = omega (arith, h) in same) ∙ sym is)

pub all_but_last : {A : Type 0} (xs : List A) (x : A) → 1 ≤ length xs → x ≡ get_or xs (length xs - 1) x → xs ≡ take (length xs - 1) xs ++ x ∷ []
all_but_last xs x some is =
    sym (take_all (length xs - 0) xs (omega arith))
    ∙ front_more xs (length xs) 0 x (omega (arith, some)) (omega arith) (is ∙ ap (λ m. get_or xs m x) (let same : length xs - 1 ≡ length xs - 1 - 0 = omega arith in same))
    ∙ ap (λ m. take m xs ++ x ∷ []) (let same : length xs - (0 + 1) ≡ length xs - 1 = omega arith in same)

first_and_more : {A : Type 0} (xs : List A) (n : ℕ) (x : A) → 1 ≤ n → 1 ≤ length xs → x ≡ get_or xs 0 x → take n xs ≡ x ∷ drop 1 (take n xs)
first_and_more [] n x some h is = absurd (omega (arith, h))
first_and_more (y ∷ ys) zero x some h is = absurd (omega (arith, some))
first_and_more (y ∷ ys) (suc n) x some h is = ap (λ z. z ∷ take n ys) (sym is)

-- a list of two at least: the first one, those between, and the last one
pub first_and_last : {A : Type 0} (xs : List A) (x y : A) → 2 ≤ length xs → x ≡ get_or xs 0 x → y ≡ get_or xs (length xs - 1) y
    → xs ≡ x ∷ drop 1 (take (length xs - 1) xs) ++ y ∷ []
first_and_last xs x y two first last =
    all_but_last xs y (omega (arith, two)) last
    ∙ ap (λ zs. zs ++ y ∷ []) (first_and_more xs (length xs - 1) x (omega (arith, two)) (omega (arith, two)) first)

-- those between, one more
pub between_more : {A : Type 0} (xs : List A) (i : ℕ) (x : A) → i < length xs → 2 ≤ i → x ≡ get_or xs (length xs - i) x
    → drop 1 (take (suc (length xs) - i) xs) ≡ drop 1 (take (suc (length xs) - (i + 1)) xs) ++ x ∷ []
between_more xs i x h two is =
    let j = suc (length xs) - (i + 1) in
    let here : j ≡ length xs - i = omega arith in
    let long : length (take j xs) ≡ j = length-take-le j xs (omega (arith, here)) in
    ap (λ m. drop 1 (take m xs)) (let same : suc (length xs) - i ≡ j + 1 = omega (arith, h) in same)
    ∙ ap (drop 1) (take_more xs j x (omega (arith, here, h, two)) ∙ ap (λ y. take j xs ++ y ∷ []) (ap (λ m. get_or xs m x) here ∙ sym is))
    ∙ drop-append-le 1 (take j xs) (x ∷ []) (omega (arith, long, here, h))

pub between_none : {A : Type 0} (xs : List A) (i : ℕ) → length xs ≤ i → i ≤ length xs → 1 ≤ length xs → drop 1 (take (suc (length xs) - i) xs) ≡ []
between_none xs i h le some =
    let one : suc (length xs) - i ≡ 1 = omega (arith, h, le) in
    ap (λ m. drop 1 (take m xs)) one ∙ drop_all 1 (take 1 xs) (let long = length-take-le 1 xs some in omega (arith, long))

-- ---- the ends of loops

pub tuple_done : (es : List TestExpr) (e : TestExpr) (shape : Shape) (k : ℕ) (s : Emitted) (p q r : Emitted × ℕ) (i : ℕ)
    → 1 ≤ length es → e ≡ get_or es (length es - 1) e → length es ≤ i
    → p ≡ pairs (length es - 1) k s → q ≡ expr_code e shape p.1 p.0
    → front_items (map expr_code (take (length es - i) es)) shape r.1 r.0 ≡ front_items (map expr_code (take (length es - 1) es)) shape q.1 q.0
    → r ≡ tuple (map expr_code es) shape k s
tuple_done es e shape k s p q r i some last ends made_pairs made_last turns =
    let front = take (length es - 1) es in
    let none : length es - i ≡ 0 = omega (arith, ends) in
    let long = length-map es expr_code in
    sym (ap (λ m. front_items (map expr_code (take m es)) shape r.1 r.0) none)
    ∙ turns
    ∙ ap (λ (z : Emitted × ℕ). front_items (map expr_code front) shape z.1 z.0) made_last
    ∙ sym (items_last (map expr_code front) (expr_code e) shape p.1 p.0)
    ∙ ap (λ xs. items xs shape p.1 p.0) (sym (map-append expr_code front (e ∷ [])) ∙ ap (map expr_code) (sym (all_but_last es e some last)))
    ∙ ap (λ (z : Emitted × ℕ). items (map expr_code es) shape z.1 z.0)
    (made_pairs ∙ ap (λ m. pairs m k s) (let same : length es - 1 ≡ length (map expr_code es) - 1 = omega (arith, long) in same))

pub branches_done : (bs : List TestBranch) (other : ℕ) (shape : Shape) (k : ℕ) (s : Emitted) (p r : Emitted × ℕ) (i : ℕ) → length bs ≤ i
    → p ≡ block other k s
    → other_branches (map branch_code (take (length bs - i) bs)) shape k r ≡ other_branches (map branch_code bs) shape k p
    → r ≡ branches (map branch_code bs) other shape k s
branches_done bs other shape k s p r i ends made turns =
    let none : length bs - i ≡ 0 = omega (arith, ends) in
    sym (ap (λ m. other_branches (map branch_code (take m bs)) shape k r) none)
    ∙ turns
    ∙ ap (other_branches (map branch_code bs) shape k) made
    ∙ sym (all_branches (map branch_code bs) other shape k s)

first_of_more : (a : OfArm) (between : List OfArm) (b : OfArm) (shape : Shape) (k : ℕ) (s : Emitted)
    → arms (a ∷ between ++ b ∷ []) shape k s
    ≡ (let next = later_arms (between ++ b ∷ []) shape k s in (pair 2 ▷ restore ▷ a shape next.1) k next.0)
first_of_more a [] b shape k s = refl
first_of_more a (c ∷ between) b shape k s = refl

pub arms_done : (as' : List TestArm) (a b : TestArm) (shape : Shape) (k : ℕ) (s : Emitted) (l p r f q : Emitted × ℕ) (i : ℕ)
    → 2 ≤ length as' → a ≡ get_or as' 0 a → b ≡ get_or as' (length as' - 1) b → length as' ≤ i → i ≤ length as'
    → l ≡ arm_code b shape (fail_place 1) k s → p ≡ (drops 2 ▷ part 2) l.1 l.0
    → middle_arms (map arm_code (drop 1 (take (suc (length as') - i) as'))) shape k r ≡ middle_arms (map arm_code (drop 1 (take (length as' - 1) as'))) shape k p
    → f ≡ arm_code a shape r.1 k r.0 → q ≡ (pair 2 ▷ restore) f.1 f.0
    → q ≡ arms (map arm_code as') shape k s
arms_done as' a b shape k s l p r f q i two first last ends within made_last begun turns made_first begun_first =
    let between = drop 1 (take (length as' - 1) as') in
    let at_end : r ≡ later_arms (map arm_code between ++ arm_code b ∷ []) shape k s
    = sym (ap (λ xs. middle_arms (map arm_code xs) shape k r) (between_none as' i ends within (omega (arith, two))))
    ∙ turns
    ∙ ap (middle_arms (map arm_code between) shape k) (begun ∙ ap (λ (z : Emitted × ℕ). (drops 2 ▷ part 2) z.1 z.0) made_last)
    ∙ sym (later_arms_last (map arm_code between) (arm_code b) shape k s) in
    begun_first
    ∙ ap (λ (z : Emitted × ℕ). (pair 2 ▷ restore) z.1 z.0) made_first
    ∙ ap (λ (z : Emitted × ℕ). (pair 2 ▷ restore ▷ arm_code a shape z.1) k z.0) at_end
    ∙ sym (ap (λ xs. arms (map arm_code xs) shape k s) (first_and_last as' a b two first last)
    ∙ ap (λ xs. arms (arm_code a ∷ xs) shape k s) (map-append arm_code between (b ∷ []))
    ∙ first_of_more (arm_code a) (map arm_code between) (arm_code b) shape k s)

-- an arm: its value, what is before that, and its tests
pub arm_made : (a : TestArm) (ts : List Test) (shape inner : Shape) (miss k : ℕ) (s : Emitted) (v m t : Emitted × ℕ)
    → ts ≡ (out-TestArm a).pattern → inner ≡ with_singles (after_all (map test_code ts) 0) shape
    → v ≡ expr_code (out-TestArm a).value inner k s → m ≡ (drops 1 ▷ roll (pos 2) ▷ drops 1) v.1 v.0
    → t ≡ tests (map test_code ts) shape miss 0 m.1 m.0 → t ≡ arm_code a shape miss k s
arm_made a ts shape inner miss k s v m t is inside made_value made_before made_tests =
    made_tests
    ∙ ap (λ (z : Emitted × ℕ). tests (map test_code ts) shape miss 0 z.1 z.0)
    (made_before ∙ ap (λ (z : Emitted × ℕ). (drops 1 ▷ roll (pos 2) ▷ drops 1) z.1 z.0)
    (made_value ∙ ap (λ sh. expr_code (out-TestArm a).value sh k s) inside))
    ∙ ap (λ xs. (tests (map test_code xs) shape miss 0 ▷ drops 1 ▷ roll (pos 2) ▷ drops 1
    ▷ expr_code (out-TestArm a).value (with_singles (after_all (map test_code xs) 0) shape)) k s) is
    ∙ sym (ap (λ (z : OfArm). z shape miss k s) (fold_out-TestArm _ _ _ _ _ _ _ _ a))

-- ---- statements

pub through_turn : (ss : List TestStmt) (i : ℕ) (x : TestStmt) (shape a b : Shape) → i < length ss → x ≡ get_or ss i x → a ≡ through (take i ss) shape
    → b ≡ shape_after x a → b ≡ through (take (i + 1) ss) shape
through_turn ss i x shape a b h is before behind =
    behind ∙ ap (shape_after x) before
    ∙ sym (ap (λ xs. through xs shape) (take_more ss i x h ∙ ap (λ y. take i ss ++ y ∷ []) (sym is)) ∙ through_last (take i ss) x shape)

-- the entries behind the last of some statements
pub last_entries : (rest more : List TestStmt) (x : TestStmt) (shape a : Shape) → rest ≡ more ++ x ∷ [] → a ≡ through rest shape
    → a ≡ shape_after x (through more shape)
last_entries rest more x shape a is entries = entries ∙ (ap (λ xs. through xs shape) is ∙ through_last more x shape)

pub entries_before : (x : TestStmt) (a b c : Shape) (added len : ℕ) → a ≡ shape_after x b → ((sh : Shape) → drop added (shape_after x sh) ≡ sh)
    → ((sh : Shape) → length (shape_after x sh) ≡ added + length sh) → len ≡ length a → c ≡ drop (length a - (len - added)) a → c ≡ b
entries_before x a b c added len is back more whole cut =
    let long : length a ≡ added + length b = ap length is ∙ more b in
    cut ∙ ap (λ m. drop m a) (let same : length a - (len - added) ≡ added = omega (arith, long, whole) in same) ∙ ap (drop added) is ∙ back b

pub statements_done : (ss : List TestStmt) (shape : Shape) (k : ℕ) (s : Emitted) (j d r : Emitted × ℕ) (i : ℕ) → length ss ≤ i
    → j ≡ jump k s → d ≡ drops 1 j.1 j.0
    → front_statements (take (length ss - i) ss) shape r.1 r.0 ≡ front_statements ss shape d.1 d.0 → r ≡ statements ss shape k s
statements_done ss shape k s j d r i ends jumped dropped turns =
    let none : length ss - i ≡ 0 = omega (arith, ends) in
    sym (ap (λ m. front_statements (take m ss) shape r.1 r.0) none)
    ∙ turns
    ∙ ap (λ (z : Emitted × ℕ). front_statements ss shape z.1 z.0) (after_it (drops 1) jump {k = k} {s = s} {p = j} dropped jumped)
    ∙ sym (all_statements ss shape k s)

pub function_made : (ts : List Test) (e : TestExpr) (shape inner : Shape) (k : ℕ) (s : Emitted) (j r v m o : Emitted × ℕ)
    → inner ≡ with_singles (after_all (map test_code ts) 0) shape → j ≡ jump k s → r ≡ roll (pos 2) j.1 j.0 → v ≡ expr_code e inner r.1 r.0
    → m ≡ matching (map test_code ts) shape v.1 v.0 → o ≡ roll (pos 2) m.1 m.0 → o ≡ function_code ts e shape k s
function_made ts e shape inner k s j r v m o inside jumped rolled made matched begun =
    begun ∙ ap (λ (z : Emitted × ℕ). roll (pos 2) z.1 z.0) (matched ∙ ap (λ (z : Emitted × ℕ). matching (map test_code ts) shape z.1 z.0)
    (made ∙ (ap (λ sh. expr_code e sh r.1 r.0) inside
    ∙ ap (λ (z : Emitted × ℕ). expr_code e (with_singles (after_all (map test_code ts) 0) shape) z.1 z.0)
    (rolled ∙ ap (λ (z : Emitted × ℕ). roll (pos 2) z.1 z.0) jumped))))

pub drop_singles : (n : ℕ) (shape : Shape) → drop n (with_singles n shape) ≡ shape
drop_singles zero shape = refl
drop_singles (suc n) shape = drop_singles n shape

pub length_singles : (n : ℕ) (shape : Shape) → length (with_singles n shape) ≡ n + length shape
length_singles zero shape = omega arith
length_singles (suc n) shape = let h = length_singles n shape in omega (arith, h)

-- ---- units

pub unit_abs : (u : TestUnit) (ts us : List Test) (e : TestExpr) (shape sh : Shape) (s : Emitted) (p : Emitted × ℕ) → u ≡ unit.Abs ts e → us ≡ ts
    → sh ≡ shape → p ≡ function_code us e sh 0 s → p ≡ unit_code u shape 0 s
unit_abs u ts us e shape sh s p is same entries made =
    let there : function_code us e sh 0 s ≡ function_code ts e shape 0 s = λ i. function_code (same i) e (entries i) 0 s in
    let whole : unit_code u shape 0 s ≡ function_code ts e shape 0 s = ap (λ v. unit_code v shape 0 s) is in
    made ∙ there ∙ sym whole

pub unit_block : (u : TestUnit) (ss xs : List TestStmt) (shape : Shape) (s : Emitted) (p : Emitted × ℕ) → u ≡ unit.Block ss → xs ≡ ss
    → p ≡ statements xs shape 0 s → p ≡ unit_code u shape 0 s
unit_block u ss xs shape s p is same made =
    let there : statements xs shape 0 s ≡ statements ss shape 0 s = ap (λ ys. statements ys shape 0 s) same in
    let whole : unit_code u shape 0 s ≡ statements ss shape 0 s = ap (λ v. unit_code v shape 0 s) is in
    made ∙ there ∙ sym whole
