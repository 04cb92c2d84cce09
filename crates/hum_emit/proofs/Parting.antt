-- What the walk finds in each kind of part.
use Rattle.std.proofs.Common.{◌≡◌, refl, sym, ap, ◌∙◌, arith, ℕ, suc, ◌+◌, ◌<◌, ◌≤◌, List, [], ◌∷◌, ◌++◌, length, map, take, drop, drop-cons, get_or, append_assoc}
use Rattle.std.proofs.lemmas.List.{append-nil, take_more}
use Rattle.hum_core.specs.declared.tested.TestUnit.{TestUnit}
use Rattle.hum_core.specs.declared.tested.TestUnit.TheVariants as unit
use Rattle.hum_core.specs.declared.tested.TestStmt.{TestStmt}
use Rattle.hum_core.specs.declared.tested.TestStmt.TheVariants as stmt
use Rattle.hum_core.specs.declared.tested.TestExpr.{TestExpr}
use Rattle.hum_core.specs.declared.tested.TestExpr.TheVariants as t
use Rattle.hum_core.specs.declared.tested.Test.{Test}
use Rattle.hum_core.specs.declared.tested.TestArm.{TestArm, out-TestArm, fold_out-TestArm}
use Rattle.hum_core.specs.declared.tested.TestBranch.{TestBranch, out-TestBranch, fold_out-TestBranch}
use Rattle.hum_core.specs.Numbered.{Of}
use Rattle.hum_code.specs.Layout.{Several, Shape, with_singles}
use Rattle.hum_code.specs.Code.{bound_after}
use Rattle.hum_emit.specs.declared.shapes.Walk.{Walk}
use Rattle.hum_emit.specs.Shapes.{Inside, in_all, in_expr, in_arm, in_branch, of_one_test, in_tests, in_statement, behind_statement, in_statements, in_unit, after_all}
use Rattle.hum_emit.specs.Templates as code
use Rattle.hum_emit.specs.Rowing.{shape_at, IsTop}
use Rattle.hum_emit.specs.Finding.{Found}
use Rattle.hum_emit.proofs.Expressions.{after_all_is}
use Rattle.hum_emit.proofs.ShapePatterns.{after_is}
use Rattle.hum_emit.proofs.Nodes.{inside_call, inside_case, inside_if}
use Rattle.hum_emit.proofs.Walking.{in_tests-append}
use Rattle.hum_emit.proofs.Findings.{nothing_found, found_then, found_as, top_stays, one_more}

pub nothing : (w : Walk) → Found [] w w
nothing w = nothing_found w w refl refl

pub none_in : (shapes : List Shape) (w : Walk) → shapes ≡ [] → Found shapes w w
none_in shapes w is = found_as [] shapes w w (sym is) (nothing w)

-- a second part at the same top
pub both_found : (f g : Inside) (u v w : Walk) (top : ℕ) → top ≤ length u.rows → Found (f (shape_at u.rows top)) u v
    → Found (g (shape_at v.rows top)) v w → Found (f (shape_at u.rows top) ++ g (shape_at u.rows top)) u w
both_found f g u v w top le h k =
    let same = (top_stays (f (shape_at u.rows top)) u v top (shape_at u.rows top) h (le, refl)).1 in
    found_then (f (shape_at u.rows top)) (g (shape_at u.rows top)) u v w h (found_as (g (shape_at v.rows top)) (g (shape_at u.rows top)) v w (ap g same) k)

-- a second part at a top that was entered between, which begins a further shape
pub inner_found : (f g : Inside) (inner : Shape → Shape) (u v x w : Walk) (top at : ℕ) → top ≤ length u.rows → Found (f (shape_at u.rows top)) u v
    → Found [] v x → IsTop x.rows at (inner (shape_at v.rows top)) → Found (g (shape_at x.rows at)) x w
    → Found (f (shape_at u.rows top) ++ g (inner (shape_at u.rows top))) u w
inner_found f g inner u v x w top at le h step is k =
    let shape = shape_at u.rows top in
    let same = (top_stays (f shape) u v top shape h (le, refl)).1 in
    found_then (f shape) (g (inner shape)) u v w h
    (found_then [] (g (inner shape)) v x w step (found_as (g (shape_at x.rows at)) (g (inner shape)) x w (ap g (is.1 ∙ ap inner same)) k))

pub loop_found : {A : Type 0} (inside : A → Inside) (xs : List A) (i : ℕ) (x : A) (u v w : Walk) (top : ℕ) → i < length xs → x ≡ get_or xs i x
    → top ≤ length u.rows → Found (in_all (map inside (take i xs)) (shape_at u.rows top)) u v → Found (inside x (shape_at v.rows top)) v w
    → Found (in_all (map inside (take (i + 1) xs)) (shape_at u.rows top)) u w
loop_found inside xs i x u v w top h is le g k =
    found_as _ _ u w (one_more inside xs i x (shape_at u.rows top) h is) (both_found (in_all (map inside (take i xs))) (inside x) u v w top le g k)

pub tests_loop : (ts : List Test) (i : ℕ) (x : Test) (u v w : Walk) (top : ℕ) → i < length ts → x ≡ get_or ts i x → top ≤ length u.rows
    → Found (in_tests (take i ts) (shape_at u.rows top)) u v → Found ((of_one_test x).inside (shape_at v.rows top)) v w
    → Found (in_tests (take (i + 1) ts) (shape_at u.rows top)) u w
tests_loop ts i x u v w top h is le g k =
    let shape = shape_at u.rows top in
    let more : in_tests (take (i + 1) ts) shape ≡ in_tests (take i ts) shape ++ (of_one_test x).inside shape
    = ap (λ ys. in_tests ys shape) (take_more ts i x h ∙ ap (λ y. take i ts ++ y ∷ []) (sym is))
    ∙ in_tests-append (take i ts) (x ∷ []) shape
    ∙ ap (λ z. in_tests (take i ts) shape ++ z) (append-nil ((of_one_test x).inside shape)) in
    found_as _ _ u w (sym more) (both_found (in_tests (take i ts)) (of_one_test x).inside u v w top le g k)

pub call_found : (e f a f' a' : TestExpr) (u v w : Walk) (top : ℕ) → e ≡ t.Call f a → f' ≡ f → a' ≡ a → top ≤ length u.rows
    → Found (in_expr f' (shape_at u.rows top)) u v → Found (in_expr a' (shape_at v.rows top)) v w → Found (in_expr e (shape_at u.rows top)) u w
call_found e f a f' a' u v w top is first second le g k =
    let shape = shape_at u.rows top in
    let parts : in_expr f' shape ++ in_expr a' shape ≡ in_expr e shape
    = (λ i. in_expr (first i) shape ++ in_expr (second i) shape) ∙ sym (ap (λ d. in_expr d shape) is ∙ inside_call f a shape) in
    found_as _ _ u w parts (both_found (in_expr f') (in_expr a') u v w top le g k)

pub case_found : (e s s' : TestExpr) (as' bs : List TestArm) (u v w : Walk) (top : ℕ) → e ≡ t.Case s as' → s' ≡ s → bs ≡ as' → top ≤ length u.rows
    → Found (in_expr s' (shape_at u.rows top)) u v → Found (in_all (map in_arm bs) (shape_at v.rows top)) v w → Found (in_expr e (shape_at u.rows top)) u w
case_found e s s' as' bs u v w top is first second le g k =
    let shape = shape_at u.rows top in
    let parts : in_expr s' shape ++ in_all (map in_arm bs) shape ≡ in_expr e shape
    = (λ i. in_expr (first i) shape ++ in_all (map in_arm (second i)) shape) ∙ sym (ap (λ d. in_expr d shape) is ∙ inside_case s as' shape) in
    found_as _ _ u w parts (both_found (in_expr s') (in_all (map in_arm bs)) u v w top le g k)

pub if_found : (e : TestExpr) (bs cs : List TestBranch) (n : ℕ) (u v w : Walk) (top : ℕ) → e ≡ t.If bs n → cs ≡ bs → top ≤ length u.rows
    → Found (in_all (map in_branch cs) (shape_at u.rows top)) u v → Found (shape_at v.rows top ∷ []) v w → Found (in_expr e (shape_at u.rows top)) u w
if_found e bs cs n u v w top is same le g k =
    let shape = shape_at u.rows top in
    let parts : in_all (map in_branch cs) shape ++ shape ∷ [] ≡ in_expr e shape
    = ap (λ ys. in_all (map in_branch ys) shape ++ shape ∷ []) same ∙ sym (ap (λ d. in_expr d shape) is ∙ inside_if bs n shape) in
    found_as _ _ u w parts (both_found (in_all (map in_branch cs)) (λ sh. sh ∷ []) u v w top le g k)

pub bound_same : (ts : List Test) → after_all (map of_one_test ts) 0 ≡ code.after_all (map code.test_code ts) 0
bound_same ts = after_is ts 0 ∙ sym (after_all_is ts 0)

pub arm_found : (a : TestArm) (ts us : List Test) (n : ℕ) (u v x w : Walk) (top at : ℕ) → ts ≡ (out-TestArm a).pattern → us ≡ (out-TestArm a).pattern
    → n ≡ code.after_all (map code.test_code us) 0 → top ≤ length u.rows → Found (in_tests ts (shape_at u.rows top)) u v
    → Found [] v x → IsTop x.rows at (with_singles n (shape_at v.rows top)) → Found (in_expr (out-TestArm a).value (shape_at x.rows at)) x w
    → Found (in_arm a (shape_at u.rows top)) u w
arm_found a ts us n u v x w top at is again bound le g step entered k =
    let shape = shape_at u.rows top in
    let y = out-TestArm a in
    let singles : n ≡ after_all (map of_one_test y.pattern) 0
    = bound ∙ ap (λ z. code.after_all (map code.test_code z) 0) again ∙ sym (bound_same y.pattern) in
    let parts : in_tests ts shape ++ in_expr y.value (with_singles n shape) ≡ in_arm a shape
    = (λ i. in_tests (is i) shape ++ in_expr y.value (with_singles (singles i) shape))
    ∙ sym (ap (λ (z : Inside). z shape) (fold_out-TestArm _ _ _ _ _ _ _ _ a)) in
    found_as _ _ u w parts (inner_found (in_tests ts) (in_expr y.value) (with_singles n) u v x w top at le g step entered k)

pub branch_found : (b : TestBranch) (u v w : Walk) (top : ℕ) → top ≤ length u.rows → Found (in_expr (out-TestBranch b).condition (shape_at u.rows top)) u v
    → Found (shape_at v.rows top ∷ []) v w → Found (in_branch b (shape_at u.rows top)) u w
branch_found b u v w top le g k =
    let shape = shape_at u.rows top in
    found_as _ _ u w (sym (ap (λ (z : Inside). z shape) (fold_out-TestBranch _ _ _ _ _ _ _ _ b)))
    (both_found (in_expr (out-TestBranch b).condition) (λ sh. sh ∷ []) u v w top le g k)

-- ---- statements

-- a step that finds nothing comes last
then_nothing : (xs : List Shape) (u v w : Walk) → Found xs u v → Found [] v w → Found xs u w
then_nothing xs u v w h k = found_as (xs ++ []) xs u w (append-nil xs) (found_then xs [] u v w h k)

pub let_found : (s : TestStmt) (ts us : List Test) (e : TestExpr) (u v w x : Walk) (top : ℕ) → s ≡ stmt.Let ts e → us ≡ ts → top ≤ length u.rows
    → Found (in_tests us (shape_at u.rows top)) u v → Found (in_expr e (shape_at v.rows top)) v w → Found [] w x
    → Found (in_statement s (shape_at u.rows top)) u x
let_found s ts us e u v w x top is same le g h k =
    let shape = shape_at u.rows top in
    let parts : in_tests us shape ++ in_expr e shape ≡ in_statement s shape
    = ap (λ ys. in_tests ys shape ++ in_expr e shape) same ∙ sym (ap (λ y. in_statement y shape) is) in
    then_nothing (in_statement s shape) u w x (found_as _ _ u w parts (both_found (in_tests us) (in_expr e) u v w top le g h)) k

pub let_top : (s : TestStmt) (ts us : List Test) (e : TestExpr) (n : ℕ) (xs ys : List Shape) (u v w : Walk) (rows : List Shape) (top at : ℕ)
    → s ≡ stmt.Let ts e → us ≡ ts → n ≡ code.after_all (map code.test_code us) 0 → top ≤ length u.rows → Found xs u v → Found ys v w
    → IsTop rows at (with_singles n (shape_at w.rows top)) → IsTop rows at (behind_statement s (shape_at u.rows top))
let_top s ts us e n xs ys u v w rows top at is same bound le g h k =
    let shape = shape_at u.rows top in
    let stays : shape_at w.rows top ≡ shape = (top_stays ys v w top shape h (top_stays xs u v top shape g (le, refl))).1 in
    let singles : n ≡ bound_after ts 0 = bound ∙ ap (λ z. code.after_all (map code.test_code z) 0) same ∙ after_all_is ts 0 in
    (k.0, k.1 ∙ (λ i. with_singles (singles i) (stays i)) ∙ sym (ap (λ y. behind_statement y shape) is))

pub group_found : (s : TestStmt) (numbers slice : List ℕ) (u v w : Walk) (top at : ℕ) → s ≡ stmt.Group numbers → slice ≡ numbers → Found [] u v
    → IsTop v.rows at (Several (map Of slice) ∷ shape_at u.rows top) → Found (shape_at v.rows at ∷ []) v w
    → Found (in_statement s (shape_at u.rows top)) u w
group_found s numbers slice u v w top at is same g begun h =
    let shape = shape_at u.rows top in
    let parts : shape_at v.rows at ∷ [] ≡ in_statement s shape
    = ap (λ sh. sh ∷ []) (begun.1 ∙ ap (λ ns. Several (map Of ns) ∷ shape) same) ∙ sym (ap (λ y. in_statement y shape) is) in
    found_then [] (in_statement s shape) u v w g (found_as _ _ v w parts h)

pub send_found : (s : TestStmt) (e target : TestExpr) (u v w : Walk) (top : ℕ) → s ≡ stmt.Send e target → top ≤ length u.rows
    → Found (in_expr e (shape_at u.rows top)) u v → Found (in_expr target (shape_at v.rows top)) v w → Found (in_statement s (shape_at u.rows top)) u w
send_found s e target u v w top is le g h =
    found_as _ _ u w (sym (ap (λ y. in_statement y (shape_at u.rows top)) is)) (both_found (in_expr e) (in_expr target) u v w top le g h)

pub create_found : (s : TestStmt) (e : TestExpr) (u v w : Walk) (top : ℕ) → s ≡ stmt.Create e → Found (in_expr e (shape_at u.rows top)) u v
    → Found [] v w → Found (in_statement s (shape_at u.rows top)) u w
create_found s e u v w top is g h =
    let shape = shape_at u.rows top in
    then_nothing (in_statement s shape) u v w (found_as _ _ u v (sym (ap (λ y. in_statement y shape) is)) g) h

pub statements_turn : (ss : List TestStmt) (i : ℕ) (x : TestStmt) (xs whole : List Shape) (sh next : Shape) → i < length ss → x ≡ get_or ss i x
    → next ≡ behind_statement x sh → xs ++ in_statements (drop i ss) sh ≡ whole
    → (xs ++ in_statement x sh) ++ in_statements (drop (i + 1) ss) next ≡ whole
statements_turn ss i x xs whole sh next h is behind so =
    let more : i + 1 ≡ suc i = omega arith in
    append_assoc xs (in_statement x sh) (in_statements (drop (i + 1) ss) next)
    ∙ ap (λ z. xs ++ z)
    ((λ j. in_statement x sh ++ in_statements (drop (more j) ss) (behind j))
    ∙ sym (ap (λ ys. in_statements ys sh) (drop-cons ss i x h ∙ ap (λ y. y ∷ drop (suc i) ss) (sym is))))
    ∙ so

-- ---- units

pub abs_found : (y : TestUnit) (ts us vs : List Test) (e : TestExpr) (n : ℕ) (u v x w : Walk) (top at : ℕ) → y ≡ unit.Abs ts e → us ≡ ts → vs ≡ ts
    → n ≡ code.after_all (map code.test_code vs) 0 → top ≤ length u.rows → Found (in_tests us (shape_at u.rows top)) u v
    → Found [] v x → IsTop x.rows at (with_singles n (shape_at v.rows top)) → Found (in_expr e (shape_at x.rows at)) x w
    → Found (in_unit y (shape_at u.rows top)) u w
abs_found y ts us vs e n u v x w top at is same again bound le g step entered k =
    let shape = shape_at u.rows top in
    let singles : n ≡ bound_after ts 0 = bound ∙ ap (λ z. code.after_all (map code.test_code z) 0) again ∙ after_all_is ts 0 in
    let parts : in_tests us shape ++ in_expr e (with_singles n shape) ≡ in_unit y shape
    = (λ i. in_tests (same i) shape ++ in_expr e (with_singles (singles i) shape)) ∙ sym (ap (λ z. in_unit z shape) is) in
    found_as _ _ u w parts (inner_found (in_tests us) (in_expr e) (with_singles n) u v x w top at le g step entered k)
