-- The tests of a pattern fit where its expressions do.
use Rattle.std.proofs.Common.{◌≡◌, refl, ap, sym, subst, ◌∙◌, ℕ, suc, ◌+◌, true, List, [], ◌∷◌, ◌++◌, map, length, arith, length-append, append_assoc}
use Rattle.std.specs.Prelude.{◌≤◌}
use Rattle.std.proofs.lemmas.Bool.{and_parts}
use Rattle.hum_syntax.specs.declared.tree.Pat.{Pat}
use Rattle.hum_syntax.specs.Formed as tree
use Rattle.hum_syntax.proofs.Induction.{Each, nodes}
use Rattle.hum_core.specs.declared.resolved.CoreUnit.{CoreUnit}
use Rattle.hum_core.specs.declared.resolved.CorePat.{CorePat}
use Rattle.hum_core.specs.declared.tested.TestUnit.{TestUnit}
use Rattle.hum_core.specs.declared.tested.TestExpr.{TestExpr}
use Rattle.hum_core.specs.declared.tested.Test.{Test, out-Test, fold_out-Test}
use Rattle.hum_core.specs.declared.tested.Test.TheVariants as test
use Rattle.hum_core.specs.declared.tested.Test.TheOpen.{Test-F}
use Rattle.hum_core.specs.declared.tested.Test.TheOpen as layer
use Rattle.hum_core.specs.declared.tested.Test.TheFolds as test_folds
use Rattle.hum_core.specs.declared.tested.TestArm.{TestArm}
use Rattle.hum_core.specs.declared.tested.TestBranch.{TestBranch}
use Rattle.hum_meaning.specs.Scope as judged
use Rattle.hum_meaning.specs.Scope.{Place, behind, most_bindings}
use Rattle.hum_core.specs.Units as made
use Rattle.hum_core.specs.Units.{Scope, in_order, item_names}
use Rattle.hum_core.specs.Lists.{tuple_tested, tested_pat}
use Rattle.hum_core.specs.Lowering.{left_behind}
use Rattle.hum_core.proofs.ScopedNames.{Fine, fine_parts}
use Rattle.hum_core.proofs.UnitPlaces.{made_pat, sized_pat}
use Rattle.hum_core.proofs.BoundNames.{found_pat, made_names, found_names}
use Rattle.hum_code.specs.Layout.{Shape}
use Rattle.hum_code.specs.Code.{bound_behind, bound_after}
use Rattle.hum_emit.specs.Shapes.{Inside, OfTest, of_expr, of_test, of_arm, of_branch, in_expr, in_arm, in_branch, of_one_test, after_all, in_all, EachTestFits, TestFits}
use Rattle.hum_emit.proofs.Walking.{in_core_pat, pat_walks}
use Rattle.hum_emit.proofs.ShapePlaces.{Here, here_parts, AllFit, none_fit, fit_both, Ready}
use Rattle.hum_emit.proofs.ShapeTests.{to, TestsGo, PatFit, one_fits, bound_one}

-- ---- the walk counts what tests bind

node_after : (f : Test → OfTest) (e : TestExpr → Inside) (a : TestArm → Inside) (b : TestBranch → Inside) (x : Test-F Test TestExpr TestArm TestBranch) (n : ℕ)
    → (of_test (test_folds.map-Test Test TestExpr TestArm TestBranch OfTest Inside Inside Inside f e a b x)).after n ≡ bound_behind x n
node_after f e a b layer.Pair n = refl
node_after f e a b (layer.Test::Is c) n = refl
node_after f e a b (layer.Same d) n = refl
node_after f e a b layer.Bind n = refl
node_after f e a b layer.Skip n = refl

one_after : (t : Test) (n : ℕ) → (of_one_test t).after n ≡ bound_behind (out-Test t) n
one_after t n = ap (λ (x : OfTest). x.after n) (fold_out-Test OfTest Inside Inside Inside of_test of_expr of_arm of_branch t) ∙ node_after of_one_test in_expr in_arm in_branch (out-Test t) n

pub after_is : (ts : List Test) (n : ℕ) → after_all (map of_one_test ts) n ≡ bound_after ts n
after_is [] n = refl
after_is (t ∷ ts) n = ap (after_all (map of_one_test ts)) (one_after t n) ∙ after_is ts (bound_behind (out-Test t) n)

module _ (units : List TestUnit) (shapes : List Shape) where
  -- ---- a pattern that is one test

  pub one_go : (names : ℕ) (d : CorePat) (us : List CoreUnit) (shape : Shape) (k : ℕ) (t : Test) (x : Test-F Test TestExpr TestArm TestBranch)
      → tested_pat d ≡ t ∷ [] → out-Test t ≡ x → ((n : ℕ) → left_behind x n ≡ n) → bound_behind x k ≡ names + k → names + k + length shape ≤ most_bindings
      → ((m : ℕ) → TestFits units shapes (to units shapes m) shape x k) → ((m : ℕ) → AllFit units shapes m us (in_core_pat d shape))
      → TestsGo units shapes names d us shape k
  one_go names d us shape k t x is out left more bounded fits units_fit = record {
    bounded = bounded;
    tests = λ m rest values h.
        subst (λ ts. EachTestFits units shapes (to units shapes m) shape (ts ++ rest) (suc values) k) (sym is)
        (one_fits units shapes (to units shapes m) shape t x rest values k out (fits m)
        (subst (λ n. EachTestFits units shapes (to units shapes m) shape rest n (bound_behind x k)) (sym (left values))
        (subst (EachTestFits units shapes (to units shapes m) shape rest values) (sym more) h)));
    units_fit = units_fit;
  }

  pub one_behind : (names : ℕ) (d : CorePat) (t : Test) (x : Test-F Test TestExpr TestArm TestBranch) → tested_pat d ≡ t ∷ [] → out-Test t ≡ x
      → ((n : ℕ) → bound_behind x n ≡ names + n) → (rest : List Test) (k : ℕ) → bound_after (tested_pat d ++ rest) k ≡ bound_after rest (names + k)
  one_behind names d t x is out more rest k =
      ap (λ ts. bound_after (ts ++ rest) k) is ∙ bound_one t x rest k out ∙ ap (bound_after rest) (more k)

  -- ---- tuples

  abbrev pub P : Pat → Type 0
  P p = tree.is_formed_pat p ≡ true → PatFit units shapes (made_pat p) (found_pat p)

  abbrev pub FormedAll : Each P → Type 0
  FormedAll xs = tree.all (map tree.is_formed_pat (nodes xs)) ≡ true

  abbrev pub count : Each P → ℕ
  count xs = length (item_names (map made_pat (nodes xs)))

  abbrev pub made_items : Each P → made.Part (List CorePat)
  made_items xs = in_order (map (λ p. p.part) (map made_pat (nodes xs)))

  pair_behind : (ts us : List Test) (k : ℕ) → bound_after ((test.Pair ∷ ts) ++ us) k ≡ bound_after (ts ++ us) k
  pair_behind ts us k = bound_one test.Pair layer.Pair (ts ++ us) k test.outs-Pair

  pub items_behind : (xs : Each P) → FormedAll xs → (scope : Scope) (n : ℕ) (rest : List Test) (k : ℕ)
      → bound_after (tuple_tested (map tested_pat ((made_items xs).make scope n).0) ++ rest) k ≡ bound_after rest (count xs + k)
  items_behind [] formed scope n rest k = ap (bound_after rest) (omega arith)
  items_behind (x ∷ []) formed scope n rest k = (x.1 (and_parts _ _ formed).0).behind scope n rest k
  items_behind (x ∷ y ∷ ys) formed scope n rest k =
      let parts = and_parts _ _ formed in
      let first = (made_pat x.0).part.make scope n in
      let others = (made_items (y ∷ ys)).make scope (n + (made_pat x.0).part.size) in
      let ts = tested_pat first.0 in
      let us = tuple_tested (map tested_pat others.0) in
      pair_behind (ts ++ us) rest k
      ∙ ap (λ ts. bound_after ts k) (append_assoc ts us rest)
      ∙ (x.1 parts.0).behind scope n (us ++ rest) k
      ∙ items_behind (y ∷ ys) parts.1 scope (n + (made_pat x.0).part.size) rest (length (made_pat x.0).names + k)
      ∙ ap (bound_after rest) (omega (arith, length-append (item_names (map made_pat (nodes (y ∷ ys)))) (made_pat x.0).names))

  -- the tests of a tuple of these fit in front of others
  pub record ItemsGo (names : ℕ) (ds : List CorePat) (us : List CoreUnit) (shape : Shape) (n : ℕ) : Type 0 where
    pub bounded : names + n + length shape ≤ most_bindings
    pub tests : (m : ℕ) (rest : List Test) (values : ℕ) → EachTestFits units shapes (to units shapes m) shape rest values (names + n)
        → EachTestFits units shapes (to units shapes m) shape (tuple_tested (map tested_pat ds) ++ rest) (suc values) n
    pub units_fit : (m : ℕ) → AllFit units shapes m us (in_all (map in_core_pat ds) shape)

  abbrev pub Items : Each P → Type 0
  Items xs =
      FormedAll xs → (scope : Scope) (shape : Shape) (place : Place) (n k : ℕ) → Ready units shapes scope shape place.seen
      → Fine (judged.items (map found_pat (nodes xs)) place) → k + length shape ≤ place.besides → k + length shape ≤ most_bindings
      → Here units shapes n ((made_items xs).make scope n).1 (in_all (map in_core_pat ((made_items xs).make scope n).0) shape)
      → ItemsGo (count xs) ((made_items xs).make scope n).0 ((made_items xs).make scope n).1 shape k

  pub items_go : (xs : Each P) (x : (p : Pat) × P p) → Items (x ∷ xs)
  items_go [] x formed scope shape place n k ready fine few most h =
      let fit = x.1 (and_parts _ _ formed).0 in
      let walks = (pat_walks x.0).at scope n shape in
      let own = (made_pat x.0).part.make scope n in
      let parts = here_parts units shapes n (made_pat x.0).part.size own.1 [] (in_core_pat own.0 shape) [] (sized_pat x.0 scope n) walks h in
      let go = fit.at scope shape place n k ready (fine_parts _ _ fine).0 few most parts.0 in
      record {
        bounded = go.bounded;
        tests = go.tests;
        units_fit = λ m. fit_both units shapes m own.1 [] (in_core_pat own.0 shape) [] walks (go.units_fit m) (none_fit units shapes m);
      }
  items_go (y ∷ ys) x formed scope shape place n k ready fine few most h =
      let formeds = and_parts _ _ formed in
      let fines = fine_parts ((found_pat x.0).at place) _ fine in
      let fit = x.1 formeds.0 in
      let walks = (pat_walks x.0).at scope n shape in
      let own = (made_pat x.0).part.make scope n in
      let next = n + (made_pat x.0).part.size in
      let others = (made_items (y ∷ ys)).make scope next in
      let parts = here_parts units shapes n (made_pat x.0).part.size own.1 others.1 (in_core_pat own.0 shape) (in_all (map in_core_pat others.0) shape) (sized_pat x.0 scope n) walks h in
      let go = fit.at scope shape place n k ready fines.0 few most parts.0 in
      let names = length (made_pat x.0).names in
      let same : length (found_pat x.0).names ≡ names = ap length (found_names x.0 ∙ sym (made_names x.0)) in
      let rest = items_go ys y formeds.1 scope shape (behind (found_pat x.0).names place) next (names + k) ready fines.1
      (omega (arith, few, same)) go.bounded parts.1 in
      let sum : count (y ∷ ys) + (names + k) ≡ count (x ∷ y ∷ ys) + k = omega (arith, length-append (item_names (map made_pat (nodes (y ∷ ys)))) (made_pat x.0).names) in
      let ts = tested_pat own.0 in
      let us = tuple_tested (map tested_pat others.0) in
      record {
        bounded = subst (λ n. n + length shape ≤ most_bindings) sum rest.bounded;
        tests = λ m more values g.
            one_fits units shapes (to units shapes m) shape test.Pair layer.Pair ((ts ++ us) ++ more) values k test.outs-Pair tt
            (subst (λ ts. EachTestFits units shapes (to units shapes m) shape ts (suc (suc values)) k) (sym (append_assoc ts us more))
            (go.tests m (us ++ more) (suc values) (rest.tests m more values (subst (EachTestFits units shapes (to units shapes m) shape more values) (sym sum) g))));
        units_fit = λ m. fit_both units shapes m own.1 others.1 (in_core_pat own.0 shape) (in_all (map in_core_pat others.0) shape) walks (go.units_fit m) (rest.units_fit m);
      }
