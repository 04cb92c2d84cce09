-- Tests fit in the shape of their place.
use Rattle.std.proofs.Common.{◌≡◌, refl, ap, sym, subst, ℕ, zero, suc, ◌+◌, Bool, true, false, List, [], ◌∷◌, ◌++◌, length, arith}
use Rattle.std.specs.Prelude.{◌≤◌, ◌<◌, nat_le, if◌then◌else◌, is_none, Some, None}
use Rattle.std.specs.List.{list_all}
use Rattle.std.proofs.lemmas.Bool.Decides.{nat_tests}
use Rattle.std.proofs.lemmas.List.{append-nil}
use Rattle.hum_core.specs.declared.resolved.CoreUnit.{CoreUnit}
use Rattle.hum_core.specs.declared.resolved.CorePat.{CorePat}
use Rattle.hum_core.specs.declared.tested.TestUnit.{TestUnit}
use Rattle.hum_core.specs.declared.tested.TestExpr.{TestExpr, out-TestExpr}
use Rattle.hum_core.specs.declared.tested.Test.{Test, out-Test}
use Rattle.hum_core.specs.declared.tested.Test.TheOpen.{Test-F, TestExpr-F}
use Rattle.hum_core.specs.declared.tested.TestArm.{TestArm}
use Rattle.hum_core.specs.declared.tested.TestBranch.{TestBranch}
use Rattle.hum_meaning.specs.declared.cause.ScopeCause.TheVariants.{Twice, TooManyNames}
use Rattle.hum_meaning.specs.Named.{Name}
use Rattle.hum_meaning.specs.Scope as judged
use Rattle.hum_meaning.specs.Scope.{Place, most_bindings, has, bound}
use Rattle.hum_core.specs.Units.{Scope, OfPat}
use Rattle.hum_core.specs.Lists.{tested_pat}
use Rattle.hum_core.specs.Lowering.{left_behind}
use Rattle.hum_core.proofs.ScopedNames.{Fine}
use Rattle.hum_code.specs.Layout.{Shape}
use Rattle.hum_code.specs.Code.{bound_behind, bound_after}
use Rattle.hum_emit.specs.Shapes.{Fits, EachTestFits, TestFits, NodeFits, fits_to}
use Rattle.hum_emit.proofs.Walking.{in_core_pat}
use Rattle.hum_emit.proofs.ShapePlaces.{Here, AllFit, Ready}

-- ---- how many bindings there are behind tests

pub bound-append : (ts us : List Test) (n : ℕ) → bound_after (ts ++ us) n ≡ bound_after us (bound_after ts n)
bound-append [] us n = refl
bound-append (t ∷ ts) us n = bound-append ts us (bound_behind (out-Test t) n)

-- one test, as it is seen
pub bound_one : (t : Test) (x : Test-F Test TestExpr TestArm TestBranch) (us : List Test) (n : ℕ) → out-Test t ≡ x
    → bound_after (t ∷ us) n ≡ bound_after us (bound_behind x n)
bound_one t x us n is = ap (λ x. bound_after us (bound_behind x n)) is

-- ---- rooms for names

-- a name that is bound without a fault has room
room_by : (taken full : Bool) → list_all is_none ((if taken then Some Twice else if full then Some TooManyNames else None) ∷ []) ≡ true → full ≡ false
room_by true full h = absurd (cc)
room_by false true h = absurd (cc)
room_by false false h = refl

below_most : (n : ℕ) → nat_le most_bindings n ≡ false → n < most_bindings
below_most n h = grind (arith, nat_tests)

pub room : (place : Place) (name : Name) → Fine (bound place name ∷ []) → place.besides < most_bindings
room place name h = below_most place.besides (room_by (has place.taken name) (nat_le most_bindings place.besides) h.none)

-- ---- claims

module _ (units : List TestUnit) (shapes : List Shape) where
  abbrev pub to : ℕ → Fits
  to = fits_to units shapes

  -- a node that fits to each depth below
  pub node_to : (shape : Shape) (d : TestExpr) (x : TestExpr-F Test TestExpr TestArm TestBranch) → out-TestExpr d ≡ x
      → ((m : ℕ) → NodeFits units shapes (to m) shape x) → (m : ℕ) → (to m).ExprFits shape d
  node_to shape d x is h zero = tt
  node_to shape d x is h (suc m) = subst (NodeFits units shapes (to m) shape) (sym is) (h m)

  -- a pattern's tests fit in front of others, where there are n bindings
  pub record TestsGo (names : ℕ) (d : CorePat) (us : List CoreUnit) (shape : Shape) (n : ℕ) : Type 0 where
    pub bounded : names + n + length shape ≤ most_bindings
    pub tests : (m : ℕ) (rest : List Test) (values : ℕ) → EachTestFits units shapes (to m) shape rest values (names + n)
        → EachTestFits units shapes (to m) shape (tested_pat d ++ rest) (suc values) n
    pub units_fit : (m : ℕ) → AllFit units shapes m us (in_core_pat d shape)

  pub record PatFit (x : OfPat) (f : judged.OfPat) : Type 0 where
    pub at : (scope : Scope) (shape : Shape) (place : Place) (n k : ℕ) → Ready units shapes scope shape place.seen → Fine (f.at place)
        → k + length shape ≤ place.besides → k + length shape ≤ most_bindings
        → Here units shapes n (x.part.make scope n).1 (in_core_pat (x.part.make scope n).0 shape)
        → TestsGo (length x.names) (x.part.make scope n).0 (x.part.make scope n).1 shape k
    pub behind : (scope : Scope) (n : ℕ) (rest : List Test) (k : ℕ) → bound_after (tested_pat (x.part.make scope n).0 ++ rest) k ≡ bound_after rest (length x.names + k)
    pub name : x.is_name ≡ true → (length x.names ≡ 1) × ((place : Place) → Fine (f.at place) → place.besides < most_bindings)

  -- one test, as it is seen
  pub one_fits : (below : Fits) (shape : Shape) (t : Test) (x : Test-F Test TestExpr TestArm TestBranch) (rest : List Test) (values n : ℕ) → out-Test t ≡ x
      → TestFits units shapes below shape x n → EachTestFits units shapes below shape rest (left_behind x values) (bound_behind x n)
      → EachTestFits units shapes below shape (t ∷ rest) (suc values) n
  one_fits below shape t x rest values n is h k =
      subst (λ x. TestFits units shapes below shape x n × EachTestFits units shapes below shape rest (left_behind x values) (bound_behind x n)) (sym is) (h, k)

  -- tests of one value
  pub tests_to : (shape : Shape) (d : CorePat) (us : List CoreUnit) (names : ℕ) → TestsGo names d us shape 0 → (m : ℕ) → (to m).TestsFit shape (tested_pat d) 1 0
  tests_to shape d us names h zero = tt
  tests_to shape d us names h (suc m) = subst (λ ts. EachTestFits units shapes (to m) shape ts 1 0) (append-nil (tested_pat d)) (h.tests m [] 0 tt)
