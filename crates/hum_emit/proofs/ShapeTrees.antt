-- Every tree in which no name is refused fits in the shape of its place.
use Rattle.std.proofs.Common.{◌≡◌, refl, ap, sym, subst, ◌∙◌, ℕ, suc, ◌+◌, Bool, true, false, ◌&&◌, List, [], ◌∷◌, ◌++◌, map, length, Some, None, arith, length-append}
use Rattle.std.specs.Prelude.{◌≤◌, nat_le}
use Rattle.std.proofs.lemmas.Bool.{and_parts, true≢false}
use Rattle.std.proofs.lemmas.Bool.Decides.{nat_tests}
use Rattle.std.proofs.lemmas.List.{append-nil, length-map}
use Rattle.std.proofs.lemmas.List.Concat.{flat_map-append}
use Rattle.hum_syntax.specs.declared.tree.Expr.{Expr}
use Rattle.hum_syntax.specs.declared.tree.Pat.{Pat}
use Rattle.hum_syntax.specs.declared.tree.Stmt.{Stmt}
use Rattle.hum_syntax.specs.declared.tree.Arm.{Arm}
use Rattle.hum_syntax.specs.declared.tree.Branch.{Branch}
use Rattle.hum_syntax.specs.declared.tree.Expr.TheVariants as e
use Rattle.hum_syntax.specs.declared.tree.Pat.TheVariants as p
use Rattle.hum_syntax.specs.declared.tree.Stmt.TheVariants as s
use Rattle.hum_syntax.specs.Spells.{arm, branch}
use Rattle.hum_syntax.specs.Forms.{is_name}
use Rattle.hum_syntax.specs.Formed as tree
use Rattle.hum_syntax.proofs.Folding as fold_of
use Rattle.hum_syntax.proofs.Folding.{Steps}
use Rattle.hum_syntax.proofs.FormedTrees.{formed}
use Rattle.hum_syntax.proofs.Induction.{Each, nodes, Cases, every_stmt}
use Rattle.hum_core.specs.declared.slot.Const.{Const}
use Rattle.hum_core.specs.declared.slot.Const.TheVariants as const
use Rattle.hum_core.specs.declared.resolved.CoreUnit.{CoreUnit}
use Rattle.hum_core.specs.declared.resolved.CoreUnit.TheVariants as unit
use Rattle.hum_core.specs.declared.resolved.CoreStmt.{CoreStmt}
use Rattle.hum_core.specs.declared.resolved.CoreStmt.TheVariants as stmt
use Rattle.hum_core.specs.declared.resolved.CoreExpr.{CoreExpr}
use Rattle.hum_core.specs.declared.resolved.CoreExpr.TheVariants as expr
use Rattle.hum_core.specs.declared.resolved.CorePat.{CorePat}
use Rattle.hum_core.specs.declared.resolved.CorePat.TheVariants as pat
use Rattle.hum_core.specs.declared.resolved.CoreArm.{CoreArm}
use Rattle.hum_core.specs.declared.resolved.CoreBranch.{CoreBranch}
use Rattle.hum_core.specs.declared.tested.TestUnit.{TestUnit}
use Rattle.hum_core.specs.declared.tested.TestExpr.{TestExpr, out-TestExpr}
use Rattle.hum_core.specs.declared.tested.TestExpr.TheVariants as t
use Rattle.hum_core.specs.declared.tested.Test.{Test, out-Test}
use Rattle.hum_core.specs.declared.tested.Test.TheVariants as test
use Rattle.hum_core.specs.declared.tested.TestArm.{TestArm, out-TestArm}
use Rattle.hum_core.specs.declared.tested.TestBranch.{TestBranch, out-TestBranch}
use Rattle.hum_core.specs.declared.tested.Test.TheOpen.{Test-F, TestArm-F, TestBranch-F}
use Rattle.hum_core.specs.declared.tested.Test.TheOpen as layer
use Rattle.hum_core.specs.declared.tested.Test.TheViews.{out-roll-TestArm, out-roll-TestBranch}
use Rattle.hum_meaning.specs.Scope as judged
use Rattle.hum_meaning.specs.Scope.{fresh, bound}
use Rattle.hum_core.specs.Alike.{with_marks}
use Rattle.hum_core.specs.Agreement.{slot_of}
use Rattle.hum_core.specs.Units as made
use Rattle.hum_core.specs.Units.{Scope, Part, both, in_order, block, OfExpr, OfPat, OfStmt, let_stmt, slot_or_newest}
use Rattle.hum_core.specs.Lists.{tested_expr, tested_pat, tested_arm, tested_branch, tested_stmt}
use Rattle.hum_core.proofs.ScopedNames.{Fine, fine_parts, Sees, marks_seen, use_found}
use Rattle.hum_core.proofs.UnitPlaces.{made_expr, made_pat, made_stmt, made_arm, made_branch, Sized, sized_expr, sized_pat, sized_arm, sized_branch, sized_branches}
use Rattle.hum_core.proofs.BoundNames.{found_expr, found_pat, found_stmt, found_arm, found_branch, made_names, found_names}
use Rattle.hum_code.specs.Layout.{Shape, with_singles}
use Rattle.hum_core.specs.Lowering.{left_behind}
use Rattle.hum_code.specs.Code.{bound_after, bound_behind}
use Rattle.hum_emit.specs.Shapes.{Fits, Inside, in_all, after_all, of_one_test, FunctionIn, BlockIn, EachFits, ArmsFit, BranchesFit, StatementFits, ConstFits, TestFits, EachTestFits, behind_statement}
use Rattle.hum_emit.proofs.Nodes.{tested_is, tested_text, tested_var, tested_myself, tested_abs, tested_block, tested_call, tested_tuple, tested_new, tested_case, tested_if, tested_any, tested_bind, tested_constant, tested_value, tested_items, tested_one_arm, tested_one_branch}
use Rattle.hum_emit.proofs.Walking.{PartWalks, in_core, in_core_pat, in_core_stmt, in_core_arm, in_core_branch, core_is, core_abs, core_block, core_call, core_tuple, core_new, core_case, core_if, core_constant, core_value, core_items, core_arm, core_branch, core_any, core_bind, core_var, core_text, core_myself, in_order_walk, each_of, expr_walks, pat_walks, arm_walks, branch_walks, built}
use Rattle.hum_emit.proofs.ShapePlaces.{Here, here_parts, here_as, here_unit, AllFit, none_fit, fit_both, fit_unit, fit_as, Ready, scope_singles, singles_more, slot_fits}
use Rattle.hum_emit.proofs.ShapeConstants.{range_fits, text_fits, same_run}
use Rattle.hum_emit.proofs.ShapeTests.{to, node_to, TestsGo, PatFit, tests_to, room}
use Rattle.hum_emit.proofs.ShapeBlocks as blocks
use Rattle.hum_emit.proofs.ShapeBlocks.{StmtFit, block_fits}
use Rattle.hum_emit.proofs.ShapePatterns as patterns
use Rattle.hum_emit.proofs.ShapePatterns.{after_is, one_go, one_behind, items_behind, items_go}

-- what is found of the nodes of a tree
abbrev looked : Steps judged.OfExpr judged.OfPat judged.OfStmt judged.Part judged.Part
looked = record { expr = judged.of_expr; pat = judged.of_pat; stmt = judged.of_stmt; an_arm = judged.of_arm; a_branch = judged.of_branch }

module _ (units : List TestUnit) (shapes : List Shape) where
  abbrev L : ℕ → Fits
  L = to units shapes

  -- ---- claims

  -- a part fits, and so do its units
  abbrev Result : {A : Type 0} → (A → Inside) → (ℕ → Shape → A → Type 0) → Shape → A → List CoreUnit → Type 0
  Result inside Good shape d us = ((m : ℕ) → Good m shape d) × ((m : ℕ) → AllFit units shapes m us (inside d shape))

  pub record PartFit {A : Type 0} (inside : A → Inside) (Good : ℕ → Shape → A → Type 0) (x : Part A) (f : judged.Part) : Type 0 where
    pub at : (scope : Scope) (shape : Shape) (seen : judged.Names) (n : ℕ) → Ready units shapes scope shape seen → Fine (f seen)
        → Here units shapes n (x.make scope n).1 (inside (x.make scope n).0 shape) → Result inside Good shape (x.make scope n).0 (x.make scope n).1

  abbrev GoodExpr : ℕ → Shape → CoreExpr → Type 0
  GoodExpr m shape d = (L m).ExprFits shape (tested_expr d)

  abbrev GoodArm : ℕ → Shape → CoreArm → Type 0
  GoodArm m shape a =
      let x = out-TestArm (tested_arm a) in
      (L m).TestsFit shape x.pattern 1 0 × (L m).ExprFits (with_singles (bound_after x.pattern 0) shape) x.value

  abbrev GoodBranch : ℕ → Shape → CoreBranch → Type 0
  GoodBranch m shape b = let x = out-TestBranch (tested_branch b) in (L m).ExprFits shape x.condition × BlockIn units shapes shape x.block

  -- an abstraction's first unit is its own
  pub record ExprFit (x : OfExpr) (f : judged.OfExpr) : Type 0 where
    pub fit : PartFit in_core GoodExpr x.part f.at
    pub function : x.is_abstraction ≡ true → (scope : Scope) (shape : Shape) (n : ℕ)
        → Here units shapes n (x.part.make scope n).1 (in_core (x.part.make scope n).0 shape) → FunctionIn units shapes shape n

  abbrev pub E : Expr → Type 0
  E x = tree.is_formed_expr x ≡ true → ExprFit (made_expr x) (found_expr x)

  abbrev pub P : Pat → Type 0
  P x = tree.is_formed_pat x ≡ true → PatFit units shapes (made_pat x) (found_pat x)

  abbrev pub S : Stmt → Type 0
  S x = blocks.S units shapes x

  abbrev pub A : Arm → Type 0
  A x = tree.is_formed_arm x ≡ true → PartFit in_core_arm GoodArm (made_arm x) (found_arm x)

  abbrev pub B : Branch → Type 0
  B x = tree.is_formed_branch x ≡ true → PartFit in_core_branch GoodBranch (made_branch x) (found_branch x)

  expr_as : (x : Expr) (y : OfExpr) (g : judged.OfExpr) → made_expr x ≡ y → found_expr x ≡ g → ExprFit y g → ExprFit (made_expr x) (found_expr x)
  expr_as x y g is found h = subst (λ y. ExprFit y (found_expr x)) (sym is) (subst (ExprFit y) (sym found) h)

  pat_as : (x : Pat) (y : OfPat) (g : judged.OfPat) → made_pat x ≡ y → found_pat x ≡ g → PatFit units shapes y g → PatFit units shapes (made_pat x) (found_pat x)
  pat_as x y g is found h = subst (λ y. PatFit units shapes y (found_pat x)) (sym is) (subst (PatFit units shapes y) (sym found) h)

  stmt_as : (x : Stmt) (y : OfStmt) (g : judged.OfStmt) → made_stmt x ≡ y → found_stmt x ≡ g → StmtFit units shapes y g.at
      → StmtFit units shapes (made_stmt x) (found_stmt x).at
  stmt_as x y g is found h =
      subst (λ y. StmtFit units shapes y (found_stmt x).at) (sym is) (subst (λ (g : judged.OfStmt). StmtFit units shapes y g.at) (sym found) h)

  other_fit : (part : Part CoreExpr) (f : judged.Part) → PartFit in_core GoodExpr part f → ExprFit (made.other_expr part) (judged.plain f)
  other_fit part f h = record { fit = h; function = λ is. absurd (true≢false (sym is)) }

  -- ---- parts of parts

  -- a part that has no units
  leaf_fit : (f : Scope → CoreExpr) (g : judged.Part) → ((scope : Scope) (shape : Shape) → in_core (f scope) shape ≡ [])
      → ((scope : Scope) (shape : Shape) (seen : judged.Names) → Ready units shapes scope shape seen → Fine (g seen) → (m : ℕ) → GoodExpr m shape (f scope))
      → PartFit in_core GoodExpr (made.plain f) g
  leaf_fit f g none good = record {
    at = λ scope shape seen n ready fine h. (good scope shape seen ready fine, λ m. fit_as units shapes m [] _ [] (none scope shape) (none_fit units shapes m));
  }

  module _ {X Y : Type 0} (in_x : X → Inside) (in_y : Y → Inside) (Gx : ℕ → Shape → X → Type 0) (Gy : ℕ → Shape → Y → Type 0) where
    mapped_fit : (f : X → Y) (part : Part X) (u v : judged.Part) → ((x : X) (shape : Shape) → in_y (f x) shape ≡ in_x x shape)
        → ((shape : Shape) (x : X) → ((m : ℕ) → Gx m shape x) → (m : ℕ) → Gy m shape (f x)) → ((seen : judged.Names) → Fine (v seen) → Fine (u seen))
        → PartFit in_x Gx part u → PartFit in_y Gy (made.mapped f part) v
    mapped_fit f part u v is go fine_of h = record {
      at = λ scope shape seen n ready fine here.
          let x = part.make scope n in
          let own = h.at scope shape seen n ready (fine_of seen fine) (here_as units shapes n _ _ _ (is x.0 shape) here) in
          (go shape x.0 own.0, λ m. fit_as units shapes m _ _ _ (is x.0 shape) (own.1 m));
    }

  module _ {X Y Z : Type 0} (in_x : X → Inside) (in_y : Y → Inside) (in_z : Z → Inside) (Gx : ℕ → Shape → X → Type 0) (Gy : ℕ → Shape → Y → Type 0) (Gz : ℕ → Shape → Z → Type 0) where
    both_fit : (f : X → Y → Z) (a : Part X) (b : Part Y) (u v w : judged.Part) → ((x : X) (y : Y) (shape : Shape) → in_z (f x y) shape ≡ in_x x shape ++ in_y y shape)
        → ((shape : Shape) (x : X) (y : Y) → ((m : ℕ) → Gx m shape x) → ((m : ℕ) → Gy m shape y) → (m : ℕ) → Gz m shape (f x y))
        → ((seen : judged.Names) → Fine (w seen) → Fine (u seen) × Fine (v seen)) → PartWalks in_x a → Sized a
        → PartFit in_x Gx a u → PartFit in_y Gy b v → PartFit in_z Gz (both f a b) w
    both_fit f a b u v w is go fine_of walks sized h k = record {
      at = λ scope shape seen n ready fine here.
          let x = a.make scope n in
          let y = b.make scope (n + a.size) in
          let fines = fine_of seen fine in
          let first = walks.at scope n shape in
          let places = here_parts units shapes n a.size x.1 y.1 (in_x x.0 shape) (in_y y.0 shape) (sized scope n) first (here_as units shapes n _ _ _ (is x.0 y.0 shape) here) in
          let p = h.at scope shape seen n ready fines.0 places.0 in
          let q = k.at scope shape seen (n + a.size) ready fines.1 places.1 in
          (go shape x.0 y.0 p.0 q.0, λ m. fit_as units shapes m _ _ _ (is x.0 y.0 shape) (fit_both units shapes m x.1 y.1 _ _ first (p.1 m) (q.1 m)));
    }

  -- ---- lists of parts

  module _ {X : Type 0} (inside : X → Inside) (Good : ℕ → Shape → X → Type 0) where
    abbrev pub All : ℕ → Shape → List X → Type 0
    All m shape [] = Unit {0}
    All m shape (x ∷ xs) = Good m shape x × All m shape xs

    abbrev pub Parts : List (Part X) → List judged.Part → Type 0
    Parts [] [] = Unit {0}
    Parts (x ∷ xs) (f ∷ fs) = (PartFit inside Good x f × PartWalks inside x × Sized x) × Parts xs fs
    Parts _ _ = ⊥

    in_order_fit : (xs : List (Part X)) (fs : List judged.Part) → Parts xs fs
        → PartFit (λ ds shape. in_all (map inside ds) shape) All (in_order xs) (judged.in_all fs)
    in_order_fit [] [] h = record { at = λ scope shape seen n ready fine here. ((λ m. tt), none_fit units shapes) }
    in_order_fit (x ∷ xs) (f ∷ fs) h =
        both_fit inside (λ ds shape. in_all (map inside ds) shape) (λ ds shape. in_all (map inside ds) shape) Good All All (λ d ds. d ∷ ds) x (in_order xs) f (judged.in_all fs) (judged.in_all (f ∷ fs))
        (λ d ds shape. refl) (λ shape d ds p q m. (p m, q m)) (λ seen fine. fine_parts _ _ fine) h.0.1 h.0.2 h.0.0 (in_order_fit xs fs h.1)
    in_order_fit [] (f ∷ fs) h = absurd h
    in_order_fit (x ∷ xs) [] h = absurd h

    -- how many there are
    many : (xs : List (Part X)) (scope : Scope) (n : ℕ) → length ((in_order xs).make scope n).0 ≡ length xs
    many [] scope n = refl
    many (x ∷ xs) scope n = ap suc (many xs scope (n + x.size))

  expr_parts : (xs : Each E) → tree.all (map tree.is_formed_expr (nodes xs)) ≡ true
      → Parts in_core GoodExpr (map (λ x. x.part) (map made_expr (nodes xs))) (map (λ x. x.at) (map found_expr (nodes xs)))
  expr_parts [] all_formed = tt
  expr_parts (x ∷ xs) all_formed =
      let parts = and_parts _ _ all_formed in
      (((x.1 parts.0).fit, (expr_walks x.0).walks, sized_expr x.0), expr_parts xs parts.1)

  arm_parts : (xs : Each A) → tree.all (map tree.is_formed_arm (nodes xs)) ≡ true → Parts in_core_arm GoodArm (map made_arm (nodes xs)) (map found_arm (nodes xs))
  arm_parts [] all_formed = tt
  arm_parts (x ∷ xs) all_formed = let parts = and_parts _ _ all_formed in ((x.1 parts.0, arm_walks x.0, sized_arm x.0), arm_parts xs parts.1)

  branch_parts : (xs : Each B) → tree.all (map tree.is_formed_branch (nodes xs)) ≡ true
      → Parts in_core_branch GoodBranch (map made_branch (nodes xs)) (map found_branch (nodes xs))
  branch_parts [] all_formed = tt
  branch_parts (x ∷ xs) all_formed = let parts = and_parts _ _ all_formed in ((x.1 parts.0, branch_walks x.0, sized_branch x.0), branch_parts xs parts.1)

  exprs_all : (m : ℕ) (shape : Shape) (ds : List CoreExpr) → All in_core GoodExpr m shape ds → EachFits units shapes (L m) shape (map tested_expr ds)
  exprs_all m shape [] h = tt
  exprs_all m shape (d ∷ ds) h = (h.0, exprs_all m shape ds h.1)

  arms_all : (m : ℕ) (shape : Shape) (ds : List CoreArm) → All in_core_arm GoodArm m shape ds → ArmsFit units shapes (L m) shape (map tested_arm ds)
  arms_all m shape [] h = tt
  arms_all m shape (d ∷ ds) h = (h.0.0, h.0.1, arms_all m shape ds h.1)

  branches_all : (m : ℕ) (shape : Shape) (ds : List CoreBranch) → All in_core_branch GoodBranch m shape ds → BranchesFit units shapes (L m) shape (map tested_branch ds)
  branches_all m shape [] h = tt
  branches_all m shape (d ∷ ds) h = (h.0.0, h.0.1, branches_all m shape ds h.1)

  -- ---- a pattern, and what stands behind it

  record Scoped (d : CorePat) (z : CoreExpr) (us : List CoreUnit) (shape inner : Shape) : Type 0 where
    tests : (m : ℕ) → (L m).TestsFit shape (tested_pat d) 1 0
    value : (m : ℕ) → (L m).ExprFits (with_singles (bound_after (tested_pat d) 0) shape) (tested_expr z)
    fits : (m : ℕ) → AllFit units shapes m us (in_core_pat d shape ++ in_core z inner)

  bound_is : (x : Pat) → PatFit units shapes (made_pat x) (found_pat x) → (scope : Scope) (n : ℕ)
      → bound_after (tested_pat ((made_pat x).part.make scope n).0) 0 ≡ length (made_pat x).names
  bound_is x h scope n =
      ap (λ ts. bound_after ts 0) (sym (append-nil (tested_pat ((made_pat x).part.make scope n).0))) ∙ h.behind scope n [] 0 ∙ omega arith

  scoped_fit : (x : Pat) (a : Expr) → PatFit units shapes (made_pat x) (found_pat x) → ExprFit (made_expr a) (found_expr a) → (scope : Scope) (shape : Shape) (seen : judged.Names) (n c : ℕ)
      → c ≡ length (made_pat x).names → Ready units shapes scope shape seen → Fine (judged.scoped_by (found_pat x) (found_expr a) seen)
      → let d = (made_pat x).part.make scope n in
      let z = (made_expr a).part.make (with_marks (made_pat x).names scope) (n + (made_pat x).part.size) in
      Here units shapes n (d.1 ++ z.1) (in_core_pat d.0 shape ++ in_core z.0 (with_singles c shape)) → Scoped d.0 z.0 (d.1 ++ z.1) shape (with_singles c shape)
  scoped_fit x a h k scope shape seen n c is ready fine here =
      let names = (made_pat x).names in
      let count = length names in
      let next = n + (made_pat x).part.size in
      let d = (made_pat x).part.make scope n in
      let z = (made_expr a).part.make (with_marks names scope) next in
      let at_count = subst (λ c. Here units shapes n (d.1 ++ z.1) (in_core_pat d.0 shape ++ in_core z.0 (with_singles c shape))) is here in
      let walks = (pat_walks x).at scope n shape in
      let places = here_parts units shapes n (made_pat x).part.size d.1 z.1 (in_core_pat d.0 shape) (in_core z.0 (with_singles count shape)) (sized_pat x scope n) walks at_count in
      let fines = fine_parts ((found_pat x).at (fresh seen)) _ fine in
      let go = h.at scope shape (fresh seen) n 0 ready fines.0 (omega (arith, ready.few)) (omega (arith, ready.bounded)) places.0 in
      let same : (found_pat x).names ≡ names = found_names x ∙ sym (made_names x) in
      let inner : Ready units shapes (with_marks names scope) (with_singles count shape) ((found_pat x).names ++ seen) = record {
        fits = scope_singles units shapes names scope shape ready.fits;
        sees = subst (λ ns. Sees (with_marks ns scope) ((found_pat x).names ++ seen)) same (marks_seen (found_pat x).names scope seen ready.sees);
        few = omega (arith, ready.few, singles_more count shape, length-append (found_pat x).names seen, ap length same);
        bounded = omega (arith, go.bounded, singles_more count shape);
      } in
      let value = k.fit.at (with_marks names scope) (with_singles count shape) ((found_pat x).names ++ seen) next inner fines.1 places.1 in
      record {
        tests = tests_to units shapes shape d.0 d.1 count go;
        value = λ m. subst (λ c. (L m).ExprFits (with_singles c shape) (tested_expr z.0)) (sym (bound_is x h scope n)) (value.0 m);
        fits = λ m.
            subst (λ c. AllFit units shapes m (d.1 ++ z.1) (in_core_pat d.0 shape ++ in_core z.0 (with_singles c shape))) (sym is)
            (fit_both units shapes m d.1 z.1 (in_core_pat d.0 shape) (in_core z.0 (with_singles count shape)) walks (go.units_fit m) (value.1 m));
      }

  -- ---- expressions

  constant_fit : (c : Const) (x : Expr) → made_expr x ≡ made.constant c → found_expr x ≡ judged.plain (λ seen. []) → ConstFits c → ExprFit (made_expr x) (found_expr x)
  constant_fit c x is found h =
      expr_as x _ _ is found (other_fit _ _ (leaf_fit (λ scope. expr.Is c) (λ seen. []) (λ scope shape. core_is c shape)
      (λ scope shape seen ready fine. node_to units shapes shape _ (layer.TestExpr::Is c) (ap out-TestExpr (tested_is c) ∙ t.outs-Is c) (λ m. h))))

  abs_fit : (x : Pat) (a : Expr) → P x → E a → E (e.Abs x a)
  abs_fit x a h k is =
      let formeds = and_parts (tree.is_formed_pat x) (tree.is_formed_expr a) (sym (fold_of.fold_abs formed x a) ∙ is) in
      expr_as (e.Abs x a) _ _ (fold_of.fold_abs built x a) (fold_of.fold_abs looked x a) (record {
        fit = record {
          at = λ scope shape seen n ready fine here.
              let d = (made_pat x).part.make scope (suc n) in
              let z = (made_expr a).part.make (with_marks (made_pat x).names scope) (suc n + (made_pat x).part.size) in
              let own = here_unit units shapes n (unit.Abs d.0 z.0) (d.1 ++ z.1) shape (here_as units shapes n _ _ _ (core_abs n shape) here) in
              let bound = bound_is x (h formeds.0) scope (suc n) in
              let inside = scoped_fit x a (h formeds.0) (k formeds.1) scope shape seen (suc n) (bound_after (tested_pat d.0) 0) bound ready fine own.inside in (
                node_to units shapes shape _ (layer.Abs n) (ap out-TestExpr (tested_abs n) ∙ t.outs-Abs n)
                    (λ m. record { tests = tested_pat d.0; value = tested_expr z.0; is = own.is; stands = own.stands }),
                λ m. fit_as units shapes m _ _ _ (core_abs n shape) (fit_unit units shapes m (unit.Abs d.0 z.0) (d.1 ++ z.1) shape (inside.tests m, inside.value m) (inside.fits m)),
              );
        };
        function = λ yes scope shape n here.
            let d = (made_pat x).part.make scope (suc n) in
            let z = (made_expr a).part.make (with_marks (made_pat x).names scope) (suc n + (made_pat x).part.size) in
            let own = here_unit units shapes n (unit.Abs d.0 z.0) (d.1 ++ z.1) shape (here_as units shapes n _ _ _ (core_abs n shape) here) in
            record { tests = tested_pat d.0; value = tested_expr z.0; is = own.is; stands = own.stands };
      })

  -- a block's number
  abbrev in_number : ℕ → Inside
  in_number k shape = shape ∷ []

  abbrev GoodBlock : ℕ → Shape → ℕ → Type 0
  GoodBlock m shape k = BlockIn units shapes shape k

  block_part : (ss : Each S) → tree.all (map tree.is_formed_stmt (nodes ss)) ≡ true → PartFit in_number GoodBlock (block (map made_stmt (nodes ss))) (judged.block (map found_stmt (nodes ss)))
  block_part ss all_formed = record {
    at = λ scope shape seen n ready fine here. let all = block_fits units shapes ss all_formed scope shape seen n ready fine here in ((λ m. all.0), all.1);
  }

  block_fit : (ss : Each S) → E (e.Block (nodes ss))
  block_fit ss is =
      expr_as _ _ _ (fold_of.fold_block built (nodes ss)) (fold_of.fold_block looked (nodes ss))
      (other_fit _ _ (mapped_fit in_number in_core GoodBlock GoodExpr expr.Block _ (judged.block (map found_stmt (nodes ss))) _ core_block
      (λ shape k h. node_to units shapes shape _ (layer.Block k) (ap out-TestExpr (tested_block k) ∙ t.outs-Block k) h) (λ seen fine. fine)
      (block_part ss (sym (fold_of.fold_block formed (nodes ss)) ∙ is))))

  call_fit : (f a : Expr) → E f → E a → E (e.Call f a)
  call_fit f a h k is =
      let formeds = and_parts (tree.is_formed_expr f) (tree.is_formed_expr a) (sym (fold_of.fold_call formed f a) ∙ is) in
      expr_as _ _ _ (fold_of.fold_call built f a) (fold_of.fold_call looked f a)
      (other_fit _ _ (both_fit in_core in_core in_core GoodExpr GoodExpr GoodExpr expr.Call (made_expr f).part (made_expr a).part (found_expr f).at (found_expr a).at _ core_call
      (λ shape x y p q. node_to units shapes shape _ (layer.Call (tested_expr x) (tested_expr y)) (ap out-TestExpr (tested_call x y) ∙ t.outs-Call _ _) (λ m. (p m, q m)))
      (λ seen fine. let fines = fine_parts _ _ fine in (fines.0, (fine_parts _ _ fines.1).0)) (expr_walks f).walks (sized_expr f) (h formeds.0).fit (k formeds.1).fit))

  -- at least so many
  at_least : {X : Type 0} (k : ℕ) (xs : List X) (count : ℕ) (test : X → Bool) → length xs ≡ count → nat_le k (length (map test xs)) ≡ true → k ≤ count
  at_least k xs count test same h = let long = length-map xs test in grind (arith, nat_tests)

  tuple_fit : (xs : Each E) → E (e.Tuple (nodes xs))
  tuple_fit xs is =
      let tests = map tree.is_formed_expr (nodes xs) in
      let formeds = and_parts (nat_le 2 (length tests)) (tree.all tests) (sym (fold_of.fold_tuple formed (nodes xs)) ∙ is) in
      let parts = map (λ (x : OfExpr). x.part) (map made_expr (nodes xs)) in
      let counted : length parts ≡ length (nodes xs) = length-map (map made_expr (nodes xs)) (λ (x : OfExpr). x.part) ∙ length-map (nodes xs) made_expr in
      expr_as _ _ _ (fold_of.fold_tuple built (nodes xs)) (fold_of.fold_tuple looked (nodes xs))
      (other_fit _ _ (record {
        at = λ scope shape seen n ready fine here.
            let ds = (in_order parts).make scope n in
            let all = (in_order_fit in_core GoodExpr parts _ (expr_parts xs formeds.1)).at scope shape seen n ready fine (here_as units shapes n _ _ _ (core_tuple ds.0 shape) here) in
            let two = at_least 2 (nodes xs) (length (map tested_expr ds.0)) tree.is_formed_expr (sym (length-map ds.0 tested_expr ∙ many in_core GoodExpr parts scope n ∙ counted)) formeds.0 in (
              node_to units shapes shape _ (layer.Tuple (map tested_expr ds.0)) (ap out-TestExpr (tested_tuple ds.0) ∙ t.outs-Tuple _) (λ m. (two, exprs_all m shape ds.0 (all.0 m))),
              λ m. fit_as units shapes m _ _ _ (core_tuple ds.0 shape) (all.1 m),
            );
      }))

  new_fit : (a : Expr) → E a → E (e.New a)
  new_fit a h is =
      expr_as _ _ _ (fold_of.fold_new built a) (fold_of.fold_new looked a)
      (other_fit _ _ (mapped_fit in_core in_core GoodExpr GoodExpr expr.New (made_expr a).part (found_expr a).at _ core_new
      (λ shape d h. node_to units shapes shape _ (layer.New (tested_expr d)) (ap out-TestExpr (tested_new d) ∙ t.outs-New _) h) (λ seen fine. fine)
      (h (sym (fold_of.fold_new formed a) ∙ is)).fit))

  case_fit : (a : Expr) (xs : Each A) → E a → E (e.Case a (nodes xs))
  case_fit a xs h is =
      let tests = map tree.is_formed_arm (nodes xs) in
      let some = nat_le 1 (length tests) in
      let formeds = and_parts (some && tree.is_formed_expr a) (tree.all tests) (sym (fold_of.fold_case formed a (nodes xs)) ∙ is) in
      let first = and_parts some (tree.is_formed_expr a) formeds.0 in
      let parts = map made_arm (nodes xs) in
      let founds = map found_arm (nodes xs) in
      expr_as _ _ _ (fold_of.fold_case built a (nodes xs)) (fold_of.fold_case looked a (nodes xs))
      (other_fit _ _ (record {
        at = λ scope shape seen n ready fine here.
            let d = (made_expr a).part.make scope n in
            let next = n + (made_expr a).part.size in
            let ds = (in_order parts).make scope next in
            let fines = fine_parts ((found_expr a).at seen) (judged.in_all founds seen) fine in
            let walks = (expr_walks a).walks.at scope n shape in
            let places = here_parts units shapes n (made_expr a).part.size d.1 ds.1 (in_core d.0 shape) (in_all (map in_core_arm ds.0) shape) (sized_expr a scope n) walks
            (here_as units shapes n _ _ _ (core_case d.0 ds.0 shape) here) in
            let own = (h first.1).fit.at scope shape seen n ready fines.0 places.0 in
            let all = (in_order_fit in_core_arm GoodArm parts founds (arm_parts xs formeds.1)).at scope shape seen next ready fines.1 places.1 in
            let one = at_least 1 (nodes xs) (length (map tested_arm ds.0)) tree.is_formed_arm
            (sym (length-map ds.0 tested_arm ∙ many in_core_arm GoodArm parts scope next ∙ length-map (nodes xs) made_arm)) first.0 in (
              node_to units shapes shape _ (layer.Case (tested_expr d.0) (map tested_arm ds.0)) (ap out-TestExpr (tested_case d.0 ds.0) ∙ t.outs-Case _ _)
                  (λ m. (own.0 m, one, arms_all m shape ds.0 (all.0 m))),
              λ m. fit_as units shapes m _ _ _ (core_case d.0 ds.0 shape) (fit_both units shapes m d.1 ds.1 _ _ walks (own.1 m) (all.1 m)),
            );
      }))

  branches_walk : (xs : Each B) → PartWalks (λ ds shape. in_all (map in_core_branch ds) shape) (in_order (map made_branch (nodes xs)))
  branches_walk xs = in_order_walk in_core_branch _ (each_of B made_branch in_core_branch xs (λ x h. branch_walks x))

  if_fit : (xs : Each B) (ys : Each S) (w : judged.Part) → tree.all (map tree.is_formed_branch (nodes xs)) ≡ true → tree.all (map tree.is_formed_stmt (nodes ys)) ≡ true
      → ((seen : judged.Names) → Fine (w seen) → Fine (judged.in_all (map found_branch (nodes xs)) seen) × Fine (judged.block (map found_stmt (nodes ys)) seen))
      → ExprFit (made.other_expr (both expr.If (in_order (map made_branch (nodes xs))) (block (map made_stmt (nodes ys))))) (judged.plain w)
  if_fit xs ys w all_formed other fine_of =
      let parts = map made_branch (nodes xs) in
      other_fit _ _ (both_fit (λ ds shape. in_all (map in_core_branch ds) shape) in_number in_core (All in_core_branch GoodBranch) GoodBlock GoodExpr expr.If (in_order parts) (block (map made_stmt (nodes ys)))
      (judged.in_all (map found_branch (nodes xs))) (judged.block (map found_stmt (nodes ys))) w core_if
      (λ shape ds k p q. node_to units shapes shape _ (layer.If (map tested_branch ds) k) (ap out-TestExpr (tested_if ds k) ∙ t.outs-If _ k) (λ m. (branches_all m shape ds (p m), q m)))
      fine_of (branches_walk xs) (sized_branches (λ x. x.0) xs (λ x. sized_branch x.0)) (in_order_fit in_core_branch GoodBranch parts _ (branch_parts xs all_formed)) (block_part ys other))

  -- ---- patterns

  -- a pattern that is one test without an expression, and binds nothing
  leaf_pat : (x : Pat) (y : OfPat) (g : judged.OfPat) (d : CorePat) (u : Test) (node : Test-F Test TestExpr TestArm TestBranch) → made_pat x ≡ y → found_pat x ≡ g
      → y.names ≡ [] → y.is_name ≡ false → ((scope : Scope) (n : ℕ) → y.part.make scope n ≡ (d, [])) → tested_pat d ≡ u ∷ [] → out-Test u ≡ node
      → ((n : ℕ) → left_behind node n ≡ n) → ((n : ℕ) → bound_behind node n ≡ 0 + n) → ((shape : Shape) → in_core_pat d shape ≡ [])
      → ((m : ℕ) (shape : Shape) (k : ℕ) → TestFits units shapes (L m) shape node k) → PatFit units shapes (made_pat x) (found_pat x)
  leaf_pat x y g d u node is found none unnamed made_is tested out left more inside fits =
      pat_as x y g is found (record {
        at = λ scope shape place n k ready fine few most here.
            subst (λ z. TestsGo units shapes (length y.names) z.0 z.1 shape k) (sym (made_is scope n))
            (subst (λ ns. TestsGo units shapes (length ns) d [] shape k) (sym none)
            (one_go units shapes 0 d [] shape k u node tested out left (more k) (omega (arith, most)) (λ m. fits m shape k) (λ m. fit_as units shapes m [] _ [] (inside shape) (none_fit units shapes m))));
        behind = λ scope n rest k.
            subst (λ z. bound_after (tested_pat z.0 ++ rest) k ≡ bound_after rest (length y.names + k)) (sym (made_is scope n))
            (subst (λ ns. bound_after (tested_pat d ++ rest) k ≡ bound_after rest (length ns + k)) (sym none) (one_behind units shapes 0 d u node tested out more rest k));
        name = λ yes. absurd (true≢false (sym yes ∙ unnamed));
      })

  constant_pat : (c : Const) (x : Pat) → made_pat x ≡ made.constant_pat c → found_pat x ≡ judged.other_pat [] (λ place. []) → ConstFits c → PatFit units shapes (made_pat x) (found_pat x)
  constant_pat c x is found h =
      leaf_pat x _ _ (pat.Is c) (test.Is c) (layer.Test::Is c) is found refl refl (λ scope n. refl) (tested_constant c) (test.outs-Is c) (λ n. refl) (λ n. omega arith)
      (λ shape. core_constant c shape) (λ m shape k. h)

  any_pat : P p.Any
  any_pat is =
      leaf_pat p.Any _ _ pat.Any test.Skip layer.Skip (fold_of.fold_any built) (fold_of.fold_any looked) refl refl (λ scope n. refl) tested_any test.outs-Skip (λ n. refl) (λ n. omega arith)
      core_any (λ m shape k. tt)

  bind_pat : (name : List ℕ) → P (p.Bind name)
  bind_pat name is =
      pat_as (p.Bind name) _ _ (fold_of.fold_bind built name) (fold_of.fold_bind looked name) (record {
        at = λ scope shape place n k ready fine few most here.
            let free = room place name fine in
            one_go units shapes 1 pat.Bind [] shape k test.Bind layer.Bind tested_bind test.outs-Bind (λ n. refl) (omega arith) (omega (arith, free, few)) (λ m. tt)
            (λ m. fit_as units shapes m [] _ [] (core_bind shape) (none_fit units shapes m));
        behind = λ scope n rest k. one_behind units shapes 1 pat.Bind test.Bind layer.Bind tested_bind test.outs-Bind (λ n. omega arith) rest k;
        name = λ yes. (refl, λ place fine. room place name fine);
      })

  value_pat : (a : Expr) → E a → P (p.Value a)
  value_pat a h is =
      pat_as (p.Value a) _ _ (fold_of.fold_value built a) (fold_of.fold_value looked a) (record {
        at = λ scope shape place n k ready fine few most here.
            let d = (made_expr a).part.make scope n in
            let own = (h (sym (fold_of.fold_value formed a) ∙ is)).fit.at scope shape place.seen n ready fine (here_as units shapes n _ _ _ (core_value d.0 shape) here) in
            one_go units shapes 0 (pat.Value d.0) d.1 shape k (test.Same (tested_expr d.0)) (layer.Same (tested_expr d.0)) (tested_value d.0) (test.outs-Same _) (λ n. refl) (omega arith)
            (omega (arith, most)) (λ m. (own.0 m, omega (arith, most))) (λ m. fit_as units shapes m _ _ _ (core_value d.0 shape) (own.1 m));
        behind = λ scope n rest k.
            let d = (made_expr a).part.make scope n in
            one_behind units shapes 0 (pat.Value d.0) (test.Same (tested_expr d.0)) (layer.Same (tested_expr d.0)) (tested_value d.0) (test.outs-Same _) (λ n. omega arith) rest k;
        name = λ yes. absurd (true≢false (sym yes));
      })

  tuple_go : (xs : Each P) → nat_le 2 (length (map tree.is_formed_pat (nodes xs))) ≡ true → patterns.Items units shapes xs
  tuple_go [] h = absurd (cc)
  tuple_go (x ∷ xs) h = items_go units shapes xs x

  tuple_pat : (xs : Each P) → P (p.Tuple (nodes xs))
  tuple_pat xs is =
      let tests = map tree.is_formed_pat (nodes xs) in
      let formeds = and_parts (nat_le 2 (length tests)) (tree.all tests) (sym (fold_of.fold_pat_tuple formed (nodes xs)) ∙ is) in
      pat_as (p.Tuple (nodes xs)) _ _ (fold_of.fold_pat_tuple built (nodes xs)) (fold_of.fold_pat_tuple looked (nodes xs)) (record {
        at = λ scope shape place n k ready fine few most here.
            let ds = (patterns.made_items units shapes xs).make scope n in
            let go = tuple_go xs formeds.0 formeds.1 scope shape place n k ready fine few most (here_as units shapes n _ _ _ (core_items ds.0 shape) here) in
            record {
              bounded = go.bounded;
              tests = λ m rest values h.
                  subst (λ ts. EachTestFits units shapes (L m) shape (ts ++ rest) (suc values) k) (sym (tested_items ds.0)) (go.tests m rest values h);
              units_fit = λ m. fit_as units shapes m _ _ _ (core_items ds.0 shape) (go.units_fit m);
            };
        behind = λ scope n rest k.
            ap (λ ts. bound_after (ts ++ rest) k) (tested_items ((patterns.made_items units shapes xs).make scope n).0) ∙ items_behind units shapes xs formeds.1 scope n rest k;
        name = λ yes. absurd (true≢false (sym yes));
      })

  -- ---- statements

  let_fit : (x : Pat) (a : Expr) → P x → E a → (b : Bool) → (b ≡ true → ((made_pat x).is_name ≡ true) × ((made_expr a).is_abstraction ≡ true))
      → tree.is_formed_pat x ≡ true → tree.is_formed_expr a ≡ true
      → StmtFit units shapes (let_stmt b (made_pat x) (made_expr a)) (λ place. (found_pat x).at place ++ (found_expr a).at place.seen)
  let_fit x a h k true both_so fx fa =
      let so = both_so refl in
      let inside : (scope : Scope) (n : ℕ) (shape : Shape) → in_core ((made_expr a).part.make scope n).0 shape ≡ shape ∷ [] = λ scope n shape.
      ap (λ d. in_core d shape) ((expr_walks a).abstraction so.1 scope n) ∙ core_abs n shape in
      record {
        at = λ scope shape place n ready fine few here.
            let own = (k fa).fit.at scope shape place.seen n ready (fine_parts _ _ fine).1 (here_as units shapes n _ _ _ (sym (inside scope n shape)) here) in
            ((λ m. tt), (λ m. fit_as units shapes m _ _ _ (sym (inside scope n shape)) (own.1 m)), tt);
        behind = λ scope n shape. refl;
        function = λ scope shape n here. (k fa).function so.1 scope shape n (here_as units shapes n _ _ _ (sym (inside scope n shape)) here);
        room = (((h fx).name so.0).0, λ place fine. ((h fx).name so.0).1 place (fine_parts _ _ fine).0);
      }
  let_fit x a h k false both_so fx fa = record {
    at = λ scope shape place n ready fine few here.
        let d = (made_pat x).part.make scope n in
        let next = n + (made_pat x).part.size in
        let z = (made_expr a).part.make scope next in
        let walks = (pat_walks x).at scope n shape in
        let places = here_parts units shapes n (made_pat x).part.size d.1 z.1 (in_core_pat d.0 shape) (in_core z.0 shape) (sized_pat x scope n) walks here in
        let fines = fine_parts ((found_pat x).at place) ((found_expr a).at place.seen) fine in
        let go = (h fx).at scope shape place n 0 ready fines.0 (omega (arith, few)) (omega (arith, ready.bounded)) places.0 in
        let own = (k fa).fit.at scope shape place.seen next ready fines.1 places.1 in (
          λ m. (tests_to units shapes shape d.0 d.1 _ go m, own.0 m),
          λ m. fit_both units shapes m d.1 z.1 (in_core_pat d.0 shape) (in_core z.0 shape) walks (go.units_fit m) (own.1 m),
          omega (arith, go.bounded),
        );
    behind = λ scope n shape. ap (λ c. with_singles c shape) (bound_is x (h fx) scope n);
    function = tt;
    room = tt;
  }

  -- a statement that is one expression, and binds nothing
  act_fit : (x : Stmt) (a : Expr) (f : CoreExpr → CoreStmt) → made_stmt x ≡ made.act (made.mapped f (made_expr a).part) → found_stmt x ≡ judged.act (found_expr a ∷ [])
      → ((d : CoreExpr) (shape : Shape) → in_core_stmt (f d) shape ≡ in_core d shape)
      → ((m : ℕ) (d : CoreExpr) (shape : Shape) → GoodExpr m shape d → StatementFits units shapes (L m) (tested_stmt (f d)) shape)
      → ((d : CoreExpr) (shape : Shape) → behind_statement (tested_stmt (f d)) shape ≡ shape) → ExprFit (made_expr a) (found_expr a)
      → StmtFit units shapes (made_stmt x) (found_stmt x).at
  act_fit x a f is found same good behind h =
      stmt_as x _ _ is found (record {
        at = λ scope shape place n ready fine few here.
            let d = (made_expr a).part.make scope n in
            let own = h.fit.at scope shape place.seen n ready (fine_parts _ _ fine).0 (here_as units shapes n _ _ _ (same d.0 shape) here) in
            ((λ m. good m d.0 shape (own.0 m)), (λ m. fit_as units shapes m _ _ _ (same d.0 shape) (own.1 m)), tt);
        behind = λ scope n shape. behind ((made_expr a).part.make scope n).0 shape;
        function = tt;
        room = tt;
      })

  send_fit : (a b : Expr) → E a → E b → S (s.Send a b)
  send_fit a b h k is =
      let formeds = and_parts (tree.is_formed_expr a) (tree.is_formed_expr b) (sym (fold_of.fold_send formed a b) ∙ is) in
      stmt_as (s.Send a b) _ _ (fold_of.fold_send built a b) (fold_of.fold_send looked a b) (record {
        at = λ scope shape place n ready fine few here.
            let d = (made_expr a).part.make scope n in
            let next = n + (made_expr a).part.size in
            let z = (made_expr b).part.make scope next in
            let walks = (expr_walks a).walks.at scope n shape in
            let places = here_parts units shapes n (made_expr a).part.size d.1 z.1 (in_core d.0 shape) (in_core z.0 shape) (sized_expr a scope n) walks here in
            let fines = fine_parts ((found_expr a).at place.seen) _ fine in
            let p = (h formeds.0).fit.at scope shape place.seen n ready fines.0 places.0 in
            let q = (k formeds.1).fit.at scope shape place.seen next ready (fine_parts _ _ fines.1).0 places.1 in (
              λ m. (p.0 m, q.0 m),
              λ m. fit_both units shapes m d.1 z.1 (in_core d.0 shape) (in_core z.0 shape) walks (p.1 m) (q.1 m),
              tt,
            );
        behind = λ scope n shape. refl;
        function = tt;
        room = tt;
      })

  create_fit : (name : List ℕ) (a : Expr) → E a → S (s.Create name a)
  create_fit name a h is =
      let formeds = and_parts (is_name name) (tree.is_formed_expr a) (sym (fold_of.fold_create formed name a) ∙ is) in
      stmt_as (s.Create name a) _ _ (fold_of.fold_create built name a) (fold_of.fold_create looked name a) (record {
        at = λ scope shape place n ready fine few here.
            let fines = fine_parts (bound place name ∷ []) _ fine in
            let free = room place name fines.0 in
            let own = (h formeds.1).fit.at scope shape place.seen n ready fines.1 here in
            (own.0, own.1, omega (arith, few, free));
        behind = λ scope n shape. refl;
        function = tt;
        room = tt;
      })

  -- ---- every node

  arm_fit : (x : Pat) (a : Expr) → P x → E a → A (arm x a)
  arm_fit x a h k is =
      let formeds = and_parts (tree.is_formed_pat x) (tree.is_formed_expr a) (sym (fold_of.fold_arm formed x a) ∙ is) in
      let fit : PartFit in_core_arm GoodArm (made.of_arm (record { pattern = made_pat x; value = made_expr a })) (judged.of_arm (record { pattern = found_pat x; value = found_expr a })) = record {
        at = λ scope shape seen n ready fine here.
            let d = (made_pat x).part.make scope n in
            let z = (made_expr a).part.make (with_marks (made_pat x).names scope) (n + (made_pat x).part.size) in
            let count = after_is (tested_pat d.0) 0 ∙ bound_is x (h formeds.0) scope n in
            let inside = scoped_fit x a (h formeds.0) (k formeds.1) scope shape seen n (after_all (map of_one_test (tested_pat d.0)) 0) count ready fine (here_as units shapes n _ _ _ (core_arm d.0 z.0 shape) here) in
            let seen_as = ap out-TestArm (tested_one_arm d.0 z.0) ∙ out-roll-TestArm (record { pattern = tested_pat d.0; value = tested_expr z.0 }) in (
              λ m. subst (λ (y : TestArm-F Test TestExpr TestArm TestBranch). (L m).TestsFit shape y.pattern 1 0 × (L m).ExprFits (with_singles (bound_after y.pattern 0) shape) y.value) (sym seen_as) (inside.tests m, inside.value m),
              λ m. fit_as units shapes m _ _ _ (core_arm d.0 z.0 shape) (inside.fits m),
            );
      } in
      subst (λ y. PartFit in_core_arm GoodArm y (found_arm (arm x a))) (sym (fold_of.fold_arm built x a))
      (subst (λ (f : judged.Part). PartFit in_core_arm GoodArm (made.of_arm (record { pattern = made_pat x; value = made_expr a })) f) (sym (fold_of.fold_arm looked x a)) fit)

  branch_fit : (a : Expr) (xs : Each S) → E a → B (branch a (nodes xs))
  branch_fit a xs h is =
      let formeds = and_parts (tree.is_formed_expr a) (tree.all (map tree.is_formed_stmt (nodes xs))) (sym (fold_of.fold_branch formed a (nodes xs)) ∙ is) in
      let part = block (map made_stmt (nodes xs)) in
      let y = made.of_branch (record { condition = made_expr a; block = map made_stmt (nodes xs) }) in
      let f = judged.of_branch (record { condition = found_expr a; block = map found_stmt (nodes xs) }) in
      let fit : PartFit in_core_branch GoodBranch y f =
      both_fit in_core in_number in_core_branch GoodExpr GoodBlock GoodBranch _ (made_expr a).part part (found_expr a).at (judged.block (map found_stmt (nodes xs))) f core_branch
      (λ shape d k p q m. subst (λ (y : TestBranch-F Test TestExpr TestArm TestBranch). (L m).ExprFits shape y.condition × BlockIn units shapes shape y.block)
      (sym (ap out-TestBranch (tested_one_branch d k) ∙ out-roll-TestBranch (record { condition = tested_expr d; block = k }))) (p m, q m))
      (λ seen fine. let fines = fine_parts ((found_expr a).at seen) _ fine in (fines.0, (fine_parts _ _ fines.1).0))
      (expr_walks a).walks (sized_expr a) (h formeds.0).fit (block_part xs formeds.1) in
      subst (λ y. PartFit in_core_branch GoodBranch y (found_branch (branch a (nodes xs)))) (sym (fold_of.fold_branch built a (nodes xs)))
      (subst (λ (f : judged.Part). PartFit in_core_branch GoodBranch y f) (sym (fold_of.fold_branch looked a (nodes xs))) fit)

  var_fit : (name : List ℕ) → E (e.Var name)
  var_fit name is =
      expr_as (e.Var name) _ _ (fold_of.fold_var built name) (fold_of.fold_var looked name)
      (other_fit _ _ (leaf_fit (λ scope. expr.Var (slot_or_newest (slot_of scope name))) _ (λ scope shape. core_var _ shape)
      (λ scope shape seen ready fine.
      let slot = slot_or_newest (slot_of scope name) in
      let found = slot_fits units shapes scope shape name slot ready.fits (use_found scope seen name ready.sees fine) in
      node_to units shapes shape _ (layer.Var slot) (ap out-TestExpr (tested_var slot) ∙ t.outs-Var slot) (λ m. (found.0, omega (arith, found.1, ready.bounded))))))

  text_fit : (points : List ℕ) → E (e.Text points)
  text_fit points is =
      expr_as (e.Text points) _ _ (fold_of.fold_text built points) (fold_of.fold_text looked points)
      (other_fit _ _ (leaf_fit (λ scope. expr.Text points) _ (λ scope shape. core_text points shape)
      (λ scope shape seen ready fine. node_to units shapes shape _ (layer.Text points) (ap out-TestExpr (tested_text points) ∙ t.outs-Text points)
      (λ m. text_fits points (sym (fold_of.fold_text formed points) ∙ is)))))

  myself_fit : E e.Myself
  myself_fit is =
      expr_as e.Myself _ _ (fold_of.fold_myself built) (fold_of.fold_myself looked)
      (other_fit _ _ (leaf_fit (λ scope. expr.Myself) _ (λ scope shape. core_myself shape)
      (λ scope shape seen ready fine. node_to units shapes shape _ layer.Myself (ap out-TestExpr tested_myself ∙ t.outs-Myself) (λ m. tt))))

  if_none : (xs : Each B) → E (e.If (nodes xs) None)
  if_none xs is =
      let tests = map tree.is_formed_branch (nodes xs) in
      let formeds = and_parts (nat_le 1 (length tests)) (tree.all tests) (sym (fold_of.fold_if formed (nodes xs)) ∙ is) in
      expr_as (e.If (nodes xs) None) _ _ (fold_of.fold_if built (nodes xs)) (fold_of.fold_if looked (nodes xs))
      (if_fit xs [] (judged.in_all (map found_branch (nodes xs))) formeds.1 refl (λ seen fine. (fine, record { none = refl })))

  if_some : (xs : Each B) (ys : Each S) → E (e.If (nodes xs) (Some (nodes ys)))
  if_some xs ys is =
      let tests = map tree.is_formed_branch (nodes xs) in
      let some = nat_le 1 (length tests) in
      let formeds = and_parts (some && tree.all tests) (tree.all (map tree.is_formed_stmt (nodes ys))) (sym (fold_of.fold_if_else formed (nodes xs) (nodes ys)) ∙ is) in
      let founds = map found_branch (nodes xs) in
      let other = judged.block (map found_stmt (nodes ys)) in
      expr_as (e.If (nodes xs) (Some (nodes ys))) _ _ (fold_of.fold_if_else built (nodes xs) (nodes ys)) (fold_of.fold_if_else looked (nodes xs) (nodes ys))
      (if_fit xs ys (judged.in_all (founds ++ other ∷ [])) (and_parts some (tree.all tests) formeds.0).1 formeds.1
      (λ seen fine.
      let fines = fine_parts (judged.in_all founds seen) (judged.in_all (other ∷ []) seen) (subst Fine (flat_map-append (λ (part : judged.Part). part seen) founds (other ∷ [])) fine) in
      (fines.0, (fine_parts (other seen) [] fines.1).0)))

  let_here : (x : Pat) (a : Expr) → P x → E a → S (s.Let x a)
  let_here x a h k is =
      let formeds = and_parts (tree.is_formed_pat x) (tree.is_formed_expr a) (sym (fold_of.fold_let formed x a) ∙ is) in
      stmt_as (s.Let x a) _ _ (fold_of.fold_let built x a) (fold_of.fold_let looked x a)
      (let_fit x a h k ((made_pat x).is_name && (made_expr a).is_abstraction) (λ yes. and_parts (made_pat x).is_name (made_expr a).is_abstraction yes) formeds.0 formeds.1)

  cases : Cases E P S A B
  cases = record {
    at_undef = λ is. constant_fit const.Undef e.Undef (fold_of.fold_undef built) (fold_of.fold_undef looked) tt;
    at_nil = λ is. constant_fit const.Nil e.Nil (fold_of.fold_nil built) (fold_of.fold_nil looked) tt;
    at_true = λ is. constant_fit const.True e.True (fold_of.fold_true built) (fold_of.fold_true looked) tt;
    at_false = λ is. constant_fit const.False e.False (fold_of.fold_false built) (fold_of.fold_false looked) tt;
    at_num = λ z is. constant_fit (const.Num z) (e.Num z) (fold_of.fold_num built z) (fold_of.fold_num looked z) (range_fits z (sym (fold_of.fold_num formed z) ∙ is));
    at_sym = λ x is. constant_fit (const.Sym x) (e.Sym x) (fold_of.fold_sym built x) (fold_of.fold_sym looked x) (sym (fold_of.fold_sym formed x ∙ same_run x) ∙ is);
    at_text = text_fit;
    at_var = var_fit;
    at_myself = myself_fit;
    at_abs = abs_fit;
    at_block = block_fit;
    at_call = call_fit;
    at_tuple = tuple_fit;
    at_new = new_fit;
    at_case = case_fit;
    at_if = if_none;
    at_if_else = if_some;
    at_any = any_pat;
    at_bind = bind_pat;
    at_pat_undef = λ is. constant_pat const.Undef p.Undef (fold_of.fold_pat_undef built) (fold_of.fold_pat_undef looked) tt;
    at_pat_nil = λ is. constant_pat const.Nil p.Nil (fold_of.fold_pat_nil built) (fold_of.fold_pat_nil looked) tt;
    at_pat_true = λ is. constant_pat const.True p.True (fold_of.fold_pat_true built) (fold_of.fold_pat_true looked) tt;
    at_pat_false = λ is. constant_pat const.False p.False (fold_of.fold_pat_false built) (fold_of.fold_pat_false looked) tt;
    at_pat_num = λ z is. constant_pat (const.Num z) (p.Num z) (fold_of.fold_pat_num built z) (fold_of.fold_pat_num looked z) (range_fits z (sym (fold_of.fold_pat_num formed z) ∙ is));
    at_pat_sym = λ x is. constant_pat (const.Sym x) (p.Sym x) (fold_of.fold_pat_sym built x) (fold_of.fold_pat_sym looked x) (sym (fold_of.fold_pat_sym formed x ∙ same_run x) ∙ is);
    at_value = value_pat;
    at_pat_tuple = tuple_pat;
    at_let = let_here;
    at_send = send_fit;
    at_create = create_fit;
    at_become = λ a h is.
        act_fit (s.Become a) a stmt.Become (fold_of.fold_become built a) (fold_of.fold_become looked a) (λ d shape. refl) (λ m d shape g. g) (λ d shape. refl) (h (sym (fold_of.fold_become formed a) ∙ is));
    at_throw = λ a h is.
        act_fit (s.Throw a) a stmt.Throw (fold_of.fold_throw built a) (fold_of.fold_throw looked a) (λ d shape. refl) (λ m d shape g. g) (λ d shape. refl) (h (sym (fold_of.fold_throw formed a) ∙ is));
    at_do = λ a h is.
        act_fit (s.Do a) a stmt.Do (fold_of.fold_do built a) (fold_of.fold_do looked a) (λ d shape. refl) (λ m d shape g. g) (λ d shape. refl) (h (sym (fold_of.fold_do formed a) ∙ is));
    at_arm = arm_fit;
    at_branch = branch_fit;
  }

  pub stmt_fit : (x : Stmt) → S x
  stmt_fit = every_stmt cases
