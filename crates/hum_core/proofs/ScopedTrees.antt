-- A tree in which no name is refused stands for what it becomes.
use Rattle.std.proofs.Common.{◌≡◌, refl, ap, sym, subst, ◌∙◌, ℕ, zero, suc, ◌+◌, Bool, true, false, List, [], ◌∷◌, ◌++◌, map, Some, None}
use Rattle.std.proofs.lemmas.List.Concat.{flat_map-append}
use Rattle.hum_syntax.specs.declared.tree.Expr.{Expr, out-Expr}
use Rattle.hum_syntax.specs.declared.tree.Pat.{Pat, out-Pat}
use Rattle.hum_syntax.specs.declared.tree.Stmt.{Stmt}
use Rattle.hum_syntax.specs.declared.tree.Arm.{Arm, out-Arm}
use Rattle.hum_syntax.specs.declared.tree.Branch.{Branch, out-Branch}
use Rattle.hum_syntax.specs.declared.tree.Expr.TheOpen.{Expr-F, Pat-F, Stmt-F, Arm-F, Branch-F}
use Rattle.hum_syntax.specs.declared.tree.Expr.TheOpen as layer
use Rattle.hum_syntax.specs.declared.tree.Expr.TheFolds as folds
use Rattle.hum_syntax.specs.declared.tree.Expr.TheViews.{roll-Expr, roll-Pat, roll-Stmt, roll-Arm, roll-Branch, out-roll-Expr, out-roll-Pat, out-roll-Stmt, out-roll-Arm, out-roll-Branch}
use Rattle.hum_core.specs.declared.slot.Const.TheVariants as const
use Rattle.hum_core.specs.declared.resolved.CoreUnit.{CoreUnit}
use Rattle.hum_core.specs.declared.resolved.CoreExpr.{CoreExpr, out-CoreExpr}
use Rattle.hum_core.specs.declared.resolved.CoreExpr.TheVariants as expr
use Rattle.hum_core.specs.declared.resolved.CorePat.{CorePat, out-CorePat}
use Rattle.hum_core.specs.declared.resolved.CorePat.TheVariants as pat
use Rattle.hum_core.specs.declared.resolved.CoreArm.{CoreArm}
use Rattle.hum_core.specs.declared.resolved.CoreBranch.{CoreBranch}
use Rattle.hum_core.specs.declared.resolved.CoreExpr.TheOpen.{CoreExpr-F, CorePat-F}
use Rattle.hum_core.specs.declared.resolved.CoreExpr.TheViews.{out-roll-CoreArm, out-roll-CoreBranch}
use Rattle.hum_meaning.specs.Value.{Undefined, Nil, Truth, Number, Symbol, Plain, text_value}
use Rattle.hum_meaning.specs.Language.{ExprNode, Is, Var, Myself, Abs, BlockOf, Call, Tuple, New, Case, If}
use Rattle.hum_meaning.specs.Named.{Named, written, ExprTree, PatTree, StmtTree, expr_node}
use Rattle.hum_meaning.specs.Body.{Role, Defines, Divides, role}
use Rattle.hum_meaning.specs.Scope as judged
use Rattle.hum_meaning.specs.Scope.{Verdicts, Place, fresh, behind}
use Rattle.hum_core.specs.Numbered.{Of}
use Rattle.hum_core.specs.CoreTrees.{Core, core_arm, core_branch, core_expr, core_function}
use Rattle.hum_core.specs.Alike.{with_marks, Both, Each, ArmAs, BranchAs, ExprNodeAs, StatementsAs}
use Rattle.hum_core.specs.Agreement.{Names, names_of, PatternNodeAs}
use Rattle.hum_core.specs.Units as made
use Rattle.hum_core.specs.Units.{Scope, Part, let_stmt}
use Rattle.hum_core.proofs.Texts.{text_same}
use Rattle.hum_core.proofs.ScopedNames.{Fine, fine_parts, fine_behind, Sees, marks_seen, use_found}
use Rattle.hum_core.proofs.UnitPlaces.{made_expr, made_pat, made_stmt, made_arm, made_branch, expr_made, pat_made, stmt_made, arm_made, branch_made, made_rolled_expr, made_rolled_pat, made_rolled_stmt, made_rolled_arm, made_rolled_branch, sized_expr, sized_pat, sized_arm, sized_branch, sized_branches, Stand, stand_sized}
use Rattle.hum_core.proofs.BoundNames.{found_expr, found_pat, found_stmt, found_arm, found_branch, expr_found, pat_found, stmt_found, arm_found, branch_found, found_rolled_expr, found_rolled_pat, found_rolled_stmt, found_rolled_arm, found_rolled_branch, made_names, found_names, defines, LetAs, let_as, abstraction_numbered}
use Rattle.hum_core.proofs.ScopedBlocks.{rel, to, StmtStandsAs, StmtStands, block_stands}

module _ (units : List CoreUnit) where
  -- ---- what is so of each part, wherever it sees only names that have slots, none of its own is refused, and its units stand at their
  -- numbers

  abbrev ExprStandsAs : ExprTree written → made.OfExpr → judged.OfExpr → Type 0
  ExprStandsAs e x f =
      (scope : Scope) (seen : Names) (n m : ℕ) → Sees scope seen → Fine (f.at seen) → Stand units n (x.part.make scope n).1
      → ExprNodeAs (to units m) scope (expr_node written e) (core_expr (out-CoreExpr (x.part.make scope n).0))

  abbrev PatStandsAs : PatTree written → made.OfPat → judged.OfPat → Type 0
  PatStandsAs p x f =
      (scope : Scope) (place : Place) (n m : ℕ) → Sees scope place.seen → Fine (f.at place) → Stand units n (x.part.make scope n).1
      → PatternNodeAs (to units m) scope p (out-CorePat (x.part.make scope n).0)

  abbrev ArmStandsAs : Arm-F Expr Pat Stmt Arm Branch → Part CoreArm → judged.Part → Type 0
  ArmStandsAs a x f =
      (scope : Scope) (seen : Names) (n m : ℕ) → Sees scope seen → Fine (f seen) → Stand units n (x.make scope n).1
      → ArmAs (to units m) scope (a.pattern, a.value) (core_arm (x.make scope n).0)

  abbrev BranchStandsAs : Branch-F Expr Pat Stmt Arm Branch → Part CoreBranch → judged.Part → Type 0
  BranchStandsAs b x f =
      (scope : Scope) (seen : Names) (n m : ℕ) → Sees scope seen → Fine (f seen) → Stand units n (x.make scope n).1
      → BranchAs (to units m) scope (b.condition, b.block) (core_branch (x.make scope n).0)

  abbrev E : Expr → Type 0
  E e = ExprStandsAs (out-Expr e) (made_expr e) (found_expr e)

  abbrev P : Pat → Type 0
  P p = PatStandsAs (out-Pat p) (made_pat p) (found_pat p)

  abbrev S : Stmt → Type 0
  S s = StmtStands units s

  abbrev A : Arm → Type 0
  A a = ArmStandsAs (out-Arm a) (made_arm a) (found_arm a)

  abbrev B : Branch → Type 0
  B b = BranchStandsAs (out-Branch b) (made_branch b) (found_branch b)

  -- to every depth
  expr_at : (e : Expr) → E e → (scope : Scope) (seen : Names) (n m : ℕ) → Sees scope seen → Fine ((found_expr e).at seen)
      → Stand units n ((made_expr e).part.make scope n).1 → (rel units m).Exprs scope e ((made_expr e).part.make scope n).0
  expr_at e h scope seen n zero sees fine stand = tt
  expr_at e h scope seen n (suc m) sees fine stand = h scope seen n m sees fine stand

  pat_at : (p : Pat) → P p → (scope : Scope) (place : Place) (n m : ℕ) → Sees scope place.seen → Fine ((found_pat p).at place)
      → Stand units n ((made_pat p).part.make scope n).1 → (rel units m).Patterns scope p ((made_pat p).part.make scope n).0
  pat_at p h scope place n zero sees fine stand = tt
  pat_at p h scope place n (suc m) sees fine stand = h scope place n m sees fine stand

  -- a pattern, and what stands behind it
  scoped_stands : (p : Pat) (e : Expr) → P p → E e → (scope : Scope) (seen : Names) (n m : ℕ) → Sees scope seen
      → Fine (judged.scoped_by (found_pat p) (found_expr e) seen)
      → Stand units n (((made_pat p).part.make scope n).1 ++ ((made_expr e).part.make (with_marks (made_pat p).names scope) (n + (made_pat p).part.size)).1)
      → (rel units m).Patterns scope p ((made_pat p).part.make scope n).0
      × (rel units m).Exprs (with_marks (names_of p) scope) e ((made_expr e).part.make (with_marks (made_pat p).names scope) (n + (made_pat p).part.size)).0
  scoped_stands p e h k scope seen n m sees fine stand =
      let next = n + (made_pat p).part.size in
      let inside = with_marks (made_pat p).names scope in
      let inner = (found_pat p).names ++ seen in
      let inner_sees : Sees inside inner = subst (λ ns. Sees (with_marks ns scope) inner) (found_names p ∙ sym (made_names p)) (marks_seen (found_pat p).names scope seen sees) in
      let fines = fine_parts _ _ fine in
      let places = stand_sized units n (made_pat p).part.size _ _ (sized_pat p scope n) stand in (
        pat_at p h scope (fresh seen) n m sees fines.0 places.0,
        subst (λ ns. (rel units m).Exprs (with_marks ns scope) e ((made_expr e).part.make inside next).0) (made_names p) (expr_at e k inside inner next m inner_sees fines.1 places.1),
      )

  -- an abstraction stands for the number of its unit
  abstraction_stands : (p : Pat) (e : Expr) → P p → E e → (scope : Scope) (seen : Names) (n m : ℕ) → Sees scope seen
      → Fine (judged.scoped_by (found_pat p) (found_expr e) seen)
      → Stand units n ((expr_made (layer.Abs p e)).part.make scope n).1 → (rel units m).Abstractions scope (p, e) (Of n)
  abstraction_stands p e h k scope seen n zero sees fine stand = tt
  abstraction_stands p e h k scope seen n (suc m) sees fine stand =
      subst (λ u. Both (ArmAs (to units m) scope) (Some (p, e)) (core_function u)) (sym stand.0) (scoped_stands p e h k scope seen (suc n) m sees fine stand.1)

  -- ---- lists of parts

  abbrev EE : Type 0
  EE = (x : Expr) × E x

  abbrev PP : Type 0
  PP = (x : Pat) × P x

  abbrev SS : Type 0
  SS = (x : Stmt) × S x

  abbrev AA : Type 0
  AA = (x : Arm) × A x

  abbrev BB : Type 0
  BB = (x : Branch) × B x

  exprs_stand : (es : List EE) (scope : Scope) (seen : Names) (n m : ℕ) → Sees scope seen
      → Fine (judged.exprs (map found_expr (map (λ e. e.0) es)) seen)
      → Stand units n ((made.exprs (map made_expr (map (λ e. e.0) es))).make scope n).1
      → Each ((to units m).ExprAs scope) (map (λ e. e.0) es) ((made.exprs (map made_expr (map (λ e. e.0) es))).make scope n).0
  exprs_stand [] scope seen n m sees fine stand = tt
  exprs_stand (e ∷ es) scope seen n m sees fine stand =
      let fines = fine_parts _ _ fine in
      let places = stand_sized units n (made_expr e.0).part.size _ _ (sized_expr e.0 scope n) stand in
      (expr_at e.0 e.1 scope seen n m sees fines.0 places.0, exprs_stand es scope seen _ m sees fines.1 places.1)

  pats_stand : (ps : List PP) (scope : Scope) (place : Place) (n m : ℕ) → Sees scope place.seen
      → Fine (judged.items (map found_pat (map (λ p. p.0) ps)) place)
      → Stand units n ((made.in_order (map (λ p. p.part) (map made_pat (map (λ p. p.0) ps)))).make scope n).1
      → Each ((to units m).PatternAs scope) (map (λ p. p.0) ps) ((made.in_order (map (λ p. p.part) (map made_pat (map (λ p. p.0) ps)))).make scope n).0
  pats_stand [] scope place n m sees fine stand = tt
  pats_stand (p ∷ ps) scope place n m sees fine stand =
      let fines = fine_parts _ _ fine in
      let places = stand_sized units n (made_pat p.0).part.size _ _ (sized_pat p.0 scope n) stand in
      (pat_at p.0 p.1 scope place n m sees fines.0 places.0, pats_stand ps scope (behind (found_pat p.0).names place) _ m sees fines.1 places.1)

  arms_stand : (as' : List AA) (scope : Scope) (seen : Names) (n m : ℕ) → Sees scope seen
      → Fine (judged.in_all (map found_arm (map (λ a. a.0) as')) seen)
      → Stand units n ((made.in_order (map made_arm (map (λ a. a.0) as'))).make scope n).1
      → Each (ArmAs (to units m) scope) (map written.arm (map (λ a. a.0) as')) (map core_arm ((made.in_order (map made_arm (map (λ a. a.0) as'))).make scope n).0)
  arms_stand [] scope seen n m sees fine stand = tt
  arms_stand (a ∷ as') scope seen n m sees fine stand =
      let fines = fine_parts _ _ fine in
      let places = stand_sized units n (made_arm a.0).size _ _ (sized_arm a.0 scope n) stand in
      (a.1 scope seen n m sees fines.0 places.0, arms_stand as' scope seen _ m sees fines.1 places.1)

  branches_stand : (bs : List BB) (scope : Scope) (seen : Names) (n m : ℕ) → Sees scope seen
      → Fine (judged.in_all (map found_branch (map (λ b. b.0) bs)) seen)
      → Stand units n ((made.in_order (map made_branch (map (λ b. b.0) bs))).make scope n).1
      → Each (BranchAs (to units m) scope) (map written.branch (map (λ b. b.0) bs)) (map core_branch ((made.in_order (map made_branch (map (λ b. b.0) bs))).make scope n).0)
  branches_stand [] scope seen n m sees fine stand = tt
  branches_stand (b ∷ bs) scope seen n m sees fine stand =
      let fines = fine_parts _ _ fine in
      let places = stand_sized units n (made_branch b.0).size _ _ (sized_branch b.0 scope n) stand in
      (b.1 scope seen n m sees fines.0 places.0, branches_stand bs scope seen _ m sees fines.1 places.1)

  -- branches, and the block behind them
  if_stands : (bs : List BB) (ss : List SS) (scope : Scope) (seen : Names) (n m : ℕ) → Sees scope seen
      → Fine (judged.in_all (map found_branch (map (λ b. b.0) bs)) seen) → Fine (judged.block (map found_stmt (map (λ s. s.0) ss)) seen)
      → let part = made.in_order (map made_branch (map (λ b. b.0) bs)) in
      Stand units n ((part.make scope n).1 ++ ((made.block (map made_stmt (map (λ s. s.0) ss))).make scope (n + part.size)).1)
      → Each (BranchAs (to units m) scope) (map written.branch (map (λ b. b.0) bs)) (map core_branch (part.make scope n).0)
      × (rel units m).Bodies scope (map (λ s. s.0) ss) (n + part.size)
  if_stands bs ss scope seen n m sees fine fine_other stand =
      let part = made.in_order (map made_branch (map (λ b. b.0) bs)) in
      let sized = sized_branches (λ b. b.0) bs (λ b. sized_branch b.0) scope n in
      let places = stand_sized units n part.size _ _ sized stand in
      (branches_stand bs scope seen n m sees fine places.0, block_stands units ss scope seen (n + part.size) m sees fine_other places.1)

  -- two expressions
  two_stand : (a b : Expr) → E a → E b → (scope : Scope) (seen : Names) (n m : ℕ) → Sees scope seen
      → Fine (judged.exprs (found_expr a ∷ found_expr b ∷ []) seen)
      → Stand units n (((made_expr a).part.make scope n).1 ++ ((made_expr b).part.make scope (n + (made_expr a).part.size)).1)
      → (rel units m).Exprs scope a ((made_expr a).part.make scope n).0
      × (rel units m).Exprs scope b ((made_expr b).part.make scope (n + (made_expr a).part.size)).0
  two_stand a b h k scope seen n m sees fine stand =
      let fines = fine_parts _ _ fine in
      let places = stand_sized units n (made_expr a).part.size _ _ (sized_expr a scope n) stand in
      (expr_at a h scope seen n m sees fines.0 places.0, expr_at b k scope seen _ m sees (fine_parts _ _ fines.1).0 places.1)

  -- ---- one node

  as_node : (m : ℕ) (scope : Scope) (e : ExprNode (Named written)) (d : CoreExpr) (y : CoreExpr-F CoreExpr CorePat CoreArm CoreBranch)
      → out-CoreExpr d ≡ y → ExprNodeAs (to units m) scope e (core_expr y) → ExprNodeAs (to units m) scope e (core_expr (out-CoreExpr d))
  as_node m scope e d y is h = subst (λ y. ExprNodeAs (to units m) scope e (core_expr y)) (sym is) h

  abbrev bare_expr : Expr-F EE PP SS AA BB → ExprTree written
  bare_expr = folds.map-Expr EE PP SS AA BB Expr Pat Stmt Arm Branch (λ z. z.0) (λ z. z.0) (λ z. z.0) (λ z. z.0) (λ z. z.0)

  abbrev bare_pat : Pat-F EE PP SS AA BB → PatTree written
  bare_pat = folds.map-Pat EE PP SS AA BB Expr Pat Stmt Arm Branch (λ z. z.0) (λ z. z.0) (λ z. z.0) (λ z. z.0) (λ z. z.0)

  abbrev bare_stmt : Stmt-F EE PP SS AA BB → StmtTree written
  bare_stmt = folds.map-Stmt EE PP SS AA BB Expr Pat Stmt Arm Branch (λ z. z.0) (λ z. z.0) (λ z. z.0) (λ z. z.0) (λ z. z.0)

  expr_node_stands : (y : Expr-F EE PP SS AA BB) → ExprStandsAs (bare_expr y) (expr_made (bare_expr y)) (expr_found (bare_expr y))
  expr_node_stands layer.Expr::Undef scope seen n m sees fine stand = as_node m scope (Is (Plain Undefined)) _ _ (expr.outs-Is const.Undef) refl
  expr_node_stands layer.Expr::Nil scope seen n m sees fine stand = as_node m scope (Is (Plain Nil)) _ _ (expr.outs-Is const.Nil) refl
  expr_node_stands layer.Expr::True scope seen n m sees fine stand = as_node m scope (Is (Plain (Truth true))) _ _ (expr.outs-Is const.True) refl
  expr_node_stands layer.Expr::False scope seen n m sees fine stand = as_node m scope (Is (Plain (Truth false))) _ _ (expr.outs-Is const.False) refl
  expr_node_stands (layer.Expr::Num z) scope seen n m sees fine stand = as_node m scope (Is (Plain (Number z))) _ _ (expr.outs-Is (const.Num z)) refl
  expr_node_stands (layer.Expr::Sym x) scope seen n m sees fine stand = as_node m scope (Is (Plain (Symbol x))) _ _ (expr.outs-Is (const.Sym x)) refl
  expr_node_stands (layer.Text points) scope seen n m sees fine stand =
      as_node m scope (Is (text_value points)) _ _ (expr.outs-Text points) (text_same (Named written) Core points)
  expr_node_stands (layer.Var x) scope seen n m sees fine stand = as_node m scope (Var x) _ _ (expr.outs-Var _) (use_found scope seen x sees fine)
  expr_node_stands layer.Myself scope seen n m sees fine stand = as_node m scope Myself _ _ expr.outs-Myself tt
  expr_node_stands (layer.Abs p e) scope seen n m sees fine stand =
      as_node m scope (Abs (p.0, e.0)) _ _ (expr.outs-Abs n) (abstraction_stands p.0 e.0 p.1 e.1 scope seen n m sees fine stand)
  expr_node_stands (layer.Block ss) scope seen n m sees fine stand =
      as_node m scope (BlockOf (map (λ s. s.0) ss)) _ _ (expr.outs-Block n) (block_stands units ss scope seen n m sees fine stand)
  expr_node_stands (layer.Call f a) scope seen n m sees fine stand =
      as_node m scope (Call f.0 a.0) _ _ (expr.outs-Call _ _) (two_stand f.0 a.0 f.1 a.1 scope seen n m sees fine stand)
  expr_node_stands (layer.Expr::Tuple es) scope seen n m sees fine stand =
      as_node m scope (Tuple (map (λ e. e.0) es)) _ _ (expr.outs-Tuple _) (exprs_stand es scope seen n m sees fine stand)
  expr_node_stands (layer.New e) scope seen n m sees fine stand = as_node m scope (New e.0) _ _ (expr.outs-New _) (expr_at e.0 e.1 scope seen n m sees fine stand)
  expr_node_stands (layer.Case e as') scope seen n m sees fine stand =
      let fines = fine_parts _ _ fine in
      let places = stand_sized units n (made_expr e.0).part.size _ _ (sized_expr e.0 scope n) stand in
      as_node m scope (Case e.0 (map written.arm (map (λ a. a.0) as'))) _ _ (expr.outs-Case _ _)
      (expr_at e.0 e.1 scope seen n m sees fines.0 places.0, arms_stand as' scope seen _ m sees fines.1 places.1)
  expr_node_stands (layer.If bs None) scope seen n m sees fine stand =
      as_node m scope (If (map written.branch (map (λ b. b.0) bs)) []) _ _ (expr.outs-If _ _) (if_stands bs [] scope seen n m sees fine (record { none = refl }) stand)
  expr_node_stands (layer.If bs (Some ss)) scope seen n m sees fine stand =
      let fines = fine_parts (judged.in_all (map found_branch (map (λ b. b.0) bs)) seen) _ (subst Fine (flat_map-append (λ (part : judged.Part). part seen) (map found_branch (map (λ b. b.0) bs)) _) fine) in
      as_node m scope (If (map written.branch (map (λ b. b.0) bs)) (map (λ s. s.0) ss)) _ _ (expr.outs-If _ _)
      (if_stands bs ss scope seen n m sees fines.0 (fine_parts _ _ fines.1).0 stand)

  as_pat : (m : ℕ) (scope : Scope) (p : PatTree written) (q : CorePat) (y : CorePat-F CoreExpr CorePat CoreArm CoreBranch)
      → out-CorePat q ≡ y → PatternNodeAs (to units m) scope p y → PatternNodeAs (to units m) scope p (out-CorePat q)
  as_pat m scope p q y is h = subst (PatternNodeAs (to units m) scope p) (sym is) h

  pat_node_stands : (y : Pat-F EE PP SS AA BB) → PatStandsAs (bare_pat y) (pat_made (bare_pat y)) (pat_found (bare_pat y))
  pat_node_stands layer.Any scope place n m sees fine stand = as_pat m scope layer.Any _ _ pat.outs-Any tt
  pat_node_stands (layer.Bind x) scope place n m sees fine stand = as_pat m scope (layer.Bind x) _ _ pat.outs-Bind tt
  pat_node_stands layer.Pat::Undef scope place n m sees fine stand = as_pat m scope layer.Pat::Undef _ _ (pat.outs-Is const.Undef) refl
  pat_node_stands layer.Pat::Nil scope place n m sees fine stand = as_pat m scope layer.Pat::Nil _ _ (pat.outs-Is const.Nil) refl
  pat_node_stands layer.Pat::True scope place n m sees fine stand = as_pat m scope layer.Pat::True _ _ (pat.outs-Is const.True) refl
  pat_node_stands layer.Pat::False scope place n m sees fine stand = as_pat m scope layer.Pat::False _ _ (pat.outs-Is const.False) refl
  pat_node_stands (layer.Pat::Num z) scope place n m sees fine stand = as_pat m scope (layer.Pat::Num z) _ _ (pat.outs-Is (const.Num z)) refl
  pat_node_stands (layer.Pat::Sym x) scope place n m sees fine stand = as_pat m scope (layer.Pat::Sym x) _ _ (pat.outs-Is (const.Sym x)) refl
  pat_node_stands (layer.Value e) scope place n m sees fine stand =
      as_pat m scope (layer.Value e.0) _ _ (pat.outs-Value _) (expr_at e.0 e.1 scope place.seen n m sees fine stand)
  pat_node_stands (layer.Pat::Tuple ps) scope place n m sees fine stand =
      as_pat m scope (layer.Pat::Tuple (map (λ p. p.0) ps)) _ _ (pat.outs-Tuple _) (pats_stand ps scope place n m sees fine stand)

  -- a definition, by what it defines
  let_stands : (p : Pat) (e : Expr) → P p → E e → (r : Role written) (b : Bool) → LetAs r b (out-Pat p) (out-Expr e)
      → StmtStandsAs units r (layer.Let p e) (let_stmt b (made_pat p) (made_expr e)) (λ place. (found_pat p).at place ++ (found_expr e).at place.seen)
  let_stands p e h k (Defines name f) true is scope place n m sees fine stand =
      let node = k scope place.seen n m sees (fine_parts _ _ fine).1 stand in
      let number = abstraction_numbered e f.0 f.1 is.1 scope n in
      let here = subst (λ y. ExprNodeAs (to units m) scope (expr_node written (out-Expr e)) (core_expr y)) (ap out-CoreExpr number ∙ expr.outs-Abs n) node in
      (subst (λ x. ExprNodeAs (to units m) scope (expr_node written x) (Abs (Of n))) is.1 here, refl)
  let_stands p e h k Divides false is scope place n m sees fine stand = λ more others rest.
      let fines = fine_parts _ _ fine in
      let places = stand_sized units n (made_pat p).part.size _ _ (sized_pat p scope n) stand in (
        pat_at p h scope place n m sees fines.0 places.0,
        expr_at e k scope place.seen _ m sees fines.1 places.1,
        subst (λ ns. StatementsAs (to units m) (with_marks ns scope) more others) (made_names p) rest,
      )
  let_stands p e h k _ _ is scope place n m sees fine stand = absurd is

  stmt_node_stands : (y : Stmt-F EE PP SS AA BB)
      → StmtStandsAs units (role written (bare_stmt y)) (bare_stmt y) (stmt_made (bare_stmt y)) (stmt_found (bare_stmt y)).at
  stmt_node_stands (layer.Let p e) scope place n m sees fine stand = let_stands p.0 e.0 p.1 e.1 _ (defines p.0 e.0) (let_as p.0 e.0) scope place n m sees fine stand
  stmt_node_stands (layer.Send e a) scope place n m sees fine stand =
      let both = two_stand e.0 a.0 e.1 a.1 scope place.seen n m sees fine stand in
      λ more others rest. (both.0, both.1, rest)
  stmt_node_stands (layer.Create name e) scope place n m sees fine stand =
      λ more others rest. (expr_at e.0 e.1 scope place.seen n m sees (fine_behind _ _ fine) stand, rest)
  stmt_node_stands (layer.Become e) scope place n m sees fine stand =
      λ more others rest. (expr_at e.0 e.1 scope place.seen n m sees (fine_parts _ _ fine).0 stand, rest)
  stmt_node_stands (layer.Throw e) scope place n m sees fine stand =
      λ more others rest. (expr_at e.0 e.1 scope place.seen n m sees (fine_parts _ _ fine).0 stand, rest)
  stmt_node_stands (layer.Do e) scope place n m sees fine stand =
      λ more others rest. (expr_at e.0 e.1 scope place.seen n m sees (fine_parts _ _ fine).0 stand, rest)

  arm_node_stands : (p : PP) (e : EE) → ArmStandsAs (record { pattern = p.0; value = e.0 }) (arm_made (record { pattern = p.0; value = e.0 })) (arm_found (record { pattern = p.0; value = e.0 }))
  arm_node_stands p e scope seen n m sees fine stand =
      subst (λ y. ArmAs (to units m) scope (p.0, e.0) (y.pattern, y.value)) (sym (out-roll-CoreArm _)) (scoped_stands p.0 e.0 p.1 e.1 scope seen n m sees fine stand)

  branch_node_stands : (e : EE) (ss : List SS)
      → BranchStandsAs (record { condition = e.0; block = map (λ s. s.0) ss }) (branch_made (record { condition = e.0; block = map (λ s. s.0) ss })) (branch_found (record { condition = e.0; block = map (λ s. s.0) ss }))
  branch_node_stands e ss scope seen n m sees fine stand =
      let fines = fine_parts _ _ fine in
      let places = stand_sized units n (made_expr e.0).part.size _ _ (sized_expr e.0 scope n) stand in
      subst (λ y. BranchAs (to units m) scope (e.0, map (λ s. s.0) ss) (y.condition, y.block)) (sym (out-roll-CoreBranch _))
      (expr_at e.0 e.1 scope seen n m sees fines.0 places.0, block_stands units ss scope seen _ m sees (fine_parts _ _ fines.1).0 places.1)

  -- ---- every node

  rolled_expr : (z : ExprTree written) → ExprStandsAs z (expr_made z) (expr_found z) → E (roll-Expr z)
  rolled_expr z h =
      subst (λ t. ExprStandsAs t (made_expr (roll-Expr z)) (found_expr (roll-Expr z))) (sym (out-roll-Expr z))
      (subst (λ x. ExprStandsAs z x (found_expr (roll-Expr z))) (sym (made_rolled_expr z)) (subst (ExprStandsAs z (expr_made z)) (sym (found_rolled_expr z)) h))

  rolled_pat : (z : PatTree written) → PatStandsAs z (pat_made z) (pat_found z) → P (roll-Pat z)
  rolled_pat z h =
      subst (λ t. PatStandsAs t (made_pat (roll-Pat z)) (found_pat (roll-Pat z))) (sym (out-roll-Pat z))
      (subst (λ x. PatStandsAs z x (found_pat (roll-Pat z))) (sym (made_rolled_pat z)) (subst (PatStandsAs z (pat_made z)) (sym (found_rolled_pat z)) h))

  rolled_stmt : (z : StmtTree written) → StmtStandsAs units (role written z) z (stmt_made z) (stmt_found z).at → S (roll-Stmt z)
  rolled_stmt z h =
      subst (λ t. StmtStandsAs units (role written t) t (made_stmt (roll-Stmt z)) (found_stmt (roll-Stmt z)).at) (sym (out-roll-Stmt z))
      (subst (λ x. StmtStandsAs units (role written z) z x (found_stmt (roll-Stmt z)).at) (sym (made_rolled_stmt z))
      (subst (λ (f : judged.OfStmt). StmtStandsAs units (role written z) z (stmt_made z) f.at) (sym (found_rolled_stmt z)) h))

  rolled_arm : (z : Arm-F Expr Pat Stmt Arm Branch) → ArmStandsAs z (arm_made z) (arm_found z) → A (roll-Arm z)
  rolled_arm z h =
      subst (λ t. ArmStandsAs t (made_arm (roll-Arm z)) (found_arm (roll-Arm z))) (sym (out-roll-Arm z))
      (subst (λ x. ArmStandsAs z x (found_arm (roll-Arm z))) (sym (made_rolled_arm z)) (subst (ArmStandsAs z (arm_made z)) (sym (found_rolled_arm z)) h))

  rolled_branch : (z : Branch-F Expr Pat Stmt Arm Branch) → BranchStandsAs z (branch_made z) (branch_found z) → B (roll-Branch z)
  rolled_branch z h =
      subst (λ t. BranchStandsAs t (made_branch (roll-Branch z)) (found_branch (roll-Branch z))) (sym (out-roll-Branch z))
      (subst (λ x. BranchStandsAs z x (found_branch (roll-Branch z))) (sym (made_rolled_branch z)) (subst (BranchStandsAs z (branch_made z)) (sym (found_rolled_branch z)) h))

  expr_step : (x : ExprTree written) (y : Expr-F EE PP SS AA BB) → bare_expr y ≡ x → E (roll-Expr x)
  expr_step x y is = subst (λ z. E (roll-Expr z)) is (rolled_expr (bare_expr y) (expr_node_stands y))

  pat_step : (x : PatTree written) (y : Pat-F EE PP SS AA BB) → bare_pat y ≡ x → P (roll-Pat x)
  pat_step x y is = subst (λ z. P (roll-Pat z)) is (rolled_pat (bare_pat y) (pat_node_stands y))

  stmt_step : (x : StmtTree written) (y : Stmt-F EE PP SS AA BB) → bare_stmt y ≡ x → S (roll-Stmt x)
  stmt_step x y is = subst (λ z. S (roll-Stmt z)) is (rolled_stmt (bare_stmt y) (stmt_node_stands y))

  arm_step : (x : Arm-F Expr Pat Stmt Arm Branch) (y : Arm-F EE PP SS AA BB)
      → folds.map-Arm EE PP SS AA BB Expr Pat Stmt Arm Branch (λ z. z.0) (λ z. z.0) (λ z. z.0) (λ z. z.0) (λ z. z.0) y ≡ x → A (roll-Arm x)
  arm_step x y is = subst (λ z. A (roll-Arm z)) is (rolled_arm _ (arm_node_stands y.pattern y.value))

  branch_step : (x : Branch-F Expr Pat Stmt Arm Branch) (y : Branch-F EE PP SS AA BB)
      → folds.map-Branch EE PP SS AA BB Expr Pat Stmt Arm Branch (λ z. z.0) (λ z. z.0) (λ z. z.0) (λ z. z.0) (λ z. z.0) y ≡ x → B (roll-Branch x)
  branch_step x y is = subst (λ z. B (roll-Branch z)) is (rolled_branch _ (branch_node_stands y.condition y.block))

  pub every_stmt : (s : Stmt) → StmtStands units s
  every_stmt = folds.ind-Stmt E P S A B expr_step pat_step stmt_step arm_step branch_step
