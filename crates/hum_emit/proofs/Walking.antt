-- The walk through the units of a part finds their shapes one after the other, and then goes on with what stands behind the part.
use Rattle.std.proofs.Common.{◌≡◌, refl, ap, sym, subst, ◌∙◌, ℕ, suc, ◌+◌, Bool, true, false, List, [], ◌∷◌, ◌++◌, map, append_assoc}
use Rattle.std.specs.Prelude.{sum}
use Rattle.std.specs.List.{AllByRecursion}
use Rattle.std.proofs.lemmas.Bool.{and_parts, true≢false}
use Rattle.std.proofs.lemmas.List.{append-nil, map-append}
use Rattle.std.proofs.lemmas.Simd.{map-map}
use Rattle.hum_syntax.specs.declared.tree.Expr.{Expr}
use Rattle.hum_syntax.specs.declared.tree.Pat.{Pat}
use Rattle.hum_syntax.specs.declared.tree.Stmt.{Stmt}
use Rattle.hum_syntax.specs.declared.tree.Arm.{Arm}
use Rattle.hum_syntax.specs.declared.tree.Branch.{Branch}
use Rattle.hum_syntax.specs.declared.tree.Expr.TheVariants as e
use Rattle.hum_syntax.specs.declared.tree.Pat.TheVariants as p
use Rattle.hum_syntax.specs.declared.tree.Stmt.TheVariants as s
use Rattle.hum_syntax.proofs.Folding as fold_of
use Rattle.hum_syntax.proofs.Folding.{Steps}
use Rattle.hum_syntax.proofs.Induction as induction
use Rattle.hum_syntax.proofs.Induction.{Each, nodes, Cases}
use Rattle.hum_core.specs.declared.slot.Slot.{Slot}
use Rattle.hum_core.specs.declared.slot.Const.{Const}
use Rattle.hum_core.specs.declared.slot.Const.TheVariants as const
use Rattle.hum_core.specs.declared.resolved.CoreUnit.{CoreUnit}
use Rattle.hum_core.specs.declared.resolved.CoreUnit.TheVariants as unit
use Rattle.hum_core.specs.declared.resolved.CoreStmt.{CoreStmt}
use Rattle.hum_core.specs.declared.resolved.CoreStmt.TheVariants as stmt
use Rattle.hum_core.specs.declared.resolved.CoreExpr.{CoreExpr}
use Rattle.hum_core.specs.declared.resolved.CoreExpr.TheVariants as expr
use Rattle.hum_core.specs.declared.resolved.CorePat.{CorePat}
use Rattle.hum_core.specs.declared.resolved.CorePat.TheVariants as pat
use Rattle.hum_core.specs.declared.resolved.CoreArm.{CoreArm, roll-CoreArm}
use Rattle.hum_core.specs.declared.resolved.CoreBranch.{CoreBranch, roll-CoreBranch}
use Rattle.hum_core.specs.declared.tested.TestUnit.{TestUnit}
use Rattle.hum_core.specs.declared.tested.Test.{Test}
use Rattle.hum_core.specs.declared.tested.Test.TheVariants as test
use Rattle.hum_meaning.specs.Scope.{Binds, Function, Values, Nothing, grouped_after}
use Rattle.hum_core.specs.Numbered.{Of}
use Rattle.hum_core.specs.Alike.{with_marks}
use Rattle.hum_core.specs.Agreement.{Names}
use Rattle.hum_core.specs.Units as made
use Rattle.hum_core.specs.Units.{Scope, Part, both, in_order, block, functions, at_statement, scope_at, scope_after, statements, OfExpr, OfPat, OfStmt, let_stmt}
use Rattle.hum_core.specs.Lists.{tuple_tested, tested_expr, tested_pat, tested_arm, tested_branch, tested_stmt, tested_unit, tested}
use Rattle.hum_core.proofs.FormedParts.{IfFunction}
use Rattle.hum_core.proofs.UnitPlaces.{made_expr, made_pat, made_stmt, made_arm, made_branch}
use Rattle.hum_code.specs.Layout.{Shape, Several, with_singles}
use Rattle.hum_code.specs.Code.{bound_after}
use Rattle.hum_emit.specs.Shapes.{Inside, in_all, after_all, in_expr, in_arm, in_branch, of_one_test, in_tests, in_statement, in_statements, in_unit, shapes_from}
use Rattle.hum_emit.proofs.Nodes.{tested_is, tested_text, tested_var, tested_myself, tested_abs, tested_block, tested_call, tested_tuple, tested_new, tested_case, tested_if, tested_any, tested_bind, tested_constant, tested_value, tested_items, tested_one_arm, tested_one_branch, inside_constant, inside_text, inside_var, inside_myself, inside_abs, inside_block, inside_call, inside_tuple, inside_new, inside_case, inside_if, inside_arm, inside_branch, of_pair, of_constant, of_same, of_bind, of_skip}

-- ---- units that stand one after the other

-- these units, found with these shapes
abbrev pub Walks : List CoreUnit → List Shape → Type 0
Walks us found = (more : List Shape) (rest : List TestUnit) → shapes_from (found ++ more) (tested us ++ rest) ≡ shapes_from found (tested us) ++ shapes_from more rest

pub none_walk : Walks [] []
none_walk more rest = refl

-- the walk through two parts finds the shapes of both
pub walked_both : (us vs : List CoreUnit) (f g : List Shape) → Walks us f
    → shapes_from (f ++ g) (tested (us ++ vs)) ≡ shapes_from f (tested us) ++ shapes_from g (tested vs)
walked_both us vs f g h = ap (shapes_from (f ++ g)) (map-append tested_unit us vs) ∙ h g (tested vs)

pub both_walk : (us vs : List CoreUnit) (f g : List Shape) → Walks us f → Walks vs g → Walks (us ++ vs) (f ++ g)
both_walk us vs f g h k more rest =
    ap (λ x. shapes_from x (tested (us ++ vs) ++ rest)) (append_assoc f g more)
    ∙ ap (λ x. shapes_from (f ++ (g ++ more)) (x ++ rest)) (map-append tested_unit us vs)
    ∙ ap (shapes_from (f ++ (g ++ more))) (append_assoc (tested us) (tested vs) rest)
    ∙ h (g ++ more) (tested vs ++ rest)
    ∙ ap (λ x. shapes_from f (tested us) ++ x) (k more rest)
    ∙ sym (append_assoc (shapes_from f (tested us)) (shapes_from g (tested vs)) (shapes_from more rest))
    ∙ ap (λ x. x ++ shapes_from more rest) (sym (walked_both us vs f g h))

-- a unit, with those in it
pub unit_walks : (u : CoreUnit) (us : List CoreUnit) (shape : Shape) → Walks us (in_unit (tested_unit u) shape) → Walks (u ∷ us) (shape ∷ [])
unit_walks u us shape h more rest =
    ap (λ x. shape ∷ x) (h more rest)
    ∙ ap (λ x. shape ∷ shapes_from x (tested us) ++ shapes_from more rest) (sym (append-nil (in_unit (tested_unit u) shape)))

pub walks_as : (us : List CoreUnit) (f g : List Shape) → f ≡ g → Walks us g → Walks us f
walks_as us f g is h = subst (Walks us) (sym is) h

-- ---- parts

-- in every scope, shape and from every number on
pub record PartWalks {A : Type 0} (inside : A → Inside) (part : Part A) : Type 0 where
  pub at : (scope : Scope) (n : ℕ) (shape : Shape) → Walks (part.make scope n).1 (inside (part.make scope n).0 shape)

abbrev pub in_core : CoreExpr → Inside
in_core d = in_expr (tested_expr d)

abbrev pub in_core_pat : CorePat → Inside
in_core_pat d = in_tests (tested_pat d)

abbrev pub in_core_stmt : CoreStmt → Inside
in_core_stmt d = in_statement (tested_stmt d)

abbrev pub in_core_arm : CoreArm → Inside
in_core_arm d = in_arm (tested_arm d)

abbrev pub in_core_branch : CoreBranch → Inside
in_core_branch d = in_branch (tested_branch d)

-- a number of a unit
abbrev pub in_number : ℕ → Inside
in_number k shape = shape ∷ []

-- a part of its own that has no units
plain_walks : {A : Type 0} (inside : A → Inside) (f : Scope → A) → ((scope : Scope) (shape : Shape) → inside (f scope) shape ≡ []) → PartWalks inside (made.plain f)
plain_walks inside f h = record { at = λ scope n shape. walks_as [] _ _ (h scope shape) none_walk }

pub in_order_walk : {A : Type 0} (inside : A → Inside) (parts : List (Part A)) → AllByRecursion (PartWalks inside) parts
    → PartWalks (λ xs shape. in_all (map inside xs) shape) (in_order parts)
in_order_walk inside [] h = record { at = λ scope n shape. none_walk }
in_order_walk inside (a ∷ more) h = record {
  at = λ scope n shape. both_walk _ _ _ _ (h.0.at scope n shape) ((in_order_walk inside more h.1).at scope (n + a.size) shape);
}

-- what is so of the parts of nodes
pub each_of : {X A : Type 0} (Q : X → Type 0) (part : X → Part A) (inside : A → Inside) (xs : Each Q)
    → ((x : X) → Q x → PartWalks inside (part x)) → AllByRecursion (PartWalks inside) (map part (nodes xs))
each_of Q part inside [] h = tt
each_of Q part inside (x ∷ xs) h = (h x.0 x.1, each_of Q part inside xs h)

parts_of : {X Y A : Type 0} (Q : X → Type 0) (f : X → Y) (part : Y → Part A) (inside : A → Inside) (xs : Each Q)
    → ((x : X) → Q x → PartWalks inside (part (f x))) → AllByRecursion (PartWalks inside) (map part (map f (nodes xs)))
parts_of Q f part inside [] h = tt
parts_of Q f part inside (x ∷ xs) h = (h x.0 x.1, parts_of Q f part inside xs h)

-- ---- patterns

in_all-append : (xs ys : List Inside) (shape : Shape) → in_all (xs ++ ys) shape ≡ in_all xs shape ++ in_all ys shape
in_all-append [] ys shape = refl
in_all-append (x ∷ xs) ys shape =
    ap (λ z. x shape ++ z) (in_all-append xs ys shape) ∙ sym (append_assoc (x shape) (in_all xs shape) (in_all ys shape))

pub in_tests-append : (ts us : List Test) (shape : Shape) → in_tests (ts ++ us) shape ≡ in_tests ts shape ++ in_tests us shape
in_tests-append ts us shape =
    ap (λ x. in_all (map (λ t. t.inside) x) shape) (map-append of_one_test ts us)
    ∙ ap (λ x. in_all x shape) (map-append (λ t. t.inside) (map of_one_test ts) (map of_one_test us))
    ∙ in_all-append (map (λ t. t.inside) (map of_one_test ts)) (map (λ t. t.inside) (map of_one_test us)) shape

pub pair_first : (ts : List Test) (shape : Shape) → in_tests (test.Pair ∷ ts) shape ≡ in_tests ts shape
pair_first ts shape = ap (λ t. t.inside shape ++ in_tests ts shape) of_pair

pub tuple_inside : (ps : List CorePat) (shape : Shape) → in_tests (tuple_tested (map tested_pat ps)) shape ≡ in_all (map in_core_pat ps) shape
tuple_inside [] shape = refl
tuple_inside (p ∷ []) shape = sym (append-nil (in_core_pat p shape))
tuple_inside (p ∷ q ∷ more) shape =
    pair_first _ shape
    ∙ in_tests-append (tested_pat p) (tuple_tested (map tested_pat (q ∷ more))) shape
    ∙ ap (λ x. in_core_pat p shape ++ x) (tuple_inside (q ∷ more) shape)

-- ---- trees

abbrev pub built : Steps OfExpr OfPat OfStmt (Part CoreArm) (Part CoreBranch)
built = record { expr = made.of_expr; pat = made.of_pat; stmt = made.of_stmt; an_arm = made.of_arm; a_branch = made.of_branch }

-- an abstraction becomes the number of its unit
pub record ExprWalks (x : OfExpr) : Type 0 where
  pub walks : PartWalks in_core x.part
  pub abstraction : x.is_abstraction ≡ true → (scope : Scope) (n : ℕ) → (x.part.make scope n).0 ≡ expr.Abs n

-- the definition of a function becomes no more than that
pub record StmtWalks (x : OfStmt) : Type 0 where
  pub walks : PartWalks in_core_stmt x.part
  pub function : IfFunction x.binds ((scope : Scope) (n : ℕ) → (x.part.make scope n).0 ≡ stmt.Defined)

abbrev pub E : Expr → Type 0
E x = ExprWalks (made_expr x)

abbrev pub P : Pat → Type 0
P x = PartWalks in_core_pat (made_pat x).part

abbrev pub S : Stmt → Type 0
S x = StmtWalks (made_stmt x)

abbrev pub A : Arm → Type 0
A x = PartWalks in_core_arm (made_arm x)

abbrev pub B : Branch → Type 0
B x = PartWalks in_core_branch (made_branch x)

other_walks : (part : Part CoreExpr) → PartWalks in_core part → ExprWalks (made.other_expr part)
other_walks part h = record { walks = h; abstraction = λ is. absurd (true≢false (sym is)) }

-- ---- blocks

pub statement_walks : (b : Binds) (grouped : Bool) (fs : List (Names × ℕ)) (scope : Scope) (d : CoreStmt) (us : List CoreUnit) (shape : Shape)
    → ((shape : Shape) → Walks us (in_core_stmt d shape)) → IfFunction b (d ≡ stmt.Defined) → Walks us (in_core_stmt (at_statement b grouped fs scope d) shape)
statement_walks (Function names) false fs scope d us shape h is =
    let group = Several (map Of (map (λ f. f.1) fs)) ∷ shape in
    subst (λ c. Walks us (in_core_stmt c group)) is (h group)
statement_walks (Function names) true fs scope d us shape h is = h shape
statement_walks (Values names) grouped fs scope d us shape h is = h shape
statement_walks Nothing grouped fs scope d us shape h is = h shape

pub at_place : (b : Binds) (part : Part CoreStmt) → IfFunction b ((scope : Scope) (n : ℕ) → (part.make scope n).0 ≡ stmt.Defined) → (scope : Scope) (n : ℕ)
    → IfFunction b ((part.make scope n).0 ≡ stmt.Defined)
at_place (Function names) part h scope n = h scope n
at_place (Values names) part h scope n = tt
at_place Nothing part h scope n = tt

pub statements_walk : (ss : Each S) (grouped : Bool) (scope : Scope) (n : ℕ) (shape : Shape)
    → Walks (statements grouped (map made_stmt (nodes ss)) scope n).1 (in_statements (map tested_stmt (statements grouped (map made_stmt (nodes ss)) scope n).0) shape)
statements_walk [] grouped scope n shape = none_walk
statements_walk (s ∷ ss) grouped scope n shape =
    let x = made_stmt s.0 in
    let fs = functions n (x ∷ map made_stmt (nodes ss)) in
    let here = scope_at x.binds grouped fs scope in
    both_walk _ _ _ _
    (statement_walks x.binds grouped fs here (x.part.make here n).0 (x.part.make here n).1 shape (s.1.walks.at here n) (at_place x.binds x.part s.1.function here n))
    (statements_walk ss (grouped_after x.binds grouped) (scope_after x.binds here) (n + x.part.size) _)

-- ---- parts of parts

abbrev pub in_core_unit : CoreUnit → Inside
in_core_unit u = in_unit (tested_unit u)

module _ {X Y Z : Type 0} (in_x : X → Inside) (in_y : Y → Inside) (in_z : Z → Inside) where
  mapped_walks : (f : X → Z) (part : Part X) → ((x : X) (shape : Shape) → in_z (f x) shape ≡ in_x x shape) → PartWalks in_x part
      → PartWalks in_z (made.mapped f part)
  mapped_walks f part is h = record { at = λ scope n shape. walks_as _ _ _ (is (part.make scope n).0 shape) (h.at scope n shape) }

  -- the second part stands in a further shape
  under_walks : (names : Names) (f : X → Y → Z) (a : Part X) (b : Part Y) (inner : X → Shape → Shape)
      → ((x : X) (y : Y) (shape : Shape) → in_z (f x y) shape ≡ in_x x shape ++ in_y y (inner x shape)) → PartWalks in_x a → PartWalks in_y b
      → PartWalks in_z (made.under names f a b)
  under_walks names f a b inner is h k = record {
    at = λ scope n shape.
        let x = (a.make scope n).0 in
        walks_as _ _ _ (is x (b.make (with_marks names scope) (n + a.size)).0 shape)
        (both_walk _ _ _ _ (h.at scope n shape) (k.at (with_marks names scope) (n + a.size) (inner x shape)));
  }

  both_walks : (f : X → Y → Z) (a : Part X) (b : Part Y) → ((x : X) (y : Y) (shape : Shape) → in_z (f x y) shape ≡ in_x x shape ++ in_y y shape)
      → PartWalks in_x a → PartWalks in_y b → PartWalks in_z (both f a b)
  both_walks f a b is = under_walks [] f a b (λ x shape. shape) is

numbered_walks : (part : Part CoreUnit) → PartWalks in_core_unit part → PartWalks in_number (made.numbered part)
numbered_walks part h = record {
  at = λ scope n shape. unit_walks (part.make scope (suc n)).0 (part.make scope (suc n)).1 shape (h.at scope (suc n) shape);
}

block_walks : (ss : Each S) → PartWalks in_number (block (map made_stmt (nodes ss)))
block_walks ss = numbered_walks (record {
  size = sum (map (λ s. s.part.size) (map made_stmt (nodes ss)));
  make = λ scope n. let x = statements false (map made_stmt (nodes ss)) scope n in (unit.Block x.0, x.1);
}) (record { at = statements_walk ss false })

-- ---- what is inside of a node

pub core_is : (c : Const) (shape : Shape) → in_core (expr.Is c) shape ≡ []
core_is c shape = ap (λ d. in_expr d shape) (tested_is c) ∙ inside_constant c shape

pub core_abs : (k : ℕ) (shape : Shape) → in_core (expr.Abs k) shape ≡ shape ∷ []
core_abs k shape = ap (λ d. in_expr d shape) (tested_abs k) ∙ inside_abs k shape

pub core_block : (k : ℕ) (shape : Shape) → in_core (expr.Block k) shape ≡ shape ∷ []
core_block k shape = ap (λ d. in_expr d shape) (tested_block k) ∙ inside_block k shape

pub core_call : (f x : CoreExpr) (shape : Shape) → in_core (expr.Call f x) shape ≡ in_core f shape ++ in_core x shape
core_call f x shape = ap (λ d. in_expr d shape) (tested_call f x) ∙ inside_call (tested_expr f) (tested_expr x) shape

pub core_tuple : (es : List CoreExpr) (shape : Shape) → in_core (expr.Tuple es) shape ≡ in_all (map in_core es) shape
core_tuple es shape =
    ap (λ d. in_expr d shape) (tested_tuple es) ∙ inside_tuple (map tested_expr es) shape ∙ ap (λ z. in_all z shape) (map-map in_expr tested_expr es)

pub core_new : (d : CoreExpr) (shape : Shape) → in_core (expr.New d) shape ≡ in_core d shape
core_new d shape = ap (λ d. in_expr d shape) (tested_new d) ∙ inside_new (tested_expr d) shape

pub core_case : (d : CoreExpr) (arms : List CoreArm) (shape : Shape) → in_core (expr.Case d arms) shape ≡ in_core d shape ++ in_all (map in_core_arm arms) shape
core_case d arms shape =
    ap (λ d. in_expr d shape) (tested_case d arms)
    ∙ inside_case (tested_expr d) (map tested_arm arms) shape
    ∙ ap (λ z. in_core d shape ++ in_all z shape) (map-map in_arm tested_arm arms)

pub core_if : (bs : List CoreBranch) (k : ℕ) (shape : Shape) → in_core (expr.If bs k) shape ≡ in_all (map in_core_branch bs) shape ++ shape ∷ []
core_if bs k shape =
    ap (λ d. in_expr d shape) (tested_if bs k)
    ∙ inside_if (map tested_branch bs) k shape
    ∙ ap (λ z. in_all z shape ++ shape ∷ []) (map-map in_branch tested_branch bs)

pub core_constant : (c : Const) (shape : Shape) → in_core_pat (pat.Is c) shape ≡ []
core_constant c shape = ap (λ ts. in_tests ts shape) (tested_constant c) ∙ ap (λ t. t.inside shape ++ []) (of_constant c)

pub core_value : (d : CoreExpr) (shape : Shape) → in_core_pat (pat.Value d) shape ≡ in_core d shape
core_value d shape =
    ap (λ ts. in_tests ts shape) (tested_value d) ∙ ap (λ t. t.inside shape ++ []) (of_same (tested_expr d)) ∙ append-nil (in_core d shape)

pub core_items : (ps : List CorePat) (shape : Shape) → in_core_pat (pat.Tuple ps) shape ≡ in_all (map in_core_pat ps) shape
core_items ps shape = ap (λ ts. in_tests ts shape) (tested_items ps) ∙ tuple_inside ps shape

pub core_any : (shape : Shape) → in_core_pat pat.Any shape ≡ []
core_any shape = ap (λ ts. in_tests ts shape) tested_any ∙ ap (λ t. t.inside shape ++ []) of_skip

pub core_bind : (shape : Shape) → in_core_pat pat.Bind shape ≡ []
core_bind shape = ap (λ ts. in_tests ts shape) tested_bind ∙ ap (λ t. t.inside shape ++ []) of_bind

pub core_text : (points : List ℕ) (shape : Shape) → in_core (expr.Text points) shape ≡ []
core_text points shape = ap (λ d. in_expr d shape) (tested_text points) ∙ inside_text points shape

pub core_var : (slot : Slot) (shape : Shape) → in_core (expr.Var slot) shape ≡ []
core_var slot shape = ap (λ d. in_expr d shape) (tested_var slot) ∙ inside_var slot shape

pub core_myself : (shape : Shape) → in_core expr.Myself shape ≡ []
core_myself shape = ap (λ d. in_expr d shape) tested_myself ∙ inside_myself shape

-- the shape behind the tests of an arm
abbrev pub behind_tests : CorePat → Shape → Shape
behind_tests d shape = with_singles (after_all (map of_one_test (tested_pat d)) 0) shape

pub core_arm : (d : CorePat) (x : CoreExpr) (shape : Shape)
    → in_core_arm (roll-CoreArm (record { pattern = d; value = x })) shape ≡ in_core_pat d shape ++ in_core x (behind_tests d shape)
core_arm d x shape = ap (λ z. in_arm z shape) (tested_one_arm d x) ∙ inside_arm (tested_pat d) (tested_expr x) shape

pub core_branch : (d : CoreExpr) (k : ℕ) (shape : Shape) → in_core_branch (roll-CoreBranch (record { condition = d; block = k })) shape ≡ in_core d shape ++ shape ∷ []
core_branch d k shape = ap (λ z. in_branch z shape) (tested_one_branch d k) ∙ inside_branch (tested_expr d) k shape

-- ---- every node

constant_walks : (c : Const) (x : Expr) → made_expr x ≡ made.constant c → E x
constant_walks c x is = subst ExprWalks (sym is) (other_walks _ (plain_walks in_core (λ scope. expr.Is c) (λ scope shape. core_is c shape)))

leaf_walks : (f : Scope → CoreExpr) (x : Expr) → made_expr x ≡ made.other_expr (made.plain f) → ((scope : Scope) (shape : Shape) → in_core (f scope) shape ≡ []) → E x
leaf_walks f x is h = subst ExprWalks (sym is) (other_walks _ (plain_walks in_core f h))

constant_pat_walks : (c : Const) (x : Pat) → made_pat x ≡ made.constant_pat c → P x
constant_pat_walks c x is =
    subst (λ (z : OfPat). PartWalks in_core_pat z.part) (sym is) (plain_walks in_core_pat (λ scope. pat.Is c) (λ scope shape. core_constant c shape))

plain_pat_walks : (d : CorePat) (x : Pat) (z : OfPat) → made_pat x ≡ z → ((scope : Scope) (n : ℕ) → z.part.make scope n ≡ (d, []))
    → ((shape : Shape) → in_core_pat d shape ≡ []) → P x
plain_pat_walks d x z is h k =
    subst (λ (z : OfPat). PartWalks in_core_pat z.part) (sym is)
    (record { at = λ scope n shape. subst (λ m. Walks m.1 (in_core_pat m.0 shape)) (sym (h scope n)) (walks_as [] _ _ (k shape) none_walk) })

abs_walks : (x : Pat) (a : Expr) → P x → E a → E (e.Abs x a)
abs_walks x a h k =
    subst ExprWalks (sym (fold_of.fold_abs built x a)) (record {
      walks = mapped_walks in_number in_number in_core expr.Abs _ core_abs
          (numbered_walks _ (under_walks in_core_pat in_core in_core_unit (made_pat x).names unit.Abs (made_pat x).part (made_expr a).part
          (λ d shape. with_singles (bound_after (tested_pat d) 0) shape) (λ d y shape. refl) h k.walks));
      abstraction = λ is scope n. refl;
    })

if_walks : (xs : Each B) (ys : Each S) → ExprWalks (made.other_expr (both expr.If (in_order (map made_branch (nodes xs))) (block (map made_stmt (nodes ys)))))
if_walks xs ys =
    other_walks _ (both_walks (λ bs shape. in_all (map in_core_branch bs) shape) in_number in_core expr.If _ _ core_if
    (in_order_walk in_core_branch _ (each_of B made_branch in_core_branch xs (λ x h. h))) (block_walks ys))

let_walks : (b : Bool) (x : OfPat) (a : OfExpr) → (b ≡ true → a.is_abstraction ≡ true) → PartWalks in_core_pat x.part → ExprWalks a
    → StmtWalks (let_stmt b x a)
let_walks true x a is h k = record {
  walks = record {
    at = λ scope n shape.
        walks_as _ (shape ∷ []) (in_core (a.part.make scope n).0 shape) (sym (ap (λ d. in_core d shape) (k.abstraction (is refl) scope n) ∙ core_abs n shape))
        (k.walks.at scope n shape);
  };
  function = λ scope n. refl;
}
let_walks false x a is h k = record {
  walks = both_walks in_core_pat in_core in_core_stmt stmt.Let x.part a.part (λ d y shape. refl) h k.walks;
  function = tt;
}

-- a statement that is one expression
one_walks : (x : Stmt) (a : Expr) (f : CoreExpr → CoreStmt) (b : Binds) → E a → made_stmt x ≡ record { binds = b; part = made.mapped f (made_expr a).part }
    → ((P : Type 0) → IfFunction b P) → ((d : CoreExpr) (shape : Shape) → in_core_stmt (f d) shape ≡ in_core d shape) → S x
one_walks x a f b h is none same =
    subst StmtWalks (sym is) (record { walks = mapped_walks in_core in_core in_core_stmt f (made_expr a).part same h.walks; function = none _ })

cases : Cases E P S A B
cases = record {
  at_undef = constant_walks const.Undef e.Undef (fold_of.fold_undef built);
  at_nil = constant_walks const.Nil e.Nil (fold_of.fold_nil built);
  at_true = constant_walks const.True e.True (fold_of.fold_true built);
  at_false = constant_walks const.False e.False (fold_of.fold_false built);
  at_num = λ z. constant_walks (const.Num z) (e.Num z) (fold_of.fold_num built z);
  at_sym = λ t. constant_walks (const.Sym t) (e.Sym t) (fold_of.fold_sym built t);
  at_text = λ t. leaf_walks _ (e.Text t) (fold_of.fold_text built t) (λ scope shape. core_text t shape);
  at_var = λ t. leaf_walks _ (e.Var t) (fold_of.fold_var built t) (λ scope shape. core_var _ shape);
  at_myself = leaf_walks _ e.Myself (fold_of.fold_myself built) (λ scope shape. core_myself shape);
  at_abs = abs_walks;
  at_block = λ xs.
      subst ExprWalks (sym (fold_of.fold_block built (nodes xs)))
      (other_walks _ (mapped_walks in_number in_number in_core expr.Block _ core_block (block_walks xs)));
  at_call = λ f a h k.
      subst ExprWalks (sym (fold_of.fold_call built f a))
      (other_walks _ (both_walks in_core in_core in_core expr.Call (made_expr f).part (made_expr a).part core_call h.walks k.walks));
  at_tuple = λ xs.
      subst ExprWalks (sym (fold_of.fold_tuple built (nodes xs)))
      (other_walks _ (mapped_walks (λ es shape. in_all (map in_core es) shape) in_number in_core expr.Tuple _ core_tuple
      (in_order_walk in_core _ (parts_of E made_expr (λ x. x.part) in_core xs (λ x h. h.walks)))));
  at_new = λ a h.
      subst ExprWalks (sym (fold_of.fold_new built a))
      (other_walks _ (mapped_walks in_core in_core in_core expr.New (made_expr a).part core_new h.walks));
  at_case = λ a xs h.
      subst ExprWalks (sym (fold_of.fold_case built a (nodes xs)))
      (other_walks _ (both_walks in_core (λ as' shape. in_all (map in_core_arm as') shape) in_core expr.Case (made_expr a).part _ core_case h.walks
      (in_order_walk in_core_arm _ (each_of A made_arm in_core_arm xs (λ x h. h)))));
  at_if = λ xs. subst ExprWalks (sym (fold_of.fold_if built (nodes xs))) (if_walks xs []);
  at_if_else = λ xs ys. subst ExprWalks (sym (fold_of.fold_if_else built (nodes xs) (nodes ys))) (if_walks xs ys);
  at_any = plain_pat_walks pat.Any p.Any _ (fold_of.fold_any built) (λ scope n. refl) core_any;
  at_bind = λ t. plain_pat_walks pat.Bind (p.Bind t) _ (fold_of.fold_bind built t) (λ scope n. refl) core_bind;
  at_pat_undef = constant_pat_walks const.Undef p.Undef (fold_of.fold_pat_undef built);
  at_pat_nil = constant_pat_walks const.Nil p.Nil (fold_of.fold_pat_nil built);
  at_pat_true = constant_pat_walks const.True p.True (fold_of.fold_pat_true built);
  at_pat_false = constant_pat_walks const.False p.False (fold_of.fold_pat_false built);
  at_pat_num = λ z. constant_pat_walks (const.Num z) (p.Num z) (fold_of.fold_pat_num built z);
  at_pat_sym = λ t. constant_pat_walks (const.Sym t) (p.Sym t) (fold_of.fold_pat_sym built t);
  at_value = λ a h.
      subst (λ (z : OfPat). PartWalks in_core_pat z.part) (sym (fold_of.fold_value built a))
      (mapped_walks in_core in_core in_core_pat pat.Value (made_expr a).part core_value h.walks);
  at_pat_tuple = λ xs.
      subst (λ (z : OfPat). PartWalks in_core_pat z.part) (sym (fold_of.fold_pat_tuple built (nodes xs)))
      (mapped_walks (λ ps shape. in_all (map in_core_pat ps) shape) in_number in_core_pat pat.Tuple _ core_items
      (in_order_walk in_core_pat _ (parts_of P made_pat (λ x. x.part) in_core_pat xs (λ x h. h))));
  at_let = λ x a h k.
      subst StmtWalks (sym (fold_of.fold_let built x a))
      (let_walks _ (made_pat x) (made_expr a) (λ b. (and_parts (made_pat x).is_name (made_expr a).is_abstraction b).1) h k);
  at_send = λ a b h k.
      subst StmtWalks (sym (fold_of.fold_send built a b)) (record {
        walks = both_walks in_core in_core in_core_stmt stmt.Send (made_expr a).part (made_expr b).part (λ d y shape. refl) h.walks k.walks;
        function = tt;
      });
  at_create = λ t a h. one_walks (s.Create t a) a stmt.Create (Values (t ∷ [])) h (fold_of.fold_create built t a) (λ P. tt) (λ d shape. refl);
  at_become = λ a h. one_walks (s.Become a) a stmt.Become Nothing h (fold_of.fold_become built a) (λ P. tt) (λ d shape. refl);
  at_throw = λ a h. one_walks (s.Throw a) a stmt.Throw Nothing h (fold_of.fold_throw built a) (λ P. tt) (λ d shape. refl);
  at_do = λ a h. one_walks (s.Do a) a stmt.Do Nothing h (fold_of.fold_do built a) (λ P. tt) (λ d shape. refl);
  at_arm = λ x a h k.
      subst (PartWalks in_core_arm) (sym (fold_of.fold_arm built x a))
      (under_walks in_core_pat in_core in_core_arm (made_pat x).names _ (made_pat x).part (made_expr a).part behind_tests core_arm h k.walks);
  at_branch = λ a xs h.
      subst (PartWalks in_core_branch) (sym (fold_of.fold_branch built a (nodes xs)))
      (both_walks in_core in_number in_core_branch _ (made_expr a).part (block (map made_stmt (nodes xs))) core_branch h.walks (block_walks xs));
}

pub expr_walks : (x : Expr) → E x
expr_walks = induction.every_expr cases

pub pat_walks : (x : Pat) → P x
pat_walks = induction.every_pat cases

pub stmt_walks : (x : Stmt) → S x
stmt_walks = induction.every_stmt cases

pub arm_walks : (x : Arm) → A x
arm_walks = induction.every_arm cases

pub branch_walks : (x : Branch) → B x
branch_walks = induction.every_branch cases
