-- The statements of a block fit where each of them does.
use Rattle.std.proofs.Common.{◌≡◌, refl, ap, sym, subst, ℕ, suc, ◌+◌, Bool, true, false, List, [], ◌∷◌, ◌++◌, map, length, arith, length-append}
use Rattle.std.specs.Prelude.{◌≤◌, ◌<◌, if◌then◌else◌}
use Rattle.std.proofs.lemmas.Bool.{and_parts}
use Rattle.hum_syntax.specs.declared.tree.Stmt.{Stmt}
use Rattle.hum_syntax.specs.Formed as tree
use Rattle.hum_syntax.proofs.Induction.{Each, nodes}
use Rattle.hum_core.specs.declared.resolved.CoreUnit.TheVariants as unit
use Rattle.hum_core.specs.declared.resolved.CoreStmt.{CoreStmt}
use Rattle.hum_core.specs.declared.resolved.CoreStmt.TheVariants as stmt
use Rattle.hum_core.specs.declared.tested.TestUnit.{TestUnit}
use Rattle.hum_meaning.specs.Named.{Name}
use Rattle.hum_meaning.specs.Scope as judged
use Rattle.hum_meaning.specs.Scope.{Verdicts, Place, Binds, Function, Values, Nothing, names_of, ahead, grouped_after, in_block, most_bindings, has}
use Rattle.hum_core.specs.Numbered.{Code, Of}
use Rattle.hum_core.specs.Alike.{Many, with_marks}
use Rattle.hum_core.specs.Agreement.{Names}
use Rattle.hum_core.specs.Units as made
use Rattle.hum_core.specs.Units.{Scope, Part, OfStmt, block, functions, group_names, at_statement, scope_at, scope_after, statements}
use Rattle.hum_core.specs.Lists.{tested_stmt}
use Rattle.hum_core.proofs.FormedParts.{IfFunction}
use Rattle.hum_core.proofs.ScopedNames.{Fine, fine_parts, Sees, marks_seen, group_seen}
use Rattle.hum_core.proofs.ScopedBlocks.{judged_stmt, judged_as_found, functions_among, taken_on, behind_taken, none_ahead}
use Rattle.hum_core.proofs.UnitPlaces.{made_stmt, sized_stmt}
use Rattle.hum_core.proofs.BoundNames.{found_stmt}
use Rattle.hum_code.specs.Layout.{Shape, Several, with_singles}
use Rattle.hum_emit.specs.Shapes.{in_statements, behind_statement, StatementFits, StatementsFit, FunctionIn, BlockIn}
use Rattle.hum_emit.proofs.Walking.{Walks, in_core_stmt, statement_walks, at_place, stmt_walks}
use Rattle.hum_emit.proofs.ShapePlaces.{Here, here_parts, here_as, here_unit, AllFit, none_fit, fit_both, fit_unit, fit_as, MembersFit, ScopeFits, scope_singles, Ready, singles_more}
use Rattle.hum_emit.proofs.ShapeTests.{to}

-- ---- what a statement binds

-- the shape behind a statement that is in a shape
abbrev pub shape_behind : Binds → Shape → Shape
shape_behind (Values names) shape = with_singles (length names) shape
shape_behind _ shape = shape

-- the shape in which a statement's own units stand
abbrev pub shape_at : Binds → (grouped : Bool) → List (Names × ℕ) → Shape → Shape
shape_at (Function names) false fs shape = Several (map Of (map (λ f. f.1) fs)) ∷ shape
shape_at _ grouped fs shape = shape

-- a function has one name, for which there is room
abbrev pub HasRoom : Binds → (Place → Verdicts) → Type 0
HasRoom (Function names) at = (length names ≡ 1) × ((place : Place) → Fine (at place) → place.besides < most_bindings)
HasRoom _ at = Unit {0}

-- values stand in a shape of so many entries at most
abbrev pub Counted : Binds → Shape → ℕ → Type 0
Counted (Values names) shape n = length shape ≤ n
Counted _ shape n = Unit {0}

-- P, where the stretch goes on
abbrev pub IfGoes : Binds → Type 0 → Type 0
IfGoes (Values names) P = Unit {0}
IfGoes _ P = P

-- there is room for the names of values
abbrev pub Bounds : Binds → Shape → Type 0
Bounds (Values names) shape = length names + length shape ≤ most_bindings
Bounds _ shape = Unit {0}

module _ (units : List TestUnit) (shapes : List Shape) where
  -- what is so of a statement
  pub record StmtFit (x : OfStmt) (at_ : Place → Verdicts) : Type 0 where
    pub at : (scope : Scope) (shape : Shape) (place : Place) (n : ℕ) → Ready units shapes scope shape place.seen → Fine (at_ place)
        → Counted x.binds shape place.besides → Here units shapes n (x.part.make scope n).1 (in_core_stmt (x.part.make scope n).0 shape)
        → ((m : ℕ) → StatementFits units shapes (to units shapes m) (tested_stmt (x.part.make scope n).0) shape)
        × ((m : ℕ) → AllFit units shapes m (x.part.make scope n).1 (in_core_stmt (x.part.make scope n).0 shape))
        × Bounds x.binds shape
    pub behind : (scope : Scope) (n : ℕ) (shape : Shape) → behind_statement (tested_stmt (x.part.make scope n).0) shape ≡ shape_behind x.binds shape
    pub function : IfFunction x.binds ((scope : Scope) (shape : Shape) (n : ℕ)
        → Here units shapes n (x.part.make scope n).1 (in_core_stmt (x.part.make scope n).0 shape) → FunctionIn units shapes shape n)
    pub room : HasRoom x.binds at_

  abbrev pub S : Stmt → Type 0
  S s = tree.is_formed_stmt s ≡ true → StmtFit (made_stmt s) (found_stmt s).at

  -- ---- a statement with the group that it begins

  same_inside : (b : Binds) (grouped : Bool) (fs : List (Names × ℕ)) (scope : Scope) (d : CoreStmt) (shape : Shape) → IfFunction b (d ≡ stmt.Defined)
      → in_core_stmt (at_statement b grouped fs scope d) shape ≡ in_core_stmt d (shape_at b grouped fs shape)
  same_inside (Function names) false fs scope d shape is = ap (λ c. in_core_stmt c (Several (map Of (map (λ f. f.1) fs)) ∷ shape)) (sym is)
  same_inside (Function names) true fs scope d shape is = refl
  same_inside (Values names) grouped fs scope d shape is = refl
  same_inside Nothing grouped fs scope d shape is = refl

  same_behind : (b : Binds) (grouped : Bool) (fs : List (Names × ℕ)) (scope : Scope) (d : CoreStmt) (shape : Shape)
      → ((shape : Shape) → behind_statement (tested_stmt d) shape ≡ shape_behind b shape)
      → behind_statement (tested_stmt (at_statement b grouped fs scope d)) shape ≡ shape_behind b (shape_at b grouped fs shape)
  same_behind (Function names) false fs scope d shape h = refl
  same_behind (Function names) true fs scope d shape h = h shape
  same_behind (Values names) grouped fs scope d shape h = h shape
  same_behind Nothing grouped fs scope d shape h = h shape

  same_fits : (m : ℕ) (b : Binds) (grouped : Bool) (fs : List (Names × ℕ)) (scope : Scope) (d : CoreStmt) (shape : Shape)
      → StatementFits units shapes (to units shapes m) (tested_stmt d) (shape_at b grouped fs shape)
      → StatementFits units shapes (to units shapes m) (tested_stmt (at_statement b grouped fs scope d)) shape
  same_fits m (Function names) false fs scope d shape h = tt
  same_fits m (Function names) true fs scope d shape h = h
  same_fits m (Values names) grouped fs scope d shape h = h
  same_fits m Nothing grouped fs scope d shape h = h

  -- ---- the members of a group

  one_member : (names : Names) (n : ℕ) (others : Names) (codes : List Code) (shape : Shape) → length names ≡ 1 → FunctionIn units shapes shape n
      → MembersFit units shapes shape others codes → MembersFit units shapes shape (names ++ others) (Of n ∷ codes)
  one_member (name ∷ []) n others codes shape e f h = (f, h)
  one_member [] n others codes shape e f h = absurd (omega (arith, e))
  one_member (name ∷ other ∷ names) n others codes shape e f h = absurd (omega (arith, e))

  members_with : (b : Binds) (at_ : Place → Verdicts) (n : ℕ) (all fs : List (Names × ℕ)) (shape : Shape) → HasRoom b at_
      → IfFunction b (FunctionIn units shapes (shape_at b true all shape) n)
      → IfGoes b (MembersFit units shapes (shape_behind b (shape_at b true all shape)) (group_names fs) (map Of (map (λ f. f.1) fs)))
      → MembersFit units shapes shape (group_names (made.with_binds b n fs)) (map Of (map (λ f. f.1) (made.with_binds b n fs)))
  members_with (Function names) at_ n all fs shape one f h = one_member names n (group_names fs) (map Of (map (λ f. f.1) fs)) shape one.0 f h
  members_with (Values names) at_ n all fs shape one f h = tt
  members_with Nothing at_ n all fs shape one f h = h

  function_at : (b : Binds) (part : Part CoreStmt) (scope : Scope) (shape : Shape) (n : ℕ)
      → IfFunction b ((scope : Scope) (shape : Shape) (n : ℕ) → Here units shapes n (part.make scope n).1 (in_core_stmt (part.make scope n).0 shape) → FunctionIn units shapes shape n)
      → Here units shapes n (part.make scope n).1 (in_core_stmt (part.make scope n).0 shape) → IfFunction b (FunctionIn units shapes shape n)
  function_at (Function names) part scope shape n f h = f scope shape n h
  function_at (Values names) part scope shape n f h = tt
  function_at Nothing part scope shape n f h = tt

  -- statements from one on, in a shape
  abbrev HereFrom : (grouped : Bool) → List OfStmt → Scope → Shape → ℕ → Type 0
  HereFrom grouped xs scope shape n = Here units shapes n (statements grouped xs scope n).1 (in_statements (map tested_stmt (statements grouped xs scope n).0) shape)

  module _ (s : Stmt) (fit : StmtFit (made_stmt s) (found_stmt s).at) (more : List Stmt) (grouped : Bool) (scope : Scope) (shape : Shape) (n : ℕ) where
    abbrev x : OfStmt
    x = made_stmt s

    abbrev stretch : List (Names × ℕ)
    stretch = functions n (x ∷ map made_stmt more)

    abbrev here : Scope
    here = scope_at x.binds grouped stretch scope

    abbrev inner : Shape
    inner = shape_at x.binds grouped stretch shape

    abbrev after : Shape
    after = shape_behind x.binds inner

    abbrev others : Scope
    others = scope_after x.binds here

    abbrev made_here : CoreStmt
    made_here = (x.part.make here n).0

    abbrev own : CoreStmt
    own = at_statement x.binds grouped stretch here made_here

    own_walks : Walks (x.part.make here n).1 (in_core_stmt own shape)
    own_walks =
        statement_walks x.binds grouped stretch here made_here (x.part.make here n).1 shape ((stmt_walks s).walks.at here n)
        (at_place x.binds x.part (stmt_walks s).function here n)

    inside_is : in_core_stmt own shape ≡ in_core_stmt made_here inner
    inside_is = same_inside x.binds grouped stretch here made_here shape (at_place x.binds x.part (stmt_walks s).function here n)

    behind_is : behind_statement (tested_stmt own) shape ≡ after
    behind_is = same_behind x.binds grouped stretch here made_here shape (λ shape. fit.behind here n shape)

    -- its own place, and that of those behind it
    two : HereFrom grouped (x ∷ map made_stmt more) scope shape n
        → Here units shapes n (x.part.make here n).1 (in_core_stmt made_here inner)
        × HereFrom (grouped_after x.binds grouped) (map made_stmt more) others after (n + x.part.size)
    two h =
        let parts = here_parts units shapes n x.part.size _ _ _ _ (sized_stmt s here n) own_walks h in
        let rest = (statements (grouped_after x.binds grouped) (map made_stmt more) others (n + x.part.size)) in (
          here_as units shapes n _ _ _ inside_is parts.0,
          here_as units shapes (n + x.part.size) _ _ _ (ap (in_statements (map tested_stmt rest.0)) behind_is) parts.1,
        )

    -- the statement and those behind it fit where each does
    all_fit : (m : ℕ) → StatementFits units shapes (to units shapes m) (tested_stmt made_here) inner
        → AllFit units shapes m (x.part.make here n).1 (in_core_stmt made_here inner)
        → let rest = statements (grouped_after x.binds grouped) (map made_stmt more) others (n + x.part.size) in
        StatementsFit units shapes (to units shapes m) (map tested_stmt rest.0) after
        → AllFit units shapes m rest.1 (in_statements (map tested_stmt rest.0) after)
        → StatementsFit units shapes (to units shapes m) (map tested_stmt (own ∷ rest.0)) shape
        × AllFit units shapes m ((x.part.make here n).1 ++ rest.1) (in_statements (map tested_stmt (own ∷ rest.0)) shape)
    all_fit m h k g f =
        let rest = statements (grouped_after x.binds grouped) (map made_stmt more) others (n + x.part.size) in (
          (same_fits m x.binds grouped stretch here made_here shape h, subst (StatementsFit units shapes (to units shapes m) (map tested_stmt rest.0)) (sym behind_is) g),
          fit_both units shapes m _ _ _ _ own_walks (fit_as units shapes m _ _ _ inside_is k)
              (fit_as units shapes m _ _ _ (ap (in_statements (map tested_stmt rest.0)) behind_is) f),
        )

  goes_on : (b : Binds) (xs : List OfStmt) (scope : Scope) (shape : Shape) (n : ℕ) (P : Shape → Type 0) → HereFrom (grouped_after b true) xs scope shape n
      → ((scope : Scope) (shape : Shape) → HereFrom true xs scope shape n → P shape) → IfGoes b (P shape)
  goes_on (Function names) xs scope shape n P h k = k scope shape h
  goes_on (Values names) xs scope shape n P h k = tt
  goes_on Nothing xs scope shape n P h k = k scope shape h

  -- the functions from here to the end of the stretch, where the group stands
  abbrev Named : Shape → List (Names × ℕ) → Type 0
  Named shape fs = MembersFit units shapes shape (group_names fs) (map Of (map (λ f. f.1) fs))

  members : (ss : Each S) → tree.all (map tree.is_formed_stmt (nodes ss)) ≡ true → (n : ℕ) (scope : Scope) (shape : Shape)
      → HereFrom true (map made_stmt (nodes ss)) scope shape n → Named shape (functions n (map made_stmt (nodes ss)))
  members [] formed n scope shape h = tt
  members (s ∷ ss) formed n scope shape h =
      let parts = and_parts _ _ formed in
      let fit = s.1 parts.0 in
      let x = made_stmt s.0 in
      let xs = map made_stmt (nodes ss) in
      let all = functions n (x ∷ xs) in
      let here = scope_at x.binds true all scope in
      let inner = shape_at x.binds true all shape in
      let places = two s.0 fit (nodes ss) true scope shape n h in
      members_with x.binds (found_stmt s.0).at n all (functions (n + x.part.size) xs) shape fit.room
      (function_at x.binds x.part here inner n fit.function places.0)
      (goes_on x.binds xs (scope_after x.binds here) (shape_behind x.binds inner) (n + x.part.size) (λ shape. Named shape (functions (n + x.part.size) xs)) places.1
      (λ scope shape h. members ss parts.1 (n + x.part.size) scope shape h))

  -- ---- where a statement stands, and what it leaves

  -- what a group that begins has
  abbrev GroupFits : Binds → (grouped : Bool) → List (Names × ℕ) → Names → Shape → Type 0
  GroupFits (Function names) false all ahead shape =
      Named (Several (map Of (map (λ f. f.1) all)) ∷ shape) all
      × ((x : Name) → has (ahead ++ names) x ≡ true → has (group_names all) x ≡ true)
      × (suc (length shape) ≤ most_bindings)
      × (length names ≡ 1)
  GroupFits _ grouped all ahead shape = Unit {0}

  -- the names that are seen from the statement on
  abbrev Seen : Bool → Names → Names → Names → Names
  Seen grouped fs taken outer = (if grouped then fs else []) ++ taken ++ outer

  longer : (front taken outer : Names) (k : ℕ) → k ≤ length (taken ++ outer) → k ≤ length (front ++ taken ++ outer)
  longer front taken outer k h =
      omega (arith, h, length-append (front ++ taken) outer, length-append front taken, length-append taken outer)

  one_longer : (front names taken outer : Names) (k : ℕ) → length names ≡ 1 → k ≤ length (taken ++ outer) → suc k ≤ length ((front ++ names) ++ taken ++ outer)
  one_longer front names taken outer k one h =
      omega (arith, h, one, length-append ((front ++ names) ++ taken) outer, length-append (front ++ names) taken, length-append front names, length-append taken outer)

  begin : (b : Binds) (grouped : Bool) (all : List (Names × ℕ)) (fs taken outer : Names) (scope : Scope) (shape : Shape)
      → ScopeFits units shapes scope shape → Sees scope (Seen grouped (judged.with_binds b fs) taken outer)
      → length shape ≤ length (taken ++ outer) → length shape ≤ most_bindings → GroupFits b grouped all fs shape
      → Ready units shapes (scope_at b grouped all scope) (shape_at b grouped all shape) (ahead b grouped (judged.with_binds b fs) ++ taken ++ outer)
  begin (Function names) true all fs taken outer scope shape fits sees few most group =
      record { fits = fits; sees = sees; few = longer (fs ++ names) taken outer _ few; bounded = most }
  begin (Function names) false all fs taken outer scope shape fits sees few most group = record {
    fits = (group.0, fits);
    sees = behind_taken (Many (group_names all) ∷ scope) (fs ++ names) taken outer (group_seen (group_names all) (fs ++ names) scope (taken ++ outer) group.1 sees);
    few = one_longer fs names taken outer _ group.3 few;
    bounded = group.2;
  }
  begin (Values names) grouped all fs taken outer scope shape fits sees few most group =
      record { fits = fits; sees = none_ahead grouped scope taken outer sees; few = few; bounded = most }
  begin Nothing grouped all fs taken outer scope shape fits sees few most group =
      record { fits = fits; sees = sees; few = longer (if grouped then fs else []) taken outer _ few; bounded = most }

  -- what stands behind it
  record Next (b : Binds) (grouped : Bool) (fs taken outer : Names) (scope : Scope) (shape : Shape) : Type 0 where
    fits : ScopeFits units shapes scope shape
    sees : Sees scope (Seen (grouped_after b grouped) fs (names_of b ++ taken) outer)
    few : length shape ≤ length (names_of b ++ taken ++ outer)
    most : length shape ≤ most_bindings

  next : (b : Binds) (grouped : Bool) (all : List (Names × ℕ)) (fs taken outer : Names) (scope : Scope) (shape : Shape)
      → length shape ≤ length (taken ++ outer) → GroupFits b grouped all fs shape → Bounds b (shape_at b grouped all shape)
      → Ready units shapes (scope_at b grouped all scope) (shape_at b grouped all shape) (ahead b grouped (judged.with_binds b fs) ++ taken ++ outer)
      → Next b grouped fs taken outer (scope_after b (scope_at b grouped all scope)) (shape_behind b (shape_at b grouped all shape))
  next (Function names) true all fs taken outer scope shape few group bounds r =
      record { fits = r.fits; sees = taken_on scope fs names taken outer r.sees; few = longer names taken outer _ few; most = r.bounded }
  next (Function names) false all fs taken outer scope shape few group bounds r =
      record { fits = r.fits; sees = taken_on (Many (group_names all) ∷ scope) fs names taken outer r.sees; few = one_longer [] names taken outer _ group.3 few; most = r.bounded }
  next (Values names) grouped all fs taken outer scope shape few group bounds r = record {
    fits = scope_singles units shapes names scope shape r.fits;
    sees = behind_taken (with_marks names scope) names taken outer (marks_seen names scope (taken ++ outer) r.sees);
    few = omega (arith, few, singles_more (length names) shape, length-append (names ++ taken) outer, length-append names taken, length-append taken outer);
    most = omega (arith, bounds, singles_more (length names) shape);
  }
  next Nothing grouped all fs taken outer scope shape few group bounds r = record { fits = r.fits; sees = r.sees; few = few; most = r.bounded }

  -- ---- all statements

  counted : (b : Binds) (grouped : Bool) (all : List (Names × ℕ)) (shape : Shape) (n : ℕ) → length shape ≤ n → Counted b (shape_at b grouped all shape) n
  counted (Function names) grouped all shape n h = tt
  counted (Values names) grouped all shape n h = h
  counted Nothing grouped all shape n h = tt

  -- P, where a group begins
  abbrev IfBegins : Binds → Bool → Type 0 → Type 0
  IfBegins (Function names) false P = P
  IfBegins _ grouped P = Unit {0}

  begins : (b : Binds) (grouped : Bool) (xs : List OfStmt) (scope : Scope) (shape : Shape) (n : ℕ) (P : Shape → Type 0)
      → HereFrom (grouped_after b grouped) xs scope shape n → ((scope : Scope) (shape : Shape) → HereFrom true xs scope shape n → P shape)
      → IfBegins b grouped (P shape)
  begins (Function names) false xs scope shape n P h k = k scope shape h
  begins (Function names) true xs scope shape n P h k = tt
  begins (Values names) grouped xs scope shape n P h k = tt
  begins Nothing grouped xs scope shape n P h k = tt

  group_fits : (b : Binds) (grouped : Bool) (n : ℕ) (more : List (Names × ℕ)) (fs : Names) (shape : Shape) (at_ : Place → Verdicts) (place : Place)
      → HasRoom b at_ → Fine (at_ place) → length shape ≤ place.besides
      → ((x : Name) → has (judged.with_binds b fs) x ≡ true → has (group_names (made.with_binds b n more)) x ≡ true)
      → IfFunction b (FunctionIn units shapes (shape_at b grouped (made.with_binds b n more) shape) n)
      → IfBegins b grouped (Named (shape_behind b (shape_at b grouped (made.with_binds b n more) shape)) more)
      → GroupFits b grouped (made.with_binds b n more) fs shape
  group_fits (Function names) false n more fs shape at_ place one fine few among f rest =
      (one_member names n (group_names more) (map Of (map (λ f. f.1) more)) _ one.0 f rest, among, omega (arith, few, one.1 place fine), one.0)
  group_fits (Function names) true n more fs shape at_ place one fine few among f rest = tt
  group_fits (Values names) grouped n more fs shape at_ place one fine few among f rest = tt
  group_fits Nothing grouped n more fs shape at_ place one fine few among f rest = tt

  module _ (outer : Names) where
    statements_fit : (ss : Each S) → tree.all (map tree.is_formed_stmt (nodes ss)) ≡ true → (grouped : Bool) (scope : Scope) (shape : Shape) (taken : Names) (n : ℕ)
        → ScopeFits units shapes scope shape → Sees scope (Seen grouped (judged.functions (map judged_stmt (nodes ss))) taken outer)
        → length shape ≤ length (taken ++ outer) → length shape ≤ most_bindings
        → Fine (in_block outer taken grouped (map judged_stmt (nodes ss))) → HereFrom grouped (map made_stmt (nodes ss)) scope shape n
        → (m : ℕ) → let made = statements grouped (map made_stmt (nodes ss)) scope n in
        StatementsFit units shapes (to units shapes m) (map tested_stmt made.0) shape × AllFit units shapes m made.1 (in_statements (map tested_stmt made.0) shape)
    statements_fit [] formed grouped scope shape taken n fits sees few most fine h m = (tt, none_fit units shapes m)
    statements_fit (s ∷ ss) formed grouped scope shape taken n fits sees few most fine h m =
        let formeds = and_parts _ _ formed in
        let fit = s.1 formeds.0 in
        let x = made_stmt s.0 in
        let xs = map made_stmt (nodes ss) in
        let fs = judged.functions (map judged_stmt (nodes ss)) in
        let all = functions n (x ∷ xs) in
        let here = scope_at x.binds grouped all scope in
        let inner = shape_at x.binds grouped all shape in
        let after = shape_behind x.binds inner in
        let place : Place = record { seen = ahead x.binds grouped (judged.with_binds x.binds fs) ++ taken ++ outer; taken = taken; besides = length (taken ++ outer) } in
        let fines = fine_parts ((found_stmt s.0).at place) _ fine in
        let places = two s.0 fit (nodes ss) grouped scope shape n h in
        let function = function_at x.binds x.part here inner n fit.function places.0 in
        let named = begins x.binds grouped xs (scope_after x.binds here) after (n + x.part.size) (λ shape. Named shape (functions (n + x.part.size) xs)) places.1
        (λ scope shape h. members ss formeds.1 (n + x.part.size) scope shape h) in
        let group = group_fits x.binds grouped n (functions (n + x.part.size) xs) fs shape (found_stmt s.0).at place fit.room fines.0 few
        (functions_among (s.0 ∷ nodes ss) n) function named in
        let ready = begin x.binds grouped all fs taken outer scope shape fits sees few most group in
        let own = fit.at here inner place n ready fines.0 (counted x.binds grouped all shape (length (taken ++ outer)) few) places.0 in
        let left = next x.binds grouped all fs taken outer scope shape few group own.2 ready in
        let rest = statements_fit ss formeds.1 (grouped_after x.binds grouped) (scope_after x.binds here) after (names_of x.binds ++ taken) (n + x.part.size)
        left.fits left.sees left.few left.most fines.1 places.1 m in
        all_fit s.0 fit (nodes ss) grouped scope shape n m (own.0 m) (own.1 m) rest.0 rest.1

  -- a block
  pub block_fits : (ss : Each S) → tree.all (map tree.is_formed_stmt (nodes ss)) ≡ true → (scope : Scope) (shape : Shape) (seen : Names) (n : ℕ)
      → Ready units shapes scope shape seen → Fine (judged.block (map found_stmt (nodes ss)) seen)
      → Here units shapes n ((block (map made_stmt (nodes ss))).make scope n).1 (shape ∷ [])
      → BlockIn units shapes shape n × ((m : ℕ) → AllFit units shapes m ((block (map made_stmt (nodes ss))).make scope n).1 (shape ∷ []))
  block_fits ss formed scope shape seen n ready fine h =
      let made = statements false (map made_stmt (nodes ss)) scope (suc n) in
      let at_unit = here_unit units shapes n (unit.Block made.0) made.1 shape h in
      let fine = subst (λ js. Fine (judged.block js seen)) (judged_as_found (nodes ss)) fine in
      let all = statements_fit seen ss formed false scope shape [] (suc n) ready.fits ready.sees ready.few ready.bounded fine at_unit.inside in (
        record { statements = map tested_stmt made.0; is = at_unit.is; stands = at_unit.stands },
        λ m. fit_unit units shapes m (unit.Block made.0) made.1 shape (all m).0 (all m).1,
      )
