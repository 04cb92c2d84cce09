-- The statements of a block in which no name is refused stand for the unit that they become, if each of them does.
use Rattle.std.proofs.Common.{◌≡◌, refl, ap, sym, subst, ◌∙◌, ℕ, zero, suc, ◌+◌, Bool, true, false, ◌||◌, List, [], ◌∷◌, ◌++◌, map, length, append_assoc}
use Rattle.std.specs.Prelude.{if◌then◌else◌}
use Rattle.std.specs.Str.{bytes_eq}
use Rattle.std.proofs.lemmas.List.Folds.{list_any-append}
use Rattle.hum_syntax.specs.declared.tree.Stmt.{Stmt, out-Stmt}
use Rattle.hum_core.specs.declared.resolved.CoreUnit.{CoreUnit}
use Rattle.hum_core.specs.declared.resolved.CoreStmt.{CoreStmt}
use Rattle.hum_core.specs.declared.resolved.CoreStmt.TheVariants as stmt
use Rattle.hum_meaning.specs.Language.{StmtNode, Defined}
use Rattle.hum_meaning.specs.Named.{Name, Lambda, Named, written, StmtTree}
use Rattle.hum_meaning.specs.Written.{humus}
use Rattle.hum_meaning.specs.Body.{Role, Defines, Divides, Other, role, with_role, functions as written_functions, plain_node, stmt_node, grouped_after as group_follows, body_from, body_of}
use Rattle.hum_meaning.specs.Scope as judged
use Rattle.hum_meaning.specs.Scope.{Verdicts, Place, Binds, Function, Values, Nothing, has, in_block, grouped_after}
use Rattle.hum_core.specs.Numbered.{Of, members}
use Rattle.hum_core.specs.CoreTrees.{Core, core_stmt, core_body, core_language}
use Rattle.hum_core.specs.Alike.{Many, with_marks, Each, Reading, MemberAs, StatementsAs}
use Rattle.hum_core.specs.Reading.{Relations, relations_to, reading_to}
use Rattle.hum_core.specs.Agreement.{Names, resolving}
use Rattle.hum_core.specs.Units as made
use Rattle.hum_core.specs.Units.{Scope, Part, group_names, functions, statements, scope_after}
use Rattle.hum_core.proofs.ScopedNames.{Fine, fine_parts, Sees, marks_seen, group_seen}
use Rattle.hum_core.proofs.UnitPlaces.{made_stmt, Sized, sized_stmt, Stand, stand_sized}
use Rattle.hum_core.proofs.BoundNames.{found_stmt, RoleAs, role_as, same_binds}

-- ---- the functions of a stretch

group_named : (r : Role written) (b : Binds) → RoleAs r b → (n : ℕ) (gs : List (Name × Lambda written)) (ks : List (Names × ℕ))
    → map (λ g. g.0) gs ≡ group_names ks → map (λ g. g.0) (with_role written r gs) ≡ group_names (made.with_binds b n ks)
group_named (Defines name f) (Function names) is n gs ks h = ap (λ ns. name ∷ ns) h ∙ ap (λ ns. ns ++ group_names ks) (sym is)
group_named Divides (Values names) is n gs ks h = refl
group_named Other Nothing is n gs ks h = h
group_named _ _ is n gs ks h = absurd is

-- the group has their names in order
functions_named : (ss : List Stmt) (n : ℕ) → map (λ g. g.0) (written_functions written ss) ≡ group_names (functions n (map made_stmt ss))
functions_named [] n = refl
functions_named (s ∷ ss) n = group_named (role written (out-Stmt s)) (made_stmt s).binds (role_as s) n _ _ (functions_named ss (n + (made_stmt s).part.size))

-- what is found of a statement, with what it becomes saying what it binds
abbrev pub judged_stmt : Stmt → judged.OfStmt
judged_stmt s = record { binds = (made_stmt s).binds; at = (found_stmt s).at }

pub judged_as_found : (ss : List Stmt) → map found_stmt ss ≡ map judged_stmt ss
judged_as_found [] = refl
judged_as_found (s ∷ ss) =
    ap (λ b. record { binds = b; at = (found_stmt s).at } ∷ map found_stmt ss) (same_binds s)
    ∙ ap (λ js. judged_stmt s ∷ js) (judged_as_found ss)

either : (a b c : Bool) → (a || b) ≡ true → (a ≡ true → c ≡ true) → (b || c) ≡ true
either a true c h k = refl
either true false c h k = k refl
either false false c h k = absurd (cc)

one_among : (b : Binds) (n : ℕ) (fs : Names) (ks : List (Names × ℕ)) (x : Name) → (has fs x ≡ true → has (group_names ks) x ≡ true)
    → has (judged.with_binds b fs) x ≡ true → has (group_names (made.with_binds b n ks)) x ≡ true
one_among (Function names) n fs ks x h e =
    list_any-append (bytes_eq x) names (group_names ks)
    ∙ either (has fs x) (has names x) (has (group_names ks) x) (sym (list_any-append (bytes_eq x) fs names) ∙ e) h
one_among (Values names) n fs ks x h e = e
one_among Nothing n fs ks x h e = h e

-- the names of the functions ahead are among those of the group
pub functions_among : (ss : List Stmt) (n : ℕ) (x : Name) → has (judged.functions (map judged_stmt ss)) x ≡ true
    → has (group_names (functions n (map made_stmt ss))) x ≡ true
functions_among [] n x e = e
functions_among (s ∷ ss) n x e = one_among (made_stmt s).binds n _ _ x (functions_among ss (n + (made_stmt s).part.size) x) e

-- ---- names that are seen, in the order in which they come to be taken

pub taken_on : (scope : Scope) (fs names taken outer : Names) → Sees scope (fs ++ names ++ taken ++ outer)
    → Sees scope (fs ++ (names ++ taken) ++ outer)
taken_on scope fs names taken outer h = subst (λ ns. Sees scope (ns ++ outer)) (append_assoc fs names taken) h

pub behind_taken : (scope : Scope) (names taken outer : Names) → Sees scope (names ++ (taken ++ outer)) → Sees scope (names ++ taken ++ outer)
behind_taken scope names taken outer h = subst (Sees scope) (sym (append_assoc names taken outer)) h

pub none_ahead : (grouped : Bool) (scope : Scope) (seen : Names) (outer : Names) → Sees scope ((if grouped then [] else []) ++ seen ++ outer)
    → Sees scope (seen ++ outer)
none_ahead true scope seen outer h = h
none_ahead false scope seen outer h = h

module _ (units : List CoreUnit) where
  abbrev pub rel : ℕ → Relations (Named written) Core
  rel = relations_to humus (core_language units) resolving

  abbrev pub to : ℕ → Reading (Named written) Core
  to = reading_to humus (core_language units) resolving

  -- ---- one statement

  -- the statement stands in front of all that stands behind it
  abbrev pub InFront : (m : ℕ) → Scope → Binds → StmtTree written → CoreStmt → Type 0
  InFront m scope b s d =
      (more : List (StmtNode (Named written))) (others : List (StmtNode Core)) → StatementsAs (to m) (scope_after b scope) more others
      → StatementsAs (to m) scope (plain_node written s ∷ more) (core_stmt d ∷ others)

  -- the definition of a function becomes its unit, with the number n
  abbrev pub StmtAs : (m : ℕ) → Scope → (n : ℕ) → Role written → Binds → StmtTree written → CoreStmt → Type 0
  StmtAs m scope n (Defines name f) b s d = (rel m).Abstractions scope f (Of n) × (d ≡ stmt.Defined)
  StmtAs m scope n Divides b s d = InFront m scope b s d
  StmtAs m scope n Other b s d = InFront m scope b s d

  -- so wherever it sees only names that have slots, none of its own is refused, and its units stand at their numbers
  abbrev pub StmtStandsAs : Role written → StmtTree written → made.OfStmt → (Place → Verdicts) → Type 0
  StmtStandsAs r s x at =
      (scope : Scope) (place : Place) (n m : ℕ) → Sees scope place.seen → Fine (at place) → Stand units n (x.part.make scope n).1
      → StmtAs m scope n r x.binds s (x.part.make scope n).0

  abbrev pub StmtStands : Stmt → Type 0
  StmtStands s = StmtStandsAs (role written (out-Stmt s)) (out-Stmt s) (made_stmt s) (found_stmt s).at

  abbrev pub SS : Type 0
  SS = (s : Stmt) × StmtStands s

  -- ---- the statements from one on

  module _ (outer : Names) (m : ℕ) where
    -- the functions from here to the end of the stretch, where the group stands
    abbrev Members : (scope : Scope) (taken : Names) (n : ℕ) → List Stmt → List judged.OfStmt → List made.OfStmt → Type 0
    Members scope taken n ss js xs =
        Sees scope (judged.functions js ++ taken ++ outer) → Fine (in_block outer taken true js) → Stand units n (statements true xs scope n).1
        → Each (MemberAs (to m) scope) (written_functions written ss) (members (map (λ k. k.1) (functions n xs)))

    abbrev Statements : (grouped : Bool) (scope : Scope) (taken : Names) (n : ℕ) → List Stmt → List judged.OfStmt → List made.OfStmt → Type 0
    Statements grouped scope taken n ss js xs =
        Sees scope ((if grouped then judged.functions js else []) ++ taken ++ outer) → Fine (in_block outer taken grouped js)
        → Stand units n (statements grouped xs scope n).1
        → StatementsAs (to m) scope (body_from written grouped ss) (map core_stmt (statements grouped xs scope n).0)

    module _ (n : ℕ) (s : StmtTree written) (part : Part CoreStmt) (at : Place → Verdicts) (sized : Sized part) (ss : List Stmt) (jmore : List judged.OfStmt) (more : List made.OfStmt) where
      -- the statement and those behind it
      abbrev judged_from : Binds → List judged.OfStmt
      judged_from b = record { binds = b; at = at } ∷ jmore

      abbrev made_from : Binds → List made.OfStmt
      made_from b = record { binds = b; part = part } ∷ more

      -- where it sees these names
      abbrev place : Names → Names → Place
      place seen taken = record { seen = seen; taken = taken; besides = length (taken ++ outer) }

      abbrev gs : Role written → List (Name × Lambda written)
      gs r = with_role written r (written_functions written ss)

      abbrev MembersFrom : Role written → Binds → (scope : Scope) (taken : Names) → Type 0
      MembersFrom r b scope taken =
          Sees scope (judged.with_binds b (judged.functions jmore) ++ taken ++ outer) → Fine (in_block outer taken true (judged_from b))
          → Stand units n (statements true (made_from b) scope n).1
          → Each (MemberAs (to m) scope) (gs r) (members (map (λ k. k.1) (functions n (made_from b))))

      members_on : (r : Role written) (b : Binds) → RoleAs r b → StmtStandsAs r s (record { binds = b; part = part }) at
          → (scope : Scope) (taken : Names) → ((taken : Names) → Members scope taken (n + part.size) ss jmore more) → MembersFrom r b scope taken
      members_on (Defines name f) (Function names) is stands scope taken rest sees fine stand =
          let fines = fine_parts _ _ fine in
          let places = stand_sized units n part.size _ _ (sized scope n) stand in
          let one = stands scope (place (judged.functions jmore ++ names ++ taken ++ outer) taken) n m sees fines.0 places.0 in
          (one.0, rest (names ++ taken) (taken_on scope (judged.functions jmore) names taken outer sees) fines.1 places.1)
      members_on Divides (Values names) is stands scope taken rest sees fine stand = tt
      members_on Other Nothing is stands scope taken rest sees fine stand =
          rest taken sees (fine_parts _ _ fine).1 (stand_sized units n part.size _ _ (sized scope n) stand).1
      members_on _ _ is stands scope taken rest sees fine stand = absurd is

      statement_on : (r : Role written) (b : Binds) (grouped : Bool) → RoleAs r b → StmtStandsAs r s (record { binds = b; part = part }) at
          → map (λ g. g.0) (gs r) ≡ group_names (functions n (made_from b))
          → ((x : Name) → has (judged.with_binds b (judged.functions jmore)) x ≡ true → has (group_names (functions n (made_from b))) x ≡ true)
          → (scope : Scope) (taken : Names) → ((scope : Scope) → MembersFrom r b scope taken)
          → ((grouped : Bool) (scope : Scope) (taken : Names) → Statements grouped scope taken (n + part.size) ss jmore more)
          → Sees scope ((if grouped then judged.with_binds b (judged.functions jmore) else []) ++ taken ++ outer)
          → Fine (in_block outer taken grouped (judged_from b)) → Stand units n (statements grouped (made_from b) scope n).1
          → StatementsAs (to m) scope (stmt_node written r grouped (gs r) s ∷ body_from written (group_follows written r grouped) ss) (map core_stmt (statements grouped (made_from b) scope n).0)
      statement_on (Defines name f) (Function names) true is stands same among scope taken all rest sees fine stand =
          let fines = fine_parts _ _ fine in
          let places = stand_sized units n part.size _ _ (sized scope n) stand in
          let one = stands scope (place (judged.functions jmore ++ names ++ taken ++ outer) taken) n m sees fines.0 places.0 in
          subst (λ d. StatementsAs (to m) scope (Defined ∷ body_from written true ss) (core_stmt d ∷ map core_stmt (statements true more scope (n + part.size)).0))
          (sym one.1) (rest true scope (names ++ taken) (taken_on scope (judged.functions jmore) names taken outer sees) fines.1 places.1)
      statement_on (Defines name f) (Function names) false is stands same among scope taken all rest sees fine stand =
          let ks = functions n (made_from (Function names)) in
          let fs = judged.functions jmore ++ names in
          let here = Many (group_names ks) ∷ scope in
          let seen : Sees here (fs ++ taken ++ outer) = behind_taken here fs taken outer (group_seen (group_names ks) fs scope (taken ++ outer) among sees) in
          let places = stand_sized units n part.size _ _ (sized here n) stand in
          let others = rest true here (names ++ taken) (taken_on here (judged.functions jmore) names taken outer seen) (fine_parts _ _ fine).1 places.1 in
          subst (λ ns. Each (MemberAs (to m) (Many ns ∷ scope)) (gs (Defines name f)) (members (map (λ k. k.1) ks)) × StatementsAs (to m) (Many ns ∷ scope) (body_from written true ss) (map core_stmt (statements true more here (n + part.size)).0))
          (sym same) (all here seen fine stand, others)
      statement_on Divides (Values names) grouped is stands same among scope taken all rest sees fine stand =
          let fines = fine_parts _ _ fine in
          let places = stand_sized units n part.size _ _ (sized scope n) stand in
          let here = with_marks names scope in
          let seen = none_ahead grouped scope taken outer sees in
          stands scope (place (taken ++ outer) taken) n m seen fines.0 places.0 _ _
          (rest false here (names ++ taken) (behind_taken here names taken outer (marks_seen names scope (taken ++ outer) seen)) fines.1 places.1)
      statement_on Other Nothing grouped is stands same among scope taken all rest sees fine stand =
          let fines = fine_parts _ _ fine in
          let places = stand_sized units n part.size _ _ (sized scope n) stand in
          stands scope (place ((if grouped then judged.functions jmore else []) ++ taken ++ outer) taken) n m sees fines.0 places.0 _ _
          (rest grouped scope taken sees fines.1 places.1)
      statement_on _ _ grouped is stands same among scope taken all rest sees fine stand = absurd is

    -- ---- all statements

    abbrev nodes : List SS → List Stmt
    nodes ss = map (λ s. s.0) ss

    members_stand : (ss : List SS) (scope : Scope) (taken : Names) (n : ℕ) → Members scope taken n (nodes ss) (map judged_stmt (nodes ss)) (map made_stmt (nodes ss))
    members_stand [] scope taken n = λ sees fine stand. tt
    members_stand (s ∷ ss) scope taken n =
        members_on n (out-Stmt s.0) (made_stmt s.0).part (found_stmt s.0).at (sized_stmt s.0) (nodes ss) (map judged_stmt (nodes ss)) (map made_stmt (nodes ss))
        (role written (out-Stmt s.0)) (made_stmt s.0).binds (role_as s.0) s.1 scope taken
        (λ taken. members_stand ss scope taken (n + (made_stmt s.0).part.size))

    statements_stand : (ss : List SS) (grouped : Bool) (scope : Scope) (taken : Names) (n : ℕ)
        → Statements grouped scope taken n (nodes ss) (map judged_stmt (nodes ss)) (map made_stmt (nodes ss))
    statements_stand [] grouped scope taken n = λ sees fine stand. tt
    statements_stand (s ∷ ss) grouped scope taken n =
        statement_on n (out-Stmt s.0) (made_stmt s.0).part (found_stmt s.0).at (sized_stmt s.0) (nodes ss) (map judged_stmt (nodes ss)) (map made_stmt (nodes ss))
        (role written (out-Stmt s.0)) (made_stmt s.0).binds grouped (role_as s.0) s.1 (functions_named (nodes (s ∷ ss)) n) (functions_among (nodes (s ∷ ss)) n)
        scope taken (λ scope. members_stand (s ∷ ss) scope taken n) (λ grouped scope taken. statements_stand ss grouped scope taken (n + (made_stmt s.0).part.size))

  -- a block stands for the number of its unit
  pub block_stands : (ss : List SS) (scope : Scope) (seen : Names) (n m : ℕ) → Sees scope seen → Fine (judged.block (map found_stmt (map (λ s. s.0) ss)) seen)
      → Stand units n ((made.block (map made_stmt (map (λ s. s.0) ss))).make scope n).1 → (rel m).Bodies scope (map (λ s. s.0) ss) n
  block_stands ss scope seen n zero sees fine stand = tt
  block_stands ss scope seen n (suc m) sees fine stand =
      let same = judged_as_found (map (λ s. s.0) ss) in
      let all = statements_stand seen m ss false scope [] (suc n) sees (subst (λ js. Fine (judged.block js seen)) same fine) stand.1 in
      subst (λ u. StatementsAs (to m) scope (body_of written (map (λ s. s.0) ss)) (core_body u)) (sym stand.0) all
