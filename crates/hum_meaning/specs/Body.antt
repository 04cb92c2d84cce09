-- The statements of a block, with the functions that are defined together.
use Rattle.std.specs.Prelude.{Bool, true, false, List, [], ◌∷◌}
use Rattle.hum_syntax.specs.declared.tree.Expr.TheOpen as layer
use Rattle.hum_meaning.specs.Language.{StmtNode, Let, Functions, Defined, Send, Create, Become, Throw, Do}
use Rattle.hum_meaning.specs.Named.{Name, Trees, Lambda, Named, ExprTree, PatTree, StmtTree}

-- what a statement is to the functions of its block: the definition of one; a value definition or a `CREATE`, which ends a stretch; or
-- neither
pub data Role (t : Trees) : Type 0 where
  Defines : Name → Lambda t → Role t
  Divides : Role t
  Other : Role t

module _ (t : Trees) where
  -- a name with an abstraction is the definition of a function
  abbrev pub let_role : PatTree t → ExprTree t → Role t
  let_role (layer.Bind name) (layer.Abs p e) = Defines name (p, e)
  let_role _ _ = Divides

  abbrev pub role : StmtTree t → Role t
  role (layer.Let p e) = let_role (t.pat p) (t.expr e)
  role (layer.Create name e) = Divides
  role _ = Other

  -- ---- stretches: as many statements on end as hold no value definition and no `CREATE`

  abbrev pub with_role : Role t → List (Name × Lambda t) → List (Name × Lambda t)
  with_role (Defines name f) fs = (name, f) ∷ fs
  with_role Divides fs = []
  with_role Other fs = fs

  -- the functions that are defined from here to the end of the stretch
  abbrev pub functions : List t.Stmt → List (Name × Lambda t)
  functions [] = []
  functions (s ∷ more) = with_role (role (t.stmt s)) (functions more)

  -- ---- statements

  -- a statement that defines no function
  abbrev pub plain_node : StmtTree t → StmtNode (Named t)
  plain_node (layer.Let p e) = Let p e
  plain_node (layer.Send e a) = Send e a
  plain_node (layer.Create name e) = Create name e
  plain_node (layer.Become e) = Become e
  plain_node (layer.Throw e) = Throw e
  plain_node (layer.Do e) = Do e

  -- a statement, where `grouped` says whether the group of its stretch stands already; the functions are those from here on
  abbrev pub stmt_node : Role t → (grouped : Bool) → List (Name × Lambda t) → StmtTree t → StmtNode (Named t)
  stmt_node (Defines name f) true fs s = Defined
  stmt_node (Defines name f) false fs s = Functions fs
  stmt_node _ grouped fs s = plain_node s

  -- whether the group stands behind a statement
  abbrev pub grouped_after : Role t → (grouped : Bool) → Bool
  grouped_after (Defines name f) grouped = true
  grouped_after Divides grouped = false
  grouped_after Other grouped = grouped

  abbrev pub body_from : (grouped : Bool) → List t.Stmt → List (StmtNode (Named t))
  body_from grouped [] = []
  body_from grouped (s ∷ more) =
      stmt_node (role (t.stmt s)) grouped (functions (s ∷ more)) (t.stmt s) ∷ body_from (grouped_after (role (t.stmt s)) grouped) more

  -- the statements of a block
  abbrev pub body_of : List t.Stmt → List (StmtNode (Named t))
  body_of = body_from false
