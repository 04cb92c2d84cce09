-- The names that a pattern binds, one node at a time.
use Rattle.std.proofs.Common.{◌≡◌, refl, ◌∙◌, List, [], ◌∷◌, map}
use Rattle.hum_syntax.specs.declared.tree.Expr.{Expr}
use Rattle.hum_syntax.specs.declared.tree.Pat.{Pat, out-Pat, fold_out-Pat, map-Pat}
use Rattle.hum_syntax.specs.declared.tree.Stmt.{Stmt}
use Rattle.hum_syntax.specs.declared.tree.Arm.{Arm}
use Rattle.hum_syntax.specs.declared.tree.Branch.{Branch}
use Rattle.hum_syntax.specs.declared.tree.Expr.TheOpen as layer
use Rattle.hum_core.specs.Agreement.{Names, joined, names_node, names_of, WrittenPat}

abbrev pub names_of_items : List Pat → Names
names_of_items ps = joined (map names_of ps)

-- of a node, over the patterns below it
abbrev pub names_here : WrittenPat → Names
names_here (layer.Bind x) = x ∷ []
names_here (layer.Pat::Tuple ps) = names_of_items ps
names_here _ = []

node : (e : Expr → Unit {0}) (s : Stmt → Unit {0}) (a : Arm → Unit {0}) (b : Branch → Unit {0}) (p : WrittenPat)
    → names_node (map-Pat Expr Pat Stmt Arm Branch (Unit {0}) Names (Unit {0}) (Unit {0}) (Unit {0}) e names_of s a b p) ≡ names_here p
node e s a b (layer.Pat::Tuple ps) = refl
node e s a b _ = refl

pub names_out : (p : Pat) → names_of p ≡ names_here (out-Pat p)
names_out p = fold_out-Pat _ _ _ _ _ _ _ _ _ _ p ∙ node _ _ _ _ (out-Pat p)
