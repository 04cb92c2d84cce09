-- The marks that a numbered pattern binds, one node at a time.
use Rattle.std.proofs.Common.{◌≡◌, refl, ◌∙◌, List, [], ◌∷◌, map}
use Rattle.hum_core.specs.declared.resolved.CoreExpr.{CoreExpr}
use Rattle.hum_core.specs.declared.resolved.CorePat.{CorePat, out-CorePat, fold_out-CorePat, map-CorePat}
use Rattle.hum_core.specs.declared.resolved.CoreArm.{CoreArm}
use Rattle.hum_core.specs.declared.resolved.CoreBranch.{CoreBranch}
use Rattle.hum_core.specs.declared.resolved.CoreExpr.TheOpen as core
use Rattle.hum_core.specs.Agreement.{joined, NumberedPat}
use Rattle.hum_core.specs.Lowering.{Marks, marks_node, marks_of}

abbrev pub marks_of_items : List CorePat → Marks
marks_of_items ps = joined (map marks_of ps)

-- of a node, over the patterns below it
abbrev pub marks_here : NumberedPat → Marks
marks_here core.Bind = tt ∷ []
marks_here (core.CorePat::Tuple ps) = marks_of_items ps
marks_here _ = []

node : (e : CoreExpr → Unit {0}) (a : CoreArm → Unit {0}) (b : CoreBranch → Unit {0}) (p : NumberedPat)
    → marks_node (map-CorePat CoreExpr CorePat CoreArm CoreBranch (Unit {0}) Marks (Unit {0}) (Unit {0}) e marks_of a b p) ≡ marks_here p
node e a b (core.CorePat::Tuple ps) = refl
node e a b _ = refl

pub marks_out : (p : CorePat) → marks_of p ≡ marks_here (out-CorePat p)
marks_out p = fold_out-CorePat _ _ _ _ _ _ _ _ p ∙ node _ _ _ (out-CorePat p)
