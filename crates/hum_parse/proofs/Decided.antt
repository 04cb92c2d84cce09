-- Tokens spell a tree or are refused.
use Rattle.std.proofs.Common.{◌≡◌, ◌-◌, refl, true, List, length, Ok, Err, ◌⊎◌, inl, inr}
use Rattle.std.specs.List.{list_all}
use Rattle.hum_syntax.specs.declared.Stmt.{Stmt}
use Rattle.hum_syntax.specs.declared.Tree.{Tree}
use Rattle.hum_syntax.specs.Kinds.{is_carried}
use Rattle.hum_syntax.specs.Spells.{Kinds, IsStmts, Spells, deepest}
use Rattle.hum_syntax.proofs.FormedTrees.{spelled_formed}
use Rattle.hum_parse.specs.Input.{Outcome}
use Rattle.hum_parse.specs.Begins.{RefusedAt}
use Rattle.hum_parse.specs.Laws.{OneOfBoth}
use Rattle.hum_parse.specs.Rules.{program}
use Rattle.hum_parse.proofs.Answered.{tree_of, found_whole, refused_whole}

decided : (ks : Kinds) → list_all is_carried ks ≡ true → (o : Outcome (List Stmt)) → program deepest ks ≡ o
    → ((tree : Tree) × Spells ks tree) ⊎ ((at : _) × RefusedAt (IsStmts deepest) ks at)
decided ks carried (Ok p) e =
    let spelled : IsStmts deepest ks p.0 = found_whole ks p.0 p.1 e in
    inl (tree_of p.0 (spelled_formed deepest ks p.0 spelled carried), spelled)
decided ks carried (Err rest) e = inr (length ks - length rest, refused_whole ks rest e)

pub one_of_both : OneOfBoth
one_of_both ks carried = decided ks carried (program deepest ks) refl
