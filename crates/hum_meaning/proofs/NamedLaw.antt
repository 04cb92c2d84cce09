-- The language as it is written spends a step before its matching goes below.
use Rattle.std.proofs.Common.{ℕ, pred}
use Rattle.hum_syntax.specs.declared.tree.Expr.TheOpen as layer
use Rattle.hum_meaning.specs.Value.{Undefined, Nil, Truth, Number, Symbol}
use Rattle.hum_meaning.specs.Language.{Meaning}
use Rattle.hum_meaning.specs.Named.{Trees, Named, PatTree}
use Rattle.hum_meaning.specs.Match.{match_tree}
use Rattle.hum_meaning.specs.Written.{named_language}
use Rattle.hum_meaning.proofs.Law.{Stands, Lawful, arms_agrees}
use Rattle.hum_meaning.proofs.PatternLaw.{MatchesAgree, any_agrees, bind_mark_agrees, atom_agrees, value_agrees, tuple_agrees}

module _ (t : Trees) (d : ℕ) (m m' : Meaning (Named t)) (h : Stands (pred d) m m') where
  tree_agrees : (p : PatTree t) → MatchesAgree d (match_tree t m.eval m.matches p) (match_tree t m'.eval m'.matches p)
  tree_agrees layer.Any = any_agrees d
  tree_agrees (layer.Bind name) = bind_mark_agrees d name
  tree_agrees layer.Pat::Undef = atom_agrees d Undefined
  tree_agrees layer.Pat::Nil = atom_agrees d Nil
  tree_agrees layer.Pat::True = atom_agrees d (Truth _)
  tree_agrees layer.Pat::False = atom_agrees d (Truth _)
  tree_agrees (layer.Pat::Num n) = atom_agrees d (Number n)
  tree_agrees (layer.Pat::Sym name) = atom_agrees d (Symbol name)
  tree_agrees (layer.Value e) = value_agrees d m m' h e
  tree_agrees (layer.Pat::Tuple ps) = tuple_agrees d m m' h ps

pub named_lawful : (t : Trees) → Lawful (named_language t)
named_lawful t = record { matching = λ d m m' h p v env es. tree_agrees t d m m' h (t.pat p) v env es; choosing = λ d m m' h x v env. arms_agrees d m m' h x v env }
