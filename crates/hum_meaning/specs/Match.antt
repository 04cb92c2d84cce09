-- Matching of one node of a written pattern.
use Rattle.std.specs.Prelude.{true, false}
use Rattle.hum_syntax.specs.declared.tree.Expr.TheOpen as layer
use Rattle.hum_meaning.specs.Value.{Undefined, Nil, Truth, Number, Symbol}
use Rattle.hum_meaning.specs.Language.{Evaluator, Matcher}
use Rattle.hum_meaning.specs.Pattern.{Match, match_any, match_bind, match_atom, match_value, match_tuple}
use Rattle.hum_meaning.specs.Named.{Trees, Named, PatTree}

module _ (t : Trees) (eval : Evaluator (Named t)) (matches : Matcher (Named t)) where
  abbrev pub match_tree : PatTree t → Match (Named t)
  match_tree layer.Any = match_any
  match_tree (layer.Bind name) = match_bind name
  match_tree layer.Pat::Undef = match_atom Undefined
  match_tree layer.Pat::Nil = match_atom Nil
  match_tree layer.Pat::True = match_atom (Truth true)
  match_tree layer.Pat::False = match_atom (Truth false)
  match_tree (layer.Pat::Num n) = match_atom (Number n)
  match_tree (layer.Pat::Sym name) = match_atom (Symbol name)
  match_tree (layer.Value e) = match_value eval e
  match_tree (layer.Pat::Tuple ps) = match_tuple matches ps
