-- The language as it is written, read by its nodes.
use Rattle.std.specs.Prelude.{Some}
use Rattle.hum_meaning.specs.Language.{Language}
use Rattle.hum_meaning.specs.Named.{Trees, Named, written, expr_node}
use Rattle.hum_meaning.specs.Body.{body_of}
use Rattle.hum_meaning.specs.Look.{look}
use Rattle.hum_meaning.specs.Match.{match_tree}
use Rattle.hum_meaning.specs.Eval.{arms}

abbrev pub named_language : (t : Trees) → Language (Named t)
named_language t = record {
  expr = λ e. expr_node t (t.expr e);
  body = body_of t;
  abstraction = λ f. Some f;
  look = look t;
  match_node = λ eval matches p. match_tree t eval matches (t.pat p);
  choose_node = arms;
}

-- the one that the trees of programs are in
abbrev pub humus : Language (Named written)
humus = named_language written
