-- Matching of the parts that patterns are made of, over evaluation and matching of what is below them.
use Rattle.std.specs.Prelude.{List, [], ◌∷◌, Some, None}
use Rattle.hum_meaning.specs.Value.{Parts, Atom, Value, Plain, Env, Entry}
use Rattle.hum_meaning.specs.Action.{Action, ◌>>=◌, ◌>>◌, pure, step}
use Rattle.hum_meaning.specs.Language.{Evaluator, Matched, Matcher}
use Rattle.hum_meaning.specs.Eval.{if_matched, if_pair, equals}

-- matches a value, over the environment outside the whole pattern and the entries so far
abbrev pub Match : Parts → Type 0
Match L = Value L → Env L → List (Entry L) → Action L (Matched L)

module _ {L : Parts} where
  -- any value
  abbrev pub match_any : Match L
  match_any v env es = step >> pure (Some es)

  -- any value, which is bound
  abbrev pub match_bind : L.Mark → Match L
  match_bind mark v env es = step >> pure (Some ((mark, v) ∷ es))

  -- an equal value
  abbrev pub match_atom : Atom → Match L
  match_atom a v env es = step >> equals v (Plain a) es

  -- a value that is equal to that of the expression, which sees no entry of the pattern that it stands in
  abbrev pub match_value : Evaluator L → L.Expr → Match L
  match_value eval e v env es = do
    step
    w ← eval e env
    equals v w es

  -- a pair: the pattern on its head, and then the rest on its tail
  abbrev pub match_pair : Matcher L → L.Pattern → Match L → Match L
  match_pair matches p rest v env es = step >> if_pair v (λ head tail. matches p head env es >>= (λ m. if_matched m (rest tail env) (pure None)))

  -- the items of a tuple that has two of them at least: the first on the head, and on the tail the second, or the tuple of those that remain
  abbrev pub match_items : Matcher L → L.Pattern → L.Pattern → List L.Pattern → Match L
  match_items matches p q [] = match_pair matches p (matches q)
  match_items matches p q (r ∷ more) = match_pair matches p (match_items matches q r more)

  -- a tuple
  abbrev pub match_tuple : Matcher L → List L.Pattern → Match L
  match_tuple matches (p ∷ q ∷ more) = match_items matches p q more
  match_tuple matches _ = λ v env es. pure None
