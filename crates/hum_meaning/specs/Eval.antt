-- Evaluation of one node, over the meaning of what is below it.
use Rattle.std.specs.Prelude.{ℕ, Bool, true, false, List, [], ◌∷◌, Option, Some, None}
use Rattle.hum_meaning.specs.Value.{Parts, Nil, Truth, Actor, Value, Plain, Pair, Function, Block, Primitive, Env, Entry, extend}
use Rattle.hum_meaning.specs.Action.{Action, ◌>>=◌, pure, fail, no_match, not_a_function, not_a_truth_value, create}
use Rattle.hum_meaning.specs.Same.{same}
use Rattle.hum_meaning.specs.BuiltIns.{built_in}
use Rattle.hum_meaning.specs.Language.{ExprNode, Is, Var, Myself, Abs, BlockOf, Call, Tuple, New, Case, If, Matched, Meaning, Language}

module _ {L : Parts} where
  -- goes on with the entries of a match, or does the other thing
  abbrev pub if_matched : {A : Type 0} → Matched L → (List (Entry L) → Action L A) → Action L A → Action L A
  if_matched (Some es) go other = go es
  if_matched None go other = other

  -- goes on with the parts of a pair; what is no pair does not match
  abbrev pub if_pair : Value L → (Value L → Value L → Action L (Matched L)) → Action L (Matched L)
  if_pair (Pair head tail) go = go head tail
  if_pair _ go = pure None

  abbrev pub keep_if : Bool → List (Entry L) → Matched L
  keep_if true es = Some es
  keep_if false es = None

  -- the entries so far, where two values are equal
  abbrev pub equals : Value L → Value L → List (Entry L) → Action L (Matched L)
  equals v w es = do pure (keep_if (← same v w) es)

  -- the one thing where the value is TRUE, the other where it is FALSE
  abbrev pub if_true : {A : Type 0} → Value L → Action L A → Action L A → Action L A
  if_true (Plain (Truth true)) go other = go
  if_true (Plain (Truth false)) go other = other
  if_true _ go other = fail not_a_truth_value

  -- the value of a reference; one that finds none fails, and the scope rule refuses each file with a name that is not bound
  abbrev pub found : Option (Value L) → Action L (Value L)
  found (Some v) = pure v
  found None = fail no_match

module _ {L : Parts} (below : Meaning L) where
  -- a function's body, where its pattern matches the argument
  abbrev pub enter : Option (L.Pattern × L.Expr) → Env L → Value L → Action L (Value L)
  enter None env v = fail not_a_function
  enter (Some f) env v = do
    m ← below.matches f.0 v env []
    if_matched m (λ es. below.eval f.1 (extend es env)) (fail no_match)

  -- from left to right, to pairs that nest to the right
  abbrev pub tuple : List L.Expr → Env L → Action L (Value L)
  tuple [] env = pure (Plain Nil)
  tuple (e ∷ []) env = below.eval e env
  tuple (e ∷ f ∷ more) env = below.eval e env >>= (λ v. tuple (f ∷ more) env >>= (λ w. pure (Pair v w)))

  -- a choice by arms: the expression of the first one whose pattern matches
  abbrev pub arms : List (L.Pattern × L.Expr) → Value L → Env L → Action L (Value L)
  arms [] v env = fail no_match
  arms (a ∷ more) v env = below.matches a.0 v env [] >>= (λ m. if_matched m (λ es. below.eval a.1 (extend es env)) (arms more v env))

  -- the block of the first condition that is TRUE
  abbrev pub branches : List (L.Expr × L.Body) → L.Body → Env L → Action L (Value L)
  branches [] other env = pure (Block other env)
  branches (b ∷ more) other env = below.eval b.0 env >>= (λ v. if_true v (pure (Block b.1 env)) (branches more other env))

module _ {L : Parts} (language : Language L) (self base : ℕ) (below : Meaning L) where
  -- a value applied to an argument
  abbrev pub apply : Value L → Value L → Action L (Value L)
  apply (Function f env) v = enter below (language.abstraction f) env v
  apply (Primitive b) v = built_in b v
  apply _ v = fail not_a_function

  -- the value of a node
  abbrev pub eval_node : ExprNode L → Env L → Action L (Value L)
  eval_node (Is v) env = pure v
  eval_node (Var r) env = found (language.look env r)
  eval_node Myself env = pure (Plain (Actor self))
  eval_node (Abs f) env = pure (Function f env)
  eval_node (BlockOf b) env = pure (Block b env)
  eval_node (Call f a) env = do
    g ← below.eval f env
    v ← below.eval a env
    apply g v
  eval_node (Tuple es) env = tuple below es env
  eval_node (New e) env = do
    v ← below.eval e env
    n ← create base v
    pure (Plain (Actor n))
  eval_node (Case e choice) env = do
    v ← below.eval e env
    language.choose_node below choice v env
  eval_node (If bs other) env = branches below bs other env
