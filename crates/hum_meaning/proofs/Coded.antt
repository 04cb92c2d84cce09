-- What fails does so with a code of an actor's failures.
use Rattle.std.proofs.Common.{ℕ, zero, suc, Bool, true, false, List, [], ◌∷◌, Option, Some, None, arith}
use Rattle.std.specs.Prelude.{ℤ}
use Rattle.hum_meaning.specs.Value.{Parts, Nil, Truth, Number, Actor, BuiltIn, Add, Sub, Mul, Compare, Less, LessEqual, Greater, GreaterEqual, Equal, And, Or, Not, Value, Plain, Pair, Function, Block, Primitive, Env, Bind, Group, Entry, extend}
use Rattle.hum_meaning.specs.Action.{Effects, Outcome, Gives, Fails, Undecided, Action, and_then, ◌>>=◌, ◌>>◌, pure, fail, no_match, not_a_function, not_an_actor, not_a_number, not_a_truth_value, thrown, spend, step, create, becoming, become}
use Rattle.hum_meaning.specs.Same.{same, same_atom}
use Rattle.hum_meaning.specs.BuiltIns.{built_in, on_pair, on_numbers, on_truths, negation, equality}
use Rattle.hum_meaning.specs.Language.{ExprNode, Is, Var, Myself, Abs, BlockOf, Call, Tuple, New, Case, If, StmtNode, Let, Functions, Defined, Send, Create, Become, Throw, Do, Matched, Meaning, Language}
use Rattle.hum_meaning.specs.Eval.{if_matched, if_pair, keep_if, equals, if_true, found, enter, tuple, arms, branches, apply, eval_node}
use Rattle.hum_meaning.specs.Exec.{send_to, perform, statement, statements}
use Rattle.hum_meaning.specs.Meaning.{nothing, stage, level}
use Rattle.hum_meaning.specs.Codes.{IsActorsCode}

abbrev pub FailsSo : {L : Parts} {A : Type 0} → Outcome L A → Type 0
FailsSo (Gives a effects left) = Unit {0}
FailsSo (Fails code sends) = IsActorsCode code
FailsSo Undecided = Unit {0}

-- a course of action that fails with such codes alone
pub record Coded {L : Parts} {A : Type 0} (p : Action L A) : Type 0 where
  pub at : (effects : Effects L) (left : ℕ) → FailsSo (p effects left)

module _ {L : Parts} {A : Type 0} where
  pub pure_coded : (a : A) → Coded {L = L} (pure a)
  pure_coded a = record { at = λ e s. tt }

  fail_coded : (code : ℕ) → IsActorsCode code → Coded {L = L} {A = A} (fail code)
  fail_coded code h = record { at = λ e s. h }

module _ {L : Parts} {A B : Type 0} where
  then_coded : (o : Outcome L A) (f : A → Action L B) → FailsSo o → ((a : A) → Coded (f a)) → FailsSo (and_then o f)
  then_coded (Gives a e t) f h k = (k a).at e t
  then_coded (Fails code sends) f h k = h
  then_coded Undecided f h k = tt

  pub bind_coded : {p : Action L A} {f : A → Action L B} → Coded p → ((a : A) → Coded (f a)) → Coded (p >>= f)
  bind_coded {p} {f} h k = record { at = λ e s. then_coded (p e s) f (h.at e s) k }

module _ {L : Parts} where
  spent : (e : Effects L) (s : ℕ) → FailsSo (spend e s)
  spent e zero = tt
  spent e (suc s) = tt

  pub step_coded : {A : Type 0} {p : Action L A} → Coded p → Coded (step >> p)
  step_coded {A} {p} h = bind_coded {p = step} {f = λ _. p} (record { at = spent }) (λ _. h)

  create_coded : (base : ℕ) (v : Value L) → Coded (create base v)
  create_coded base v = record { at = λ e s. tt }

  becoming_coded : (o : Option (Value L)) (v : Value L) (e : Effects L) (s : ℕ) → FailsSo (becoming o v e s)
  becoming_coded None v e s = tt
  becoming_coded (Some w) v e s = (omega arith, omega arith)

  become_coded : (v : Value L) → Coded (become v)
  become_coded v = record { at = λ e s. becoming_coded e.next v e s }

  -- ---- causes

  unmatched : {A : Type 0} → Coded {L = L} {A = A} (fail no_match)
  unmatched = fail_coded no_match (omega arith, omega arith)

  no_function : {A : Type 0} → Coded {L = L} {A = A} (fail not_a_function)
  no_function = fail_coded not_a_function (omega arith, omega arith)

  no_actor : {A : Type 0} → Coded {L = L} {A = A} (fail not_an_actor)
  no_actor = fail_coded not_an_actor (omega arith, omega arith)

  no_number : {A : Type 0} → Coded {L = L} {A = A} (fail not_a_number)
  no_number = fail_coded not_a_number (omega arith, omega arith)

  no_truth : {A : Type 0} → Coded {L = L} {A = A} (fail not_a_truth_value)
  no_truth = fail_coded not_a_truth_value (omega arith, omega arith)

  -- ---- comparison and the built-in functions

  same_coded : (v w : Value L) → Coded (same v w)
  unfolding same
  same_coded (Plain a) (Plain b) = pure_coded (same_atom a b)
  same_coded (Pair a b) (Pair c d) = step_coded (bind_coded (same_coded a c) (elim [ true ↦ same_coded b d | false ↦ pure_coded false ]))
  same_coded _ _ = pure_coded false

  on_pair_coded : (f : Value L → Value L → Action L (Value L)) → ((a b : Value L) → Coded (f a b)) → (v : Value L) → Coded (on_pair f v)
  on_pair_coded f h (Pair a b) = h a b
  on_pair_coded f h _ = unmatched

  on_numbers_coded : (f : ℤ → ℤ → Value L) (a b : Value L) → Coded (on_numbers f a b)
  on_numbers_coded f (Plain (Number a)) (Plain (Number b)) = pure_coded _
  on_numbers_coded f _ _ = no_number

  on_truths_coded : (f : Bool → Bool → Bool) (a b : Value L) → Coded (on_truths f a b)
  on_truths_coded f (Plain (Truth a)) (Plain (Truth b)) = pure_coded _
  on_truths_coded f _ _ = no_truth

  negation_coded : (v : Value L) → Coded (negation v)
  negation_coded (Plain (Truth a)) = pure_coded _
  negation_coded _ = no_truth

  numbers_coded : (f : ℤ → ℤ → Value L) (v : Value L) → Coded (on_pair (on_numbers f) v)
  numbers_coded f = on_pair_coded (on_numbers f) (on_numbers_coded f)

  truths_coded : (f : Bool → Bool → Bool) (v : Value L) → Coded (on_pair (on_truths f) v)
  truths_coded f = on_pair_coded (on_truths f) (on_truths_coded f)

  built_in_coded : (b : BuiltIn) (v : Value L) → Coded (built_in b v)
  unfolding built_in
  built_in_coded Add v = numbers_coded _ v
  built_in_coded Sub v = numbers_coded _ v
  built_in_coded Mul v = numbers_coded _ v
  built_in_coded Compare v = numbers_coded _ v
  built_in_coded Less v = numbers_coded _ v
  built_in_coded LessEqual v = numbers_coded _ v
  built_in_coded Greater v = numbers_coded _ v
  built_in_coded GreaterEqual v = numbers_coded _ v
  built_in_coded Equal v = on_pair_coded equality (λ a b. bind_coded (same_coded a b) (λ r. pure_coded (Plain (Truth r)))) v
  built_in_coded And v = truths_coded _ v
  built_in_coded Or v = truths_coded _ v
  built_in_coded Not v = negation_coded v

  -- ---- choices

  pub if_matched_coded : {A : Type 0} (m : Matched L) (f : List (Entry L) → Action L A) (p : Action L A) → ((es : List (Entry L)) → Coded (f es))
      → Coded p → Coded (if_matched m f p)
  if_matched_coded (Some es) f p h k = h es
  if_matched_coded None f p h k = k

  pub if_pair_coded : (v : Value L) (f : Value L → Value L → Action L (Matched L)) → ((a b : Value L) → Coded (f a b)) → Coded (if_pair v f)
  if_pair_coded (Pair a b) f h = h a b
  if_pair_coded _ f h = pure_coded None

  pub equals_coded : (v w : Value L) (es : List (Entry L)) → Coded (equals v w es)
  equals_coded v w es = bind_coded (same_coded v w) (λ r. pure_coded (keep_if r es))

  if_true_coded : {A : Type 0} (v : Value L) (p q : Action L A) → Coded p → Coded q → Coded (if_true v p q)
  if_true_coded (Plain (Truth true)) p q h k = h
  if_true_coded (Plain (Truth false)) p q h k = k
  if_true_coded _ p q h k = no_truth

  found_coded : (o : Option (Value L)) → Coded (found o)
  found_coded (Some v) = pure_coded v
  found_coded None = unmatched

  send_to_coded : (target v : Value L) → Coded (send_to target v)
  send_to_coded (Plain (Actor n)) v = record { at = λ e s. tt }
  send_to_coded _ v = no_actor

-- ---- one level

-- evaluation, matching and execution fail so
pub record MeaningCoded {L : Parts} (m : Meaning L) : Type 0 where
  pub eval : (e : L.Expr) (env : Env L) → Coded (m.eval e env)
  pub matches : (p : L.Pattern) (v : Value L) (env : Env L) (es : List (Entry L)) → Coded (m.matches p v env es)
  pub exec : (b : L.Body) (env : Env L) → Coded (m.exec b env)

-- what is asked of a language's matching and choices
pub record NodesCoded {L : Parts} (language : Language L) : Type 0 where
  pub matching : (m : Meaning L) → MeaningCoded m → (p : L.Pattern) (v : Value L) (env : Env L) (es : List (Entry L))
      → Coded (language.match_node m.eval m.matches p v env es)
  pub choosing : (m : Meaning L) → MeaningCoded m → (x : L.Choice) (v : Value L) (env : Env L) → Coded (language.choose_node m x v env)

module _ {L : Parts} (m : Meaning L) (h : MeaningCoded m) where
  enter_coded : (f : Option (L.Pattern × L.Expr)) (env : Env L) (v : Value L) → Coded (enter m f env v)
  enter_coded None env v = no_function
  enter_coded (Some f) env v = bind_coded (h.matches f.0 v env []) (λ r. if_matched_coded r _ _ (λ es. h.eval f.1 (extend es env)) unmatched)

  tuple_coded : (es : List L.Expr) (env : Env L) → Coded (tuple m es env)
  tuple_coded [] env = pure_coded (Plain Nil)
  tuple_coded (e ∷ []) env = h.eval e env
  tuple_coded (e ∷ f ∷ more) env = bind_coded (h.eval e env) (λ v. bind_coded (tuple_coded (f ∷ more) env) (λ w. pure_coded (Pair v w)))

  pub arms_coded : (all : List (L.Pattern × L.Expr)) (v : Value L) (env : Env L) → Coded (arms m all v env)
  arms_coded [] v env = unmatched
  arms_coded (a ∷ more) v env = bind_coded (h.matches a.0 v env []) (λ r. if_matched_coded r _ _ (λ es. h.eval a.1 (extend es env)) (arms_coded more v env))

  branches_coded : (bs : List (L.Expr × L.Body)) (other : L.Body) (env : Env L) → Coded (branches m bs other env)
  branches_coded [] other env = pure_coded (Block other env)
  branches_coded (b ∷ more) other env = bind_coded (h.eval b.0 env) (λ v. if_true_coded v _ _ (pure_coded (Block b.1 env)) (branches_coded more other env))

  pub perform_coded : (v : Value L) → Coded (perform m v)
  perform_coded (Block b env) = h.exec b env
  perform_coded _ = pure_coded tt

module _ {L : Parts} (language : Language L) (self base : ℕ) (m : Meaning L) (h : MeaningCoded m) where
  pub apply_coded : (f v : Value L) → Coded (apply language self base m f v)
  apply_coded (Function f env) v = enter_coded m h (language.abstraction f) env v
  apply_coded (Primitive b) v = built_in_coded b v
  apply_coded _ v = no_function

  eval_node_coded : NodesCoded language → (e : ExprNode L) (env : Env L) → Coded (eval_node language self base m e env)
  eval_node_coded coded (Is v) env = pure_coded v
  eval_node_coded coded (Var r) env = found_coded (language.look env r)
  eval_node_coded coded Myself env = pure_coded (Plain (Actor self))
  eval_node_coded coded (Abs f) env = pure_coded (Function f env)
  eval_node_coded coded (BlockOf b) env = pure_coded (Block b env)
  eval_node_coded coded (Call f a) env = bind_coded (h.eval f env) (λ g. bind_coded (h.eval a env) (λ v. apply_coded g v))
  eval_node_coded coded (Tuple es) env = tuple_coded m h es env
  eval_node_coded coded (New e) env = bind_coded (h.eval e env) (λ v. bind_coded (create_coded base v) (λ n. pure_coded (Plain (Actor n))))
  eval_node_coded coded (Case e all) env = bind_coded (h.eval e env) (λ v. coded.choosing m h all v env)
  eval_node_coded coded (If bs other) env = branches_coded m h bs other env

module _ {L : Parts} (base : ℕ) (m : Meaning L) (h : MeaningCoded m) where
  statement_coded : (s : StmtNode L) (env : Env L) (rest : Env L → Action L (Unit {0})) → ((env : Env L) → Coded (rest env))
      → Coded (statement base m s env rest)
  statement_coded (Let p e) env rest k = bind_coded (h.eval e env) (λ v. bind_coded (h.matches p v env []) (λ o. if_matched_coded o _ _ (λ es. k (extend es env)) unmatched))
  statement_coded (Functions fs) env rest k = k (Group fs env)
  statement_coded Defined env rest k = k env
  statement_coded (Send e a) env rest k = bind_coded (h.eval e env) (λ v. bind_coded (h.eval a env) (λ t. bind_coded (send_to_coded t v) (λ _. k env)))
  statement_coded (Create mark e) env rest k = bind_coded (h.eval e env) (λ v. bind_coded (create_coded base v) (λ n. k (Bind mark (Plain (Actor n)) env)))
  statement_coded (Become e) env rest k = bind_coded (h.eval e env) (λ v. bind_coded (become_coded v) (λ _. k env))
  statement_coded (Throw e) env rest k = bind_coded (h.eval e env) (λ v. fail_coded thrown (omega arith, omega arith))
  statement_coded (Do e) env rest k = bind_coded (h.eval e env) (λ v. bind_coded (perform_coded m h v) (λ _. k env))

  statements_coded : (ss : List (StmtNode L)) (env : Env L) → Coded (statements base m ss env)
  statements_coded [] env = pure_coded tt
  statements_coded (s ∷ more) env = step_coded (statement_coded s env _ (statements_coded more))

-- ---- all levels

module _ {L : Parts} (language : Language L) (coded : NodesCoded language) (self base : ℕ) where
  nothing_coded : MeaningCoded {L = L} nothing
  nothing_coded = record { eval = λ e env. record { at = λ f s. tt }; matches = λ p v env es. record { at = λ f s. tt }; exec = λ b env. record { at = λ f s. tt } }

  stage_coded : (m : Meaning L) → MeaningCoded m → MeaningCoded (stage language self base m)
  stage_coded m h = record {
    eval = λ e env. step_coded (eval_node_coded language self base m h coded (language.expr e) env);
    matches = coded.matching m h;
    exec = λ b env. statements_coded base m h (language.body b) env;
  }

  pub level_coded : (n : ℕ) → MeaningCoded (level language self base n)
  unfolding level
  level_coded zero = nothing_coded
  level_coded (suc n) = stage_coded _ (level_coded n)
