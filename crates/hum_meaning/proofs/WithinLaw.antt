-- Evaluation, matching and execution speak of actors that are there, at every depth.
use Rattle.std.proofs.Common.{ℕ, zero, suc, ◌<◌, ◌≤◌, Bool, true, false, List, [], ◌∷◌, Option, Some, None, arith}
use Rattle.std.specs.Prelude.{ℤ}
use Rattle.hum_meaning.specs.Value.{Parts, Nil, Truth, Number, Actor, BuiltIn, Add, Sub, Mul, Compare, Less, LessEqual, Greater, GreaterEqual, Equal, And, Or, Not, Value, Plain, Pair, Function, Block, Primitive, Env, Bind, Group, Entry, extend}
use Rattle.hum_meaning.specs.Action.{Action, ◌>>=◌, pure, no_match, not_a_function, not_an_actor, not_a_number, not_a_truth_value, thrown}
use Rattle.hum_meaning.specs.Same.{same, same_atom}
use Rattle.hum_meaning.specs.BuiltIns.{built_in, on_pair, on_numbers, on_truths, negation, equality}
use Rattle.hum_meaning.specs.Language.{ExprNode, Is, Var, Myself, Abs, BlockOf, Call, Tuple, New, Case, If, StmtNode, Let, Functions, Defined, Send, Create, Become, Throw, Do, Matched, Meaning, Language}
use Rattle.hum_meaning.specs.Eval.{if_matched, if_pair, keep_if, equals, if_true, found, enter, tuple, arms, branches, apply, eval_node}
use Rattle.hum_meaning.specs.Exec.{send_to, perform, statement, statements}
use Rattle.hum_meaning.specs.Meaning.{nothing, stage, level}
use Rattle.hum_meaning.specs.Sound.{ValueWithin, EnvWithin}
use Rattle.hum_meaning.proofs.Within.{Anything, value_more, env_more, EntriesWithin, OptionWithin, MatchedWithin, entries_more, Keeps, pure_keeps, fail_keeps, undecided_keeps, bind_keeps, step_keeps, create_keeps, send_keeps, become_keeps}

-- ---- comparison and the built-in functions, none of which gives an actor

module _ {L : Parts} (base : ℕ) where
  -- what is so whatever there is
  plain_keeps : {A : Type 0} (P : ℕ → A → Type 0) (n : ℕ) (a : A) → ((m : ℕ) → P m a) → Keeps {L = L} base n P (pure a)
  plain_keeps P n a h = pure_keeps base n P a (λ m le up. h m)

  pub same_keeps : (v w : Value L) (n : ℕ) → Keeps base n Anything (same v w)
  unfolding same
  same_keeps (Plain a) (Plain b) n = plain_keeps Anything n (same_atom a b) (λ m. tt)
  same_keeps (Pair a b) (Pair c d) n =
      step_keeps base (bind_keeps base (same_keeps a c n) (λ m le. elim [ true ↦ λ i. same_keeps b d m | false ↦ λ i. plain_keeps Anything m false (λ k. tt) ]))
  same_keeps _ _ n = plain_keeps Anything n false (λ m. tt)

  on_pair_keeps : (n : ℕ) (f : Value L → Value L → Action L (Value L)) → ((a b : Value L) → Keeps base n ValueWithin (f a b)) → (v : Value L)
      → Keeps base n ValueWithin (on_pair f v)
  on_pair_keeps n f h (Pair a b) = h a b
  on_pair_keeps n f h _ = fail_keeps base n ValueWithin no_match

  on_numbers_keeps : (n : ℕ) (f : ℤ → ℤ → Value L) → ((m : ℕ) (a b : ℤ) → ValueWithin m (f a b)) → (a b : Value L)
      → Keeps base n ValueWithin (on_numbers f a b)
  on_numbers_keeps n f h (Plain (Number a)) (Plain (Number b)) = plain_keeps ValueWithin n (f a b) (λ m. h m a b)
  on_numbers_keeps n f h _ _ = fail_keeps base n ValueWithin not_a_number

  on_truths_keeps : (n : ℕ) (f : Bool → Bool → Bool) (a b : Value L) → Keeps base n ValueWithin (on_truths f a b)
  on_truths_keeps n f (Plain (Truth a)) (Plain (Truth b)) = plain_keeps ValueWithin n (Plain (Truth (f a b))) (λ m. tt)
  on_truths_keeps n f _ _ = fail_keeps base n ValueWithin not_a_truth_value

  negation_keeps : (n : ℕ) (v : Value L) → Keeps base n ValueWithin (negation v)
  negation_keeps n (Plain (Truth a)) = plain_keeps ValueWithin n _ (λ m. tt)
  negation_keeps n _ = fail_keeps base n ValueWithin not_a_truth_value

  numbers_keep : (n : ℕ) (f : ℤ → ℤ → Value L) → ((m : ℕ) (a b : ℤ) → ValueWithin m (f a b)) → (v : Value L)
      → Keeps base n ValueWithin (on_pair (on_numbers f) v)
  numbers_keep n f h v = on_pair_keeps n (on_numbers f) (on_numbers_keeps n f h) v

  truths_keep : (n : ℕ) (f : Bool → Bool → Bool) (v : Value L) → Keeps base n ValueWithin (on_pair (on_truths f) v)
  truths_keep n f v = on_pair_keeps n (on_truths f) (on_truths_keeps n f) v

  equality_keeps : (n : ℕ) (a b : Value L) → Keeps base n ValueWithin (equality a b)
  equality_keeps n a b = bind_keeps base (same_keeps a b n) (λ m le r i. plain_keeps ValueWithin m (Plain (Truth r)) (λ k. tt))

  pub built_in_keeps : (n : ℕ) (b : BuiltIn) (v : Value L) → Keeps base n ValueWithin (built_in b v)
  unfolding built_in
  built_in_keeps n Add v = numbers_keep n _ (λ m a b. tt) v
  built_in_keeps n Sub v = numbers_keep n _ (λ m a b. tt) v
  built_in_keeps n Mul v = numbers_keep n _ (λ m a b. tt) v
  built_in_keeps n Compare v = numbers_keep n _ (λ m a b. tt) v
  built_in_keeps n Less v = numbers_keep n _ (λ m a b. tt) v
  built_in_keeps n LessEqual v = numbers_keep n _ (λ m a b. tt) v
  built_in_keeps n Greater v = numbers_keep n _ (λ m a b. tt) v
  built_in_keeps n GreaterEqual v = numbers_keep n _ (λ m a b. tt) v
  built_in_keeps n Equal v = on_pair_keeps n equality (equality_keeps n) v
  built_in_keeps n And v = truths_keep n _ v
  built_in_keeps n Or v = truths_keep n _ v
  built_in_keeps n Not v = negation_keeps n v

-- ---- choices

module _ {L : Parts} (base n : ℕ) where
  pub if_matched_keeps : {A : Type 0} (P : ℕ → A → Type 0) (r : Matched L) (f : List (Entry L) → Action L A) (p : Action L A) → MatchedWithin n r
      → ((es : List (Entry L)) → EntriesWithin n es → Keeps base n P (f es)) → Keeps base n P p → Keeps base n P (if_matched r f p)
  if_matched_keeps P (Some es) f p i h k = h es i
  if_matched_keeps P None f p i h k = k

  pub if_pair_keeps : (v : Value L) (f : Value L → Value L → Action L (Matched L)) → ValueWithin n v
      → ((a b : Value L) → ValueWithin n a → ValueWithin n b → Keeps base n MatchedWithin (f a b)) → Keeps base n MatchedWithin (if_pair v f)
  if_pair_keeps (Pair a b) f i h = h a b i.0 i.1
  if_pair_keeps _ f i h = pure_keeps base n MatchedWithin None (λ m le up. tt)

  kept : (r : Bool) (es : List (Entry L)) → EntriesWithin n es → (m : ℕ) → n ≤ m → MatchedWithin m (keep_if r es)
  kept true es i m le = entries_more n m le es i
  kept false es i m le = tt

  pub equals_keeps : (v w : Value L) (es : List (Entry L)) → EntriesWithin n es → Keeps base n MatchedWithin (equals v w es)
  equals_keeps v w es i =
      bind_keeps base (same_keeps base v w n)
      (λ m le r j. pure_keeps base m MatchedWithin (keep_if r es) (λ k up over. kept r es i k (omega (arith, le, up))))

  if_true_keeps : {A : Type 0} (P : ℕ → A → Type 0) (v : Value L) (p q : Action L A) → Keeps base n P p → Keeps base n P q
      → Keeps base n P (if_true v p q)
  if_true_keeps P (Plain (Truth true)) p q h k = h
  if_true_keeps P (Plain (Truth false)) p q h k = k
  if_true_keeps P _ p q h k = fail_keeps base n P not_a_truth_value

  found_keeps : (o : Option (Value L)) → OptionWithin n o → Keeps base n ValueWithin (found o)
  found_keeps (Some v) h = pure_keeps base n ValueWithin v (λ m le up. value_more n m le v h)
  found_keeps None h = fail_keeps base n ValueWithin no_match

  send_to_keeps : (target v : Value L) → ValueWithin n target → ValueWithin n v → Keeps base n Anything (send_to target v)
  send_to_keeps (Plain (Actor k)) v h i = send_keeps base n k v h i
  send_to_keeps _ v h i = fail_keeps base n Anything not_an_actor

pub extended : {L : Parts} (n : ℕ) (es : List (Entry L)) (env : Env L) → EntriesWithin n es → EnvWithin n env → EnvWithin n (extend es env)
extended n [] env h k = k
extended n (e ∷ es) env h k = (h.0, extended n es env h.1 k)

-- ---- one level

-- a meaning that speaks of actors that are there
pub record MeaningKeeps {L : Parts} (base : ℕ) (m : Meaning L) : Type 0 where
  pub eval : (n : ℕ) (e : L.Expr) (env : Env L) → EnvWithin n env → Keeps base n ValueWithin (m.eval e env)
  pub matches : (n : ℕ) (p : L.Pattern) (v : Value L) (env : Env L) (es : List (Entry L)) → ValueWithin n v → EnvWithin n env
      → EntriesWithin n es → Keeps base n MatchedWithin (m.matches p v env es)
  pub exec : (n : ℕ) (b : L.Body) (env : Env L) → EnvWithin n env → Keeps base n Anything (m.exec b env)

-- the constant of a node names no actor
abbrev pub IsConstant : {L : Parts} → ExprNode L → Type 0
IsConstant (Is v) = ValueWithin 0 v
IsConstant _ = Unit {0}

-- what is asked of a language
pub record KeepsActors {L : Parts} (language : Language L) : Type 0 where
  pub constants : (e : L.Expr) → IsConstant (language.expr e)
  pub look : (n : ℕ) (env : Env L) (r : L.Reference) → EnvWithin n env → OptionWithin n (language.look env r)
  pub matching : (base : ℕ) (m : Meaning L) → MeaningKeeps base m → (n : ℕ) (p : L.Pattern) (v : Value L) (env : Env L) (es : List (Entry L))
      → ValueWithin n v → EnvWithin n env → EntriesWithin n es → Keeps base n MatchedWithin (language.match_node m.eval m.matches p v env es)
  pub choosing : (base : ℕ) (m : Meaning L) → MeaningKeeps base m → (x : L.Choice) (n : ℕ) (v : Value L) (env : Env L)
      → ValueWithin n v → EnvWithin n env → Keeps base n ValueWithin (language.choose_node m x v env)

module _ {L : Parts} (base : ℕ) (below : Meaning L) (h : MeaningKeeps base below) where
  enter_keeps : (n : ℕ) (f : Option (L.Pattern × L.Expr)) (env : Env L) (v : Value L) → EnvWithin n env → ValueWithin n v
      → Keeps base n ValueWithin (enter below f env v)
  enter_keeps n None env v i j = fail_keeps base n ValueWithin not_a_function
  enter_keeps n (Some f) env v i j =
      bind_keeps base (h.matches n f.0 v env [] j i tt)
      (λ m le r k. if_matched_keeps base m ValueWithin r _ _ k (λ es w. h.eval m f.1 (extend es env) (extended m es env w (env_more n m le env i))) (fail_keeps base m ValueWithin no_match))

  tuple_keeps : (es : List L.Expr) (n : ℕ) (env : Env L) → EnvWithin n env → Keeps base n ValueWithin (tuple below es env)
  tuple_keeps [] n env i = pure_keeps base n ValueWithin (Plain Nil) (λ m le up. tt)
  tuple_keeps (e ∷ []) n env i = h.eval n e env i
  tuple_keeps (e ∷ f ∷ more) n env i =
      bind_keeps base (h.eval n e env i)
      (λ m le v j. bind_keeps base (tuple_keeps (f ∷ more) m env (env_more n m le env i))
      (λ k up w a. pure_keeps base k ValueWithin (Pair v w) (λ l over b. (value_more m l (omega (arith, up, over)) v j, value_more k l over w a))))

  pub arms_keeps : (all : List (L.Pattern × L.Expr)) (n : ℕ) (v : Value L) (env : Env L) → ValueWithin n v → EnvWithin n env
      → Keeps base n ValueWithin (arms below all v env)
  arms_keeps [] n v env i j = fail_keeps base n ValueWithin no_match
  arms_keeps (a ∷ more) n v env i j =
      bind_keeps base (h.matches n a.0 v env [] i j tt)
      (λ m le r k. if_matched_keeps base m ValueWithin r _ _ k (λ es w. h.eval m a.1 (extend es env) (extended m es env w (env_more n m le env j)))
      (arms_keeps more m v env (value_more n m le v i) (env_more n m le env j)))

  branches_keeps : (bs : List (L.Expr × L.Body)) (n : ℕ) (other : L.Body) (env : Env L) → EnvWithin n env
      → Keeps base n ValueWithin (branches below bs other env)
  branches_keeps [] n other env i = pure_keeps base n ValueWithin (Block other env) (λ m le up. env_more n m le env i)
  branches_keeps (b ∷ more) n other env i =
      bind_keeps base (h.eval n b.0 env i)
      (λ m le v j. if_true_keeps base m ValueWithin v _ _ (pure_keeps base m ValueWithin (Block b.1 env) (λ k up over. env_more n k (omega (arith, le, up)) env i))
      (branches_keeps more m other env (env_more n m le env i)))

  pub perform_keeps : (n : ℕ) (v : Value L) → ValueWithin n v → Keeps base n Anything (perform below v)
  perform_keeps n (Block b env) i = h.exec n b env i
  perform_keeps n _ i = pure_keeps base n Anything tt (λ m le up. tt)

module _ {L : Parts} (language : Language L) (lawful : KeepsActors language) (self base : ℕ) (lt : self < base) (below : Meaning L) (h : MeaningKeeps base below) where
  pub apply_keeps : (n : ℕ) (f v : Value L) → ValueWithin n f → ValueWithin n v → Keeps base n ValueWithin (apply language self base below f v)
  apply_keeps n (Function f env) v i j = enter_keeps base below h n (language.abstraction f) env v i j
  apply_keeps n (Primitive b) v i j = built_in_keeps base n b v
  apply_keeps n _ v i j = fail_keeps base n ValueWithin not_a_function

  new_keeps : (n : ℕ) (e : L.Expr) (env : Env L) → EnvWithin n env → Keeps base n ValueWithin (eval_node language self base below (New e) env)
  new_keeps n e env i =
      bind_keeps base (h.eval n e env i)
      (λ m le v j. bind_keeps base (create_keeps base m v j)
      (λ k up a b. pure_keeps base k ValueWithin (Plain (Actor a)) (λ l over c. omega (arith, b, over))))

  eval_node_keeps : (n : ℕ) (e : ExprNode L) (env : Env L) → IsConstant e → EnvWithin n env
      → Keeps base n ValueWithin (eval_node language self base below e env)
  eval_node_keeps n (Is v) env c i = pure_keeps base n ValueWithin v (λ m le up. value_more 0 m (omega arith) v c)
  eval_node_keeps n (Var r) env c i = found_keeps base n (language.look env r) (lawful.look n env r i)
  eval_node_keeps n Myself env c i = pure_keeps base n ValueWithin (Plain (Actor self)) (λ m le up. omega (arith, lt, up))
  eval_node_keeps n (Abs f) env c i = pure_keeps base n ValueWithin (Function f env) (λ m le up. env_more n m le env i)
  eval_node_keeps n (BlockOf b) env c i = pure_keeps base n ValueWithin (Block b env) (λ m le up. env_more n m le env i)
  eval_node_keeps n (Call f a) env c i =
      bind_keeps base (h.eval n f env i)
      (λ m le g j. bind_keeps base (h.eval m a env (env_more n m le env i)) (λ k up v a. apply_keeps k g v (value_more m k up g j) a))
  eval_node_keeps n (Tuple es) env c i = tuple_keeps base below h es n env i
  eval_node_keeps n (New e) env c i = new_keeps n e env i
  eval_node_keeps n (Case e all) env c i =
      bind_keeps base (h.eval n e env i) (λ m le v j. lawful.choosing base below h all m v env j (env_more n m le env i))
  eval_node_keeps n (If bs other) env c i = branches_keeps base below h bs n other env i

module _ {L : Parts} (base : ℕ) (below : Meaning L) (h : MeaningKeeps base below) where
  -- what follows a statement, in any environment that names actors that are there
  abbrev Follows : ℕ → (Env L → Action L (Unit {0})) → Type 0
  Follows n rest = (m : ℕ) → n ≤ m → (env : Env L) → EnvWithin m env → Keeps base m Anything (rest env)

  let_keeps : (n : ℕ) (p : L.Pattern) (e : L.Expr) (env : Env L) (rest : Env L → Action L (Unit {0})) → EnvWithin n env → Follows n rest
      → Keeps base n Anything (statement base below (Let p e) env rest)
  let_keeps n p e env rest i k =
      bind_keeps base (h.eval n e env i)
      (λ m le v j. bind_keeps base (h.matches m p v env [] j (env_more n m le env i) tt)
      (λ l up r a. if_matched_keeps base l Anything r _ _ a
      (λ es w. k l (omega (arith, le, up)) (extend es env) (extended l es env w (env_more n l (omega (arith, le, up)) env i)))
      (fail_keeps base l Anything no_match)))

  sending_keeps : (n : ℕ) (e a : L.Expr) (env : Env L) (rest : Env L → Action L (Unit {0})) → EnvWithin n env → Follows n rest
      → Keeps base n Anything (statement base below (Send e a) env rest)
  sending_keeps n e a env rest i k =
      bind_keeps base (h.eval n e env i)
      (λ m le v j. bind_keeps base (h.eval m a env (env_more n m le env i))
      (λ l up t x. bind_keeps base (send_to_keeps base l t v x (value_more m l up v j))
      (λ q over u y. k q (omega (arith, le, up, over)) env (env_more n q (omega (arith, le, up, over)) env i))))

  creating_keeps : (n : ℕ) (mark : L.Mark) (e : L.Expr) (env : Env L) (rest : Env L → Action L (Unit {0})) → EnvWithin n env → Follows n rest
      → Keeps base n Anything (statement base below (Create mark e) env rest)
  creating_keeps n mark e env rest i k =
      bind_keeps base (h.eval n e env i)
      (λ m le v j. bind_keeps base (create_keeps base m v j)
      (λ l up a b. k l (omega (arith, le, up)) (Bind mark (Plain (Actor a)) env) (b, env_more n l (omega (arith, le, up)) env i)))

  -- an expression, and then an action over its value
  acting_keeps : (n : ℕ) (e : L.Expr) (env : Env L) (act : Value L → Action L (Unit {0})) (rest : Env L → Action L (Unit {0})) → EnvWithin n env
      → ((m : ℕ) (v : Value L) → ValueWithin m v → Keeps base m Anything (act v)) → Follows n rest
      → Keeps base n Anything (below.eval e env >>= (λ v. act v >>= (λ u. rest env)))
  acting_keeps n e env act rest i a k =
      bind_keeps base (h.eval n e env i)
      (λ m le v j. bind_keeps base (a m v j) (λ l up u x. k l (omega (arith, le, up)) env (env_more n l (omega (arith, le, up)) env i)))

  statement_keeps : (n : ℕ) (s : StmtNode L) (env : Env L) (rest : Env L → Action L (Unit {0})) → EnvWithin n env → Follows n rest
      → Keeps base n Anything (statement base below s env rest)
  statement_keeps n (Let p e) env rest i k = let_keeps n p e env rest i k
  statement_keeps n (Functions fs) env rest i k = k n (omega arith) (Group fs env) i
  statement_keeps n Defined env rest i k = k n (omega arith) env i
  statement_keeps n (Send e a) env rest i k = sending_keeps n e a env rest i k
  statement_keeps n (Create mark e) env rest i k = creating_keeps n mark e env rest i k
  statement_keeps n (Become e) env rest i k = acting_keeps n e env _ rest i (λ m v j. become_keeps base m v j) k
  statement_keeps n (Throw e) env rest i k = bind_keeps base (h.eval n e env i) (λ m le v j. fail_keeps base m Anything thrown)
  statement_keeps n (Do e) env rest i k = acting_keeps n e env _ rest i (λ m v j. perform_keeps base below h m v j) k

  statements_keeps : (ss : List (StmtNode L)) (n : ℕ) (env : Env L) → EnvWithin n env → Keeps base n Anything (statements base below ss env)
  statements_keeps [] n env i = pure_keeps base n Anything tt (λ m le up. tt)
  statements_keeps (s ∷ more) n env i =
      step_keeps base (statement_keeps n s env (statements base below more) i (λ m le env j. statements_keeps more m env j))

-- ---- all levels

module _ {L : Parts} (language : Language L) (lawful : KeepsActors language) (self base : ℕ) (lt : self < base) where
  nothing_keeps : MeaningKeeps {L = L} base nothing
  nothing_keeps = record {
    eval = λ n e env i. undecided_keeps base n ValueWithin;
    matches = λ n p v env es i j k. undecided_keeps base n MatchedWithin;
    exec = λ n b env i. undecided_keeps base n Anything;
  }

  stage_keeps : (m : Meaning L) → MeaningKeeps base m → MeaningKeeps base (stage language self base m)
  stage_keeps m h = record {
    eval = λ n e env i. step_keeps base (eval_node_keeps language lawful self base lt m h n (language.expr e) env (lawful.constants e) i);
    matches = λ n p v env es i j k. lawful.matching base m h n p v env es i j k;
    exec = λ n b env i. statements_keeps base m h (language.body b) n env i;
  }

  pub level_keeps : (n : ℕ) → MeaningKeeps base (level language self base n)
  unfolding level
  level_keeps zero = nothing_keeps
  level_keeps (suc n) = stage_keeps _ (level_keeps n)
