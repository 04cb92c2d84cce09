-- What is decided within some steps is decided so within more.
use Rattle.std.proofs.Common.{◌≡◌, refl, ap, sym, subst, ◌∙◌, ℕ, zero, suc, pred, ◌+◌, ◌<◌, ◌≤◌, Bool, true, false, List, [], ◌∷◌, Option, Some, None, arith}
use Rattle.std.specs.Prelude.{ℤ}
use Rattle.hum_meaning.specs.Value.{Parts, Nil, Truth, Number, Actor, BuiltIn, Add, Sub, Mul, Compare, Less, LessEqual, Greater, GreaterEqual, Equal, And, Or, Not, Value, Plain, Pair, Function, Block, Primitive, Env, Bind, Group, Entry, extend}
use Rattle.hum_meaning.specs.Action.{Effects, Outcome, Gives, Fails, Undecided, Action, no_match, not_a_function, not_an_actor, not_a_number, not_a_truth_value, thrown}
use Rattle.hum_meaning.specs.Same.{same, same_atom}
use Rattle.hum_meaning.specs.BuiltIns.{built_in, on_pair, on_numbers, on_truths, negation, equality}
use Rattle.hum_meaning.specs.Language.{ExprNode, Is, Var, Myself, Abs, BlockOf, Call, Tuple, New, Case, If, StmtNode, Let, Functions, Defined, Send, Create, Become, Throw, Do, Matched, Meaning, Language}
use Rattle.hum_meaning.specs.Eval.{if_matched, if_pair, keep_if, equals, if_true, found, enter, tuple, arms, branches, apply, eval_node}
use Rattle.hum_meaning.specs.Exec.{send_to, perform, statement, statements}
use Rattle.hum_meaning.specs.Meaning.{nothing, stage, level, meaning, evaluate, match, execute}
use Rattle.hum_meaning.specs.Laws.{IsDecided, more_left, Stays, SameWithin}
use Rattle.hum_meaning.proofs.Agrees.{Holds, Agrees, any_at_zero, undecided_agrees, pure_agrees, fail_agrees, bind_agrees, step_agrees, step_keeps, create_agrees, send_agrees, become_agrees}

-- ---- comparison and the built-in functions

module _ {L : Parts} (d : ℕ) where
  pub same_agrees : (v w : Value L) → Agrees d (same v w) (same v w)
  unfolding same
  same_agrees (Plain a) (Plain b) = pure_agrees d (same_atom a b)
  same_agrees (Pair a b) (Pair c e) = step_keeps d (bind_agrees d (same_agrees a c) (elim [ true ↦ same_agrees b e | false ↦ pure_agrees d false ]))
  same_agrees _ _ = pure_agrees d false

  on_pair_agrees : (f : Value L → Value L → Action L (Value L)) → ((a b : Value L) → Agrees d (f a b) (f a b)) → (v : Value L)
      → Agrees d (on_pair f v) (on_pair f v)
  on_pair_agrees f h (Pair a b) = h a b
  on_pair_agrees f h _ = fail_agrees d no_match

  on_numbers_agrees : (f : ℤ → ℤ → Value L) (a b : Value L) → Agrees d (on_numbers f a b) (on_numbers f a b)
  on_numbers_agrees f (Plain (Number a)) (Plain (Number b)) = pure_agrees d _
  on_numbers_agrees f _ _ = fail_agrees d not_a_number

  on_truths_agrees : (f : Bool → Bool → Bool) (a b : Value L) → Agrees d (on_truths f a b) (on_truths f a b)
  on_truths_agrees f (Plain (Truth a)) (Plain (Truth b)) = pure_agrees d _
  on_truths_agrees f _ _ = fail_agrees d not_a_truth_value

  negation_agrees : (v : Value L) → Agrees d (negation v) (negation v)
  negation_agrees (Plain (Truth a)) = pure_agrees d _
  negation_agrees _ = fail_agrees d not_a_truth_value

  numbers_agree : (f : ℤ → ℤ → Value L) (v : Value L) → Agrees d (on_pair (on_numbers f) v) (on_pair (on_numbers f) v)
  numbers_agree f = on_pair_agrees (on_numbers f) (on_numbers_agrees f)

  truths_agree : (f : Bool → Bool → Bool) (v : Value L) → Agrees d (on_pair (on_truths f) v) (on_pair (on_truths f) v)
  truths_agree f = on_pair_agrees (on_truths f) (on_truths_agrees f)

  pub built_in_agrees : (b : BuiltIn) (v : Value L) → Agrees d (built_in b v) (built_in b v)
  unfolding built_in
  built_in_agrees Add v = numbers_agree _ v
  built_in_agrees Sub v = numbers_agree _ v
  built_in_agrees Mul v = numbers_agree _ v
  built_in_agrees Compare v = numbers_agree _ v
  built_in_agrees Less v = numbers_agree _ v
  built_in_agrees LessEqual v = numbers_agree _ v
  built_in_agrees Greater v = numbers_agree _ v
  built_in_agrees GreaterEqual v = numbers_agree _ v
  built_in_agrees Equal v = on_pair_agrees equality (λ a b. bind_agrees d (same_agrees a b) (λ r. pure_agrees d (Plain (Truth r)))) v
  built_in_agrees And v = truths_agree _ v
  built_in_agrees Or v = truths_agree _ v
  built_in_agrees Not v = negation_agrees v

-- ---- choices

module _ {L : Parts} (d : ℕ) where
  pub if_matched_agrees : {A : Type 0} (m : Matched L) (f g : List (Entry L) → Action L A) (p q : Action L A)
      → ((es : List (Entry L)) → Agrees d (f es) (g es)) → Agrees d p q → Agrees d (if_matched m f p) (if_matched m g q)
  if_matched_agrees (Some es) f g p q h k = h es
  if_matched_agrees None f g p q h k = k

  pub if_pair_agrees : (v : Value L) (f g : Value L → Value L → Action L (Matched L)) → ((a b : Value L) → Agrees d (f a b) (g a b))
      → Agrees d (if_pair v f) (if_pair v g)
  if_pair_agrees (Pair a b) f g k = k a b
  if_pair_agrees _ f g k = pure_agrees d None

  pub equals_agrees : (v w : Value L) (es : List (Entry L)) → Agrees d (equals v w es) (equals v w es)
  equals_agrees v w es = bind_agrees d (same_agrees d v w) (λ r. pure_agrees d (keep_if r es))

  if_true_agrees : {A : Type 0} (v : Value L) (p q p' q' : Action L A) → Agrees d p p' → Agrees d q q'
      → Agrees d (if_true v p q) (if_true v p' q')
  if_true_agrees (Plain (Truth true)) p q p' q' h k = h
  if_true_agrees (Plain (Truth false)) p q p' q' h k = k
  if_true_agrees _ p q p' q' h k = fail_agrees d not_a_truth_value

  found_agrees : (o : Option (Value L)) → Agrees d (found o) (found o)
  found_agrees (Some v) = pure_agrees d v
  found_agrees None = fail_agrees d no_match

  send_to_agrees : (target v : Value L) → Agrees d (send_to target v) (send_to target v)
  send_to_agrees (Plain (Actor n)) v = send_agrees d n v
  send_to_agrees _ v = fail_agrees d not_an_actor

-- ---- one level

-- one meaning stands for another
pub record Stands {L : Parts} (d : ℕ) (m m' : Meaning L) : Type 0 where
  pub eval : (e : L.Expr) (env : Env L) → Agrees d (m.eval e env) (m'.eval e env)
  pub matches : (p : L.Pattern) (v : Value L) (env : Env L) (es : List (Entry L)) → Agrees d (m.matches p v env es) (m'.matches p v env es)
  pub exec : (b : L.Body) (env : Env L) → Agrees d (m.exec b env) (m'.exec b env)

-- what is asked of a language's matching: a step is spent before it goes below; and of its choices
pub record Lawful {L : Parts} (language : Language L) : Type 0 where
  pub matching : (d : ℕ) (m m' : Meaning L) → Stands (pred d) m m' → (p : L.Pattern) (v : Value L) (env : Env L) (es : List (Entry L))
      → Agrees d (language.match_node m.eval m.matches p v env es) (language.match_node m'.eval m'.matches p v env es)
  pub choosing : (d : ℕ) (m m' : Meaning L) → Stands d m m' → (x : L.Choice) (v : Value L) (env : Env L)
      → Agrees d (language.choose_node m x v env) (language.choose_node m' x v env)

module _ {L : Parts} (d : ℕ) (m m' : Meaning L) (h : Stands d m m') where
  enter_agrees : (f : Option (L.Pattern × L.Expr)) (env : Env L) (v : Value L) → Agrees d (enter m f env v) (enter m' f env v)
  enter_agrees None env v = fail_agrees d not_a_function
  enter_agrees (Some f) env v = bind_agrees d (h.matches f.0 v env []) (λ r. if_matched_agrees d r _ _ _ _ (λ es. h.eval f.1 (extend es env)) (fail_agrees d no_match))

  tuple_agrees : (es : List L.Expr) (env : Env L) → Agrees d (tuple m es env) (tuple m' es env)
  tuple_agrees [] env = pure_agrees d (Plain Nil)
  tuple_agrees (e ∷ []) env = h.eval e env
  tuple_agrees (e ∷ f ∷ more) env = bind_agrees d (h.eval e env) (λ v. bind_agrees d (tuple_agrees (f ∷ more) env) (λ w. pure_agrees d (Pair v w)))

  pub arms_agrees : (all : List (L.Pattern × L.Expr)) (v : Value L) (env : Env L) → Agrees d (arms m all v env) (arms m' all v env)
  arms_agrees [] v env = fail_agrees d no_match
  arms_agrees (a ∷ more) v env = bind_agrees d (h.matches a.0 v env []) (λ r. if_matched_agrees d r _ _ _ _ (λ es. h.eval a.1 (extend es env)) (arms_agrees more v env))

  branches_agrees : (bs : List (L.Expr × L.Body)) (other : L.Body) (env : Env L)
      → Agrees d (branches m bs other env) (branches m' bs other env)
  branches_agrees [] other env = pure_agrees d (Block other env)
  branches_agrees (b ∷ more) other env = bind_agrees d (h.eval b.0 env) (λ v. if_true_agrees d v _ _ _ _ (pure_agrees d (Block b.1 env)) (branches_agrees more other env))

  pub perform_agrees : (v : Value L) → Agrees d (perform m v) (perform m' v)
  perform_agrees (Block b env) = h.exec b env
  perform_agrees _ = pure_agrees d tt

module _ {L : Parts} (language : Language L) (self base d : ℕ) (m m' : Meaning L) (h : Stands d m m') where
  pub apply_agrees : (f v : Value L) → Agrees d (apply language self base m f v) (apply language self base m' f v)
  apply_agrees (Function f env) v = enter_agrees d m m' h (language.abstraction f) env v
  apply_agrees (Primitive b) v = built_in_agrees d b v
  apply_agrees _ v = fail_agrees d not_a_function

  eval_node_agrees : Lawful language → (e : ExprNode L) (env : Env L) → Agrees d (eval_node language self base m e env)
      (eval_node language self base m' e env)
  eval_node_agrees lawful (Is v) env = pure_agrees d v
  eval_node_agrees lawful (Var r) env = found_agrees d (language.look env r)
  eval_node_agrees lawful Myself env = pure_agrees d (Plain (Actor self))
  eval_node_agrees lawful (Abs f) env = pure_agrees d (Function f env)
  eval_node_agrees lawful (BlockOf b) env = pure_agrees d (Block b env)
  eval_node_agrees lawful (Call f a) env = bind_agrees d (h.eval f env) (λ g. bind_agrees d (h.eval a env) (λ v. apply_agrees g v))
  eval_node_agrees lawful (Tuple es) env = tuple_agrees d m m' h es env
  eval_node_agrees lawful (New e) env = bind_agrees d (h.eval e env) (λ v. bind_agrees d (create_agrees d base v) (λ n. pure_agrees d (Plain (Actor n))))
  eval_node_agrees lawful (Case e all) env = bind_agrees d (h.eval e env) (λ v. lawful.choosing d m m' h all v env)
  eval_node_agrees lawful (If bs other) env = branches_agrees d m m' h bs other env

module _ {L : Parts} (base d : ℕ) (m m' : Meaning L) (h : Stands d m m') where
  statement_agrees : (s : StmtNode L) (env : Env L) (r r' : Env L → Action L (Unit {0})) → ((env : Env L) → Agrees d (r env) (r' env))
      → Agrees d (statement base m s env r) (statement base m' s env r')
  statement_agrees (Let p e) env r r' k = bind_agrees d (h.eval e env) (λ v. bind_agrees d (h.matches p v env []) (λ o. if_matched_agrees d o _ _ _ _ (λ es. k (extend es env)) (fail_agrees d no_match)))
  statement_agrees (Functions fs) env r r' k = k (Group fs env)
  statement_agrees Defined env r r' k = k env
  statement_agrees (Send e a) env r r' k = bind_agrees d (h.eval e env) (λ v. bind_agrees d (h.eval a env) (λ t. bind_agrees d (send_to_agrees d t v) (λ _. k env)))
  statement_agrees (Create mark e) env r r' k = bind_agrees d (h.eval e env) (λ v. bind_agrees d (create_agrees d base v) (λ n. k (Bind mark (Plain (Actor n)) env)))
  statement_agrees (Become e) env r r' k = bind_agrees d (h.eval e env) (λ v. bind_agrees d (become_agrees d v) (λ _. k env))
  statement_agrees (Throw e) env r r' k = bind_agrees d (h.eval e env) (λ v. fail_agrees d thrown)
  statement_agrees (Do e) env r r' k = bind_agrees d (h.eval e env) (λ v. bind_agrees d (perform_agrees d m m' h v) (λ _. k env))

  statements_agrees : (ss : List (StmtNode L)) (env : Env L) → Agrees d (statements base m ss env) (statements base m' ss env)
  statements_agrees [] env = pure_agrees d tt
  statements_agrees (s ∷ more) env = step_keeps d (statement_agrees s env _ _ (statements_agrees more))

-- ---- all levels

module _ {L : Parts} (language : Language L) (lawful : Lawful language) (self base : ℕ) where
  body_agrees : (d : ℕ) (m m' : Meaning L) → Stands (pred d) m m' → (ss : List (StmtNode L)) (env : Env L)
      → Agrees d (statements base m ss env) (statements base m' ss env)
  body_agrees d m m' h [] env = pure_agrees d tt
  body_agrees d m m' h (s ∷ more) env = step_agrees d (statement_agrees base (pred d) m m' h s env _ _ (statements_agrees base (pred d) m m' h more))

  stage_stands : (d : ℕ) (m m' : Meaning L) → Stands (pred d) m m' → Stands d (stage language self base m) (stage language self base m')
  stage_stands d m m' h = record {
    eval = λ e env. step_agrees d (eval_node_agrees language self base (pred d) m m' h lawful (language.expr e) env);
    matches = lawful.matching d m m' h;
    exec = λ b env. body_agrees d m m' h (language.body b) env;
  }

  nothing_stands : (d : ℕ) (m : Meaning L) → Stands d nothing m
  nothing_stands d m = record { eval = λ e env. undecided_agrees d _; matches = λ p v env es. undecided_agrees d _; exec = λ b env. undecided_agrees d _ }

  stands_at_zero : (m m' m'' : Meaning L) → Stands 0 m m' → Stands 0 m m''
  stands_at_zero m m' m'' h = record {
    eval = λ e env. any_at_zero _ _ _ (h.eval e env);
    matches = λ p v env es. any_at_zero _ _ _ (h.matches p v env es);
    exec = λ b env. any_at_zero _ _ _ (h.exec b env);
  }

  -- What is decided at some depth with fewer than d steps is decided so at each depth from d on.
  pub level_stands : (n m d : ℕ) → d ≤ m → Stands d (level language self base n) (level language self base m)
  unfolding level
  level_stands zero m d le = nothing_stands d (level language self base m)
  level_stands (suc n) zero d le =
      let e : 0 ≡ d = omega (arith, le) in
      subst (λ k. Stands k (level language self base (suc n)) nothing) e (stands_at_zero _ _ _ (stage_stands 0 _ _ (level_stands n zero 0 (omega arith))))
  level_stands (suc n) (suc m) d le = stage_stands d _ _ (level_stands n m (pred d) (omega (arith, le)))

-- ---- within s steps

module _ {L : Parts} {A : Type 0} where
  -- what was decided is decided so
  pub stays : (s j : ℕ) (o o' : Outcome L A) → Holds s j (suc s) o o' → IsDecided o → o' ≡ more_left j o
  stays s j (Gives a e t) o' h d = h.1 (omega arith)
  stays s j (Fails c n) o' h d = h (omega arith)
  stays s j Undecided o' h d = absurd d

  undecided_both : (s : ℕ) (o : Outcome L A) → Holds s 0 (suc s) o Undecided → Undecided ≡ o
  undecided_both s (Gives a e t) h = absurd (subst IsDecided (sym (h.1 (omega arith))) tt)
  undecided_both s (Fails c n) h = absurd (subst IsDecided (sym (h (omega arith))) tt)
  undecided_both s Undecided h = refl

  -- two that stand for one another are the same
  pub the_same : (s : ℕ) (o o' : Outcome L A) → Holds s 0 (suc s) o o' → Holds s 0 (suc s) o' o → o ≡ o'
  the_same s (Gives a e t) o' h k = let same : t + 0 ≡ t = omega arith in sym (h.1 (omega arith) ∙ ap (λ x. Gives a e x) same)
  the_same s (Fails c n) o' h k = sym (h (omega arith))
  the_same s Undecided o' h k = undecided_both s o' k

module _ {L : Parts} (language : Language L) (lawful : Lawful language) (self base : ℕ) where
  pub evaluate_stays : (e : L.Expr) (env : Env L) (effects : Effects L) → Stays (evaluate language self base e env effects)
  evaluate_stays e env effects s j d = stays s j _ _ (((level_stands language lawful self base (suc s) (suc (s + j)) (suc s) (omega arith)).eval e env).at effects s j) d

  pub match_stays : (p : L.Pattern) (v : Value L) (env : Env L) (effects : Effects L) → Stays (match language self base p v env effects)
  match_stays p v env effects s j d = stays s j _ _ (((level_stands language lawful self base (suc s) (suc (s + j)) (suc s) (omega arith)).matches p v env []).at effects s j) d

  pub execute_stays : (b : L.Body) (env : Env L) (effects : Effects L) → Stays (execute language self base b env effects)
  execute_stays b env effects s j d = stays s j _ _ (((level_stands language lawful self base (suc s) (suc (s + j)) (suc s) (omega arith)).exec b env).at effects s j) d

  -- what stands within s steps
  abbrev Beside : {A : Type 0} (s : ℕ) (p q : Action L A) → Type 0
  Beside s p q = (effects : Effects L) → Holds s 0 (suc s) (p effects s) (q effects s)

  beside : {A : Type 0} (s : ℕ) (p q : Action L A) → Agrees (suc s) p q → Beside s p q
  beside s p q h effects = let same : s + 0 ≡ s = omega arith in subst (λ x. Holds s 0 (suc s) (p effects s) (q effects x)) same (h.at effects s 0)

  both_ways : {A : Type 0} (s : ℕ) (p q : Action L A) → Agrees (suc s) p q → Agrees (suc s) q p → (effects : Effects L) → p effects s ≡ q effects s
  both_ways s p q h k effects = the_same s _ _ (beside s p q h effects) (beside s q p k effects)

  -- the depth is no bound of its own
  pub depth-is-enough : (n s : ℕ) → s < n → SameWithin s (level language self base n) (meaning language self base s)
  depth-is-enough n s lt =
      let up = level_stands language lawful self base n (suc s) (suc s) (omega arith) in
      let down = level_stands language lawful self base (suc s) n (suc s) lt in
      record {
        eval = λ e env. both_ways s _ _ (up.eval e env) (down.eval e env);
        matches = λ p v env es. both_ways s _ _ (up.matches p v env es) (down.matches p v env es);
        exec = λ b env. both_ways s _ _ (up.exec b env) (down.exec b env);
      }
