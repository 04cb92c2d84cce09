-- Where a reading is sound, the one language means what the other does, with the same steps.
use Rattle.std.proofs.Common.{◌≡◌, refl, ap, sym, subst, ◌∙◌, ℕ, zero, suc, ◌≤◌, Bool, true, false, List, [], ◌∷◌, ◌++◌, Option, Some, None, arith}
use Rattle.std.proofs.lemmas.List.{append-nil}
use Rattle.hum_meaning.specs.Value.{Parts, Nil, Truth, Actor, Value, Plain, Env, Bind, Group, Entry, extend}
use Rattle.hum_meaning.specs.Action.{Action, ◌>>=◌, no_match, not_a_function, not_an_actor, not_a_truth_value, thrown}
use Rattle.hum_meaning.specs.Language.{ExprNode, Is, Var, Myself, Abs, BlockOf, Call, Tuple, New, Case, If, StmtNode, Let, Functions, Defined, Send, Create, Become, Throw, Do, Matched, Language, Meaning}
use Rattle.hum_meaning.specs.Eval.{if_matched, if_true, found, enter, tuple, arms, branches, apply, eval_node}
use Rattle.hum_meaning.specs.Exec.{send_to, perform, statement, statements}
use Rattle.hum_meaning.specs.Meaning.{level, match}
use Rattle.hum_core.specs.Alike.{One, Scope, scope_of, with_marks, Both, Each, Reading, Alike, plain_as, pair_as, function_as, block_as, primitive_as, AlikeEnv, bind_as, group_as, ArmAs, BranchAs, ExprNodeAs, StatementsAs, EntriesAs, OutcomeAs}
use Rattle.hum_core.specs.Reading.{MeanAlike}
use Rattle.hum_core.proofs.Following.{ActsAs, Bound, marks_of, Follows, Sound}
use Rattle.hum_core.proofs.Acts.{step_as, step_keeps, bind_as', pure_as, fail_as, create_as, send_as, become_as, constant_as, built_in_as}

module _ {L K : Parts} (r : Reading L K) (b' : ℕ) where
  -- ---- entries

  extend_scope : (es : List (Entry L)) (env : Env L) → scope_of (extend es env) ≡ with_marks (marks_of r es) (scope_of env)
  extend_scope [] env = refl
  extend_scope (e ∷ es) env = ap (λ s. One e.0 ∷ s) (extend_scope es env)

  extend_as : (es : List (Entry L)) (ds : List (Entry K)) (env : Env L) (env' : Env K) → Bound r es ds → AlikeEnv r env env'
      → AlikeEnv r (extend es env) (extend ds env')
  extend_as [] [] env env' h k = k
  extend_as (e ∷ es) (d ∷ ds) env env' h k = bind_as h.0 (extend_as es ds env env' h.1 k)
  extend_as [] (d ∷ ds) env env' h k = absurd h
  extend_as (e ∷ es) [] env env' h k = absurd h

  -- the scope under a pattern whose entries these are
  under : (marks : List L.Mark) (es : List (Entry L)) (env : Env L) → marks_of r es ≡ marks ++ []
      → with_marks marks (scope_of env) ≡ scope_of (extend es env)
  under marks es env e = ap (λ n. with_marks n (scope_of env)) (sym (append-nil marks) ∙ sym e) ∙ sym (extend_scope es env)

  -- ---- choices

  found_as : (o : Option (Value L)) (o' : Option (Value K)) → Both (Alike r) o o' → ActsAs r b' (Alike r) (found o) (found o')
  found_as (Some v) (Some w) h = pure_as r b' (Alike r) v w h
  found_as None None h = fail_as r b' (Alike r) no_match
  found_as None (Some w) h = absurd h
  found_as (Some v) None h = absurd h

  pub if_matched_as : {A B : Type 0} (R : A → B → Type 0) (marks : List L.Mark) (o : Matched L) (o' : Matched K)
      (f : List (Entry L) → Action L A) (g : List (Entry K) → Action K B) (p : Action L A) (q : Action K B) → Both (EntriesAs r marks) o o'
      → ((es : List (Entry L)) (ds : List (Entry K)) → EntriesAs r marks es ds → ActsAs r b' R (f es) (g ds)) → ActsAs r b' R p q
      → ActsAs r b' R (if_matched o f p) (if_matched o' g q)
  if_matched_as R marks (Some es) (Some ds) f g p q h k l = k es ds h
  if_matched_as R marks None None f g p q h k l = l
  if_matched_as R marks None (Some ds) f g p q h k l = absurd h
  if_matched_as R marks (Some es) None f g p q h k l = absurd h

  if_truth : {A B : Type 0} (R : A → B → Type 0) (b : Bool) (p p' : Action L A) (q q' : Action K B) → ActsAs r b' R p q
      → ActsAs r b' R p' q' → ActsAs r b' R (if_true (Plain (Truth b)) p p') (if_true (Plain (Truth b)) q q')
  if_truth R true p p' q q' h k = h
  if_truth R false p p' q q' h k = k

  if_true_as : {A B : Type 0} (R : A → B → Type 0) {v : Value L} {w : Value K} (p p' : Action L A) (q q' : Action K B) → Alike r v w
      → ActsAs r b' R p q → ActsAs r b' R p' q' → ActsAs r b' R (if_true v p p') (if_true w q q')
  if_true_as R p p' q q' (plain_as (Truth b)) h k = if_truth R b p p' q q' h k
  if_true_as R p p' q q' _ h k = fail_as r b' R not_a_truth_value

  send_to_as : {v x : Value L} {w y : Value K} → Alike r v w → Alike r x y → ActsAs r b' (λ a b. Unit {0}) (send_to v x) (send_to w y)
  send_to_as (plain_as (Actor n)) h = send_as r b' n _ _ h
  send_to_as _ h = fail_as r b' (λ a b. Unit {0}) not_an_actor

pub goes_on : {L K : Parts} (r : Reading L K) (scope : Scope L) (s : StmtNode L) (more : List (StmtNode L))
    → StatementsAs r scope (s ∷ more) [] → ⊥
goes_on r scope Defined more c = c
goes_on r scope _ more c = c

-- ---- one level

module _ {L K : Parts} (r : Reading L K) (b' : ℕ) (m : Meaning L) (m' : Meaning K) (h : Follows r b' m m') where
  -- what stands behind a pattern that matches
  behind_as : (env : Env L) (env' : Env K) → AlikeEnv r env env' → (f : L.Pattern × L.Expr) (g : K.Pattern × K.Expr)
      → ArmAs r (scope_of env) f g → (v : Value L) (w : Value K) → Alike r v w → (p : Action L (Value L)) (q : Action K (Value K))
      → ActsAs r b' (Alike r) p q →
      ActsAs r b' (Alike r) (m.matches f.0 v env [] >>= (λ o. if_matched o (λ es. m.eval f.1 (extend es env)) p)) (m'.matches g.0 w env' [] >>= (λ o. if_matched o (λ es. m'.eval g.1 (extend es env')) q))
  behind_as env env' a f g c v w i p q k =
      bind_as' r b' _ _ _ _ (λ o o' e. if_matched_as r b' (Alike r) _ o o' _ _ _ _ e
      (λ es ds n. h.eval f.1 g.1 (extend es env) (extend ds env') (extend_as r b' es ds env env' n.1 a) (subst (λ s. r.ExprAs s f.1 g.1) (under r b' (r.marks f.0) es env n.0) c.1)) k)
      _ _ (h.matches f.0 g.0 v w env env' [] [] a c.0 i tt)

  enter_as : (env : Env L) (env' : Env K) {v : Value L} {w : Value K} → AlikeEnv r env env' → Alike r v w
      → (o : Option (L.Pattern × L.Expr)) (o' : Option (K.Pattern × K.Expr)) → Both (ArmAs r (scope_of env)) o o'
      → ActsAs r b' (Alike r) (enter m o env v) (enter m' o' env' w)
  enter_as env env' {v} {w} a b None None c = fail_as r b' (Alike r) not_a_function
  enter_as env env' {v} {w} a b (Some f) (Some g) c = behind_as env env' a f g c v w b _ _ (fail_as r b' (Alike r) no_match)
  enter_as env env' {v} {w} a b None (Some g) c = absurd c
  enter_as env env' {v} {w} a b (Some f) None c = absurd c

  pub perform_as : {v : Value L} {w : Value K} → Alike r v w → ActsAs r b' (λ x y. Unit {0}) (perform m v) (perform m' w)
  perform_as (block_as {b = b} {c = c} {env = env} {env' = env'} i a) = h.exec b c env env' a i
  perform_as _ = pure_as r b' (λ x y. Unit {0}) tt tt tt

  module _ (env : Env L) (env' : Env K) (a : AlikeEnv r env env') where
    tuple_as : (es : List L.Expr) (ds : List K.Expr) → Each (r.ExprAs (scope_of env)) es ds
        → ActsAs r b' (Alike r) (tuple m es env) (tuple m' ds env')
    tuple_as [] [] c = pure_as r b' (Alike r) _ _ (plain_as Nil)
    tuple_as (e ∷ []) (d ∷ []) c = h.eval e d env env' a c.0
    tuple_as (e ∷ f ∷ more) (d ∷ g ∷ others) c = bind_as' r b' _ _ _ _ (λ v w i. bind_as' r b' _ _ _ _ (λ x y j. pure_as r b' (Alike r) _ _ (pair_as i j)) _ _ (tuple_as (f ∷ more) (g ∷ others) c.1)) _ _ (h.eval e d env env' a c.0)
    tuple_as [] (d ∷ ds) c = absurd c
    tuple_as (e ∷ es) [] c = absurd c
    tuple_as (e ∷ []) (d ∷ g ∷ others) c = absurd c.1
    tuple_as (e ∷ f ∷ more) (d ∷ []) c = absurd c.1

    pub arms_as : (more : List (L.Pattern × L.Expr)) (others : List (K.Pattern × K.Expr)) (v : Value L) (w : Value K) → Alike r v w
        → Each (ArmAs r (scope_of env)) more others → ActsAs r b' (Alike r) (arms m more v env) (arms m' others w env')
    arms_as [] [] v w i c = fail_as r b' (Alike r) no_match
    arms_as (f ∷ more) (g ∷ others) v w i c = behind_as env env' a f g c.0 v w i _ _ (arms_as more others v w i c.1)
    arms_as [] (g ∷ others) v w i c = absurd c
    arms_as (f ∷ more) [] v w i c = absurd c

    branches_as : (more : List (L.Expr × L.Body)) (others : List (K.Expr × K.Body)) (b : L.Body) (c : K.Body)
        → Each (BranchAs r (scope_of env)) more others → r.BodyAs (scope_of env) b c
        → ActsAs r b' (Alike r) (branches m more b env) (branches m' others c env')
    branches_as [] [] b c i j = pure_as r b' (Alike r) _ _ (block_as j a)
    branches_as (f ∷ more) (g ∷ others) b c i j = bind_as' r b' _ _ _ _ (λ v w n. if_true_as r b' (Alike r) _ _ _ _ n (pure_as r b' (Alike r) _ _ (block_as i.0.1 a)) (branches_as more others b c i.1 j)) _ _ (h.eval f.0 g.0 env env' a i.0.0)
    branches_as [] (g ∷ others) b c i j = absurd i
    branches_as (f ∷ more) [] b c i j = absurd i

module _ {L K : Parts} (r : Reading L K) (l : Language L) (k : Language K) (sound : Sound r l k) (self base : ℕ) (b' : ℕ) (m : Meaning L) (m' : Meaning K) (h : Follows r b' m m') where
  pub apply_as : {f v : Value L} {g w : Value K} → Alike r f g → Alike r v w
      → ActsAs r b' (Alike r) (apply l self base m f v) (apply k self base m' g w)
  apply_as (function_as {f = f} {g = g} {env = env} {env' = env'} c a) b = enter_as r b' m m' h env env' a b (l.abstraction f) (k.abstraction g) (sound.abstraction (scope_of env) f g c)
  apply_as (primitive_as b) i = built_in_as r b' b i
  apply_as _ i = fail_as r b' (Alike r) not_a_function

  actor_at : (x y : ℕ) → x ≡ y → Alike r (Plain (Actor x)) (Plain (Actor y))
  actor_at x y e = subst (λ y. Alike r (Plain (Actor x)) (Plain (Actor y))) e (plain_as (Actor x))

  module _ (env : Env L) (env' : Env K) (a : AlikeEnv r env env') where
    eval_node_as : (e : ExprNode L) (d : ExprNode K) → ExprNodeAs r (scope_of env) e d
        → ActsAs r b' (Alike r) (eval_node l self base m e env) (eval_node k self base m' d env')
    eval_node_as (Is v) (Is w) c = pure_as r b' (Alike r) v w (constant_as r b' v w c)
    eval_node_as (Var x) (Var y) c = found_as r b' _ _ (sound.look env env' x y a c)
    eval_node_as Myself Myself c = pure_as r b' (Alike r) _ _ (plain_as (Actor self))
    eval_node_as (Abs f) (Abs g) c = pure_as r b' (Alike r) _ _ (function_as c a)
    eval_node_as (BlockOf x) (BlockOf y) c = pure_as r b' (Alike r) _ _ (block_as c a)
    eval_node_as (Call f x) (Call g y) c = bind_as' r b' _ _ _ _ (λ v w i. bind_as' r b' _ _ _ _ (λ p q j. apply_as i j) _ _ (h.eval x y env env' a c.1)) _ _ (h.eval f g env env' a c.0)
    eval_node_as (Tuple es) (Tuple ds) c = tuple_as r b' m m' h env env' a es ds c
    eval_node_as (New e) (New d) c = bind_as' r b' _ _ _ _ (λ v w i. bind_as' r b' _ _ _ _ (λ x y j. pure_as r b' (Alike r) _ _ (actor_at x y j)) _ _ (create_as r b' base v w i)) _ _ (h.eval e d env env' a c)
    eval_node_as (Case e more) (Case d others) c = bind_as' r b' _ _ _ _ (λ v w i. sound.choosing b' m m' h env env' a more others v w i c.1) _ _ (h.eval e d env env' a c.0)
    eval_node_as (If more b) (If others c') c = branches_as r b' m m' h env env' a more others b c' c.0 c.1
    eval_node_as _ _ c = absurd c

  -- the first statement, where what follows is as it is to be
  statement_as : (s : StmtNode L) (more : List (StmtNode L)) (t : StmtNode K) (others : List (StmtNode K))
      → ((env : Env L) (env' : Env K) → AlikeEnv r env env' → StatementsAs r (scope_of env) more others → ActsAs r b' (λ x y. Unit {0}) (statements base m more env) (statements base m' others env'))
      → (env : Env L) (env' : Env K) → AlikeEnv r env env' → StatementsAs r (scope_of env) (s ∷ more) (t ∷ others)
      → ActsAs r b' (λ x y. Unit {0}) (statement base m s env (statements base m more))
      (statement base m' t env' (statements base m' others))
  statement_as (Let p e) more (Let q d) others go env env' a c =
      bind_as' r b' _ _ _ _ (λ v w i. bind_as' r b' _ _ _ _ (λ o o' j. if_matched_as r b' _ _ o o' _ _ _ _ j
      (λ es ds n. go (extend es env) (extend ds env') (extend_as r b' es ds env env' n.1 a) (subst (λ s. StatementsAs r s more others) (under r b' (r.marks p) es env n.0) c.2)) (fail_as r b' _ no_match))
      _ _ (h.matches p q v w env env' [] [] a c.0 i tt)) _ _ (h.eval e d env env' a c.1)
  statement_as (Functions fs) more (Functions gs) others go env env' a c = go (Group fs env) (Group gs env') (group_as c.0 a) c.1
  statement_as Defined more Defined others go env env' a c = go env env' a c
  statement_as (Send e x) more (Send d y) others go env env' a c =
      bind_as' r b' _ _ _ _ (λ v w i. bind_as' r b' _ _ _ _ (λ t u j. bind_as' r b' _ _ _ _ (λ _ _ _. go env env' a c.2) _ _ (send_to_as r b' j i)) _ _ (h.eval x y env env' a c.1)) _ _ (h.eval e d env env' a c.0)
  statement_as (Create n e) more (Create n' d) others go env env' a c =
      bind_as' r b' _ _ _ _ (λ v w i. bind_as' r b' _ _ _ _ (λ x y j. go (Bind n (Plain (Actor x)) env) (Bind n' (Plain (Actor y)) env') (bind_as (actor_at x y j) a) c.1) _ _ (create_as r b' base v w i)) _ _ (h.eval e d env env' a c.0)
  statement_as (Become e) more (Become d) others go env env' a c =
      bind_as' r b' _ _ _ _ (λ v w i. bind_as' r b' _ _ _ _ (λ _ _ _. go env env' a c.1) _ _ (become_as r b' v w i)) _ _ (h.eval e d env env' a c.0)
  statement_as (Throw e) more (Throw d) others go env env' a c = bind_as' r b' _ _ _ _ (λ v w i. fail_as r b' _ thrown) _ _ (h.eval e d env env' a c.0)
  statement_as (Do e) more (Do d) others go env env' a c =
      bind_as' r b' _ _ _ _ (λ v w i. bind_as' r b' _ _ _ _ (λ _ _ _. go env env' a c.1) _ _ (perform_as r b' m m' h i)) _ _ (h.eval e d env env' a c.0)
  statement_as _ more _ others go env env' a c = absurd c

  statements_as : (ss : List (StmtNode L)) (ts : List (StmtNode K)) (env : Env L) (env' : Env K) → AlikeEnv r env env'
      → StatementsAs r (scope_of env) ss ts → ActsAs r b' (λ x y. Unit {0}) (statements base m ss env) (statements base m' ts env')
  statements_as [] [] env env' a c = pure_as r b' (λ x y. Unit {0}) tt tt tt
  statements_as (s ∷ more) (t ∷ others) env env' a c = step_keeps r b' _ _ _ (statement_as s more t others (statements_as more others) env env' a c)
  statements_as [] (t ∷ others) env env' a c = absurd c
  statements_as (s ∷ more) [] env env' a c = absurd (goes_on r (scope_of env) s more c)

-- ---- all levels

module _ {L K : Parts} (r : Reading L K) (l : Language L) (k : Language K) (sound : Sound r l k) (self base : ℕ) where
  body_as : (b : ℕ) (m : Meaning L) (m' : Meaning K) → Follows r b m m'
      → (ss : List (StmtNode L)) (ts : List (StmtNode K)) (env : Env L) (env' : Env K) → AlikeEnv r env env'
      → StatementsAs r (scope_of env) ss ts → ActsAs r (suc b) (λ x y. Unit {0}) (statements base m ss env) (statements base m' ts env')
  body_as b m m' h [] [] env env' a c = pure_as r (suc b) (λ x y. Unit {0}) tt tt tt
  body_as b m m' h (s ∷ more) (t ∷ others) env env' a c = step_as r b _ _ _ (statement_as r l k sound self base b m m' h s more t others (statements_as r l k sound self base b m m' h more others) env env' a c)
  body_as b m m' h [] (t ∷ others) env env' a c = absurd c
  body_as b m m' h (s ∷ more) [] env env' a c = absurd (goes_on r (scope_of env) s more c)

  nothing_acts : {A B : Type 0} (R : A → B → Type 0) (p : Action L A) (q : Action K B) → ActsAs r 0 R p q
  nothing_acts R p q = record { at = λ e d s lt k. absurd (omega (arith, lt)) }

  -- The one language's meaning is the other's, for all outcomes and all depths that are enough for the steps.
  pub level_follows : (b n n' : ℕ) → b ≤ n → b ≤ n' → Follows r b (level l self base n) (level k self base n')
  unfolding level
  level_follows zero n n' le le' = record {
    eval = λ e d env env' a c. nothing_acts _ _ _;
    matches = λ p q v w env env' es ds a c i j. nothing_acts _ _ _;
    exec = λ b c env env' a i. nothing_acts _ _ _;
  }
  level_follows (suc b) zero n' le le' = absurd (omega (arith, le))
  level_follows (suc b) (suc n) zero le le' = absurd (omega (arith, le'))
  level_follows (suc b) (suc n) (suc n') le le' =
      let h : Follows r b (level l self base n) (level k self base n') = level_follows b n n' (omega (arith, le)) (omega (arith, le')) in
      record {
        eval = λ e d env env' a c. step_as r b _ _ _ (eval_node_as r l k sound self base b _ _ h env env' a (l.expr e) (k.expr d) (sound.expr (scope_of env) e d c));
        matches = sound.matching self base b (level_follows b) n n' (omega (arith, le)) (omega (arith, le'));
        exec = λ c d env env' a i. body_as b _ _ h (l.body c) (k.body d) env env' a (sound.body (scope_of env) c d i);
      }

pub means_alike : {L K : Parts} (r : Reading L K) (l : Language L) (k : Language K) → Sound r l k → MeanAlike r l k
means_alike r l k sound = record {
  evaluation = λ self base s e d env env' f g c a h. ((level_follows r l k sound self base (suc s) (suc s) (suc s) (omega arith) (omega arith)).eval e d env env' a c).at f g s (omega arith) h;
  matching = λ self base s p q v w env env' f g c i a h. subst (λ ms. OutcomeAs r s (Both (EntriesAs r ms)) (match l self base p v env f s) (match k self base q w env' g s))
      (append-nil (r.marks p)) (((level_follows r l k sound self base (suc s) (suc s) (suc s) (omega arith) (omega arith)).matches p q v w env env' [] [] a c i tt).at f g s (omega arith) h);
  execution = λ self base s b c env env' f g i a h. ((level_follows r l k sound self base (suc s) (suc s) (suc s) (omega arith) (omega arith)).exec b c env env' a i).at f g s (omega arith) h;
}
