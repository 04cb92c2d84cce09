-- The built-in functions on two numbers.
use Rattle.std.proofs.Common.{◌≡◌, refl, ap, subst, ℕ, suc, ◌+◌, ◌≤◌, length, ℤ, pos, negsuc, int_lt, not, ◌+ℤ◌, ◌-ℤ◌, ◌*ℤ◌, Bool, true, false, List, [], ◌∷◌, arith}
use Rattle.cap_words.specs.Words.{W, Fix, truth, fixnum_t}
use Rattle.cap_words.specs.Fixnums.{wrap, comparison}
use Rattle.cap_words.specs.Seen.{Seen}
use Rattle.instr_table.specs.declared.op.Op.{Op}
use Rattle.instr_table.specs.declared.op.Op.TheVariants.{Cmp, Alu}
use Rattle.instr_table.specs.Types.{is_type}
use Rattle.instr_table.specs.Arithmetic.{compared, calculated}
use Rattle.instr_table.specs.Event.{Own, Effects}
use Rattle.instr_table.specs.Sheet.{Account}
use Rattle.instr_table.specs.Outcome.{goes}
use Rattle.instr_table.specs.Row.{row}
use Rattle.hum_meaning.specs.Value.{Undefined, Nil, Truth, Number, Symbol, Actor, Plain, Pair, Function, Block, Primitive, Add, Sub, Mul, Compare, Less, LessEqual, Greater, GreaterEqual}
use Rattle.hum_meaning.specs.Action.{Gives, Fails, fail, not_a_number}
use Rattle.hum_meaning.specs.BuiltIns.{on_pair, on_numbers, arithmetic, order as ordered, built_in}
use Rattle.hum_code.specs.Bounds.{Limits}
use Rattle.hum_code.specs.Comes.{point}
use Rattle.hum_code.specs.Runtime.{NumbersAt, CalculatesAt, CompareAt}
use Rattle.hum_code.specs.Stands.{Stands}
use Rattle.hum_code.specs.Emission.{Emission}
use Rattle.hum_code.proofs.Composing.{silent}
use Rattle.hum_code.proofs.Steps.{plain, push, dup2, cmp_, if_true, if_false}
use Rattle.hum_code.proofs.Standing.{CoreValue, Gathered}
use Rattle.hum_code.proofs.TypesOf.{type_for}
use Rattle.hum_code.proofs.Calculations.{less_equal_words, greater_equal_words}
use Rattle.hum_code.proofs.Operands.{From, Types, spends, numbers, no_first, no_second, back, answers2}
use Rattle.hum_code.proofs.Routines.{Called, Answers, Answer, Runs, typed, answered, failed, pair_runs}
use Rattle.hum_code.proofs.Results.{Result, Worth, Gets}

-- a number, or what no operation on numbers takes
pub data Numeric (v : CoreValue) : Type 0 where
  ANumber : (n : ℤ) → v ≡ Plain (Number n) → Numeric v
  NoNumber : is_type (type_for v) fixnum_t ≡ false
      → ((g : ℤ → ℤ → CoreValue) (y : CoreValue) → on_numbers g v y ≡ fail not_a_number)
      → ((g : ℤ → ℤ → CoreValue) (n : ℤ) → on_numbers g (Plain (Number n)) v ≡ fail not_a_number) → Numeric v

numeric : (v : CoreValue) → Numeric v
numeric (Plain (Number n)) = ANumber n refl
numeric (Plain Undefined) = NoNumber refl (λ g y. refl) (λ g n. refl)
numeric (Plain Nil) = NoNumber refl (λ g y. refl) (λ g n. refl)
numeric (Plain (Truth b)) = NoNumber refl (λ g y. refl) (λ g n. refl)
numeric (Plain (Symbol name)) = NoNumber refl (λ g y. refl) (λ g n. refl)
numeric (Plain (Actor j)) = NoNumber refl (λ g y. refl) (λ g n. refl)
numeric (Pair x y) = NoNumber refl (λ g y. refl) (λ g n. refl)
numeric (Function u env) = NoNumber refl (λ g y. refl) (λ g n. refl)
numeric (Block u env) = NoNumber refl (λ g y. refl) (λ g n. refl)
numeric (Primitive b) = NoNumber refl (λ g y. refl) (λ g n. refl)

-- the operation takes two numbers from the stack, and puts this word there
abbrev pub Makes : Op → (ℤ → ℤ → W) → Type 0
Makes op word = (own : Own) (s : Seen) (sheet : List Account) (e : Effects) (x y : ℤ) (vs : List W) (k : W)
    → row own op s sheet e (Fix y ∷ Fix x ∷ vs) k ≡ goes 2 (word x y ∷ []) k

abbrev pub Word : Type 0
Word = ℤ → ℤ → W

module _ {em : Emission} {lim : Limits} {d : Effects} {c q s : ℕ} {f : Gathered} {t : Seen} (call : Called em lim d c q s f t)
    (k : W) (S : List W) where
  fixed : (w : W) (n : ℤ) → Worth em t d w (Plain (Number n)) → w ≡ Fix n
  unfolding Stands
  fixed w n h = h

  fixed_type : (n : ℤ) → Types t (Fix n) fixnum_t true
  unfolding Stands
  fixed_type n = typed call (Fix n) (Plain (Number n)) fixnum_t true refl refl

  no_numbers : {m c' q' : ℕ} {vs : List W} → c' + m ≤ c + 30 → q' + m ≤ q + 30
      → From em.setting lim.most (Result em.setting lim (Answer call k S) (Fails not_a_number (length f.sent))) t m c' q' (em.layout.fail 4) vs d
  no_numbers cycles quads = failed call k S 4 refl cycles quads

  -- the answer is a number
  numeral : {m c' q' : ℕ} (n : ℤ) → c ≤ c' → c' + m ≤ c + 36 → q' + m ≤ q + 36
      → From em.setting lim.most (Result em.setting lim (Answer call k S) (Gives (Plain (Number n)) f s)) t m c' q' k (Fix n ∷ S) d
  unfolding Stands
  numeral n = answered call k S (Plain (Number n)) (Fix n) refl

  -- the two numbers, or failure 4
  numbers_run : (b e : W) → NumbersAt em.setting em.layout b e → (g : ℤ → ℤ → CoreValue)
      → ((x y : ℤ) → Answers call k S 12 (Gives (g x y) f s) e (Fix y ∷ Fix x ∷ k ∷ S))
      → (x y : CoreValue) (wx wy : W) → Worth em t d wx x → Worth em t d wy y
      → Answers call k S 6 (on_numbers g x y f s) b (wy ∷ wx ∷ k ∷ S)
  numbers_run b e at g go x y wx wy hx hy c' q' p = by (numeric x) (numeric y)
    where
      by : Numeric x → Numeric y → Gets em lim (Answer call k S) (on_numbers g x y f s) t (point b (wy ∷ wx ∷ k ∷ S) d c' q')
      by (ANumber m ex) (ANumber n ey) =
          rw (ex, ey, fixed wx m (subst (λ v. Worth em t d wx v) ex hx), fixed wy n (subst (λ v. Worth em t d wy v) ey hy))
          (numbers em.layout at (fixed_type n) (fixed_type m) (λ c'' q'' p'. go m n c'' q'' (spends p p')))
      by (ANumber m ex) (NoNumber o h i) =
          rw (ex, i g m) (no_second em.layout at (typed call wy y fixnum_t false hy o)
          (no_numbers (omega (arith, p.cycles)) (omega (arith, p.quads))))
      by (NoNumber o h i) (ANumber n ey) =
          rw (h g y, fixed wy n (subst (λ v. Worth em t d wy v) ey hy))
          (no_first em.layout at (fixed_type n) (typed call wx x fixnum_t false hx o) (no_numbers (omega (arith, p.cycles)) (omega (arith, p.quads))))
      by (NoNumber o h i) (NoNumber o' h' i') =
          rw (h g y) (no_second em.layout at (typed call wy y fixnum_t false hy o') (no_numbers (omega (arith, p.cycles)) (omega (arith, p.quads))))

  -- one operation on two numbers
  pub calculates_runs : (op : Op) (word : Word) (g : ℤ → ℤ → CoreValue) → Makes op word → ((x y : ℤ) → Worth em t d (word x y) (g x y))
      → (a n w : W) → CalculatesAt em.setting em.layout op a → (v : CoreValue) → Worth em t d w v
      → Gets em lim (Answer call k S) (on_pair (on_numbers g) v f s) t (point a (n ∷ w ∷ k ∷ S) d c q)
  calculates_runs op word g makes worth a n w at v h =
      pair_runs call k S a at.0 n w at.3 (on_numbers g) (numbers_run at.0 at.1 at.4 g (λ x y c' q' p.
      silent em.setting lim.most _ op at.1 at.2 t (Fix y ∷ Fix x ∷ k ∷ S) d c' q' (plain 2 (word x y ∷ []) at.2) at.5
      (λ u sheet i. makes em.setting.own u sheet d x y (k ∷ S) at.2)
      (back em.layout at.6 (answered call k S (g x y) (word x y) (worth x y)
      (omega (arith, p.from)) (omega (arith, p.cycles)) (omega (arith, p.quads))))))
      v h

  -- the comparison of two numbers, from `S return x y` on
  ranks : (a : W) (at : CompareAt em.setting em.layout a) (x y : ℤ)
      → Answers call k S 12 (Gives (Plain (Number (comparison x y))) f s) at.1 (Fix y ∷ Fix x ∷ k ∷ S)
  unfolding Stands
  ranks a at x y c' q' p = dup2 at.11.1 (by (int_lt x y) refl (int_lt y x) refl)
    where
      by : (less : Bool) → int_lt x y ≡ less → (more : Bool) → int_lt y x ≡ more
          → Gets em lim (Answer call k S) (Gives (Plain (Number (comparison x y))) f s) t
          (point at.11.0 (Fix y ∷ Fix x ∷ Fix y ∷ Fix x ∷ k ∷ S) d (suc c') (2 + q'))
      by true e more e' =
          rw e (cmp_ (pos 3) y x at.11.2 (ap truth e) (if_true at.12 (answers2 em.layout at.13
          (numeral (negsuc 0) (omega (arith, p.from)) (omega (arith, p.cycles)) (omega (arith, p.quads))))))
      by false e true e' =
          rw (e, e') (cmp_ (pos 3) y x at.11.2 (ap truth e) (if_false at.12 (cmp_ (pos 2) y x at.14 (ap truth e') (if_true at.15 (push at.16
          (back em.layout at.18 (numeral (pos 1) (omega (arith, p.from)) (omega (arith, p.cycles)) (omega (arith, p.quads)))))))))
      by false e false e' =
          rw (e, e') (cmp_ (pos 3) y x at.11.2 (ap truth e) (if_false at.12 (cmp_ (pos 2) y x at.14 (ap truth e') (if_false at.15 (push at.17
          (back em.layout at.18 (numeral (pos 0) (omega (arith, p.from)) (omega (arith, p.cycles)) (omega (arith, p.quads)))))))))

  -- ---- the functions

  sum_runs : (z : ℤ) (g : ℤ → ℤ → ℤ) → ((x y : ℤ) → calculated z x y ≡ wrap (g x y)) → (a n w : W) → CalculatesAt em.setting em.layout (Alu z) a
      → (v : CoreValue) → Worth em t d w v → Gets em lim (Answer call k S) (arithmetic g v f s) t (point a (n ∷ w ∷ k ∷ S) d c q)
  unfolding Stands
  sum_runs z g is a n w at v h =
      calculates_runs (Alu z) (λ x y. Fix (wrap (g x y))) (λ x y. Plain (Number (wrap (g x y))))
      (λ own u sheet e x y vs k. ap (λ z. goes 2 (Fix z ∷ []) k) (is x y))
      (λ x y. refl) a n w at v h

  order_runs : (z : ℤ) (g : ℤ → ℤ → Bool) → ((x y : ℤ) → compared z (Fix x) (Fix y) ≡ truth (g x y)) → (a n w : W)
      → CalculatesAt em.setting em.layout (Cmp z) a → (v : CoreValue) → Worth em t d w v
      → Gets em lim (Answer call k S) (ordered g v f s) t (point a (n ∷ w ∷ k ∷ S) d c q)
  unfolding Stands
  order_runs z g is a n w at v h =
      calculates_runs (Cmp z) (λ x y. truth (g x y)) (λ x y. Plain (Truth (g x y))) (λ own u sheet e x y vs k. ap (λ b. goes 2 (b ∷ []) k) (is x y))
      (λ x y. refl) a n w at v h

  pub add_runs : Runs call k S Add
  unfolding built_in
  add_runs n w v h = sum_runs (pos 4) (λ a b. a +ℤ b) (λ x y. refl) _ n w (em.code.runtime.primitives Add) v h

  pub sub_runs : Runs call k S Sub
  unfolding built_in
  sub_runs n w v h = sum_runs (pos 5) (λ a b. a -ℤ b) (λ x y. refl) _ n w (em.code.runtime.primitives Sub) v h

  pub mul_runs : Runs call k S Mul
  unfolding built_in
  mul_runs n w v h = sum_runs (pos 6) (λ a b. a *ℤ b) (λ x y. refl) _ n w (em.code.runtime.primitives Mul) v h

  pub less_runs : Runs call k S Less
  unfolding built_in
  less_runs n w v h = order_runs (pos 3) (λ a b. int_lt a b) (λ x y. refl) _ n w (em.code.runtime.primitives Less) v h

  pub less_equal_runs : Runs call k S LessEqual
  unfolding built_in
  less_equal_runs n w v h = order_runs (pos 4) (λ a b. not (int_lt b a)) less_equal_words _ n w (em.code.runtime.primitives LessEqual) v h

  pub greater_runs : Runs call k S Greater
  unfolding built_in
  greater_runs n w v h = order_runs (pos 2) (λ a b. int_lt b a) (λ x y. refl) _ n w (em.code.runtime.primitives Greater) v h

  pub greater_equal_runs : Runs call k S GreaterEqual
  unfolding built_in
  greater_equal_runs n w v h = order_runs (pos 1) (λ a b. not (int_lt a b)) greater_equal_words _ n w (em.code.runtime.primitives GreaterEqual) v h

  pub compare_runs : Runs call k S Compare
  unfolding built_in
  compare_runs n w v h =
      let at = em.code.runtime.primitives Compare in
      pair_runs call k S _ at.0 n w at.9 (on_numbers (λ a b. Plain (Number (comparison a b))))
      (numbers_run at.0 at.1 at.10 (λ a b. Plain (Number (comparison a b))) (ranks (em.layout.routine Compare) at)) v h
