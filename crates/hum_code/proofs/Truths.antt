-- The built-in functions on truth values.
use Rattle.std.proofs.Common.{◌≡◌, ◌+◌, ◌≤◌, refl, subst, ℕ, not, ◌&&◌, ◌||◌, Bool, true, false, List, ◌∷◌, arith}
use Rattle.cap_words.specs.Words.{W, truth}
use Rattle.cap_words.specs.Seen.{Seen}
use Rattle.instr_table.specs.Event.{Effects}
use Rattle.hum_meaning.specs.Value.{Undefined, Nil, Truth, Number, Symbol, Actor, Plain, Pair, Function, Block, Primitive, And, Or, Not}
use Rattle.hum_meaning.specs.Action.{Gives, fail, not_a_truth_value}
use Rattle.hum_meaning.specs.BuiltIns.{on_truths, negation, built_in}
use Rattle.hum_code.specs.Bounds.{Limits}
use Rattle.hum_code.specs.Comes.{point}
use Rattle.hum_code.specs.Runtime.{TruthAt, AndAt, OrAt, NotAt}
use Rattle.hum_code.specs.Stands.{Stands}
use Rattle.hum_code.specs.Emission.{Emission}
use Rattle.hum_code.proofs.Steps.{drop1, eq_, if_true, if_false}
use Rattle.hum_code.proofs.Standing.{CoreValue, Gathered}
use Rattle.hum_code.proofs.TruthWords.{NoTruthWord, IsTruth, no_truth_word}
use Rattle.hum_code.proofs.Operands.{From, spends, first_truth, second_truth, no_first_truth, no_second_truth, back, answers1}
use Rattle.hum_code.proofs.Routines.{Called, Answers, Answer, Runs, answered, failed, pair_runs}
use Rattle.hum_code.proofs.Results.{Result, Worth, Gets}

-- a truth value, or what no operation on truth values takes
data Truthful (v : CoreValue) (w : W) : Type 0 where
  ATruth : (b : Bool) → v ≡ Plain (Truth b) → Truthful v w
  NoTruth : NoTruthWord w
      → ((g : Bool → Bool → Bool) (y : CoreValue) → on_truths g v y ≡ fail not_a_truth_value)
      → ((g : Bool → Bool → Bool) (b : Bool) → on_truths g (Plain (Truth b)) v ≡ fail not_a_truth_value)
      → negation v ≡ fail not_a_truth_value → Truthful v w

module _ {em : Emission} {lim : Limits} {d : Effects} {c q s : ℕ} {f : Gathered} {t : Seen} (call : Called em lim d c q s f t) where
  no_truth : (v : CoreValue) (w : W) → Worth em t d w v → (IsTruth v → ⊥) → NoTruthWord w
  no_truth = no_truth_word em.setting.base em.layout em.code.cells t _ call.above

  truthful : (v : CoreValue) (w : W) → Worth em t d w v → Truthful v w
  unfolding Stands
  truthful (Plain (Truth b)) w h = ATruth b refl
  truthful (Plain Undefined) w h = NoTruth (no_truth (Plain Undefined) w h (λ e. e)) (λ g y. refl) (λ g b. refl) refl
  truthful (Plain Nil) w h = NoTruth (no_truth (Plain Nil) w h (λ e. e)) (λ g y. refl) (λ g b. refl) refl
  truthful (Plain (Number n)) w h = NoTruth (no_truth (Plain (Number n)) w h (λ e. e)) (λ g y. refl) (λ g b. refl) refl
  truthful (Plain (Symbol name)) w h = NoTruth (no_truth (Plain (Symbol name)) w h (λ e. e)) (λ g y. refl) (λ g b. refl) refl
  truthful (Plain (Actor j)) w h = NoTruth (no_truth (Plain (Actor j)) w h (λ e. e)) (λ g y. refl) (λ g b. refl) refl
  truthful (Pair x y) w h = NoTruth (no_truth (Pair x y) w h (λ e. e)) (λ g y. refl) (λ g b. refl) refl
  truthful (Function u env) w h = NoTruth (no_truth (Function u env) w h (λ e. e)) (λ g y. refl) (λ g b. refl) refl
  truthful (Block u env) w h = NoTruth (no_truth (Block u env) w h (λ e. e)) (λ g y. refl) (λ g b. refl) refl
  truthful (Primitive b) w h = NoTruth (no_truth (Primitive b) w h (λ e. e)) (λ g y. refl) (λ g b. refl) refl

  truth_word : (w : W) (b : Bool) → Worth em t d w (Plain (Truth b)) → w ≡ truth b
  unfolding Stands
  truth_word w b h = h

  truth_stands : (b : Bool) → Worth em t d (truth b) (Plain (Truth b))
  unfolding Stands
  truth_stands b = refl

  module _ (k : W) (S : List W) where
    -- the two truth values, or failure 5
    truths_run : (b e g : W) → TruthAt em.setting em.layout 2 b e → TruthAt em.setting em.layout 1 e g → (op : Bool → Bool → Bool)
        → ((x y : Bool) → Answers call k S 18 (Gives (Plain (Truth (op x y))) f s) g (truth y ∷ truth x ∷ k ∷ S))
        → (x y : CoreValue) (wx wy : W) → Worth em t d wx x → Worth em t d wy y
        → Answers call k S 6 (on_truths op x y f s) b (wy ∷ wx ∷ k ∷ S)
    truths_run b e g at at' op go x y wx wy hx hy c' q' p = by (truthful x wx hx) (truthful y wy hy)
      where
        by : Truthful x wx → Truthful y wy → Gets em lim (Answer call k S) (on_truths op x y f s) t (point b (wy ∷ wx ∷ k ∷ S) d c' q')
        by (ATruth m ex) (ATruth n ey) =
            rw (ex, ey, truth_word wx m (subst (λ v. Worth em t d wx v) ex hx), truth_word wy n (subst (λ v. Worth em t d wy v) ey hy))
            (second_truth em.layout m at (λ c'' q'' p'. first_truth em.layout n at' (λ c3 q3 p''. go m n c3 q3 (spends p (spends p' p'')))))
        by (ATruth m ex) (NoTruth o h i j) =
            rw (ex, i op m, truth_word wx m (subst (λ v. Worth em t d wx v) ex hx))
            (second_truth em.layout m at (λ c'' q'' p'. no_first_truth em.layout at' o
            (failed call k S 5 refl (omega (arith, p.cycles, p'.cycles)) (omega (arith, p.quads, p'.quads)))))
        by (NoTruth o h i j) z =
            rw (h op y) (no_second_truth em.layout at o (failed call k S 5 refl (omega (arith, p.cycles)) (omega (arith, p.quads))))

    -- the truth value is there
    told : {m c' q' : ℕ} (b : Bool) → c ≤ c' → c' + m ≤ c + 36 → q' + m ≤ q + 36
        → From em.setting lim.most (Result em.setting lim (Answer call k S) (Gives (Plain (Truth b)) f s)) t m c' q' k (truth b ∷ S) d
    told b = answered call k S (Plain (Truth b)) (truth b) (truth_stands b)

    -- from `S return x y` on, where both are truth values
    both : (at : AndAt em.setting em.layout (em.layout.routine And)) (x y : Bool)
        → Answers call k S 18 (Gives (Plain (Truth (x && y))) f s) at.2 (truth y ∷ truth x ∷ k ∷ S)
    both at true true c' q' p =
        if_true at.8 (back em.layout at.9 (told true (omega (arith, p.from)) (omega (arith, p.cycles)) (omega (arith, p.quads))))
    both at false true c' q' p =
        if_true at.8 (back em.layout at.9 (told false (omega (arith, p.from)) (omega (arith, p.cycles)) (omega (arith, p.quads))))
    both at true false c' q' p =
        if_false at.8 (answers1 em.layout at.10 (told false (omega (arith, p.from)) (omega (arith, p.cycles)) (omega (arith, p.quads))))
    both at false false c' q' p =
        if_false at.8 (answers1 em.layout at.10 (told false (omega (arith, p.from)) (omega (arith, p.cycles)) (omega (arith, p.quads))))

    either : (at : OrAt em.setting em.layout (em.layout.routine Or)) (x y : Bool)
        → Answers call k S 18 (Gives (Plain (Truth (x || y))) f s) at.2 (truth y ∷ truth x ∷ k ∷ S)
    either at true true c' q' p =
        if_true at.8 (answers1 em.layout at.9 (told true (omega (arith, p.from)) (omega (arith, p.cycles)) (omega (arith, p.quads))))
    either at false true c' q' p =
        if_true at.8 (answers1 em.layout at.9 (told true (omega (arith, p.from)) (omega (arith, p.cycles)) (omega (arith, p.quads))))
    either at true false c' q' p =
        if_false at.8 (back em.layout at.10 (told true (omega (arith, p.from)) (omega (arith, p.cycles)) (omega (arith, p.quads))))
    either at false false c' q' p =
        if_false at.8 (back em.layout at.10 (told false (omega (arith, p.from)) (omega (arith, p.cycles)) (omega (arith, p.quads))))

    -- ---- the functions

    pub and_runs : Runs call k S And
    unfolding built_in
    and_runs n w v h =
        let at = em.code.runtime.primitives And in
        pair_runs call k S _ at.0 n w at.5 (on_truths (λ a b. a && b)) (truths_run at.0 at.1 at.2 at.6 at.7 (λ a b. a && b) (both at)) v h

    pub or_runs : Runs call k S Or
    unfolding built_in
    or_runs n w v h =
        let at = em.code.runtime.primitives Or in
        pair_runs call k S _ at.0 n w at.5 (on_truths (λ a b. a || b)) (truths_run at.0 at.1 at.2 at.6 at.7 (λ a b. a || b) (either at)) v h

    inverts : (at : NotAt em.setting em.layout (em.layout.routine Not)) (b : Bool)
        → Answers call k S 8 (Gives (Plain (Truth (not b))) f s) at.1 (truth b ∷ k ∷ S)
    inverts at true c' q' p =
        eq_ false at.5 refl (back em.layout at.6 (told false (omega (arith, p.from)) (omega (arith, p.cycles)) (omega (arith, p.quads))))
    inverts at false c' q' p =
        eq_ true at.5 refl (back em.layout at.6 (told true (omega (arith, p.from)) (omega (arith, p.cycles)) (omega (arith, p.quads))))

    pub not_runs : Runs call k S Not
    unfolding built_in
    not_runs n w v h = by (truthful v w h)
      where
        at : NotAt em.setting em.layout (em.layout.routine Not)
        at = em.code.runtime.primitives Not

        by : Truthful v w → Gets em lim (Answer call k S) (negation v f s) t (point (em.layout.routine Not) (n ∷ w ∷ k ∷ S) d c q)
        by (ATruth b e) =
            rw (e, truth_word w b (subst (λ v. Worth em t d w v) e h))
            (drop1 at.3 (first_truth em.layout b at.4 (λ c'' q'' p'. inverts at b c'' q'' (record {
              from = omega (arith, p'.from);
              cycles = omega (arith, p'.cycles);
              quads = omega (arith, p'.quads);
            }))))
        by (NoTruth o g i j) =
            rw j (drop1 at.3 (no_first_truth em.layout at.4 o (failed call k S 5 refl (omega arith) (omega arith))))
