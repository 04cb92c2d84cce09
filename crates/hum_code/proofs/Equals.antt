-- The built-in function that compares.
use Rattle.std.proofs.Common.{refl, sym, subst, ℕ, List, ◌∷◌, arith}
use Rattle.cap_words.specs.Words.{W, truth}
use Rattle.cap_words.specs.Seen.{Seen}
use Rattle.instr_table.specs.Event.{Effects}
use Rattle.hum_meaning.specs.Value.{Truth, Plain, Equal}
use Rattle.hum_meaning.specs.Action.{Gives}
use Rattle.hum_meaning.specs.Same.{same as same_value}
use Rattle.hum_meaning.specs.BuiltIns.{equality, built_in}
use Rattle.hum_code.specs.Bounds.{Limits}
use Rattle.hum_code.specs.Comes.{Comes}
use Rattle.hum_code.specs.Stands.{Stands}
use Rattle.hum_code.specs.Emission.{Emission}
use Rattle.hum_code.proofs.Standing.{CoreValue, Gathered, longer_same}
use Rattle.hum_code.proofs.Compares.{same_code}
use Rattle.hum_code.proofs.Answers.{Answered, state_runs}
use Rattle.hum_code.proofs.Routines.{Called, Answers, Answer, Runs, pair_runs}
use Rattle.hum_code.proofs.Results.{Worth, bind_comes, valued}

module _ {em : Emission} {lim : Limits} {d : Effects} {c q s : ℕ} {f : Gathered} {t : Seen} (call : Called em lim d c q s f t)
    (k : W) (S : List W) where
  -- from `S return x y` on
  compares : (x y : CoreValue) (wx wy : W) → Worth em t d wx x → Worth em t d wy y
      → Answers call k S 6 (equality x y f s) (same_code em).state (wy ∷ wx ∷ k ∷ S)
  unfolding Stands
  compares x y wx wy hx hy c' q' p =
      bind_comes em.setting lim (Answered em 30 k S d c' q' s) (Answer call k S) (same_value x y f s)
      (λ b f left. Gives (Plain (Truth b)) f left) t _ call.above
      (state_runs em lim k S d x y wx wy f t call.above call.record_stands hx hy c' q' s
      (omega (arith, p.cycles, call.cycles_fit)) (omega (arith, p.quads, call.quads_fit)) (omega (arith, p.from, call.least_in)))
      (λ b f' left u l i j e. subst (λ l. Comes em.setting lim.most (Answer call k S (Plain (Truth b)) f' left) u l) (sym e.is)
      (valued em lim 0 36 k S d c q s (Plain (Truth b)) f' left u (truth b) d e.cycles e.quads (record {
        stands = refl;
        record_stands = e.record_stands;
        longer = longer_same _;
        cycles_in = omega (arith, p.cycles, e.cycles_in);
        quads_in = omega (arith, p.quads, e.quads_in);
        steps = omega (arith, p.from, e.steps);
      })))

  pub equal_runs : Runs call k S Equal
  unfolding built_in
  equal_runs n w v h = pair_runs call k S _ (same_code em).state n w (em.code.runtime.primitives Equal) equality compares v h
