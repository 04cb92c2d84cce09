-- The nodes with arms and branches.
use Rattle.std.proofs.Common.{◌≡◌, refl, ℕ, suc, ◌+◌, ◌<◌, pos, List, [], ◌∷◌, arith}
use Rattle.cap_words.specs.Words.{W, nil}
use Rattle.cap_words.specs.Seen.{Seen}
use Rattle.instr_table.specs.declared.op.Op.TheVariants.{Push, Roll, Pair}
use Rattle.instr_table.specs.Types.{Grows}
use Rattle.instr_table.specs.Event.{Effects}
use Rattle.hum_core.specs.declared.tested.TestExpr.{TestExpr}
use Rattle.hum_core.specs.declared.tested.Test.{Test}
use Rattle.hum_meaning.specs.Action.{and_then}
use Rattle.hum_meaning.specs.Language.{Meaning}
use Rattle.hum_meaning.specs.Eval.{arms}
use Rattle.hum_core.specs.TestLists.{Tests}
use Rattle.hum_code.specs.Bounds.{Limits}
use Rattle.hum_code.specs.Comes.{point}
use Rattle.hum_code.specs.Layout.{shape_of}
use Rattle.hum_code.specs.Stands.{ShowsPair}
use Rattle.hum_code.specs.Code.{Codes, Line, ArmsAt}
use Rattle.hum_code.specs.Emission.{Emission}
use Rattle.hum_code.proofs.World.{same, later}
use Rattle.hum_code.proofs.Steps.{push, dup1, roll2}
use Rattle.hum_code.proofs.Makings.{pair1}
use Rattle.hum_code.proofs.Standing.{CoreValue, CoreEnv, Gathered, longer_same, stands_later, env_later, effects_later}
use Rattle.hum_code.proofs.Results.{Facts, Valued, Ready, Evaluates, Gets, widen, then_value, ready_at}
use Rattle.hum_code.proofs.Claims.{ChoicesRun}
use Rattle.hum_code.proofs.Matching.{MatchesRun}
use Rattle.hum_code.proofs.Branches.{Branches, branches_run}
use Rattle.hum_code.proofs.Cases.{arms_run}

module _ (em : Emission) (lim : Limits) (n : ℕ) (codes : Codes) (below : Meaning Tests) (matching : MatchesRun em lim n codes below.matches)
    (evaluates : Evaluates em lim n codes below.eval) where
  module _ (all : List (List Test × TestExpr)) (k x : W) (S : List W) (env : CoreEnv) (d : Effects) (c q s : ℕ) (f : Gathered) (t : Seen)
      (ready : Ready em lim 0 env x d c q (suc s) f t) (lt : s < n) where
    -- the arms, from the list of the value on
    arms_part : (v : CoreValue) (a w y : W) (d1 : Effects) (c1 q1 s1 : ℕ) (f1 : Gathered) (t1 t2 : Seen) (c2 q2 : ℕ)
        → ArmsAt em.setting em.layout codes (shape_of env) all a k
        → Grows t t1 → Grows t1 t2 → Grows em.setting.base t2 → Facts em 16 0 d (3 + c) (4 + q) s v f1 s1 t1 w d1 c1 q1 → ShowsPair t2 y w nil
        → c2 ≡ 3 + c1 → q2 ≡ 5 + q1
        → Gets em lim (Valued em 16 0 k S d c q (suc s)) (arms below all v env f1 s1) t2 (point a (y ∷ x ∷ nil ∷ S) d1 c2 q2)
    arms_part v a w y d1 c1 q1 s1 f1 t1 t2 c2 q2 at g g2 above facts is ec eq = rw (ec, eq)
        (widen em lim 16 26 16 0 k S d1 d (3 + c1) (5 + q1) s1 c q (suc s) (arms below all v env f1 s1) t2 _ above facts.longer
        (omega (arith, facts.cycles_in)) (omega (arith, facts.quads_in)) (omega (arith, facts.steps))
        (arms_run em lim n codes below matching evaluates env v y x k S all a d1 (3 + c1) (5 + q1) s1 f1 t2 at
        (omega (arith, lt, facts.cycles_in, facts.steps))
        (record {
          above = above;
          list_stands = (w, nil, is, stands_later em.layout t1 t2 _ _ g2 (longer_same _) w v facts.stands, refl);
          env_stands = env_later em.layout t t2 _ _ (later g g2) facts.longer x env ready.env_stands;
          record_stands = effects_later em.layout em.setting.roll t1 t2 f1 d1 g2 facts.record_stands;
          cycles_fit = omega (arith, facts.cycles_in, ready.cycles_fit);
          quads_fit = omega (arith, facts.quads_in, ready.quads_fit);
          least_in = omega (arith, facts.steps, ready.least_in);
        })
        (omega (arith, facts.cycles_in, ready.cycles_fit)) (omega (arith, facts.quads_in, ready.quads_fit))))

    -- the value, from its environment on
    value_part : (e : TestExpr) (a b j : W) (c1 q1 : ℕ) → codes.ExprAt (shape_of env) e a b
        → Line em.setting (Push nil ∷ Roll (pos 2) ∷ Pair (pos 1) ∷ []) b j
        → ArmsAt em.setting em.layout codes (shape_of env) all j k → c1 ≡ 3 + c → q1 ≡ 4 + q
        → Gets em lim (Valued em 16 0 k S d c q (suc s)) (and_then (below.eval e env f s) (λ v. arms below all v env)) t
        (point a (x ∷ x ∷ nil ∷ S) d c1 q1)
    value_part e a b j c1 q1 code at ats ec eq = rw (ec, eq)
        (then_value em lim (Valued em 16 0 k S d c q (suc s)) 16 0 b (x ∷ nil ∷ S) d (3 + c) (4 + q) s (below.eval e env f s) (λ v.
        arms below all v env) t _ ready.above
        (evaluates.at e a b x (x ∷ nil ∷ S) env d (3 + c) (4 + q) s f t code lt
        (ready_at em lim 0 0 env x d c q (suc s) f t d (3 + c) (4 + q) s f t ready (same t) ready.above (longer_same _) ready.record_stands
        (omega arith) (omega arith) (omega arith)))
        (λ v f1 s1 t1 w d1 c1 q1 g above facts.
        push at.1 (roll2 at.2.1 (pair1 at.2.2 (λ t2 y g2 b2 is.
        arms_part v j w y d1 c1 q1 s1 f1 t1 t2 _ _ ats g g2 b2 facts is (omega arith) (omega arith))))))

  pub choices_run : ChoicesRun em lim n codes below
  unfolding Branches
  choices_run = record {
    case_at = λ e all a k x S env d c q s f t at lt ready.
        push at.3.1 (roll2 at.3.2.1 (dup1 at.3.2.2
        (value_part all k x S env d c q s f t ready lt e at.0 at.1 at.2 _ _ at.4 at.5 at.6 (omega arith) (omega arith))));
    if_at = λ bs other a k x S env d c q s f t at lt ready.
        branches_run em lim n codes below evaluates env x k S bs other a at d c q s f t lt ready;
  }
