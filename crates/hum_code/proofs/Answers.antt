-- What a comparison answers to the code that asked for it.
use Rattle.std.proofs.Common.{◌≡◌, refl, sym, subst, ℕ, ◌+◌, ◌*◌, ◌≤◌, Bool, true, false, List, ◌∷◌, arith}
use Rattle.cap_words.specs.Words.{W, nil, truth}
use Rattle.cap_words.specs.Seen.{Seen}
use Rattle.instr_table.specs.Types.{Grows}
use Rattle.instr_table.specs.Event.{Effects}
use Rattle.hum_meaning.specs.Same.{same as same_value}
use Rattle.hum_code.specs.Bounds.{Limits}
use Rattle.hum_code.specs.Comes.{Point, point, Comes, here}
use Rattle.hum_code.specs.Emission.{Emission}
use Rattle.hum_code.proofs.Steps.{push, drop1, dup1, roll2, sink3, jump, if_falsy}
use Rattle.hum_code.proofs.Standing.{CoreValue, Gathered, effects_later}
use Rattle.hum_code.proofs.Results.{Worth, Recorded, Gets}
use Rattle.hum_code.proofs.Compares.{same_code, ends_at, Ended, Compared, compare_run, follow_comes}

module _ (em : Emission) where
  -- The truth value is there, for 64 cycles and 64 quads a step and `over` besides. Nothing is added to the record.
  pub record Answered (over : ℕ) (k : W) (S : List W) (d : Effects) (c q s : ℕ) (b : Bool) (f : Gathered) (left : ℕ) (t : Seen)
      (l : Point) : Type 0 where
    pub cycles : ℕ
    pub quads : ℕ
    pub is : l ≡ point k (truth b ∷ S) d cycles quads
    pub record_stands : Recorded em t f d
    pub cycles_in : cycles + 64 * left ≤ c + over + 64 * s
    pub quads_in : quads + 64 * left ≤ q + over + 64 * s
    pub steps : c + s ≤ cycles + left

  module _ (lim : Limits) (k : W) (S : List W) (d : Effects) where
    answered : (over c q s c' q' : ℕ) (b : Bool) (f : Gathered) (left : ℕ) (t : Seen) → Recorded em t f d → c' + 64 * left ≤ c + over + 64 * s
        → q' + 64 * left ≤ q + over + 64 * s → c + s ≤ c' + left
        → Comes em.setting lim.most (Answered over k S d c q s b f left) t (point k (truth b ∷ S) d c' q')
    answered over c q s c' q' b f left t h p i n = here (λ u g y. record {
      cycles = c';
      quads = q';
      is = refl;
      record_stands = effects_later em.layout em.setting.roll t u f d g h;
      cycles_in = p;
      quads_in = i;
      steps = n;
    })

    -- from the end of a comparison of which nothing is left
    answers : (over c q s c' q' : ℕ) (b : Bool) (word : W) (f : Gathered) (left : ℕ) (t : Seen) → Ended b nil word → Recorded em t f d
        → c' + 6 + 64 * left ≤ c + over + 64 * s → q' + 6 + 64 * left ≤ q + over + 64 * s → c + s ≤ c' + left
        → Comes em.setting lim.most (Answered over k S d c q s b f left) t (point (ends_at em b) (word ∷ k ∷ S) d c' q')
    answers over c q s c' q' true word f left t e h p i n =
        rw e (dup1 (same_code em).looks (if_falsy (same_code em).more_chooses refl
        (drop1 (same_code em).answers_yes.1 (push (same_code em).answers_yes.2
        (roll2 (same_code em).back.1.1 (jump (same_code em).back.1.2
        (answered over c q s _ _ true f left t h (omega (arith, p)) (omega (arith, i)) (omega (arith, n)))))))))
    answers over c q s c' q' false word f left t e h p i n =
        drop1 (same_code em).answers_no.1 (push (same_code em).answers_no.2 (roll2 (same_code em).back.1.1 (jump (same_code em).back.1.2
        (answered over c q s _ _ false f left t h (omega (arith, p)) (omega (arith, i)) (omega (arith, n))))))

    -- v and z with the words wv and ww
    module _ (v z : CoreValue) (wv ww : W) (f : Gathered) (t : Seen) (above : Grows em.setting.base t) (hf : Recorded em t f d)
        (hv : Worth em t d wv v)
        (hz : Worth em t d ww z) where
      -- from `S return a b`
      pub state_runs : (c q s : ℕ) → c + 28 + 64 * s ≤ lim.most → q + 30 + 64 * s ≤ lim.most → lim.least ≤ c + s
          → Gets em lim (Answered 30 k S d c q s) (same_value v z f s) t (point (same_code em).state (ww ∷ wv ∷ k ∷ S) d c q)
      state_runs c q s cf qf n = push (same_code em).begins.1 (sink3 (same_code em).begins.2
          (follow_comes em lim (Compared em nil (k ∷ S) d _ _ s) (Answered 30 k S d c q s) (same_value v z f s) t _ above
          (compare_run em lim (k ∷ S) d v z wv ww nil _ _ s f t above hf hv hz (omega (arith, cf)) (omega (arith, qf)) (omega (arith, n)))
          (λ b f' left u l i j e. subst (λ l. Comes em.setting lim.most (Answered 30 k S d c q s b f' left) u l) (sym e.is)
          (answers 30 c q s e.cycles e.quads b e.word f' left u e.ended e.record_stands (omega (arith, e.cycles_in)) (omega (arith, e.quads_in))
          (omega (arith, e.steps))))))

      -- from `S a b return`
      pub same_runs : (c q s : ℕ) → c + 33 + 64 * s ≤ lim.most → q + 33 + 64 * s ≤ lim.most → lim.least ≤ c + s
          → Gets em lim (Answered 33 k S d c q s) (same_value v z f s) t (point em.layout.same (k ∷ ww ∷ wv ∷ S) d c q)
      same_runs c q s cf qf n = sink3 (same_code em).enters
          (follow_comes em lim (Answered 30 k S d _ _ s) (Answered 33 k S d c q s) (same_value v z f s) t _ above
          (state_runs _ _ s (omega (arith, cf)) (omega (arith, qf)) (omega (arith, n)))
          (λ b f' left u l i j e. subst (λ l. Comes em.setting lim.most (Answered 33 k S d c q s b f' left) u l) (sym e.is)
          (answered 33 c q s e.cycles e.quads b f' left u e.record_stands (omega (arith, e.cycles_in)) (omega (arith, e.quads_in))
          (omega (arith, e.steps)))))
