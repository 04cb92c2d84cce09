-- The routine that compares two values.
use Rattle.std.proofs.Common.{◌≡◌, refl, ap, sym, subst, ◌∙◌, ℕ, zero, suc, ◌+◌, ◌*◌, ◌≤◌, ◌⊎◌, inl, inr, ⊎_elim, true≢false, pos, negsuc, Bool, true, false, List, ◌∷◌, Some, arith}
use Rattle.std.specs.Prelude.{if◌then◌else◌}
use Rattle.cap_words.specs.Words.{W, pair_t, func_t, block_t, same_word}
use Rattle.cap_words.specs.Seen.{Seen, cell_seen}
use Rattle.instr_table.specs.Types.{Grows, type_of, is_type}
use Rattle.instr_table.specs.Lists.{head_in, tail_in}
use Rattle.instr_table.specs.Arithmetic.{falsy}
use Rattle.instr_table.specs.Event.{Effects}
use Rattle.hum_meaning.specs.Value.{Atom, Plain, Pair, Function, Block, Primitive}
use Rattle.hum_meaning.specs.Action.{Gives, Fails, Undecided, pure}
use Rattle.hum_meaning.specs.Same.{same_atom, same as same_value}
use Rattle.hum_code.specs.Bounds.{Limits}
use Rattle.hum_code.specs.Comes.{Point, point, roll_with, Comes, here, never}
use Rattle.hum_code.specs.Stands.{Stands, ShowsPair}
use Rattle.hum_code.specs.Runtime.{SameAt}
use Rattle.hum_code.specs.Emission.{Emission}
use Rattle.hum_code.proofs.World.{later, read_in}
use Rattle.hum_code.proofs.Composing.{and_on}
use Rattle.hum_code.proofs.Steps.{dup1, drop2, pick2, roll2, nth_, typeq, if_true, if_false, if_truthy, cmp_eq}
use Rattle.hum_code.proofs.Makings.{part2, pair2}
use Rattle.hum_code.proofs.Standing.{CoreValue, Gathered, longer_same, effects_later, stands_later}
use Rattle.hum_code.proofs.TypesOf.{type_for, type_later}
use Rattle.hum_code.proofs.Atoms.{atom_no_pair, atom_no_function, atom_no_block, parts_differ, atoms_alike}
use Rattle.hum_code.proofs.Results.{Ends, Goal, bind_comes, runs_on, Worth, Recorded, Gets}

pub same_or : (x y : Bool) → (x ≡ y) ⊎ (x ≡ y → ⊥)
same_or true true = inl refl
same_or false false = inl refl
same_or true false = inr (λ e. absurd (true≢false e))
same_or false true = inr (λ e. absurd (true≢false (sym e)))

-- the stack at the end of a comparison: the list of what is still to be compared, or any one word
abbrev pub Ended : Bool → W → W → Type 0
Ended true w x = x ≡ w
Ended false w x = Unit {0}

abbrev IsPair : CoreValue → Type 0
IsPair (Pair a b) = Unit {0}
IsPair _ = ⊥

-- what follows from a result
pub follow_comes : (em : Emission) (lim : Limits) {A : Type 0} (P Q : Goal A) (o : Ends A) (s : Seen) (l : Point) → Grows em.setting.base s
    → Gets em lim P o s l
    → ((a : A) (f : Gathered) (left : ℕ) (t : Seen) (n : Point) → Grows s t → Grows em.setting.base t → P a f left t n
    → Comes em.setting lim.most (Q a f left) t n)
    → Gets em lim Q o s l
follow_comes em lim P Q (Gives a f left) s l b h k = and_on em.setting lim.most (P a f left) (Q a f left) s l b h (k a f left)
follow_comes em lim P Q (Fails code sends) s l b h k = h
follow_comes em lim P Q Undecided s l b h k = h

-- the routine
abbrev pub same_code : (em : Emission) → SameAt em.setting em.layout
same_code em = em.code.runtime.compares

module _ (em : Emission) where
  abbrev pub ends_at : Bool → W
  ends_at true = (same_code em).more
  ends_at false = (same_code em).no

  -- Two values were compared, where w is the list of what is still to be compared and S what is below it. A comparison adds nothing to the
  -- record.
  pub record Compared (w : W) (S : List W) (d : Effects) (c q s : ℕ) (b : Bool) (f : Gathered) (left : ℕ) (t : Seen) (l : Point) : Type 0 where
    pub word : W
    pub cycles : ℕ
    pub quads : ℕ
    pub is : l ≡ point (ends_at b) (word ∷ S) d cycles quads
    pub ended : Ended b w word
    pub record_stands : Recorded em t f d
    pub cycles_in : cycles + 64 * left ≤ c + 20 + 64 * s
    pub quads_in : quads + 64 * left ≤ q + 20 + 64 * s
    pub steps : c + s ≤ cycles + left

  module _ (lim : Limits) (S : List W) (d : Effects) where
    widen_compared : (w : W) (c q s c' q' s' : ℕ) (o : Ends Bool) (t : Seen) (l : Point) → Grows em.setting.base t
        → c + 64 * s ≤ c' + 64 * s' → q + 64 * s ≤ q' + 64 * s' → c' + s' ≤ c + s
        → Gets em lim (Compared w S d c q s) o t l → Gets em lim (Compared w S d c' q' s') o t l
    widen_compared w c q s c' q' s' (Gives b f left) t l g p i n h =
        and_on em.setting lim.most _ _ t l g h (λ u x j y a. here (λ z k y'. record {
          word = a.word;
          cycles = a.cycles;
          quads = a.quads;
          is = a.is;
          ended = a.ended;
          record_stands = effects_later em.layout em.setting.roll u z f d k a.record_stands;
          cycles_in = omega (arith, p, a.cycles_in);
          quads_in = omega (arith, i, a.quads_in);
          steps = omega (arith, n, a.steps);
        }))
    widen_compared w c q s c' q' s' (Fails code sends) t l g p i n h = h
    widen_compared w c q s c' q' s' Undecided t l g p i n h = h

    compared : (w x : W) (c q s c' q' : ℕ) (b : Bool) (f : Gathered) (left : ℕ) (t : Seen) → Ended b w x → Recorded em t f d
        → c' + 64 * left ≤ c + 20 + 64 * s → q' + 64 * left ≤ q + 20 + 64 * s → c + s ≤ c' + left
        → Comes em.setting lim.most (Compared w S d c q s b f left) t (point (ends_at b) (x ∷ S) d c' q')
    compared w x c q s c' q' b f left t e h p i n = here (λ u g y. record {
      word = x;
      cycles = c';
      quads = q';
      is = refl;
      ended = e;
      record_stands = effects_later em.layout em.setting.roll t u f d g h;
      cycles_in = p;
      quads_in = i;
      steps = n;
    })

    -- the comparison of two values begins; wv stands for the first, and ww for the second
    module _ (wv ww w : W) (c q s : ℕ) (f : Gathered) (t : Seen) (b : Grows em.setting.base t) (hf : Recorded em t f d) (cf : c ≤ lim.most)
        (qf : q ≤ lim.most) where
      -- which comes to that answer
      abbrev Answers : Bool → Type 0
      Answers x = Comes em.setting lim.most (Compared w S d c q s x f s) t (point (same_code em).loop (ww ∷ wv ∷ w ∷ S) d c q)

      module _ (v z : CoreValue) (hv : Worth em t d wv v) (hz : Worth em t d ww z) where
        type_v : (x : W) (u : Seen) → Grows t u → is_type (type_of u wv) x ≡ is_type (type_for v) x
        type_v x u i = type_later em.setting.base em.layout em.code.cells t (roll_with em.setting.roll d) b wv v hv x u i

        type_z : (x : W) (u : Seen) → Grows t u → is_type (type_of u ww) x ≡ is_type (type_for z) x
        type_z x u i = type_later em.setting.base em.layout em.code.cells t (roll_with em.setting.roll d) b ww z hz x u i

        -- the second is a pair and the first is none
        one_pair : is_type (type_for z) pair_t ≡ true → is_type (type_for v) pair_t ≡ false → Answers false
        one_pair ez ev =
            dup1 (same_code em).top.1 (typeq true (same_code em).top.2 (λ u i. type_z pair_t u i ∙ ez) (if_true (same_code em).top_chooses
            (pick2 (same_code em).other.1 (typeq false (same_code em).other.2 (λ u i. type_v pair_t u i ∙ ev) (if_false (same_code em).other_chooses
            (drop2 (same_code em).differs (compared w w c q s _ _ false f s t tt hf (omega arith) (omega arith) (omega arith))))))))

        -- the second is a function
        function : is_type (type_for z) pair_t ≡ false → is_type (type_for z) func_t ≡ true → Answers false
        function ez ef =
            dup1 (same_code em).top.1 (typeq false (same_code em).top.2 (λ u i. type_z pair_t u i ∙ ez) (if_false (same_code em).top_chooses
            (dup1 (same_code em).function.1 (typeq true (same_code em).function.2 (λ u i. type_z func_t u i ∙ ef)
            (if_true (same_code em).function_chooses
            (drop2 (same_code em).differs (compared w w c q s _ _ false f s t tt hf (omega arith) (omega arith) (omega arith))))))))

        -- the second is a block
        block : is_type (type_for z) pair_t ≡ false → is_type (type_for z) func_t ≡ false → is_type (type_for z) block_t ≡ true → Answers false
        block ez ef eb =
            dup1 (same_code em).top.1 (typeq false (same_code em).top.2 (λ u i. type_z pair_t u i ∙ ez) (if_false (same_code em).top_chooses
            (dup1 (same_code em).function.1 (typeq false (same_code em).function.2 (λ u i. type_z func_t u i ∙ ef)
            (if_false (same_code em).function_chooses
            (dup1 (same_code em).block.1 (typeq true (same_code em).block.2 (λ u i. type_z block_t u i ∙ eb) (if_true (same_code em).block_chooses
            (drop2 (same_code em).differs (compared w w c q s _ _ false f s t tt hf (omega arith) (omega arith) (omega arith)))))))))))

      -- the second is an atom
      module _ (v : CoreValue) (y : Atom) (hv : Worth em t d wv v) (hz : Worth em t d ww (Plain y)) where
        words_run : (x : Bool) → same_word wv ww ≡ x → Answers x
        words_run true e =
            dup1 (same_code em).top.1 (typeq false (same_code em).top.2 (λ u i. type_z v (Plain y) hv hz pair_t u i ∙ atom_no_pair y)
            (if_false (same_code em).top_chooses
            (dup1 (same_code em).function.1 (typeq false (same_code em).function.2 (λ u i. type_z v (Plain y) hv hz func_t u i ∙ atom_no_function y)
            (if_false (same_code em).function_chooses
            (dup1 (same_code em).block.1 (typeq false (same_code em).block.2 (λ u i. type_z v (Plain y) hv hz block_t u i ∙ atom_no_block y)
            (if_false (same_code em).block_chooses (cmp_eq true (same_code em).compares e (if_true (same_code em).same_chooses
            (compared w w c q s _ _ true f s t refl hf (omega arith) (omega arith) (omega arith))))))))))))
        words_run false e =
            dup1 (same_code em).top.1 (typeq false (same_code em).top.2 (λ u i. type_z v (Plain y) hv hz pair_t u i ∙ atom_no_pair y)
            (if_false (same_code em).top_chooses
            (dup1 (same_code em).function.1 (typeq false (same_code em).function.2 (λ u i. type_z v (Plain y) hv hz func_t u i ∙ atom_no_function y)
            (if_false (same_code em).function_chooses
            (dup1 (same_code em).block.1 (typeq false (same_code em).block.2 (λ u i. type_z v (Plain y) hv hz block_t u i ∙ atom_no_block y)
            (if_false (same_code em).block_chooses (cmp_eq false (same_code em).compares e (if_false (same_code em).same_chooses
            (compared w w c q s _ _ false f s t tt hf (omega arith) (omega arith) (omega arith))))))))))))

        -- and the first has parts
        parts_run : (u : W) → type_for v ≡ Some u → is_type (type_for (Plain y)) u ≡ false → Answers false
        parts_run u e o = words_run false
            (parts_differ em.setting.base em.layout em.code.cells t (roll_with em.setting.roll d) b v y wv ww u e o hv hz)

      -- two atoms, where no actor is named twice
      atoms_run : (x y : Atom) → Worth em t d wv (Plain x) → Worth em t d ww (Plain y) → Answers (same_atom x y)
      unfolding Stands
      atoms_run x y hv hz = ⊎_elim
          (λ e. words_run (Plain x) y hv hz (same_atom x y) e)
          (λ n. never (λ fine. n (atoms_alike em.setting.base em.layout em.code.cells t (roll_with em.setting.roll d) b fine x y wv ww hv hz)) cf qf)
          (same_or (same_word wv ww) (same_atom x y))

      -- all but two pairs
      others : (v z : CoreValue) → Worth em t d wv v → Worth em t d ww z → (IsPair v → IsPair z → ⊥)
          → Gets em lim (Compared w S d c q s) (same_value v z f s) t (point (same_code em).loop (ww ∷ wv ∷ w ∷ S) d c q)
      unfolding same_value Stands
      others (Plain x) (Plain y) hv hz n = atoms_run x y hv hz
      others (Plain x) (Pair y y') hv hz n = one_pair (Plain x) (Pair y y') hv hz refl (atom_no_pair x)
      others (Plain x) (Function y y') hv hz n = function (Plain x) (Function y y') hv hz refl refl
      others (Plain x) (Block y y') hv hz n = block (Plain x) (Block y y') hv hz refl refl refl
      others (Plain x) (Primitive y) hv hz n = function (Plain x) (Primitive y) hv hz refl refl
      others (Pair x x') (Plain y) hv hz n = parts_run (Pair x x') y hv hz pair_t refl (atom_no_pair y)
      others (Pair x x') (Pair y y') hv hz n = absurd (n tt tt)
      others (Pair x x') (Function y y') hv hz n = function (Pair x x') (Function y y') hv hz refl refl
      others (Pair x x') (Block y y') hv hz n = block (Pair x x') (Block y y') hv hz refl refl refl
      others (Pair x x') (Primitive y) hv hz n = function (Pair x x') (Primitive y) hv hz refl refl
      others (Function x x') (Plain y) hv hz n = parts_run (Function x x') y hv hz func_t refl (atom_no_function y)
      others (Function x x') (Pair y y') hv hz n = one_pair (Function x x') (Pair y y') hv hz refl refl
      others (Function x x') (Function y y') hv hz n = function (Function x x') (Function y y') hv hz refl refl
      others (Function x x') (Block y y') hv hz n = block (Function x x') (Block y y') hv hz refl refl refl
      others (Function x x') (Primitive y) hv hz n = function (Function x x') (Primitive y) hv hz refl refl
      others (Block x x') (Plain y) hv hz n = parts_run (Block x x') y hv hz block_t refl (atom_no_block y)
      others (Block x x') (Pair y y') hv hz n = one_pair (Block x x') (Pair y y') hv hz refl refl
      others (Block x x') (Function y y') hv hz n = function (Block x x') (Function y y') hv hz refl refl
      others (Block x x') (Block y y') hv hz n = block (Block x x') (Block y y') hv hz refl refl refl
      others (Block x x') (Primitive y) hv hz n = function (Block x x') (Primitive y) hv hz refl refl
      others (Primitive x) (Plain y) hv hz n = parts_run (Primitive x) y hv hz func_t refl (atom_no_function y)
      others (Primitive x) (Pair y y') hv hz n = one_pair (Primitive x) (Pair y y') hv hz refl refl
      others (Primitive x) (Function y y') hv hz n = function (Primitive x) (Function y y') hv hz refl refl
      others (Primitive x) (Block y y') hv hz n = block (Primitive x) (Block y y') hv hz refl refl refl
      others (Primitive x) (Primitive y) hv hz n = function (Primitive x) (Primitive y) hv hz refl refl

    -- after the heads of two pairs: the tails, or the end
    module _ (wv ww w p p' xa ta xz tz : W) (c q s : ℕ) (f : Gathered) (t : Seen) (b : Grows em.setting.base t) (is : ShowsPair t p ww p')
        (is' : ShowsPair t p' wv w) (truthy : falsy p ≡ false) (pv : ShowsPair t wv xa ta) (pz : ShowsPair t ww xz tz)
        (next : Gathered → ℕ → Ends Bool)
        (tails_run : (c' q' s' : ℕ) (f' : Gathered) (u : Seen) → Grows t u → Grows em.setting.base u → Recorded em u f' d
        → c' + 64 * s' ≤ c + 64 * suc s → q' + 64 * s' ≤ q + 64 * suc s → c + suc s ≤ c' + s'
        → Gets em lim (Compared w S d c' q' s') (next f' s') u (point (same_code em).loop (tz ∷ ta ∷ w ∷ S) d c' q')) where
      after_heads : (heads : Bool) (word : W) (c1 q1 s1 : ℕ) (f1 : Gathered) (u : Seen) → Grows t u → Grows em.setting.base u → Ended heads p word
          → Recorded em u f1 d → c1 + 64 * s1 ≤ c + 33 + 64 * s → q1 + 64 * s1 ≤ q + 33 + 64 * s → c + suc s ≤ c1 + s1
          → Gets em lim (Compared w S d c q (suc s)) ((if heads then next else pure false) f1 s1) u (point (ends_at heads) (word ∷ S) d c1 q1)
      after_heads true word c1 q1 s1 f1 u g bu e hf ci qi n =
          rw e (dup1 (same_code em).looks (if_truthy (same_code em).more_chooses truthy (part2 (same_code em).takes.1 (g.keeps p _ is)
          (g.keeps p' _ is')
          (nth_ (negsuc 0) (same_code em).takes.2.1 (λ x i. ap tail_in (read_in ww (later g i) pz)) (roll2 (same_code em).takes.2.2.1
          (nth_ (negsuc 0) (same_code em).takes.2.2.2.1 (λ x i. ap tail_in (read_in wv (later g i) pv)) (roll2 (same_code em).takes.2.2.2.2
          (widen_compared w _ _ s1 c q (suc s) (next f1 s1) u _ bu (omega (arith, ci)) (omega (arith, qi)) (omega (arith, n))
          (tails_run _ _ s1 f1 u g bu hf (omega (arith, ci)) (omega (arith, qi)) (omega (arith, n)))))))))))
      after_heads false word c1 q1 s1 f1 u g bu e hf ci qi n =
          compared w word c q (suc s) c1 q1 false f1 s1 u tt hf (omega (arith, ci)) (omega (arith, qi)) n

    pub compare_run : (v z : CoreValue) (wv ww w : W) (c q s : ℕ) (f : Gathered) (t : Seen) → Grows em.setting.base t → Recorded em t f d
        → Worth em t d wv v → Worth em t d ww z → c + 20 + 64 * s ≤ lim.most → q + 20 + 64 * s ≤ lim.most → lim.least ≤ c + s
        → Gets em lim (Compared w S d c q s) (same_value v z f s) t (point (same_code em).loop (ww ∷ wv ∷ w ∷ S) d c q)
    unfolding same_value Stands
    compare_run (Pair a a') (Pair y y') wv ww w c q zero f t b hf hv hz cf qf n = runs_on em.setting lim t _ _ d c q (omega (arith, n))
    compare_run (Pair a a') (Pair y y') wv ww w c q (suc s) f t b hf hv hz cf qf n =
        dup1 (same_code em).top.1 (typeq true (same_code em).top.2 (λ u i. type_z wv ww w c q (suc s) f t b hf (omega (arith, cf))
        (omega (arith, qf)) (Pair a a') (Pair y y') hv hz pair_t u i) (if_true (same_code em).top_chooses
        (pick2 (same_code em).other.1 (typeq true (same_code em).other.2 (λ u i. type_v wv ww w c q (suc s) f t b hf (omega (arith, cf))
        (omega (arith, qf)) (Pair a a') (Pair y y') hv hz pair_t u i) (if_true (same_code em).other_chooses
        (pair2 (same_code em).heads.1 (λ t1 p p' g1 b1 is is' truthy. dup1 (same_code em).heads.2.1
        (nth_ (pos 2) (same_code em).heads.2.2.1 (λ u i. ap (λ o. head_in (cell_seen u (tail_in o))) (read_in p i is) ∙ ap head_in (read_in p' i is'))
        (nth_ (pos 1) (same_code em).heads.2.2.2.1 (λ u i. ap head_in (read_in wv (later g1 i) hv.2)) (pick2 (same_code em).heads.2.2.2.2.1
        (nth_ (pos 1) (same_code em).heads.2.2.2.2.2.1 (λ u i. ap head_in (read_in p i is)) (nth_ (pos 1) (same_code em).heads.2.2.2.2.2.2 (λ u i.
        ap head_in (read_in ww (later g1 i) hz.2))
        (bind_comes em.setting lim (Compared p S d _ _ s) (Compared w S d c q (suc s)) (same_value a y f s) (λ heads.
        if heads then same_value a' y' else pure false) t1 _ b1
        (compare_run a y hv.0 hz.0 p _ _ s f t1 b1 (effects_later em.layout em.setting.roll t t1 f d g1 hf) (kept g1 hv.0 a hv.3)
        (kept g1 hz.0 y hz.3)
        (omega (arith, cf)) (omega (arith, qf)) (omega (arith, n)))
        (λ heads f1 s1 u l i j e. subst (λ l. Gets em lim (Compared w S d c q (suc s))
        ((if heads then same_value a' y' else pure false) f1 s1) u l) (sym e.is)
        (after_heads wv ww w p p' hv.0 hv.1 hz.0 hz.1 c q s f t1 b1 is is' truthy (g1.keeps wv _ hv.2) (g1.keeps ww _ hz.2) (same_value a' y')
        (λ c2 q2 s2 f2 u2 i2 b2 h2 p2 o2 n2. compare_run a' y' hv.1 hz.1 w c2 q2 s2 f2 u2 b2 h2 (kept (later g1 i2) hv.1 a' hv.4)
        (kept (later g1 i2) hz.1 y' hz.4)
        (omega (arith, cf, p2)) (omega (arith, qf, o2)) (omega (arith, n, n2)))
        heads e.word e.cycles e.quads s1 f1 u i j e.ended e.record_stands (omega (arith, e.cycles_in)) (omega (arith, e.quads_in))
        (omega (arith, e.steps)))))))))))))))))
      where
        kept : {t' : Seen} → Grows t t' → (x : W) (v : CoreValue) → Worth em t d x v → Worth em t' d x v
        kept {t'} g x v h = stands_later em.layout t t' _ _ g (longer_same _) x v h
    compare_run (Plain x) z wv ww w c q s f t b hf hv hz cf qf n =
        others wv ww w c q s f t b hf (omega (arith, cf)) (omega (arith, qf)) (Plain x) z hv hz (λ i j. i)
    compare_run (Function x x') z wv ww w c q s f t b hf hv hz cf qf n =
        others wv ww w c q s f t b hf (omega (arith, cf)) (omega (arith, qf)) (Function x x') z hv hz (λ i j. i)
    compare_run (Block x x') z wv ww w c q s f t b hf hv hz cf qf n =
        others wv ww w c q s f t b hf (omega (arith, cf)) (omega (arith, qf)) (Block x x') z hv hz (λ i j. i)
    compare_run (Primitive x) z wv ww w c q s f t b hf hv hz cf qf n =
        others wv ww w c q s f t b hf (omega (arith, cf)) (omega (arith, qf)) (Primitive x) z hv hz (λ i j. i)
    compare_run (Pair x x') (Plain y) wv ww w c q s f t b hf hv hz cf qf n =
        others wv ww w c q s f t b hf (omega (arith, cf)) (omega (arith, qf)) (Pair x x') (Plain y) hv hz (λ i j. j)
    compare_run (Pair x x') (Function y y') wv ww w c q s f t b hf hv hz cf qf n =
        others wv ww w c q s f t b hf (omega (arith, cf)) (omega (arith, qf)) (Pair x x') (Function y y') hv hz (λ i j. j)
    compare_run (Pair x x') (Block y y') wv ww w c q s f t b hf hv hz cf qf n =
        others wv ww w c q s f t b hf (omega (arith, cf)) (omega (arith, qf)) (Pair x x') (Block y y') hv hz (λ i j. j)
    compare_run (Pair x x') (Primitive y) wv ww w c q s f t b hf hv hz cf qf n =
        others wv ww w c q s f t b hf (omega (arith, cf)) (omega (arith, qf)) (Pair x x') (Primitive y) hv hz (λ i j. j)
