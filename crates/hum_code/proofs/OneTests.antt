-- The code of one test.
use Rattle.std.proofs.Common.{◌≡◌, refl, ap, ◌∙◌, ℕ, suc, ◌+◌, ◌*◌, ◌≤◌, ⊎_elim, pos, negsuc, Bool, true, false, List, ◌∷◌, length, Some, None, arith}
use Rattle.cap_words.specs.Words.{W, pair_t, func_t, block_t, same_word}
use Rattle.cap_words.specs.Seen.{Seen}
use Rattle.instr_table.specs.declared.op.Op.TheVariants.{Nth}
use Rattle.instr_table.specs.Types.{Grows, type_of, is_type}
use Rattle.instr_table.specs.Lists.{head_in, tail_in, nth}
use Rattle.instr_table.specs.Event.{Effects}
use Rattle.hum_core.specs.declared.slot.Const.{Const}
use Rattle.hum_core.specs.declared.tested.Test.TheOpen as test
use Rattle.hum_meaning.specs.Value.{Plain, Pair, Function, Block, Primitive, extend}
use Rattle.hum_meaning.specs.Action.{◌>>=◌, pure}
use Rattle.hum_meaning.specs.Same.{same_atom, same as same_value}
use Rattle.hum_meaning.specs.Language.{Matched}
use Rattle.hum_meaning.specs.Eval.{if_matched, if_pair, keep_if, equals}
use Rattle.hum_core.specs.Numbered.{atom_of}
use Rattle.hum_core.specs.TestLists.{Tests}
use Rattle.hum_code.specs.Bounds.{Limits}
use Rattle.hum_code.specs.Comes.{point, roll_with, never, At}
use Rattle.hum_code.specs.Layout.{shape_of}
use Rattle.hum_code.specs.Stands.{Stands, StandsEnv}
use Rattle.hum_code.specs.Code.{Codes, TestAt}
use Rattle.hum_code.specs.Emission.{Emission}
use Rattle.hum_code.proofs.World.{same, later, read_in}
use Rattle.hum_code.proofs.Steps.{dup1, roll2, roll3, nth_, part1, typeq, eq_, if_true, if_false}
use Rattle.hum_code.proofs.Makings.{pair1, pair2}
use Rattle.hum_code.proofs.Standing.{CoreValue, CoreEnv, Gathered, longer_same, stands_later, env_later, list_later, effects_later}
use Rattle.hum_code.proofs.TypesOf.{type_for, type_later}
use Rattle.hum_code.proofs.Atoms.{atom_no_pair, atom_no_function, atom_no_block, parts_differ, atoms_alike}
use Rattle.hum_code.proofs.Results.{Ends, Recorded, Extends, Gets}
use Rattle.hum_code.proofs.Compares.{same_or}
use Rattle.hum_code.proofs.Tried.{Entries, Testing, Tried, misses}

-- what a test leaves to do: with values and entries, from the effects gathered and the steps left
abbrev pub Left : Type 0
Left = List CoreValue → Entries → Gathered → ℕ → Ends (Matched Tests)

module _ (em : Emission) (lim : Limits) (env : CoreEnv) (bound : ℕ) (k miss : W) (S : List W) where
  -- what a test goes on to, from b, with that many values and entries
  abbrev pub Rest : Left → (d : Effects) (c q s : ℕ) (b : W) (left count : ℕ) → Type 0
  Rest go d c q s b left count = (vs : List CoreValue) (es : Entries) (y x : W) (d' : Effects) (c' q' s' : ℕ) (f : Gathered) (u : Seen)
      → length vs ≡ left → length es ≡ count → Testing em lim env vs es y x d' c' q' s' f u → Extends em d d'
      → c' + 64 * s' ≤ c + 64 * s → q' + 64 * s' ≤ q + 64 * s → c + s ≤ c' + s'
      → Gets em lim (Tried em env bound k miss S d c q s) (go vs es f s') u (point b (y ∷ x ∷ S) d' c' q')

  module _ (go : Left) (v : CoreValue) (vs : List CoreValue) (es : Entries) (y x : W) (d : Effects) (c q s : ℕ) (f : Gathered) (t : Seen)
      (h : Testing em lim env (v ∷ vs) es y x d c q (suc s) f t) (a b : W) (left count : ℕ) (ev : length vs ≡ left) (ee : length es ≡ count) where
    -- the other values, in a later store
    pub passes : (d' : Effects) (c' q' s' : ℕ) (f' : Gathered) (u : Seen) → Grows t u → Extends em d d' → Recorded em u f' d'
        → c' + 64 * s' ≤ c + 64 * suc s → q' + 64 * s' ≤ q + 64 * suc s → c + suc s ≤ c' + s'
        → Testing em lim env vs es h.list_stands.1 x d' c' q' s' f' u
    passes d' c' q' s' f' u g j r p i n = record {
      above = later h.above g;
      list_stands = list_later em.layout t u _ _ g j h.list_stands.1 vs h.list_stands.4;
      env_stands = env_later em.layout t u _ _ g j x (extend es env) h.env_stands;
      record_stands = r;
      cycles_fit = omega (arith, p, h.cycles_fit);
      quads_fit = omega (arith, i, h.quads_fit);
      least_in = omega (arith, n, h.least_in);
    }

    -- the first value is read
    pub head_is : (u : Seen) → Grows t u → nth u (pos 1) y ≡ h.list_stands.0
    head_is u i = ap head_in (read_in y i h.list_stands.2)

    pub tail_is : (u : Seen) → Grows t u → nth u (negsuc 0) y ≡ h.list_stands.1
    tail_is u i = ap tail_in (read_in y i h.list_stands.2)

    typed : (w : W) (truth : Bool) → is_type (type_for v) w ≡ truth → (u : Seen) → Grows t u → is_type (type_of u h.list_stands.0) w ≡ truth
    typed w truth e u i = type_later em.setting.base em.layout em.code.cells t _ h.above h.list_stands.0 v h.list_stands.3 w u i ∙ e

    pub skip_runs : At em.setting a (Nth (negsuc 0)) b → Rest go d c q (suc s) b left count
        → Gets em lim (Tried em env bound k miss S d c q (suc s)) (go vs es f s) t (point a (y ∷ x ∷ S) d c q)
    skip_runs at rest =
        nth_ (negsuc 0) at tail_is
        (rest vs es h.list_stands.1 x d _ _ s f t ev ee (passes d _ _ s f t (same t) (longer_same _) h.record_stands (omega arith) (omega arith)
        (omega arith))
        (longer_same _) (omega arith) (omega arith) (omega arith))

    pub bind_runs : (codes : Codes) → TestAt em.setting em.layout codes (shape_of env) miss test.Bind count a b
        → Rest go d c q (suc s) b left (suc count)
        → Gets em lim (Tried em env bound k miss S d c q (suc s)) (go vs ((tt, v) ∷ es) f s) t (point a (y ∷ x ∷ S) d c q)
    unfolding StandsEnv
    bind_runs codes at rest =
        let l = h.list_stands in
        part1 at.1 l.2 (roll3 at.2.1 (roll2 at.2.2.1 (pair1 at.2.2.2.1 (λ t1 w g1 b1 is. roll2 at.2.2.2.2
        (rest vs ((tt, v) ∷ es) l.1 w d _ _ s f t1 ev (ap suc ee)
        (record {
          above = b1;
          list_stands = list_later em.layout t t1 _ _ g1 (longer_same _) l.1 vs l.4;
          env_stands = (
            l.0,
            x,
            is,
            stands_later em.layout t t1 _ _ g1 (longer_same _) l.0 v l.3,
            env_later em.layout t t1 _ _ g1 (longer_same _) x (extend es env) h.env_stands,
          );
          record_stands = effects_later em.layout em.setting.roll t t1 f d g1 h.record_stands;
          cycles_fit = omega (arith, h.cycles_fit);
          quads_fit = omega (arith, h.quads_fit);
          least_in = omega (arith, h.least_in);
        })
        (longer_same _) (omega arith) (omega arith) (omega arith))))))

    -- what is no pair
    no_pair : (codes : Codes) → TestAt em.setting em.layout codes (shape_of env) miss test.Pair count a b → is_type (type_for v) pair_t ≡ false
        → Gets em lim (Tried em env bound k miss S d c q (suc s)) (pure None f s) t (point a (y ∷ x ∷ S) d c q)
    no_pair codes at other =
        dup1 at.2.1 (nth_ (pos 1) at.2.2.1 head_is (typeq false at.2.2.2 (typed pair_t false other) (if_false at.3
        (misses em lim env bound k miss S d d c q (suc s) _ _ s f t y x h.record_stands (longer_same _) (omega arith) (omega arith)
        (omega arith)))))

  module _ (go : Left) (vs : List CoreValue) (es : Entries) (y x : W) (d : Effects) (c q s : ℕ) (f : Gathered) (t : Seen) (codes : Codes) (a b : W)
      (left count : ℕ) (ev : length vs ≡ left) (ee : length es ≡ count) where
    pub pair_runs : (v : CoreValue) → Testing em lim env (v ∷ vs) es y x d c q (suc s) f t
        → TestAt em.setting em.layout codes (shape_of env) miss test.Pair count a b
        → Rest go d c q (suc s) b (suc (suc left)) count
        → Gets em lim (Tried em env bound k miss S d c q (suc s)) (if_pair v (λ head tail. go (head ∷ tail ∷ vs) es) f s) t
        (point a (y ∷ x ∷ S) d c q)
    unfolding Stands
    pair_runs (Pair u v) h at rest =
        let l = h.list_stands in
        dup1 at.2.1 (nth_ (pos 1) at.2.2.1 (λ u i. ap head_in (read_in y i l.2))
        (typeq true at.2.2.2 (type_later em.setting.base em.layout em.code.cells t (roll_with em.setting.roll d) h.above l.0
        (Pair u v) l.3 pair_t) (if_true at.3
        (part1 at.4.1 l.2 (part1 at.4.2.1 l.3.2 (pair2 at.4.2.2 (λ t1 w w' g1 b1 is is' truthy.
        rest (u ∷ v ∷ vs) es w x d _ _ s f t1 (ap suc (ap suc ev)) ee
        (record {
          above = b1;
          list_stands = (
            l.3.0,
            w',
            is,
            stands_later em.layout t t1 _ _ g1 (longer_same _) l.3.0 u l.3.3,
            (
              l.3.1,
              l.1,
              is',
              stands_later em.layout t t1 _ _ g1 (longer_same _) l.3.1 v l.3.4,
              list_later em.layout t t1 _ _ g1
                  (longer_same _) l.1 vs l.4,
            ),
          );
          env_stands = env_later em.layout t t1 _ _ g1 (longer_same _) x (extend es env) h.env_stands;
          record_stands = effects_later em.layout em.setting.roll t t1 f d g1 h.record_stands;
          cycles_fit = omega (arith, h.cycles_fit);
          quads_fit = omega (arith, h.quads_fit);
          least_in = omega (arith, h.least_in);
        })
        (longer_same _) (omega arith) (omega arith) (omega arith))))))))
    pair_runs (Plain v) h at rest = no_pair go (Plain v) vs es y x d c q s f t h a b left count ev ee codes at (atom_no_pair v)
    pair_runs (Function u v) h at rest = no_pair go (Function u v) vs es y x d c q s f t h a b left count ev ee codes at refl
    pair_runs (Block u v) h at rest = no_pair go (Block u v) vs es y x d c q s f t h a b left count ev ee codes at refl
    pair_runs (Primitive v) h at rest = no_pair go (Primitive v) vs es y x d c q s f t h a b left count ev ee codes at refl

    -- what follows a comparison
    abbrev pub compared : Bool → Gathered → ℕ → Ends (Matched Tests)
    compared answer f s = if_matched (keep_if answer es) (go vs) (pure None) f s

    module _ (const : Const) (at : TestAt em.setting em.layout codes (shape_of env) miss (test.Test::Is const) count a b)
        (rest : Rest go d c q (suc s) b left count) where
      -- the words are the same, or not
      words_run : (v : CoreValue) (h : Testing em lim env (v ∷ vs) es y x d c q (suc s) f t) (answer : Bool) → same_word h.list_stands.0 at.2 ≡ answer
          → Gets em lim (Tried em env bound k miss S d c q (suc s)) (compared answer f s) t (point a (y ∷ x ∷ S) d c q)
      words_run v h true e =
          dup1 at.3.1 (nth_ (pos 1) at.3.2.1 (head_is go v vs es y x d c q s f t h a b left count ev ee) (eq_ true at.3.2.2 e (if_true at.4
          (nth_ (negsuc 0) at.5 (tail_is go v vs es y x d c q s f t h a b left count ev ee)
          (rest vs es h.list_stands.1 x d _ _ s f t ev ee
          (passes go v vs es y x d c q s f t h a b left count ev ee d _ _ s f t (same t) (longer_same _) h.record_stands (omega arith)
          (omega arith) (omega arith))
          (longer_same _) (omega arith) (omega arith) (omega arith))))))
      words_run v h false e =
          dup1 at.3.1 (nth_ (pos 1) at.3.2.1 (head_is go v vs es y x d c q s f t h a b left count ev ee) (eq_ false at.3.2.2 e (if_false at.4
          (misses em lim env bound k miss S d d c q (suc s) _ _ s f t y x h.record_stands (longer_same _) (omega arith) (omega arith)
          (omega arith)))))

      -- what has parts
      parts_run : (v : CoreValue) (u : W) → type_for v ≡ Some u → is_type (type_for (Plain (atom_of const))) u ≡ false
          → Testing em lim env (v ∷ vs) es y x d c q (suc s) f t
          → Gets em lim (Tried em env bound k miss S d c q (suc s)) (compared false f s) t (point a (y ∷ x ∷ S) d c q)
      parts_run v u e o h = words_run v h false (parts_differ em.setting.base em.layout em.code.cells t (roll_with em.setting.roll d) h.above
          v (atom_of const) h.list_stands.0 at.2 u e o h.list_stands.3 (at.6 t (roll_with em.setting.roll d) h.above))

      pub is_runs : (v : CoreValue) → Testing em lim env (v ∷ vs) es y x d c q (suc s) f t
          → Gets em lim (Tried em env bound k miss S d c q (suc s))
          ((equals v (Plain (atom_of const)) es >>= (λ m. if_matched m (go vs) (pure None))) f s) t
          (point a (y ∷ x ∷ S) d c q)
      unfolding same_value Stands
      is_runs (Plain u) h = ⊎_elim
          (λ e. words_run (Plain u) h (same_atom u (atom_of const)) e)
          (λ n. never (λ fine. n (atoms_alike em.setting.base em.layout em.code.cells t (roll_with em.setting.roll d) h.above fine u (atom_of const)
          h.list_stands.0 at.2 h.list_stands.3 (at.6 t (roll_with em.setting.roll d) h.above))) (omega (arith, h.cycles_fit))
          (omega (arith, h.quads_fit)))
          (same_or (same_word h.list_stands.0 at.2) (same_atom u (atom_of const)))
      is_runs (Pair u v) h = parts_run (Pair u v) pair_t refl (atom_no_pair (atom_of const)) h
      is_runs (Function u v) h = parts_run (Function u v) func_t refl (atom_no_function (atom_of const)) h
      is_runs (Block u v) h = parts_run (Block u v) block_t refl (atom_no_block (atom_of const)) h
      is_runs (Primitive v) h = parts_run (Primitive v) func_t refl (atom_no_function (atom_of const)) h
