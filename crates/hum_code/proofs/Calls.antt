-- The routine that calls.
use Rattle.std.proofs.Common.{◌≡◌, refl, ap, subst, ◌∙◌, ℕ, suc, ◌+◌, ◌*◌, ◌<◌, ◌≤◌, true, false, List, ◌∷◌, length, Some, arith}
use Rattle.cap_words.specs.Words.{W, func_t}
use Rattle.cap_words.specs.Seen.{Seen}
use Rattle.instr_table.specs.Types.{Grows, look_up, type_of, is_type}
use Rattle.instr_table.specs.Event.{Effects}
use Rattle.hum_meaning.specs.Value.{Atom, Undefined, Nil, Truth, Number, Symbol, Actor, Plain, Pair, Function, Block, Primitive}
use Rattle.hum_meaning.specs.BuiltIns.{built_in}
use Rattle.hum_meaning.specs.Language.{Meaning}
use Rattle.hum_meaning.specs.Eval.{enter, apply}
use Rattle.hum_core.specs.Numbered.{Opening, Of}
use Rattle.hum_core.specs.TestLists.{Tests, tests_language}
use Rattle.hum_code.specs.Bounds.{Limits}
use Rattle.hum_code.specs.Comes.{Point, point, Comes}
use Rattle.hum_code.specs.Layout.{shape_of}
use Rattle.hum_code.specs.Stands.{Stands}
use Rattle.hum_code.specs.Code.{codes_to, FunctionCode}
use Rattle.hum_code.specs.Emission.{Emission}
use Rattle.hum_code.proofs.Standing.{CoreValue, Gathered, longer_same}
use Rattle.hum_code.proofs.Steps.{dup1, drop1, roll2, sink3, jump, take3, typeq, if_true, if_false}
use Rattle.hum_code.proofs.Gathering.{sends_stand}
use Rattle.hum_code.proofs.TypesOf.{type_for, type_later}
use Rattle.hum_code.proofs.Results.{Aborts, Worth, Recorded, Valued, Gets, widen, fails_at}
use Rattle.hum_code.proofs.Claims.{PrimitivesRun, FunctionsRun}

module _ (em : Emission) (lim : Limits) where
  -- the front of the routine, to any end
  module _ (Q : Seen → Point → Type 0) (k wv wg : W) (S : List W) (d : Effects) (c q : ℕ) (t : Seen) where
    call_true : ((u : Seen) → Grows t u → is_type (type_of u wg) func_t ≡ true)
        → Comes em.setting lim.most Q t (point em.code.runtime.calls.c (wg ∷ wv ∷ k ∷ S) d (suc (suc (suc (suc (suc c)))))
        (0 + (1 + (1 + (2 + (3 + q))))))
        → Comes em.setting lim.most Q t (point em.layout.call (k ∷ wv ∷ wg ∷ S) d c q)
    call_true f n =
        let r = em.code.runtime.calls in
        sink3 r.tests.1 (roll2 r.tests.2.1 (dup1 r.tests.2.2.1 (typeq true r.tests.2.2.2 f (if_true r.chooses n))))

    call_false : ((u : Seen) → Grows t u → is_type (type_of u wg) func_t ≡ false)
        → Comes em.setting lim.most Q t (point (em.layout.fail 2) (wg ∷ wv ∷ k ∷ S) d (suc (suc (suc (suc (suc c))))) (0 + (1 + (1 + (2 + (3 + q))))))
        → Comes em.setting lim.most Q t (point em.layout.call (k ∷ wv ∷ wg ∷ S) d c q)
    call_false f n =
        let r = em.code.runtime.calls in
        sink3 r.tests.1 (roll2 r.tests.2.1 (dup1 r.tests.2.2.1 (typeq false r.tests.2.2.2 f (if_false r.chooses n))))

  module _ (n : ℕ) (below : Meaning Tests) (functions : FunctionsRun em lim n (codes_to em.setting em.layout n) below)
      (primitives : PrimitivesRun em lim)
      (v : CoreValue) (k wv wg : W) (S : List W) (d : Effects) (c q s : ℕ) (f : Gathered) (t : Seen) (lt : s < n)
      (above : Grows em.setting.base t) (vs : Worth em t d wv v) (rs : Recorded em t f d)
      (cf : c + 46 + 64 * s ≤ lim.most) (qf : q + 46 + 64 * s ≤ lim.most) (least : lim.least ≤ c + s) where
    abbrev To : CoreValue → Type 0
    To g = Gets em lim (Valued em 0 46 k S d c q s) (apply (tests_language em.layout.units) em.self (length em.setting.roll) below g v f s) t
        (point em.layout.call (k ∷ wv ∷ wg ∷ S) d c q)

    typed : (g : CoreValue) → Worth em t d wg g → (u : Seen) → Grows t u → is_type (type_of u wg) func_t ≡ is_type (type_for g) func_t
    typed g gs u i = type_later em.setting.base em.layout em.code.cells t _ above wg g gs func_t u i

    -- not a function
    refused : (g : CoreValue) → Worth em t d wg g → is_type (type_for g) func_t ≡ false
        → Comes em.setting lim.most (Aborts em.setting lim 2 (length f.sent)) t (point em.layout.call (k ∷ wv ∷ wg ∷ S) d c q)
    refused g gs other =
        call_false (Aborts em.setting lim 2 (length f.sent)) k wv wg S d c q t (λ u i. typed g gs u i ∙ other)
        (fails_at em lim 2 (length f.sent) refl t _ d _ _ (sends_stand em.layout em.setting.roll t f d rs) (omega (arith, cf)) (omega (arith, qf)))

    atom_refused : (a : Atom) → Worth em t d wg (Plain a) → To (Plain a)
    atom_refused Undefined gs = refused (Plain Undefined) gs refl
    atom_refused Nil gs = refused (Plain Nil) gs refl
    atom_refused (Truth b) gs = refused (Plain (Truth b)) gs refl
    atom_refused (Number b) gs = refused (Plain (Number b)) gs refl
    atom_refused (Symbol b) gs = refused (Plain (Symbol b)) gs refl
    atom_refused (Actor b) gs = refused (Plain (Actor b)) gs refl

    pub call_runs : (g : CoreValue) → Worth em t d wg g → To g
    unfolding Stands
    call_runs (Function (Of u) env) gs =
        let r = em.code.runtime.calls in
        let code : FunctionCode em.setting em.layout (codes_to em.setting em.layout n) gs.4.tests gs.4.value (shape_of env) (em.layout.place u)
        = subst (λ sh. FunctionCode em.setting em.layout (codes_to em.setting em.layout n) gs.4.tests gs.4.value sh (em.layout.place u)) gs.3
        (em.code.functions n u gs.4) in
        rw gs.4.is (call_true _ k wv wg S d c q t (typed (Function (Of u) env) gs)
        (take3 r.enters.1 gs.1 (drop1 r.enters.2.1 (jump r.enters.2.2
        (widen em lim 0 8 0 46 k S d d _ _ s c q s (enter below (Some (gs.4.tests, gs.4.value)) env v f s) t _ above (longer_same _)
        (omega arith) (omega arith) (omega arith)
        (functions.at gs.4.tests gs.4.value (em.layout.place u) k wv gs.0 S v env d _ _ s f t code lt above gs.2 vs rs (omega (arith, cf))
        (omega (arith, qf)) (omega (arith, least))))))))
    call_runs (Function Opening env) gs = absurd gs
    call_runs (Primitive b) gs =
        let r = em.code.runtime.calls in
        call_true _ k wv wg S d c q t (typed (Primitive b) gs)
        (take3 r.enters.1 (ap (look_up t) gs ∙ above.keeps (em.layout.primitive b) _ (em.code.cells.primitives b))
        (drop1 r.enters.2.1 (jump r.enters.2.2
        (widen em lim 0 36 0 46 k S d d _ _ s c q s (built_in b v f s) t _ above (longer_same _) (omega arith) (omega arith) (omega arith)
        (primitives.at b v k wv S d _ _ s f t above vs rs (omega (arith, cf)) (omega (arith, qf)) (omega (arith, least)))))))
    call_runs (Plain a) gs = atom_refused a gs
    call_runs (Pair a b) gs = refused (Pair a b) gs refl
    call_runs (Block u env) gs = refused (Block u env) gs refl
