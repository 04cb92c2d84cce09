-- The routine that executes a value.
use Rattle.std.proofs.Common.{◌≡◌, refl, ◌∙◌, ℕ, ◌+◌, ◌*◌, ◌<◌, ◌≤◌, true, false, List, ◌∷◌, arith}
use Rattle.cap_words.specs.Words.{W, block_t}
use Rattle.cap_words.specs.Seen.{Seen}
use Rattle.instr_table.specs.Types.{Grows, type_of, is_type}
use Rattle.instr_table.specs.Event.{Effects}
use Rattle.hum_meaning.specs.Value.{Atom, Undefined, Nil, Truth, Number, Symbol, Actor, Plain, Pair, Function, Block, Primitive}
use Rattle.hum_meaning.specs.Language.{Meaning}
use Rattle.hum_meaning.specs.Exec.{perform}
use Rattle.hum_core.specs.TestLists.{Tests}
use Rattle.hum_code.specs.Bounds.{Limits}
use Rattle.hum_code.specs.Comes.{point, Comes}
use Rattle.hum_code.specs.Stands.{Stands}
use Rattle.hum_code.specs.Emission.{Emission}
use Rattle.hum_code.proofs.Standing.{CoreValue, Gathered, longer_same}
use Rattle.hum_code.proofs.Steps.{dup1, drop1, roll2, jump, take3, typeq, if_true, if_false}
use Rattle.hum_code.proofs.TypesOf.{type_for, type_later}
use Rattle.hum_code.proofs.Results.{Worth, Recorded, Ran, Gets, ran, widen_ran}
use Rattle.hum_code.proofs.Claims.{BlocksRun}

module _ (em : Emission) (lim : Limits) (n : ℕ) (below : Meaning Tests) (blocks : BlocksRun em lim n below.exec)
    (k w : W) (S : List W) (d : Effects) (c q s : ℕ) (f : Gathered) (t : Seen) (lt : s < n) (above : Grows em.setting.base t) (rs : Recorded em t f d)
    (cf : c + 7 + 64 * s ≤ lim.most) (qf : q + 7 + 64 * s ≤ lim.most) (least : lim.least ≤ c + s) where
  typed : (v : CoreValue) → Worth em t d w v → (u : Seen) → Grows t u → is_type (type_of u w) block_t ≡ is_type (type_for v) block_t
  typed v vs u i = type_later em.setting.base em.layout em.code.cells t _ above w v vs block_t u i

  -- no block
  skipped : (v : CoreValue) → Worth em t d w v → is_type (type_for v) block_t ≡ false
      → Comes em.setting lim.most (Ran em 9 k S d c q s tt f s) t (point em.layout.exec (k ∷ w ∷ S) d c q)
  skipped v vs other =
      let r = em.code.runtime.executes in
      roll2 r.tests.1 (dup1 r.tests.2.1 (typeq false r.tests.2.2 (λ u i. typed v vs u i ∙ other) (if_false r.chooses (drop1 r.skips (jump r.jumps
      (ran em lim 9 k S d c q s f s t d _ _
      (record { record_stands = rs; longer = longer_same _; cycles_in = omega arith; quads_in = omega arith; steps = omega arith })))))))

  atom_skipped : (a : Atom) → Worth em t d w (Plain a) → Comes em.setting lim.most (Ran em 9 k S d c q s tt f s) t
      (point em.layout.exec (k ∷ w ∷ S) d c q)
  atom_skipped Undefined vs = skipped (Plain Undefined) vs refl
  atom_skipped Nil vs = skipped (Plain Nil) vs refl
  atom_skipped (Truth b) vs = skipped (Plain (Truth b)) vs refl
  atom_skipped (Number b) vs = skipped (Plain (Number b)) vs refl
  atom_skipped (Symbol b) vs = skipped (Plain (Symbol b)) vs refl
  atom_skipped (Actor b) vs = skipped (Plain (Actor b)) vs refl

  pub exec_runs : (v : CoreValue) → Worth em t d w v → Gets em lim (Ran em 9 k S d c q s) (perform below v f s) t
      (point em.layout.exec (k ∷ w ∷ S) d c q)
  unfolding Stands
  exec_runs (Block u env) vs =
      let r = em.code.runtime.executes in
      roll2 r.tests.1 (dup1 r.tests.2.1 (typeq true r.tests.2.2 (typed (Block u env) vs)
      (if_true r.chooses (take3 r.enters.1 vs.1 (drop1 r.enters.2 (jump r.jumps
      (widen_ran em lim 2 9 k S d d _ _ s c q s (below.exec u env f s) t _ above (longer_same _) (omega arith) (omega arith) (omega arith)
      (blocks.at u k vs.0 S env d _ _ s f t vs.3 vs.4 lt
      (record {
        above = above;
        env_stands = vs.2;
        record_stands = rs;
        cycles_fit = omega (arith, cf);
        quads_fit = omega (arith, qf);
        least_in = omega (arith, least);
      })))))))))
  exec_runs (Plain a) vs = atom_skipped a vs
  exec_runs (Pair a b) vs = skipped (Pair a b) vs refl
  exec_runs (Function u env) vs = skipped (Function u env) vs refl
  exec_runs (Primitive b) vs = skipped (Primitive b) vs refl
