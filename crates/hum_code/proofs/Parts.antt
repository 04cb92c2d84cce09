-- What a statement does after its expressions: it sends, or gathers a behaviour.
use Rattle.std.proofs.Common.{◌≡◌, refl, subst, ◌∙◌, ℕ, suc, ◌+◌, ◌*◌, ◌<◌, ◌≤◌, pos, true, false, List, [], ◌∷◌, length, Option, Some, None, arith}
use Rattle.cap_words.specs.Words.{W, actor_t}
use Rattle.cap_words.specs.Seen.{Seen}
use Rattle.instr_table.specs.declared.op.Op.TheVariants as op
use Rattle.instr_table.specs.Types.{Grows, type_of, is_type}
use Rattle.instr_table.specs.Event.{Behaviour, Effects}
use Rattle.instr_table.specs.Outcome.{faults, second_become}
use Rattle.instr_table.specs.ActorRows.{become_row}
use Rattle.hum_meaning.specs.Value.{Atom, Undefined, Nil, Truth, Number, Symbol, Actor, Plain, Pair, Function, Block, Primitive}
use Rattle.hum_meaning.specs.Action.{and_then, becoming}
use Rattle.hum_meaning.specs.Language.{Meaning}
use Rattle.hum_meaning.specs.Exec.{send_to}
use Rattle.hum_core.specs.Alike.{Both}
use Rattle.hum_core.specs.declared.tested.TestExpr.{TestExpr}
use Rattle.hum_core.specs.TestLists.{Tests}
use Rattle.hum_code.specs.Bounds.{Limits}
use Rattle.hum_code.specs.Comes.{point, roll_with, Comes, here, At}
use Rattle.hum_code.specs.Layout.{shape_of}
use Rattle.hum_code.specs.Stands.{Stands, NextStands}
use Rattle.hum_code.specs.Code.{Codes, Line, Choice, PartAt}
use Rattle.hum_code.specs.Emission.{Emission}
use Rattle.hum_code.proofs.World.{same}
use Rattle.hum_code.proofs.Composing.{row_there}
use Rattle.hum_code.proofs.Standing.{CoreValue, CoreEnv, Gathered, longer_same, effects_later, stands_later}
use Rattle.hum_code.proofs.Steps.{dup1, typeq, if_true, if_false}
use Rattle.hum_code.proofs.Makings.{sent_at, with_sent, with_next, send, become}
use Rattle.hum_code.proofs.Gathering.{sends_stand, sent_stands, next_stands, no_next}
use Rattle.hum_code.proofs.TypesOf.{type_for, type_later}
use Rattle.hum_code.proofs.Results.{Goal, Ends, Aborts, Worth, Recorded, Facts, Ready, Evaluates, Gets, then_value, ready_at, fails_at}

module _ (em : Emission) (lim : Limits) where
  -- an expression that is evaluated with its environment kept
  pub part : {B : Type 0} (n : ℕ) (codes : Codes) (below : Meaning Tests) → Evaluates em lim n codes below.eval
      → (Q : Goal B) (e : TestExpr) (a k x : W) (S : List W) (env : CoreEnv)
      (d : Effects) (c q s : ℕ) (f : Gathered) (t : Seen) (g : CoreValue → Gathered → ℕ → Ends B)
      → PartAt em.setting em.layout codes (shape_of env) e a k → s < n → Ready em lim 0 env x d c q (suc s) f t
      → ((v : CoreValue) (f : Gathered) (left : ℕ) (u : Seen) (w : W) (d' : Effects) (c' q' : ℕ) → Grows t u → Grows em.setting.base u
      → Facts em 16 0 d (suc c) (1 + q) s v f left u w d' c' q' → Gets em lim Q (g v f left) u (point k (w ∷ x ∷ S) d' c' q'))
      → Gets em lim Q (and_then (below.eval e env f s) g) t (point a (x ∷ S) d c q)
  part n codes below ih Q e a k x S env d c q s f t g h lt ready next =
      dup1 h.1 (then_value em lim Q 16 0 k (x ∷ S) d (suc c) (1 + q) s (below.eval e env f s) g t _ ready.above
      (ih.at e h.0 k x (x ∷ S) env d (suc c) (1 + q) s f t h.2 lt
      (ready_at em lim 0 0 env x d c q (suc s) f t d (suc c) (1 + q) s f t ready (same t) ready.above (longer_same _) ready.record_stands
      (omega arith) (omega arith) (omega arith)))
      next)

  -- sending to a value: an actor gets the message, and all else fails
  module _ (Q : Goal (Unit {0})) (a b b' k : W) (h : Line em.setting (op.Dup (pos 1) ∷ op.Typeq actor_t ∷ []) a b)
      (h' : Choice em.setting b b' (em.layout.fail 3)) (h'' : At em.setting b' op.ActorSend k)
      (v : CoreValue) (wt wv : W) (S : List W) (d : Effects) (c q s : ℕ) (f : Gathered) (t : Seen) (above : Grows em.setting.base t)
      (vs : Worth em t d wv v) (rs : Recorded em t f d) (cf : c + 8 + 64 * s ≤ lim.most) (qf : q + 8 + 64 * s ≤ lim.most)
      (rest : Gathered → ℕ → Ends (Unit {0}))
      (next : (d' : Effects) (f' : Gathered) (u : Seen) → Grows t u → Grows em.setting.base u
      → roll_with em.setting.roll d' ≡ roll_with em.setting.roll d → Recorded em u f' d'
      → Gets em lim Q (rest f' s) u (point k S d' (suc (suc (suc (suc c)))) (1 + (0 + (1 + (1 + q)))))) where
    abbrev To : CoreValue → Type 0
    To target = Gets em lim Q (and_then (send_to target v f s) (λ u. rest)) t (point a (wt ∷ wv ∷ S) d c q)

    typed : (target : CoreValue) → Worth em t d wt target → (u : Seen) → Grows t u
        → is_type (type_of u wt) actor_t ≡ is_type (type_for target) actor_t
    typed target ts u i = type_later em.setting.base em.layout em.code.cells t _ above wt target ts actor_t u i

    not_sent : (target : CoreValue) → Worth em t d wt target → is_type (type_for target) actor_t ≡ false
        → Comes em.setting lim.most (Aborts em.setting lim 3 (length f.sent)) t (point a (wt ∷ wv ∷ S) d c q)
    not_sent target ts other =
        dup1 h.1 (typeq false h.2 (λ u i. typed target ts u i ∙ other) (if_false h'
        (fails_at em lim 3 (length f.sent) refl t _ d _ _ (sends_stand em.layout em.setting.roll t f d rs) (omega (arith, cf))
        (omega (arith, qf)))))

    atom_sent : (target : Atom) → Worth em t d wt (Plain target) → To (Plain target)
    unfolding Stands
    atom_sent (Actor n) ts =
        dup1 h.1 (typeq true h.2 (typed (Plain (Actor n)) ts) (if_true h' (send h'' ts.1 (λ u w g b.
        let x = sent_at w em.setting.own.sponsor wt wv in
        next (with_sent d x) _ u g b refl
        (sent_stands em.layout em.setting.roll u f d (effects_later em.layout em.setting.roll t u f d g rs) n v x ts.0
        (stands_later em.layout t u _ _ g (longer_same _) wv v vs))))))
    atom_sent Undefined ts = not_sent (Plain Undefined) ts refl
    atom_sent Nil ts = not_sent (Plain Nil) ts refl
    atom_sent (Truth b) ts = not_sent (Plain (Truth b)) ts refl
    atom_sent (Number b) ts = not_sent (Plain (Number b)) ts refl
    atom_sent (Symbol b) ts = not_sent (Plain (Symbol b)) ts refl

    pub send_runs : (target : CoreValue) → Worth em t d wt target → To target
    send_runs (Plain a) ts = atom_sent a ts
    send_runs (Pair a b) ts = not_sent (Pair a b) ts refl
    send_runs (Function u env) ts = not_sent (Function u env) ts refl
    send_runs (Block u env) ts = not_sent (Block u env) ts refl
    send_runs (Primitive b) ts = not_sent (Primitive b) ts refl

  -- the next behaviour: the first one is kept, and the machine refuses a second
  module _ (Q : Goal (Unit {0})) (a k : W) (h : At em.setting a op.ActorBecome k)
      (v : CoreValue) (w : W) (S : List W) (d : Effects) (c q s : ℕ) (f : Gathered) (t : Seen)
      (vs : Worth em t d w v) (rs : Recorded em t f d) (cf : suc c + 64 * s ≤ lim.most) (qf : q + 64 * s ≤ lim.most)
      (rest : Gathered → ℕ → Ends (Unit {0}))
      (next : (d' : Effects) (f' : Gathered) → roll_with em.setting.roll d' ≡ roll_with em.setting.roll d → Recorded em t f' d'
      → Gets em lim Q (rest f' s) t (point k S d' (suc c) (0 + q))) where
    some_next : (u : CoreValue) (b : Option Behaviour) → Both (NextStands em.layout t (roll_with em.setting.roll d)) (Some u) b → (vs : List W)
        → become_row b vs k ≡ faults 0 0 second_become
    some_next u None p vs = absurd p
    some_next u (Some b) p vs = refl

    pub become_runs : (o : Option CoreValue) → f.next ≡ o → Gets em lim Q (and_then (becoming o v f s) (λ u. rest)) t
        (point a (em.layout.apply ∷ w ∷ S) d c q)
    become_runs None e =
        become h (no_next em.layout em.setting.roll t f d rs f.next d.next rs.next e)
        (next (with_next d w em.layout.apply) _ refl (next_stands em.layout em.setting.roll t f d rs v w vs))
    become_runs (Some u) e = here (λ i g b. record {
      row = λ sheet. row_there em.setting lim.most op.ActorBecome a k i sheet (point a (em.layout.apply ∷ w ∷ S) d c q) refl h b
          ∙ some_next u d.next (subst (λ n. Both (NextStands em.layout t (roll_with em.setting.roll d)) n d.next) e rs.next)
          (em.layout.apply ∷ w ∷ S);
      cycles = omega (arith, cf);
      quads = omega (arith, qf);
      counted = sends_stand em.layout em.setting.roll t f d rs;
      events = refl;
    })
