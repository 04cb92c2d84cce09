-- What the routines of the built-in functions come to: what they share.
use Rattle.std.proofs.Common.{◌≡◌, refl, ◌∙◌, ℕ, ◌+◌, ◌*◌, ◌≤◌, Bool, true, false, List, ◌∷◌, length, arith}
use Rattle.cap_words.specs.Words.{W, pair_t}
use Rattle.cap_words.specs.Seen.{Seen}
use Rattle.instr_table.specs.Types.{Grows, is_type}
use Rattle.instr_table.specs.Event.{Effects}
use Rattle.hum_meaning.specs.Value.{BuiltIn, Plain, Pair, Function, Block, Primitive}
use Rattle.hum_meaning.specs.Action.{Action, Gives, Fails}
use Rattle.hum_meaning.specs.BuiltIns.{on_pair, built_in}
use Rattle.hum_core.specs.TestLists.{Tests}
use Rattle.hum_code.specs.Bounds.{Limits}
use Rattle.hum_code.specs.Comes.{point}
use Rattle.hum_code.specs.Runtime.{IsFailure, PartsAt}
use Rattle.hum_code.specs.Stands.{Stands}
use Rattle.hum_code.specs.Emission.{Emission}
use Rattle.hum_code.proofs.Standing.{CoreValue, Gathered, longer_same}
use Rattle.hum_code.proofs.TypesOf.{type_for, type_later}
use Rattle.hum_code.proofs.Gathering.{sends_stand}
use Rattle.hum_code.proofs.Atoms.{atom_no_pair}
use Rattle.hum_code.proofs.Operands.{Types, From, parts, no_pair}
use Rattle.hum_code.proofs.Results.{Ends, Goal, Result, Worth, Recorded, Valued, Gets, valued, fails_at}

-- a binary operation, and an action of two values
abbrev pub OfTwo : Type 0
OfTwo = CoreValue → CoreValue → Action Tests CoreValue

-- A routine may be called: there are 36 cycles and 36 quads besides 64 for each step.
pub record Called (em : Emission) (lim : Limits) (d : Effects) (c q s : ℕ) (f : Gathered) (t : Seen) : Type 0 where
  pub above : Grows em.setting.base t
  pub record_stands : Recorded em t f d
  pub cycles_fit : c + 36 + 64 * s ≤ lim.most
  pub quads_fit : q + 36 + 64 * s ≤ lim.most
  pub least_in : lim.least ≤ c + s

module _ {em : Emission} {lim : Limits} {d : Effects} {c q s : ℕ} {f : Gathered} {t : Seen} (call : Called em lim d c q s f t) where
  -- the word's type is its value's
  pub typed : (w : W) (v : CoreValue) (x : W) (b : Bool) → Worth em t d w v → is_type (type_for v) x ≡ b → Types t w x b
  typed w v x b h e = λ u i. type_later em.setting.base em.layout em.code.cells t _ call.above w v h x u i ∙ e

  module _ (k : W) (S : List W) where
    -- what a routine is to come to
    abbrev pub Answer : Goal CoreValue
    Answer = Valued em 0 36 k S d c q s

    -- so it does from there, by the outcome, with n cycles and n quads spent at most
    abbrev pub Answers : ℕ → Ends CoreValue → W → List W → Type 0
    Answers n o a vs = From em.setting lim.most (Result em.setting lim Answer o) t n c q a vs d

    -- the routine of a built-in function comes to what the function gives
    abbrev pub Runs : BuiltIn → Type 0
    Runs b = (n w : W) (v : CoreValue) → Worth em t d w v
        → Gets em lim Answer (built_in b v f s) t (point (em.layout.routine b) (n ∷ w ∷ k ∷ S) d c q)

    -- the answer is there, where m more may be spent
    pub answered : {m c' q' : ℕ} (v : CoreValue) (w : W) → Worth em t d w v → c ≤ c' → c' + m ≤ c + 36 → q' + m ≤ q + 36
        → From em.setting lim.most (Result em.setting lim Answer (Gives v f s)) t m c' q' k (w ∷ S) d
    answered v w h from cycles quads c'' q'' p = valued em lim 0 36 k S d c q s v f s t w d c'' q'' (record {
      stands = h;
      record_stands = call.record_stands;
      longer = longer_same _;
      cycles_in = omega (arith, cycles, p.cycles);
      quads_in = omega (arith, quads, p.quads);
      steps = omega (arith, from, p.from);
    })

    pub failed : {m c' q' : ℕ} (code : ℕ) → IsFailure code → c' + m ≤ c + 30 → q' + m ≤ q + 30 → {vs : List W}
        → From em.setting lim.most (Result em.setting lim Answer (Fails code (length f.sent))) t m c' q' (em.layout.fail code) vs d
    failed code i cycles quads {vs} c'' q'' p =
        fails_at em lim code (length f.sent) i t vs d c'' q'' (sends_stand em.layout em.setting.roll t f d call.record_stands)
        (omega (arith, cycles, p.cycles, call.cycles_fit)) (omega (arith, quads, p.quads, call.quads_fit))

    other_runs : (a b n w : W) → PartsAt em.setting em.layout a b → (v : CoreValue) → Worth em t d w v → is_type (type_for v) pair_t ≡ false
        → Gets em lim Answer (Fails 1 (length f.sent)) t (point a (n ∷ w ∷ k ∷ S) d c q)
    other_runs a b n w at v h e = no_pair em.layout at (typed w v pair_t false h e) (failed 1 refl (omega arith) (omega arith))

    -- the parts of a pair, or failure 1
    pub pair_runs : (a b n w : W) → PartsAt em.setting em.layout a b → (g : OfTwo)
        → ((x y : CoreValue) (wx wy : W) → Worth em t d wx x → Worth em t d wy y → Answers 6 (g x y f s) b (wy ∷ wx ∷ k ∷ S))
        → (v : CoreValue) → Worth em t d w v → Gets em lim Answer (on_pair g v f s) t (point a (n ∷ w ∷ k ∷ S) d c q)
    unfolding Stands
    pair_runs a b n w at g go (Pair x y) h = parts em.layout at (typed w (Pair x y) pair_t true h refl) h.2 (go x y h.0 h.1 h.3 h.4)
    pair_runs a b n w at g go (Plain x) h = other_runs a b n w at (Plain x) h (atom_no_pair x)
    pair_runs a b n w at g go (Function u env) h = other_runs a b n w at (Function u env) h refl
    pair_runs a b n w at g go (Block u env) h = other_runs a b n w at (Block u env) h refl
    pair_runs a b n w at g go (Primitive x) h = other_runs a b n w at (Primitive x) h refl
