-- What code comes to, by the outcome of what it stands for.
use Rattle.std.proofs.Common.{◌≡◌, refl, sym, subst, ℕ, suc, ◌+◌, ◌*◌, ◌≤◌, ◌<◌, pos, negsuc, List, ◌∷◌, length, arith}
use Rattle.cap_words.specs.Words.{W, Fix}
use Rattle.cap_words.specs.Seen.{Seen}
use Rattle.instr_table.specs.declared.op.Op.TheVariants.{End}
use Rattle.instr_table.specs.Types.{Grows}
use Rattle.instr_table.specs.Event.{Effects}
use Rattle.instr_table.specs.Sheet.{Account}
use Rattle.instr_table.specs.Outcome.{faults}
use Rattle.hum_meaning.specs.Action.{Outcome, Gives, Fails, Undecided, and_then}
use Rattle.hum_meaning.specs.Language.{Evaluator}
use Rattle.hum_core.specs.declared.tested.TestExpr.{TestExpr}
use Rattle.hum_core.specs.TestLists.{Tests}
use Rattle.hum_code.specs.Bounds.{Limits}
use Rattle.hum_code.specs.Comes.{Setting, Point, point, roll_with, row_of, Comes, here}
use Rattle.hum_code.specs.Layout.{shape_of}
use Rattle.hum_code.specs.Stands.{Stands, StandsEnv, EffectsStand}
use Rattle.hum_code.specs.Code.{Codes}
use Rattle.hum_code.specs.Runtime.{FailAt, IsFailure}
use Rattle.hum_code.specs.Emission.{Emission}
use Rattle.hum_code.proofs.Composing.{and_on, row_there}
use Rattle.hum_code.proofs.Steps.{push}
use Rattle.hum_code.proofs.Standing.{CoreValue, CoreEnv, Gathered, Longer, longer_same, longer_later, env_later, effects_later, stands_later}

-- the outcome of an evaluation
abbrev pub Ends : Type 0 → Type 0
Ends A = Outcome Tests A

-- what a point is to be, by a result, what was gathered and the steps left
abbrev pub Goal : Type 0 → Type 1
Goal A = A → Gathered → ℕ → Seen → Point → Type 0

-- the next instruction fails the event with a code, after so many sends
pub record Aborts (m : Setting) (lim : Limits) (code sends : ℕ) (t : Seen) (l : Point) : Type 0 where
  pub row : (sheet : List Account) → row_of m t sheet l ≡ faults 0 0 (Fix (pos code))
  pub cycles : suc l.cycles ≤ lim.most
  pub quads : l.quads ≤ lim.most
  pub counted : length l.effects.sent ≡ sends
  pub events : l.events ≡ length l.effects.sent

abbrev pub Result : {A : Type 0} (m : Setting) (lim : Limits) → Goal A → Ends A → Seen → Point → Type 0
Result m lim P (Gives a f left) = P a f left
Result m lim P (Fails code sends) = Aborts m lim code sends
Result m lim P Undecided = λ t l. lim.least ≤ l.cycles

-- one outcome and what follows it
pub bind_comes : {A B : Type 0} (m : Setting) (lim : Limits) (P : Goal A) (Q : Goal B) (o : Ends A) (g : A → Gathered → ℕ → Ends B) (s : Seen)
    (l : Point)
    → Grows m.base s → Comes m lim.most (Result m lim P o) s l
    → ((a : A) (f : Gathered) (left : ℕ) (t : Seen) (n : Point) → Grows s t → Grows m.base t → P a f left t n
    → Comes m lim.most (Result m lim Q (g a f left)) t n)
    → Comes m lim.most (Result m lim Q (and_then o g)) s l
bind_comes m lim P Q (Gives a f left) g s l b h k = and_on m lim.most (P a f left) (Result m lim Q (g a f left)) s l b h (k a f left)
bind_comes m lim P Q (Fails code sends) g s l b h k = h
bind_comes m lim P Q Undecided g s l b h k = h

-- the next instructions fail the event
pub failing_at : (m : Setting) (lim : Limits) (code sends : ℕ) (a : W) (F : FailAt m code a) (t : Seen) (vs : List W) (d : Effects) (c q : ℕ)
    → length d.sent ≡ sends
    → 2 + c ≤ lim.most → 2 + q ≤ lim.most → Comes m lim.most (Aborts m lim code sends) t (point a vs d c q)
failing_at m lim code sends a F t vs d c q n p o =
    push F.pushes (here (λ u g b. record {
      row = λ sheet. row_there m lim.most (End (negsuc 0)) F.b F.k u sheet (point F.b (Fix (pos code) ∷ vs) d (suc c) (1 + q)) refl F.aborts b;
      cycles = omega (arith, p);
      quads = omega (arith, o);
      counted = n;
      events = refl;
    }))

pub and_then_gives : {A : Type 0} (o : Ends A) → and_then o (λ a f left. Gives a f left) ≡ o
and_then_gives (Gives a f left) = refl
and_then_gives (Fails code sends) = refl
and_then_gives Undecided = refl

-- undecided where the steps are used up
pub runs_on : (m : Setting) (lim : Limits) (t : Seen) (a : W) (vs : List W) (d : Effects) (c q : ℕ) → lim.least ≤ c
    → Comes m lim.most (λ t l. lim.least ≤ l.cycles) t (point a vs d c q)
runs_on m lim t a vs d c q h = here (λ u g b. h)

module _ (em : Emission) where
  -- the word stands for the value, or for the environment, and the record for what was gathered
  abbrev pub Worth : Seen → Effects → W → CoreValue → Type 0
  Worth t d w v = Stands em.layout t (roll_with em.setting.roll d) w v

  abbrev pub WorthEnv : Seen → Effects → W → CoreEnv → Type 0
  WorthEnv t d w env = StandsEnv em.layout t (roll_with em.setting.roll d) w env

  abbrev pub Recorded : Seen → Gathered → Effects → Type 0
  Recorded t f d = EffectsStand em.layout em.setting.roll t f d

  abbrev pub Extends : (d d' : Effects) → Type 0
  Extends d d' = Longer (roll_with em.setting.roll d) (roll_with em.setting.roll d')

  -- A value is there in the store t as the word w, with the record d' after c' cycles and q' quads. What was spent since (d, c, q) is at
  -- most 64 cycles and 64 quads for each of the steps from s to `left`, of which `spare` are not spent, and `over` besides.
  pub record Facts (spare over : ℕ) (d : Effects) (c q s : ℕ) (v : CoreValue) (f : Gathered) (left : ℕ) (t : Seen) (w : W) (d' : Effects)
      (c' q' : ℕ) : Type 0 where
    pub stands : Worth t d' w v
    pub record_stands : Recorded t f d'
    pub longer : Extends d d'
    pub cycles_in : c' + spare + 64 * left ≤ c + over + 64 * s
    pub quads_in : q' + spare + 64 * left ≤ q + over + 64 * s
    pub steps : c + s ≤ c' + left

  -- the point has the word of a value on top of S and goes on at k
  pub record Valued (spare over : ℕ) (k : W) (S : List W) (d : Effects) (c q s : ℕ) (v : CoreValue) (f : Gathered) (left : ℕ) (t : Seen)
      (l : Point) : Type 0 where
    pub word : W
    pub effects : Effects
    pub cycles : ℕ
    pub quads : ℕ
    pub is : l ≡ point k (word ∷ S) effects cycles quads
    pub facts : Facts spare over d c q s v f left t word effects cycles quads

  -- what was run is done
  pub record Done (over : ℕ) (d : Effects) (c q s : ℕ) (f : Gathered) (left : ℕ) (t : Seen) (d' : Effects) (c' q' : ℕ) : Type 0 where
    pub record_stands : Recorded t f d'
    pub longer : Extends d d'
    pub cycles_in : c' + 64 * left ≤ c + over + 64 * s
    pub quads_in : q' + 64 * left ≤ q + over + 64 * s
    pub steps : c + s ≤ c' + left

  -- and the point goes on at k with S
  pub record Ran (over : ℕ) (k : W) (S : List W) (d : Effects) (c q s : ℕ) (u : Unit {0}) (f : Gathered) (left : ℕ) (t : Seen)
      (l : Point) : Type 0 where
    pub effects : Effects
    pub cycles : ℕ
    pub quads : ℕ
    pub is : l ≡ point k S effects cycles quads
    pub facts : Done over d c q s f left t effects cycles quads

  -- code for an environment may run from here, with s steps, and with `slack` to spend besides
  pub record Ready (lim : Limits) (slack : ℕ) (env : CoreEnv) (x : W) (d : Effects) (c q s : ℕ) (f : Gathered) (t : Seen) : Type 0 where
    pub above : Grows em.setting.base t
    pub env_stands : WorthEnv t d x env
    pub record_stands : Recorded t f d
    pub cycles_fit : c + slack + 64 * s ≤ lim.most
    pub quads_fit : q + slack + 64 * s ≤ lim.most
    pub least_in : lim.least ≤ c + s

  -- what the code of an expression does with fewer than n steps
  pub record Evaluates (lim : Limits) (n : ℕ) (codes : Codes) (eval : Evaluator Tests) : Type 0 where
    pub at : (e : TestExpr) (a k x : W) (S : List W) (env : CoreEnv) (d : Effects) (c q s : ℕ) (f : Gathered) (t : Seen)
        → codes.ExprAt (shape_of env) e a k → s < n → Ready lim 0 env x d c q s f t
        → Comes em.setting lim.most (Result em.setting lim (Valued 16 0 k S d c q s) (eval e env f s)) t (point a (x ∷ S) d c q)

  module _ (lim : Limits) where
    -- from a point whose store and charges are these, the event comes to what the outcome says
    abbrev pub Gets : {A : Type 0} → Goal A → Ends A → Seen → Point → Type 0
    Gets P o t l = Comes em.setting lim.most (Result em.setting lim P o) t l

    facts_later : (spare over : ℕ) (d : Effects) (c q s : ℕ) (v : CoreValue) (f : Gathered) (left : ℕ) (t u : Seen) (w : W) (d' : Effects)
        (c' q' : ℕ) → Grows t u
        → Facts spare over d c q s v f left t w d' c' q' → Facts spare over d c q s v f left u w d' c' q'
    facts_later spare over d c q s v f left t u w d' c' q' g h = record {
      stands = stands_later em.layout t u _ _ g (longer_same _) w v h.stands;
      record_stands = effects_later em.layout em.setting.roll t u f d' g h.record_stands;
      longer = h.longer;
      cycles_in = h.cycles_in;
      quads_in = h.quads_in;
      steps = h.steps;
    }

    -- the value is there
    pub valued : (spare over : ℕ) (k : W) (S : List W) (d : Effects) (c q s : ℕ) (v : CoreValue) (f : Gathered) (left : ℕ) (t : Seen) (w : W)
        (d' : Effects) (c' q' : ℕ)
        → Facts spare over d c q s v f left t w d' c' q' → Comes em.setting lim.most (Valued spare over k S d c q s v f left) t
        (point k (w ∷ S) d' c' q')
    valued spare over k S d c q s v f left t w d' c' q' h =
        here (λ u g b. record {
          word = w;
          effects = d';
          cycles = c';
          quads = q';
          is = refl;
          facts = facts_later spare over d c q s v f left t u w
              d' c' q' g h;
        })

    -- a start that leaves no less
    pub widen : (spare over spare' over' : ℕ) (k : W) (S : List W) (d d' : Effects) (c q s c' q' s' : ℕ) (o : Ends CoreValue) (t : Seen)
        (l : Point) → Grows em.setting.base t
        → Extends d' d → c + over + 64 * s + spare' ≤ c' + over' + 64 * s' + spare → q + over + 64 * s + spare' ≤ q' + over' + 64 * s' + spare
        → c' + s' ≤ c + s
        → Gets (Valued spare over k S d c q s) o t l → Gets (Valued spare' over' k S d' c' q' s') o t l
    widen spare over spare' over' k S d d' c q s c' q' s' (Gives v f left) t l b g p i n h =
        and_on em.setting lim.most _ _ t l b h (λ u e j y a. here (λ w z y'. record {
          word = a.word;
          effects = a.effects;
          cycles = a.cycles;
          quads = a.quads;
          is = a.is;
          facts = facts_later spare' over' d' c' q' s' v f left u w a.word a.effects a.cycles a.quads z (record {
            stands = a.facts.stands;
            record_stands = a.facts.record_stands;
            longer = longer_later g a.facts.longer;
            cycles_in = omega (arith, p, a.facts.cycles_in);
            quads_in = omega (arith, i, a.facts.quads_in);
            steps = omega (arith, n, a.facts.steps);
          });
        }))
    widen spare over spare' over' k S d d' c q s c' q' s' (Fails code sends) t l b g p i n h = h
    widen spare over spare' over' k S d d' c q s c' q' s' Undecided t l b g p i n h = h

    -- going on with a value
    pub then_value : {B : Type 0} (Q : Goal B) (spare over : ℕ) (k : W) (S : List W) (d : Effects) (c q s : ℕ) (o : Ends CoreValue)
        (g : CoreValue → Gathered → ℕ → Ends B) (t : Seen) (l : Point)
        → Grows em.setting.base t → Gets (Valued spare over k S d c q s) o t l
        → ((v : CoreValue) (f : Gathered) (left : ℕ) (u : Seen) (w : W) (d' : Effects) (c' q' : ℕ) → Grows t u → Grows em.setting.base u
        → Facts spare over d c q s v f left u w d' c' q' → Gets Q (g v f left) u (point k (w ∷ S) d' c' q'))
        → Gets Q (and_then o g) t l
    then_value Q spare over k S d c q s o g t l b h n =
        bind_comes em.setting lim (Valued spare over k S d c q s) Q o g t l b h
        (λ v f left u p i j a. subst (λ p. Gets Q (g v f left) u p) (sym a.is) (n v f left u a.word a.effects a.cycles a.quads i j a.facts))

    -- the same environment further on
    pub ready_at : (slack slack' : ℕ) (env : CoreEnv) (x : W) (d : Effects) (c q s : ℕ) (f : Gathered) (t : Seen) (d' : Effects) (c' q' left : ℕ)
        (f' : Gathered) (u : Seen)
        → Ready lim slack env x d c q s f t → Grows t u → Grows em.setting.base u → Extends d d' → Recorded u f' d'
        → c' + slack' + 64 * left ≤ c + slack + 64 * s → q' + slack' + 64 * left ≤ q + slack + 64 * s → c + s ≤ c' + left
        → Ready lim slack' env x d' c' q' left f' u
    ready_at slack slack' env x d c q s f t d' c' q' left f' u h g b l e p o n = record {
      above = b;
      env_stands = env_later em.layout t u _ _ g l x env h.env_stands;
      record_stands = e;
      cycles_fit = omega (arith, p, h.cycles_fit);
      quads_fit = omega (arith, o, h.quads_fit);
      least_in = omega (arith, n, h.least_in);
    }

    pub ran : (over : ℕ) (k : W) (S : List W) (d : Effects) (c q s : ℕ) (f : Gathered) (left : ℕ) (t : Seen) (d' : Effects) (c' q' : ℕ)
        → Done over d c q s f left t d' c' q'
        → Comes em.setting lim.most (Ran over k S d c q s tt f left) t (point k S d' c' q')
    ran over k S d c q s f left t d' c' q' h = here (λ u g b. record {
      effects = d';
      cycles = c';
      quads = q';
      is = refl;
      facts = record {
        record_stands = effects_later em.layout em.setting.roll t u f d' g h.record_stands;
        longer = h.longer;
        cycles_in = h.cycles_in;
        quads_in = h.quads_in;
        steps = h.steps;
      };
    })

    pub widen_ran : (over over' : ℕ) (k : W) (S : List W) (d d' : Effects) (c q s c' q' s' : ℕ) (o : Ends (Unit {0})) (t : Seen) (l : Point)
        → Grows em.setting.base t
        → Extends d' d → c + over + 64 * s ≤ c' + over' + 64 * s' → q + over + 64 * s ≤ q' + over' + 64 * s' → c' + s' ≤ c + s
        → Gets (Ran over k S d c q s) o t l → Gets (Ran over' k S d' c' q' s') o t l
    widen_ran over over' k S d d' c q s c' q' s' (Gives v f left) t l b g p i n h =
        and_on em.setting lim.most _ _ t l b h (λ u e j y a. here (λ w z y'. record {
          effects = a.effects;
          cycles = a.cycles;
          quads = a.quads;
          is = a.is;
          facts = record {
            record_stands = effects_later em.layout em.setting.roll u w f a.effects z a.facts.record_stands;
            longer = longer_later g a.facts.longer;
            cycles_in = omega (arith, p, a.facts.cycles_in);
            quads_in = omega (arith, i, a.facts.quads_in);
            steps = omega (arith, n, a.facts.steps);
          };
        }))
    widen_ran over over' k S d d' c q s c' q' s' (Fails code sends) t l b g p i n h = h
    widen_ran over over' k S d d' c q s c' q' s' Undecided t l b g p i n h = h

    -- going on after something was run
    pub then_ran : {B : Type 0} (Q : Goal B) (over : ℕ) (k : W) (S : List W) (d : Effects) (c q s : ℕ) (o : Ends (Unit {0}))
        (g : Unit {0} → Gathered → ℕ → Ends B) (t : Seen) (l : Point)
        → Grows em.setting.base t → Gets (Ran over k S d c q s) o t l
        → ((v : Unit {0}) (f : Gathered) (left : ℕ) (u : Seen) (d' : Effects) (c' q' : ℕ) → Grows t u → Grows em.setting.base u
        → Done over d c q s f left u d' c' q' → Gets Q (g v f left) u (point k S d' c' q'))
        → Gets Q (and_then o g) t l
    then_ran Q over k S d c q s o g t l b h n =
        bind_comes em.setting lim (Ran over k S d c q s) Q o g t l b h
        (λ v f left u p i j a. subst (λ p. Gets Q (g v f left) u p) (sym a.is) (n v f left u a.effects a.cycles a.quads i j a.facts))

    -- the fixed code fails the event
    pub fails_at : (code sends : ℕ) → IsFailure code → (t : Seen) (vs : List W) (d : Effects) (c q : ℕ) → length d.sent ≡ sends → 2 + c ≤ lim.most
        → 2 + q ≤ lim.most
        → Comes em.setting lim.most (Aborts em.setting lim code sends) t (point (em.layout.fail code) vs d c q)
    fails_at code sends i t vs d c q = failing_at em.setting lim code sends (em.layout.fail code) (em.code.runtime.fails code i) t vs d c q
