-- What tests come to.
use Rattle.std.proofs.Common.{◌≡◌, refl, ℕ, ◌+◌, ◌*◌, ◌≤◌, List, ◌∷◌, length, Some, None, arith}
use Rattle.cap_words.specs.Words.{W}
use Rattle.cap_words.specs.Seen.{Seen}
use Rattle.instr_table.specs.Types.{Grows}
use Rattle.instr_table.specs.Event.{Effects}
use Rattle.hum_meaning.specs.Value.{Entry, extend}
use Rattle.hum_meaning.specs.Action.{Gives, Fails, Undecided}
use Rattle.hum_meaning.specs.Language.{Matched}
use Rattle.hum_core.specs.TestLists.{Tests}
use Rattle.hum_code.specs.Bounds.{Limits}
use Rattle.hum_code.specs.Comes.{Point, point, roll_with, Comes, here}
use Rattle.hum_code.specs.Stands.{StandsList}
use Rattle.hum_code.specs.Emission.{Emission}
use Rattle.hum_code.proofs.Composing.{and_on}
use Rattle.hum_code.proofs.Standing.{CoreValue, CoreEnv, Gathered, longer_same, longer_later, env_later, effects_later}
use Rattle.hum_code.proofs.Results.{Ends, Goal, WorthEnv, Recorded, Extends, Gets}

-- what a pattern has bound
abbrev pub Entries : Type 0
Entries = List (Entry Tests)

module _ (em : Emission) where
  -- The word y is a list of words that stand for the values that are still to be tested, and x stands for the environment with the entries
  -- so far.
  pub record Testing (lim : Limits) (env : CoreEnv) (vs : List CoreValue) (es : Entries) (y x : W) (d : Effects) (c q s : ℕ) (f : Gathered)
      (t : Seen) : Type 0 where
    pub above : Grows em.setting.base t
    pub list_stands : StandsList em.layout t (roll_with em.setting.roll d) y vs
    pub env_stands : WorthEnv em t d x (extend es env)
    pub record_stands : Recorded em t f d
    pub cycles_fit : c + 64 * s ≤ lim.most
    pub quads_fit : q + 64 * s ≤ lim.most
    pub least_in : lim.least ≤ c + s

  -- the tests are done, with these entries
  pub record Fits (env : CoreEnv) (bound : ℕ) (k : W) (S : List W) (d : Effects) (c q s : ℕ) (es : Entries) (f : Gathered) (left : ℕ) (t : Seen)
      (l : Point) : Type 0 where
    pub values : W
    pub word : W
    pub effects : Effects
    pub cycles : ℕ
    pub quads : ℕ
    pub is : l ≡ point k (values ∷ word ∷ S) effects cycles quads
    pub bound_is : length es ≡ bound
    pub env_stands : WorthEnv em t effects word (extend es env)
    pub record_stands : Recorded em t f effects
    pub longer : Extends em d effects
    pub cycles_in : cycles + 64 * left ≤ c + 64 * s
    pub quads_in : quads + 64 * left ≤ q + 64 * s
    pub steps : c + s ≤ cycles + left

  -- a test failed
  pub record Misses (miss : W) (S : List W) (d : Effects) (c q s : ℕ) (f : Gathered) (left : ℕ) (t : Seen) (l : Point) : Type 0 where
    pub first : W
    pub second : W
    pub effects : Effects
    pub cycles : ℕ
    pub quads : ℕ
    pub is : l ≡ point miss (first ∷ second ∷ S) effects cycles quads
    pub record_stands : Recorded em t f effects
    pub longer : Extends em d effects
    pub cycles_in : cycles + 16 + 64 * left ≤ c + 64 * s
    pub quads_in : quads + 16 + 64 * left ≤ q + 64 * s
    pub steps : c + s ≤ cycles + left

  abbrev pub Tried : (env : CoreEnv) (bound : ℕ) (k miss : W) (S : List W) (d : Effects) (c q s : ℕ) → Goal (Matched Tests)
  Tried env bound k miss S d c q s (Some es) f left = Fits env bound k S d c q s es f left
  Tried env bound k miss S d c q s None f left = Misses miss S d c q s f left

  module _ (lim : Limits) (env : CoreEnv) (bound : ℕ) (k miss : W) (S : List W) where
    pub widen_tried : (d d' : Effects) (c q s c' q' s' : ℕ) (o : Ends (Matched Tests)) (t : Seen) (l : Point) → Grows em.setting.base t
        → Extends em d' d
        → c + 64 * s ≤ c' + 64 * s' → q + 64 * s ≤ q' + 64 * s' → c' + s' ≤ c + s
        → Gets em lim (Tried env bound k miss S d c q s) o t l → Gets em lim (Tried env bound k miss S d' c' q' s') o t l
    widen_tried d d' c q s c' q' s' (Gives (Some es) f left) t l b g p i n h = and_on em.setting lim.most _ _ t l b h (λ u e j y a.
        here (λ w z y'. record {
          values = a.values;
          word = a.word;
          effects = a.effects;
          cycles = a.cycles;
          quads = a.quads;
          is = a.is;
          bound_is = a.bound_is;
          env_stands = env_later em.layout u w _ _ z (longer_same _) a.word (extend es env) a.env_stands;
          record_stands = effects_later em.layout em.setting.roll u w f a.effects z a.record_stands;
          longer = longer_later g a.longer;
          cycles_in = omega (arith, p, a.cycles_in);
          quads_in = omega (arith, i, a.quads_in);
          steps = omega (arith, n, a.steps);
        }))
    widen_tried d d' c q s c' q' s' (Gives None f left) t l b g p i n h = and_on em.setting lim.most _ _ t l b h (λ u e j y a.
        here (λ w z y'. record {
          first = a.first;
          second = a.second;
          effects = a.effects;
          cycles = a.cycles;
          quads = a.quads;
          is = a.is;
          record_stands = effects_later em.layout em.setting.roll u w f a.effects z a.record_stands;
          longer = longer_later g a.longer;
          cycles_in = omega (arith, p, a.cycles_in);
          quads_in = omega (arith, i, a.quads_in);
          steps = omega (arith, n, a.steps);
        }))
    widen_tried d d' c q s c' q' s' (Fails code sends) t l b g p i n h = h
    widen_tried d d' c q s c' q' s' Undecided t l b g p i n h = h

    pub fits : (es : Entries) (d : Effects) (c q s : ℕ) (f : Gathered) (t : Seen) (y x : W) → length es ≡ bound → WorthEnv em t d x (extend es env)
        → Recorded em t f d
        → Comes em.setting lim.most (Fits env bound k S d c q s es f s) t (point k (y ∷ x ∷ S) d c q)
    fits es d c q s f t y x n h e = here (λ u g b. record {
      values = y;
      word = x;
      effects = d;
      cycles = c;
      quads = q;
      is = refl;
      bound_is = n;
      env_stands = env_later em.layout t u _ _ g (longer_same _) x (extend es env) h;
      record_stands = effects_later em.layout em.setting.roll t u f d g e;
      longer = longer_same _;
      cycles_in = omega arith;
      quads_in = omega arith;
      steps = omega arith;
    })

    pub misses : (d d' : Effects) (c q s c' q' s' : ℕ) (f : Gathered) (t : Seen) (y x : W) → Recorded em t f d' → Extends em d d'
        → c' + 16 + 64 * s' ≤ c + 64 * s
        → q' + 16 + 64 * s' ≤ q + 64 * s → c + s ≤ c' + s'
        → Comes em.setting lim.most (Misses miss S d c q s f s') t (point miss (y ∷ x ∷ S) d' c' q')
    misses d d' c q s c' q' s' f t y x e g p i n = here (λ u j b. record {
      first = y;
      second = x;
      effects = d';
      cycles = c';
      quads = q';
      is = refl;
      record_stands = effects_later em.layout em.setting.roll t u f d' j e;
      longer = g;
      cycles_in = p;
      quads_in = i;
      steps = n;
    })
