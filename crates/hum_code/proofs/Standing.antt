-- What stands for a value still does in a later store and over a longer roll.
use Rattle.std.proofs.Common.{◌≡◌, subst, ℕ, List, [], ◌∷◌, ◌++◌, Option, Some, None}
use Rattle.std.specs.Prelude.{slice_get}
use Rattle.std.proofs.lemmas.Option.{slice_get_within}
use Rattle.cap_words.specs.Words.{W}
use Rattle.cap_words.specs.Seen.{Seen}
use Rattle.cap_words.proofs.Places.{get-left}
use Rattle.std.proofs.Common.{◌∙◌}
use Rattle.instr_table.specs.Types.{Grows}
use Rattle.instr_table.specs.Event.{Behaviour, Effects}
use Rattle.hum_meaning.specs.Value.{Atom, Undefined, Nil, Truth, Number, Symbol, Actor, Value, Plain, Pair, Function, Block, Primitive, Env, Outside, Bind, Group}
use Rattle.hum_meaning.specs.Action as action
use Rattle.hum_core.specs.Alike.{Both, Each}
use Rattle.hum_core.specs.Numbered.{Opening, Of}
use Rattle.hum_core.specs.TestLists.{Tests}
use Rattle.hum_code.specs.Comes.{roll_with}
use Rattle.hum_code.specs.Layout.{Layout}
use Rattle.hum_code.specs.Stands.{AtomStands, Stands, StandsEnv, StandsList, MadeStands, SentStands, NextStands, EffectsStand}

abbrev pub CoreValue : Type 0
CoreValue = Value Tests

abbrev pub CoreEnv : Type 0
CoreEnv = Env Tests

-- what an evaluation gathered
abbrev pub Gathered : Type 0
Gathered = action.Effects Tests

-- the second roll begins with the first
pub record Longer (r r' : List W) : Type 0 where
  pub keeps : (n : ℕ) (w : W) → slice_get r n ≡ Some w → slice_get r' n ≡ Some w

pub longer_same : (r : List W) → Longer r r
longer_same r = record { keeps = λ n w h. h }

pub longer_eq : {r r' : List W} → r ≡ r' → Longer r r'
longer_eq {r} e = subst (λ r'. Longer r r') e (longer_same r)

pub longer_by : (r xs : List W) → Longer r (r ++ xs)
longer_by r xs = record { keeps = λ n w h. get-left r xs n (slice_get_within r n w h) ∙ h }

pub longer_later : {r r' r'' : List W} → Longer r r' → Longer r' r'' → Longer r r''
longer_later g h = record { keeps = λ n w e. h.keeps n w (g.keeps n w e) }

module _ (lay : Layout) (s t : Seen) (r r' : List W) (g : Grows s t) (h : Longer r r') where
  pub atom_later : (w : W) (a : Atom) → AtomStands lay s r w a → AtomStands lay t r' w a
  atom_later w Undefined p = p
  atom_later w Nil p = p
  atom_later w (Truth b) p = p
  atom_later w (Number n) p = p
  atom_later w (Symbol x) p = p
  atom_later w (Actor n) p = (h.keeps n w p.0, g.keeps w _ p.1)

  mutual
    unfolding Stands StandsEnv

    pub stands_later : (w : W) (v : CoreValue) → Stands lay s r w v → Stands lay t r' w v
    stands_later w (Plain a) p = atom_later w a p
    stands_later w (Pair a b) p = (p.0, p.1, g.keeps w _ p.2, stands_later p.0 a p.3, stands_later p.1 b p.4)
    stands_later w (Function Opening env) p = absurd p
    stands_later w (Function (Of k) env) p = (p.0, g.keeps w _ p.1, env_later p.0 env p.2, p.3, p.4)
    stands_later w (Block k env) p = (p.0, g.keeps w _ p.1, env_later p.0 env p.2, p.3, p.4)
    stands_later w (Primitive b) p = p

    pub env_later : (w : W) (env : CoreEnv) → StandsEnv lay s r w env → StandsEnv lay t r' w env
    env_later w Outside p = p
    env_later w (Bind u v env) p = (p.0, p.1, g.keeps w _ p.2, stands_later p.0 v p.3, env_later p.1 env p.4)
    env_later w (Group fs env) p = (p.0, g.keeps w _ p.1, env_later p.0 env p.2)

  pub list_later : (w : W) (vs : List CoreValue) → StandsList lay s r w vs → StandsList lay t r' w vs
  list_later w [] p = p
  list_later w (v ∷ vs) p = (p.0, p.1, g.keeps w _ p.2, stands_later p.0 v p.3, list_later p.1 vs p.4)

  pub next_later : (o : Option CoreValue) (b : Option Behaviour) → Both (NextStands lay s r) o b → Both (NextStands lay t r') o b
  next_later None None p = p
  next_later (Some v) (Some b) p = (stands_later b.state v p.0, p.1)
  next_later None (Some b) p = absurd p
  next_later (Some v) None p = absurd p

module _ {A B : Type 0} where
  pub each_map : (R Q : A → B → Type 0) → ((a : A) (b : B) → R a b → Q a b) → (xs : List A) (ys : List B) → Each R xs ys → Each Q xs ys
  each_map R Q f [] [] h = h
  each_map R Q f [] (b ∷ ys) h = absurd h
  each_map R Q f (a ∷ xs) [] h = absurd h
  each_map R Q f (a ∷ xs) (b ∷ ys) h = (f a b h.0, each_map R Q f xs ys h.1)

pub effects_later : (lay : Layout) (roll : List W) (s t : Seen) (f : Gathered) (e : Effects) → Grows s t → EffectsStand lay roll s f e
    → EffectsStand lay roll t f e
effects_later lay roll s t f e g p =
    let r = roll_with roll e in
    let l = longer_same r in
    record {
      created = each_map (MadeStands lay s r) (MadeStands lay t r) (λ v m a. (stands_later lay s t r r g l m.state v a.0, a.1)) f.created e.created
          p.created;
      sent = each_map (SentStands lay s r) (SentStands lay t r) (λ v m a. (a.0, stands_later lay s t r r g l m.content v.1 a.1)) f.sent e.sent p.sent;
      next = next_later lay s t r r g l f.next e.next p.next;
    }
