-- Which words stand for which values, environments and effects.
use Rattle.std.specs.Prelude.{◌≡◌, ℕ, pos, true, List, [], ◌∷◌, Some, slice_get}
use Rattle.cap_words.specs.declared.word.Quad.{Quad}
use Rattle.cap_words.specs.Words.{W, Fix, undef, nil, truth, symbol_t, func_t, block_t, same_word}
use Rattle.cap_words.specs.Seen.{Seen}
use Rattle.cap_words.specs.Text.{is_run}
use Rattle.std.specs.Str.{bytes_eq}
use Rattle.instr_table.specs.Types.{Readable, AnActor, look_up}
use Rattle.instr_table.specs.Lists.{pair_quad}
use Rattle.instr_table.specs.Event.{Made, Sent, Behaviour, Effects}
use Rattle.hum_meaning.specs.Value.{BuiltIn, Atom, Undefined, Nil, Truth, Number, Symbol, Actor, Value, Plain, Pair, Function, Block, Primitive, Env, Outside, Bind, Group, text_value}
use Rattle.hum_meaning.specs.Action as action
use Rattle.hum_core.specs.Alike.{Both, Each}
use Rattle.hum_core.specs.Numbered.{Opening, Of}
use Rattle.hum_core.specs.TestLists.{Tests}
use Rattle.hum_code.specs.Comes.{roll_with}
use Rattle.hum_code.specs.Layout.{Layout, shape_of, IsFunction, IsBlock, number_of_primitive}

-- the words of a cell of three words
abbrev pub three_quad : W → W → W → Quad
three_quad t x y = record { t = t; x = x; y = y; z = undef }

-- the word names a readable cell with these words
abbrev pub Shows : Seen → W → Quad → Type 0
Shows s w q = look_up s w ≡ Some (Readable q)

-- the word names a pair
abbrev pub ShowsPair : Seen → W → W → W → Type 0
ShowsPair s w x y = Shows s w (pair_quad x y)

module _ (lay : Layout) (s : Seen) (roll : List W) where
  -- constants and numbers are their words; a symbol is the image's one symbol cell of that name; actor n is the n-th word of the roll
  abbrev pub AtomStands : W → Atom → Type 0
  AtomStands w Undefined = w ≡ undef
  AtomStands w Nil = w ≡ nil
  AtomStands w (Truth b) = w ≡ truth b
  AtomStands w (Number n) = w ≡ Fix n
  AtomStands w (Symbol name) = lay.symbol name ≡ Some w
  AtomStands w (Actor n) = (slice_get roll n ≡ Some w) × (look_up s w ≡ Some AnActor)

  unfoldable mutual
    -- A pair is a readable pair whose parts stand for its parts. A function is a cell with the place of its unit and a word that stands for
    -- its environment, which has the entries at the unit's place; so is a block. A built-in function is its cell. The function of the first
    -- actor is no value that a program has.
    pub Stands : W → Value Tests → Type 0
    Stands w (Plain a) = AtomStands w a
    Stands w (Pair a b) = (x : W) × (y : W) × ShowsPair s w x y × Stands x a × Stands y b
    Stands w (Function Opening env) = ⊥
    Stands w (Function (Of k) env) = (x : W) × Shows s w (three_quad func_t (lay.place k) x) × StandsEnv x env × (lay.shape k ≡ shape_of env)
        × IsFunction lay k
    Stands w (Block k env) = (x : W) × Shows s w (three_quad block_t (lay.place k) x) × StandsEnv x env × (lay.shape k ≡ shape_of env) × IsBlock lay k
    Stands w (Primitive b) = w ≡ lay.primitive b

    -- a list with an item for each entry, the newest first: what stands for a bound value, or `#?` for a group
    pub StandsEnv : W → Env Tests → Type 0
    StandsEnv w Outside = w ≡ nil
    StandsEnv w (Bind u v env) = (x : W) × (y : W) × ShowsPair s w x y × Stands x v × StandsEnv y env
    StandsEnv w (Group fs env) = (y : W) × ShowsPair s w undef y × StandsEnv y env

  -- a list of words that stand for these values
  abbrev pub StandsList : W → List (Value Tests) → Type 0
  StandsList w [] = w ≡ nil
  StandsList w (v ∷ vs) = (x : W) × (y : W) × ShowsPair s w x y × Stands x v × StandsList y vs

  -- an actor that is made, with the code that applies a behaviour
  abbrev pub MadeStands : Value Tests → Made → Type 0
  MadeStands v made = Stands made.state v × (made.code ≡ lay.apply)

  abbrev pub SentStands : ℕ × Value Tests → Sent → Type 0
  SentStands p sent = (slice_get roll p.0 ≡ Some sent.target) × Stands sent.content p.1

  abbrev pub NextStands : Value Tests → Behaviour → Type 0
  NextStands v b = Stands b.state v × (b.code ≡ lay.apply)

-- a record stands for what an evaluation gathered, over the roll that it extends
pub record EffectsStand (lay : Layout) (roll : List W) (s : Seen) (f : action.Effects Tests) (e : Effects) : Type 0 where
  pub created : Each (MadeStands lay s (roll_with roll e)) f.created e.created
  pub sent : Each (SentStands lay s (roll_with roll e)) f.sent e.sent
  pub next : Both (NextStands lay s (roll_with roll e)) f.next e.next

-- What the image has of symbols and of the built-in functions. The name of a symbol is a run; the layout names one cell of it, which has the
-- list of its bytes, and is that of no other name. A built-in function's cell has its code, and its number in place of an environment.
pub record DataStand (lay : Layout) (s : Seen) : Type 0 where
  pub runs : (name : List ℕ) (w : W) → lay.symbol name ≡ Some w → is_run name ≡ true
  pub symbols : (name : List ℕ) (w : W) → lay.symbol name ≡ Some w
      → (bytes : W) × Shows s w (three_quad symbol_t bytes undef) × Stands lay s [] bytes (text_value name)
  pub names : (a b : List ℕ) (v w : W) → lay.symbol a ≡ Some v → lay.symbol b ≡ Some w → same_word v w ≡ bytes_eq a b
  pub primitives : (b : BuiltIn) → Shows s (lay.primitive b) (three_quad func_t (lay.routine b) (Fix (pos (number_of_primitive b))))
