-- The type of a word that stands for a value.
use Rattle.std.proofs.Common.{◌≡◌, ap, ◌∙◌, List, Option, Some, None, true, false}
use Rattle.cap_words.specs.Words.{W, fixnum_t, symbol_t, pair_t, actor_t, func_t, block_t}
use Rattle.cap_words.specs.Seen.{Seen}
use Rattle.instr_table.specs.Types.{Grows, look_up, type_in, type_of, is_type}
use Rattle.hum_meaning.specs.Value.{Atom, Undefined, Nil, Truth, Number, Symbol, Actor, Plain, Pair, Function, Block, Primitive}
use Rattle.hum_core.specs.Numbered.{Opening, Of}
use Rattle.hum_code.specs.Layout.{Layout}
use Rattle.hum_code.specs.Stands.{AtomStands, Stands, DataStand}
use Rattle.hum_code.proofs.World.{later}
use Rattle.hum_code.proofs.Standing.{CoreValue, longer_same, stands_later}

abbrev pub atom_type : Atom → Option W
atom_type (Number n) = Some fixnum_t
atom_type (Symbol x) = Some symbol_t
atom_type (Actor n) = Some actor_t
atom_type _ = None

abbrev pub type_for : CoreValue → Option W
type_for (Plain a) = atom_type a
type_for (Pair a b) = Some pair_t
type_for (Function u env) = Some func_t
type_for (Block u env) = Some block_t
type_for (Primitive b) = Some func_t

module _ (base : Seen) (lay : Layout) (cells : DataStand lay base) (t : Seen) (r : List W) (g : Grows base t) where
  atom_type_is : (w : W) (a : Atom) → AtomStands lay t r w a → type_of t w ≡ atom_type a
  unfolding look_up
  atom_type_is w Undefined h = ap (λ w. type_of t w) h
  atom_type_is w Nil h = ap (λ w. type_of t w) h
  atom_type_is w (Truth true) h = ap (λ w. type_of t w) h
  atom_type_is w (Truth false) h = ap (λ w. type_of t w) h
  atom_type_is w (Number n) h = ap (λ w. type_of t w) h
  atom_type_is w (Symbol x) h = ap (λ o. type_in o w) (g.keeps w _ (cells.symbols x w h).1)
  atom_type_is w (Actor n) h = ap (λ o. type_in o w) h.1

  pub type_is : (w : W) (v : CoreValue) → Stands lay t r w v → type_of t w ≡ type_for v
  unfolding Stands
  type_is w (Plain a) h = atom_type_is w a h
  type_is w (Pair a b) h = ap (λ o. type_in o w) h.2
  type_is w (Function Opening env) h = absurd h
  type_is w (Function (Of k) env) h = ap (λ o. type_in o w) h.1
  type_is w (Block u env) h = ap (λ o. type_in o w) h.1
  type_is w (Primitive b) h = ap (λ w. type_of t w) h ∙ ap (λ o. type_in o (lay.primitive b)) (g.keeps (lay.primitive b) _ (cells.primitives b))

-- in each later store
pub type_later : (base : Seen) (lay : Layout) → DataStand lay base → (t : Seen) (r : List W) → Grows base t → (w : W) (v : CoreValue)
    → Stands lay t r w v
    → (x : W) (u : Seen) → Grows t u → is_type (type_of u w) x ≡ is_type (type_for v) x
type_later base lay cells t r g w v h x u i = ap (λ o. is_type o x) (type_is base lay cells u r (later g i) w v
    (stands_later lay t u r r i (longer_same r) w v h))
