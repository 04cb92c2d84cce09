-- What the numbered languages share: slots in place of names, and the numbers of units in place of functions and bodies.
use Rattle.std.specs.Prelude.{ℕ, zero, suc, true, false, List, map, Option, Some, None, slice_get}
use Rattle.hum_core.specs.declared.slot.Slot.{Slot}
use Rattle.hum_core.specs.declared.slot.Const.{Const}
use Rattle.hum_core.specs.declared.slot.Const.TheVariants as const
use Rattle.hum_meaning.specs.Value.{Parts, Atom, Undefined, Nil, Truth, Number, Symbol, Value, Function, Env, Outside, Bind, Group}

-- what a function runs: the unit of an abstraction; or `\_.[ file ]`, which is the first actor's behaviour and no unit
pub data Code : Type 0 where
  Opening : Code
  Of : ℕ → Code

-- bindings bear nothing, a choice is by arms, and a body is the number of its block's unit
abbrev pub Numbered : (Expr Pattern : Type 0) → Parts
Numbered Expr Pattern = record {
  Expr = Expr;
  Pattern = Pattern;
  Choice = List (Pattern × Expr);
  Body = ℕ;
  Abstraction = Code;
  Mark = Unit {0};
  Reference = Slot;
}

abbrev pub atom_of : Const → Atom
atom_of const.Undef = Undefined
atom_of const.Nil = Nil
atom_of const.True = Truth true
atom_of const.False = Truth false
atom_of (const.Num n) = Number n
atom_of (const.Sym name) = Symbol name

-- the functions of a group
abbrev pub members : List ℕ → List (Unit {0} × Code)
members = map (λ k. (tt, Of k))

-- ---- slots

module _ {E P : Type 0} where
  -- a group's function has the environment that begins with the group
  abbrev pub member : Option (Unit {0} × Code) → Env (Numbered E P) → Option (Value (Numbered E P))
  member (Some f) env = Some (Function f.1 env)
  member None env = None

  -- what the newest entry gives
  abbrev pub newest : Env (Numbered E P) → Option ℕ → Option (Value (Numbered E P))
  newest (Bind u v env) None = Some v
  newest (Group fs env) (Some k) = member (slice_get fs k) (Group fs env)
  newest _ _ = None

  -- the entries but the newest, and but the n newest
  abbrev pub past : Env (Numbered E P) → Env (Numbered E P)
  past Outside = Outside
  past (Bind u v env) = env
  past (Group fs env) = env

  abbrev pub behind : ℕ → Env (Numbered E P) → Env (Numbered E P)
  behind zero env = env
  behind (suc n) env = behind n (past env)

  -- what a slot finds
  abbrev pub at_slot : Env (Numbered E P) → Slot → Option (Value (Numbered E P))
  at_slot env slot = newest (behind slot.back env) slot.member
