-- Comparison of values.
use Rattle.std.specs.Prelude.{◌==◌, Bool, true, false, not, if◌then◌else◌}
use Rattle.std.specs.Str.{bytes_eq}
use Rattle.std.specs.Ordering.{int_eq}
use Rattle.hum_meaning.specs.Value.{Parts, Atom, Undefined, Nil, Truth, Number, Symbol, Actor, Value, Plain, Pair}
use Rattle.hum_meaning.specs.Action.{Action, ◌>>=◌, ◌>>◌, pure, step}

-- two atoms are equal; symbols by name, actors where they are the same actor
abbrev pub same_atom : Atom → Atom → Bool
same_atom Undefined Undefined = true
same_atom Nil Nil = true
same_atom (Truth a) (Truth b) = if a then b else not b
same_atom (Number a) (Number b) = int_eq a b
same_atom (Symbol a) (Symbol b) = bytes_eq a b
same_atom (Actor a) (Actor b) = a == b
same_atom _ _ = false

module _ {L : Parts} where
  -- deep over pairs, head before tail, up to the first difference; a step for each two pairs that are taken apart together. A function, a
  -- block and a built-in equal nothing.
  unfoldable pub same : Value L → Value L → Action L Bool
  same (Plain a) (Plain b) = pure (same_atom a b)
  same (Pair a b) (Pair c d) = do
    step
    heads ← same a c
    if heads then same b d else pure false
  same _ _ = pure false
