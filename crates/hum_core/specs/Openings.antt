-- The configuration that a numbered program begins with.
use Rattle.std.specs.Prelude.{List, [], ◌∷◌, ◌++◌, map}
use Rattle.hum_meaning.specs.Value.{built_ins, Nil, Actor, Value, Plain, Function, Primitive, Env, Outside, Bind, Device, Answers}
use Rattle.hum_meaning.specs.Deliver.{Configuration}
use Rattle.hum_core.specs.Numbered.{Opening, Numbered}

module _ {E P : Type 0} where
  -- what the outermost environment binds, the oldest first: the built-in functions by number, then the devices
  abbrev pub outermost_values : List (Value (Numbered E P))
  outermost_values = map Primitive built_ins ++ Plain (Actor 1) ∷ Plain (Actor 2) ∷ []

  -- binds one after the other, so that the last is the newest
  abbrev pub bind_all : List (Value (Numbered E P)) → Env (Numbered E P) → Env (Numbered E P)
  bind_all [] env = env
  bind_all (v ∷ more) env = bind_all more (Bind tt v env)

  abbrev pub outermost : Env (Numbered E P)
  outermost = bind_all outermost_values Outside

  -- actor 0 has the function of the file in the outermost environment, and message 0 is NIL to it; the devices are actors 1 and 2
  abbrev pub opening : Configuration (Numbered E P)
  opening = record {
    behaviours = Answers (Function Opening outermost) ∷ Device 0 ∷ Device 1 ∷ [];
    pending = record { number = 0; target = 0; value = Plain Nil } ∷ [];
    next_number = 1;
    output = [];
  }
