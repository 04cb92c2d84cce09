-- What a name finds in an environment, and the environment outside all programs.
use Rattle.std.specs.Prelude.{List, [], ◌∷◌, ◌++◌, map, if◌then◌else◌, Option, Some, None, codes}
use Rattle.std.specs.Str.{bytes_eq}
use Rattle.hum_meaning.specs.Value.{BuiltIn, built_ins, Add, Sub, Mul, Compare, Less, LessEqual, Greater, GreaterEqual, Equal, And, Or, Not, Actor, Value, Plain, Function, Primitive, Env, Outside, Bind, Group}
use Rattle.hum_meaning.specs.Named.{Name, Trees, Lambda, Named}

-- how a built-in function is written
abbrev pub built_in_name : BuiltIn → Name
built_in_name Add = codes "add"
built_in_name Sub = codes "sub"
built_in_name Mul = codes "mul"
built_in_name Compare = codes "compare"
built_in_name Less = codes "less"
built_in_name LessEqual = codes "less_equal"
built_in_name Greater = codes "greater"
built_in_name GreaterEqual = codes "greater_equal"
built_in_name Equal = codes "equal"
built_in_name And = codes "and"
built_in_name Or = codes "or"
built_in_name Not = codes "not"

module _ (t : Trees) where
  -- the function of that name in a group
  abbrev pub definition : List (Name × Lambda t) → Name → Option (Lambda t)
  definition [] name = None
  definition (d ∷ more) name = if bytes_eq d.0 name then Some d.1 else definition more name

  -- a group's function has the environment that begins with the group; where the group has none, what stands behind it
  abbrev pub member : Option (Lambda t) → Env (Named t) → Option (Value (Named t)) → Option (Value (Named t))
  member (Some f) env behind = Some (Function f env)
  member None env behind = behind

  -- the newest entry that has the name
  abbrev pub look : Env (Named t) → Name → Option (Value (Named t))
  look Outside name = None
  look (Bind n v env) name = if bytes_eq n name then Some v else look env name
  look (Group fs env) name = member (definition fs name) (Group fs env) (look env name)

  -- ---- the outermost environment

  -- the built-in functions by number, then the devices
  abbrev pub outermost_names : List (Name × Value (Named t))
  outermost_names = map (λ b. (built_in_name b, Primitive b)) built_ins ++ (codes "println", Plain (Actor 1)) ∷ (codes "say", Plain (Actor 2)) ∷ []

  -- binds one after the other, so that the last is the newest
  abbrev pub bind_all : List (Name × Value (Named t)) → Env (Named t) → Env (Named t)
  bind_all [] env = env
  bind_all (b ∷ more) env = bind_all more (Bind b.0 b.1 env)

  abbrev pub outermost : Env (Named t)
  outermost = bind_all outermost_names Outside
