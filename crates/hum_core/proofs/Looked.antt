-- The value of a name is at its slot.
use Rattle.std.proofs.Common.{◌≡◌, refl, ap, subst, ℕ, Bool, true, false, List, [], ◌∷◌, map, Option, Some, None, slice_get}
use Rattle.std.specs.Prelude.{if◌then◌else◌}
use Rattle.std.specs.Str.{bytes_eq}
use Rattle.hum_core.specs.declared.slot.Slot.{Slot}
use Rattle.hum_meaning.specs.Value.{Value, Function, Env, Bind, Group}
use Rattle.hum_meaning.specs.Named.{Name, Lambda, Named, written}
use Rattle.hum_meaning.specs.Look.{look, definition, member as named_member}
use Rattle.hum_core.specs.Numbered.{Code, at_slot, member}
use Rattle.hum_core.specs.CoreTrees.{Core}
use Rattle.hum_core.specs.Alike.{Scope, scope_of, Both, Each, Reading, MemberAs, Alike, function_as, AlikeEnv, outside_as, bind_as, group_as}
use Rattle.hum_core.specs.Agreement.{newest, further, next_place, place, in_group, slot_of}

some_inside : Slot → Option Slot → Slot
some_inside d None = d
some_inside d (Some y) = y

same_slot : (y z : Slot) → Some y ≡ Some z → y ≡ z
unfolding some_inside
same_slot y z e = ap (some_inside y) e

module _ (r : Reading (Named written) Core) where
  -- what a name and a slot find are alike
  abbrev FoundAs : Option (Value (Named written)) → Env Core → Slot → Type 0
  FoundAs found env slot = Both (Alike r) found (at_slot env slot)

  -- so for the slot of a name behind an entry
  abbrev AllFound : Option (Value (Named written)) → Env Core → Option Slot → Type 0
  AllFound found env o = (z : Slot) → o ≡ Some z → FoundAs found env z

  further_found : (n : Unit {0}) (w : Value Core) (env' : Env Core) (found : Option (Value (Named written))) (o : Option Slot) (y : Slot)
      → AllFound found env' o → further o ≡ Some y → FoundAs found (Bind n w env') y
  further_found n w env' found None y k e = absurd (cc)
  further_found n w env' found (Some z) y k e = subst (FoundAs found (Bind n w env')) (same_slot _ _ e) (k z refl)

  bind_found : (n : Unit {0}) (v : Value (Named written)) (w : Value Core) (env' : Env Core) (found : Option (Value (Named written)))
      (o : Option Slot) (y : Slot) → Alike r v w → AllFound found env' o → (b : Bool) → (if b then Some newest else further o) ≡ Some y
      → FoundAs (if b then Some v else found) (Bind n w env') y
  bind_found n v w env' found o y a k true e = subst (FoundAs (Some v) (Bind n w env')) (same_slot newest y e) a
  bind_found n v w env' found o y a k false e = further_found n w env' found o y k e

  -- what a group holds under a name, and at its place
  InGroup : Scope (Named written) → Option (Lambda written) → List (Unit {0} × Code) → Option ℕ → Type 0
  InGroup scope d gs None = d ≡ None
  InGroup scope d gs (Some k) = (f : Lambda written) × (g : Unit {0} × Code) × (d ≡ Some f) × (slice_get gs k ≡ Some g) × r.AbstractionAs scope f g.1

  one_on : (scope : Scope (Named written)) (d : Option (Lambda written)) (g : Unit {0} × Code) (gs : List (Unit {0} × Code)) (o : Option ℕ)
      → InGroup scope d gs o → InGroup scope d (g ∷ gs) (next_place o)
  unfolding InGroup
  one_on scope d g gs None h = h
  one_on scope d g gs (Some k) h = (h.0, h.1, h.2, h.3, h.4)

  first_or : (scope : Scope (Named written)) (f : Lambda written) (d : Option (Lambda written)) (g : Unit {0} × Code)
      (gs : List (Unit {0} × Code)) (o : Option ℕ) → r.AbstractionAs scope f g.1 → InGroup scope d gs o → (b : Bool)
      → InGroup scope (if b then Some f else d) (g ∷ gs) (if b then Some 0 else next_place o)
  unfolding InGroup
  first_or scope f d g gs o c h true = (f, g, refl, refl, c)
  first_or scope f d g gs o c h false = one_on scope d g gs o h

  in_group_of : (scope : Scope (Named written)) (fs : List (Name × Lambda written)) (gs : List (Unit {0} × Code)) (x : Name)
      → Each (MemberAs r scope) fs gs → InGroup scope (definition written fs x) gs (place (map (λ f. f.0) fs) x)
  unfolding InGroup
  in_group_of scope [] [] x c = refl
  in_group_of scope (f ∷ fs) (g ∷ gs) x c = first_or scope f.1 (definition written fs x) g gs (place (map (λ f. f.0) fs) x) c.0 (in_group_of scope fs gs x c.1) (bytes_eq f.0 x)
  in_group_of scope [] (g ∷ gs) x c = absurd c
  in_group_of scope (f ∷ fs) [] x c = absurd c

  group_further : (gs : List (Unit {0} × Code)) (env' : Env Core) (found : Option (Value (Named written))) (o : Option Slot) (y : Slot)
      → AllFound found env' o → further o ≡ Some y → FoundAs found (Group gs env') y
  group_further gs env' found None y k e = absurd (cc)
  group_further gs env' found (Some z) y k e = subst (FoundAs found (Group gs env')) (same_slot _ _ e) (k z refl)

  member_found : (fs : List (Name × Lambda written)) (gs : List (Unit {0} × Code)) (env : Env (Named written)) (env' : Env Core)
      (found : Option (Value (Named written))) (later : Option Slot) (y : Slot) → AlikeEnv r (Group fs env) (Group gs env')
      → AllFound found env' later → (d : Option (Lambda written)) (o : Option ℕ) → InGroup (scope_of (Group fs env)) d gs o
      → in_group o later ≡ Some y → FoundAs (named_member written d (Group fs env) found) (Group gs env') y
  unfolding InGroup
  member_found fs gs env env' found later y a k d (Some n) h e =
      let at_n : Both (Alike r) (Some (Function h.0 (Group fs env))) (member (Some h.1) (Group gs env')) = function_as h.4 a in
      let now : FoundAs (named_member written d (Group fs env) found) (Group gs env') (record { back = 0; member = Some n }) = rw (h.2, h.3) at_n in
      subst (FoundAs (named_member written d (Group fs env) found) (Group gs env')) (same_slot _ y e) now
  member_found fs gs env env' found later y a k d None h e = rw h (group_further gs env' found later y k e)

  pub look_as : {env : Env (Named written)} {env' : Env Core} (x : Name) (y : Slot) → AlikeEnv r env env'
      → slot_of (scope_of env) x ≡ Some y → Both (Alike r) (look written env x) (at_slot env' y)
  look_as x y outside_as e = absurd (cc)
  look_as x y (bind_as {m = m} {n = n} {v = v} {w = w} {env = env} {env' = env'} a b) e =
      bind_found n v w env' (look written env x) (slot_of (scope_of env) x) y a (λ z e. look_as x z b e) (bytes_eq m x) e
  look_as x y (group_as {fs = fs} {gs = gs} {env = env} {env' = env'} c b) e =
      member_found fs gs env env' (look written env x) (slot_of (scope_of env) x) y (group_as c b) (λ z e. look_as x z b e) (definition written fs x) (place (map (λ f. f.0) fs) x) (in_group_of _ fs gs x c) e
