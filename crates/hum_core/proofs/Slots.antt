-- A slot finds values that are alike in environments that are alike.
use Rattle.std.proofs.Common.{◌≡◌, refl, subst, ℕ, zero, suc, List, [], ◌∷◌, Option, Some, None, slice_get}
use Rattle.hum_core.specs.declared.slot.Slot.{Slot}
use Rattle.hum_meaning.specs.Value.{Env, Group}
use Rattle.hum_core.specs.Numbered.{Code, Numbered, member, newest, past, behind, at_slot}
use Rattle.hum_core.specs.Alike.{Scope, scope_of, Both, Each, Reading, MemberAs, Alike, function_as, AlikeEnv, outside_as, bind_as, group_as}

module _ {E P F Q : Type 0} (r : Reading (Numbered E P) (Numbered F Q)) where
  past_as : {env : Env (Numbered E P)} {env' : Env (Numbered F Q)} → AlikeEnv r env env' → AlikeEnv r (past env) (past env')
  past_as outside_as = outside_as
  past_as (bind_as a b) = b
  past_as (group_as a b) = b

  behind_as : (n : ℕ) {env : Env (Numbered E P)} {env' : Env (Numbered F Q)} → AlikeEnv r env env'
      → AlikeEnv r (behind n env) (behind n env')
  behind_as zero a = a
  behind_as (suc n) a = behind_as n (past_as a)

  each_get : (scope : Scope (Numbered E P)) (env : Env (Numbered E P)) (env' : Env (Numbered F Q)) (all : List (Unit {0} × Code))
      (others : List (Unit {0} × Code)) → scope ≡ scope_of (Group all env) → AlikeEnv r (Group all env) (Group others env') →
      (fs gs : List (Unit {0} × Code)) → Each (MemberAs r scope) fs gs → (k : ℕ) → Both (Alike r) (member (slice_get fs k) (Group all env)) (member (slice_get gs k) (Group others env'))
  each_get scope env env' all others e a [] [] c k = tt
  each_get scope env env' all others e a (f ∷ fs) (g ∷ gs) c zero = function_as (subst (λ s. r.AbstractionAs s f.1 g.1) e c.0) a
  each_get scope env env' all others e a (f ∷ fs) (g ∷ gs) c (suc k) = each_get scope env env' all others e a fs gs c.1 k
  each_get scope env env' all others e a [] (g ∷ gs) c k = absurd c
  each_get scope env env' all others e a (f ∷ fs) [] c k = absurd c

  newest_as : {env : Env (Numbered E P)} {env' : Env (Numbered F Q)} → AlikeEnv r env env' → (m : Option ℕ)
      → Both (Alike r) (newest env m) (newest env' m)
  newest_as outside_as m = tt
  newest_as (bind_as a b) None = a
  newest_as (bind_as a b) (Some k) = tt
  newest_as (group_as a b) None = tt
  newest_as (group_as {fs = fs} {gs = gs} {env = env} {env' = env'} a b) (Some k) = each_get _ env env' fs gs refl (group_as a b) fs gs a k

  pub slot_as : {env : Env (Numbered E P)} {env' : Env (Numbered F Q)} (x y : Slot) → AlikeEnv r env env' → x ≡ y
      → Both (Alike r) (at_slot env x) (at_slot env' y)
  slot_as {env} {env'} x y a e = subst (λ y. Both (Alike r) (at_slot env x) (at_slot env' y)) e (newest_as (behind_as x.back a) x.member)
