-- A list of pairs that is made in one instruction stands for an environment.
use Rattle.std.proofs.Common.{◌≡◌, ap, subst, suc, List, [], ◌∷◌, append_assoc}
use Rattle.cap_words.specs.Words.{W, Ram}
use Rattle.cap_words.specs.Seen.{Seen, Slot, OpenSlot, grown}
use Rattle.instr_table.specs.Types.{Grows}
use Rattle.instr_table.specs.Lists.{next_quad, pair_quad, linked, last_linked}
use Rattle.hum_meaning.specs.Value.{Bind}
use Rattle.hum_core.specs.Alike.{Each}
use Rattle.hum_code.specs.Layout.{Layout}
use Rattle.hum_code.specs.Stands.{Stands, StandsEnv}
use Rattle.hum_core.specs.Openings.{bind_all}
use Rattle.hum_code.proofs.World.{takes, first_shown}
use Rattle.hum_code.proofs.Standing.{CoreValue, CoreEnv, longer_same, stands_later, env_later}
use Rattle.hum_code.proofs.Makings.{length_end}

-- one quad more, and then the others
grown_by : (t : Seen) (a : Slot) (more : List Slot) → grown (grown t (a ∷ [])) more ≡ grown t (a ∷ more)
grown_by t a more = ap (λ slots. record { rom = t.rom; slots = slots }) (append_assoc t.slots (a ∷ []) more)

module _ (lay : Layout) (roll : List W) where
  abbrev pub AllStand : Seen → List CoreValue → List W → Type 0
  AllStand t vs ws = Each (λ v w. Stands lay t roll w v) vs ws

  all_later : (s t : Seen) (g : Grows s t) (vs : List CoreValue) (ws : List W) → AllStand s vs ws → AllStand t vs ws
  all_later s t g [] [] h = h
  all_later s t g [] (w ∷ ws) h = absurd h
  all_later s t g (v ∷ vs) [] h = absurd h
  all_later s t g (v ∷ vs) (w ∷ ws) h = (stands_later lay s t roll roll g (longer_same roll) w v h.0, all_later s t g vs ws h.1)

  pub chain_stands : (vs : List CoreValue) (ws : List W) (tail : W) (env : CoreEnv) (t : Seen) → AllStand t vs ws → StandsEnv lay t roll tail env
      → StandsEnv lay (grown t (linked pair_quad (next_quad t) ws tail)) roll (last_linked (next_quad t) ws tail) (bind_all vs env)
  unfolding StandsEnv
  chain_stands [] [] tail env t h e = env_later lay t (grown t []) roll roll (takes t []) (longer_same roll) tail env e
  chain_stands [] (w ∷ ws) tail env t h e = absurd h
  chain_stands (v ∷ vs) [] tail env t h e = absurd h
  chain_stands (v ∷ vs) (w ∷ ws) tail env t h e =
      let n = next_quad t in
      let u : Seen = grown t (OpenSlot (pair_quad w tail) ∷ []) in
      let g = takes t (OpenSlot (pair_quad w tail) ∷ []) in
      let first : StandsEnv lay u roll (Ram n) (Bind tt v env)
      = (
        w,
        tail,
        first_shown t (pair_quad w tail) [],
        stands_later lay t u roll roll g (longer_same roll) w v h.0,
        env_later lay t u roll roll g (longer_same roll) tail env e,
      ) in
      let more = chain_stands vs ws (Ram n) (Bind tt v env) u (all_later t u g vs ws h.1) first in
      let next : next_quad u ≡ suc n = length_end t.slots (OpenSlot (pair_quad w tail)) in
      let moved : StandsEnv lay (grown u (linked pair_quad (suc n) ws (Ram n))) roll (last_linked (suc n) ws (Ram n)) (bind_all vs (Bind tt v env))
      = subst (λ m. StandsEnv lay (grown u (linked pair_quad m ws (Ram n))) roll (last_linked m ws (Ram n)) (bind_all vs (Bind tt v env)))
      next more in
      subst (λ s. StandsEnv lay s roll (last_linked (suc n) ws (Ram n)) (bind_all vs (Bind tt v env)))
      (grown_by t (OpenSlot (pair_quad w tail)) (linked pair_quad (suc n) ws (Ram n))) moved
