-- Entries of an environment on the quads.
use Rattle.std.proofs.Common.{◌≡◌, refl, ap, ◌∙◌, ℕ, zero, suc, pos, List, [], ◌∷◌, Option, Some, None}
use Rattle.std.specs.Prelude.{map, slice_get}
use Rattle.cap_words.specs.Words.{W, undef}
use Rattle.cap_words.specs.Seen.{Seen, cell_seen}
use Rattle.instr_table.specs.Types.{Grows}
use Rattle.instr_table.specs.Lists.{head_in, tail_in, tail_after, nth}
use Rattle.hum_meaning.specs.Value.{Function, Outside, Bind, Group}
use Rattle.hum_core.specs.Numbered.{Code, Of, member, at_slot}
use Rattle.hum_code.specs.Layout.{Layout, shape_of, IsFunction, minus}
use Rattle.hum_code.specs.Stands.{ShowsPair, Stands, StandsEnv}
use Rattle.hum_code.specs.Code.{HasSingle, HasMember}
use Rattle.hum_code.proofs.World.{read_in}
use Rattle.hum_code.proofs.Standing.{CoreValue, CoreEnv}

-- the words of an environment after b entries, from those of the rest
pub tails : (b : ℕ) (s t : Seen) (w x y z : W) → ShowsPair s w x y → Grows s t → nth t (minus b) y ≡ z → nth t (minus (suc b)) w ≡ z
tails zero s t w x y z h g e = ap tail_in (read_in w g h) ∙ e
tails (suc b) s t w x y z h g e = ap (λ o. tail_after t (suc b) (tail_in o)) (read_in w g h) ∙ e

module _ (lay : Layout) (s : Seen) (r : List W) where
  -- the word of a bound value
  pub record Found (w : W) (env : CoreEnv) (b : ℕ) : Type 0 where
    pub value : CoreValue
    pub word : W
    pub is : at_slot env (record { back = b; member = None }) ≡ Some value
    pub reads : (t : Seen) → Grows s t → nth t (pos (suc b)) w ≡ word
    pub stands : Stands lay s r word value

  further : (w x y : W) (env rest : CoreEnv) (b : ℕ) → ShowsPair s w x y
      → at_slot env (record { back = suc b; member = None }) ≡ at_slot rest (record { back = b; member = None }) → Found y rest b
      → Found w env (suc b)
  further w x y env rest b h e f = record {
    value = f.value;
    word = f.word;
    is = e ∙ f.is;
    reads = λ t g. ap (λ o. head_in (cell_seen t (tail_after t b (tail_in o)))) (read_in w g h) ∙ f.reads t g;
    stands = f.stands;
  }

  pub found_in : (w : W) (env : CoreEnv) (b : ℕ) → StandsEnv lay s r w env → HasSingle (shape_of env) b → Found w env b
  unfolding StandsEnv Stands
  found_in w Outside b h i = absurd i
  found_in w (Bind u v env) zero h i = record { value = v; word = h.0; is = refl; reads = λ t g. ap head_in (read_in w g h.2); stands = h.3 }
  found_in w (Bind u v env) (suc b) h i = further w h.0 h.1 (Bind u v env) env b h.2 refl (found_in h.1 env b h.4 i)
  found_in w (Group fs env) zero h i = absurd i
  found_in w (Group fs env) (suc b) h i = further w undef h.0 (Group fs env) env b h.1 refl (found_in h.0 env b h.2 i)

  -- the word of an environment that begins with a group
  pub record FoundGroup (w : W) (env : CoreEnv) (b i u : ℕ) : Type 0 where
    pub inner : CoreEnv
    pub word : W
    pub is : at_slot env (record { back = b; member = Some i }) ≡ Some (Function (Of u) inner)
    pub reads : (t : Seen) → Grows s t → nth t (minus b) w ≡ word
    pub stands : StandsEnv lay s r word inner
    pub shape : lay.shape u ≡ shape_of inner
    pub function : IsFunction lay u

  member_is : (fs : List (Unit {0} × Code)) (env : CoreEnv) (i : ℕ) (c : Code) → slice_get (map (λ f. f.1) fs) i ≡ Some c
      → member (slice_get fs i) env ≡ Some (Function c env)
  member_is [] env i c h = cc
  member_is (f ∷ fs) env zero c h = ap (function_in env) h
    where
      function_in : CoreEnv → Option Code → Option CoreValue
      function_in env None = None
      function_in env (Some c) = Some (Function c env)
  member_is (f ∷ fs) env (suc i) c h = member_is fs env i c h

  group_further : (w x y : W) (env rest : CoreEnv) (b i u : ℕ) → ShowsPair s w x y
      → at_slot env (record { back = suc b; member = Some i }) ≡ at_slot rest (record { back = b; member = Some i })
      → FoundGroup y rest b i u → FoundGroup w env (suc b) i u
  group_further w x y env rest b i u h e f = record {
    inner = f.inner;
    word = f.word;
    is = e ∙ f.is;
    reads = λ t g. tails b s t w x y f.word h g (f.reads t g);
    stands = f.stands;
    shape = f.shape;
    function = f.function;
  }

  pub group_in : (w : W) (env : CoreEnv) (b i u : ℕ) → StandsEnv lay s r w env → HasMember lay (shape_of env) b i u → FoundGroup w env b i u
  unfolding StandsEnv Stands
  group_in w Outside b i u h j = absurd j
  group_in w (Bind x v env) zero i u h j = absurd j
  group_in w (Bind x v env) (suc b) i u h j = group_further w h.0 h.1 (Bind x v env) env b i u h.2 refl (group_in h.1 env b i u h.4 j)
  group_in w (Group fs env) zero i u h j =
      record {
        inner = Group fs env;
        word = w;
        is = member_is fs (Group fs env) i
            (Of u) j.0;
        reads = λ t g. refl;
        stands = h;
        shape = j.1;
        function = j.2;
      }
  group_in w (Group fs env) (suc b) i u h j = group_further w undef h.0 (Group fs env) env b i u h.1 refl (group_in h.0 env b i u h.2 j)
