-- Matching of the parts of patterns is alike, for any two languages.
use Rattle.std.proofs.Common.{◌≡◌, refl, ap, sym, subst, ◌∙◌, ℕ, suc, Bool, true, false, List, [], ◌∷◌, ◌++◌, Some, None, arith, append_assoc}
use Rattle.hum_meaning.specs.Value.{Parts, Atom, Value, Plain, Env, Entry}
use Rattle.hum_meaning.specs.Action.{Action}
use Rattle.hum_meaning.specs.Language.{Matched, Meaning}
use Rattle.hum_meaning.specs.Eval.{if_pair, keep_if, equals}
use Rattle.hum_meaning.specs.Pattern.{match_any, match_bind, match_atom, match_value, match_items, match_tuple}
use Rattle.hum_core.specs.Alike.{scope_of, Both, Each, Reading, Alike, plain_as, pair_as, AlikeEnv, EntriesAs}
use Rattle.hum_core.proofs.Following.{ActsAs, Bound, marks_of, Follows}
use Rattle.hum_core.proofs.Acts.{step_as, bind_as', pure_as, fewer, same_as}
use Rattle.hum_core.proofs.Simulates.{if_matched_as}

module _ {L K : Parts} (r : Reading L K) (b : ℕ) where
  pub renamed : (ns ms : List L.Mark) (p : Action L (Matched L)) (q : Action K (Matched K)) → ns ≡ ms
      → ActsAs r b (Both (EntriesAs r ns)) p q → ActsAs r b (Both (EntriesAs r ms)) p q
  renamed ns ms p q e h = subst (λ ms. ActsAs r b (Both (EntriesAs r ms)) p q) e h

  kept : (x y : Bool) (es : List (Entry L)) (ds : List (Entry K)) → x ≡ y → Bound r es ds
      → Both (EntriesAs r (marks_of r es)) (keep_if x es) (keep_if y ds)
  kept true true es ds e h = (refl, h)
  kept false false es ds e h = tt
  kept true false es ds e h = absurd (cc)
  kept false true es ds e h = absurd (cc)

  pub equals_as : {v x : Value L} {w y : Value K} (es : List (Entry L)) (ds : List (Entry K)) → Alike r v w → Alike r x y → Bound r es ds
      → ActsAs r b (Both (EntriesAs r (marks_of r es))) (equals v x es) (equals w y ds)
  equals_as es ds h k a = bind_as' r b _ _ _ _ (λ x y e. pure_as r b _ _ _ (kept x y es ds e a)) _ _ (same_as r b h k)

  pub if_pair_as : (ns : List L.Mark) {v : Value L} {w : Value K} (f : Value L → Value L → Action L (Matched L))
      (g : Value K → Value K → Action K (Matched K)) → Alike r v w
      → ((x y : Value L) (x' y' : Value K) → Alike r x x' → Alike r y y' → ActsAs r b (Both (EntriesAs r ns)) (f x y) (g x' y'))
      → ActsAs r b (Both (EntriesAs r ns)) (if_pair v f) (if_pair w g)
  if_pair_as ns f g (pair_as {a = x} {b = y} {c = x'} {d = y'} h k) go = go x y x' y' h k
  if_pair_as ns f g _ go = pure_as r b _ None None tt

  pub any_as : (v : Value L) (w : Value K) (env : Env L) (env' : Env K) (es : List (Entry L)) (ds : List (Entry K)) → Bound r es ds
      → ActsAs r (suc b) (Both (EntriesAs r (marks_of r es))) (match_any v env es) (match_any w env' ds)
  any_as v w env env' es ds j = step_as r b _ _ _ (pure_as r b _ (Some es) (Some ds) (refl, j))

  pub bind_mark_as : (m : L.Mark) (n : K.Mark) (v : Value L) (w : Value K) (env : Env L) (env' : Env K) (es : List (Entry L))
      (ds : List (Entry K)) → Alike r v w → Bound r es ds → ActsAs r (suc b) (Both (EntriesAs r (m ∷ marks_of r es)))
      (match_bind m v env es) (match_bind n w env' ds)
  bind_mark_as m n v w env env' es ds i j = step_as r b _ _ _ (pure_as r b _ _ _ (refl, (i, j)))

  pub atom_as : (a c : Atom) → a ≡ c → (v : Value L) (w : Value K) (env : Env L) (env' : Env K) (es : List (Entry L)) (ds : List (Entry K))
      → Alike r v w → Bound r es ds → ActsAs r (suc b) (Both (EntriesAs r (marks_of r es))) (match_atom a v env es) (match_atom c w env' ds)
  atom_as a c e v w env env' es ds i j = step_as r b _ _ _ (equals_as es ds i (subst (λ c. Alike r (Plain a) (Plain c)) e (plain_as a)) j)

module _ {L K : Parts} (r : Reading L K) (b : ℕ) (m : Meaning L) (m' : Meaning K) (h : Follows r b m m') (env : Env L) (env' : Env K) (a : AlikeEnv r env env') where
  pub value_as : (e : L.Expr) (d : K.Expr) → r.ExprAs (scope_of env) e d
      → (v : Value L) (w : Value K) (es : List (Entry L)) (ds : List (Entry K)) → Alike r v w → Bound r es ds
      → ActsAs r (suc b) (Both (EntriesAs r (marks_of r es))) (match_value m.eval e v env es) (match_value m'.eval d w env' ds)
  value_as e d c v w es ds i j = step_as r b _ _ _ (bind_as' r b _ _ _ _ (λ x y k. equals_as r b es ds i k j) _ _ (h.eval e d env env' a c))

  -- the marks of the items, the newest first
  abbrev pub marks_of_items : List L.Pattern → List L.Mark
  marks_of_items [] = []
  marks_of_items (p ∷ ps) = marks_of_items ps ++ r.marks p

  items_as : (p q : L.Pattern) (more : List L.Pattern) (p' q' : K.Pattern) (others : List K.Pattern) → r.PatternAs (scope_of env) p p'
      → r.PatternAs (scope_of env) q q' → Each (r.PatternAs (scope_of env)) more others
      → (v : Value L) (w : Value K) (es : List (Entry L)) (ds : List (Entry K)) → Alike r v w → Bound r es ds →
      ActsAs r (suc b) (Both (EntriesAs r (marks_of_items (p ∷ q ∷ more) ++ marks_of r es))) (match_items m.matches p q more v env es) (match_items m'.matches p' q' others w env' ds)
  items_as p q [] p' q' [] c d x v w es ds i j =
      let ns = marks_of_items (p ∷ q ∷ []) ++ marks_of r es in
      step_as r b _ _ _ (if_pair_as r b ns _ _ i (λ x y x' y' k l. bind_as' r b _ _ _ _ (λ o o' e. if_matched_as r b _ _ o o' _ _ _ _ e
      (λ es1 ds1 n. renamed r b _ ns _ _ (ap (λ z. r.marks q ++ z) n.0 ∙ sym (append_assoc (r.marks q) (r.marks p) (marks_of r es))) (h.matches q q' y y' env env' es1 ds1 a d l n.1))
      (pure_as r b _ None None tt)) _ _ (h.matches p p' x x' env env' es ds a c k j)))
  items_as p q (s ∷ more) p' q' (s' ∷ others) c d x v w es ds i j =
      let ns = marks_of_items (p ∷ q ∷ s ∷ more) ++ marks_of r es in
      step_as r b _ _ _ (if_pair_as r b ns _ _ i (λ u y u' y' k l. bind_as' r b _ _ _ _ (λ o o' e. if_matched_as r b _ _ o o' _ _ _ _ e
      (λ es1 ds1 n. renamed r b _ ns _ _ (ap (λ z. marks_of_items (q ∷ s ∷ more) ++ z) n.0 ∙ sym (append_assoc (marks_of_items (q ∷ s ∷ more)) (r.marks p) (marks_of r es)))
      (fewer r b _ (suc b) _ _ (omega arith) (items_as q s more q' s' others d x.0 x.1 y y' es1 ds1 l n.1)))
      (pure_as r b _ None None tt)) _ _ (h.matches p p' u u' env env' es ds a c k j)))
  items_as p q [] p' q' (s' ∷ others) c d x v w es ds i j = absurd x
  items_as p q (s ∷ more) p' q' [] c d x v w es ds i j = absurd x

  pub tuple_as : (ps : List L.Pattern) (qs : List K.Pattern) → Each (r.PatternAs (scope_of env)) ps qs
      → (v : Value L) (w : Value K) (es : List (Entry L)) (ds : List (Entry K)) → Alike r v w → Bound r es ds →
      ActsAs r (suc b) (Both (EntriesAs r (marks_of_items ps ++ marks_of r es))) (match_tuple m.matches ps v env es) (match_tuple m'.matches qs w env' ds)
  tuple_as (p ∷ q ∷ more) (p' ∷ q' ∷ others) c v w es ds i j = items_as p q more p' q' others c.0 c.1.0 c.1.1 v w es ds i j
  tuple_as [] [] c v w es ds i j = pure_as r (suc b) _ None None tt
  tuple_as (p ∷ []) (p' ∷ []) c v w es ds i j = pure_as r (suc b) _ None None tt
  tuple_as [] (p' ∷ qs) c v w es ds i j = absurd c
  tuple_as (p ∷ ps) [] c v w es ds i j = absurd c
  tuple_as (p ∷ []) (p' ∷ q' ∷ others) c v w es ds i j = absurd c.1
  tuple_as (p ∷ q ∷ more) (p' ∷ []) c v w es ds i j = absurd c.1
