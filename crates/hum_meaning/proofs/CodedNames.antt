-- Failures of the language as it is written, and of deliveries in it.
use Rattle.std.proofs.Common.{◌≡◌, refl, sym, subst, ℕ, suc, List, [], ◌∷◌, length, Option, Some, None, arith, slice_get}
use Rattle.hum_syntax.specs.declared.tree.Expr.TheOpen as layer
use Rattle.hum_meaning.specs.Value.{Parts, Atom, Undefined, Nil, Truth, Number, Symbol, Value, Plain, Env, Entry, Behaviour, Device, Answers}
use Rattle.hum_meaning.specs.Action.{no_effects, Outcome, Gives, Fails, Undecided, device_refused}
use Rattle.hum_meaning.specs.Language.{Language, Meaning}
use Rattle.hum_meaning.specs.Named.{Trees, Named, PatTree}
use Rattle.hum_meaning.specs.Pattern.{Match, match_any, match_bind, match_atom, match_value, match_pair, match_items, match_tuple}
use Rattle.hum_meaning.specs.Match.{match_tree}
use Rattle.hum_meaning.specs.Written.{named_language}
use Rattle.hum_meaning.specs.Piece.{piece}
use Rattle.hum_meaning.specs.Deliver.{Message, Configuration, Delivery, Committed, Failed, Open, responded, printed, respond, delivered, deliver}
use Rattle.hum_meaning.specs.Codes.{IsActorsCode, IsCode, FailsByCode}
use Rattle.hum_meaning.proofs.Coded.{FailsSo, Coded, pure_coded, bind_coded, step_coded, if_matched_coded, if_pair_coded, equals_coded, MeaningCoded, NodesCoded, arms_coded, perform_coded, apply_coded, level_coded}

-- ---- patterns

abbrev MatchCoded : {L : Parts} → Match L → Type 0
MatchCoded {L} match = (v : Value L) (env : Env L) (es : List (Entry L)) → Coded (match v env es)

module _ {L : Parts} where
  any_coded : MatchCoded {L = L} match_any
  any_coded v env es = step_coded (pure_coded (Some es))

  mark_coded : (mark : L.Mark) → MatchCoded {L = L} (match_bind mark)
  mark_coded mark v env es = step_coded (pure_coded (Some ((mark, v) ∷ es)))

  atom_coded : (a : Atom) → MatchCoded {L = L} (match_atom a)
  atom_coded a v env es = step_coded (equals_coded v (Plain a) es)

module _ {L : Parts} (m : Meaning L) (h : MeaningCoded m) where
  value_coded : (e : L.Expr) → MatchCoded (match_value m.eval e)
  value_coded e v env es = step_coded (bind_coded (h.eval e env) (λ w. equals_coded v w es))

  pair_coded : (p : L.Pattern) (rest : Match L) → MatchCoded rest → MatchCoded (match_pair m.matches p rest)
  pair_coded p rest k v env es =
      step_coded (if_pair_coded v _ (λ head tail. bind_coded (h.matches p head env es)
      (λ o. if_matched_coded o _ _ (λ es. k tail env es) (pure_coded None))))

  items_coded : (p q : L.Pattern) (more : List L.Pattern) → MatchCoded (match_items m.matches p q more)
  items_coded p q [] = pair_coded p _ (h.matches q)
  items_coded p q (r ∷ more) = pair_coded p _ (items_coded q r more)

  tuple_coded : (ps : List L.Pattern) → MatchCoded (match_tuple m.matches ps)
  tuple_coded [] v env es = pure_coded None
  tuple_coded (p ∷ []) v env es = pure_coded None
  tuple_coded (p ∷ q ∷ more) v env es = items_coded p q more v env es

module _ (t : Trees) (m : Meaning (Named t)) (h : MeaningCoded m) where
  tree_coded : (p : PatTree t) → MatchCoded (match_tree t m.eval m.matches p)
  tree_coded layer.Any = any_coded
  tree_coded (layer.Bind name) = mark_coded name
  tree_coded layer.Pat::Undef = atom_coded Undefined
  tree_coded layer.Pat::Nil = atom_coded Nil
  tree_coded layer.Pat::True = atom_coded (Truth _)
  tree_coded layer.Pat::False = atom_coded (Truth _)
  tree_coded (layer.Pat::Num n) = atom_coded (Number n)
  tree_coded (layer.Pat::Sym name) = atom_coded (Symbol name)
  tree_coded (layer.Value e) = value_coded m h e
  tree_coded (layer.Pat::Tuple ps) = tuple_coded m h ps

pub named_coded : (t : Trees) → NodesCoded (named_language t)
named_coded t = record { matching = λ m h p v env es. tree_coded t m h (t.pat p) v env es; choosing = λ m h x v env. arms_coded m h x v env }

-- ---- deliveries

-- a delivery that fails has such a code
abbrev FailsWithin : {L : Parts} → (ℕ → Type 0) → Delivery L → Type 0
FailsWithin P (Committed c) = Unit {0}
FailsWithin P (Failed code sends c) = P code
FailsWithin P Open = Unit {0}

module _ {L : Parts} (c : Configuration L) (m : Message L) where
  responded_fails : (P : ℕ → Type 0) → ((code : ℕ) → IsActorsCode code → P code) → (o : Outcome L (Unit {0})) → FailsSo o
      → FailsWithin P (responded c m o)
  responded_fails P f (Gives u effects left) h = tt
  responded_fails P f (Fails code sends) h = f code h
  responded_fails P f Undecided h = tt

  printed_fails : (P : ℕ → Type 0) → P device_refused → (o : Option (List ℕ)) → FailsWithin P (printed c m o)
  printed_fails P h (Some bytes) = tt
  printed_fails P h None = h

module _ {L : Parts} (language : Language L) (coded : NodesCoded language) where
  respond_coded : (self base s : ℕ) (behaviour v : Value L) → Coded (respond language self base s behaviour v)
  respond_coded self base s behaviour v =
      let h = level_coded language coded self base (suc s) in
      bind_coded (apply_coded language self base _ h behaviour v) (λ x. perform_coded _ h x)

  answer_fails : (c : Configuration L) (m : Message L) (s : ℕ) (v : Value L) (P : ℕ → Type 0) → ((code : ℕ) → IsActorsCode code → P code)
      → FailsWithin P (delivered language c m s (Some (Answers v)))
  answer_fails c m s v P f =
      responded_fails c m P f _ ((respond_coded m.target (length c.behaviours) s v m.value).at no_effects s)

  device_fails : (c : Configuration L) (m : Message L) (s n : ℕ) (P : ℕ → Type 0) → P device_refused
      → FailsWithin P (delivered language c m s (Some (Device n)))
  device_fails c m s n P h = printed_fails c m P h (piece n m.value)

  delivered_fails : (c : Configuration L) (m : Message L) (s : ℕ) (o : Option (Behaviour L)) → FailsWithin IsCode (delivered language c m s o)
  delivered_fails c m s (Some (Device n)) = device_fails c m s n IsCode (omega arith, omega arith)
  delivered_fails c m s (Some (Answers v)) = answer_fails c m s v IsCode (λ code h. (h.0, omega (arith, h.1)))
  delivered_fails c m s None = tt

  -- where a delivery is to what the target's place holds
  to_target : (c : Configuration L) (m : Message L) (s : ℕ) (P : ℕ → Type 0) (o : Option (Behaviour L)) → slice_get c.behaviours m.target ≡ o
      → FailsWithin P (delivered language c m s o) → FailsWithin P (deliver language c m s)
  unfolding deliver
  to_target c m s P o e h = subst (λ o. FailsWithin P (delivered language c m s o)) (sym e) h

  pub fails_by_code : FailsByCode language
  fails_by_code = record {
    evaluation = λ self base e env effects s code sends is. subst FailsSo is (((level_coded language coded self base (suc s)).eval e env).at effects s);
    matching = λ self base p v env effects s code sends is. subst FailsSo is (((level_coded language coded self base (suc s)).matches p v env []).at effects s);
    execution = λ self base b env effects s code sends is. subst FailsSo is (((level_coded language coded self base (suc s)).exec b env).at effects s);
    responses = λ self base s behaviour v effects left code sends is. subst FailsSo is ((respond_coded self base s behaviour v).at effects left);
    actors = λ c d m v s code sends at is.
        subst (FailsWithin IsActorsCode) is (to_target c m s IsActorsCode (Some (Answers v)) at (answer_fails c m s v IsActorsCode (λ code h. h)));
    devices = λ c d m device s code sends at is.
        let P : ℕ → Type 0 = λ code. code ≡ device_refused in
        subst (FailsWithin P) is (to_target c m s P (Some (Device device)) at (device_fails c m s device P refl));
    deliveries = λ c d m s code sends is.
        subst (FailsWithin IsCode) is (to_target c m s IsCode (slice_get c.behaviours m.target) refl (delivered_fails c m s (slice_get c.behaviours m.target)));
  }
