-- Each part of a pattern spends a step before it goes below.
use Rattle.std.proofs.Common.{ℕ, pred, List, [], ◌∷◌, Some, None, arith}
use Rattle.hum_meaning.specs.Value.{Parts, Atom, Value, Plain, Env, Entry}
use Rattle.hum_meaning.specs.Language.{Meaning}
use Rattle.hum_meaning.specs.Pattern.{Match, match_any, match_bind, match_atom, match_value, match_pair, match_items, match_tuple}
use Rattle.hum_meaning.proofs.Agrees.{Agrees, pure_agrees, bind_agrees, step_agrees, fewer}
use Rattle.hum_meaning.proofs.Law.{if_matched_agrees, if_pair_agrees, equals_agrees, Stands}

-- two matches agree
abbrev pub MatchesAgree : {L : Parts} → ℕ → Match L → Match L → Type 0
MatchesAgree {L} d r r' = (v : Value L) (env : Env L) (es : List (Entry L)) → Agrees d (r v env es) (r' v env es)

module _ {L : Parts} (d : ℕ) where
  pub any_agrees : MatchesAgree {L = L} d match_any match_any
  any_agrees v env es = step_agrees d (pure_agrees (pred d) (Some es))

  pub bind_mark_agrees : (mark : L.Mark) → MatchesAgree {L = L} d (match_bind mark) (match_bind mark)
  bind_mark_agrees mark v env es = step_agrees d (pure_agrees (pred d) (Some ((mark, v) ∷ es)))

  pub atom_agrees : (a : Atom) → MatchesAgree {L = L} d (match_atom a) (match_atom a)
  atom_agrees a v env es = step_agrees d (equals_agrees (pred d) v (Plain a) es)

module _ {L : Parts} (d : ℕ) (m m' : Meaning L) (h : Stands (pred d) m m') where
  pub value_agrees : (e : L.Expr) → MatchesAgree d (match_value m.eval e) (match_value m'.eval e)
  value_agrees e v env es = step_agrees d (bind_agrees (pred d) (h.eval e env) (λ w. equals_agrees (pred d) v w es))

  pair_agrees : (p : L.Pattern) (r r' : Match L) → MatchesAgree (pred d) r r'
      → MatchesAgree d (match_pair m.matches p r) (match_pair m'.matches p r')
  pair_agrees p r r' k v env es =
      step_agrees d (if_pair_agrees (pred d) v _ _ (λ head tail. bind_agrees (pred d) (h.matches p head env es)
      (λ o. if_matched_agrees (pred d) o _ _ _ _ (λ es. k tail env es) (pure_agrees (pred d) None))))

  items_agree : (p q : L.Pattern) (more : List L.Pattern) → MatchesAgree d (match_items m.matches p q more)
      (match_items m'.matches p q more)
  items_agree p q [] = pair_agrees p _ _ (h.matches q)
  items_agree p q (r ∷ more) = pair_agrees p _ _ (λ v env es. fewer (pred d) d (omega arith) (items_agree q r more v env es))

  pub tuple_agrees : (ps : List L.Pattern) → MatchesAgree d (match_tuple m.matches ps) (match_tuple m'.matches ps)
  tuple_agrees [] v env es = pure_agrees d None
  tuple_agrees (p ∷ []) v env es = pure_agrees d None
  tuple_agrees (p ∷ q ∷ more) v env es = items_agree p q more v env es
