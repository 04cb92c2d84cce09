-- The tests of a tuple, item by item.
use Rattle.std.proofs.Common.{◌≡◌, ℕ, suc, ◌+◌, ◌<◌, ◌≤◌, List, [], ◌∷◌, ◌++◌, map, length, drop, get_or, sym, ap, ◌∙◌, arith, append_assoc, drop-cons}
use Rattle.std.proofs.lemmas.List.{append-nil, drop_all}
use Rattle.hum_core.specs.declared.resolved.CorePat.{CorePat}
use Rattle.hum_core.specs.declared.tested.Test.{Test}
use Rattle.hum_core.specs.declared.tested.Test.TheVariants as test
use Rattle.hum_core.specs.Lists.{tuple_tested, tested_pat}

abbrev pub tests_of : List CorePat → List Test
tests_of ps = tuple_tested (map tested_pat ps)

module _ (ps : List CorePat) (i : ℕ) (p : CorePat) (is : p ≡ get_or ps i p) (ts : List Test) where
  first_item : i < length ps → drop i ps ≡ p ∷ drop (suc i) ps
  first_item within = drop-cons ps i p within ∙ ap (λ q. q ∷ drop (suc i) ps) (sym is)

  pub last_item : i < length ps → length ps ≤ i + 1 → ts ++ tests_of (drop i ps) ≡ (ts ++ tested_pat p) ++ tests_of (drop (i + 1) ps)
  last_item within ends =
      let past : drop (suc i) ps ≡ [] = drop_all (suc i) ps (omega arith) in
      let next : suc i ≡ i + 1 = omega arith in
      ap (λ qs. ts ++ tests_of qs) (first_item within ∙ ap (λ qs. p ∷ qs) past)
      ∙ sym (append-nil (ts ++ tested_pat p))
      ∙ ap (λ qs. (ts ++ tested_pat p) ++ tests_of qs) (sym past ∙ ap (λ j. drop j ps) next)

  pub inner_item : i + 1 < length ps → ts ++ tests_of (drop i ps) ≡ ((ts ++ test.Pair ∷ []) ++ tested_pat p) ++ tests_of (drop (i + 1) ps)
  inner_item within =
      let q = get_or ps (suc i) p in
      let second : drop (suc i) ps ≡ q ∷ drop (suc (suc i)) ps = drop-cons ps (suc i) p (omega arith) in
      let next : suc i ≡ i + 1 = omega arith in
      ap (λ qs. ts ++ tests_of qs) (first_item (omega arith) ∙ ap (λ qs. p ∷ qs) second)
      ∙ sym (append_assoc ts (test.Pair ∷ []) (tested_pat p ++ tests_of (q ∷ drop (suc (suc i)) ps)))
      ∙ sym (append_assoc (ts ++ test.Pair ∷ []) (tested_pat p) (tests_of (q ∷ drop (suc (suc i)) ps)))
      ∙ ap (λ qs. ((ts ++ test.Pair ∷ []) ++ tested_pat p) ++ tests_of qs) (sym second ∙ ap (λ j. drop j ps) next)
