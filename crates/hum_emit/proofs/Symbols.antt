-- The numbers of the emitter's symbols.
use Rattle.std.proofs.Common.{◌≡◌, refl, ap, sym, ◌∙◌, ℕ, Bool, true, false, List, Some, None, rules, if◌then◌else◌}
use Rattle.std.specs.Borrow.{Bor}
use Rattle.std.specs.HashMap.{HashMap, UpdatesBy, IsEmpty}
use Rattle.std.specs.Str.{bytes_eq}
use Rattle.std.proofs.lemmas.Map.Text.{hash_map_updates_str}
use Rattle.std.proofs.lemmas.Slice.Eq.{bytes_eq-Decides}
use Rattle.hum_emit.specs.Emitted.{with_symbol}
use Rattle.hum_emit.specs.Emitting.{number_in}

same_bytes : (a b : List ℕ) → bytes_eq a b ≡ bytes_eq b a
same_bytes a b = by_test (bytes_eq a b) (bytes_eq b a) refl refl
  where
    by_test : (t u : Bool) → bytes_eq a b ≡ t → bytes_eq b a ≡ u → t ≡ u
    by_test true u h k = sym ((bytes_eq-Decides b a).1 (sym ((bytes_eq-Decides a b).0 h))) ∙ k
    by_test false true h k = let bad : false ≡ true = sym h ∙ (bytes_eq-Decides a b).1 (sym ((bytes_eq-Decides b a).0 k)) in absurd (cc)
    by_test false false h k = refl

-- a name gets a number
pub number_named : {S : Type 0} (name : List ℕ) (at : ℕ) (old new : HashMap (Bor (List ℕ)) ℕ S)
    → UpdatesBy (λ x y. bytes_eq x.now y.now) (λ k. bytes_eq name k.now) old new (Some at) → number_in new ≡ with_symbol name at (number_in old)
number_named name at old new h = λ i other. (one other) i
  where
    one : (other : List ℕ) → number_in new other ≡ with_symbol name at (number_in old) other
    one other =
        hash_map_updates_str name old new (Some at) h other ∙ ap (λ t. if t then Some at else number_in old other) (same_bytes name other)

-- no name has a number
pub no_symbols : {S : Type 0} (numbers : HashMap (Bor (List ℕ)) ℕ S) → IsEmpty numbers → number_in numbers ≡ (λ name. None)
no_symbols numbers empty = λ i name. (one name) i
  where
    one : (name : List ℕ) → number_in numbers name ≡ None
    one name = search (rules, empty)
