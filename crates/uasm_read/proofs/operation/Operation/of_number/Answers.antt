use Rattle.std.proofs.Common.{◌≡◌, ◌≤◌, ◌<◌, ℤ, pos, List, [], ◌∷◌, length, get_or, Bool, true, false, Some, None, refl, sym, ap, ◌∙◌, subst, arith, to_z, of_z, w32}
use Rattle.std.specs.Prelude.{if◌then◌else◌}
use Rattle.std.specs.List.{find}
use Rattle.std.specs.Ordering.{int_eq}
use Rattle.std.proofs.lemmas.Bool.Decides.{Decides-int_eq}
use Rattle.std.proofs.lemmas.Int.{ints}
use Rattle.uasm_read.specs.declared.operation.Operation.{Operation}
use Rattle.uasm_read.specs.Operations.{row_of}
use Rattle.uasm_read.specs.Modules.{operation_at}
use Rattle.uasm_read.proofs.Fronts.{behind, front_item, no_item}
use Rattle.uasm_read.proofs.operation.Operation.of_number.Goals as goal

abbrev has_number : ℤ → Operation → Bool
has_number n operation = int_eq n (pos (row_of operation).number)

differ : (n m : ℤ) → (of_z w32 n ≡ of_z w32 m → ⊥) → int_eq n m ≡ false
differ n m other = by_case (int_eq n m) refl
  where
    by_case : (b : Bool) → int_eq n m ≡ b → b ≡ false
    by_case true e = absurd (other (ap (of_z w32) ((Decides-int_eq n m).0 e)))
    by_case false e = refl

front : (xs : List Operation) (d : Operation) → 1 ≤ length xs → xs ≡ get_or xs 0 d ∷ behind xs
front [] d some = absurd (omega arith)
front (x ∷ xs) d some = front_item (x ∷ xs) x some refl

passed_over : (n found : ℤ) (rest : List Operation) (d : Operation) → 1 ≤ length rest → found ≡ pos (row_of (get_or rest 0 d)).number → (of_z w32 n ≡ of_z w32 found → ⊥)
    → find (has_number n) rest ≡ operation_at n → find (has_number n) (behind rest) ≡ operation_at n
passed_over n found rest d some is other h =
    let fails : int_eq n (pos (row_of (get_or rest 0 d)).number) ≡ false = subst (λ m. int_eq n m ≡ false) is (differ n found other) in
    sym (ap (find (has_number n)) (front rest d some) ∙ ap (λ b. if b then Some (get_or rest 0 d) else find (has_number n) (behind rest)) fails) ∙ h

none_left : (n : ℤ) (rest : List Operation) → length rest < 1 → find (has_number n) rest ≡ operation_at n → None ≡ operation_at n
none_left n rest none h = sym (ap (find (has_number n)) (no_item rest none)) ∙ h

pub loop-rest-preserved : goal.loop-rest-preserved
loop-rest-preserved c =
    let kept : to_z w32 (of_z w32 c.args.n) ≡ c.args.n = omega (arith, ints, c.ranges.n) in
    passed_over (to_z w32 (of_z w32 c.args.n)) c.number.result c.loop-rest.rest.now _ c.in-len1-up.len_at_least c.number.ensures
    (λ same. c.if-n-number.false (ap (of_z w32) (sym kept) ∙ same)) c.loop-rest.invariant

pub returns : goal.returns
returns c =
    let kept : to_z w32 (of_z w32 c.args.n) ≡ c.args.n = omega (arith, ints, c.ranges.n) in
    none_left (to_z w32 (of_z w32 c.args.n)) c.loop-rest.rest.now c.in_default.len_below c.loop-rest.invariant ∙ ap operation_at kept
