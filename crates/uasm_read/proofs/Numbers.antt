-- What digits say.
use Rattle.std.proofs.Common.{◌≡◌, ℕ, suc, ◌+◌, ◌-◌, ◌*◌, ◌<◌, ◌≤◌, List, [], ◌∷◌, length, drop, slice_index, None, sym, ap, ◌∙◌, arith, drop-cons}
use Rattle.std.proofs.lemmas.Bool.{cond-false, lt-leb}
use Rattle.uasm_read.specs.Texts.{value_from}
use Rattle.uasm_read.specs.Reading.{up_to_limit}

-- further digits make it no smaller
pub value_from-le : (ds : List ℕ) (n : ℕ) → n ≤ value_from n ds
value_from-le [] n = omega arith
value_from-le (d ∷ ds) n = let more = value_from-le ds (10 * n + (d - 48)) in omega arith

-- a number that is too large already stays so
pub too_large : (ds : List ℕ) (i sum total : ℕ) → i < length ds → value_from sum (drop i ds) ≡ total → 1073741824 < 10 * sum + (slice_index ds i - 48) → None ≡ up_to_limit total
too_large ds i sum total more counted large =
    let next = 10 * sum + (slice_index ds i - 48) in
    let split : value_from next (drop (suc i) ds) ≡ total = sym (ap (value_from sum) (drop-cons ds i 0 more)) ∙ counted in
    let above = value_from-le (drop (suc i) ds) next in
    sym (cond-false _ _ _ (lt-leb total 1073741824 (omega arith)))
