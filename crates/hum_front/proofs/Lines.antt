-- Lines and columns, byte by byte.
use Rattle.std.proofs.Common.{◌≡◌, ap, ◌∙◌, arith, ℕ, ◌+◌, ◌-◌, ◌<◌, ◌≤◌, true, false, [], ◌∷◌, length, take, get_or}
use Rattle.std.specs.Prelude.{not}
use Rattle.std.specs.List.{suffix_len}
use Rattle.std.proofs.lemmas.Bool.{cond-true, cond-false, lt-ltb, le-ltb}
use Rattle.std.proofs.lemmas.List.Sums.{count_by_more_yes, count_by_more_no, suffix_len-take_yes, suffix_len-take_no}
use Rattle.hum_syntax.specs.Forms.{Bytes}
use Rattle.hum_syntax.specs.Lexes.{is_line_feed}
use Rattle.hum_syntax.specs.Places.{place_behind, last_place, line_column}

pub place_feed : (bytes : Bytes) (i : ℕ) → i < length bytes → is_line_feed (get_or bytes i 0) ≡ true
    → place_behind (take (i + 1) bytes) ≡ ((place_behind (take i bytes)).0 + 1, 1)
place_feed bytes i within feed =
    let at : i + 1 - 1 ≡ i = omega arith in
    let lines = count_by_more_yes is_line_feed bytes i 0 within feed in
    let columns : suffix_len (λ b. not (is_line_feed b)) (take (i + 1) bytes) ≡ 0 =
    suffix_len-take_no (λ b. not (is_line_feed b)) bytes (i + 1) 0 (omega arith) (omega arith)
    (ap (λ k. not (is_line_feed (get_or bytes k 0))) at ∙ ap not feed) in
    λ j. (lines j + 1, columns j + 1)

pub place_other : (bytes : Bytes) (i : ℕ) → i < length bytes → is_line_feed (get_or bytes i 0) ≡ false
    → place_behind (take (i + 1) bytes) ≡ ((place_behind (take i bytes)).0, (place_behind (take i bytes)).1 + 1)
place_other bytes i within plain =
    let at : i + 1 - 1 ≡ i = omega arith in
    let lines = count_by_more_no is_line_feed bytes i 0 within plain in
    let columns : suffix_len (λ b. not (is_line_feed b)) (take (i + 1) bytes) ≡ 1 + suffix_len (λ b. not (is_line_feed b)) (take (i + 1 - 1) bytes) =
    suffix_len-take_yes (λ b. not (is_line_feed b)) bytes (i + 1) 0 (omega arith) (omega arith)
    (ap (λ k. not (is_line_feed (get_or bytes k 0))) at ∙ ap not plain) in
    let same : suffix_len (λ b. not (is_line_feed b)) (take (i + 1 - 1) bytes) ≡ suffix_len (λ b. not (is_line_feed b)) (take i bytes) =
    ap (λ k. suffix_len (λ b. not (is_line_feed b)) (take k bytes)) at in
    let more : suffix_len (λ b. not (is_line_feed b)) (take (i + 1) bytes) ≡ suffix_len (λ b. not (is_line_feed b)) (take i bytes) + 1 =
    omega (arith, columns, same) in
    λ j. (lines j + 1, more j + 1)

pub within_text : (bytes : Bytes) (at : ℕ) → at < length bytes → line_column bytes at ≡ place_behind (take at bytes)
within_text [] at h = absurd (omega (arith, h))
within_text (b ∷ bs) at h = cond-true _ _ _ (lt-ltb at (length (b ∷ bs)) h)

pub at_end : (bytes : Bytes) (at : ℕ) → 0 < length bytes → length bytes ≤ at
    → line_column bytes at ≡ ((last_place bytes).0, (last_place bytes).1 + 1)
at_end [] at some h = absurd (omega (arith, some))
at_end (b ∷ bs) at some h = cond-false _ _ _ (le-ltb at (length (b ∷ bs)) h)
