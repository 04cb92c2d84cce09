-- Lines and parts of a text, by what stands in front.
use Rattle.std.proofs.Common.{◌≡◌, ◌≢◌, ℕ, suc, ◌<◌, ◌==◌, Bool, true, false, not, List, [], ◌∷◌, length, take, drop, refl, ap, ◌∙◌, arith, one-add}
use Rattle.std.specs.List.{slice_split, onto_first, filter, position_or_len, prefix_len}
use Rattle.std.proofs.lemmas.List.Folds.{length-prefix_len}
use Rattle.std.proofs.lemmas.Bool.{ne_eqb}
use Rattle.uasm_read.specs.Texts.{is_blank, is_line_feed, parts_of, lines_of, without_return, without_returns}

abbrev IsPart : List ℕ → Bool
IsPart part = not (length part == 0)

skipped_cases : (x : ℕ) (xs : List ℕ) (v : Bool) → is_blank x ≡ v → parts_of (drop (prefix_len is_blank xs) xs) ≡ parts_of xs → parts_of (drop (prefix_len is_blank (x ∷ xs)) (x ∷ xs)) ≡ parts_of (x ∷ xs)
unfolding parts_of
skipped_cases x xs true e ih = rw (e, one-add) ih
skipped_cases x xs false e ih = rw e (rw e refl)

-- blanks before the first part say nothing
pub skipped : (text : List ℕ) → parts_of (drop (prefix_len is_blank text) text) ≡ parts_of text
unfolding parts_of
skipped [] = refl
skipped (x ∷ xs) = skipped_cases x xs (is_blank x) refl (skipped xs)

some_part_cases : (x : ℕ) (xs : List ℕ) (v : Bool) → is_blank x ≡ v → prefix_len is_blank (x ∷ xs) ≢ length (x ∷ xs) → (prefix_len is_blank xs ≢ length xs → 0 < position_or_len is_blank (drop (prefix_len is_blank xs) xs)) → 0 < position_or_len is_blank (drop (prefix_len is_blank (x ∷ xs)) (x ∷ xs))
some_part_cases x xs true e ne ih = rw (e, one-add) (ih (λ same. ne (rw (e, one-add) (ap suc same))))
some_part_cases x xs false e ne ih = rw e (rw e (omega arith))

-- what stands before the first byte that passes is the first piece
pub record Cut (p : ℕ → Bool) (xs : List ℕ) : Type 0 where
  pub tail : List (List ℕ)
  pub parts : slice_split p xs ≡ take (position_or_len p xs) xs ∷ tail
  pub rest : filter IsPart (slice_split p (drop (position_or_len p xs) xs)) ≡ filter IsPart tail

cut_cases : (p : ℕ → Bool) (x : ℕ) (xs : List ℕ) (v : Bool) → p x ≡ v → Cut p xs → Cut p (x ∷ xs)
cut_cases p x xs true e ih = record {
  tail = slice_split p xs;
  parts = rw e refl;
  rest = rw e (rw e refl);
}
cut_cases p x xs false e ih = record {
  tail = ih.tail;
  parts = rw (e, one-add) (ap (onto_first x) ih.parts);
  rest = rw (e, one-add) ih.rest;
}

cut : (p : ℕ → Bool) (xs : List ℕ) → Cut p xs
cut p [] = record { tail = []; parts = refl; rest = refl }
cut p (x ∷ xs) = cut_cases p x xs (p x) refl (cut p xs)

-- a text that begins with a part
pub first_part : (text : List ℕ) → 0 < position_or_len is_blank text → parts_of text ≡ take (position_or_len is_blank text) text ∷ parts_of (drop (position_or_len is_blank text) text)
unfolding parts_of
first_part text some =
    let c = cut is_blank text in
    let whole : length (take (position_or_len is_blank text) text) ≡ position_or_len is_blank text = length-prefix_len (λ b. not (is_blank b)) text in
    let full : (length (take (position_or_len is_blank text) text) == 0) ≡ false = ne_eqb _ _ (λ e. omega (arith, some, whole, e)) in
    rw (c.parts, c.rest) (rw full refl)

-- behind the blanks in front a part begins, if anything stands there
pub some_part : (text : List ℕ) → prefix_len is_blank text ≢ length text → 0 < position_or_len is_blank (drop (prefix_len is_blank text) text)
some_part [] ne = absurd (ne refl)
some_part (x ∷ xs) ne = some_part_cases x xs (is_blank x) refl ne (some_part xs)

split_whole_cases : (p : ℕ → Bool) (x : ℕ) (xs : List ℕ) (v : Bool) → p x ≡ v → (position_or_len p xs ≡ length xs → slice_split p xs ≡ xs ∷ []) → position_or_len p (x ∷ xs) ≡ length (x ∷ xs) → slice_split p (x ∷ xs) ≡ (x ∷ xs) ∷ []
split_whole_cases p x xs true e ih none = absurd (let h : 0 ≡ suc (length xs) = rw e at none in omega (arith, h))
split_whole_cases p x xs false e ih none = rw e (ap (onto_first x) (ih (let h : suc (position_or_len p xs) ≡ suc (length xs) = rw (e, one-add) at none in omega (arith, h))))

-- where none passes, there is one piece
pub split_whole : (p : ℕ → Bool) (xs : List ℕ) → position_or_len p xs ≡ length xs → slice_split p xs ≡ xs ∷ []
split_whole p [] none = refl
split_whole p (x ∷ xs) none = split_whole_cases p x xs (p x) refl (split_whole p xs) none

split_at_cases : (p : ℕ → Bool) (x : ℕ) (xs : List ℕ) (v : Bool) → p x ≡ v → (position_or_len p xs ≢ length xs → slice_split p xs ≡ take (position_or_len p xs) xs ∷ slice_split p (drop (suc (position_or_len p xs)) xs)) → position_or_len p (x ∷ xs) ≢ length (x ∷ xs) → slice_split p (x ∷ xs) ≡ take (position_or_len p (x ∷ xs)) (x ∷ xs) ∷ slice_split p (drop (suc (position_or_len p (x ∷ xs))) (x ∷ xs))
split_at_cases p x xs true e ih some = rw e refl
split_at_cases p x xs false e ih some = rw (e, one-add) (ap (onto_first x) (ih (λ same. some (rw (e, one-add) (ap suc same)))))

-- where one passes, the pieces behind the first one are those of what stands behind it
pub split_at : (p : ℕ → Bool) (xs : List ℕ) → position_or_len p xs ≢ length xs → slice_split p xs ≡ take (position_or_len p xs) xs ∷ slice_split p (drop (suc (position_or_len p xs)) xs)
split_at p [] some = absurd (some refl)
split_at p (x ∷ xs) some = split_at_cases p x xs (p x) refl (split_at p xs) some

-- the last line
pub lines_last : (text line : List ℕ) → slice_split is_line_feed text ≡ line ∷ [] → lines_of text ≡ line ∷ []
unfolding lines_of
lines_last text line e = ap without_returns e

-- a line that a line feed ends
pub lines_more : (text line rest : List ℕ) → slice_split is_line_feed text ≡ line ∷ slice_split is_line_feed rest → lines_of text ≡ without_return line ∷ lines_of rest
unfolding lines_of
lines_more text line rest e =
    let c = cut is_line_feed rest in
    ap without_returns e ∙ rw c.parts refl
