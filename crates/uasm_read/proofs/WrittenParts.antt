-- What a line is written as is read again part by part.
use Rattle.std.proofs.Common.{◌≡◌, ℕ, zero, suc, ◌+◌, ◌-◌, ◌<◌, ◌==◌, Bool, true, false, List, [], ◌∷◌, length, get_or, Some, None, refl, sym, ap, ◌∙◌, arith, one-add}
use Rattle.std.specs.Prelude.{◌&&◌, ◌||◌, not, nat_le, slice_index}
use Rattle.std.specs.List.{list_all, All, position_from, before_first, join_with_byte}
use Rattle.std.specs.Str.{bytes_eq}
use Rattle.std.proofs.lemmas.Bool.{and_parts, and_from}
use Rattle.std.proofs.lemmas.Bool.Decides.{nat_tests}
use Rattle.std.proofs.lemmas.Cmp.{nat_list_eq_equiv}
use Rattle.std.proofs.lemmas.List.Folds.{list_all-append}
use Rattle.std.proofs.lemmas.List.Sums.{AllPass-from_list_all}
use Rattle.std.proofs.lemmas.List.Splits.{slice_split_none, slice_split_at}
use Rattle.uasm_read.specs.Texts.{Bytes, is_blank, is_ascii, is_semicolon, is_line_feed, last_byte, parts_of, place_of, has_name}
use Rattle.uasm_read.specs.Modules.{are_different}
use Rattle.uasm_read.specs.Writes.{part_at}
use Rattle.uasm_read.proofs.WrittenItems.{is_false}

-- a visible byte that begins no comment
abbrev pub is_part_byte : ℕ → Bool
is_part_byte b = nat_le 33 b && nat_le b 126 && not (b == 59)

abbrev pub is_part : Bytes → Bool
is_part [] = false
is_part (b ∷ bs) = is_part_byte b && list_all is_part_byte bs

-- a byte of a part, or the blank between two
abbrev pub is_line_byte : ℕ → Bool
is_line_byte b = nat_le 32 b && nat_le b 126 && not (b == 59)

-- ---- what each byte keeps

all_more : (p q : ℕ → Bool) → ((b : ℕ) → p b ≡ true → q b ≡ true) → (bs : Bytes) → list_all p bs ≡ true → list_all q bs ≡ true
all_more p q more [] h = refl
all_more p q more (b ∷ bs) h = let parts = and_parts (p b) _ h in and_from (q b) _ (more b parts.0) (all_more p q more bs parts.1)

none_of : (p q : ℕ → Bool) → ((b : ℕ) → p b ≡ true → q b ≡ false) → (bs : Bytes) → list_all p bs ≡ true → All (λ b. q b ≡ false) bs
none_of p q less bs h k d l = less (get_or bs k d) (AllPass-from_list_all p bs h k d l)

part_not_blank : (b : ℕ) → is_part_byte b ≡ true → is_blank b ≡ false
part_not_blank b h = grind (arith, nat_tests)

part_in_line : (b : ℕ) → is_part_byte b ≡ true → is_line_byte b ≡ true
part_in_line b h = grind (arith, nat_tests)

line_ascii : (b : ℕ) → is_line_byte b ≡ true → is_ascii b ≡ true
line_ascii b h = grind (arith, nat_tests)

line_no_comment : (b : ℕ) → is_line_byte b ≡ true → is_semicolon b ≡ false
line_no_comment b h = grind (arith, nat_tests)

line_no_feed : (b : ℕ) → is_line_byte b ≡ true → is_line_feed b ≡ false
line_no_feed b h = grind (arith, nat_tests)

line_no_return : (b : ℕ) → is_line_byte b ≡ true → not (b == 13) ≡ true
line_no_return b h = grind (arith, nat_tests)

-- ---- parts with a blank between each two

some_bytes : (n : ℕ) → not (suc n == 0) ≡ true
some_bytes n = grind (arith, nat_tests)

part_of : (part : Bytes) → is_part part ≡ true → (not (length part == 0) ≡ true) × (list_all is_part_byte part ≡ true)
part_of [] h = absurd (let e : false ≡ true = h in cc)
part_of (b ∷ bs) h = (some_bytes (length bs), h)

pub parts_joined : (parts : List Bytes) → list_all is_part parts ≡ true → parts_of (join_with_byte 32 parts) ≡ parts
unfolding parts_of
parts_joined [] h = refl
parts_joined (part ∷ []) h =
    let here = part_of part (and_parts (is_part part) _ h).0 in
    rw (slice_split_none is_blank part (none_of is_part_byte is_blank part_not_blank part here.1)) (rw here.0 refl)
parts_joined (part ∷ next ∷ parts) h =
    let both = and_parts (is_part part) _ h in
    let here = part_of part both.0 in
    rw (slice_split_at is_blank part 32 (join_with_byte 32 (next ∷ parts)) (none_of is_part_byte is_blank part_not_blank part here.1) refl)
    (rw here.0 (ap (λ ps. part ∷ ps) (parts_joined (next ∷ parts) both.1)))

pub line_bytes : (parts : List Bytes) → list_all is_part parts ≡ true → list_all is_line_byte (join_with_byte 32 parts) ≡ true
line_bytes [] h = refl
line_bytes (part ∷ []) h = all_more is_part_byte is_line_byte part_in_line part (part_of part (and_parts (is_part part) _ h).0).1
line_bytes (part ∷ next ∷ parts) h =
    let both = and_parts (is_part part) _ h in
    list_all-append is_line_byte part (32 ∷ join_with_byte 32 (next ∷ parts))
    ∙ and_from (list_all is_line_byte part) _ (all_more is_part_byte is_line_byte part_in_line part (part_of part both.0).1) (line_bytes (next ∷ parts) both.1)

-- ---- a line of such bytes

pub line_is_ascii : (line : Bytes) → list_all is_line_byte line ≡ true → list_all is_ascii line ≡ true
line_is_ascii line h = all_more is_line_byte is_ascii line_ascii line h

first_none : (p : ℕ → Bool) (bs : Bytes) → list_all (λ b. not (p b)) bs ≡ true → before_first p bs ≡ bs
first_none p [] h = refl
first_none p (b ∷ bs) h = let parts = and_parts (not (p b)) _ h in by_case (p b) refl parts.0 (first_none p bs parts.1)
  where
    by_case : (v : Bool) → p b ≡ v → not (p b) ≡ true → before_first p bs ≡ bs → before_first p (b ∷ bs) ≡ b ∷ bs
    by_case true e n ih = absurd (let f : false ≡ true = rw e at n in cc)
    by_case false e n ih = rw (e, one-add) (ap (λ ds. b ∷ ds) ih)

pub line_no_comments : (line : Bytes) → list_all is_line_byte line ≡ true → before_first is_semicolon line ≡ line
line_no_comments line h = first_none is_semicolon line (all_more is_line_byte (λ b. not (is_semicolon b)) (λ b e. rw (line_no_comment b e) refl) line h)

pub line_no_feeds : (line : Bytes) → list_all is_line_byte line ≡ true → All (λ b. is_line_feed b ≡ false) line
line_no_feeds line h = none_of is_line_byte is_line_feed line_no_feed line h

item_of : (p : ℕ → Bool) → p 0 ≡ true → (bs : Bytes) (i : ℕ) → list_all p bs ≡ true → p (slice_index bs i) ≡ true
item_of p z [] i h = z
item_of p z (b ∷ bs) zero h = (and_parts (p b) _ h).0
item_of p z (b ∷ bs) (suc i) h = item_of p z bs i (and_parts (p b) _ h).1

pub line_no_returns : (line : Bytes) → list_all is_line_byte line ≡ true → (last_byte line == 13) ≡ false
line_no_returns line h = let e = item_of (λ b. not (b == 13)) refl line (length line - 1) (all_more is_line_byte (λ b. not (b == 13)) line_no_return line h) in is_false (last_byte line == 13) e

-- ---- words that are found again

other_false : (list : List Bytes) (name : Bytes) (k : ℕ) → k < length list → not (has_name list name) ≡ true → bytes_eq (get_or list k []) name ≡ false
other_false [] name k l h = absurd (omega arith)
other_false (other ∷ list) name zero l h = sym (nat_list_eq_equiv.symm name other) ∙ first_false (bytes_eq name other) (has_name list name) h
  where
    first_false : (a b : Bool) → not (a || b) ≡ true → a ≡ false
    first_false true b e = absurd (let f : false ≡ true = e in cc)
    first_false false b e = refl
other_false (other ∷ list) name (suc k) l h = other_false list name k (omega (arith, l)) (second_false (bytes_eq name other) (has_name list name) h)
  where
    second_false : (a b : Bool) → not (a || b) ≡ true → not b ≡ true
    second_false true b e = absurd (let f : false ≡ true = e in cc)
    second_false false b e = e

found_from : (list : List Bytes) (i k : ℕ) → are_different list ≡ true → k < length list → position_from (bytes_eq (get_or list k [])) i list ≡ Some (i + k)
found_from [] i k d l = absurd (omega arith)
found_from (name ∷ list) i zero d l = rw (nat_list_eq_equiv.refl name) (ap Some (omega arith))
found_from (name ∷ list) i (suc k) d l =
    let parts = and_parts (not (has_name list name)) _ d in
    rw (other_false list name k (omega (arith, l)) parts.0) (found_from list (i + 1) k parts.1 (omega (arith, l)) ∙ ap Some (let e : i + 1 + k ≡ i + suc k = omega arith in e))

pub place_again : (words : Bytes) (k : ℕ) → are_different (parts_of words) ≡ true → k < length (parts_of words) → place_of (part_at words k) words ≡ Some k
unfolding place_of part_at
place_again words k d l = found_from (parts_of words) 0 k d l ∙ ap Some (let e : 0 + k ≡ k = omega arith in e)

pub not_found : (t : Bytes → Bool) (i : ℕ) (list : List Bytes) → list_all (λ x. not (t x)) list ≡ true → position_from t i list ≡ None
not_found t i [] h = refl
not_found t i (x ∷ list) h = let parts = and_parts (not (t x)) _ h in by_case (t x) refl parts.0 (not_found t (i + 1) list parts.1)
  where
    by_case : (v : Bool) → t x ≡ v → not (t x) ≡ true → position_from t (i + 1) list ≡ None → position_from t i (x ∷ list) ≡ None
    by_case true e n ih = absurd (let f : false ≡ true = rw e at n in cc)
    by_case false e n ih = rw e ih

-- a test that each of some words passes
pub word_passes : (p : Bytes → Bool) (words : Bytes) (k : ℕ) → list_all p (parts_of words) ≡ true → k < length (parts_of words) → p (part_at words k) ≡ true
unfolding part_at
word_passes p words k h l = AllPass-from_list_all p (parts_of words) h k [] l
