-- The code points that are read so far of what stands between two quotes.
use Rattle.std.proofs.Common.{◌≡◌, ℕ, suc, ◌+◌, ◌<◌, ◌≤◌, Bool, true, false, List, [], ◌∷◌, ◌++◌, length, take, drop, ◌-◌, Option, Some, None, refl, sym, ap, ◌∙◌, arith, length-append, append_assoc, length-drop}
use Rattle.std.specs.Prelude.{not, ◌&&◌, ◌==◌}
use Rattle.std.specs.Option.{option_map}
use Rattle.std.proofs.lemmas.Bool.{cond-false, and_from}
use Rattle.std.proofs.lemmas.List.{append-nil}
use Rattle.std.proofs.lemmas.List.Folds.{list_all-append}
use Rattle.std.proofs.Math.Seq.{drop-append_seam, take-length}
use Rattle.hum_syntax.specs.Forms.{Bytes, is_point, is_text, point_bytes, text_bytes}
use Rattle.hum_lex.specs.Faults.{BeginsNoPoint}
use Rattle.hum_lex.specs.Fronts.{closing, IsPointAt, IsBadAt}

-- ---- up to the closing quote

pub closing_stop : (taken : Bool) (more : Bytes) → taken ≡ false → closing taken (34 ∷ more) ≡ Some 0
closing_stop true more e = absurd cc
closing_stop false more e = refl

pub closing_step : (taken : Bool) (b : ℕ) (more : Bytes) → (not taken && b == 34) ≡ false → closing taken (b ∷ more) ≡ option_map suc (closing (not taken && b == 92) more)
closing_step true b more e = refl
closing_step false b more e = cond-false (b == 34) _ _ e

-- so many bytes further on
abbrev pub further : ℕ → Option ℕ → Option ℕ
further n o = option_map (λ m. n + m) o

pub further_suc : (n : ℕ) (o : Option ℕ) → further n (option_map suc o) ≡ further (n + 1) o
further_suc n None = refl
further_suc n (Some m) = ap (λ k. Some k) (let e : n + suc m ≡ n + 1 + m = omega arith in e)

pub further_zero : (o : Option ℕ) → further 0 o ≡ o
further_zero None = refl
further_zero (Some m) = ap (λ k. Some k) (let e : 0 + m ≡ m = omega arith in e)

-- ---- point by point

-- the first bytes are what the code points are written as
pub record IsInsideAt (bytes : Bytes) (at : ℕ) (cs : List ℕ) : Type 0 where
  pub points : is_text cs ≡ true
  pub split : bytes ≡ text_bytes cs ++ drop at bytes
  pub place : at ≡ length (text_bytes cs)

pub inside_start : (bytes : Bytes) → IsInsideAt bytes 0 []
inside_start bytes = record { points = refl; split = refl; place = refl }

text_bytes-push : (cs : List ℕ) (c : ℕ) → text_bytes (cs ++ c ∷ []) ≡ text_bytes cs ++ point_bytes c
text_bytes-push [] c = append-nil (point_bytes c)
text_bytes-push (d ∷ cs) c = ap (λ xs. point_bytes d ++ xs) (text_bytes-push cs c) ∙ sym (append_assoc (point_bytes d) (text_bytes cs) (point_bytes c))

pub inside_more : (bytes : Bytes) (at : ℕ) (cs : List ℕ) (c len : ℕ) → IsInsideAt bytes at cs → IsPointAt (drop at bytes) c len → IsInsideAt bytes (at + len) (cs ++ c ∷ [])
inside_more bytes at cs c len is point =
    let written = text_bytes-push cs c in
    let whole : bytes ≡ text_bytes (cs ++ c ∷ []) ++ point.more =
    is.split ∙ ap (λ xs. text_bytes cs ++ xs) point.split ∙ sym (append_assoc (text_bytes cs) (point_bytes c) point.more) ∙ ap (λ xs. xs ++ point.more) (sym written) in
    let place : at + len ≡ length (text_bytes (cs ++ c ∷ [])) =
    (let p = is.place in let l = point.long in let w = ap length written in omega (arith, length-append (text_bytes cs) (point_bytes c))) in
    let behind : drop (at + len) bytes ≡ point.more =
    ap (λ n. drop n bytes) place ∙ ap (drop (length (text_bytes (cs ++ c ∷ [])))) whole ∙ drop-append_seam (text_bytes (cs ++ c ∷ [])) point.more in
    record {
      points = list_all-append is_point cs (c ∷ []) ∙ and_from (is_text cs) (is_text (c ∷ [])) is.points (and_from (is_point c) true point.point refl);
      split = whole ∙ ap (λ xs. text_bytes (cs ++ c ∷ []) ++ xs) (sym behind);
      place = place;
    }

pub inside_within : (bytes : Bytes) (at : ℕ) (c len : ℕ) → at ≤ length bytes → IsPointAt (drop at bytes) c len → at + len ≤ length bytes
inside_within bytes at c len within point =
    let n = ap length point.split in let l = point.long in omega (arith, length-drop at bytes, length-append (point_bytes c) point.more)

nothing_left : (xs : Bytes) → length xs ≡ 0 → xs ≡ []
nothing_left [] e = refl
nothing_left (x ∷ xs) e = absurd (omega arith)

pub inside_end : (bytes : Bytes) (at : ℕ) (cs : List ℕ) → IsInsideAt bytes at cs → length bytes ≤ at → bytes ≡ text_bytes cs
inside_end bytes at cs is end = is.split ∙ ap (λ xs. text_bytes cs ++ xs) (nothing_left (drop at bytes) (omega (arith, length-drop at bytes))) ∙ append-nil (text_bytes cs)

pub inside_bad : (bytes : Bytes) (at : ℕ) (cs : List ℕ) → IsInsideAt bytes at cs → at < length bytes → BeginsNoPoint (drop at bytes) → IsBadAt bytes at
inside_bad bytes at cs is more none = record {
  cs = cs;
  us = drop at bytes;
  split = is.split;
  points = is.points;
  place = is.place;
  some = omega (arith, length-drop at bytes);
  no_point = none;
}

-- what a slice from a place on holds
pub rest_is : (bytes : Bytes) (at : ℕ) → take (length bytes - at) (drop at bytes) ≡ drop at bytes
rest_is bytes at = ap (λ n. take n (drop at bytes)) (sym (length-drop at bytes)) ∙ take-length (drop at bytes)
