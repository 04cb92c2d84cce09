-- Where a text ends, and that it is written in one way.
use Rattle.std.proofs.Common.{◌≡◌, ℕ, suc, ◌+◌, ◌/◌, ◌%◌, ◌<◌, ◌≤◌, Bool, true, false, List, [], ◌∷◌, ◌++◌, length, take, drop, Option, Some, None, refl, sym, ap, ◌∙◌, subst, arith, inl, inr, length-append, append_assoc}
use Rattle.std.specs.Prelude.{not, ◌&&◌, ◌==◌}
use Rattle.std.specs.Char.{encode_utf8}
use Rattle.std.specs.List.{list_all}
use Rattle.std.specs.Option.{option_map}
use Rattle.std.proofs.lemmas.Bool.{cond-true, cond-false, and_parts, and_from, not-true, cases_Bool, ne_eqb, eqb-true, true≢false, cases_lt, lt-ltb, le-ltb}
use Rattle.std.proofs.lemmas.List.{append_cancel_left}
use Rattle.std.proofs.Math.Seq.{take-append_seam}
use Rattle.hum_syntax.specs.Forms.{is_point, is_text, point_bytes, text_bytes}
use Rattle.hum_lex.specs.Faults.{BeginsNoPoint, is_inside}
use Rattle.hum_lex.specs.Fronts.{closing}
use Rattle.hum_lex.proofs.Points.{point_cases, point_same, point_no_quote, point_some}

-- a text is written in one way
pub text_same : (cs ds us vs : List ℕ) → is_text cs ≡ true → is_text ds ≡ true → text_bytes cs ++ 34 ∷ us ≡ text_bytes ds ++ 34 ∷ vs → (cs ≡ ds) × (us ≡ vs)
text_same [] [] us vs text_c text_d e = (refl, ap (drop 1) e)
text_same [] (d ∷ ds) us vs text_c text_d e =
    let p = and_parts _ _ text_d in absurd (point_no_quote d p.0 (text_bytes ds ++ 34 ∷ vs) us (sym (e ∙ append_assoc (point_bytes d) (text_bytes ds) (34 ∷ vs))))
text_same (c ∷ cs) [] us vs text_c text_d e =
    let p = and_parts _ _ text_c in absurd (point_no_quote c p.0 (text_bytes cs ++ 34 ∷ us) vs (sym (append_assoc (point_bytes c) (text_bytes cs) (34 ∷ us)) ∙ e))
text_same (c ∷ cs) (d ∷ ds) us vs text_c text_d e =
    let p = and_parts _ _ text_c in let q = and_parts _ _ text_d in
    let one = point_same c d (text_bytes cs ++ 34 ∷ us) (text_bytes ds ++ 34 ∷ vs) p.0 q.0
    (sym (append_assoc (point_bytes c) (text_bytes cs) (34 ∷ us)) ∙ e ∙ append_assoc (point_bytes d) (text_bytes ds) (34 ∷ vs)) in
    let more = text_same cs ds us vs p.1 q.1 one.1 in
    ((λ i. one.0 i ∷ more.0 i), more.1)

-- what goes on behind code points goes on with one
pub text_goes_on : (cs ds us : List ℕ) → is_text cs ≡ true → is_text ds ≡ true → text_bytes ds ≡ text_bytes cs ++ us → 0 < length us → BeginsNoPoint us → ⊥
text_goes_on [] [] us text_c text_d e some none = let n = ap length e in omega arith
text_goes_on [] (d ∷ ds) us text_c text_d e some none = let q = and_parts _ _ text_d in none d (text_bytes ds) q.0 (sym e)
text_goes_on (c ∷ cs) [] us text_c text_d e some none =
    let p = and_parts _ _ text_c in
    let n = ap length e in
    let one = point_some c p.0 in
    omega (arith, length-append (point_bytes c ++ text_bytes cs) us, length-append (point_bytes c) (text_bytes cs))
text_goes_on (c ∷ cs) (d ∷ ds) us text_c text_d e some none =
    let p = and_parts _ _ text_c in let q = and_parts _ _ text_d in
    let one = point_same d c (text_bytes ds) (text_bytes cs ++ us) q.0 p.0 (e ∙ append_assoc (point_bytes c) (text_bytes cs) us) in
    text_goes_on cs ds us p.1 q.1 one.1 some none

-- ---- the quote that ends a text

pub closing-inside : (taken : Bool) (us vs : List ℕ) → is_inside taken us ≡ true → closing taken (us ++ 34 ∷ vs) ≡ Some (length us)
closing-inside true [] vs inside = absurd (true≢false (sym inside))
closing-inside false [] vs inside = refl
closing-inside true (b ∷ us) vs inside = ap (option_map suc) (closing-inside false us vs inside)
closing-inside false (b ∷ us) vs inside =
    let p = and_parts (not (b == 34)) (is_inside (b == 92) us) inside in
    cond-false (b == 34) _ _ (not-true (b == 34) p.0) ∙ ap (option_map suc) (closing-inside (b == 92) us vs p.1)

-- so what stands between the quotes is told by the bytes
pub same_inside : (us vs xs ys : List ℕ) → is_inside false us ≡ true → is_inside false vs ≡ true → us ++ 34 ∷ xs ≡ vs ++ 34 ∷ ys → (us ≡ vs) × (xs ≡ ys)
same_inside us vs xs ys inside_u inside_v e =
    let some = sym (closing-inside false us xs inside_u) ∙ ap (closing false) e ∙ closing-inside false vs ys inside_v in
    let n : length us ≡ length vs = cc in
    let front : us ≡ vs = sym (take-append_seam us (34 ∷ xs)) ∙ ap (take (length us)) e ∙ ap (λ k. take k (vs ++ 34 ∷ ys)) n ∙ take-append_seam vs (34 ∷ ys) in
    let rest = append_cancel_left vs (34 ∷ xs) (34 ∷ ys) (subst (λ z. z ++ 34 ∷ xs ≡ vs ++ 34 ∷ ys) front e) in
    (front, ap (drop 1) rest)

pub not_closed : (bs : List ℕ) → closing false bs ≡ None → (us vs : List ℕ) → is_inside false us ≡ true → bs ≡ us ++ 34 ∷ vs → ⊥
not_closed bs none us vs inside e = let some = closing-inside false us vs inside in let same = ap (closing false) e in cc

-- the first n bytes stand before the quote that ends the text
pub record IsClosed (taken : Bool) (bs : List ℕ) (n : ℕ) : Type 0 where
  pub us : List ℕ
  pub rest : List ℕ
  pub split : bs ≡ us ++ 34 ∷ rest
  pub inside : is_inside taken us ≡ true
  pub long : n ≡ length us

more_some : (o : Option ℕ) (n : ℕ) → option_map suc o ≡ Some n → (m : ℕ) × (o ≡ Some m) × (n ≡ suc m)
more_some None n e = absurd cc
more_some (Some m) n e = (m, refl, (let same : n ≡ suc m = cc in same))

one_more : (taken next : Bool) (b : ℕ) (bs : List ℕ) (n m : ℕ) → n ≡ suc m → ((us : List ℕ) → is_inside next us ≡ true → is_inside taken (b ∷ us) ≡ true) → IsClosed next bs m → IsClosed taken (b ∷ bs) n
one_more taken next b bs n m e goes is = record {
  us = b ∷ is.us;
  rest = is.rest;
  split = ap (λ xs. b ∷ xs) is.split;
  inside = goes is.us is.inside;
  long = e ∙ ap suc is.long;
}

pub closed : (taken : Bool) (bs : List ℕ) (n : ℕ) → closing taken bs ≡ Some n → IsClosed taken bs n
closed true [] n e = absurd cc
closed false [] n e = absurd cc
closed true (b ∷ bs) n e =
    let m = more_some (closing false bs) n e in one_more true false b bs n m.0 m.2 (λ us h. h) (closed false bs m.0 m.1)
closed false (b ∷ bs) n e = elim (cases_Bool (b == 34)) [
  | inl quote ↦
      let zero_is : Some 0 ≡ Some n = sym (cond-true (b == 34) _ _ quote) ∙ e in
      record { us = []; rest = bs; split = ap (λ x. x ∷ bs) (eqb-true b 34 quote); inside = refl; long = (let same : n ≡ 0 = cc in same) }
  | inr other ↦
      let m = more_some (closing (b == 92) bs) n (sym (cond-false (b == 34) _ _ other) ∙ e) in
      one_more false (b == 92) b bs n m.0 m.2 (λ us h. and_from (not (b == 34)) (is_inside (b == 92) us) (ap not other) h) (closed (b == 92) bs m.0 m.1)
]

-- ---- what is written of code points ends no text

-- a byte that neither ends a text nor takes the next one
abbrev quiet : ℕ → Bool
quiet b = not (b == 34) && not (b == 92)

quiet_from : (b : ℕ) → (b ≡ 34 → ⊥) → (b ≡ 92 → ⊥) → quiet b ≡ true
quiet_from b not_34 not_92 = and_from (not (b == 34)) (not (b == 92)) (ap not (ne_eqb b 34 not_34)) (ap not (ne_eqb b 92 not_92))

high_quiet : (b : ℕ) → 128 ≤ b → quiet b ≡ true
high_quiet b high = quiet_from b (λ e. absurd (omega arith)) (λ e. absurd (omega arith))

encode-quiet : (c : ℕ) → (c ≡ 34 → ⊥) → (c ≡ 92 → ⊥) → list_all quiet (encode_utf8 c) ≡ true
unfolding encode_utf8
encode-quiet c not_34 not_92 =
    let q = λ (b : ℕ). high_quiet (128 + b % 64) (omega arith) in
    elim (cases_lt c 128) [
      | inl low ↦ ap (list_all quiet) (cond-true _ _ _ (lt-ltb c 128 low)) ∙ and_from _ _ (quiet_from c not_34 not_92) refl
      | inr high ↦ ap (list_all quiet) (cond-false _ _ _ (le-ltb c 128 high)) ∙ (elim (cases_lt c 2048) [
        | inl low ↦ ap (list_all quiet) (cond-true _ _ _ (lt-ltb c 2048 low)) ∙ and_from _ _ (high_quiet (192 + c / 64) (omega arith)) (and_from _ _ (q c) refl)
        | inr high ↦ ap (list_all quiet) (cond-false _ _ _ (le-ltb c 2048 high)) ∙ (elim (cases_lt c 65536) [
          | inl low ↦ ap (list_all quiet) (cond-true _ _ _ (lt-ltb c 65536 low))
              ∙ and_from _ _ (high_quiet (224 + c / 4096) (omega arith)) (and_from _ _ (q (c / 64)) (and_from _ _ (q c) refl))
          | inr high ↦ ap (list_all quiet) (cond-false _ _ _ (le-ltb c 65536 high))
              ∙ and_from _ _ (high_quiet (240 + c / 262144) (omega arith)) (and_from _ _ (q (c / 4096)) (and_from _ _ (q (c / 64)) (and_from _ _ (q c) refl)))
        ])
      ])
    ]

is_inside-quiet : (xs us : List ℕ) → list_all quiet xs ≡ true → is_inside false (xs ++ us) ≡ is_inside false us
is_inside-quiet [] us all = refl
is_inside-quiet (x ∷ xs) us all =
    let p = and_parts (quiet x) (list_all quiet xs) all in
    let q = and_parts (not (x == 34)) (not (x == 92)) p.0 in
    ap (λ t. t && is_inside (x == 92) (xs ++ us)) q.0 ∙ ap (λ t. is_inside t (xs ++ us)) (not-true (x == 92) q.1) ∙ is_inside-quiet xs us p.1

is_inside-point : (c : ℕ) → is_point c ≡ true → (us : List ℕ) → is_inside false (point_bytes c ++ us) ≡ is_inside false us
is_inside-point = point_cases (λ c. (us : List ℕ) → is_inside false (point_bytes c ++ us) ≡ is_inside false us) (λ us. refl) (λ us. refl) (λ us. refl) (λ us. refl)
    (λ c is us. ap (λ front. is_inside false (front ++ us)) is.bytes ∙ is_inside-quiet (encode_utf8 c) us (encode-quiet c is.no_quote is.no_escape))

pub inside_text : (cs : List ℕ) → is_text cs ≡ true → is_inside false (text_bytes cs) ≡ true
inside_text [] text = refl
inside_text (c ∷ cs) text = let p = and_parts _ _ text in is_inside-point c p.0 (text_bytes cs) ∙ inside_text cs p.1
