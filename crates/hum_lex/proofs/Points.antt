-- How a text writes its code points: each in one way, and none begins another.
use Rattle.std.proofs.Common.{◌≡◌, ℕ, ◌<◌, ◌≤◌, true, false, List, [], ◌∷◌, ◌++◌, length, drop, slice_index, Option, Some, None, refl, sym, ap, ◌∙◌, subst, arith, inl, inr, length-append}
use Rattle.std.specs.Prelude.{not, if◌then◌else◌, ◌&&◌, ◌||◌, ◌==◌, nat_le, encode_utf8}
use Rattle.std.proofs.lemmas.Bool.{cond-true, cond-false, and_parts, and_from, or_cases, or_right, not-true, cases_eq, ne_eqb, eqb-true, eqb-false, leb-true, true≢false}
use Rattle.std.proofs.lemmas.List.{append_cancel_left}
use Rattle.std.proofs.lemmas.Str.{char_from_byte, length-encode, len_utf8_bounds}
use Rattle.bstr.specs.Utf8.{decoded, Decoded}
use Rattle.bstr.proofs.lemmas.EncodeLemmas.{decoded-encode}
use Rattle.bstr.proofs.lemmas.SoundLemmas.{SpellsChar-decoded}
use Rattle.hum_syntax.specs.Forms.{is_point, point_bytes}
use Rattle.hum_lex.specs.Faults.{BeginsNoPoint}
use Rattle.hum_lex.specs.Fronts.{escaped, is_plain, IsPointAt}
use lib.Utf8.{scalar}

abbrev pub if_plain : Option ℕ → Option ℕ
if_plain None = None
if_plain (Some c) = if is_plain c then Some c else None

-- the code point at the front
abbrev pub point_of : List ℕ → Option ℕ
point_of bs = if slice_index bs 0 == 92 then escaped (slice_index bs 1) else if_plain (decoded bs).char

-- a code point that is written in UTF-8
pub record IsOrdinary (c : ℕ) : Type 0 where
  pub plain : is_plain c ≡ true
  pub scalar : scalar c ≡ true
  pub bytes : point_bytes c ≡ encode_utf8 c
  pub no_escape : c ≡ 92 → ⊥
  pub no_quote : c ≡ 34 → ⊥

module _ (c : ℕ) (not_10 : c ≡ 10 → ⊥) (not_9 : c ≡ 9 → ⊥) (not_34 : c ≡ 34 → ⊥) (not_92 : c ≡ 92 → ⊥) where
  ordinary_bytes : point_bytes c ≡ encode_utf8 c
  ordinary_bytes =
      cond-false (c == 10) _ _ (ne_eqb c 10 not_10) ∙ cond-false (c == 9) _ _ (ne_eqb c 9 not_9)
      ∙ cond-false (c == 34) _ _ (ne_eqb c 34 not_34) ∙ cond-false (c == 92) _ _ (ne_eqb c 92 not_92)

  ordinary : is_point c ≡ true → IsOrdinary c
  ordinary point = elim (or_cases (c == 9 || c == 10) (nat_le 32 c && not (c == 127) && scalar c) point) [
    | inl low ↦ elim (or_cases (c == 9) (c == 10) low) [ inl e ↦ absurd (not_9 (eqb-true c 9 e)) | inr e ↦ absurd (not_10 (eqb-true c 10 e)) ]
    | inr high ↦
        let parts = and_parts (nat_le 32 c && not (c == 127)) (scalar c) high in
        record {
          plain = and_from (nat_le 32 c && not (c == 127) && not (c == 34)) (not (c == 92))
              (and_from (nat_le 32 c && not (c == 127)) (not (c == 34)) parts.0 (ap not (ne_eqb c 34 not_34))) (ap not (ne_eqb c 92 not_92));
          scalar = parts.1;
          bytes = ordinary_bytes;
          no_escape = not_92;
          no_quote = not_34;
        }
  ]

-- a code point stands behind a `\`, or is written in UTF-8
pub point_cases : (P : ℕ → Type 0) → P 10 → P 9 → P 34 → P 92 → ((c : ℕ) → IsOrdinary c → P c) → (c : ℕ) → is_point c ≡ true → P c
point_cases P at_10 at_9 at_34 at_92 others c point = elim (cases_eq c 10) [
  | inl e ↦ subst P (sym e) at_10
  | inr not_10 ↦ elim (cases_eq c 9) [
    | inl e ↦ subst P (sym e) at_9
    | inr not_9 ↦ elim (cases_eq c 34) [
      | inl e ↦ subst P (sym e) at_34
      | inr not_34 ↦ elim (cases_eq c 92) [
        | inl e ↦ subst P (sym e) at_92
        | inr not_92 ↦ others c (ordinary c not_10 not_9 not_34 not_92 point)
      ]
    ]
  ]
]

encode_some : (c : ℕ) → 0 < length (encode_utf8 c)
encode_some c = let b = len_utf8_bounds c in omega (arith, length-encode c)

reads_ordinary : (c : ℕ) → IsOrdinary c → (more : List ℕ) → point_of (point_bytes c ++ more) ≡ Some c
reads_ordinary c is more =
    let bs = encode_utf8 c ++ more in
    let some : 0 < length bs = omega (arith, encode_some c, length-append (encode_utf8 c) more) in
    let no_escape : (slice_index bs 0 == 92) ≡ false = ne_eqb (slice_index bs 0) 92 (λ e. is.no_escape (char_from_byte bs more c refl (omega arith) some ∙ e)) in
    ap (λ us. point_of (us ++ more)) is.bytes ∙ cond-false (slice_index bs 0 == 92) _ _ no_escape
    ∙ ap (λ (d : Decoded). if_plain d.char) (decoded-encode c more is.scalar) ∙ cond-true (is_plain c) _ _ is.plain

-- what was written is read again, whatever follows
pub reads_point : (c : ℕ) → is_point c ≡ true → (more : List ℕ) → point_of (point_bytes c ++ more) ≡ Some c
reads_point = point_cases (λ c. (more : List ℕ) → point_of (point_bytes c ++ more) ≡ Some c) (λ more. refl) (λ more. refl) (λ more. refl) (λ more. refl) reads_ordinary

some_same : (c d : ℕ) → Some c ≡ Some d → c ≡ d
some_same c d e = cc

-- so no code point begins another
pub point_same : (c d : ℕ) (us vs : List ℕ) → is_point c ≡ true → is_point d ≡ true → point_bytes c ++ us ≡ point_bytes d ++ vs → (c ≡ d) × (us ≡ vs)
point_same c d us vs point_c point_d e =
    let same : c ≡ d = some_same c d (sym (reads_point c point_c us) ∙ ap point_of e ∙ reads_point d point_d vs) in
    (same, append_cancel_left (point_bytes d) us vs (subst (λ x. point_bytes x ++ us ≡ point_bytes d ++ vs) same e))

-- and none is written where none is read
pub no_point : (bs : List ℕ) → point_of bs ≡ None → BeginsNoPoint bs
no_point bs none c more point e = let read = reads_point c point more in let same = ap point_of e in cc

-- no code point is written with a quote in front
pub point_no_quote : (c : ℕ) → is_point c ≡ true → (us vs : List ℕ) → point_bytes c ++ us ≡ 34 ∷ vs → ⊥
point_no_quote = point_cases (λ c. (us vs : List ℕ) → point_bytes c ++ us ≡ 34 ∷ vs → ⊥)
    (λ us vs e. let h : 92 ≡ 34 = ap (λ l. slice_index l 0) e in absurd (omega arith)) (λ us vs e. let h : 92 ≡ 34 = ap (λ l. slice_index l 0) e in absurd (omega arith))
    (λ us vs e. let h : 92 ≡ 34 = ap (λ l. slice_index l 0) e in absurd (omega arith)) (λ us vs e. let h : 92 ≡ 34 = ap (λ l. slice_index l 0) e in absurd (omega arith))
    (λ c is us vs e.
    let e' : 34 ∷ vs ≡ encode_utf8 c ++ us = sym e ∙ ap (λ front. front ++ us) is.bytes in
    let at : c ≡ 34 = char_from_byte (34 ∷ vs) us c e' (omega arith) (omega arith) in
    let plain = sym is.plain ∙ ap is_plain at in
    true≢false plain)

pub point_some : (c : ℕ) → is_point c ≡ true → 0 < length (point_bytes c)
point_some = point_cases (λ c. 0 < length (point_bytes c)) (omega arith) (omega arith) (omega arith) (omega arith) (λ c is. rw is.bytes (encode_some c))

-- ---- what the lexer reads is so written

escaped_at : (b c : ℕ) → escaped b ≡ Some c → (is_point c ≡ true) × (point_bytes c ≡ 92 ∷ b ∷ [])
escaped_at b c e = elim (cases_eq b 110) [
  | inl at ↦ let is : 10 ≡ c = some_same 10 c (sym (ap escaped at) ∙ e) in subst (λ x. (is_point x ≡ true) × (point_bytes x ≡ 92 ∷ b ∷ [])) is (refl, ap (λ x. 92 ∷ x ∷ []) (sym at))
  | inr not_110 ↦ elim (cases_eq b 116) [
    | inl at ↦ let is : 9 ≡ c = some_same 9 c (sym (ap escaped at) ∙ e) in subst (λ x. (is_point x ≡ true) × (point_bytes x ≡ 92 ∷ b ∷ [])) is (refl, ap (λ x. 92 ∷ x ∷ []) (sym at))
    | inr not_116 ↦ elim (cases_eq b 34) [
      | inl at ↦ let is : 34 ≡ c = some_same 34 c (sym (ap escaped at) ∙ e) in subst (λ x. (is_point x ≡ true) × (point_bytes x ≡ 92 ∷ b ∷ [])) is (refl, ap (λ x. 92 ∷ x ∷ []) (sym at))
      | inr not_34 ↦ elim (cases_eq b 92) [
        | inl at ↦ let is : 92 ≡ c = some_same 92 c (sym (ap escaped at) ∙ e) in subst (λ x. (is_point x ≡ true) × (point_bytes x ≡ 92 ∷ b ∷ [])) is (refl, ap (λ x. 92 ∷ x ∷ []) (sym at))
        | inr not_92 ↦
            let none : escaped b ≡ None =
            cond-false (b == 110) _ _ (ne_eqb b 110 not_110) ∙ cond-false (b == 116) _ _ (ne_eqb b 116 not_116)
            ∙ cond-false (b == 34) _ _ (ne_eqb b 34 not_34) ∙ cond-false (b == 92) _ _ (ne_eqb b 92 not_92) in
            absurd cc
      ]
    ]
  ]
]

-- in UTF-8
plain_point : (c : ℕ) → is_plain c ≡ true → scalar c ≡ true → (is_point c ≡ true) × (point_bytes c ≡ encode_utf8 c)
plain_point c plain scalar_c =
    let p = and_parts (nat_le 32 c && not (c == 127) && not (c == 34)) (not (c == 92)) plain in
    let q = and_parts (nat_le 32 c && not (c == 127)) (not (c == 34)) p.0 in
    let r = and_parts (nat_le 32 c) (not (c == 127)) q.0 in
    let not_34 = eqb-false c 34 (not-true (c == 34) q.1) in
    let not_92 = eqb-false c 92 (not-true (c == 92) p.1) in
    let low : 32 ≤ c = leb-true 32 c r.0 in (
      or_right (c == 9 || c == 10) _ (and_from (nat_le 32 c && not (c == 127)) (scalar c) q.0 scalar_c),
      ordinary_bytes c (λ e. absurd (omega arith)) (λ e. absurd (omega arith)) not_34 not_92,
    )

pub plain_at : (bs : List ℕ) (c len : ℕ) → (decoded bs).char ≡ Some c → len ≡ (decoded bs).size → is_plain c ≡ true → IsPointAt bs c len
plain_at bs c len char size plain =
    let spells = SpellsChar-decoded bs c char in
    let p = plain_point c plain spells.scalar in
    record {
      point = p.0;
      more = drop (decoded bs).size bs;
      split = spells.bytes ∙ ap (λ us. us ++ drop (decoded bs).size bs) (sym p.1);
      long = size ∙ sym spells.width ∙ ap length (sym p.1);
    }

pub none_plain : (bs : List ℕ) (c : ℕ) → (slice_index bs 0 ≡ 92 → ⊥) → (decoded bs).char ≡ Some c → is_plain c ≡ false → BeginsNoPoint bs
none_plain bs c no_escape char plain = no_point bs (cond-false (slice_index bs 0 == 92) _ _ (ne_eqb (slice_index bs 0) 92 no_escape) ∙ ap if_plain char ∙ cond-false (is_plain c) _ _ plain)

pub none_decoded : (bs : List ℕ) → (slice_index bs 0 ≡ 92 → ⊥) → (decoded bs).char ≡ None → BeginsNoPoint bs
none_decoded bs no_escape char = no_point bs (cond-false (slice_index bs 0 == 92) _ _ (ne_eqb (slice_index bs 0) 92 no_escape) ∙ ap if_plain char)

-- a `\` at the end
pub escape_end : (rest : List ℕ) → length rest < 1 → BeginsNoPoint (92 ∷ rest)
escape_end [] e = no_point (92 ∷ []) refl
escape_end (b ∷ rest) e = absurd (omega arith)

-- a `\` before a byte
pub escape_none : (rest : List ℕ) → 1 ≤ length rest → escaped (slice_index rest 0) ≡ None → BeginsNoPoint (92 ∷ rest)
escape_none [] some e = absurd (omega arith)
escape_none (b ∷ rest) some e = no_point (92 ∷ b ∷ rest) e

pub escape_some : (rest : List ℕ) (c : ℕ) → 1 ≤ length rest → escaped (slice_index rest 0) ≡ Some c → IsPointAt (92 ∷ rest) c 2
escape_some [] c some e = absurd (omega arith)
escape_some (b ∷ rest) c some e =
    let at = escaped_at b c e in record { point = at.0; more = rest; split = ap (λ us. us ++ rest) (sym at.1); long = ap length (sym at.1) }

-- a code point takes a byte at least
pub point_len : (bs : List ℕ) (c len : ℕ) → IsPointAt bs c len → 0 < len
point_len bs c len is = let l = is.long in let some = point_some c is.point in omega arith
