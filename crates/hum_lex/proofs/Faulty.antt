-- Where a text has a fault, no tokens go on.
use Rattle.std.proofs.Common.{◌≡◌, ℕ, ◌+◌, ◌<◌, true, false, List, ◌∷◌, ◌++◌, length, drop, refl, sym, ap, ◌∙◌, arith, inl, inr}
use Rattle.std.specs.Prelude.{◌||◌, ◌==◌}
use Rattle.std.proofs.lemmas.Bool.{cond-false, or_cases, eqb-true, both_ways, false_from_ne_true}
use Rattle.hum_syntax.specs.declared.TokenKind.{TokenKind}
use Rattle.hum_syntax.specs.Forms.{Bytes, is_blank, is_delimiter, is_run_byte, text_bytes}
use Rattle.hum_syntax.specs.Kinds.{kind_of_run}
use Rattle.hum_syntax.specs.Tokens.{Placed, weight_of, weight, weight_limit}
use Rattle.hum_syntax.specs.Lexes.{IsWholeRun, is_large, is_reserved, Stands, Spot, Step, token}
use Rattle.hum_lex.specs.declared.error.LexCause.{LexCause}
use Rattle.hum_lex.specs.declared.error.LexCause.TheVariants as cause
use Rattle.hum_lex.specs.Faults.{Fault, stray, hash_delimiter, hash_stray, open_text, bad_text, long_run, long_symbol, large, reserved, heavy}
use Rattle.hum_lex.proofs.Runs.{same_front}
use Rattle.hum_lex.proofs.Texts.{same_inside, text_goes_on, inside_text}
use Rattle.hum_lex.proofs.Leads.{lead, lead_run, lead_symbol, lead_stray, run_first, run_byte, one_step, IsRunStep, run_step, symbol_step, text_step, no_step}

pub delimiter_no_blank : (b : ℕ) → is_delimiter b ≡ true → is_blank b ≡ false
delimiter_no_blank b is = false_from_ne_true (is_blank b) (λ h.
    elim (or_cases (b == 32 || b == 9 || b == 13) (b == 10) h) [
      | inl h ↦ elim (or_cases (b == 32 || b == 9) (b == 13) h) [
        | inl h ↦ elim (or_cases (b == 32) (b == 9) h) [ inl h ↦ none 32 refl h | inr h ↦ none 9 refl h ]
        | inr h ↦ none 13 refl h
      ]
      | inr h ↦ none 10 refl h
    ])
  where
    none : (n : ℕ) → is_delimiter n ≡ false → (b == n) ≡ true → ⊥
    none n fails e = both_ways (is_delimiter b) (ap is_delimiter (eqb-true b n e) ∙ fails) is

pub lead_hash : (b : ℕ) (rest : Bytes) → is_blank b ≡ false → lead (35 ∷ b ∷ rest) ≡ 4
lead_hash b rest dark = cond-false (is_blank b) 3 4 dark

-- the byte behind a symbol's `#` is a run's
hash_run_byte : (s m : Spot) (us : List Placed) (b : ℕ) (rest : Bytes) → Step s us m → s.rest ≡ 35 ∷ b ∷ rest → is_blank b ≡ false → is_run_byte b ≡ true
hash_run_byte s m us b rest h e dark =
    let is = symbol_step s m us h (ap lead e ∙ lead_hash b rest dark) in
    let first = run_first is.us is.rest is.whole in
    let same : b ∷ rest ≡ first.0 ∷ first.1 ++ is.rest = ap (drop 1) (sym e ∙ is.split) ∙ ap (λ xs. xs ++ is.rest) first.2 in
    let byte : b ≡ first.0 = cc in
    ap is_run_byte byte ∙ first.3

-- two runs at one place are one
pub same_run : (us rest vs more : Bytes) → IsWholeRun us rest → IsWholeRun vs more → us ++ rest ≡ vs ++ more → us ≡ vs
same_run us rest vs more w w' e = (same_front is_run_byte us rest vs more w.each w.maximal w'.each w'.maximal e).0

module _ (s m : Spot) (us : List Placed) (weighed len : ℕ) (why : LexCause) (h : Step s us m) where
  at_run : (xs rest : Bytes) → s.rest ≡ xs ++ rest → IsWholeRun xs rest → IsRunStep s.rest
  at_run xs rest e w = run_step s m us h (ap lead e ∙ lead_run xs rest w)

  at_same : (xs rest : Bytes) (e : s.rest ≡ xs ++ rest) (w : IsWholeRun xs rest) → (at_run xs rest e w).us ≡ xs
  at_same xs rest e w = let is = at_run xs rest e w in same_run is.us is.rest xs rest is.whole w (sym is.split ∙ e)

weighs : (s m : Spot) (us : List Placed) (xs rest : Bytes) (kind : TokenKind) → s.rest ≡ xs ++ rest → Stands s.called xs rest kind → Step s us m → weight us ≡ weight_of kind
weighs s m us xs rest kind e stands h =
    let same = one_step s m _ us _ h (token e stands) in
    ap weight same.0 ∙ (let zero_more : weight_of kind + 0 ≡ weight_of kind = omega arith in zero_more)

-- A step from a place with a fault makes the tokens too heavy, and the fault is no other.
pub only_heavy : (s m : Spot) (us : List Placed) (weighed len : ℕ) (why : LexCause) → Fault s.called weighed s.rest len why → Step s us m
    → (len ≡ 0) × (why ≡ cause.TooLarge) × (weight_limit < weighed + weight us)
only_heavy s m us weighed len why (stray {b = b} {rest = rest} e is) h = absurd (no_step s m us h (ap lead e ∙ lead_stray b rest is))
only_heavy s m us weighed len why (hash_delimiter {b = b} {rest = rest} e is) h =
    absurd (both_ways (is_delimiter b) (run_byte b (hash_run_byte s m us b rest h e (delimiter_no_blank b is))).no_delimiter is)
only_heavy s m us weighed len why (hash_stray {b = b} {rest = rest} e is) h = absurd (both_ways (is_run_byte b) is.no_run_byte (hash_run_byte s m us b rest h e is.no_blank))
only_heavy s m us weighed len why (open_text {rest = rest} e none) h =
    let is = text_step s m us h (ap lead e) in absurd (none (text_bytes is.cs) is.rest (inside_text is.cs is.text) (ap (drop 1) (sym e ∙ is.split)))
only_heavy s m us weighed len why (bad_text cs xs rest e t inside some none) h =
    let is = text_step s m us h (ap lead e) in
    let both = same_inside (text_bytes is.cs) (text_bytes cs ++ xs) is.rest rest (inside_text is.cs is.text) inside (ap (drop 1) (sym is.split ∙ e)) in
    absurd (text_goes_on cs is.cs xs t is.text both.0 some none)
only_heavy s m us weighed len why (long_run {us = xs} {rest = rest} e w long) h =
    let is = at_run s m us weighed len why h xs rest e w in let n = ap length (at_same s m us weighed len why h xs rest e w) in let short = is.short in absurd (omega arith)
only_heavy s m us weighed len why (long_symbol {us = xs} {rest = rest} e w long) h =
    let is = symbol_step s m us h (ap lead e ∙ lead_symbol xs rest w) in
    let n = ap length (same_run is.us is.rest xs rest is.whole w (ap (drop 1) (sym is.split ∙ e))) in let short = is.short in absurd (omega arith)
only_heavy s m us weighed len why (large {us = xs} {rest = rest} e w short out) h =
    let is = at_run s m us weighed len why h xs rest e w in
    absurd (both_ways (is_large (kind_of_run xs)) (ap (λ zs. is_large (kind_of_run zs)) (sym (at_same s m us weighed len why h xs rest e w)) ∙ is.in_range) out)
only_heavy s m us weighed len why (reserved {us = xs} {rest = rest} e w short out) h =
    let is = at_run s m us weighed len why h xs rest e w in
    absurd (both_ways (is_reserved (kind_of_run xs)) (ap (λ zs. is_reserved (kind_of_run zs)) (sym (at_same s m us weighed len why h xs rest e w)) ∙ is.in_profile) out)
only_heavy s m us weighed len why (heavy {us = xs} {rest = rest} {kind = kind} e stands over) h =
    let same = weighs s m us xs rest kind e stands h in (refl, refl, omega arith)
