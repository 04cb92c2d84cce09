-- How far the bytes of one kind go on.
use Rattle.std.proofs.Common.{◌≡◌, ℕ, suc, ◌+◌, Bool, true, List, [], ◌∷◌, ◌++◌, length, take, drop, refl, sym, ap, ◌∙◌, subst, arith, inl, inr}
use Rattle.std.specs.Prelude.{not}
use Rattle.std.specs.List.{list_all, prefix_len}
use Rattle.std.proofs.lemmas.Bool.{cond-true, cond-false, and_parts, and_from, not-true, cases_Bool}
use Rattle.std.proofs.lemmas.List.{append_cancel_left}
use Rattle.std.proofs.Math.Seq.{take-append_seam}
use Rattle.hum_syntax.specs.Lexes.{ends_or}

module _ (p : ℕ → Bool) where
  -- where the bytes stop that pass, there their number is told
  pub prefix_len-whole : (us rest : List ℕ) → list_all p us ≡ true → ends_or (λ b. not (p b)) rest ≡ true → prefix_len p (us ++ rest) ≡ length us
  prefix_len-whole [] [] each whole = refl
  prefix_len-whole [] (b ∷ rest) each whole = cond-false (p b) _ _ (not-true (p b) whole)
  prefix_len-whole (b ∷ us) rest each whole =
      let parts = and_parts (p b) (list_all p us) each in
      let more = prefix_len-whole us rest parts.1 whole in
      cond-true (p b) _ _ parts.0 ∙ (let e : 1 + prefix_len p (us ++ rest) ≡ suc (length us) = omega arith in e)

  -- the bytes in front all pass
  pub list_all-prefix : (bs : List ℕ) → list_all p (take (prefix_len p bs) bs) ≡ true
  list_all-prefix [] = refl
  list_all-prefix (b ∷ bs) = elim (cases_Bool (p b)) [
    | inl passes ↦
        let e : prefix_len p (b ∷ bs) ≡ suc (prefix_len p bs) = cond-true (p b) _ _ passes ∙ (let e : 1 + prefix_len p bs ≡ suc (prefix_len p bs) = omega arith in e) in
        rw e (and_from (p b) _ passes (list_all-prefix bs))
    | inr fails ↦ rw (cond-false (p b) (1 + prefix_len p bs) 0 fails) refl
  ]

  -- and behind them none that passes follows
  pub ends_or-prefix : (bs : List ℕ) → ends_or (λ b. not (p b)) (drop (prefix_len p bs) bs) ≡ true
  ends_or-prefix [] = refl
  ends_or-prefix (b ∷ bs) = elim (cases_Bool (p b)) [
    | inl passes ↦
        let e : prefix_len p (b ∷ bs) ≡ suc (prefix_len p bs) = cond-true (p b) _ _ passes ∙ (let e : 1 + prefix_len p bs ≡ suc (prefix_len p bs) = omega arith in e) in
        rw e (ends_or-prefix bs)
    | inr fails ↦ rw (cond-false (p b) (1 + prefix_len p bs) 0 fails, fails) refl
  ]

  -- so a list has one front of bytes that pass
  pub same_front : (us rest vs more : List ℕ) → list_all p us ≡ true → ends_or (λ b. not (p b)) rest ≡ true → list_all p vs ≡ true → ends_or (λ b. not (p b)) more ≡ true
      → us ++ rest ≡ vs ++ more → (us ≡ vs) × (rest ≡ more)
  same_front us rest vs more each whole each' whole' e =
      let n : length us ≡ length vs = sym (prefix_len-whole us rest each whole) ∙ ap (prefix_len p) e ∙ prefix_len-whole vs more each' whole' in
      let front : us ≡ vs = sym (take-append_seam us rest) ∙ ap (take (length us)) e ∙ ap (λ k. take k (vs ++ more)) n ∙ take-append_seam vs more in
      (front, append_cancel_left vs rest more (subst (λ xs. xs ++ rest ≡ vs ++ more) front e))
