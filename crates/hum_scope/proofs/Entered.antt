-- What comes to sight: names, and the places in a group.
use Rattle.std.proofs.Common.{ℕ, suc, ◌+◌, ◌-◌, ◌≤◌, Option, Some, None, ◌≡◌, refl, ap, sym, subst, ◌∙◌, arith, List, [], ◌∷◌, ◌++◌, length, drop, length-append}
use Rattle.hum_core.specs.Alike.{Marked, One, with_marks}
use Rattle.hum_core.specs.Agreement.{Names, next_place}
use Rattle.hum_core.specs.Units.{Scope, OfPat, item_names}
use Rattle.hum_scope.specs.Translations.{IsAbove}
use Rattle.hum_scope.proofs.NameLists.{drop_front}

-- so many places further
abbrev pub moved : ℕ → Option ℕ → Option ℕ
moved i None = None
moved i (Some k) = Some (k + i)

pub moved_next : (i : ℕ) (o : Option ℕ) → moved i (next_place o) ≡ moved (i + 1) o
moved_next i None = refl
moved_next i (Some k) =
    let n : suc k + i ≡ k + (i + 1) = omega arith in
    ap Some n

pub marks_joined : {M : Type 0} (ms ns : List M) (scope : List (Marked M)) → with_marks (ms ++ ns) scope ≡ with_marks ms (with_marks ns scope)
marks_joined [] ns scope = refl
marks_joined (m ∷ ms) ns scope = ap (λ s. One m ∷ s) (marks_joined ms ns scope)

-- the items of a pattern, one after the other
pub marks_step : (p : OfPat) (rest all : List OfPat) (here here' whole : Scope) → all ≡ p ∷ rest → here' ≡ with_marks p.names here
    → with_marks (item_names all) here ≡ whole → with_marks (item_names rest) here' ≡ whole
marks_step p rest all here here' whole is e h =
    ap (with_marks (item_names rest)) e ∙ sym (marks_joined (item_names rest) p.names here) ∙ sym (ap (λ ps. with_marks (item_names ps) here) is) ∙ h

pub above_marks : (outer scope : Scope) (names : Names) → IsAbove outer scope → IsAbove outer (with_marks names scope)
above_marks outer scope [] h = h
above_marks outer scope (m ∷ ms) h =
    let more = above_marks outer scope ms h in
    (One m ∷ more.0, ap (λ s. One m ∷ s) more.1)

pub no_lower : (outer scope : Scope) → IsAbove outer scope → length outer ≤ length scope
no_lower outer scope h = omega (arith, ap length h.1, length-append h.0 outer)

pub past_front : (outer scope : Scope) → IsAbove outer scope → drop (length scope - length outer) scope ≡ outer
past_front outer scope h = ap (λ s. drop (length s - length outer) s) h.1 ∙ drop_front h.0 outer

module _ (outer scope : Scope) (names : Names) (place : ℕ) (at : place ≡ length outer) (marked : scope ≡ with_marks names outer) where
  marked_above : IsAbove outer scope
  marked_above = subst (IsAbove outer) (sym marked) (above_marks outer outer names ([], refl))

  pub marks_no_lower : place ≤ length scope
  marks_no_lower = subst (λ n. n ≤ length scope) (sym at) (no_lower outer scope marked_above)

  pub past_marks : drop (length scope - place) scope ≡ outer
  past_marks = ap (λ n. drop (length scope - n) scope) at ∙ past_front outer scope marked_above
