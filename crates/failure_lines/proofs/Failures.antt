-- The text of a reason, by what it is called.
use Rattle.std.proofs.Common.{◌≡◌, ℤ, List, [], ◌∷◌, ℕ, codes, Some, None, ap, ◌∙◌}
use Rattle.std.specs.Prelude.{decimal}
use Rattle.std.specs.Fmt.{signed_decimal}
use Rattle.std.specs.List.{concat}
use Rattle.cap_words.specs.Words.{W, number_of}
use Rattle.failure_lines.specs.Failure.{name_of, code_text, name_or_code, number_text, failure_text, line_with}

module _ (w : W) (n : ℤ) (is : Some n ≡ number_of w) where
  -- it has a name
  pub named : (name : List ℕ) → Some name ≡ name_of n → name ≡ failure_text w
  named name called = ap (name_or_code n) called ∙ ap number_text is

  -- it has none
  pub coded : None ≡ name_of n → code_text n ≡ failure_text w
  coded called = ap (name_or_code n) called ∙ ap number_text is

-- the line of a number without a name, by the texts of both numbers
pub coded_line : (message : ℕ) (n : ℤ) (number code : List ℕ) → number ≡ decimal message → code ≡ signed_decimal n → concat (codes "event " ∷ number ∷ codes " failed: code " ∷ code ∷ codes "\n" ∷ []) ≡ line_with message (code_text n)
coded_line message n number code is code_is = λ i. concat (codes "event " ∷ is i ∷ codes " failed: code " ∷ code_is i ∷ codes "\n" ∷ [])
