-- A name that comes next.
use Rattle.std.proofs.Common.{◌≡◌, ℕ, Bool, true, false, List, [], ◌∷◌, ◌++◌, Err, refl, sym, ap, ◌∙◌}
use Rattle.std.specs.Prelude.{codes}
use Rattle.hum_syntax.specs.declared.TokenKind.{TokenKind}
use Rattle.hum_syntax.specs.declared.TokenKind.TheVariants as k
use Rattle.hum_syntax.specs.Spells.{Kinds}
use Rattle.hum_parse.specs.Input.{expect_name}
use Rattle.hum_parse.proofs.Exact.{Language, Answers, Ends}
use Rattle.hum_parse.proofs.Steps.{at_end, no_way}

-- this name
abbrev pub NameIs : Language (List ℕ)
NameIs ts f = ts ≡ k.Name f ∷ []

abbrev pub is_name : TokenKind → Bool
is_name (k.Name f) = true
is_name _ = false

name_ends : Ends NameIs
name_ends = record { tail = k.Name (codes "a") ∷ []; carried = refl; tree = codes "a"; ends = refl }

not_name : (g : TokenKind → Bool) (t : TokenKind) (ts : Kinds) → is_name t ≡ false → Answers NameIs g (t ∷ ts) (Err (t ∷ ts))
not_name g t ts off = no_way NameIs g t ts name_ends (λ b y. cc)
    (λ u b y. let same : t ≡ k.Name b = cc in let no : true ≡ false = sym (ap is_name same) ∙ off in cc)

abbrev name_of : TokenKind → List ℕ
name_of (k.Name f) = f
name_of _ = []

pub exact_name : (g : TokenKind → Bool) (ts : Kinds) → Answers NameIs g ts (expect_name ts)
exact_name g [] = at_end NameIs g name_ends (λ b y. cc)
exact_name g (k.Name f ∷ ts) = record {
  front = k.Name f ∷ [];
  split = refl;
  spelled = refl;
  unique = λ more u v b same e y off.
      let all : k.Name f ∷ more ≡ k.Name b ∷ v = e ∙ ap (λ z. z ++ v) y in
      let heads : k.Name f ≡ k.Name b = cc in
      let names : f ≡ b = ap name_of heads in
      (y ∙ ap (λ z. z ∷ []) (sym heads), names);
}
exact_name g (t ∷ ts) = not_name g t ts refl
