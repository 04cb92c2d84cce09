-- From a stop to the place of a refusal.
use Rattle.std.proofs.Common.{◌≡◌, true, ℕ, zero, suc, ◌<◌, ◌≤◌, ◌+◌, ◌-◌, Bool, List, [], ◌∷◌, ◌++◌, length, take, refl, sym, ap, ◌∙◌, subst, append_assoc, append-nil, length-append, arith}
use Rattle.hum_syntax.specs.declared.TokenKind.{TokenKind}
use Rattle.std.specs.List.{list_all}
use Rattle.std.proofs.lemmas.Bool.{and_parts}
use Rattle.hum_syntax.specs.declared.Token.{Token}
use Rattle.hum_syntax.specs.Kinds.{is_carried}
use Rattle.hum_syntax.specs.Spells.{Kinds, kinds, IsStmts, deepest}
use Rattle.hum_parse.specs.Begins.{Begins, RefusedAt}
use Rattle.hum_parse.specs.Laws.{OnePlace}
use Rattle.hum_parse.proofs.Exact.{Carried, Language, SameHead, Avoids, Stopped}

take_front : (xs ys : Kinds) → take (length xs) (xs ++ ys) ≡ xs
take_front [] ys = refl
take_front (x ∷ xs) ys = ap (λ z. x ∷ z) (take_front xs ys)

take_past : (xs ys : Kinds) (k : ℕ) → take (length xs + k) (xs ++ ys) ≡ xs ++ take k ys
take_past [] ys k = let none : 0 + k ≡ k = omega arith in ap (λ z. take z ys) none
take_past (x ∷ xs) ys k = let more : suc (length xs) + k ≡ suc (length xs + k) = omega arith in
    ap (λ z. take z (x ∷ (xs ++ ys))) more ∙ ap (λ z. x ∷ z) (take_past xs ys k)

taken_head : (rest more : Kinds) (k : ℕ) → 0 < k → k ≤ length rest → SameHead rest (take k rest ++ more)
taken_head [] more k a b = absurd (omega arith)
taken_head (t ∷ rest) more zero a b = absurd (omega arith)
taken_head (t ∷ rest) more (suc k) a b = refl

-- the token of a kind that carries what it may
token : (t : TokenKind) → is_carried t ≡ true → Token
token t carried = record { kind = t; from = 0; to = 0; carried = carried }

tokens_of : (ks : Kinds) → Carried ks → List Token
tokens_of [] c = []
tokens_of (t ∷ ks) c =
    let parts = and_parts (is_carried t) (list_all is_carried ks) c in
    token t parts.0 ∷ tokens_of ks parts.1

kinds_of : (ks : Kinds) (c : Carried ks) → kinds (tokens_of ks c) ≡ ks
unfolding tokens_of token
kinds_of [] c = refl
kinds_of (t ∷ ks) c = ap (λ z. t ∷ z) (kinds_of ks (and_parts (is_carried t) (list_all is_carried ks) c).1)

module _ {A : Type 0} (T : Language A) (g : TokenKind → Bool) where
  longer : (front rest : Kinds) (w : (more u v : Kinds) (b : A) → SameHead rest more → front ++ more ≡ u ++ v → T u b → Avoids g v → ⊥)
      → (k : ℕ) → length front < k → k ≤ length (front ++ rest) → Begins T (take k (front ++ rest)) → ⊥
  longer front rest w k a b x =
      let over : 0 < k - length front = omega arith in
      let fits : k - length front ≤ length rest = omega (arith, length-append front rest) in
      let at : k ≡ length front + (k - length front) = omega arith in
      let cut : take k (front ++ rest) ≡ front ++ take (k - length front) rest =
      ap (λ z. take z (front ++ rest)) at ∙ take_past front rest (k - length front) in
      let more = take (k - length front) rest ++ kinds x.0 in
      w more (front ++ more) [] x.1 (taken_head rest (kinds x.0) (k - length front) over fits) (sym (append-nil _))
      (subst (λ z. T z x.1) (ap (λ z. z ++ kinds x.0) cut ∙ append_assoc front (take (k - length front) rest) (kinds x.0)) x.2) tt

  whole : (front rest : Kinds) (w : (more u v : Kinds) (b : A) → SameHead rest more → front ++ more ≡ u ++ v → T u b → Avoids g v → ⊥) → (b : A)
      → T (front ++ rest) b → ⊥
  whole front [] w b t = w [] (front ++ []) [] b tt (sym (append-nil (front ++ []))) t tt
  whole front (k ∷ rest) w b t = w (k ∷ rest) (front ++ k ∷ rest) [] b refl (sym (append-nil (front ++ k ∷ rest))) t tt

  pub refused_at : (ts rest : Kinds) (w : Stopped T g ts rest) → RefusedAt T ts (length w.front)
  refused_at ts rest w = record {
    within = (let size : length ts ≡ length (w.front ++ rest) = ap length w.split in omega (arith, length-append w.front rest));
    begins = (
      tokens_of w.tail w.carried,
      w.tree,
      subst (λ z. T (take (length w.front) ts ++ z) w.tree) (sym (kinds_of w.tail w.carried))
          (subst (λ z. T (z ++ w.tail) w.tree) (sym (ap (λ z. take (length w.front) z) w.split ∙ take_front w.front rest)) w.begins),
    );
    no_longer = λ k a b x. longer w.front rest w.dead k a (subst (λ z. k ≤ length z) w.split b) (subst (λ z. Begins T (take k z)) w.split x);
    no_tree = λ b t. whole w.front rest w.dead b (subst (λ z. T z b) w.split t);
  }

-- a longer front that begins a spelling would be past the other place
no_less : {A : Type 0} (Spelled : Language A) (ks : Kinds) (m n : ℕ) → RefusedAt Spelled ks m → RefusedAt Spelled ks n → m < n → ⊥
no_less Spelled ks m n r s less = r.no_longer n less s.within s.begins

same_number : (m n : ℕ) → (m < n → ⊥) → (n < m → ⊥) → m ≡ n
same_number zero zero a b = refl
same_number zero (suc n) a b = absurd (a (omega arith))
same_number (suc m) zero a b = absurd (b (omega arith))
same_number (suc m) (suc n) a b = ap suc (same_number m n (λ less. a (omega arith)) (λ less. b (omega arith)))

pub one_place : OnePlace
one_place ks m n r s = same_number m n (no_less (IsStmts deepest) ks m n r s) (no_less (IsStmts deepest) ks n m s r)
