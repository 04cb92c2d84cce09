-- Lists that end with a token.
use Rattle.std.proofs.Common.{◌≡◌, ℕ, zero, suc, Bool, true, false, List, [], ◌∷◌, ◌++◌, refl, sym, subst, arith, ◌⊎◌, inl, inr}
use Rattle.hum_syntax.specs.declared.TokenKind.{TokenKind}
use Rattle.hum_syntax.specs.Spells.{Kinds}
use Rattle.hum_parse.specs.declared.tokens.Mark.{Mark}
use Rattle.hum_parse.specs.Input.{Parser, and_then, stands}
use Rattle.hum_parse.specs.Rules.{until_from}
use Rattle.hum_parse.proofs.Exact.{Language, Avoids, Exact, Then, exact_some}
use Rattle.hum_parse.proofs.Steps.{apart, carried_alone, Close, Begins, at_end, begins_more, exact_else}

pub data Until {A : Type 0} (x : Mark) (L : Language A) : List A → Kinds → List A → Type 0 where
  until_end : {found : List A} → Until x L found (stands x ∷ []) found
  until_more : {found all : List A} {us vs : Kinds} {a : A} → L us a → Until x L (found ++ a ∷ []) vs all → Until x L found (us ++ vs) all

module _ {A : Type 0} (x : Mark) (L : Language A) (h r : TokenKind → Bool)
    (begins : (u : Kinds) (a : A) → L u a → Begins h u) (last_off : h (stands x) ≡ false)
    (goes : (t : TokenKind) → h t ≡ true → r t ≡ false) (ends_off : r (stands x) ≡ false) where
  abbrev Next : List A → Language (List A)
  Next found = Then L (λ a. Until x L (found ++ a ∷ []))

  next_to : (found : List A) (u : Kinds) (b : List A) → Next found u b → Until x L found u b
  next_to found u b y = subst (λ z. Until x L found z b) (sym y.split) (until_more y.is_left y.is_right)

  next_from : (found : List A) (u : Kinds) (b : List A) → Until x L found u b → Next found u b ⊎ Close x found u b
  next_from found u b until_end =
      inr (record { left = stands x ∷ []; right = []; split = refl; first = tt; is_left = refl; is_right = record { none = refl; same = refl } })
  next_from found u b (until_more {us = us} {vs = vs} {a = a} l y) =
      inl (record { left = us; right = vs; split = refl; first = a; is_left = l; is_right = y })

  next_begins : (found : List A) (u : Kinds) (b : List A) → Next found u b → Begins h u
  next_begins found u b y = subst (Begins h) (sym y.split) (begins_more h y.left y.right (begins y.left y.first y.is_left))

  avoids : (u v : Kinds) → Begins h u → Avoids r (u ++ v)
  avoids [] v b = absurd b
  avoids (t ∷ u) v b = goes t b

  pub until_avoids : (found : List A) (u v : Kinds) (b : List A) → Until x L found u b → Avoids r (u ++ v)
  until_avoids found u v b until_end = ends_off
  until_avoids found u v b (until_more {us = us} {vs = vs} {a = a} l y) = avoids (us ++ vs) v (begins_more h us vs (begins us a l))

  none : (found : List A) (b : List A) → Until x L found [] b → (u : Kinds) → u ≡ [] → Until x L found u b → ⊥
  none found b y u e until_end = let no : stands x ∷ [] ≡ [] = e in cc
  none found b y u e (until_more {us = us} {vs = vs} {a = a} l z) = subst (Begins h) e (begins_more h us vs (begins us a l))

  pub exact_until : (g : TokenKind → Bool) (p : Parser A) → ((m : ℕ) → Exact m L r p) → (turns : ℕ) (found : List A) → Exact (suc turns)
      (Until x L found) g (until_from x p turns found)
  unfolding until_from
  exact_until g p xs zero found [] k =
      at_end (Until x L found) g (record { tail = stands x ∷ []; carried = carried_alone x; tree = found; ends = until_end })
      (λ b y. none found b y [] refl y)
  exact_until g p xs zero found (t ∷ ts) k = absurd (omega arith)
  exact_until g p xs (suc turns) found ts k =
      exact_else x found (Next found) (Until x L found) g (next_to found) until_end (next_from found) (λ b y. next_begins found [] b y)
      (λ u b y c. apart h x last_off u (next_begins found u b y) c) (suc turns)
      (λ us. and_then (p us) (λ a. until_from x p turns (found ++ a ∷ [])))
      (exact_some L r (λ a. Until x L (found ++ a ∷ [])) g (λ a y v b t f. until_avoids (found ++ a ∷ []) y v b t) (λ a l. begins [] a l) turns p
      (λ a. until_from x p turns (found ++ a ∷ []))
      (xs (suc (suc turns))) (λ a. exact_until g p xs turns (found ++ a ∷ []))) ts k
