-- Arms, with the END behind the last.
use Rattle.std.proofs.Common.{◌≡◌, ℕ, suc, Bool, true, false, List, [], ◌∷◌, ◌++◌, length, refl, sym, ap, ◌∙◌, subst, arith, append_assoc, append-nil}
use Rattle.hum_syntax.specs.declared.TokenKind.{TokenKind}
use Rattle.hum_syntax.specs.declared.TokenKind.TheVariants as k
use Rattle.hum_syntax.specs.declared.Keyword.TheVariants as w
use Rattle.hum_syntax.specs.declared.Arm.{Arm}
use Rattle.hum_syntax.specs.Spells as G
use Rattle.hum_syntax.specs.Spells.{Kinds, arm, IsExpr, IsPat, IsArms, IsArm, IsStmts, IsStmt}
use Rattle.hum_parse.specs.declared.tokens.Mark.TheVariants as mark
use Rattle.hum_parse.specs.Rules.{Inner, arm_rule, arms, until_from}
use Rattle.hum_parse.proofs.Exact.{Language, Exact, Then, exact_then}
use Rattle.hum_parse.proofs.Steps.{Same, Begins, along, begins_more, close_is, closes}
use Rattle.hum_parse.proofs.Levels.{goes_on, ArmsEnd, Below}
use Rattle.hum_parse.proofs.ExactPatterns.{begins_pterm, pat_begins}
use Rattle.hum_parse.proofs.ExactExprs.{exact_arm}
use Rattle.hum_parse.proofs.Until.{Until, until_end, until_more, until_avoids, exact_until}

arm_begins : (n : ℕ) (u : Kinds) (a : Arm) → IsArm n u a → Begins begins_pterm u
arm_begins n u a (G.colon x y) = begins_more begins_pterm _ _ (pat_begins x)

pterm_goes : (t : TokenKind) → begins_pterm t ≡ true → goes_on t ≡ false
pterm_goes k.CallParen h = sym h
pterm_goes (k.Keyword w.KwElif) h = sym h
pterm_goes (k.Keyword w.KwElse) h = sym h
pterm_goes k.Comma h = sym h
pterm_goes _ h = refl

abbrev ArmsTail : ℕ → Language (List Arm)
ArmsTail n = Then (IsArm n) (λ x. Until mark.End (IsArm n) (x ∷ []))

arms_same : (n : ℕ) → Same (ArmsTail n) (ArmsEnd n)
arms_same n = record { to = to; from = from }
  where
    -- all arms behind one that was read
    gather : (found : List Arm) (v : Kinds) (all : List Arm) → Until mark.End (IsArm n) found v all → (x : Arm) (u : Kinds) → (xs : List Arm)
        → xs ++ x ∷ [] ≡ found → IsArm n u x
        → (rest : List Arm) × (ws : Kinds) × (xs ++ rest ≡ all) × (v ≡ ws ++ k.Keyword w.KwEnd ∷ []) × IsArms n (u ++ ws) rest
    gather found v all until_end x u xs e y = (x ∷ [], [], e, refl, subst (λ z. IsArms n z (x ∷ [])) (sym (append-nil u)) (G.arms_last y))
    gather found v all (until_more {us = us} {vs = vs} {a = a} l t) x u xs e y =
        let r = gather (found ++ a ∷ []) vs all t a us (xs ++ x ∷ []) (ap (λ z. z ++ a ∷ []) e) l in (
          x ∷ r.0,
          us ++ r.1,
          sym (append_assoc xs (x ∷ []) r.0) ∙ r.2,
          ap (λ z. us ++ z) r.3
              ∙ sym (append_assoc us r.1 (k.Keyword w.KwEnd ∷ [])),
          G.arms_more y r.4,
        )

    to : (u : Kinds) (b : List Arm) → ArmsTail n u b → ArmsEnd n u b
    to u b y =
        let r = gather (y.first ∷ []) y.right b y.is_right y.first y.left [] refl y.is_left in
        record {
          left = y.left ++ r.1;
          right = k.Keyword w.KwEnd ∷ [];
          split = y.split ∙ ap (λ z. y.left ++ z) r.3 ∙ sym (append_assoc y.left r.1 (k.Keyword w.KwEnd ∷ []));
          first = b;
          is_left = subst (IsArms n (y.left ++ r.1)) r.2 r.4;
          is_right = closes mark.End b;
        }

    spread : (found : List Arm) (u : Kinds) (xs : List Arm) → IsArms n u xs → (all : List Arm) → found ++ xs ≡ all → Until mark.End (IsArm n) found
        (u ++ k.Keyword w.KwEnd ∷ []) all
    spread found u xs (G.arms_last {x = x} y) all e =
        until_more y (subst (λ z. Until mark.End (IsArm n) (found ++ x ∷ []) (k.Keyword w.KwEnd ∷ []) z) e until_end)
    spread found u xs (G.arms_more {us = us} {vs = vs} {x = x} {xs = ys} y ys') all e =
        subst (λ z. Until mark.End (IsArm n) found z all) (sym (append_assoc us vs (k.Keyword w.KwEnd ∷ [])))
        (until_more y (spread (found ++ x ∷ []) vs ys ys' all (append_assoc found (x ∷ []) ys ∙ e)))

    first_of_all : (u : Kinds) (xs : List Arm) → IsArms n u xs → ArmsTail n (u ++ k.Keyword w.KwEnd ∷ []) xs
    first_of_all u xs (G.arms_last {x = x} y) =
        record { left = u; right = k.Keyword w.KwEnd ∷ []; split = refl; first = x; is_left = y; is_right = until_end }
    first_of_all u xs (G.arms_more {us = us} {vs = vs} {x = x} {xs = ys} y ys') = record {
      left = us;
      right = vs ++ k.Keyword w.KwEnd ∷ [];
      split = append_assoc us vs (k.Keyword w.KwEnd ∷ []);
      first = x;
      is_left = y;
      is_right = spread (x ∷ []) vs ys ys' (x ∷ ys) refl;
    }

    from : (u : Kinds) (b : List Arm) → ArmsEnd n u b → ArmsTail n u b
    from u b y =
        let ends : (y.right ≡ k.Keyword w.KwEnd ∷ []) × (y.first ≡ b) = close_is mark.End y.first y.right b y.is_right in
        subst (λ z. ArmsTail n z b) (sym (y.split ∙ ap (λ z. y.left ++ z) ends.0))
        (subst (ArmsTail n (y.left ++ k.Keyword w.KwEnd ∷ [])) ends.1 (first_of_all y.left y.first y.is_left))

pub exact_arms : (n : ℕ) (inner : Inner) → Below n inner → (g : TokenKind → Bool) (m : ℕ) → Exact m (ArmsEnd (suc n)) g (arms (suc n) inner)
unfolding arms
exact_arms n inner below g m ts h =
    along (ArmsTail (suc n)) (ArmsEnd (suc n)) g ts (arms (suc n) inner ts) (arms_same (suc n))
    (exact_then (IsArm (suc n)) goes_on (λ x. Until mark.End (IsArm (suc n)) (x ∷ [])) g
    (λ x y v b t f. until_avoids mark.End (IsArm (suc n)) begins_pterm goes_on (arm_begins (suc n)) refl pterm_goes refl (x ∷ []) y v b t) (length ts)
    (arm_rule (suc n) inner)
    (λ x us. until_from mark.End (arm_rule (suc n) inner) (length us) (x ∷ []) us)
    (exact_arm n inner below (length ts))
    (λ x us l. exact_until mark.End (IsArm (suc n)) begins_pterm goes_on (arm_begins (suc n)) refl pterm_goes refl g (arm_rule (suc n) inner) arm_at
    (length us) (x ∷ []) us (omega arith)) ts (omega arith))
  where
    arm_at : (m : ℕ) → Exact m (IsArm (suc n)) goes_on (arm_rule (suc n) inner)
    arm_at m us l = exact_arm n inner below (length us) us (omega arith)
