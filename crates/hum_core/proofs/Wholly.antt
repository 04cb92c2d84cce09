-- The whole reading keeps expressions, bodies and abstractions, whatever the languages are.
use Rattle.std.proofs.Common.{ℕ, List, [], ◌∷◌, Option, Some, None}
use Rattle.hum_meaning.specs.Value.{Parts}
use Rattle.hum_meaning.specs.Language.{ExprNode, Is, Var, Myself, Abs, BlockOf, Call, Tuple, New, Case, If, StmtNode, Let, Functions, Defined, Send, Create, Become, Throw, Do, Language}
use Rattle.hum_core.specs.Alike.{Scope, One, grouped, with_marks, Both, Each, Reading, MemberAs, ArmAs, BranchAs, ExprNodeAs, StatementsAs}
use Rattle.hum_core.specs.Reading.{Linking, reading_to, whole_reading}
use Rattle.hum_core.proofs.Simulates.{goes_on}

pub each_all : {A B : Type 0} (R : ℕ → A → B → Type 0) (S : A → B → Type 0) → ((a : A) (b : B) → ((n : ℕ) → R n a b) → S a b)
    → (xs : List A) (ys : List B) → ((n : ℕ) → Each (R n) xs ys) → Each S xs ys
each_all R S f [] [] h = tt
each_all R S f (x ∷ xs) (y ∷ ys) h = (f x y (λ n. (h n).0), each_all R S f xs ys (λ n. (h n).1))
each_all R S f [] (y ∷ ys) h = h 0
each_all R S f (x ∷ xs) [] h = h 0

both_all : {A B : Type 0} (R : ℕ → A → B → Type 0) (S : A → B → Type 0) → ((a : A) (b : B) → ((n : ℕ) → R n a b) → S a b)
    → (x : Option A) (y : Option B) → ((n : ℕ) → Both (R n) x y) → Both S x y
both_all R S f None None h = tt
both_all R S f (Some x) (Some y) h = f x y h
both_all R S f None (Some y) h = h 0
both_all R S f (Some x) None h = h 0

module _ {L K : Parts} (l : Language L) (k : Language K) (link : Linking L K) where
  abbrev to : ℕ → Reading L K
  to = reading_to l k link

  abbrev all : Reading L K
  all = whole_reading l k link

  arm_all : (scope : Scope L) (a : L.Pattern × L.Expr) (b : K.Pattern × K.Expr) → ((n : ℕ) → ArmAs (to n) scope a b) → ArmAs all scope a b
  arm_all scope a b h = (λ n. (h n).0, λ n. (h n).1)

  branch_all : (scope : Scope L) (a : L.Expr × L.Body) (b : K.Expr × K.Body) → ((n : ℕ) → BranchAs (to n) scope a b)
      → BranchAs all scope a b
  branch_all scope a b h = (λ n. (h n).0, λ n. (h n).1)

  -- choices by arms
  pub arms_all : (scope : Scope L) (xs : List (L.Pattern × L.Expr)) (ys : List (K.Pattern × K.Expr)) → ((n : ℕ) → Each (ArmAs (to n) scope) xs ys)
      → Each (ArmAs all scope) xs ys
  arms_all scope xs ys h = each_all (λ n. ArmAs (to n) scope) (ArmAs all scope) (arm_all scope) xs ys h

  -- where choices are kept
  abbrev KeepsChoices : Type 0
  KeepsChoices = (scope : Scope L) (x : L.Choice) (y : K.Choice) → ((n : ℕ) → (to n).ChoiceAs scope x y) → all.ChoiceAs scope x y

  pub expr_all : KeepsChoices → (scope : Scope L) (e : ExprNode L) (d : ExprNode K) → ((n : ℕ) → ExprNodeAs (to n) scope e d)
      → ExprNodeAs all scope e d
  expr_all choices scope (Is v) (Is w) h = h 0
  expr_all choices scope (Var x) (Var y) h = h 0
  expr_all choices scope Myself Myself h = tt
  expr_all choices scope (Abs f) (Abs g) h = h
  expr_all choices scope (BlockOf b) (BlockOf c) h = h
  expr_all choices scope (Call f a) (Call g b) h = (λ n. (h n).0, λ n. (h n).1)
  expr_all choices scope (Tuple es) (Tuple ds) h = each_all _ _ (λ e d i. i) es ds h
  expr_all choices scope (New e) (New d) h = h
  expr_all choices scope (Case e more) (Case d others) h = (λ n. (h n).0, choices scope more others (λ n. (h n).1))
  expr_all choices scope (If more b) (If others c) h = (each_all (λ n. BranchAs (to n) scope) (BranchAs all scope) (branch_all scope) more others (λ n. (h n).0), λ n. (h n).1)
  expr_all choices scope _ _ h = absurd (h 0)

  pub statements_all : (scope : Scope L) (ss : List (StmtNode L)) (ts : List (StmtNode K)) → ((n : ℕ) → StatementsAs (to n) scope ss ts)
      → StatementsAs all scope ss ts
  statements_all scope [] [] h = tt
  statements_all scope (Let p e ∷ more) (Let q d ∷ others) h = (λ n. (h n).0, λ n. (h n).1, statements_all (with_marks (link.marks p) scope) more others (λ n. (h n).2))
  statements_all scope (Functions fs ∷ more) (Functions gs ∷ others) h =
      (each_all (λ n. MemberAs (to n) (grouped fs scope)) (MemberAs all (grouped fs scope)) (λ f g i. i) fs gs (λ n. (h n).0), statements_all (grouped fs scope) more others (λ n. (h n).1))
  statements_all scope (Defined ∷ more) (Defined ∷ others) h = statements_all scope more others h
  statements_all scope (Send e a ∷ more) (Send d b ∷ others) h = (λ n. (h n).0, λ n. (h n).1, statements_all scope more others (λ n. (h n).2))
  statements_all scope (Create m e ∷ more) (Create m' d ∷ others) h = (λ n. (h n).0, statements_all (One m ∷ scope) more others (λ n. (h n).1))
  statements_all scope (Become e ∷ more) (Become d ∷ others) h = (λ n. (h n).0, statements_all scope more others (λ n. (h n).1))
  statements_all scope (Throw e ∷ more) (Throw d ∷ others) h = (λ n. (h n).0, statements_all scope more others (λ n. (h n).1))
  statements_all scope (Do e ∷ more) (Do d ∷ others) h = (λ n. (h n).0, statements_all scope more others (λ n. (h n).1))
  statements_all scope [] (t ∷ others) h = absurd (h 0)
  statements_all scope (s ∷ more) [] h = absurd (goes_on (to 0) scope s more (h 0))
  statements_all scope _ _ h = absurd (h 0)

  pub abstraction_all : (scope : Scope L) (f : Option (L.Pattern × L.Expr)) (g : Option (K.Pattern × K.Expr))
      → ((n : ℕ) → Both (ArmAs (to n) scope) f g) → Both (ArmAs all scope) f g
  abstraction_all scope f g h = both_all (λ n. ArmAs (to n) scope) (ArmAs all scope) (arm_all scope) f g h
