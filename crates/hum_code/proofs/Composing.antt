-- One course after another, and one instruction.
use Rattle.std.proofs.Common.{◌≡◌, refl, ap, ◌∙◌, ℕ, List}
use Rattle.cap_words.specs.Words.{W}
use Rattle.cap_words.specs.Seen.{Seen, grown}
use Rattle.instr_table.specs.declared.op.Op.{Op}
use Rattle.instr_table.specs.Types.{Grows}
use Rattle.instr_table.specs.Event.{Effects}
use Rattle.instr_table.specs.Sheet.{Account}
use Rattle.instr_table.specs.Outcome.{Going, going}
use Rattle.instr_table.specs.Row.{row, row_at}
use Rattle.hum_code.specs.Comes.{Setting, Point, moved, point, row_of, Comes, here, onward, never, At}
use Rattle.hum_code.proofs.World.{same, later, takes, fetched_later}

module _ (m : Setting) (most : ℕ) where
  -- what holds of a store holds of each later one
  pub comes_later : (P : Seen → Point → Type 0) (s t : Seen) (l : Point) → Grows s t → Comes m most P s l → Comes m most P t l
  comes_later P s t l h (here p) = here (λ u g b. p u (later h g) b)
  comes_later P s t l h (onward g e c) = onward g (λ u sheet i b. e u sheet (later h i) b) (λ u i b. c u (later h i) b)
  comes_later P s t l h (never n p q) = never n p q

  pub and_on : (P Q : Seen → Point → Type 0) (s : Seen) (l : Point) → Grows m.base s → Comes m most P s l
      → ((t : Seen) (n : Point) → Grows s t → Grows m.base t → P t n → Comes m most Q t n) → Comes m most Q s l
  and_on P Q s l b (here p) k = k s l (same s) b (p s (same s) b)
  and_on P Q s l b (onward g e c) k =
      onward g e (λ t h i. and_on P Q (grown t (g t).made) (moved l (g t)) (later i (takes t (g t).made)) (c t h i)
      (λ u n j. k u n (later h (later (takes t (g t).made) j))))
  and_on P Q s l b (never n p q) k = never n p q

  -- the row of an instruction of the image
  pub row_there : (op : Op) (a k : W) (t : Seen) (sheet : List Account) (l : Point) → l.code ≡ a → At m a op k → Grows m.base t
      → row_of m t sheet l ≡ row m.own op t sheet l.effects l.values k
  row_there op a k t sheet l ea h b = rw ea (ap (λ o. row_at m.own o t sheet l.effects l.values) (fetched_later m.base t a (op, k) b h.is))

  module _ (P : Seen → Point → Type 0) where
    -- an instruction whose cells are used
    pub by_row : (op : Op) (a k : W) (s : Seen) (vs : List W) (e : Effects) (c q : ℕ) (g : Seen → Going) → At m a op k
        → ((t : Seen) (sheet : List Account) → Grows s t → row m.own op t sheet e vs k ≡ going (g t))
        → ((t : Seen) → Grows s t → Grows m.base t → Comes m most P (grown t (g t).made) (moved (point a vs e c q) (g t)))
        → Comes m most P s (point a vs e c q)
    by_row op a k s vs e c q g h r n = onward g (λ t sheet i b. row_there op a k t sheet (point a vs e c q) refl h b ∙ r t sheet i) n

    -- an instruction that makes no cells of its own, or whose cells don't matter
    pub silent : (op : Op) (a k : W) (s : Seen) (vs : List W) (e : Effects) (c q : ℕ) (g : Going) → At m a op k
        → ((t : Seen) (sheet : List Account) → Grows s t → row m.own op t sheet e vs k ≡ going g)
        → Comes m most P s (moved (point a vs e c q) g) → Comes m most P s (point a vs e c q)
    silent op a k s vs e c q g h r n =
        by_row op a k s vs e c q (λ t. g) h r (λ t i b. comes_later P s (grown t g.made) (moved (point a vs e c q) g) (later i (takes t g.made)) n)
