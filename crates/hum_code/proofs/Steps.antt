-- One instruction: what the event has to come to from the next one on.
use Rattle.std.proofs.Common.{◌≡◌, refl, ap, ℕ, suc, ◌+◌, ℤ, pos, negsuc, Bool, true, false, List, [], ◌∷◌}
use Rattle.std.specs.Prelude.{if◌then◌else◌}
use Rattle.cap_words.specs.Words.{W, Fix, truth, same_word}
use Rattle.cap_words.specs.Seen.{Seen}
use Rattle.instr_table.specs.declared.op.Op.TheVariants.{Push, Dup, Drop, Pick, Roll, Part, Nth, QuadTake, Typeq, Eq, Cmp, Alu, If, Jump, My, State, Msg, Debug}
use Rattle.instr_table.specs.Types.{Grows, type_of, is_type}
use Rattle.instr_table.specs.Lists.{head_in, tail_in, nth, fields_in}
use Rattle.instr_table.specs.Arithmetic.{falsy, compared, calculated}
use Rattle.instr_table.specs.Event.{Effects, Nothing}
use Rattle.instr_table.specs.Outcome.{Going, goes}
use Rattle.hum_code.specs.Comes.{Setting, Point, point, Comes, At}
use Rattle.hum_code.specs.Stands.{Shows, ShowsPair, three_quad}
use Rattle.hum_code.proofs.World.{read_in}
use Rattle.hum_code.proofs.Composing.{silent}

-- what goes on, takes n items and pushes values
abbrev pub plain : ℕ → List W → W → Going
plain n vs k = record { pops = n; made = []; pushed = vs; goes_to = k; effect = Nothing }

module _ {m : Setting} {most : ℕ} {P : Seen → Point → Type 0} where
  pub push : {a k v : W} {s : Seen} {vs : List W} {e : Effects} {c q : ℕ} → At m a (Push v) k
      → Comes m most P s (point k (v ∷ vs) e (suc c) (1 + q)) → Comes m most P s (point a (vs) e c q)
  push {a} {k} {v} {s} {vs} {e} {c} {q} h n =
      silent m most P (Push v) a k s (vs) e c q (plain 0 (v ∷ []) k) h (λ t sheet i. refl) n

  pub dup1 : {a k x : W} {s : Seen} {vs : List W} {e : Effects} {c q : ℕ} → At m a (Dup (pos 1)) k
      → Comes m most P s (point k (x ∷ x ∷ vs) e (suc c) (1 + q)) → Comes m most P s (point a (x ∷ vs) e c q)
  dup1 {a} {k} {x} {s} {vs} {e} {c} {q} h n =
      silent m most P (Dup (pos 1)) a k s (x ∷ vs) e c q (plain 0 (x ∷ []) k) h (λ t sheet i. refl) n

  pub dup2 : {a k x y : W} {s : Seen} {vs : List W} {e : Effects} {c q : ℕ} → At m a (Dup (pos 2)) k
      → Comes m most P s (point k (x ∷ y ∷ x ∷ y ∷ vs) e (suc c) (2 + q)) → Comes m most P s (point a (x ∷ y ∷ vs) e c q)
  dup2 {a} {k} {x} {y} {s} {vs} {e} {c} {q} h n =
      silent m most P (Dup (pos 2)) a k s (x ∷ y ∷ vs) e c q (plain 0 (y ∷ x ∷ []) k) h (λ t sheet i. refl) n

  pub drop1 : {a k x : W} {s : Seen} {vs : List W} {e : Effects} {c q : ℕ} → At m a (Drop (pos 1)) k
      → Comes m most P s (point k (vs) e (suc c) (0 + q)) → Comes m most P s (point a (x ∷ vs) e c q)
  drop1 {a} {k} {x} {s} {vs} {e} {c} {q} h n =
      silent m most P (Drop (pos 1)) a k s (x ∷ vs) e c q (plain 1 ([]) k) h (λ t sheet i. refl) n

  pub drop2 : {a k x y : W} {s : Seen} {vs : List W} {e : Effects} {c q : ℕ} → At m a (Drop (pos 2)) k
      → Comes m most P s (point k (vs) e (suc c) (0 + q)) → Comes m most P s (point a (x ∷ y ∷ vs) e c q)
  drop2 {a} {k} {x} {y} {s} {vs} {e} {c} {q} h n =
      silent m most P (Drop (pos 2)) a k s (x ∷ y ∷ vs) e c q (plain 2 ([]) k) h (λ t sheet i. refl) n

  pub pick1 : {a k x : W} {s : Seen} {vs : List W} {e : Effects} {c q : ℕ} → At m a (Pick (pos 1)) k
      → Comes m most P s (point k (x ∷ x ∷ vs) e (suc c) (1 + q)) → Comes m most P s (point a (x ∷ vs) e c q)
  pick1 {a} {k} {x} {s} {vs} {e} {c} {q} h n =
      silent m most P (Pick (pos 1)) a k s (x ∷ vs) e c q (plain 0 (x ∷ []) k) h (λ t sheet i. refl) n

  pub pick2 : {a k x y : W} {s : Seen} {vs : List W} {e : Effects} {c q : ℕ} → At m a (Pick (pos 2)) k
      → Comes m most P s (point k (y ∷ x ∷ y ∷ vs) e (suc c) (1 + q)) → Comes m most P s (point a (x ∷ y ∷ vs) e c q)
  pick2 {a} {k} {x} {y} {s} {vs} {e} {c} {q} h n =
      silent m most P (Pick (pos 2)) a k s (x ∷ y ∷ vs) e c q (plain 0 (y ∷ []) k) h (λ t sheet i. refl) n

  pub pick3 : {a k x y z : W} {s : Seen} {vs : List W} {e : Effects} {c q : ℕ} → At m a (Pick (pos 3)) k
      → Comes m most P s (point k (z ∷ x ∷ y ∷ z ∷ vs) e (suc c) (1 + q)) → Comes m most P s (point a (x ∷ y ∷ z ∷ vs) e c q)
  pick3 {a} {k} {x} {y} {z} {s} {vs} {e} {c} {q} h n =
      silent m most P (Pick (pos 3)) a k s (x ∷ y ∷ z ∷ vs) e c q (plain 0 (z ∷ []) k) h (λ t sheet i. refl) n

  pub roll2 : {a k x y : W} {s : Seen} {vs : List W} {e : Effects} {c q : ℕ} → At m a (Roll (pos 2)) k
      → Comes m most P s (point k (y ∷ x ∷ vs) e (suc c) (2 + q)) → Comes m most P s (point a (x ∷ y ∷ vs) e c q)
  roll2 {a} {k} {x} {y} {s} {vs} {e} {c} {q} h n =
      silent m most P (Roll (pos 2)) a k s (x ∷ y ∷ vs) e c q (plain 2 (x ∷ y ∷ []) k) h (λ t sheet i. refl) n

  pub roll3 : {a k x y z : W} {s : Seen} {vs : List W} {e : Effects} {c q : ℕ} → At m a (Roll (pos 3)) k
      → Comes m most P s (point k (z ∷ x ∷ y ∷ vs) e (suc c) (3 + q)) → Comes m most P s (point a (x ∷ y ∷ z ∷ vs) e c q)
  roll3 {a} {k} {x} {y} {z} {s} {vs} {e} {c} {q} h n =
      silent m most P (Roll (pos 3)) a k s (x ∷ y ∷ z ∷ vs) e c q (plain 3 (y ∷ x ∷ z ∷ []) k) h (λ t sheet i. refl) n

  pub sink3 : {a k x y z : W} {s : Seen} {vs : List W} {e : Effects} {c q : ℕ} → At m a (Roll (negsuc 2)) k
      → Comes m most P s (point k (y ∷ z ∷ x ∷ vs) e (suc c) (3 + q)) → Comes m most P s (point a (x ∷ y ∷ z ∷ vs) e c q)
  sink3 {a} {k} {x} {y} {z} {s} {vs} {e} {c} {q} h n =
      silent m most P (Roll (negsuc 2)) a k s (x ∷ y ∷ z ∷ vs) e c q (plain 3 (x ∷ z ∷ y ∷ []) k) h (λ t sheet i. refl) n

  pub debug : {a k : W} {s : Seen} {vs : List W} {e : Effects} {c q : ℕ} → At m a (Debug) k
      → Comes m most P s (point k (vs) e (suc c) (0 + q)) → Comes m most P s (point a (vs) e c q)
  debug {a} {k} {s} {vs} {e} {c} {q} h n =
      silent m most P (Debug) a k s (vs) e c q (plain 0 ([]) k) h (λ t sheet i. refl) n

  pub self : {a k : W} {s : Seen} {vs : List W} {e : Effects} {c q : ℕ} → At m a (My (pos 0)) k
      → Comes m most P s (point k (m.own.actor ∷ vs) e (suc c) (1 + q)) → Comes m most P s (point a (vs) e c q)
  self {a} {k} {s} {vs} {e} {c} {q} h n =
      silent m most P (My (pos 0)) a k s (vs) e c q (plain 0 (m.own.actor ∷ []) k) h (λ t sheet i. refl) n

  pub own_state : {a k : W} {s : Seen} {vs : List W} {e : Effects} {c q : ℕ} → At m a (My (pos 2)) k
      → Comes m most P s (point k (m.own.state ∷ vs) e (suc c) (1 + q)) → Comes m most P s (point a (vs) e c q)
  own_state {a} {k} {s} {vs} {e} {c} {q} h n =
      silent m most P (My (pos 2)) a k s (vs) e c q (plain 0 (m.own.state ∷ []) k) h (λ t sheet i. refl) n

  pub message : {a k : W} {s : Seen} {vs : List W} {e : Effects} {c q : ℕ} → At m a (Msg (pos 0)) k
      → Comes m most P s (point k (m.own.message ∷ vs) e (suc c) (1 + q)) → Comes m most P s (point a (vs) e c q)
  message {a} {k} {s} {vs} {e} {c} {q} h n =
      silent m most P (Msg (pos 0)) a k s (vs) e c q (plain 0 (m.own.message ∷ []) k) h (λ t sheet i. refl) n

  pub part1 : {a k w x y : W} {s : Seen} {vs : List W} {e : Effects} {c q : ℕ} → At m a (Part (pos 1)) k → ShowsPair s w x y
      → Comes m most P s (point k (x ∷ y ∷ vs) e (suc c) (2 + q)) → Comes m most P s (point a (w ∷ vs) e c q)
  part1 {a} {k} {w} {x} {y} {s} {vs} {e} {c} {q} h f n =
      silent m most P (Part (pos 1)) a k s (w ∷ vs) e c q (plain 1 (y ∷ x ∷ []) k) h
      (λ t sheet i. ap (λ o. goes 1 (tail_in o ∷ head_in o ∷ []) k) (read_in w i f)) n

  pub take3 : {a k w u x y : W} {s : Seen} {vs : List W} {e : Effects} {c q : ℕ} → At m a (QuadTake (negsuc 2)) k → Shows s w (three_quad u x y)
      → Comes m most P s (point k (u ∷ x ∷ y ∷ vs) e (suc c) (3 + q)) → Comes m most P s (point a (w ∷ vs) e c q)
  take3 {a} {k} {w} {u} {x} {y} {s} {vs} {e} {c} {q} h f n =
      silent m most P (QuadTake (negsuc 2)) a k s (w ∷ vs) e c q (plain 1 (y ∷ x ∷ u ∷ []) k) h
      (λ t sheet i. ap (λ o. goes 1 (fields_in o 3) k) (read_in w i f)) n

  -- what is the value in all later stores
  pub nth_ : {a k x w : W} {s : Seen} {vs : List W} {e : Effects} {c q : ℕ} (z : ℤ) → At m a (Nth z) k → ((t : Seen) → Grows s t → nth t z w ≡ x)
      → Comes m most P s (point k (x ∷ vs) e (suc c) (1 + q)) → Comes m most P s (point a (w ∷ vs) e c q)
  nth_ {a} {k} {x} {w} {s} {vs} {e} {c} {q} z h f n =
      silent m most P (Nth z) a k s (w ∷ vs) e c q (plain 1 (x ∷ []) k) h (λ t sheet i. ap (λ x. goes 1 (x ∷ []) k) (f t i)) n

  pub state_ : {a k x : W} {s : Seen} {vs : List W} {e : Effects} {c q : ℕ} (z : ℤ) → At m a (State z) k
      → ((t : Seen) → Grows s t → nth t z m.own.state ≡ x)
      → Comes m most P s (point k (x ∷ vs) e (suc c) (1 + q)) → Comes m most P s (point a vs e c q)
  state_ {a} {k} {x} {s} {vs} {e} {c} {q} z h f n =
      silent m most P (State z) a k s vs e c q (plain 0 (x ∷ []) k) h (λ t sheet i. ap (λ x. goes 0 (x ∷ []) k) (f t i)) n

  pub typeq : {a k x w : W} {s : Seen} {vs : List W} {e : Effects} {c q : ℕ} (b : Bool) → At m a (Typeq x) k
      → ((t : Seen) → Grows s t → is_type (type_of t w) x ≡ b)
      → Comes m most P s (point k (truth b ∷ vs) e (suc c) (1 + q)) → Comes m most P s (point a (w ∷ vs) e c q)
  typeq {a} {k} {x} {w} {s} {vs} {e} {c} {q} b h f n =
      silent m most P (Typeq x) a k s (w ∷ vs) e c q (plain 1 (truth b ∷ []) k) h (λ t sheet i. ap (λ b. goes 1 (truth b ∷ []) k) (f t i)) n

  pub eq_ : {a k x w : W} {s : Seen} {vs : List W} {e : Effects} {c q : ℕ} (b : Bool) → At m a (Eq x) k → same_word w x ≡ b
      → Comes m most P s (point k (truth b ∷ vs) e (suc c) (1 + q)) → Comes m most P s (point a (w ∷ vs) e c q)
  eq_ {a} {k} {x} {w} {s} {vs} {e} {c} {q} b h f n =
      silent m most P (Eq x) a k s (w ∷ vs) e c q (plain 1 (truth b ∷ []) k) h (λ t sheet i. ap (λ b. goes 1 (truth b ∷ []) k) f) n

  pub cmp_eq : {a k x y : W} {s : Seen} {vs : List W} {e : Effects} {c q : ℕ} (b : Bool) → At m a (Cmp (pos 0)) k → same_word y x ≡ b
      → Comes m most P s (point k (truth b ∷ vs) e (suc c) (1 + q)) → Comes m most P s (point a (x ∷ y ∷ vs) e c q)
  cmp_eq {a} {k} {x} {y} {s} {vs} {e} {c} {q} b h f n =
      silent m most P (Cmp (pos 0)) a k s (x ∷ y ∷ vs) e c q (plain 2 (truth b ∷ []) k) h (λ t sheet i. ap (λ b. goes 2 (truth b ∷ []) k) f) n

  -- two numbers, by the number of the comparison or of the calculation
  pub cmp_ : {a k v : W} {s : Seen} {vs : List W} {e : Effects} {c q : ℕ} (z x y : ℤ) → At m a (Cmp z) k → compared z (Fix y) (Fix x) ≡ v
      → Comes m most P s (point k (v ∷ vs) e (suc c) (1 + q)) → Comes m most P s (point a (Fix x ∷ Fix y ∷ vs) e c q)
  cmp_ {a} {k} {v} {s} {vs} {e} {c} {q} z x y h f n =
      silent m most P (Cmp z) a k s (Fix x ∷ Fix y ∷ vs) e c q (plain 2 (v ∷ []) k) h (λ t sheet i. ap (λ v. goes 2 (v ∷ []) k) f) n

  pub alu_ : {a k : W} {s : Seen} {vs : List W} {e : Effects} {c q : ℕ} (z x y : ℤ) → At m a (Alu z) k
      → Comes m most P s (point k (Fix (calculated z y x) ∷ vs) e (suc c) (1 + q)) → Comes m most P s (point a (Fix x ∷ Fix y ∷ vs) e c q)
  alu_ {a} {k} {s} {vs} {e} {c} {q} z x y h n =
      silent m most P (Alu z) a k s (Fix x ∷ Fix y ∷ vs) e c q (plain 2 (Fix (calculated z y x) ∷ []) k) h (λ t sheet i. refl) n

  -- ---- where it goes on

  pub jump : {a k x : W} {s : Seen} {vs : List W} {e : Effects} {c q : ℕ} → At m a Jump k
      → Comes m most P s (point x vs e (suc c) (0 + q)) → Comes m most P s (point a (x ∷ vs) e c q)
  jump {a} {k} {x} {s} {vs} {e} {c} {q} h n = silent m most P Jump a k s (x ∷ vs) e c q (plain 1 [] x) h (λ t sheet i. refl) n

  pub if_true : {a k w : W} {s : Seen} {vs : List W} {e : Effects} {c q : ℕ} → At m a (If w) k
      → Comes m most P s (point w vs e (suc c) (0 + q)) → Comes m most P s (point a (truth true ∷ vs) e c q)
  if_true {a} {k} {w} {s} {vs} {e} {c} {q} h n = silent m most P (If w) a k s (truth true ∷ vs) e c q (plain 1 [] w) h (λ t sheet i. refl) n

  pub if_false : {a k w : W} {s : Seen} {vs : List W} {e : Effects} {c q : ℕ} → At m a (If w) k
      → Comes m most P s (point k vs e (suc c) (0 + q)) → Comes m most P s (point a (truth false ∷ vs) e c q)
  if_false {a} {k} {w} {s} {vs} {e} {c} {q} h n = silent m most P (If w) a k s (truth false ∷ vs) e c q (plain 1 [] k) h (λ t sheet i. refl) n

  pub if_truthy : {a k w x : W} {s : Seen} {vs : List W} {e : Effects} {c q : ℕ} → At m a (If w) k → falsy x ≡ false
      → Comes m most P s (point w vs e (suc c) (0 + q)) → Comes m most P s (point a (x ∷ vs) e c q)
  if_truthy {a} {k} {w} {x} {s} {vs} {e} {c} {q} h f n =
      silent m most P (If w) a k s (x ∷ vs) e c q (plain 1 [] w) h (λ t sheet i. ap (λ b. goes 1 [] (if b then k else w)) f) n

  pub if_falsy : {a k w x : W} {s : Seen} {vs : List W} {e : Effects} {c q : ℕ} → At m a (If w) k → falsy x ≡ true
      → Comes m most P s (point k vs e (suc c) (0 + q)) → Comes m most P s (point a (x ∷ vs) e c q)
  if_falsy {a} {k} {w} {x} {s} {vs} {e} {c} {q} h f n =
      silent m most P (If w) a k s (x ∷ vs) e c q (plain 1 [] k) h (λ t sheet i. ap (λ b. goes 1 [] (if b then k else w)) f) n
