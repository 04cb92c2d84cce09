-- Which words are read from words that an event has.
use Rattle.std.proofs.Common.{◌≡◌, ℕ, zero, suc, ◌-◌, ◌<◌, ℤ, pos, negsuc, Bool, true, false, List, [], ◌∷◌, ◌++◌, reverse, drop, get_or, Option, Some, None, refl, sym, subst, inl, inr, not, arith, if◌then◌else◌, nat_lt}
use Rattle.std.proofs.lemmas.Bool.Decides.{nat_tests}
use Rattle.std.specs.Ordering.{int_eq}
use Rattle.std.proofs.lemmas.Grind.{reverse_onto}
use Rattle.cap_words.specs.declared.word.Quad.{Quad}
use Rattle.cap_words.specs.Words.{W, Fix, Rom, Ram, Cap, same_word, undef, nil, truth, pair_t, dict_t, deque_t}
use Rattle.cap_words.specs.Store.{rom_cell}
use Rattle.cap_words.specs.Seen.{Seen, cell_seen}
use Rattle.cap_words.specs.Frame.{Among}
use Rattle.instr_table.specs.Lists.{item, top_items, rolled, pair_in, head_in, tail_in, tail_after, nth, parted, items_to, field_in, fields_in}
use Rattle.instr_table.specs.Dictionary.{entry_in, entries_to, first_with, before, value_in}
use Rattle.instr_table.specs.Deque.{ends_in, ends, Ends}
use Rattle.instr_table.specs.Arithmetic.{order, compared, calculated, alu, on_numbers, complement}
use Rattle.instr_table.specs.Reach.{Every, words_of, inside, IsPlain, Got, plain, reached}

-- ---- lists

pub every-append : {A : Type 0} (P : A → Type 0) (xs ys : List A) → Every P xs → Every P ys → Every P (xs ++ ys)
every-append P [] ys a b = b
every-append P (x ∷ xs) ys a b = (a.0, every-append P xs ys a.1 b)

pub every-reverse : {A : Type 0} (P : A → Type 0) (xs : List A) → Every P xs → Every P (reverse xs)
every-reverse P [] a = tt
every-reverse P (x ∷ xs) a = rw (reverse_onto xs x []) (every-append P (reverse xs) (x ∷ []) (every-reverse P xs a.1) (a.0, tt))

pub every-drop : {A : Type 0} (P : A → Type 0) (n : ℕ) (xs : List A) → Every P xs → Every P (drop n xs)
every-drop P zero xs a = a
every-drop P (suc n) [] a = tt
every-drop P (suc n) (x ∷ xs) a = every-drop P n xs a.1

pub every-get_or : {A : Type 0} (P : A → Type 0) (xs : List A) (n : ℕ) (d : A) → Every P xs → P d → P (get_or xs n d)
every-get_or P [] n d a b = b
every-get_or P (x ∷ xs) zero d a b = a.0
every-get_or P (x ∷ xs) (suc n) d a b = every-get_or P xs n d a.1 b

pub every-map : {A : Type 0} (P Q : A → Type 0) (xs : List A) → ((x : A) → P x → Q x) → Every P xs → Every Q xs
every-map P Q [] f a = tt
every-map P Q (x ∷ xs) f a = (f x a.0, every-map P Q xs f a.1)

pub every-of : (P : W → Type 0) (ws : List W) → ((w : W) → Among w ws → P w) → Every P ws
every-of P [] f = tt
every-of P (w ∷ ws) f = (f w (inl refl), every-of P ws (λ v a. f v (inr a)))

pub of-every : (P : W → Type 0) (w : W) (ws : List W) → Every P ws → Among w ws → P w
of-every P w [] e a = absurd a
of-every P w (v ∷ ws) e (inl p) = subst P (sym p) e.0
of-every P w (v ∷ ws) e (inr a) = of-every P w ws e.1 a

-- ---- words that name nothing

no_cell_below : (n : ℕ) (rom : List Quad) (b : Bool) → nat_lt n 16 ≡ b → n < 16 → rom_cell rom n ≡ None
no_cell_below n rom true e h = rw e refl
no_cell_below n rom false e h = absurd (grind (arith, nat_tests))

pub plain-cell : (s : Seen) (w : W) → IsPlain w → cell_seen s w ≡ None
plain-cell s (Fix n) h = refl
plain-cell s (Rom n) h = no_cell_below n s.rom (nat_lt n 16) refl h
plain-cell s (Ram n) h = absurd h
plain-cell s (Cap n) h = absurd h

some_is : {p q : Quad} → Some p ≡ Some q → p ≡ q
some_is h = cc

pub pair_is : (o : Option Quad) (q : Quad) → pair_in o ≡ Some q → o ≡ Some q
pair_is None q h = cc
pair_is (Some p) q h = choose (same_word p.t pair_t) h
  where
    choose : (b : Bool) → (if b then Some p else None) ≡ Some q → Some p ≡ Some q
    choose true g = g
    choose false g = cc

entry_is : (o : Option Quad) (q : Quad) → entry_in o ≡ Some q → o ≡ Some q
entry_is None q h = cc
entry_is (Some p) q h = choose (same_word p.t dict_t) h
  where
    choose : (b : Bool) → (if b then Some p else None) ≡ Some q → Some p ≡ Some q
    choose true g = g
    choose false g = cc

module _ (s : Seen) (ws : List W) where
  pub got-undef : Got s ws undef
  got-undef = plain (omega arith)

  pub got-nil : Got s ws nil
  got-nil = plain (omega arith)

  pub got-truth : (b : Bool) → Got s ws (truth b)
  got-truth true = plain (omega arith)
  got-truth false = plain (omega arith)

  pub got-fix : (n : ℤ) → Got s ws (Fix n)
  got-fix n = plain tt

  pub got-either : (b : Bool) (v w : W) → Got s ws v → Got s ws w → Got s ws (if b then v else w)
  got-either true v w a c = a
  got-either false v w a c = c

  -- the words of a cell that such a word names
  pub got-words : (w : W) (q : Quad) → Got s ws w → cell_seen s w ≡ Some q → Every (Got s ws) (words_of q)
  got-words w q (plain h) e = let n : cell_seen s w ≡ None = plain-cell s w h in absurd cc
  got-words w q (reached r) e = every-of (Got s ws) (words_of q) (λ v a. reached (inside r e a))

  -- what is read of a cell, where its words are got
  abbrev Words : Option Quad → Type 0
  Words o = (q : Quad) → o ≡ Some q → Every (Got s ws) (words_of q)

  pub words-read : (w : W) → Got s ws w → Words (cell_seen s w)
  words-read w g q e = got-words w q g e

  got-head : (o : Option Quad) → Words o → Got s ws (head_in o)
  got-head None h = got-undef
  got-head (Some q) h = got-either (same_word q.t pair_t) q.x undef (h q refl).1.0 got-undef

  got-tail : (o : Option Quad) → Words o → Got s ws (tail_in o)
  got-tail None h = got-undef
  got-tail (Some q) h = got-either (same_word q.t pair_t) q.y undef (h q refl).1.1.0 got-undef

  pub got-field : (o : Option Quad) (n : ℕ) → Words o → Got s ws (field_in o n)
  got-field None n h = got-undef
  got-field (Some q) n h = every-get_or (Got s ws) (words_of q) n undef (h q refl) got-undef

  pub got-fields : (o : Option Quad) (n : ℕ) → Words o → Every (Got s ws) (fields_in o n)
  got-fields o zero h = tt
  got-fields o (suc n) h = (got-field o n h, got-fields o n h)

  got-tail_after : (n : ℕ) (w : W) → Got s ws w → Got s ws (tail_after s n w)
  got-tail_after zero w g = g
  got-tail_after (suc n) w g = got-tail_after n (tail_in (cell_seen s w)) (got-tail (cell_seen s w) (words-read w g))

  pub got-nth : (z : ℤ) (w : W) → Got s ws w → Got s ws (nth s z w)
  got-nth (pos zero) w g = g
  got-nth (pos (suc n)) w g = got-head _ (words-read _ (got-tail_after n w g))
  got-nth (negsuc n) w g = got-tail_after (suc n) w g

  pub got-parted : (n : ℕ) (w : W) → Got s ws w → Every (Got s ws) (parted s n w)
  got-parted zero w g = (g, tt)
  got-parted (suc n) w g =
      every-append (Got s ws) (parted s n (tail_in (cell_seen s w))) (head_in (cell_seen s w) ∷ []) (got-parted n _ (got-tail (cell_seen s w) (words-read w g))) (got-head (cell_seen s w) (words-read w g), tt)

  -- ---- stacks

  pub got-item : (vs : List W) (n : ℕ) → Every (Got s ws) vs → Got s ws (item vs n)
  got-item vs n g = every-get_or (Got s ws) vs (n - 1) undef g got-undef

  pub got-top_items : (n : ℕ) (vs : List W) → Every (Got s ws) vs → Every (Got s ws) (top_items n vs)
  got-top_items zero vs g = tt
  got-top_items (suc n) [] g = (got-undef, got-top_items n [] tt)
  got-top_items (suc n) (v ∷ vs) g = (g.0, got-top_items n vs g.1)

  pub got-rolled : (z : ℤ) (vs : List W) → Every (Got s ws) vs → Every (Got s ws) (rolled z vs)
  got-rolled (pos n) vs g = (got-item vs n g, got-top_items (n - 1) vs g)
  got-rolled (negsuc n) vs g =
      every-append (Got s ws) (top_items n (drop 1 vs)) (item vs 1 ∷ []) (got-top_items n (drop 1 vs) (every-drop (Got s ws) 1 vs g)) (got-item vs 1 g, tt)

  -- ---- lists of cells

  pub got-items : (n : ℕ) (w : W) → Got s ws w → Every (Got s ws) (items_to s n w)
  unfolding items_to
  got-items zero w g = tt
  got-items (suc n) w g = from (pair_in (cell_seen s w)) (λ q e. words-read w g q (pair_is (cell_seen s w) q e)) (λ v h. got-items n v h)
    where
      from : (p : Option Quad) → Words p → ((v : W) → Got s ws v → Every (Got s ws) (items_to s n v)) → Every (Got s ws) (elim p [ None ↦ [] | Some q ↦ q.x ∷ items_to s n q.y ])
      from None h f = tt
      from (Some q) h f = ((h q refl).1.0, f q.y (h q refl).1.1.0)

  abbrev pub GotEntry : Quad → Type 0
  GotEntry q = Every (Got s ws) (words_of q)

  pub got-entries : (n : ℕ) (w : W) → Got s ws w → Every GotEntry (entries_to s n w)
  unfolding entries_to
  got-entries zero w g = tt
  got-entries (suc n) w g = from (entry_in (cell_seen s w)) (λ q e. words-read w g q (entry_is (cell_seen s w) q e)) (λ v h. got-entries n v h)
    where
      from : (p : Option Quad) → Words p → ((v : W) → Got s ws v → Every GotEntry (entries_to s n v)) → Every GotEntry (elim p [ None ↦ [] | Some q ↦ q ∷ entries_to s n q.z ])
      from None h f = tt
      from (Some q) h f = (h q refl, f q.z (h q refl).1.1.1.0)

  pub got-first_with : (key : W) (es : List Quad) → Every GotEntry es → Words (first_with key es)
  got-first_with key [] g q e = cc
  got-first_with key (x ∷ es) g q e = choose (same_word x.x key) (got-first_with key es g.1) e
    where
      choose : (b : Bool) → Words (first_with key es) → (if b then Some x else first_with key es) ≡ Some q → GotEntry q
      choose true f h = subst GotEntry (some_is h) g.0
      choose false f h = f q h

  pub got-value : (o : Option Quad) → Words o → Got s ws (value_in o)
  got-value None h = got-undef
  got-value (Some q) h = (h q refl).1.1.0

  pub got-before : (key : W) (es : List Quad) → Every GotEntry es → Every GotEntry (before key es)
  got-before key [] g = tt
  got-before key (x ∷ es) g = choose (same_word x.x key) (got-before key es g.1)
    where
      choose : (b : Bool) → Every GotEntry (before key es) → Every GotEntry (if b then [] else x ∷ before key es)
      choose true h = tt
      choose false h = (g.0, h)

  abbrev GotEnds : Ends → Type 0
  GotEnds d = Got s ws d.front × Got s ws d.back

  got-ends_in : (o : Option Quad) → Words o → GotEnds (ends_in o)
  got-ends_in None h = (got-nil, got-nil)
  got-ends_in (Some q) h = choose (same_word q.t deque_t) (record { front = q.x; back = q.y }) (record { front = nil; back = nil }) ((h q refl).1.0, (h q refl).1.1.0) (got-nil, got-nil)
    where
      choose : (b : Bool) (d f : Ends) → GotEnds d → GotEnds f → GotEnds (if b then d else f)
      choose true d f g k = g
      choose false d f g k = k

  pub got-ends : (w : W) → Got s ws w → GotEnds (ends s w)
  got-ends w g = got-ends_in (cell_seen s w) (words-read w g)

  -- ---- calculations give numbers, truth values and `#?`

  on_numbers-got : (f : ℤ → ℤ → W) (v w : W) → ((m n : ℤ) → Got s ws (f m n)) → Got s ws (on_numbers f v w)
  on_numbers-got f (Fix m) (Fix n) h = h m n
  on_numbers-got f v w h = got-undef

  pub got-compared : (z : ℤ) (v w : W) → Got s ws (compared z v w)
  got-compared z v w =
      got-either (int_eq z (pos 0)) (truth (same_word v w)) _ (got-truth (same_word v w)) (got-either (int_eq z (pos 5)) (truth (not (same_word v w))) _ (got-truth (not (same_word v w))) (on_numbers-got (λ m n. truth (order z m n)) v w (λ m n. got-truth (order z m n))))

  pub got-alu : (z : ℤ) (v w : W) → Got s ws (alu z v w)
  got-alu z v w = on_numbers-got (λ m n. Fix (calculated z m n)) v w (λ m n. got-fix (calculated z m n))

  pub got-complement : (w : W) → Got s ws (complement w)
  got-complement (Fix n) = got-fix _
  got-complement (Rom n) = got-undef
  got-complement (Ram n) = got-undef
  got-complement (Cap n) = got-undef
