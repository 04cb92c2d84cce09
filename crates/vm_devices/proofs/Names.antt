-- Names of symbols, read from a list byte by byte.
use Rattle.std.proofs.Common.{◌≡◌, ℕ, zero, suc, ◌+◌, ◌-◌, ◌<◌, ◌≤◌, Bool, true, false, ◌&&◌, if◌then◌else◌, pos, negsuc, List, [], ◌∷◌, ◌++◌, length, take, set, Option, Some, None, option_map, nat_le, refl, sym, ap, ◌∙◌, arith, append_assoc}
use Rattle.std.specs.List.{list_all}
use Rattle.std.proofs.lemmas.Bool.{and_from, and_right}
use Rattle.std.proofs.lemmas.Bool.Decides.{nat_tests}
use Rattle.std.proofs.lemmas.List.{append-nil, take_more_set, length-take-le, length-set}
use Rattle.std.proofs.lemmas.List.Folds.{list_all-append}
use Rattle.std.proofs.Math.Bool.{and-false}
use Rattle.cap_words.specs.declared.word.Quad.{Quad}
use Rattle.cap_words.specs.Words.{W, Fix, Rom, Ram, Cap, same_word, nil}
use Rattle.cap_words.specs.Seen.{Seen, cell_seen}
use Rattle.cap_words.specs.Text.{is_run_byte, is_run}
use Rattle.cap_words.proofs.Same.{word_same}
use Rattle.instr_table.specs.Lists.{pair_in}
use Rattle.vm_turn.specs.Piece.{numbers_to, before}
use Rattle.vm_devices.specs.Texts.{run_byte_of, run_of}

-- ---- one cell of a list of numbers

numbers_to-pair : (s : Seen) (n : ℕ) (w : W) (q : Quad) → pair_in (cell_seen s w) ≡ Some q → numbers_to s (suc n) w ≡ before q.x (numbers_to s n q.y)
unfolding numbers_to
numbers_to-pair s n w q h = rw (h, numbers_to) refl

numbers_to-end : (s : Seen) (n : ℕ) (w : W) → pair_in (cell_seen s w) ≡ None → numbers_to s n w ≡ (if same_word w nil then Some [] else None)
unfolding numbers_to
numbers_to-end s zero w h = refl
numbers_to-end s (suc n) w h = rw (h, numbers_to) refl

-- a pair is not the end of a list
numbers_to-more : (s : Seen) (w : W) (q : Quad) → pair_in (cell_seen s w) ≡ Some q → numbers_to s zero w ≡ None
unfolding numbers_to
numbers_to-more s w q h = chosen (same_word w nil) refl
  where
    chosen : (b : Bool) → same_word w nil ≡ b → ◌≡◌ {A = Option (List ℕ)} (if b then Some [] else None) None
    chosen true e =
        let none : pair_in (cell_seen s w) ≡ None = ap (λ (v : W). pair_in (cell_seen s v)) (word_same w nil e) in
        cc
    chosen false e = refl

-- ---- bytes that are no run

-- bytes in front of a list
pub prefixed : List ℕ → Option (List ℕ) → Option (List ℕ)
prefixed xs o = option_map (λ ns. xs ++ ns) o

prefixed_none : (o : Option (List ℕ)) → o ≡ prefixed [] o
unfolding prefixed
prefixed_none None = refl
prefixed_none (Some ns) = refl

prefixed_more : (xs : List ℕ) (b : ℕ) (o : Option (List ℕ)) → prefixed xs (before (Fix (pos b)) o) ≡ prefixed (xs ++ b ∷ []) o
unfolding prefixed
prefixed_more xs b None = refl
prefixed_more xs b (Some ns) = ap Some (sym (append_assoc xs (b ∷ []) ns))

no_run : (xs : List ℕ) (b : ℕ) (ns : List ℕ) → is_run_byte b ≡ false → is_run (xs ++ b ∷ ns) ≡ false
no_run xs b ns h =
    let all : list_all is_run_byte (xs ++ b ∷ ns) ≡ false = list_all-append is_run_byte xs (b ∷ ns) ∙ ap (λ t. list_all is_run_byte xs && (t && list_all is_run_byte ns)) h ∙ and-false (list_all is_run_byte xs) in
    and_right (nat_le 1 (length (xs ++ b ∷ ns)) && nat_le (length (xs ++ b ∷ ns)) 128) (list_all is_run_byte (xs ++ b ∷ ns)) all

bad_byte : (xs : List ℕ) (b : ℕ) (o : Option (List ℕ)) → is_run_byte b ≡ false → run_of (prefixed xs (before (Fix (pos b)) o)) ≡ None
unfolding prefixed
bad_byte xs b None h = refl
bad_byte xs b (Some ns) h = ap (λ t. if t then Some (xs ++ b ∷ ns) else None) (no_run xs b ns h)

not_run_byte : (b : ℕ) (t : Bool) → is_run_byte b ≡ t → (if t then Some b else None) ≡ None → t ≡ false
not_run_byte b true e h = cc
not_run_byte b false e h = refl

no_byte : (xs : List ℕ) (w : W) (o : Option (List ℕ)) → run_byte_of w ≡ None → run_of (prefixed xs (before w o)) ≡ None
unfolding prefixed
no_byte xs (Fix (pos b)) o h = bad_byte xs b o (not_run_byte b (is_run_byte b) refl h)
no_byte xs (Fix (negsuc b)) o h = refl
no_byte xs (Rom n) o h = refl
no_byte xs (Ram n) o h = refl
no_byte xs (Cap n) o h = refl

-- ---- a byte of a run

record IsRunByte (w : W) (b : ℕ) : Type 0 where
  is : w ≡ Fix (pos b)
  run : is_run_byte b ≡ true

byte_if : (n b : ℕ) (t : Bool) → is_run_byte n ≡ t → (if t then Some n else None) ≡ Some b → IsRunByte (Fix (pos n)) b
byte_if n b true e h =
    let same : n ≡ b = cc in
    record { is = ap (λ k. Fix (pos k)) same; run = ap is_run_byte (sym same) ∙ e }
byte_if n b false e h = cc

byte_is : (w : W) (b : ℕ) → run_byte_of w ≡ Some b → IsRunByte w b
byte_is (Fix (pos n)) b h = byte_if n b (is_run_byte n) refl h
byte_is (Fix (negsuc n)) b h = cc
byte_is (Rom n) b h = cc
byte_is (Ram n) b h = cc
byte_is (Cap n) b h = cc

-- ---- a name that is read, as far as it has come

-- the first `len` bytes of the buffer are those of the list up to `rest`
pub record Reading (s : Seen) (list rest : W) (name : List ℕ) (len : ℕ) : Type 0 where
  pub size : length name ≡ 128
  pub within : len ≤ 128
  pub run : list_all is_run_byte (take len name) ≡ true
  pub same : run_of (numbers_to s 128 list) ≡ run_of (prefixed (take len name) (numbers_to s (128 - len) rest))

pub reading_first : (s : Seen) (list : W) (name : List ℕ) → length name ≡ 128 → Reading s list list name 0
reading_first s list name size = record { size = size; within = omega arith; run = refl; same = ap run_of (prefixed_none (numbers_to s 128 list)) }

module _ (s : Seen) (list rest : W) (name : List ℕ) (len : ℕ) (so_far : Reading s list rest name len) where
  module _ (q : Quad) (pair : pair_in (cell_seen s rest) ≡ Some q) where
    next_number : (k : ℕ) → 128 - len ≡ suc k → run_of (numbers_to s 128 list) ≡ run_of (prefixed (take len name) (before q.x (numbers_to s k q.y)))
    next_number k e = so_far.same ∙ ap (λ n. run_of (prefixed (take len name) (numbers_to s n rest))) e ∙ ap (λ o. run_of (prefixed (take len name) o)) (numbers_to-pair s k rest q pair)

    pub reading_full : len ≡ 128 → run_of (numbers_to s 128 list) ≡ None
    unfolding prefixed
    reading_full full =
        let e : 128 - len ≡ 0 = omega arith in
        so_far.same ∙ ap (λ n. run_of (prefixed (take len name) (numbers_to s n rest))) e ∙ ap (λ o. run_of (prefixed (take len name) o)) (numbers_to-more s rest q pair)

    pub reading_stop : (len ≡ 128 → ⊥) → run_byte_of q.x ≡ None → run_of (numbers_to s 128 list) ≡ None
    reading_stop more none =
        let e : 128 - len ≡ suc (127 - len) = omega (arith, more, so_far.within) in
        next_number (127 - len) e ∙ no_byte (take len name) q.x (numbers_to s (127 - len) q.y) none

    pub reading_more : (b : ℕ) → (len ≡ 128 → ⊥) → run_byte_of q.x ≡ Some b → Reading s list q.y (set name len b) (len + 1)
    reading_more b more some =
        let byte = byte_is q.x b some in
        let less : len < length name = omega (arith, so_far.within, so_far.size, more) in
        let front : take (len + 1) (set name len b) ≡ take len name ++ b ∷ [] = take_more_set name len b less in
        let e : 128 - len ≡ suc (128 - (len + 1)) = omega (arith, more, so_far.within) in
        record {
          size = length-set name len b ∙ so_far.size;
          within = omega (arith, more, so_far.within);
          run = ap (list_all is_run_byte) front ∙ list_all-append is_run_byte (take len name) (b ∷ []) ∙ and_from (list_all is_run_byte (take len name)) (is_run_byte b && true) so_far.run (and_from (is_run_byte b) true byte.run refl);
          same = next_number (128 - (len + 1)) e
              ∙ ap (λ w. run_of (prefixed (take len name) (before w (numbers_to s (128 - (len + 1)) q.y)))) byte.is
              ∙ ap run_of (prefixed_more (take len name) b (numbers_to s (128 - (len + 1)) q.y))
              ∙ ap (λ xs. run_of (prefixed xs (numbers_to s (128 - (len + 1)) q.y))) (sym front);
        }

  -- at the end of the list
  module _ (leaf : pair_in (cell_seen s rest) ≡ None) where
    ended : (b : Bool) → same_word rest nil ≡ b → run_of (numbers_to s 128 list) ≡ run_of (prefixed (take len name) (if b then Some [] else None))
    ended b e = so_far.same ∙ ap (λ o. run_of (prefixed (take len name) o)) (numbers_to-end s (128 - len) rest leaf) ∙ ap (λ (t : Bool). run_of (prefixed (take len name) (if t then Some [] else None))) e

    whole : same_word rest nil ≡ true → run_of (numbers_to s 128 list) ≡ run_of (Some (take len name))
    unfolding prefixed
    whole e = ended true e ∙ ap (λ (bytes : List ℕ). run_of (Some bytes)) (append-nil (take len name))

    pub reading_last : same_word rest nil ≡ true → 0 < len → run_of (numbers_to s 128 list) ≡ Some (take len name)
    reading_last e some =
        let size : length (take len name) ≡ len = length-take-le len name (omega (arith, so_far.within, so_far.size)) in
        let low : nat_le 1 (length (take len name)) ≡ true = grind (arith, nat_tests) in
        let high : nat_le (length (take len name)) 128 ≡ true = grind (arith, nat_tests, so_far.within) in
        let run : is_run (take len name) ≡ true = rw (low, high) so_far.run in
        whole e ∙ ap (λ (t : Bool). if t then Some (take len name) else None) run

    pub reading_cut : same_word rest nil ≡ false → run_of (numbers_to s 128 list) ≡ None
    unfolding prefixed
    reading_cut e = ended false e

    pub reading_none : len ≡ 0 → run_of (numbers_to s 128 list) ≡ None
    reading_none none = chosen (same_word rest nil) refl
      where
        chosen : (b : Bool) → same_word rest nil ≡ b → run_of (numbers_to s 128 list) ≡ None
        chosen true e = whole e ∙ ap (λ n. run_of (Some (take n name))) none
        chosen false e = reading_cut e
