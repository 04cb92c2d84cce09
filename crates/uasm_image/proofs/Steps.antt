-- What one step of reading tells of the bytes.
use Rattle.std.proofs.Common.{◌≡◌, ℕ, ◌+◌, ◌^◌, ◌<◌, ◌≤◌, Bool, true, false, cond, ltb, List, ◌++◌, length, get_or, take, drop, Result, Ok, Err, IsTrue, ◌⊎◌, inl, inr, refl, sym, ap, subst, ◌∙◌, arith}
use Rattle.std.specs.Int.{w32, from_le_bytes}
use Rattle.std.proofs.lemmas.Bool.{cases_lt, ltb-false, ltb-true}
use Rattle.std.proofs.lemmas.List.{length-take, length-drop, get_or-drop, get_or-take, get_or_past}
use Rattle.std.proofs.lemmas.Nat.{le_bytes_4}
use Rattle.std.proofs.Math.Seq.{take-add}
use Rattle.cap_words.specs.Words.{W, word_of}
use Rattle.quad_memory.specs.Image.{is_rom_word}
use Rattle.uasm_image.specs.declared.error.ImageRefused.{ImageRefused}
use Rattle.uasm_image.specs.declared.error.ImageCause.TheVariants.{Word, Truncated}
use Rattle.uasm_image.specs.Spelled.{number, word, is_exact}
use Rattle.uasm_image.specs.Reading.{◌>>=◌, fault, number_at, word_at}
use Rattle.uasm_image.proofs.Exact.{word_exact, bits_back}

abbrev pub IsBytes : List ℕ → Type 0
IsBytes bytes = (i : ℕ) → get_or bytes i 0 < 256

IsBytes-drop : (n : ℕ) (bytes : List ℕ) → IsBytes bytes → IsBytes (drop n bytes)
IsBytes-drop n bytes h i = rw get_or-drop (h (n + i))

IsBytes-take : (n : ℕ) (bytes : List ℕ) → IsBytes bytes → IsBytes (take n bytes)
IsBytes-take n bytes h i =
    elim (cases_lt i n) [
      | inl lt ↦ rw (get_or-take n bytes i 0 lt) (h i)
      | inr le ↦ rw (get_or_past (take n bytes) i 0 (omega (arith, length-take n bytes))) (omega arith)
    ]

-- the value of a step that did not fail
pub bind_ok : {A B : Type 0} (r : Result A ImageRefused) (f : A → Result B ImageRefused) (y : B) → (r >>= f) ≡ Ok y
    → (x : A) × (r ≡ Ok x) × (f x ≡ Ok y)
bind_ok (Ok x) f y e = (x, refl, e)
bind_ok (Err d) f y e = absurd cc

-- a failure is that of the step, or of what follows it
pub bind_err : {A B : Type 0} (r : Result A ImageRefused) (f : A → Result B ImageRefused) (d : ImageRefused) → (r >>= f) ≡ Err d
    → (r ≡ Err d) ⊎ ((x : A) × (r ≡ Ok x) × (f x ≡ Err d))
bind_err (Ok x) f d e = inr (x, refl, e)
bind_err (Err c) f d e = inl cc

-- which way a test went
pub chosen : {A : Type 0} (b : Bool) (x y z : A) → cond b x y ≡ z → ((b ≡ true) × (x ≡ z)) ⊎ ((b ≡ false) × (y ≡ z))
chosen true x y z e = inl (refl, e)
chosen false x y z e = inr (refl, e)

abbrev done : {A : Type 0} → A → Result A ImageRefused
done x = Ok x

abbrev failed : {A : Type 0} → ImageRefused → Result A ImageRefused
failed e = Err e

pub ok_is : {A : Type 0} (x y : A) → done x ≡ done y → x ≡ y
ok_is x y e = cc

pub err_is : {A : Type 0} (d e : ImageRefused) → failed {A = A} d ≡ failed e → d ≡ e
err_is d e h = cc

pub ok_no_err : {A B : Type 0} (x : A) (d : ImageRefused) → done x ≡ failed d → B
ok_no_err x d h = absurd cc

pub err_no_ok : {A B : Type 0} (x : A) (d : ImageRefused) → failed d ≡ done x → B
err_no_ok x d h = absurd cc

-- ---- numbers

-- the number n stands at a place
pub record Stands (bytes : List ℕ) (at n : ℕ) : Type 0 where
  pub whole : at + 4 ≤ length bytes
  pub below : n < 2 ^ 32
  pub same : take (at + 4) bytes ≡ take at bytes ++ number n

four_spell : (four : List ℕ) → length four ≡ 4 → IsBytes four → number (from_le_bytes w32 four) ≡ four
four_spell four len fits = le_bytes_4 four _ len fits refl

four_below : (four : List ℕ) → IsBytes four → from_le_bytes w32 four < 2 ^ 32
four_below four fits = omega (arith, fits 0, fits 1, fits 2, fits 3)

pub stands : (bytes : List ℕ) (at : ℕ) → IsBytes bytes → at + 4 ≤ length bytes → Stands bytes at (from_le_bytes w32 (take 4 (drop at bytes)))
stands bytes at fits whole =
    let four = take 4 (drop at bytes) in
    let kept : IsBytes four = IsBytes-take 4 (drop at bytes) (IsBytes-drop at bytes fits) in
    let len : length four ≡ 4 = omega (arith, length-take 4 (drop at bytes), length-drop at bytes) in
    record { whole = whole; below = four_below four kept; same = take-add at 4 bytes ∙ ap (λ f. take at bytes ++ f) (sym (four_spell four len kept)) }

-- the bytes end at a place before a whole number
pub record Ends (bytes : List ℕ) (at : ℕ) (e : ImageRefused) : Type 0 where
  pub short : length bytes < at + 4
  pub why : e ≡ record { at = length bytes; cause = Truncated }

pub number_ok : (bytes : List ℕ) (at n : ℕ) → IsBytes bytes → number_at bytes at ≡ Ok n → Stands bytes at n
number_ok bytes at n fits e =
    elim (chosen (ltb (length bytes) (at + 4)) (fault (length bytes) Truncated) (Ok (from_le_bytes w32 (take 4 (drop at bytes)))) (Ok n) e) [
      | inl short ↦ err_no_ok _ _ short.1
      | inr long ↦ subst (λ (m : ℕ). Stands bytes at m) (ok_is _ _ long.1) (stands bytes at fits (ltb-false _ _ long.0))
    ]

pub number_err : (bytes : List ℕ) (at : ℕ) (d : ImageRefused) → number_at bytes at ≡ Err d → Ends bytes at d
number_err bytes at d e =
    elim (chosen (ltb (length bytes) (at + 4)) (fault (length bytes) Truncated) (Ok (from_le_bytes w32 (take 4 (drop at bytes)))) (Err d) e) [
      | inl short ↦ record { short = ltb-true _ _ short.0; why = sym (err_is {A = ℕ} _ _ short.1) }
      | inr long ↦ ok_no_err _ _ long.1
    ]

-- ---- words

-- a word of an image of that many cells, as 32 bits can spell it
pub record IsGood (count : ℕ) (w : W) : Type 0 where
  pub kept : IsTrue (is_rom_word count w)
  pub exact : IsTrue (is_exact w)

-- the word w stands at a place, and keeps its rule
pub record Fits (rule : W → Bool) (count : ℕ) (bytes : List ℕ) (at : ℕ) (w : W) : Type 0 where
  pub whole : at + 4 ≤ length bytes
  pub rule_kept : IsTrue (rule w)
  pub good : IsGood count w
  pub same : take (at + 4) bytes ≡ take at bytes ++ word w

-- the number n stands at a place, and breaks its rule
pub record Breaks (rule : W → Bool) (bytes : List ℕ) (at : ℕ) (e : ImageRefused) : Type 0 where
  pub n : ℕ
  pub stands : Stands bytes at n
  pub broken : rule (word_of n) ≡ false
  pub why : e ≡ record { at = at; cause = Word }

fits_of : (rule : W → Bool) (count : ℕ) (bytes : List ℕ) (at n : ℕ) → ((w : W) → IsTrue (rule w) → IsTrue (is_rom_word count w))
    → Stands bytes at n → IsTrue (rule (word_of n)) → Fits rule count bytes at (word_of n)
fits_of rule count bytes at n narrow s kept =
    let k : IsTrue (is_rom_word count (word_of n)) = narrow (word_of n) kept in
    record {
      whole = s.whole;
      rule_kept = kept;
      good = record { kept = k; exact = word_exact n s.below };
      same = s.same ∙ ap (λ (m : ℕ). take at bytes ++ number m) (sym (bits_back count n s.below k));
    }

pub word_ok : (rule : W → Bool) (count : ℕ) (bytes : List ℕ) (at : ℕ) (w : W) → ((v : W) → IsTrue (rule v) → IsTrue (is_rom_word count v))
    → IsBytes bytes → word_at rule bytes at ≡ Ok w → Fits rule count bytes at w
word_ok rule count bytes at w narrow fits e =
    let b = bind_ok (number_at bytes at) (λ n. cond (rule (word_of n)) (Ok (word_of n)) (fault at Word)) w e in
    elim (chosen (rule (word_of b.0)) (Ok (word_of b.0)) (fault at Word) (Ok w) b.2) [
      | inl kept ↦ subst (λ (v : W). Fits rule count bytes at v) (ok_is _ _ kept.1)
          (fits_of rule count bytes at b.0 narrow (number_ok bytes at b.0 fits b.1) kept.0)
      | inr broken ↦ err_no_ok _ _ broken.1
    ]

pub word_err : (rule : W → Bool) (bytes : List ℕ) (at : ℕ) (d : ImageRefused) → IsBytes bytes → word_at rule bytes at ≡ Err d
    → Ends bytes at d ⊎ Breaks rule bytes at d
word_err rule bytes at d fits e =
    elim (bind_err (number_at bytes at) (λ n. cond (rule (word_of n)) (Ok (word_of n)) (fault at Word)) d e) [
      | inl short ↦ inl (number_err bytes at d short)
      | inr b ↦ elim (chosen (rule (word_of b.0)) (Ok (word_of b.0)) (fault at Word) (Err d) b.2) [
        | inl kept ↦ ok_no_err _ _ kept.1
        | inr broken ↦ inr (record { n = b.0; stands = number_ok bytes at b.0 fits b.1; broken = broken.0; why = sym (err_is {A = W} _ _ broken.1) })
      ]
    ]
