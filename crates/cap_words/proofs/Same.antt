-- Which word it is: by the test of two words, and by its kind and number.
use Rattle.std.proofs.Common.{◌≡◌, ℕ, ℤ, Bool, true, false, Some, nat_lt, if◌then◌else◌, refl, subst}
use Rattle.std.specs.Bool.{Decides}
use Rattle.std.proofs.lemmas.Bool.Decides.{Decides-eqb, Decides-int_eq, not_from_Decides}
use Rattle.cap_words.specs.declared.word.Kind.TheVariants.{Const as ConstKind, Rom as RomKind, Ram as RamKind, Cap as CapKind}
use Rattle.cap_words.specs.Words.{W, Fix, Rom, Ram, Cap, same_word, kind_of, place_of, number_of}

pub word_same : (v w : W) → same_word v w ≡ true → v ≡ w
word_same (Fix m) (Fix n) h = let e : m ≡ n = (Decides-int_eq m n).0 h in cc
word_same (Rom m) (Rom n) h = let e : m ≡ n = (Decides-eqb m n).0 h in cc
word_same (Ram m) (Ram n) h = let e : m ≡ n = (Decides-eqb m n).0 h in cc
word_same (Cap m) (Cap n) h = let e : m ≡ n = (Decides-eqb m n).0 h in cc
word_same v w h = cc

pub word_is : (w : W) → same_word w w ≡ true
word_is (Fix n) = (Decides-int_eq n n).1 refl
word_is (Rom n) = (Decides-eqb n n).1 refl
word_is (Ram n) = (Decides-eqb n n).1 refl
word_is (Cap n) = (Decides-eqb n n).1 refl

pub Decides-same_word : (v w : W) → Decides (same_word v w) (v ≡ w)
Decides-same_word v w = (word_same v w, λ e. subst (λ (u : W). same_word v u ≡ true) e (word_is v))

pub word_differs : (v w : W) → same_word v w ≡ false → v ≡ w → ⊥
word_differs v w h = not_from_Decides (same_word v w) (Decides-same_word v w) h

pub word_other : (v w : W) → (v ≡ w → ⊥) → same_word v w ≡ false
word_other v w f = other (same_word v w) (λ h. f (word_same v w h))
  where
    other : (b : Bool) → (b ≡ true → ⊥) → b ≡ false
    other true g = absurd (g refl)
    other false g = refl

pub is_fix : (w : W) (z : ℤ) → number_of w ≡ Some z → w ≡ Fix z
is_fix (Fix n) z h = cc
is_fix (Rom n) z h = cc
is_fix (Ram n) z h = cc
is_fix (Cap n) z h = cc

pub is_rom : (w : W) (n : ℕ) → kind_of w ≡ RomKind → place_of w ≡ Some n → w ≡ Rom n
is_rom (Fix z) n k p = cc
is_rom (Rom m) n k p = cc
is_rom (Ram m) n k p = cc
is_rom (Cap m) n k p = cc

not_ram : (b : Bool) → (if b then ConstKind else RomKind) ≡ RamKind → ⊥
not_ram true h = cc
not_ram false h = cc

pub is_ram : (w : W) (n : ℕ) → kind_of w ≡ RamKind → place_of w ≡ Some n → w ≡ Ram n
is_ram (Fix z) n k p = cc
is_ram (Rom m) n k p = absurd (not_ram (nat_lt m 16) k)
is_ram (Ram m) n k p = cc
is_ram (Cap m) n k p = cc

not_cap : (b : Bool) → (if b then ConstKind else RomKind) ≡ CapKind → ⊥
not_cap true h = cc
not_cap false h = cc

pub is_cap : (w : W) (n : ℕ) → kind_of w ≡ CapKind → place_of w ≡ Some n → w ≡ Cap n
is_cap (Fix z) n k p = cc
is_cap (Rom m) n k p = absurd (not_cap (nat_lt m 16) k)
is_cap (Ram m) n k p = cc
is_cap (Cap m) n k p = cc
