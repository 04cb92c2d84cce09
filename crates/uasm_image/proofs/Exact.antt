-- Words and the bits that spell them.
use Rattle.std.proofs.Common.{◌≡◌, ℕ, ◌^◌, ◌<◌, ◌≤◌, pos, negsuc, IsTrue, rules, refl, arith}
use Rattle.std.proofs.lemmas.Bool.Decides.{nat_tests}
use Rattle.cap_words.specs.Words.{W, Fix, Rom, Ram, Cap, word_of, bits_of}
use Rattle.quad_memory.specs.Image.{is_boot_word, is_rom_word}
use Rattle.uasm_image.specs.Spelled.{is_exact}

pub word_exact : (n : ℕ) → n < 2 ^ 32 → IsTrue (is_exact (word_of n))
word_exact n h = grind (arith, nat_tests)

pub bits_back : (count n : ℕ) → n < 2 ^ 32 → IsTrue (is_rom_word count (word_of n)) → bits_of (word_of n) ≡ n
bits_back count n h k = grind (arith, nat_tests)

pub word_back : (count : ℕ) (w : W) → count ≤ 1048560 → IsTrue (is_rom_word count w) → IsTrue (is_exact w) → word_of (bits_of w) ≡ w
word_back count (Fix (pos n)) le k x = grind (arith, nat_tests)
word_back count (Fix (negsuc n)) le k x = grind (arith, nat_tests)
word_back count (Rom n) le k x = grind (arith, nat_tests)
word_back count (Ram n) le k x = absurd (search rules)
word_back count (Cap n) le k x = absurd (search rules)

pub bits_below : (count : ℕ) (w : W) → count ≤ 1048560 → IsTrue (is_rom_word count w) → IsTrue (is_exact w) → bits_of w < 2 ^ 32
bits_below count (Fix (pos n)) le k x = grind (arith, nat_tests)
bits_below count (Fix (negsuc n)) le k x = grind (arith, nat_tests)
bits_below count (Rom n) le k x = grind (arith, nat_tests)
bits_below count (Ram n) le k x = absurd (search rules)
bits_below count (Cap n) le k x = absurd (search rules)

-- a boot word is a word of a cell too
pub boot_rom : (count : ℕ) (w : W) → IsTrue (is_boot_word count w) → IsTrue (is_rom_word count w)
boot_rom count (Fix n) h = absurd (search rules)
boot_rom count (Rom n) h = grind (arith, nat_tests)
boot_rom count (Ram n) h = absurd (search rules)
boot_rom count (Cap n) h = absurd (search rules)

pub boot_exact : (count : ℕ) (w : W) → IsTrue (is_boot_word count w) → IsTrue (is_exact w)
boot_exact count (Fix n) h = absurd (search rules)
boot_exact count (Rom n) h = refl
boot_exact count (Ram n) h = refl
boot_exact count (Cap n) h = refl
