-- An image's bytes are no other image's, and bytes have one fault at most.
use Rattle.std.proofs.Common.{◌≡◌, ℕ, ◌+◌, ◌-◌, ◌*◌, ◌/◌, ◌^◌, ◌<◌, ◌≤◌, List, [], ◌∷◌, ◌++◌, length, take, drop, inl, inr, refl, sym, ap, ◌∙◌, append_assoc, arith}
use Rattle.std.proofs.lemmas.Bool.{cases_lt}
use Rattle.std.proofs.lemmas.List.{take-take, take-append-le, take-append-drop, take_at, length-append, append-nil}
use Rattle.std.proofs.Math.Seq.{take-append-add}
use Rattle.quad_memory.specs.Image.{RomImage}
use Rattle.uasm_image.specs.declared.error.ImageCause.{ImageCause}
use Rattle.uasm_image.specs.Spelled.{number, spelled, IsImage}
use Rattle.uasm_image.specs.Reading.{read}
use Rattle.uasm_image.specs.Refused as refused
use Rattle.uasm_image.specs.Refused.{Begins, GoesOn, IsRefusedAt}
use Rattle.uasm_image.proofs.Steps.{ok_is}
use Rattle.uasm_image.proofs.Whole.{both_left, spelled_len}
use Rattle.uasm_image.proofs.Again.{count_below, read_again}
use Rattle.uasm_image.proofs.Hits.{number_one}
use Rattle.uasm_image.proofs.Faults.{goes_begins}

-- ---- images

pub spelled_one : (i j : RomImage) → IsImage i → IsImage j → spelled i ≡ spelled j → i ≡ j
spelled_one i j gi gj e = ok_is i j (sym (read_again i gi) ∙ ap read e ∙ read_again j gj)

count_fits : (i : RomImage) → IsImage i → length i.cells < 2 ^ 32
count_fits i good = let le = count_below (length i.cells) (both_left _ _ (both_left _ _ good.rules)) in omega (arith, le)

-- no image goes on behind another's end
ends_one : (i j : RomImage) (more : List ℕ) → IsImage i → IsImage j → spelled j ≡ spelled i ++ more → 0 < length more → ⊥
ends_one i j more gi gj e lt =
    let same : number (length j.cells) ≡ number (length i.cells) = cc in
    let many : length j.cells ≡ length i.cells = number_one (length j.cells) (length i.cells) (count_fits j gj) (count_fits i gi) same in
    omega (arith, ap length e, length-append (spelled i) more, spelled_len i, spelled_len j, many)

-- ---- fronts

begins_less : (bytes : List ℕ) (m n : ℕ) → m ≤ n → Begins (take n bytes) → Begins (take m bytes)
begins_less bytes m n le b =
    let front : take n bytes ≡ take m bytes ++ drop m (take n bytes) = sym (take-append-drop m (take n bytes))
    ∙ ap (λ (f : List ℕ). f ++ drop m (take n bytes)) (take-take m n bytes le) in
    (b.0, b.1, drop m (take n bytes) ++ b.2, b.3 ∙ ap (λ (f : List ℕ). f ++ b.2) front ∙ append_assoc (take m bytes) (drop m (take n bytes)) b.2)

goes_less : (bytes : List ℕ) (m n : ℕ) → m ≤ n → GoesOn (take n bytes) → Begins (take m bytes)
goes_less bytes m n le g = begins_less bytes m n le (goes_begins (take n bytes) g)

front_begins : (i : RomImage) (n : ℕ) → IsImage i → Begins (take n (spelled i))
front_begins i n good = (i, good, drop n (spelled i), sym (take-append-drop n (spelled i)))

extra_begins : (bytes more : List ℕ) (i : RomImage) (n : ℕ) → IsImage i → bytes ≡ spelled i ++ more → n ≤ length (spelled i) → Begins (take n bytes)
extra_begins bytes more i n good e le = rw (e, take-append-le n (spelled i) more le) (front_begins i n good)

extra_ends : (bytes more : List ℕ) (i : RomImage) (n : ℕ) → IsImage i → bytes ≡ spelled i ++ more → length (spelled i) ≤ n → GoesOn (take n bytes) → ⊥
extra_ends bytes more i n good e le g =
    let d = n - length (spelled i) in
    let place : n ≡ length (spelled i) + d = omega arith in
    let front : take n bytes ≡ spelled i ++ take d more = ap (λ k. take k bytes) place ∙ ap (take (length (spelled i) + d)) e
    ∙ take-append-add (spelled i) more d in
    let same : spelled g.0 ≡ spelled i ++ (take d more ++ g.2 ∷ g.3) = g.4 ∙ ap (λ (f : List ℕ). f ++ g.2 ∷ g.3) front
    ∙ append_assoc (spelled i) (take d more) (g.2 ∷ g.3) in
    ends_one i g.0 (take d more ++ g.2 ∷ g.3) good g.1 same (omega (arith, length-append (take d more) (g.2 ∷ g.3)))

-- ---- faults of two kinds

word_extra : (bytes more : List ℕ) (i : RomImage) (k : ℕ) → IsImage i → bytes ≡ spelled i ++ more → GoesOn (take (8 + 4 * k) bytes)
    → (Begins (take (8 + 4 * k + 4) bytes) → ⊥) → ⊥
word_extra bytes more i k good e g none =
    let len = spelled_len i in
    elim (cases_lt (length (spelled i)) (8 + 4 * k + 4)) [
      | inl past ↦ extra_ends bytes more i (8 + 4 * k) good e (omega arith) g
      | inr within ↦ none (extra_begins bytes more i (8 + 4 * k + 4) good e within)
    ]

truncated_extra : (bytes more : List ℕ) (i : RomImage) → IsImage i → bytes ≡ spelled i ++ more → GoesOn (take (length bytes / 4 * 4) bytes) → ⊥
truncated_extra bytes more i good e g =
    let len = spelled_len i in
    let sum : length bytes ≡ length (spelled i) + length more = ap length e ∙ length-append (spelled i) more in
    extra_ends bytes more i (length bytes / 4 * 4) good e (omega arith) g

-- an image's bytes have no fault
pub faultless : (i : RomImage) (at : ℕ) (cause : ImageCause) → IsImage i → IsRefusedAt (spelled i) at cause → ⊥
faultless i _ _ good (refused.magic none) = none (front_begins i 4 good)
faultless i _ _ good (refused.count whole g none) = none (front_begins i 8 good)
faultless i _ _ good (refused.word k whole g none) = none (front_begins i (8 + 4 * k + 4) good)
faultless i _ _ good (refused.truncated b g) = truncated_extra (spelled i) [] i good (sym (append-nil (spelled i))) g
faultless i _ _ good (refused.extra j gj b rest e) = ends_one j i (b ∷ rest) gj good e (omega arith)

-- ---- two faults

word_word : (bytes : List ℕ) (j k : ℕ) → GoesOn (take (8 + 4 * k) bytes) → (Begins (take (8 + 4 * j + 4) bytes) → ⊥) → j < k → ⊥
word_word bytes j k g none lt = none (goes_less bytes (8 + 4 * j + 4) (8 + 4 * k) (omega arith) g)

one_word : (bytes : List ℕ) (j k : ℕ) → GoesOn (take (8 + 4 * j) bytes) → (Begins (take (8 + 4 * j + 4) bytes) → ⊥)
    → GoesOn (take (8 + 4 * k) bytes) → (Begins (take (8 + 4 * k + 4) bytes) → ⊥) → j ≡ k
one_word bytes j k gj nj gk nk =
    elim (cases_lt j k) [
      | inl lt ↦ absurd (word_word bytes j k gk nj lt)
      | inr le ↦ elim (cases_lt k j) [
        | inl lt ↦ absurd (word_word bytes k j gj nk lt)
        | inr same ↦ omega arith
      ]
    ]

-- of two images whose bytes are fronts of the same, none is longer
no_longer : (bytes ms ns : List ℕ) (i j : RomImage) → IsImage i → IsImage j → bytes ≡ spelled i ++ ms → bytes ≡ spelled j ++ ns
    → length (spelled i) < length (spelled j) → ⊥
no_longer bytes ms ns i j gi gj ei ej lt =
    let m = length (spelled i) in
    let d = length (spelled j) - m in
    let place : length (spelled j) ≡ m + d = omega arith in
    let whole : take (m + d) bytes ≡ spelled j = rw (← place)
    (ap (take (length (spelled j))) ej ∙ take_at (spelled j) ns (length (spelled j)) refl) in
    let front : take (m + d) bytes ≡ spelled i ++ take d ms = ap (take (m + d)) ei ∙ take-append-add (spelled i) ms d in
    ends_one i j (take d ms) gi gj (sym whole ∙ front) (omega (arith, ap length (sym whole ∙ front), length-append (spelled i) (take d ms)))

one_extra : (bytes ms ns : List ℕ) (i j : RomImage) → IsImage i → IsImage j → bytes ≡ spelled i ++ ms → bytes ≡ spelled j ++ ns
    → length (spelled i) ≡ length (spelled j)
one_extra bytes ms ns i j gi gj ei ej =
    elim (cases_lt (length (spelled i)) (length (spelled j))) [
      | inl lt ↦ absurd (no_longer bytes ms ns i j gi gj ei ej lt)
      | inr le ↦ elim (cases_lt (length (spelled j)) (length (spelled i))) [
        | inl lt ↦ absurd (no_longer bytes ns ms j i gj gi ej ei lt)
        | inr same ↦ omega arith
      ]
    ]

-- bytes have one fault at most
pub one_fault : (bytes : List ℕ) (a b : ℕ) (c d : ImageCause) → IsRefusedAt bytes a c → IsRefusedAt bytes b d → (a ≡ b) × (c ≡ d)
one_fault bytes _ _ _ _ (refused.magic n) (refused.magic n2) = (refl, refl)
one_fault bytes _ _ _ _ (refused.magic n) (refused.count w2 g2 n2) = absurd (n (goes_begins (take 4 bytes) g2))
one_fault bytes _ _ _ _ (refused.magic n) (refused.word k2 w2 g2 n2) = absurd (n (goes_less bytes 4 (8 + 4 * k2) (omega arith) g2))
one_fault bytes _ _ _ _ (refused.magic n) (refused.truncated h2 g2) = absurd (n h2)
one_fault bytes _ _ _ _ (refused.magic n) (refused.extra i2 o2 b2 r2 e2) = absurd (n (extra_begins bytes (b2 ∷ r2) i2 4 o2 e2 (omega arith)))
one_fault bytes _ _ _ _ (refused.count w g n) (refused.magic n2) = absurd (n2 (goes_begins (take 4 bytes) g))
one_fault bytes _ _ _ _ (refused.count w g n) (refused.count w2 g2 n2) = (refl, refl)
one_fault bytes _ _ _ _ (refused.count w g n) (refused.word k2 w2 g2 n2) = absurd (n (goes_less bytes 8 (8 + 4 * k2) (omega arith) g2))
one_fault bytes _ _ _ _ (refused.count w g n) (refused.truncated h2 g2) = absurd (n (goes_less bytes 8 (length bytes / 4 * 4) (omega arith) g2))
one_fault bytes _ _ _ _ (refused.count w g n) (refused.extra i2 o2 b2 r2 e2) = absurd (n (extra_begins bytes (b2 ∷ r2) i2 8 o2 e2 (omega arith)))
one_fault bytes _ _ _ _ (refused.word k w g n) (refused.magic n2) = absurd (n2 (goes_less bytes 4 (8 + 4 * k) (omega arith) g))
one_fault bytes _ _ _ _ (refused.word k w g n) (refused.count w2 g2 n2) = absurd (n2 (goes_less bytes 8 (8 + 4 * k) (omega arith) g))
one_fault bytes _ _ _ _ (refused.word k w g n) (refused.word k2 w2 g2 n2) = (ap (λ (k : ℕ). 8 + 4 * k) (one_word bytes k k2 g n g2 n2), refl)
one_fault bytes _ _ _ _ (refused.word k w g n) (refused.truncated h2 g2) =
    absurd (n (goes_less bytes (8 + 4 * k + 4) (length bytes / 4 * 4) (omega arith) g2))
one_fault bytes _ _ _ _ (refused.word k w g n) (refused.extra i2 o2 b2 r2 e2) = absurd (word_extra bytes (b2 ∷ r2) i2 k o2 e2 g n)
one_fault bytes _ _ _ _ (refused.truncated h g) (refused.magic n2) = absurd (n2 h)
one_fault bytes _ _ _ _ (refused.truncated h g) (refused.count w2 g2 n2) = absurd (n2 (goes_less bytes 8 (length bytes / 4 * 4) (omega arith) g))
one_fault bytes _ _ _ _ (refused.truncated h g) (refused.word k2 w2 g2 n2) =
    absurd (n2 (goes_less bytes (8 + 4 * k2 + 4) (length bytes / 4 * 4) (omega arith) g))
one_fault bytes _ _ _ _ (refused.truncated h g) (refused.truncated h2 g2) = (refl, refl)
one_fault bytes _ _ _ _ (refused.truncated h g) (refused.extra i2 o2 b2 r2 e2) = absurd (truncated_extra bytes (b2 ∷ r2) i2 o2 e2 g)
one_fault bytes _ _ _ _ (refused.extra i o b r e) (refused.magic n2) = absurd (n2 (extra_begins bytes (b ∷ r) i 4 o e (omega arith)))
one_fault bytes _ _ _ _ (refused.extra i o b r e) (refused.count w2 g2 n2) = absurd (n2 (extra_begins bytes (b ∷ r) i 8 o e (omega arith)))
one_fault bytes _ _ _ _ (refused.extra i o b r e) (refused.word k2 w2 g2 n2) = absurd (word_extra bytes (b ∷ r) i k2 o e g2 n2)
one_fault bytes _ _ _ _ (refused.extra i o b r e) (refused.truncated h2 g2) = absurd (truncated_extra bytes (b ∷ r) i o e g2)
one_fault bytes _ _ _ _ (refused.extra i o b r e) (refused.extra i2 o2 b2 r2 e2) = (one_extra bytes (b ∷ r) (b2 ∷ r2) i i2 o o2 e e2, refl)
