-- Dictionaries entry by entry, and the search for a key.
use Rattle.std.proofs.Common.{◌≡◌, ℕ, zero, suc, ◌+◌, ◌<◌, ◌≤◌, Bool, true, false, if◌then◌else◌, List, [], ◌∷◌, length, Option, Some, None, refl, ap, sym, ◌∙◌, arith}
use Rattle.std.specs.Prelude.{option_map}
use Rattle.cap_words.specs.declared.word.Quad.{Quad}
use Rattle.cap_words.specs.Words.{W, same_word}
use Rattle.cap_words.specs.Seen.{Seen, cell_seen}
use Rattle.instr_table.specs.Dictionary.{entry_in, entries_to, first_with, before}
use Rattle.vm_dict.specs.declared.dict.Found.{Found}
use Rattle.vm_dict.specs.Calls.{found}

pub entries-zero : (s : Seen) (w : W) → entries_to s 0 w ≡ []
unfolding entries_to
entries-zero s w = refl

pub entries-none : (s : Seen) (n : ℕ) (w : W) → entry_in (cell_seen s w) ≡ None → entries_to s n w ≡ []
unfolding entries_to
entries-none s zero w h = refl
entries-none s (suc n) w h = rw (h, entries_to)

pub entries-some : (s : Seen) (n : ℕ) (w : W) (e : Quad) → entry_in (cell_seen s w) ≡ Some e → entries_to s (suc n) w ≡ e ∷ entries_to s n e.z
unfolding entries_to
entries-some s n w e h = rw (h, entries_to)

-- a dictionary with as many entries as are asked for begins with one
pub entries-whole : (s : Seen) (n : ℕ) (w : W) → length (entries_to s (suc n) w) ≡ suc n → (e : Quad) × (entry_in (cell_seen s w) ≡ Some e) × (length (entries_to s n e.z) ≡ n)
entries-whole s n w h = first (entry_in (cell_seen s w)) refl
  where
    first : (o : Option Quad) → entry_in (cell_seen s w) ≡ o → (e : Quad) × (entry_in (cell_seen s w) ≡ Some e) × (length (entries_to s n e.z) ≡ n)
    first None k = let l : length (entries_to s (suc n) w) ≡ 0 = ap length (entries-none s (suc n) w k) in absurd (omega arith)
    first (Some e) k = let l : length (entries_to s (suc n) w) ≡ suc (length (entries_to s n e.z)) = ap length (entries-some s n w e k) in (e, k, omega arith)

-- the entries before the first one with a key are the first ones, as many as they are
pub before-first : (s : Seen) (m : ℕ) (w key : W) → before key (entries_to s m w) ≡ entries_to s (length (before key (entries_to s m w))) w
before-first s zero w key = rw entries-zero (sym (entries-zero s w))
before-first s (suc m) w key = from (entry_in (cell_seen s w)) refl (λ v. before-first s m v key)
  where
    chosen : (b : Bool) (e : Quad) → entry_in (cell_seen s w) ≡ Some e → before key (entries_to s m e.z) ≡ entries_to s (length (before key (entries_to s m e.z))) e.z → (if b then [] else e ∷ before key (entries_to s m e.z)) ≡ entries_to s (length (if b then [] else e ∷ before key (entries_to s m e.z))) w
    chosen true e k h = sym (entries-zero s w)
    chosen false e k h = ap (λ (l : List Quad). e ∷ l) h ∙ sym (entries-some s (length (before key (entries_to s m e.z))) w e k)

    from : (o : Option Quad) → entry_in (cell_seen s w) ≡ o → ((v : W) → before key (entries_to s m v) ≡ entries_to s (length (before key (entries_to s m v))) v) → before key (entries_to s (suc m) w) ≡ entries_to s (length (before key (entries_to s (suc m) w))) w
    from None k h = rw (entries-none s (suc m) w k) (sym (entries-zero s w))
    from (Some e) k h = rw (entries-some s m w e k) (chosen (same_word e.x key) e k (h e.z))

-- ---- the search

-- the first entry with a key, where so many were passed
abbrev found_from : W → ℕ → List Quad → Option Found
found_from key i es = option_map (λ (e : Quad). record { before = i + length (before key es); entry = e }) (first_with key es)

found-start : (key : W) (es : List Quad) → found_from key 0 es ≡ found key es
found-start key es = ap (λ (f : ℕ → ℕ). option_map (λ (e : Quad). record { before = f (length (before key es)); entry = e }) (first_with key es)) (λ i n. added n i)
  where
    added : (n : ℕ) → 0 + n ≡ n
    added n = omega arith

found-pass : (key : W) (i : ℕ) (e : Quad) (es : List Quad) → same_word e.x key ≡ false → found_from key i (e ∷ es) ≡ found_from key (i + 1) es
found-pass key i e es h =
    let k : i + suc (length (before key es)) ≡ i + 1 + length (before key es) = omega arith in
    rw h (ap (λ (n : ℕ). option_map (λ (e : Quad). record { before = n; entry = e }) (first_with key es)) k)

found-here : (key : W) (i : ℕ) (e : Quad) (es : List Quad) → same_word e.x key ≡ true → found_from key i (e ∷ es) ≡ Some (record { before = i; entry = e })
found-here key i e es h =
    let k : i + 0 ≡ i = omega arith in
    rw h (ap (λ (n : ℕ). Some (record { before = n; entry = e })) k)

-- so many entries were passed, and none of them has the key
pub record Searching (s : Seen) (m : ℕ) (dict key : W) (i : ℕ) (at : W) : Type 0 where
  pub left : ℕ
  pub count : i + left ≡ m
  pub found_is : found_from key i (entries_to s left at) ≡ found key (entries_to s m dict)

pub searching-start : (s : Seen) (m : ℕ) (dict key : W) → Searching s m dict key 0 dict
searching-start s m dict key = record { left = m; count = omega arith; found_is = found-start key (entries_to s m dict) }

-- where so few were passed, one is left
pub one_left : (i n m : ℕ) → i + n ≡ m → i < m → (k : ℕ) × (n ≡ suc k)
one_left i zero m e h = absurd (omega arith)
one_left i (suc k) m e h = (k, refl)

-- the entry that is next
pub searching-at : (s : Seen) (m : ℕ) (dict key : W) (i : ℕ) (at : W) (e : Quad) → Searching s m dict key i at → i < m → Some e ≡ entry_in (cell_seen s at) → (k : ℕ) × (i + 1 + k ≡ m) × (found_from key i (e ∷ entries_to s k e.z) ≡ found key (entries_to s m dict))
searching-at s m dict key i at e h low is =
    let l = one_left i h.left m h.count low in
    let n : i + 1 + l.0 ≡ m = omega (arith, h.count, l.1) in
    (l.0, n, ap (found_from key i) (sym (ap (λ (n : ℕ). entries_to s n at) l.1 ∙ entries-some s l.0 at e (sym is))) ∙ h.found_is)

pub searching-more : (s : Seen) (m : ℕ) (dict key : W) (i : ℕ) (at : W) (e : Quad) → Searching s m dict key i at → i < m → Some e ≡ entry_in (cell_seen s at) → same_word e.x key ≡ false → Searching s m dict key (i + 1) e.z
searching-more s m dict key i at e h low is other =
    let k = searching-at s m dict key i at e h low is in
    record { left = k.0; count = k.1; found_is = sym (found-pass key i e (entries_to s k.0 e.z) other) ∙ k.2 }

pub searching-found : (s : Seen) (m : ℕ) (dict key : W) (i : ℕ) (at : W) (e : Quad) → Searching s m dict key i at → i < m → Some e ≡ entry_in (cell_seen s at) → same_word e.x key ≡ true → Some (record { before = i; entry = e }) ≡ found key (entries_to s m dict)
searching-found s m dict key i at e h low is same =
    let k = searching-at s m dict key i at e h low is in
    sym (found-here key i e (entries_to s k.0 e.z) same) ∙ k.2

pub searching-none : (s : Seen) (m : ℕ) (dict key : W) (i : ℕ) (at : W) → Searching s m dict key i at → None ≡ entry_in (cell_seen s at) → None ≡ found key (entries_to s m dict)
searching-none s m dict key i at h is = ap (found_from key i) (sym (entries-none s h.left at (sym is))) ∙ h.found_is

pub searching-end : (s : Seen) (m : ℕ) (dict key : W) (i : ℕ) (at : W) → Searching s m dict key i at → m ≤ i → None ≡ found key (entries_to s m dict)
searching-end s m dict key i at h high =
    let n : h.left ≡ 0 = omega (arith, h.count) in
    ap (found_from key i) (sym (ap (λ (n : ℕ). entries_to s n at) n ∙ entries-zero s at)) ∙ h.found_is
