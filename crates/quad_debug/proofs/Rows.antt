-- The lines of a sheet, row by row, and that there are no more rows than quads.
use Rattle.std.proofs.Common.{◌≡◌, ℕ, zero, suc, ◌+◌, ◌≤◌, List, [], ◌∷◌, ◌++◌, length, take, drop, Option, Some, None, Bool, true, false, if◌then◌else◌, refl, sym, ap, ◌∙◌, subst, inl, inr, arith, append-nil, append_assoc}
use Rattle.std.specs.Prelude.{slice_get, option_map}
use Rattle.std.proofs.lemmas.List.{length-map}
use Rattle.hum_outside.specs.Outside.{AppendsFront, appended}
use Rattle.hum_outside.proofs.Fronts.{all_after, front_after, front_left}
use Rattle.cap_words.specs.Words.{W, Fix, Rom, Ram, Cap, same_word}
use Rattle.cap_words.specs.Store.{Store, used}
use Rattle.cap_words.specs.Seen.{Seen, erase, seen}
use Rattle.cap_words.specs.Frame.{Among}
use Rattle.cap_words.proofs.Same.{word_same, word_differs}
use Rattle.instr_table.specs.Sheet.{Account}
use Rattle.vm_sponsor.specs.declared.amounts.SheetRow.{SheetRow}
use Rattle.vm_sponsor.specs.declared.amounts.Amounts.{Amounts}
use Rattle.vm_sponsor.specs.Totals.{sponsors}
use Rattle.vm_sponsor.specs.Sheets.{Apart, shown}
use Rattle.vm_turn.specs.State.{State}
use Rattle.vm_turn.specs.Sound.{Sound, NamesOne}
use Rattle.uasm_read.specs.Texts.{Bytes}
use Rattle.quad_debug.specs.Texts.{account_lines, sheet_lines}

-- ---- no more sponsors than quads

others : W → List W → List W
others w [] = []
others w (v ∷ vs) = if same_word v w then others w vs else v ∷ others w vs

others-among : (w x : W) (vs : List W) → Among x (others w vs) → Among x vs × (same_word x w ≡ false)
unfolding others
others-among w x [] a = absurd a
others-among w x (v ∷ vs) a = by (same_word v w) refl a (others-among w x vs)
  where
    by : (b : Bool) → same_word v w ≡ b → Among x (if b then others w vs else v ∷ others w vs) → (Among x (others w vs) → Among x vs × (same_word x w ≡ false)) → Among x (v ∷ vs) × (same_word x w ≡ false)
    by true e h later = let r = later h in (inr r.0, r.1)
    by false e (inl is) later = (inl is, ap (λ (y : W). same_word y w) is ∙ e)
    by false e (inr h) later = let r = later h in (inr r.0, r.1)

others-apart : (w : W) (vs : List W) → Apart vs → Apart (others w vs)
unfolding others
others-apart w [] a = tt
others-apart w (v ∷ vs) a = by (same_word v w) (others-apart w vs a.1)
  where
    by : (b : Bool) → Apart (others w vs) → Apart (if b then others w vs else v ∷ others w vs)
    by true later = later
    by false later = (λ h. a.0 (others-among w v vs h).0, later)

others-absent : (w : W) (vs : List W) → (Among w vs → ⊥) → length (others w vs) ≡ length vs
unfolding others
others-absent w [] a = refl
others-absent w (v ∷ vs) a = by (same_word v w) refl (others-absent w vs (λ h. a (inr h)))
  where
    by : (b : Bool) → same_word v w ≡ b → length (others w vs) ≡ length vs → length (if b then others w vs else v ∷ others w vs) ≡ length (v ∷ vs)
    by true e later = absurd (a (inl (sym (word_same v w e))))
    by false e later = ap suc later

others-length : (w : W) (vs : List W) → Apart vs → length vs ≤ suc (length (others w vs))
unfolding others
others-length w [] a = omega arith
others-length w (v ∷ vs) a = by (same_word v w) refl (others-length w vs a.1)
  where
    by : (b : Bool) → same_word v w ≡ b → length vs ≤ suc (length (others w vs)) → length (v ∷ vs) ≤ suc (length (if b then others w vs else v ∷ others w vs))
    by true e later =
        let absent : Among w vs → ⊥ = subst (λ (x : W). Among x vs → ⊥) (word_same v w e) a.0 in
        let n = others-absent w vs absent in
        omega (arith, n)
    by false e later = omega (arith, later)

below-last : (n : ℕ) (x : W) → NamesOne (suc n) x → same_word x (Cap n) ≡ false → NamesOne n x
below-last n (Fix z) h d = h
below-last n (Rom k) h d = h
below-last n (Ram k) h d = h
below-last n (Cap k) h d = let no : k ≡ n → ⊥ = λ e. word_differs (Cap k) (Cap n) d (ap Cap e) in grind (arith, h, no)

no-name : (x : W) → NamesOne 0 x → ⊥
no-name (Fix z) h = h
no-name (Rom k) h = h
no-name (Ram k) h = h
no-name (Cap k) h = omega (arith, h)

few-names : (n : ℕ) (ws : List W) → Apart ws → ((w : W) → Among w ws → NamesOne n w) → length ws ≤ n
few-names zero [] a h = omega arith
few-names zero (w ∷ ws) a h = absurd (no-name w (h w (inl refl)))
few-names (suc n) ws a h =
    let r = few-names n (others (Cap n) ws) (others-apart (Cap n) ws a)
    (λ w among. let o = others-among (Cap n) w ws among in below-last n w (h w o.0) o.1) in
    let l = others-length (Cap n) ws a in
    omega (arith, r, l)

length-sponsors : (sheet : List Account) → length (sponsors sheet) ≡ length sheet
length-sponsors [] = refl
length-sponsors (a ∷ sheet) = ap suc (length-sponsors sheet)

pub few-rows : (grant : Amounts) (store : Store) (s : State) → Sound grant s → seen store ≡ s.store → length s.sheet ≤ used store
few-rows grant store s ok is =
    let few = few-names (length s.store.slots) (sponsors s.sheet) ok.sponsors_apart ok.sponsors_taken in
    let n = length-sponsors s.sheet in
    let slots : length s.store.slots ≡ length store.ram = ap (λ (x : Seen). length x.slots) (sym is) ∙ length-map store.ram erase in
    omega (arith, few, n, slots)

-- ---- lines

sheet_lines-append : (number : ℕ) (xs ys : List Account) → sheet_lines number (xs ++ ys) ≡ sheet_lines number xs ++ sheet_lines (number + length xs) ys
sheet_lines-append number [] ys = let e : number ≡ number + 0 = omega arith in ap (λ (n : ℕ). sheet_lines n ys) e
sheet_lines-append number (x ∷ xs) ys =
    let e : suc number + length xs ≡ number + suc (length xs) = omega arith in
    ap (λ l. account_lines number x ++ l) (sheet_lines-append (suc number) xs ys ∙ ap (λ (n : ℕ). sheet_lines (suc number) xs ++ sheet_lines n ys) e)
    ∙ sym (append_assoc (account_lines number x) (sheet_lines (suc number) xs) (sheet_lines (number + suc (length xs)) ys))

-- the row of a number, and the rows behind it
split-at : (n : ℕ) (sheet : List Account) (a : Account) → slice_get sheet n ≡ Some a → (sheet ≡ take n sheet ++ (a ∷ drop (suc n) sheet)) × (length (take n sheet) ≡ n) × (take (suc n) sheet ≡ take n sheet ++ a ∷ [])
split-at n [] a h = absurd (none h)
  where
    none : None ≡ Some a → ⊥
    none e = cc
split-at zero (x ∷ sheet) a h = let e : x ≡ a = cc in (ap (λ (y : Account). y ∷ sheet) e, refl, ap (λ (y : Account). y ∷ []) e)
split-at (suc n) (x ∷ sheet) a h =
    let r = split-at n sheet a h in
    (ap (λ (l : List Account). x ∷ l) r.0, ap suc r.1, ap (λ (l : List Account). x ∷ l) r.2)

pub whole-there : (n : ℕ) (sheet : List Account) → slice_get sheet n ≡ None → take n sheet ≡ sheet
whole-there zero [] h = refl
whole-there (suc n) [] h = refl
whole-there zero (x ∷ sheet) h = absurd (some h)
  where
    some : Some x ≡ None → ⊥
    some e = cc
whole-there (suc n) (x ∷ sheet) h = ap (λ (l : List Account). x ∷ l) (whole-there n sheet h)

pub whole-long : (n : ℕ) (sheet : List Account) → length sheet ≤ n → take n sheet ≡ sheet
whole-long zero [] h = refl
whole-long (suc n) [] h = refl
whole-long zero (x ∷ sheet) h = absurd (omega (arith, h))
whole-long (suc n) (x ∷ sheet) h = ap (λ (l : List Account). x ∷ l) (whole-long n sheet (omega (arith, h)))

module _ (n : ℕ) (sheet : List Account) (a : Account) (at : slice_get sheet n ≡ Some a) (old mid new : Option Bytes) (so_far : mid ≡ appended old (sheet_lines 0 (take n sheet))) where
  lines : sheet_lines 0 (take (suc n) sheet) ≡ sheet_lines 0 (take n sheet) ++ account_lines n a
  lines =
      let s = split-at n sheet a at in
      let e : 0 + length (take n sheet) ≡ n = omega (arith, s.1) in
      ap (sheet_lines 0) s.2 ∙ sheet_lines-append 0 (take n sheet) (a ∷ []) ∙ ap (λ (k : ℕ). sheet_lines 0 (take n sheet) ++ sheet_lines k (a ∷ [])) e
      ∙ ap (λ l. sheet_lines 0 (take n sheet) ++ l) (append-nil (account_lines n a))

  pub rows-more : new ≡ appended mid (account_lines n a) → new ≡ appended old (sheet_lines 0 (take (suc n) sheet))
  rows-more next = all_after old mid new (sheet_lines 0 (take n sheet)) (account_lines n a) so_far next ∙ ap (appended old) (sym lines)

  pub rows-front : AppendsFront mid new (account_lines n a) → AppendsFront old new (sheet_lines 0 sheet)
  rows-front front =
      let s = split-at n sheet a at in
      let e : 0 + length (take n sheet) ≡ n = omega (arith, s.1) in
      let all : sheet_lines 0 sheet ≡ sheet_lines 0 (take n sheet) ++ (account_lines n a ++ sheet_lines (suc n) (drop (suc n) sheet)) =
      ap (sheet_lines 0) s.0 ∙ sheet_lines-append 0 (take n sheet) (a ∷ drop (suc n) sheet) ∙ ap (λ (k : ℕ). sheet_lines 0 (take n sheet) ++ sheet_lines k (a ∷ drop (suc n) sheet)) e in
      subst (AppendsFront old new) (sym all)
      (front_after old mid new (sheet_lines 0 (take n sheet)) (account_lines n a ++ sheet_lines (suc n) (drop (suc n) sheet)) so_far
      (front_left mid new (account_lines n a) (sheet_lines (suc n) (drop (suc n) sheet)) front))

-- a row that is shown is that of an account
pub shown-of : (o : Option Account) (r : SheetRow) → Some r ≡ option_map shown o → (a : Account) × (o ≡ Some a) × (r ≡ shown a)
shown-of None r h = absurd (none h)
  where
    none : Some r ≡ None → ⊥
    none e = cc
shown-of (Some a) r h = (a, refl, cc)

pub shown-none : (o : Option Account) → None ≡ option_map shown o → o ≡ None
shown-none None h = refl
shown-none (Some a) h = absurd (some h)
  where
    some : None ≡ Some (shown a) → ⊥
    some e = cc
