-- What is refused has its fault where it is said to be.
use Rattle.std.proofs.Common.{◌≡◌, ℕ, ◌+◌, ◌*◌, ◌/◌, ◌<◌, ◌≤◌, Bool, true, false, cond, ltb, nat_eq, ◌||◌, List, [], ◌∷◌, ◌++◌, length, take, drop, Ok, Err, inl, inr, refl, sym, ap, subst, ◌∙◌, append_assoc, arith}
use Rattle.std.specs.List.{flat_map, starts_with}
use Rattle.std.proofs.lemmas.Bool.{cases_lt, ltb-true}
use Rattle.std.proofs.lemmas.Bool.Decides.{Decides-eqb}
use Rattle.std.proofs.lemmas.Slice.Eq.{slice_eq-Decides}
use Rattle.std.proofs.lemmas.List.{take_all, take_at, take-take, take-append-le, take-append-drop, length-take, length-drop}
use Rattle.cap_words.specs.Words.{W}
use Rattle.quad_memory.specs.Image.{RomImage, is_cell_count, is_boot_word, is_rom_word}
use Rattle.uasm_image.specs.declared.error.ImageRefused.{ImageRefused}
use Rattle.uasm_image.specs.declared.error.ImageCause.TheVariants.{Magic, Count, Word, Extra}
use Rattle.uasm_image.specs.Spelled.{number, word, magic, spelled}
use Rattle.uasm_image.specs.Reading.{◌>>=◌, fault, number_at, word_at, cells_at, fits_magic, count_at, end_at, read}
use Rattle.uasm_image.specs.Refused as refused
use Rattle.uasm_image.specs.Refused.{Begins, GoesOn, IsRefusedAt}
use Rattle.uasm_image.proofs.Exact.{boot_rom}
use Rattle.uasm_image.proofs.Steps.{IsBytes, bind_err, chosen, err_is, ok_no_err, Ends, number_ok, number_err, Fits, word_ok, word_err}
use Rattle.uasm_image.proofs.Whole.{magic_is, magic_stands, HeadFits, count_ok, cells_ok, Fronts, fronts, after_count, after_boot, after_cells}
use Rattle.uasm_image.proofs.Stops.{Stops, cells_err}
use Rattle.uasm_image.proofs.Fills.{goes_on_words, goes_on_head, goes_on_magic, goes_on_none}
use Rattle.uasm_image.proofs.Hits.{count_hit, boot_hit, word_hit}

abbrev pub Refuses : List ℕ → ImageRefused → Type 0
Refuses bytes e = IsRefusedAt bytes e.at e.cause

pub goes_begins : (bytes : List ℕ) → GoesOn bytes → Begins bytes
goes_begins bytes g = (g.0, g.1, g.2 ∷ g.3, g.4)

not_both : {X : Type 0} (b : Bool) → b ≡ false → b ≡ true → X
not_both true f t = absurd cc
not_both false f t = absurd cc

-- ---- the magic

magic_begins : (bytes : List ℕ) → take 4 bytes ≡ magic → Begins (take 4 bytes)
magic_begins bytes e = rw e (goes_begins magic goes_on_magic)

fits_begins : (bytes : List ℕ) → fits_magic bytes ≡ true → Begins (take 4 bytes)
fits_begins bytes h =
    elim (magic_is bytes h) [
      | inl same ↦ magic_begins bytes same
      | inr front ↦
          let n = length bytes in
          let len : n ≤ 4 = omega (arith, ap length front, length-take n magic) in
          let all : take 4 bytes ≡ take n magic = take_all 4 bytes len ∙ front in
          let g = goes_on_magic in
          let same : spelled g.0 ≡ take n magic ++ (drop n magic ++ g.2 ∷ g.3) =
          g.4 ∙ ap (λ (f : List ℕ). f ++ g.2 ∷ g.3) (sym (take-append-drop n magic)) ∙ append_assoc (take n magic) (drop n magic) (g.2 ∷ g.3) in
          rw all (g.0, g.1, _, same)
    ]

or_left : (a b : Bool) → a ≡ true → (a || b) ≡ true
or_left a b h = rw h refl

or_right : (a b : Bool) → b ≡ true → (a || b) ≡ true
or_right true b h = refl
or_right false b h = h

begins_fits : (bytes : List ℕ) → Begins (take 4 bytes) → fits_magic bytes ≡ true
begins_fits bytes b =
    let n = length bytes in
    elim (cases_lt n 4) [
      | inl short ↦
          let all : take 4 bytes ≡ bytes = take_all 4 bytes (omega arith) in
          let same : spelled b.0 ≡ bytes ++ b.2 = b.3 ∙ ap (λ (f : List ℕ). f ++ b.2) all in
          let front : bytes ≡ take n magic = sym (take_at bytes b.2 n refl) ∙ ap (take n) (sym same) ∙ take-append-le n magic _ (omega arith) in
          or_right (starts_with nat_eq bytes magic) _ ((slice_eq-Decides Decides-eqb bytes (take n magic) _ refl).1 front)
      | inr long ↦
          let len : length (take 4 bytes) ≡ 4 = omega (arith, length-take 4 bytes) in
          let front : magic ≡ take 4 bytes = ap (take 4) b.3 ∙ take_at (take 4 bytes) b.2 4 len in
          or_left _ _ ((slice_eq-Decides Decides-eqb magic (take 4 bytes) _ refl).1 front)
    ]

-- ---- the end

-- the bytes end inside the number at a place
truncated_at : (bytes front : List ℕ) (k at : ℕ) (e : ImageRefused) → at ≡ 4 * k → at ≤ length bytes → Begins (take 4 bytes)
    → take at bytes ≡ front → GoesOn front → Ends bytes at e → Refuses bytes e
truncated_at bytes front k at e fourth le head same goes ends =
    let short = ends.short in
    let place : length bytes / 4 * 4 ≡ at = omega arith in
    let is : take (length bytes / 4 * 4) bytes ≡ front = ap (λ n. take n bytes) place ∙ same in
    subst (λ (d : ImageRefused). Refuses bytes d) (sym ends.why) (refused.truncated head (rw is goes))

-- ---- the count

count_err : (bytes : List ℕ) (e : ImageRefused) → IsBytes bytes → count_at bytes ≡ Err e → Refuses bytes e
unfolding count_at
count_err bytes e fits h =
    elim (chosen (fits_magic bytes) (number_at bytes 4 >>= λ m. cond (is_cell_count m) (Ok m) (fault 4 Count)) (fault 0 Magic) (Err e) h) [
      | inl begun ↦
          let head = fits_begins bytes begun.0 in
          elim (bind_err (number_at bytes 4) (λ m. cond (is_cell_count m) (Ok m) (fault 4 Count)) e begun.1) [
            | inl short ↦
                let ends = number_err bytes 4 e short in
                elim (cases_lt (length bytes) 4) [
                  | inl lt ↦ truncated_at bytes [] 0 0 e refl (omega arith) head refl goes_on_none (record { short = lt; why = ends.why })
                  | inr le ↦ truncated_at bytes magic 1 4 e refl le head (magic_stands bytes begun.0 le) goes_on_magic ends
                ]
            | inr n ↦
                let s = number_ok bytes 4 n.0 fits n.1 in
                elim (chosen (is_cell_count n.0) (Ok n.0) (fault 4 Count) (Err e) n.2) [
                  | inl good ↦ ok_no_err _ _ good.1
                  | inr bad ↦
                      let whole = s.whole in
                      let four = magic_stands bytes begun.0 (omega arith) in
                      let eight : take 8 bytes ≡ magic ++ number n.0 = s.same ∙ ap (λ (f : List ℕ). f ++ number n.0) four in
                      let none : Begins (take 8 bytes) → ⊥ = λ b. not_both _ bad.0
                      (count_hit b.0 n.0 b.2 b.1 s.below (b.3 ∙ ap (λ (f : List ℕ). f ++ b.2) eight)) in
                      subst (λ (d : ImageRefused). Refuses bytes d) (err_is {A = ℕ} _ _ bad.1) (refused.count s.whole (rw four goes_on_magic) none)
                ]
          ]
      | inr bad ↦
          subst (λ (d : ImageRefused). Refuses bytes d) (err_is {A = ℕ} _ _ bad.1) (refused.magic (λ b. not_both _ bad.0 (begins_fits bytes b)))
    ]

head_begins : (bytes : List ℕ) (count : ℕ) → HeadFits bytes count → Begins (take 4 bytes)
head_begins bytes count head = magic_begins bytes (sym (take-take 4 8 bytes (omega arith)) ∙ ap (take 4) head.same)

-- ---- words

boot_err : (bytes : List ℕ) (count : ℕ) (e : ImageRefused) → IsBytes bytes → HeadFits bytes count → word_at (is_boot_word count) bytes 8 ≡ Err e
    → Refuses bytes e
boot_err bytes count e fits head h =
    let goes = goes_on_head count head.counted in
    elim (word_err (is_boot_word count) bytes 8 e fits h) [
      | inl ends ↦ truncated_at bytes (magic ++ number count) 2 8 e refl head.whole (head_begins bytes count head) head.same goes ends
      | inr breaks ↦
          let s = breaks.stands in
          let front : take 12 bytes ≡ (magic ++ number count) ++ number breaks.n = s.same ∙ ap (λ (f : List ℕ). f ++ number breaks.n) head.same in
          let none : Begins (take 12 bytes) → ⊥ = λ b. not_both _ breaks.broken
          (boot_hit b.0 count breaks.n b.2 b.1 head.below s.below (b.3 ∙ ap (λ (f : List ℕ). f ++ b.2) front)) in
          subst (λ (d : ImageRefused). Refuses bytes d) (sym breaks.why) (refused.word 0 s.whole (rw head.same goes) none)
    ]

stops_err : (bytes : List ℕ) (count : ℕ) (boot : W) (e : ImageRefused) → IsBytes bytes → HeadFits bytes count
    → Fits (is_boot_word count) count bytes 8 boot → Stops count bytes 12 (4 * count) e → Refuses bytes e
stops_err bytes count boot e fits head boots s =
    let at = 12 + 4 * length s.ws in
    let front = (magic ++ number count ++ word boot) ++ flat_map word s.ws in
    let same : take at bytes ≡ front = s.same ∙ ap (λ (f : List ℕ). f ++ flat_map word s.ws)
    (boots.same ∙ ap (λ (f : List ℕ). f ++ word boot) head.same) in
    let goes : GoesOn front = goes_on_words count boot s.ws head.counted boots.rule_kept s.good s.within in
    elim (word_err (is_rom_word count) bytes at e fits s.stop) [
      | inl ends ↦ truncated_at bytes front (3 + length s.ws) at e (omega arith) s.reach (head_begins bytes count head) same goes ends
      | inr breaks ↦
          let st = breaks.stands in
          let k = 1 + length s.ws in
          let place : at ≡ 8 + 4 * k = omega arith in
          let more : take (at + 4) bytes ≡ front ++ number breaks.n = st.same ∙ ap (λ (f : List ℕ). f ++ number breaks.n) same in
          let none : Begins (take (at + 4) bytes) → ⊥ = λ b. not_both _ breaks.broken
          (word_hit b.0 count boot s.ws breaks.n b.2 b.1 head.below st.below (b.3 ∙ ap (λ (f : List ℕ). f ++ b.2) more)) in
          let whole : 8 + 4 * k + 4 ≤ length bytes = subst (λ (p : ℕ). p + 4 ≤ length bytes) place st.whole in
          let begun : GoesOn (take (8 + 4 * k) bytes) = subst (λ (p : ℕ). GoesOn (take p bytes)) place (rw same goes) in
          let ended : Begins (take (8 + 4 * k + 4) bytes) → ⊥ = subst (λ (p : ℕ). Begins (take (p + 4) bytes) → ⊥) place none in
          let found : IsRefusedAt bytes at Word = subst (λ (p : ℕ). IsRefusedAt bytes p Word) (sym place) (refused.word k whole begun ended) in
          subst (λ (d : ImageRefused). Refuses bytes d) (sym breaks.why) found
    ]

-- ---- the whole

not_nil : (xs : List ℕ) → 0 < length xs → (b : ℕ) × (rest : List ℕ) × (xs ≡ b ∷ rest)
not_nil [] lt = absurd (omega arith)
not_nil (x ∷ xs) lt = (x, xs, refl)

extra_at : (bytes : List ℕ) (count : ℕ) (i : RomImage) → Fronts bytes count i → 12 + 16 * count < length bytes
    → IsRefusedAt bytes (12 + 16 * count) Extra
extra_at bytes count i f long =
    let n = 12 + 16 * count in
    let more = not_nil (drop n bytes) (omega (arith, length-drop n bytes)) in
    let same : bytes ≡ spelled i ++ more.0 ∷ more.1 = sym (take-append-drop n bytes) ∙ ap (λ (r : List ℕ). take n bytes ++ r) more.2
    ∙ ap (λ (r : List ℕ). r ++ more.0 ∷ more.1) (sym f.same) in
    subst (λ (p : ℕ). IsRefusedAt bytes p Extra) f.len (refused.extra i f.image more.0 more.1 same)

end_err : (bytes : List ℕ) (at : ℕ) (e : ImageRefused) → end_at bytes at ≡ Err e → (at < length bytes) × (e ≡ record { at = at; cause = Extra })
end_err bytes at e h =
    elim (chosen (ltb at (length bytes)) (fault at Extra) (Ok tt) (Err e) h) [
      | inl long ↦ (ltb-true _ _ long.0, sym (err_is {A = Unit {0}} _ _ long.1))
      | inr end ↦ ok_no_err _ _ end.1
    ]

pub read_err : (bytes : List ℕ) (e : ImageRefused) → IsBytes bytes → read bytes ≡ Err e → Refuses bytes e
unfolding read
read_err bytes e fits h =
    elim (bind_err (count_at bytes) (after_count bytes) e h) [
      | inl bad ↦ count_err bytes e fits bad
      | inr a ↦
          let head = count_ok bytes a.0 fits a.1 in
          elim (bind_err (word_at (is_boot_word a.0) bytes 8) (after_boot bytes a.0) e a.2) [
            | inl bad ↦ boot_err bytes a.0 e fits head bad
            | inr b ↦
                let boots = word_ok (is_boot_word a.0) a.0 bytes 8 b.0 (boot_rom a.0) fits b.1 in
                elim (bind_err (cells_at a.0 bytes 12 a.0) (after_cells bytes a.0 b.0) e b.2) [
                  | inl bad ↦ stops_err bytes a.0 b.0 e fits head boots (cells_err a.0 bytes 12 a.0 e fits boots.whole bad)
                  | inr d ↦
                      let f = fronts bytes a.0 b.0 d.0 head boots (cells_ok a.0 bytes 12 a.0 d.0 fits boots.whole d.1) in
                      elim (bind_err (end_at bytes (12 + 16 * a.0)) (λ u. Ok (record { boot = b.0; cells = d.0 })) e d.2) [
                        | inl bad ↦ let more = end_err bytes (12 + 16 * a.0) e bad in
                            subst (λ (r : ImageRefused). Refuses bytes r) (sym more.1)
                            (extra_at bytes a.0 (record { boot = b.0; cells = d.0 }) f more.0)
                        | inr good ↦ ok_no_err _ _ good.2
                      ]
                ]
          ]
    ]
