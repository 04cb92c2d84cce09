-- The data of a list, item by item.
use Rattle.std.proofs.Common.{◌≡◌, refl, ap, sym, ◌∙◌, ℕ, suc, ◌+◌, ◌<◌, nat_eq, Bool, true, false, List, [], ◌∷◌, ◌++◌, length, drop, get_or, append_assoc, drop-cons, arith, if◌then◌else◌}
use Rattle.std.proofs.lemmas.List.{append-nil, length-drop}
use Rattle.std.proofs.lemmas.Bool.{eq-eqb, ne_eqb}
use Rattle.hum_code.proofs.Makings.{length_end}
use Rattle.hum_emit.specs.declared.instruction.Field.{Field}
use Rattle.hum_emit.specs.declared.instruction.Field.TheVariants.{Constant, Data}
use Rattle.hum_emit.specs.Emitted.{Emitted, nil, list_cells, list_field, text}
use Rattle.hum_emit.specs.Emitting.{with_cells, item_cell}

abbrev is_empty : List ℕ → Bool
is_empty [] = true
is_empty (p ∷ ps) = false

-- the data of a list behind those that are there
abbrev pub listed : List ℕ → Emitted → Emitted
listed ps s = with_cells (list_cells (length s.cells) ps) s

abbrev with_item : ℕ → Bool → Emitted → Emitted
with_item p is_last s = with_cells (item_cell (length s.cells) p is_last ∷ []) s

one_item : (s : Emitted) (p : ℕ) (rest : List ℕ) → listed rest (with_item p (is_empty rest) s) ≡ listed (p ∷ rest) s
one_item s p [] = ap (λ cells. record s { cells = cells }) (append-nil (s.cells ++ item_cell (length s.cells) p true ∷ []))
one_item s p (q ∷ more) =
    let x = item_cell (length s.cells) p false in
    ap (λ cells. record s { cells = cells })
    (ap (λ n. (s.cells ++ x ∷ []) ++ list_cells n (q ∷ more)) (length_end s.cells x) ∙ append_assoc s.cells (x ∷ []) (list_cells (suc (length s.cells)) (q ∷ more)))

last_test : (ps : List ℕ) (i : ℕ) (rest : List ℕ) → i < length ps → drop (suc i) ps ≡ rest → nat_eq (i + 1) (length ps) ≡ is_empty rest
last_test ps i [] h is =
    let none : length (drop (suc i) ps) ≡ 0 = ap length is in
    let some = length-drop (suc i) ps in
    eq-eqb (i + 1) (length ps) (omega (arith, none, some, h))
last_test ps i (q ∷ more) h is =
    let more_is : length (drop (suc i) ps) ≡ suc (length more) = ap length is in
    let some = length-drop (suc i) ps in
    ne_eqb (i + 1) (length ps) (λ same. omega (arith, more_is, some, h, same))

-- one turn of a loop over the items of a list
pub item_turn : (s t : Emitted) (ps : List ℕ) (i p : ℕ) → p ≡ get_or ps i p → i < length ps
    → t ≡ with_item p (nat_eq (i + 1) (length ps)) s → listed (drop (i + 1) ps) t ≡ listed (drop i ps) s
item_turn s t ps i p is h made =
    let rest = drop (suc i) ps in
    let next : i + 1 ≡ suc i = omega arith in
    ap (λ n. listed (drop n ps) t) next
    ∙ ap (listed rest) (made ∙ ap (λ b. with_item p b s) (last_test ps i rest h refl))
    ∙ one_item s p rest
    ∙ ap (λ qs. listed qs s) (ap (λ q. q ∷ rest) is ∙ sym (drop-cons ps i p h))

pub all_listed : (s : Emitted) (ps : List ℕ) (i : ℕ) → drop i ps ≡ [] → listed (drop i ps) s ≡ s
all_listed s ps i h = ap (λ qs. listed qs s) h ∙ ap (λ cells. record s { cells = cells }) (append-nil s.cells)

-- the word of a list is that of its first item
pub word_is : (at : ℕ) (ps : List ℕ) (t : Bool) (f : Field) → t ≡ nat_eq (length ps) 0 → f ≡ (if t then Constant nil else Data at) → f ≡ list_field at ps
word_is at [] t f is h = h ∙ ap (λ (b : Bool). if b then Constant nil else Data at) is
word_is at (p ∷ ps) t f is h =
    let some : length (p ∷ ps) ≡ 0 → ⊥ = λ same. omega (arith, same) in
    h ∙ ap (λ (b : Bool). if b then Constant nil else Data at) (is ∙ ne_eqb (length (p ∷ ps)) 0 some)

pub text_done : (s u : Emitted) (ps : List ℕ) (at : ℕ) (f : Field) (t : Bool) → u ≡ listed ps s → at ≡ length s.cells → t ≡ nat_eq (length ps) 0
    → f ≡ (if t then Constant nil else Data at) → (u, f) ≡ text ps s
text_done s u ps at f t made is empty word =
    let field : f ≡ list_field (length s.cells) ps = word_is at ps t f empty word ∙ ap (λ n. list_field n ps) is in
    λ i. (made i, field i)
