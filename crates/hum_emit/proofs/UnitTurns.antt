-- The units of a program, from the last to the first.
use Rattle.std.proofs.Common.{◌≡◌, refl, sym, ap, ◌∙◌, arith, subst, ℕ, ◌+◌, ◌-◌, ◌<◌, ◌^◌, List, [], ◌∷◌, ◌++◌, length, take, reverse, get_or}
use Rattle.std.specs.Prelude.{slice_index_or}
use Rattle.std.proofs.lemmas.List.{take_all, reverse-append, get_or_default, length-take-le}
use Rattle.hum_core.specs.declared.tested.TestUnit.{TestUnit}
use Rattle.hum_code.specs.Layout.{Shape}
use Rattle.hum_emit.specs.declared.instruction.Instruction.{Instruction}
use Rattle.hum_emit.specs.declared.instruction.Datum.{Datum}
use Rattle.hum_emit.specs.Emitted.{Emitted}
use Rattle.hum_emit.specs.Emitting.{front_units}
use Rattle.hum_emit.specs.Compiled.{compiled, compiled_module}
use Rattle.hum_emit.specs.Made.{Made}
use Rattle.hum_emit.specs.Module.{module_from}
use Rattle.hum_emit.specs.Shapes.{outermost_shape, shapes_of, ShapesFit}
use Rattle.hum_emit.specs.Templates.{unit_code, units_code}
use Rattle.hum_emit.proofs.FairStart.{emission_made}
use Rattle.hum_emit.proofs.ShapePlaces.{as_many}
use Rattle.hum_emit.proofs.Turns.{front_more}

-- a unit's code in front, and the number of its first instruction
abbrev with_unit : TestUnit → Shape → Emitted × List ℕ → Emitted × List ℕ
with_unit u shape p = let made = unit_code u shape 0 p.0 in (made.0, made.1 ∷ p.1)

front_last : (us : List TestUnit) (shapes : List Shape) (u : TestUnit) (shape : Shape) (p : Emitted × List ℕ) → length shapes ≡ length us
    → front_units (us ++ u ∷ []) (shapes ++ shape ∷ []) p ≡ front_units us shapes (with_unit u shape p)
front_last [] [] u shape p h = refl
front_last [] (sh ∷ shapes) u shape p h = absurd (omega (arith, h))
front_last (v ∷ us) [] u shape p h = absurd (omega (arith, h))
front_last (v ∷ us) (sh ∷ shapes) u shape p h = ap (with_unit v sh) (front_last us shapes u shape p (omega (arith, h)))

front_all : (us : List TestUnit) (shapes : List Shape) (s : Emitted) → front_units us shapes (s, []) ≡ units_code us shapes s
front_all [] shapes s = refl
front_all (u ∷ us) [] s = refl
front_all (u ∷ us) (sh ∷ shapes) s = ap (with_unit u sh) (front_all us shapes s)

pub many_shapes : (us : List TestUnit) → length (shapes_of us) ≡ length us
many_shapes us = as_many us (outermost_shape ∷ [])

pub units_begin : (us : List TestUnit) (s : Emitted) (entries : List ℕ) → entries ≡ []
    → front_units (take (length us - 0) us) (take (length us - 0) (shapes_of us)) (s, reverse entries) ≡ units_code us (shapes_of us) s
units_begin us s entries none =
    let many = many_shapes us in
    ap (λ es. front_units (take (length us - 0) us) (take (length us - 0) (shapes_of us)) (s, reverse es)) none
    ∙ (λ i. front_units (take_all (length us - 0) us (omega arith) i) (take_all (length us - 0) (shapes_of us) (omega (arith, many)) i) (s, []))
    ∙ front_all us (shapes_of us) s

pub units_turn : (us : List TestUnit) (i : ℕ) (u : TestUnit) (shape : Shape) (s : Emitted) (entries entries' : List ℕ) (p : Emitted × ℕ) (whole : Emitted × List ℕ)
    → i < length us → u ≡ get_or us (length us - 1 - i) u → shape ≡ slice_index_or (shapes_of us) (length us - 1 - i) []
    → p ≡ unit_code u shape 0 s → entries' ≡ entries ++ p.1 ∷ []
    → front_units (take (length us - i) us) (take (length us - i) (shapes_of us)) (s, reverse entries) ≡ whole
    → front_units (take (length us - (i + 1)) us) (take (length us - (i + 1)) (shapes_of us)) (p.0, reverse entries') ≡ whole
units_turn us i u shape s entries entries' p whole h is shaped made more so =
    let shapes = shapes_of us in
    let j = length us - (i + 1) in
    let many = many_shapes us in
    let here : shape ≡ get_or shapes (length us - 1 - i) shape
    = shaped ∙ get_or_default shapes (length us - 1 - i) [] shape (omega (arith, many, h)) in
    let split = front_more us (length us) i u h (omega arith) is in
    let split_shapes = front_more shapes (length us) i shape h (omega (arith, many)) here in
    let same : length (take j shapes) ≡ length (take j us)
    = (let a = length-take-le j shapes (omega (arith, many)) in let b = length-take-le j us (omega arith) in omega (arith, a, b)) in
    let back : reverse entries' ≡ p.1 ∷ reverse entries = ap reverse more ∙ reverse-append entries (p.1 ∷ []) in
    let after : (p.0, reverse entries') ≡ with_unit u shape (s, reverse entries) = (λ k. (p.0, back k)) ∙ (λ k. ((made k).0, (made k).1 ∷ reverse entries)) in
    ap (front_units (take j us) (take j shapes)) after
    ∙ sym (front_last (take j us) (take j shapes) u shape (s, reverse entries) same)
    ∙ sym (λ k. front_units (split k) (split_shapes k) (s, reverse entries))
    ∙ so

pub made_of : (units us : List TestUnit) (code : List Instruction) (cells : List Datum) (entries : List ℕ) → us ≡ units → ShapesFit units (shapes_of units)
    → code ≡ (compiled us).0.code → cells ≡ (compiled us).0.cells → entries ≡ (compiled us).1 → length code < 2 ^ 32 → length cells < 2 ^ 32
    → Made code cells entries
made_of units us code cells entries same fits code_is cells_is entries_is few_code few_cells =
    let x : code ≡ (compiled units).0.code = code_is ∙ ap (λ vs. (compiled vs).0.code) same in
    let y : cells ≡ (compiled units).0.cells = cells_is ∙ ap (λ vs. (compiled vs).0.cells) same in
    let z : entries ≡ (compiled units).1 = entries_is ∙ ap (λ vs. (compiled vs).1) same in
    subst (λ c. Made c cells entries) (sym x)
    (subst (λ d. Made (compiled units).0.code d entries) (sym y)
    (subst (λ es. Made (compiled units).0.code (compiled units).0.cells es) (sym z)
    (emission_made units (shapes_of units) fits (subst (λ c. length c < 2 ^ 32) x few_code) (subst (λ d. length d < 2 ^ 32) y few_cells))))

-- the module of what is that
pub module_is : (units us : List TestUnit) (code : List Instruction) (cells : List Datum) (entries : List ℕ) → us ≡ units
    → code ≡ (compiled us).0.code → cells ≡ (compiled us).0.cells → entries ≡ (compiled us).1 → module_from code cells entries ≡ compiled_module units
module_is units us code cells entries same code_is cells_is entries_is =
    let x : code ≡ (compiled units).0.code = code_is ∙ ap (λ vs. (compiled vs).0.code) same in
    let y : cells ≡ (compiled units).0.cells = cells_is ∙ ap (λ vs. (compiled vs).0.cells) same in
    let z : entries ≡ (compiled units).1 = entries_is ∙ ap (λ vs. (compiled vs).1) same in
    λ i. module_from (x i) (y i) (z i)
