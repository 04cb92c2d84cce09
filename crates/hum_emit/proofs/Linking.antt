-- What links: the module of an emission is refused only where it is large.
use Rattle.std.proofs.Common.{◌≡◌, refl, sym, ap, ◌∙◌, arith, ℕ, suc, ◌+◌, ◌≤◌, true, false, List, [], ◌∷◌, length, reverse, Some, None}
use Rattle.std.specs.Prelude.{nat_lt, if◌then◌else◌, Bool}
use Rattle.std.proofs.lemmas.List.{length-append, length-reverse}
use Rattle.std.proofs.lemmas.Bool.{ltb-false, le-ltb}
use Rattle.cap_words.specs.Words.{W}
use Rattle.cap_words.specs.declared.word.Quad.{Quad}
use Rattle.uasm_read.specs.Links.LinkFault.{Large}
use Rattle.uasm_read.specs.Links.{link_fault, fault_where, item_limit, count_of_items, exports_of_all, imports_of_all, first_twice, Linked}
use Rattle.hum_emit.specs.declared.instruction.Instruction.{Instruction}
use Rattle.hum_emit.specs.declared.instruction.Datum.{Datum}
use Rattle.hum_emit.specs.Emitted.{Emitted}
use Rattle.hum_emit.specs.Module.{begins, rest_if, code_items, datum_items, module_of}

code_count : (size : ℕ) (xs : List Instruction) (k : ℕ) (entries : List ℕ) → length (code_items size xs k entries) ≡ length xs
code_count size [] k entries = refl
code_count size (x ∷ xs) k entries =
    ap suc (code_count size xs (if begins entries (length xs) then suc k else k) (rest_if (begins entries (length xs)) entries))

data_count : (j : ℕ) (ds : List Datum) → length (datum_items j ds) ≡ length ds
data_count j [] = refl
data_count j (d ∷ ds) = ap suc (data_count (suc j) ds)

pub item_count : (e : Emitted) (entries : List ℕ) → length (module_of e entries).items ≡ length e.code + length e.cells
item_count e entries =
    let code = code_items (length e.code) (reverse e.code) 0 entries in
    length-append code (datum_items 0 e.cells)
    ∙ ap (λ n. n + length (datum_items 0 e.cells)) (code_count (length e.code) (reverse e.code) 0 entries ∙ length-reverse e.code)
    ∙ ap (λ n. length e.code + n) (data_count 0 e.cells)

pub fault_is : (e : Emitted) (entries : List ℕ)
    → link_fault (module_of e entries ∷ []) ≡ fault_where (nat_lt item_limit (length e.code + length e.cells)) Large
unfolding link_fault count_of_items exports_of_all imports_of_all first_twice
fault_is e entries =
    let n : length (module_of e entries).items + 0 ≡ length e.code + length e.cells = (let z = item_count e entries in omega (arith, z)) in
    ap (λ n. fault_where (nat_lt item_limit n) Large) n

not_large : (b : Bool) → fault_where b Large ≡ None → b ≡ false
not_large true h = absurd (let e : Some Large ≡ None = h in cc)
not_large false h = refl

pub few_link : (e : Emitted) (entries : List ℕ) (boot : W) (rom : List Quad) → Linked (module_of e entries ∷ []) boot rom
    → length e.code + length e.cells ≤ 1048560
few_link e entries boot rom linked =
    ltb-false item_limit (length e.code + length e.cells) (not_large _ (sym (fault_is e entries) ∙ linked.sound))

pub links : (e : Emitted) (entries : List ℕ) → length e.code + length e.cells ≤ 1048560 → link_fault (module_of e entries ∷ []) ≡ None
links e entries few =
    fault_is e entries ∙ ap (λ b. fault_where b Large) (le-ltb item_limit (length e.code + length e.cells) few)
