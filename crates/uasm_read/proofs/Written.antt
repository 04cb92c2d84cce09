-- A module's text assembles to the module.
use Rattle.std.proofs.Common.{◌≡◌, ℕ, ◌≤◌, Bool, true, false, List, [], ◌∷◌, ◌++◌, length, map, Some, None, refl, sym, ap, ◌∙◌, append_assoc, arith}
use Rattle.std.specs.Prelude.{◌&&◌, ◌||◌, nat_lt, codes, Ok}
use Rattle.std.specs.List.{list_all, flat_map}
use Rattle.std.specs.Str.{bytes_eq}
use Rattle.std.proofs.lemmas.Bool.{and_parts, and_from}
use Rattle.std.proofs.lemmas.Bool.Decides.{nat_tests}
use Rattle.std.proofs.lemmas.List.Folds.{list_all-append}
use Rattle.std.proofs.lemmas.List.Splits.{slice_split_at}
use Rattle.std.proofs.lemmas.Grind.{flat_map-append}
use Rattle.std.proofs.lemmas.Slice.Eq.{bytes_eq-Decides}
use Rattle.uasm_read.specs.declared.operand.Operand.{Operand}
use Rattle.uasm_read.specs.declared.item.Item.{Item}
use Rattle.uasm_read.specs.declared.line.Line.{Line}
use Rattle.uasm_read.specs.declared.line.Line.TheVariants.{Blank, Import, Export, Label, Instruction, Next, Cell}
use Rattle.uasm_read.specs.Texts.{Bytes, Name, is_line_feed, lines_of, is_name, has_name}
use Rattle.uasm_read.specs.Modules.{ModuleParts, is_word, is_cell, are_items, labels_in, is_module}
use Rattle.uasm_read.specs.Lines.{line_of}
use Rattle.uasm_read.specs.Assembles.{assembled_lines, assembled}
use Rattle.uasm_read.specs.Writes.{line_text, cell_lines, item_lines, module_lines, ended, written}
use Rattle.uasm_read.proofs.Parts.{lines_more}
use Rattle.uasm_read.proofs.WrittenItems.{Seen, goes, names, ends, plain, seen, false_true}
use Rattle.uasm_read.proofs.WrittenModules.{lines_behind, all_lines}
use Rattle.uasm_read.proofs.WrittenNames.{Kept, kept, lines_again}
use Rattle.uasm_read.proofs.WrittenParts.{line_no_feeds, line_no_returns}
use Rattle.uasm_read.proofs.WrittenLines.{is_told, text_bytes, line_again}

-- ---- each line is one that is read again

all_and : (ls more : List Line) → list_all is_told ls ≡ true → list_all is_told more ≡ true → list_all is_told (ls ++ more) ≡ true
all_and ls more h k = list_all-append is_told ls more ∙ and_from (list_all is_told ls) _ h k

forms_told : (form : Name → Line) (list : List Name) → ((name : Name) → is_told (form name) ≡ is_name name) → list_all is_name list ≡ true → list_all is_told (map form list) ≡ true
forms_told form [] same h = refl
forms_told form (name ∷ list) same h = let parts = and_parts (is_name name) _ h in and_from (is_told (form name)) _ (same name ∙ parts.0) (forms_told form list same parts.1)

seen_told : (cell : List Operand) (after : List Item) (lines : List Line) → Seen cell after lines → list_all is_told lines ≡ true
seen_told cell _ lines (goes o y after on fit begins) = and_from (is_told (Instruction o y)) _ fit refl
seen_told cell _ lines (names o y name after fit named) = and_from (is_told (Instruction o y)) _ fit (and_from (is_told (Next (Some name))) _ named refl)
seen_told cell _ lines (ends o y after stops fit) = and_from (is_told (Instruction o y)) _ fit refl
seen_told cell _ lines (plain t x y z after ht hx hy hz) =
    and_from (is_told (Cell t x y z)) _ (and_from (is_word t && is_word x && is_word y) _ (and_from (is_word t && is_word x) _ (and_from (is_word t) _ ht hx) hy) hz) refl

items_told : (items : List Item) → are_items items ≡ true → list_all is_name (labels_in items) ≡ true → list_all is_told (flat_map item_lines items) ≡ true
items_told [] h n = refl
items_told (item ∷ items) h n =
    let parts = and_parts (is_cell item.cell items) _ h in
    let named = and_parts (list_all is_name item.labels) _ (sym (list_all-append is_name item.labels (labels_in items)) ∙ n) in
    all_and (map Label item.labels ++ cell_lines item.cell) _
    (all_and (map Label item.labels) _ (forms_told Label item.labels (λ name. refl) named.0) (seen_told item.cell items (cell_lines item.cell) (seen item.cell items parts.0)))
    (items_told items parts.1 named.1)

-- a name among names has their form
name_among : (list : List Name) (name : Name) → list_all is_name list ≡ true → has_name list name ≡ true → is_name name ≡ true
name_among [] name h k = false_true k
name_among (other ∷ list) name h k = let parts = and_parts (is_name other) _ h in by_case (bytes_eq name other) refl k (name_among list name parts.1) parts.0
  where
    by_case : (v : Bool) → bytes_eq name other ≡ v → (v || has_name list name) ≡ true → (has_name list name ≡ true → is_name name ≡ true) → is_name other ≡ true → is_name name ≡ true
    by_case true e f ih is = ap is_name ((bytes_eq-Decides name other).0 e) ∙ is
    by_case false e f ih is = ih f

names_among : (list others : List Name) → list_all is_name list ≡ true → list_all (has_name list) others ≡ true → list_all is_name others ≡ true
names_among list [] h k = refl
names_among list (name ∷ others) h k = let parts = and_parts (has_name list name) _ k in and_from (is_name name) _ (name_among list name h parts.0) (names_among list others h parts.1)

module_told : (m : ModuleParts) → Kept m → list_all is_told (module_lines m) ≡ true
unfolding module_lines
module_told m k =
    all_and (map Import m.imports) _ (forms_told Import m.imports (λ name. refl) k.import_names)
    (all_and (map Export m.exports) _ (forms_told Export m.exports (λ name. refl) (names_among (labels_in m.items) m.exports k.label_names k.exports))
    (items_told m.items k.items k.label_names))

-- ---- the lines of a text

one_line : (line : Line) → is_told line ≡ true → (rest : Bytes) → lines_of (ended line ++ rest) ≡ line_text line ∷ lines_of rest
one_line line h rest =
    let bytes = text_bytes line h in
    ap lines_of (append_assoc (line_text line) (codes "\n") rest)
    ∙ lines_more (line_text line ++ 10 ∷ rest) (line_text line) rest (slice_split_at is_line_feed (line_text line) 10 rest (line_no_feeds (line_text line) bytes) refl)
    ∙ rw (line_no_returns (line_text line) bytes) refl

lines_written : (lines : List Line) → list_all is_told lines ≡ true → lines_of (flat_map ended lines) ≡ map line_text (lines ++ Blank ∷ [])
unfolding lines_of line_text
lines_written [] h = refl
lines_written (line ∷ lines) h =
    let parts = and_parts (is_told line) _ h in
    one_line line parts.0 (flat_map ended lines) ∙ ap (λ ts. line_text line ∷ ts) (lines_written lines parts.1)

lines_read : (lines : List Line) → list_all is_told lines ≡ true → map line_of (map line_text lines) ≡ lines
lines_read [] h = refl
lines_read (line ∷ lines) h =
    let parts = and_parts (is_told line) _ h in
    ap (λ l. l ∷ map line_of (map line_text lines)) (line_again line parts.0) ∙ ap (λ ls. line ∷ ls) (lines_read lines parts.1)

items_behind : (items : List Item) → flat_map item_lines items ++ Blank ∷ [] ≡ lines_behind items
items_behind [] = refl
items_behind (item ∷ items) =
    append_assoc (map Label item.labels ++ cell_lines item.cell) (flat_map item_lines items) (Blank ∷ [])
    ∙ append_assoc (map Label item.labels) (cell_lines item.cell) (flat_map item_lines items ++ Blank ∷ [])
    ∙ ap (λ ls. map Label item.labels ++ (cell_lines item.cell ++ ls)) (items_behind items)

lines_end : (m : ModuleParts) → module_lines m ++ Blank ∷ [] ≡ all_lines m
unfolding module_lines
lines_end m =
    append_assoc (map Import m.imports) _ (Blank ∷ [])
    ∙ ap (λ ls. map Import m.imports ++ ls) (append_assoc (map Export m.exports) _ (Blank ∷ []) ∙ ap (λ ls. map Export m.exports ++ ls) (items_behind m.items))

pub module_again : (m : ModuleParts) → is_module m ≡ true → assembled None (written m) ≡ Ok m
unfolding written
module_again m h =
    let told = module_told m (kept m h) in
    ap (λ ts. assembled_lines (map line_of ts)) (lines_written (module_lines m) told)
    ∙ ap assembled_lines (lines_read (module_lines m ++ Blank ∷ []) (all_and (module_lines m) (Blank ∷ []) told refl) ∙ lines_end m)
    ∙ lines_again m h

not_long : (limit n : ℕ) → n ≤ limit → nat_lt limit n ≡ false
not_long limit n h = grind (arith, nat_tests)

pub module_within : (m : ModuleParts) (limit : ℕ) → is_module m ≡ true → length (written m) ≤ limit → assembled (Some limit) (written m) ≡ Ok m
module_within m limit h short = rw (not_long limit (length (written m)) short) (module_again m h)

-- the text, piece by piece
pub text_made : (m : ModuleParts) (front middle whole : Bytes) → front ≡ flat_map ended (map Import m.imports) → middle ≡ front ++ flat_map ended (map Export m.exports)
    → whole ≡ middle ++ flat_map ended (flat_map item_lines m.items) → whole ≡ written m
unfolding written module_lines
text_made m front middle whole f s t =
    t ∙ ap (λ bs. bs ++ flat_map ended (flat_map item_lines m.items)) (s ∙ ap (λ bs. bs ++ flat_map ended (map Export m.exports)) f)
    ∙ append_assoc (flat_map ended (map Import m.imports)) (flat_map ended (map Export m.exports)) (flat_map ended (flat_map item_lines m.items))
    ∙ sym (flat_map-append ended (map Import m.imports) _ ∙ ap (λ bs. flat_map ended (map Import m.imports) ++ bs) (flat_map-append ended (map Export m.exports) (flat_map item_lines m.items)))
