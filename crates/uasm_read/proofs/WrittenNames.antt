-- The names of the lines that a module is written as.
use Rattle.std.proofs.Common.{◌≡◌, Bool, true, false, List, [], ◌∷◌, ◌++◌, map, Option, Some, None, refl, sym, ap, ◌∙◌, subst, append-nil}
use Rattle.std.specs.Prelude.{◌&&◌, ◌||◌, not, Ok}
use Rattle.std.specs.List.{list_all, list_any, flat_map}
use Rattle.std.specs.Str.{bytes_eq}
use Rattle.std.proofs.lemmas.Bool.{and_parts, and_from}
use Rattle.std.proofs.lemmas.List.Folds.{list_any-append}
use Rattle.std.proofs.lemmas.Cmp.{nat_list_eq_equiv}
use Rattle.uasm_read.specs.declared.error.UasmCause.TheVariants as cause
use Rattle.uasm_read.specs.declared.operand.Operand.{Operand}
use Rattle.uasm_read.specs.declared.operation.Operation.{Operation}
use Rattle.uasm_read.specs.declared.item.Item.{Item}
use Rattle.uasm_read.specs.declared.line.Line.{Line}
use Rattle.uasm_read.specs.declared.line.Line.TheVariants.{Blank, Import, Export, Label, Instruction, Next, Cell, Bad}
use Rattle.uasm_read.specs.Texts.{Name, is_name, has_name}
use Rattle.uasm_read.specs.Modules.{ModuleParts, names_in, is_cell, are_items, labels_in, used_in, are_different, are_apart, is_module}
use Rattle.uasm_read.specs.Faults.{label_of, import_of, export_of, defined_by, labels_of, imports_of, exports_of, defined_in, used_by, first, may_be_item, follows_after, follows_instruction, line_fault, name_unknown, falls_off, refusal}
use Rattle.uasm_read.specs.Assembles.{module_of, assembled_lines}
use Rattle.uasm_read.specs.Writes.{cell_lines}
use Rattle.uasm_read.proofs.Sound.{both, parted, neither, not_either, all_alike}
use Rattle.uasm_read.proofs.WrittenItems.{Seen, goes, names, ends, plain, seen, false_true, is_false}
use Rattle.uasm_read.proofs.WrittenModules.{lines_behind, all_lines, passed, none_left, does_not, all_stay, all_items}

-- ---- the names that lines define

singles : (f : Line → List Name) (form : Name → Line) → ((name : Name) → f (form name) ≡ name ∷ []) → (list : List Name) (lines : List Line) → flat_map f (map form list ++ lines) ≡ list ++ flat_map f lines
singles f form is [] lines = refl
singles f form is (name ∷ list) lines = ap (λ ns. ns ++ flat_map f (map form list ++ lines)) (is name) ∙ ap (λ ns. name ∷ ns) (singles f form is list lines)

nothing : (f : Line → List Name) (form : Name → Line) → ((name : Name) → f (form name) ≡ []) → (list : List Name) (lines : List Line) → flat_map f (map form list ++ lines) ≡ flat_map f lines
nothing f form is [] lines = refl
nothing f form is (name ∷ list) lines = ap (λ ns. ns ++ flat_map f (map form list ++ lines)) (is name) ∙ nothing f form is list lines

-- the names that items' own lines do not have
record Skips (f : Line → List Name) : Type 0 where
  blank : f Blank ≡ []
  instruction : (o : Operation) (y : Operand) → f (Instruction o y) ≡ []
  next : (name : Option Name) → f (Next name) ≡ []
  cell : (t x y z : Operand) → f (Cell t x y z) ≡ []

skipped : (f : Line → List Name) → Skips f → (cell : List Operand) (after : List Item) (lines : List Line) → Seen cell after lines → (more : List Line) → flat_map f (lines ++ more) ≡ flat_map f more
skipped f s cell _ lines (goes o y after on fit begins) more = ap (λ ns. ns ++ flat_map f more) (s.instruction o y)
skipped f s cell _ lines (names o y name after fit named) more = ap (λ ns. ns ++ flat_map f (Next (Some name) ∷ more)) (s.instruction o y) ∙ ap (λ ns. ns ++ flat_map f more) (s.next (Some name))
skipped f s cell _ lines (ends o y after stops fit) more = ap (λ ns. ns ++ flat_map f more) (s.instruction o y)
skipped f s cell _ lines (plain t x y z after ht hx hy hz) more = ap (λ ns. ns ++ flat_map f more) (s.cell t x y z)

labels_again : (f : Line → List Name) → Skips f → ((name : Name) → f (Label name) ≡ name ∷ []) → (items : List Item) → are_items items ≡ true → flat_map f (lines_behind items) ≡ labels_in items
labels_again f s is [] h = ap (λ ns. ns ++ []) s.blank
labels_again f s is (item ∷ items) h =
    let parts = and_parts (is_cell item.cell items) _ h in
    singles f Label is item.labels _
    ∙ ap (λ ns. item.labels ++ ns) (skipped f s item.cell items (cell_lines item.cell) (seen item.cell items parts.0) (lines_behind items) ∙ labels_again f s is items parts.1)

nothing_again : (f : Line → List Name) → Skips f → ((name : Name) → f (Label name) ≡ []) → (items : List Item) → are_items items ≡ true → flat_map f (lines_behind items) ≡ []
nothing_again f s is [] h = ap (λ ns. ns ++ []) s.blank
nothing_again f s is (item ∷ items) h =
    let parts = and_parts (is_cell item.cell items) _ h in
    nothing f Label is item.labels _
    ∙ skipped f s item.cell items (cell_lines item.cell) (seen item.cell items parts.0) (lines_behind items) ∙ nothing_again f s is items parts.1

all_labels : (m : ModuleParts) → are_items m.items ≡ true → labels_of (all_lines m) ≡ labels_in m.items
unfolding labels_of
all_labels m h =
    nothing label_of Import (λ name. refl) m.imports _ ∙ nothing label_of Export (λ name. refl) m.exports _
    ∙ labels_again label_of (record { blank = refl; instruction = λ o y. refl; next = λ name. refl; cell = λ t x y z. refl }) (λ name. refl) m.items h

all_imports : (m : ModuleParts) → are_items m.items ≡ true → imports_of (all_lines m) ≡ m.imports
unfolding imports_of
all_imports m h =
    singles import_of Import (λ name. refl) m.imports _
    ∙ ap (λ ns. m.imports ++ ns) (nothing import_of Export (λ name. refl) m.exports _
    ∙ nothing_again import_of (record { blank = refl; instruction = λ o y. refl; next = λ name. refl; cell = λ t x y z. refl }) (λ name. refl) m.items h)
    ∙ append-nil m.imports

all_exports : (m : ModuleParts) → are_items m.items ≡ true → exports_of (all_lines m) ≡ m.exports
unfolding exports_of
all_exports m h =
    nothing export_of Import (λ name. refl) m.imports _ ∙ singles export_of Export (λ name. refl) m.exports _
    ∙ ap (λ ns. m.exports ++ ns) (nothing_again export_of (record { blank = refl; instruction = λ o y. refl; next = λ name. refl; cell = λ t x y z. refl }) (λ name. refl) m.items h)
    ∙ append-nil m.exports

all_defined : (m : ModuleParts) → are_items m.items ≡ true → defined_in (all_lines m) ≡ m.imports ++ labels_in m.items
unfolding defined_in
all_defined m h =
    singles defined_by Import (λ name. refl) m.imports _
    ∙ ap (λ ns. m.imports ++ ns) (nothing defined_by Export (λ name. refl) m.exports _
    ∙ labels_again defined_by (record { blank = refl; instruction = λ o y. refl; next = λ name. refl; cell = λ t x y z. refl }) (λ name. refl) m.items h)

-- ---- the names that lines use

used_seen : (p : Name → Bool) (cell : List Operand) (after : List Item) (lines : List Line) → Seen cell after lines → (more : List Line)
    → list_all p (flat_map names_in cell) ≡ true → list_all p (flat_map used_by more) ≡ true → list_all p (flat_map used_by (lines ++ more)) ≡ true
used_seen p cell _ lines (goes o y after on fit begins) more h k = both p (names_in y) _ (parted p (names_in y) [] h).0 k
used_seen p cell _ lines (names o y name after fit named) more h k =
    let parts = parted p (names_in y) (name ∷ []) h in both p (names_in y) _ parts.0 (both p (name ∷ []) (flat_map used_by more) parts.1 k)
used_seen p cell _ lines (ends o y after stops fit) more h k = both p (names_in y) _ (parted p (names_in y) [] h).0 k
used_seen p cell _ lines (plain t x y z after ht hx hy hz) more h k =
    both p (names_in t ++ (names_in x ++ (names_in y ++ names_in z))) (flat_map used_by more)
    (subst (λ ns. list_all p (names_in t ++ (names_in x ++ (names_in y ++ ns))) ≡ true) (append-nil (names_in z)) h) k

used_labels : (p : Name → Bool) (labels : List Name) (lines : List Line) → list_all p (flat_map used_by lines) ≡ true → list_all p (flat_map used_by (map Label labels ++ lines)) ≡ true
used_labels p labels lines h = subst (λ ns. list_all p ns ≡ true) (sym (nothing used_by Label (λ name. refl) labels lines)) h

used_again : (p : Name → Bool) (items : List Item) → are_items items ≡ true → list_all p (used_in items) ≡ true → list_all p (flat_map used_by (lines_behind items)) ≡ true
used_again p [] h k = refl
used_again p (item ∷ items) h k =
    let parts = and_parts (is_cell item.cell items) _ h in
    let known = parted p (flat_map names_in item.cell) (used_in items) k in
    used_labels p item.labels _ (used_seen p item.cell items (cell_lines item.cell) (seen item.cell items parts.0) (lines_behind items) known.0 (used_again p items parts.1 known.1))

all_used : (p : Name → Bool) (m : ModuleParts) → are_items m.items ≡ true → list_all p (used_in m.items) ≡ true → list_all p (flat_map used_by (all_lines m)) ≡ true
all_used p m h k =
    subst (λ ns. list_all p ns ≡ true) (sym (nothing used_by Import (λ name. refl) m.imports _ ∙ nothing used_by Export (λ name. refl) m.exports _)) (used_again p m.items h k)

-- where each name is known, no line is refused for one
known : (all before lines : List Line) → list_all (has_name (labels_of all)) (exports_of lines) ≡ true → list_all (has_name (defined_in all)) (flat_map used_by lines) ≡ true
    → first (name_unknown all) before lines ≡ None
unfolding exports_of
known all before [] h k = none_left (name_unknown all) before
known all before (Blank ∷ lines) h k = passed (name_unknown all) before Blank lines refl (known all (Blank ∷ before) lines h k)
known all before (Import name ∷ lines) h k = passed (name_unknown all) before (Import name) lines refl (known all (Import name ∷ before) lines h k)
known all before (Export name ∷ lines) h k =
    let parts = and_parts (has_name (labels_of all) name) _ h in
    passed (name_unknown all) before (Export name) lines (does_not _ cause.Unknown (rw parts.0 refl)) (known all (Export name ∷ before) lines parts.1 k)
known all before (Label name ∷ lines) h k = passed (name_unknown all) before (Label name) lines refl (known all (Label name ∷ before) lines h k)
known all before (Instruction o y ∷ lines) h k =
    let parts = parted (has_name (defined_in all)) (names_in y) _ k in
    passed (name_unknown all) before (Instruction o y) lines (does_not _ cause.Unknown (rw parts.0 refl)) (known all (Instruction o y ∷ before) lines h parts.1)
known all before (Next name ∷ lines) h k =
    let parts = parted (has_name (defined_in all)) (used_by (Next name)) _ k in
    passed (name_unknown all) before (Next name) lines (does_not _ cause.Unknown (rw parts.0 refl)) (known all (Next name ∷ before) lines h parts.1)
known all before (Cell t x y z ∷ lines) h k =
    let parts = parted (has_name (defined_in all)) (used_by (Cell t x y z)) _ k in
    passed (name_unknown all) before (Cell t x y z) lines (does_not _ cause.Unknown (rw parts.0 refl)) (known all (Cell t x y z ∷ before) lines h parts.1)
known all before (Bad why ∷ lines) h k = passed (name_unknown all) before (Bad why) lines refl (known all (Bad why ∷ before) lines h k)

-- ---- lines by themselves

-- no line is bad, a `ref` follows an instruction, and an item each label
abbrev stand : Bool → List Line → Bool
stand follows [] = true
stand follows (Bad why ∷ lines) = false
stand follows (Next None ∷ lines) = false
stand follows (Next (Some name) ∷ lines) = follows && stand false lines
stand follows (Label name ∷ lines) = list_any may_be_item lines && stand false lines
stand follows (line ∷ lines) = stand (follows_after line follows) lines

stand_seen : (cell : List Operand) (after : List Item) (lines : List Line) → Seen cell after lines → (more : List Line) → ((b : Bool) → stand b more ≡ true) → (b : Bool) → stand b (lines ++ more) ≡ true
stand_seen cell _ lines (goes o y after on fit begins) more h b = h true
stand_seen cell _ lines (names o y name after fit named) more h b = h false
stand_seen cell _ lines (ends o y after stops fit) more h b = h true
stand_seen cell _ lines (plain t x y z after ht hx hy hz) more h b = h false

item_seen : (cell : List Operand) (after : List Item) (lines : List Line) → Seen cell after lines → (more : List Line) → list_any may_be_item (lines ++ more) ≡ true
item_seen cell _ lines (goes o y after on fit begins) more = refl
item_seen cell _ lines (names o y name after fit named) more = refl
item_seen cell _ lines (ends o y after stops fit) more = refl
item_seen cell _ lines (plain t x y z after ht hx hy hz) more = refl

item_labels : (labels : List Name) (lines : List Line) → list_any may_be_item lines ≡ true → list_any may_be_item (map Label labels ++ lines) ≡ true
item_labels [] lines h = h
item_labels (label ∷ labels) lines h = item_labels labels lines h

stand_labels : (labels : List Name) (lines : List Line) → list_any may_be_item lines ≡ true → ((b : Bool) → stand b lines ≡ true) → (b : Bool) → stand b (map Label labels ++ lines) ≡ true
stand_labels [] lines i h b = h b
stand_labels (label ∷ labels) lines i h b = and_from (list_any may_be_item (map Label labels ++ lines)) _ (item_labels labels lines i) (stand_labels labels lines i h false)

stand_items : (items : List Item) → are_items items ≡ true → (b : Bool) → stand b (lines_behind items) ≡ true
stand_items [] h b = refl
stand_items (item ∷ items) h b =
    let parts = and_parts (is_cell item.cell items) _ h in
    let s = seen item.cell items parts.0 in
    stand_labels item.labels _ (item_seen item.cell items (cell_lines item.cell) s (lines_behind items))
    (stand_seen item.cell items (cell_lines item.cell) s (lines_behind items) (stand_items items parts.1)) b

stand_imports : (list : List Name) (lines : List Line) → ((b : Bool) → stand b lines ≡ true) → (b : Bool) → stand b (map Import list ++ lines) ≡ true
stand_imports [] lines h b = h b
stand_imports (name ∷ list) lines h b = stand_imports list lines h false

stand_exports : (list : List Name) (lines : List Line) → ((b : Bool) → stand b lines ≡ true) → (b : Bool) → stand b (map Export list ++ lines) ≡ true
stand_exports [] lines h b = h b
stand_exports (name ∷ list) lines h b = stand_exports list lines h false

all_stand : (m : ModuleParts) → are_items m.items ≡ true → (b : Bool) → stand b (all_lines m) ≡ true
all_stand m h = stand_imports m.imports _ (stand_exports m.exports _ (stand_items m.items h))

-- ---- names that differ

-- one more name that is not among them
apart_more : (list : List Name) (name : Name) (others : List Name) → not (has_name list name) ≡ true → are_apart list others ≡ true → are_apart list (name ∷ others) ≡ true
apart_more [] name others h k = refl
apart_more (other ∷ list) name others h k =
    let here = neither (bytes_eq name other) (has_name list name) h in
    let parts = and_parts (not (has_name others other)) _ k in
    and_from (not (bytes_eq other name || has_name others other)) _
    (not_either (bytes_eq other name) (has_name others other) (sym (nat_list_eq_equiv.symm name other) ∙ here.0) parts.0)
    (apart_more list name others here.1 parts.1)

apart_nothing : (list : List Name) → are_apart list [] ≡ true
apart_nothing [] = refl
apart_nothing (name ∷ list) = apart_nothing list

different_joined : (list others : List Name) → are_different list ≡ true → are_different others ≡ true → are_apart list others ≡ true → are_different (list ++ others) ≡ true
different_joined [] others h k a = k
different_joined (name ∷ list) others h k a =
    let here = and_parts (not (has_name list name)) _ h in
    let apart = and_parts (not (has_name others name)) _ a in
    and_from (not (has_name (list ++ others) name)) _
    (rw (list_any-append (bytes_eq name) list others) (not_either (has_name list name) (has_name others name) (is_false _ here.0) apart.0))
    (different_joined list others here.1 k apart.1)

-- lines that stand, and define no name twice, are not refused by themselves
clean : (follows : Bool) (before lines : List Line) → follows_instruction before ≡ follows → stand follows lines ≡ true
    → are_different (defined_in lines) ≡ true → are_apart (defined_in lines) (defined_in before) ≡ true → first line_fault before lines ≡ None
unfolding defined_in follows_instruction
clean follows before [] f s d a = none_left line_fault before
clean follows before (Blank ∷ lines) f s d a = passed line_fault before Blank lines refl (clean follows (Blank ∷ before) lines f s d a)
clean follows before (Import name ∷ lines) f s d a =
    let here = and_parts (not (has_name (defined_in before) name)) _ a in
    let other = and_parts (not (has_name (defined_in lines) name)) _ d in
    passed line_fault before (Import name) lines (does_not _ cause.Twice (is_false _ here.0))
    (clean false (Import name ∷ before) lines refl s other.1 (apart_more (defined_in lines) name (defined_in before) other.0 here.1))
clean follows before (Export name ∷ lines) f s d a = passed line_fault before (Export name) lines refl (clean false (Export name ∷ before) lines refl s d a)
clean follows before (Label name ∷ lines) f s d a =
    let here = and_parts (not (has_name (defined_in before) name)) _ a in
    let other = and_parts (not (has_name (defined_in lines) name)) _ d in
    let parts = and_parts (list_any may_be_item lines) _ s in
    passed line_fault before (Label name) lines (rw parts.0 (does_not _ cause.Twice (is_false _ here.0)))
    (clean false (Label name ∷ before) lines refl parts.1 other.1 (apart_more (defined_in lines) name (defined_in before) other.0 here.1))
clean follows before (Instruction o y ∷ lines) f s d a = passed line_fault before (Instruction o y) lines refl (clean true (Instruction o y ∷ before) lines refl s d a)
clean follows before (Next None ∷ lines) f s d a = false_true s
clean follows before (Next (Some name) ∷ lines) f s d a =
    let parts = and_parts follows _ s in
    passed line_fault before (Next (Some name)) lines (rw (f, parts.0) refl) (clean false (Next (Some name) ∷ before) lines refl parts.1 d a)
clean follows before (Cell t x y z ∷ lines) f s d a = passed line_fault before (Cell t x y z) lines refl (clean false (Cell t x y z ∷ before) lines refl s d a)
clean follows before (Bad why ∷ lines) f s d a = false_true s

-- ---- all together

-- the rule of a module, part by part
pub record Kept (m : ModuleParts) : Type 0 where
  pub import_names : list_all is_name m.imports ≡ true
  pub label_names : list_all is_name (labels_in m.items) ≡ true
  pub imports : are_different m.imports ≡ true
  pub labels : are_different (labels_in m.items) ≡ true
  pub apart : are_apart m.imports (labels_in m.items) ≡ true
  pub exports : list_all (has_name (labels_in m.items)) m.exports ≡ true
  pub used : list_all (has_name (labels_in m.items ++ m.imports)) (used_in m.items) ≡ true
  pub items : are_items m.items ≡ true

pub kept : (m : ModuleParts) → is_module m ≡ true → Kept m
unfolding is_module
kept m h =
    let seven = and_parts (list_all is_name m.imports && list_all is_name (labels_in m.items) && are_different m.imports && are_different (labels_in m.items) && are_apart m.imports (labels_in m.items)
    && list_all (has_name (labels_in m.items)) m.exports && list_all (has_name (labels_in m.items ++ m.imports)) (used_in m.items)) _ h in
    let six = and_parts (list_all is_name m.imports && list_all is_name (labels_in m.items) && are_different m.imports && are_different (labels_in m.items) && are_apart m.imports (labels_in m.items)
    && list_all (has_name (labels_in m.items)) m.exports) _ seven.0 in
    let five = and_parts (list_all is_name m.imports && list_all is_name (labels_in m.items) && are_different m.imports && are_different (labels_in m.items) && are_apart m.imports (labels_in m.items)) _ six.0 in
    let four = and_parts (list_all is_name m.imports && list_all is_name (labels_in m.items) && are_different m.imports && are_different (labels_in m.items)) _ five.0 in
    let three = and_parts (list_all is_name m.imports && list_all is_name (labels_in m.items) && are_different m.imports) _ four.0 in
    let two = and_parts (list_all is_name m.imports && list_all is_name (labels_in m.items)) _ three.0 in
    let one = and_parts (list_all is_name m.imports) _ two.0 in
    record { import_names = one.0; label_names = one.1; imports = two.1; labels = three.1; apart = four.1; exports = five.1; used = six.1; items = seven.1 }

or_swap : (a b : Bool) → (a || b) ≡ (b || a)
or_swap true true = refl
or_swap true false = refl
or_swap false true = refl
or_swap false false = refl

either_way : (list others : List Name) (name : Name) → has_name (list ++ others) name ≡ has_name (others ++ list) name
either_way list others name =
    list_any-append (bytes_eq name) list others ∙ or_swap (has_name list name) (has_name others name) ∙ sym (list_any-append (bytes_eq name) others list)

sound_lines : (m : ModuleParts) → Kept m → refusal (all_lines m) ≡ None
unfolding refusal defined_in follows_instruction
sound_lines m k =
    let defined = all_defined m k.items in
    let by_line : first line_fault [] (all_lines m) ≡ None =
    clean false [] (all_lines m) refl (all_stand m k.items false)
    (subst (λ ns. are_different ns ≡ true) (sym defined) (different_joined m.imports (labels_in m.items) k.imports k.labels k.apart)) (apart_nothing (defined_in (all_lines m))) in
    let by_name : first (name_unknown (all_lines m)) [] (all_lines m) ≡ None =
    known (all_lines m) [] (all_lines m)
    (subst (λ ls. list_all (has_name ls) (exports_of (all_lines m)) ≡ true) (sym (all_labels m k.items)) (subst (λ es. list_all (has_name (labels_in m.items)) es ≡ true) (sym (all_exports m k.items)) k.exports))
    (subst (λ ns. list_all (has_name ns) (flat_map used_by (all_lines m)) ≡ true) (sym defined)
    (all_used (has_name (m.imports ++ labels_in m.items)) m k.items
    (all_alike (has_name (labels_in m.items ++ m.imports)) (has_name (m.imports ++ labels_in m.items)) (either_way (labels_in m.items) m.imports) (used_in m.items) k.used))) in
    let by_next : first falls_off [] (all_lines m) ≡ None = all_stay m k.items in
    rw (by_line, by_name) by_next

-- the lines of a module assemble to it
pub lines_again : (m : ModuleParts) → is_module m ≡ true → assembled_lines (all_lines m) ≡ Ok m
unfolding module_of
lines_again m h =
    let k = kept m h in
    rw (sound_lines m k, all_imports m k.items, all_exports m k.items, all_items m k.items) refl
