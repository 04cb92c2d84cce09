-- The lines of a text that are not refused make a module.
use Rattle.std.proofs.Common.{◌≡◌, ℕ, ◌+◌, Bool, true, false, List, [], ◌∷◌, ◌++◌, length, map, Option, Some, None, refl, sym, ap, ◌∙◌, subst, append_assoc, append-nil, pos}
use Rattle.std.specs.Prelude.{◌&&◌, ◌||◌, not, if◌then◌else◌, is_some}
use Rattle.std.specs.List.{list_all, list_any, flat_map}
use Rattle.std.specs.Option.{option_or}
use Rattle.std.specs.Str.{bytes_eq}
use Rattle.std.proofs.lemmas.Bool.{and_parts, and_from}
use Rattle.std.proofs.lemmas.List.Folds.{list_any-append, list_all-append}
use Rattle.std.proofs.lemmas.Cmp.{nat_list_eq_equiv}
use Rattle.uasm_read.specs.declared.error.UasmCause.{UasmCause}
use Rattle.uasm_read.specs.declared.error.UasmCause.TheVariants as cause
use Rattle.uasm_read.specs.declared.error.UasmRefused.{UasmRefused}
use Rattle.uasm_read.specs.declared.operand.Operand.{Operand}
use Rattle.uasm_read.specs.declared.operand.Operand.TheVariants as operand
use Rattle.uasm_read.specs.declared.operation.Operation.{Operation}
use Rattle.uasm_read.specs.declared.item.Item.{Item}
use Rattle.uasm_read.specs.declared.line.Line.{Line}
use Rattle.uasm_read.specs.declared.line.Line.TheVariants.{Blank, Import, Export, Label, Instruction, Next, Cell, Bad}
use Rattle.uasm_read.specs.Texts.{Bytes, Name, is_name, has_name}
use Rattle.uasm_read.specs.Operations.{row_of, goes_on}
use Rattle.uasm_read.specs.Lines.{line_of}
use Rattle.uasm_read.specs.Faults.{labels_of, imports_of, exports_of, defined_in, used_by, refused_or, first, fault_if, may_be_item, line_fault, name_unknown, next_named, instruction_follows, falls_off, refusal}
use Rattle.uasm_read.specs.Modules.{is_word, names_in, fits, begins_with_instruction, is_cell, are_items, labels_in, used_in, are_different, are_apart, is_module}
use Rattle.uasm_read.specs.Assembles.{next_word, items_of, module_of}
use Rattle.uasm_read.proofs.Searches.{Test}
use Rattle.uasm_read.proofs.Formed.{all_in, is_formed, lines_formed}
use Rattle.uasm_read.proofs.Fits.{number_found, number_word, operand_word}

-- ---- what is not refused

or_none : {X : Type 0} (o other : Option X) → option_or o other ≡ None → (o ≡ None) × (other ≡ None)
or_none None other h = (refl, h)
or_none (Some x) other h = absurd (let e : Some x ≡ None = h in cc)

refused_or_none : (n : ℕ) (o : Option UasmCause) (later : Option UasmRefused) → refused_or n o later ≡ None → (o ≡ None) × (later ≡ None)
refused_or_none n None later h = (refl, h)
refused_or_none n (Some why) later h = absurd (let e : Some (record { line = n; cause = why }) ≡ None = h in cc)

first_none : (test : Test) (before : List Line) (line : Line) (after : List Line) → first test before (line ∷ after) ≡ None → (test before line after ≡ None) × (first test (line ∷ before) after ≡ None)
unfolding first
first_none test before line after h = refused_or_none (length before + 1) (test before line after) (first test (line ∷ before) after) h

not_refused : (b : Bool) (why : UasmCause) → fault_if b why ≡ None → b ≡ false
not_refused true why h = absurd (let e : Some why ≡ None = h in cc)
not_refused false why h = refl

not_not : (b : Bool) → not b ≡ false → b ≡ true
not_not true h = refl
not_not false h = sym h

-- ---- items

-- the first of them is an instruction where the lines go on with one
begins : (labels : List Name) (lines : List Line) → begins_with_instruction (items_of labels lines) ≡ instruction_follows lines
unfolding items_of instruction_follows
begins labels [] = refl
begins labels (Blank ∷ lines) = begins labels lines
begins labels (Import name ∷ lines) = begins labels lines
begins labels (Export name ∷ lines) = begins labels lines
begins labels (Label name ∷ lines) = begins (labels ++ name ∷ []) lines
begins labels (Instruction operation word ∷ lines) = refl
begins labels (Next name ∷ lines) = begins labels lines
begins labels (Cell t x y z ∷ lines) = refl
begins labels (Bad why ∷ lines) = begins labels lines

-- the name of a `ref` has what the names of all lines have
next_formed : (lines : List Line) → list_all is_formed lines ≡ true → all_in is_name (next_named lines) ≡ true
unfolding next_named
next_formed [] h = refl
next_formed (Blank ∷ lines) h = next_formed lines h
next_formed (Import name ∷ lines) h = refl
next_formed (Export name ∷ lines) h = refl
next_formed (Label name ∷ lines) h = refl
next_formed (Instruction operation word ∷ lines) h = refl
next_formed (Next name ∷ lines) h = (and_parts (all_in is_name name) _ h).0
next_formed (Cell t x y z ∷ lines) h = refl
next_formed (Bad why ∷ lines) h = refl

instruction_cell : (operation : Operation) (word : Operand) (next : Option Name) (after : List Item)
    → fits (row_of operation).operand word ≡ true → all_in is_name next ≡ true
    → (next ≡ None → goes_on operation ≡ true → begins_with_instruction after ≡ true)
    → is_cell (operand.Const 9 ∷ operand.Fix (pos (row_of operation).number) ∷ word ∷ next_word operation next ∷ []) after ≡ true
instruction_cell operation word (Some name) after fit named goes =
    and_from (is_word (operand.Const 9) && is_word (operand.Fix (pos (row_of operation).number)) && is_word word) _
    (and_from (is_word (operand.Const 9) && is_word (operand.Fix (pos (row_of operation).number))) _
    (and_from (is_word (operand.Const 9)) _ refl (number_word operation)) (operand_word operation word fit)) named
instruction_cell operation word None after fit named goes = by_next (goes_on operation) refl
  where
    words : is_word (operand.Const 9) && is_word (operand.Fix (pos (row_of operation).number)) && is_word word ≡ true
    words = and_from (is_word (operand.Const 9) && is_word (operand.Fix (pos (row_of operation).number))) _ (and_from (is_word (operand.Const 9)) _ refl (number_word operation)) (operand_word operation word fit)

    by_next : (b : Bool) → goes_on operation ≡ b → is_cell (operand.Const 9 ∷ operand.Fix (pos (row_of operation).number) ∷ word ∷ (if b then operand.Following else operand.Const 0) ∷ []) after ≡ true
    by_next true on = rw (number_word operation, number_found operation, on) (and_from (fits (row_of operation).operand word) _ fit (goes refl on))
    by_next false on = and_from (is_word (operand.Const 9) && is_word (operand.Fix (pos (row_of operation).number)) && is_word word) _ words refl

plain_cell : (t x y z : Operand) (after : List Item) → is_formed (Cell t x y z) ≡ true → is_cell (t ∷ x ∷ y ∷ z ∷ []) after ≡ true
plain_cell t x y (operand.Fix n) after h = h
plain_cell t x y (operand.Const k) after h = h
plain_cell t x y (operand.Label name) after h = h
plain_cell t x y operand.Following after h = absurd (let e = (and_parts (is_word t && is_word x && is_word y) _ h).1 in let f : false ≡ true = e in cc)

goes_by : (on named follows : Bool) → (on && (not named && not follows)) ≡ false → named ≡ false → on ≡ true → follows ≡ true
goes_by true false true h n o = refl
goes_by true false false h n o = absurd (let e : true ≡ false = h in cc)
goes_by true true follows h n o = absurd (let e : true ≡ false = n in cc)
goes_by false named follows h n o = absurd (let e : false ≡ true = o in cc)

items_are : (labels : List Name) (before lines : List Line) → list_all is_formed lines ≡ true → first falls_off before lines ≡ None → are_items (items_of labels lines) ≡ true
unfolding items_of
items_are labels before [] formed falls = refl
items_are labels before (Blank ∷ lines) formed falls = items_are labels (Blank ∷ before) lines formed (first_none falls_off before Blank lines falls).1
items_are labels before (Import name ∷ lines) formed falls = items_are labels (Import name ∷ before) lines (and_parts (is_formed (Import name)) _ formed).1 (first_none falls_off before (Import name) lines falls).1
items_are labels before (Export name ∷ lines) formed falls = items_are labels (Export name ∷ before) lines formed (first_none falls_off before (Export name) lines falls).1
items_are labels before (Label name ∷ lines) formed falls = items_are (labels ++ name ∷ []) (Label name ∷ before) lines (and_parts (is_formed (Label name)) _ formed).1 (first_none falls_off before (Label name) lines falls).1
items_are labels before (Instruction operation word ∷ lines) formed falls =
    let parts = and_parts (is_formed (Instruction operation word)) _ formed in
    let none = first_none falls_off before (Instruction operation word) lines falls in
    let stays : (goes_on operation && (not (is_some (next_named lines)) && not (instruction_follows lines))) ≡ false = not_refused _ cause.FallsOff none.0 in
    and_from (is_cell (operand.Const 9 ∷ operand.Fix (pos (row_of operation).number) ∷ word ∷ next_word operation (next_named lines) ∷ []) (items_of [] lines)) _
    (instruction_cell operation word (next_named lines) (items_of [] lines) parts.0 (next_formed lines parts.1)
    (λ unnamed on. begins [] lines ∙ goes_by (goes_on operation) (is_some (next_named lines)) (instruction_follows lines) stays (ap is_some unnamed) on))
    (items_are [] (Instruction operation word ∷ before) lines parts.1 none.1)
items_are labels before (Next name ∷ lines) formed falls = items_are labels (Next name ∷ before) lines (and_parts (is_formed (Next name)) _ formed).1 (first_none falls_off before (Next name) lines falls).1
items_are labels before (Cell t x y z ∷ lines) formed falls =
    let parts = and_parts (is_formed (Cell t x y z)) _ formed in
    and_from (is_cell (t ∷ x ∷ y ∷ z ∷ []) (items_of [] lines)) _ (plain_cell t x y z (items_of [] lines) parts.0)
    (items_are [] (Cell t x y z ∷ before) lines parts.1 (first_none falls_off before (Cell t x y z) lines falls).1)
items_are labels before (Bad why ∷ lines) formed falls = items_are labels (Bad why ∷ before) lines formed (first_none falls_off before (Bad why) lines falls).1

-- ---- labels

label_ends : (b : Bool) (o : Option UasmCause) → (if b then o else Some cause.BadLine) ≡ None → (b ≡ true) × (o ≡ None)
label_ends true o h = (refl, h)
label_ends false o h = absurd (let e : Some cause.BadLine ≡ None = h in cc)

-- the labels of the items are those of the lines
labels_same : (labels : List Name) (before lines : List Line) → first line_fault before lines ≡ None → (list_any may_be_item lines ≡ false → labels ≡ []) → labels_in (items_of labels lines) ≡ labels ++ labels_of lines
unfolding items_of labels_of
labels_same labels before [] none ends = rw (ends refl) refl
labels_same labels before (Blank ∷ lines) none ends = labels_same labels (Blank ∷ before) lines (first_none line_fault before Blank lines none).1 ends
labels_same labels before (Import name ∷ lines) none ends = labels_same labels (Import name ∷ before) lines (first_none line_fault before (Import name) lines none).1 ends
labels_same labels before (Export name ∷ lines) none ends = labels_same labels (Export name ∷ before) lines (first_none line_fault before (Export name) lines none).1 ends
labels_same labels before (Label name ∷ lines) none ends =
    let parts = first_none line_fault before (Label name) lines none in
    let more = label_ends (list_any may_be_item lines) _ parts.0 in
    labels_same (labels ++ name ∷ []) (Label name ∷ before) lines parts.1 (λ no. absurd (let e : true ≡ false = sym more.0 ∙ no in cc)) ∙ append_assoc labels (name ∷ []) (labels_of lines)
labels_same labels before (Instruction operation word ∷ lines) none ends =
    ap (λ rest. labels ++ rest) (labels_same [] (Instruction operation word ∷ before) lines (first_none line_fault before (Instruction operation word) lines none).1 (λ no. refl))
labels_same labels before (Next name ∷ lines) none ends = labels_same labels (Next name ∷ before) lines (first_none line_fault before (Next name) lines none).1 ends
labels_same labels before (Cell t x y z ∷ lines) none ends =
    ap (λ rest. labels ++ rest) (labels_same [] (Cell t x y z ∷ before) lines (first_none line_fault before (Cell t x y z) lines none).1 (λ no. refl))
labels_same labels before (Bad why ∷ lines) none ends = absurd (let e : Some why ≡ None = (first_none line_fault before (Bad why) lines none).0 in cc)

-- ---- names that are known

any_swap : (a b c : Bool) → (a || (b || c)) ≡ (b || (a || c))
any_swap true true c = refl
any_swap true false c = refl
any_swap false b c = refl

-- the names that lines define are their labels and their imports
defined_same : (lines : List Line) (name : Name) → has_name (defined_in lines) name ≡ has_name (labels_of lines ++ imports_of lines) name
unfolding defined_in labels_of imports_of
defined_same [] name = refl
defined_same (Blank ∷ lines) name = defined_same lines name
defined_same (Import other ∷ lines) name =
    ap (λ b. bytes_eq name other || b) (defined_same lines name ∙ list_any-append (bytes_eq name) (labels_of lines) (imports_of lines))
    ∙ any_swap (bytes_eq name other) (has_name (labels_of lines) name) (has_name (imports_of lines) name)
    ∙ sym (list_any-append (bytes_eq name) (labels_of lines) (other ∷ imports_of lines))
defined_same (Export other ∷ lines) name = defined_same lines name
defined_same (Label other ∷ lines) name = ap (λ b. bytes_eq name other || b) (defined_same lines name)
defined_same (Instruction operation word ∷ lines) name = defined_same lines name
defined_same (Next other ∷ lines) name = defined_same lines name
defined_same (Cell t x y z ∷ lines) name = defined_same lines name
defined_same (Bad why ∷ lines) name = defined_same lines name

exports_known : (all before lines : List Line) → first (name_unknown all) before lines ≡ None → list_all (has_name (labels_of all)) (exports_of lines) ≡ true
unfolding exports_of
exports_known all before [] none = refl
exports_known all before (Blank ∷ lines) none = exports_known all (Blank ∷ before) lines (first_none (name_unknown all) before Blank lines none).1
exports_known all before (Import name ∷ lines) none = exports_known all (Import name ∷ before) lines (first_none (name_unknown all) before (Import name) lines none).1
exports_known all before (Export name ∷ lines) none =
    let parts = first_none (name_unknown all) before (Export name) lines none in
    and_from (has_name (labels_of all) name) _ (not_not _ (not_refused _ cause.Unknown parts.0)) (exports_known all (Export name ∷ before) lines parts.1)
exports_known all before (Label name ∷ lines) none = exports_known all (Label name ∷ before) lines (first_none (name_unknown all) before (Label name) lines none).1
exports_known all before (Instruction operation word ∷ lines) none = exports_known all (Instruction operation word ∷ before) lines (first_none (name_unknown all) before (Instruction operation word) lines none).1
exports_known all before (Next name ∷ lines) none = exports_known all (Next name ∷ before) lines (first_none (name_unknown all) before (Next name) lines none).1
exports_known all before (Cell t x y z ∷ lines) none = exports_known all (Cell t x y z ∷ before) lines (first_none (name_unknown all) before (Cell t x y z) lines none).1
exports_known all before (Bad why ∷ lines) none = exports_known all (Bad why ∷ before) lines (first_none (name_unknown all) before (Bad why) lines none).1

pub both : (p : Name → Bool) (names others : List Name) → list_all p names ≡ true → list_all p others ≡ true → list_all p (names ++ others) ≡ true
both p names others h k = list_all-append p names others ∙ and_from (list_all p names) _ h k

lines_known : (all before lines : List Line) → first (name_unknown all) before lines ≡ None → list_all (has_name (defined_in all)) (flat_map used_by lines) ≡ true
lines_known all before [] none = refl
lines_known all before (Blank ∷ lines) none = lines_known all (Blank ∷ before) lines (first_none (name_unknown all) before Blank lines none).1
lines_known all before (Import name ∷ lines) none = lines_known all (Import name ∷ before) lines (first_none (name_unknown all) before (Import name) lines none).1
lines_known all before (Export name ∷ lines) none = lines_known all (Export name ∷ before) lines (first_none (name_unknown all) before (Export name) lines none).1
lines_known all before (Label name ∷ lines) none = lines_known all (Label name ∷ before) lines (first_none (name_unknown all) before (Label name) lines none).1
lines_known all before (Instruction operation word ∷ lines) none =
    let parts = first_none (name_unknown all) before (Instruction operation word) lines none in
    both (has_name (defined_in all)) (used_by (Instruction operation word)) _ (not_not _ (not_refused _ cause.Unknown parts.0)) (lines_known all (Instruction operation word ∷ before) lines parts.1)
lines_known all before (Next name ∷ lines) none =
    let parts = first_none (name_unknown all) before (Next name) lines none in
    both (has_name (defined_in all)) (used_by (Next name)) _ (not_not _ (not_refused _ cause.Unknown parts.0)) (lines_known all (Next name ∷ before) lines parts.1)
lines_known all before (Cell t x y z ∷ lines) none =
    let parts = first_none (name_unknown all) before (Cell t x y z) lines none in
    both (has_name (defined_in all)) (used_by (Cell t x y z)) _ (not_not _ (not_refused _ cause.Unknown parts.0)) (lines_known all (Cell t x y z ∷ before) lines parts.1)
lines_known all before (Bad why ∷ lines) none = lines_known all (Bad why ∷ before) lines (first_none (name_unknown all) before (Bad why) lines none).1

pub parted : (p : Name → Bool) (names others : List Name) → list_all p (names ++ others) ≡ true → (list_all p names ≡ true) × (list_all p others ≡ true)
parted p names others h = and_parts (list_all p names) _ (sym (list_all-append p names others) ∙ h)

next_name_known : (p : Name → Bool) (name : Option Name) (rest : List Name) → list_all p (used_by (Next name) ++ rest) ≡ true → all_in p name ≡ true
next_name_known p None rest h = refl
next_name_known p (Some name) rest h = (and_parts (p name) _ h).0

next_known : (p : Name → Bool) (lines : List Line) → list_all p (flat_map used_by lines) ≡ true → all_in p (next_named lines) ≡ true
unfolding next_named
next_known p [] h = refl
next_known p (Blank ∷ lines) h = next_known p lines h
next_known p (Import name ∷ lines) h = refl
next_known p (Export name ∷ lines) h = refl
next_known p (Label name ∷ lines) h = refl
next_known p (Instruction operation word ∷ lines) h = refl
next_known p (Next name ∷ lines) h = next_name_known p name (flat_map used_by lines) h
next_known p (Cell t x y z ∷ lines) h = refl
next_known p (Bad why ∷ lines) h = refl

no_names : (p : Name → Bool) (b : Bool) → list_all p (names_in (if b then operand.Following else operand.Const 0)) ≡ true
no_names p true = refl
no_names p false = refl

next_word_known : (p : Name → Bool) (operation : Operation) (name : Option Name) → all_in p name ≡ true → list_all p (names_in (next_word operation name)) ≡ true
next_word_known p operation None h = no_names p (goes_on operation)
next_word_known p operation (Some name) h = and_from (p name) _ h refl

-- the names that items use are those that lines use
items_known : (p : Name → Bool) (labels : List Name) (lines : List Line) → list_all p (flat_map used_by lines) ≡ true → list_all p (used_in (items_of labels lines)) ≡ true
unfolding items_of
items_known p labels [] h = refl
items_known p labels (Blank ∷ lines) h = items_known p labels lines h
items_known p labels (Import name ∷ lines) h = items_known p labels lines h
items_known p labels (Export name ∷ lines) h = items_known p labels lines h
items_known p labels (Label name ∷ lines) h = items_known p (labels ++ name ∷ []) lines h
items_known p labels (Instruction operation word ∷ lines) h =
    let parts = parted p (names_in word) (flat_map used_by lines) h in
    both p (names_in word ++ (names_in (next_word operation (next_named lines)) ++ [])) _
    (both p (names_in word) _ parts.0 (both p (names_in (next_word operation (next_named lines))) [] (next_word_known p operation (next_named lines) (next_known p lines parts.1)) refl))
    (items_known p [] lines parts.1)
items_known p labels (Next name ∷ lines) h = items_known p labels lines (parted p (used_by (Next name)) (flat_map used_by lines) h).1
items_known p labels (Cell t x y z ∷ lines) h =
    let parts = parted p (used_by (Cell t x y z)) (flat_map used_by lines) h in
    both p (names_in t ++ (names_in x ++ (names_in y ++ (names_in z ++ [])))) _
    (subst (λ names. list_all p (names_in t ++ (names_in x ++ (names_in y ++ names))) ≡ true) (sym (append-nil (names_in z))) parts.0)
    (items_known p [] lines parts.1)
items_known p labels (Bad why ∷ lines) h = items_known p labels lines h

-- ---- names that differ

abbrev lacks : (Name → Bool) → List Name → Bool
lacks q names = list_all (λ name. not (q name)) names

pub neither : (a b : Bool) → not (a || b) ≡ true → (a ≡ false) × (not b ≡ true)
neither true b h = absurd (let e : false ≡ true = h in cc)
neither false b h = (refl, h)

pub not_either : (a b : Bool) → a ≡ false → not b ≡ true → not (a || b) ≡ true
not_either true b h k = absurd (let e : true ≡ false = h in cc)
not_either false b h k = k

absent : (q : Name → Bool) (name : Name) (names : List Name) → lacks (λ other. bytes_eq other name || q other) names ≡ true → (has_name names name ≡ false) × (lacks q names ≡ true)
absent q name [] h = (refl, refl)
absent q name (other ∷ names) h =
    let parts = and_parts (not (bytes_eq other name || q other)) _ h in
    let here = neither (bytes_eq other name) (q other) parts.0 in
    let more = absent q name names parts.1 in
    (rw (nat_list_eq_equiv.symm name other, here.0) more.0, and_from (not (q other)) _ here.1 more.1)

joined : (q r : Name → Bool) (name : Name) (names : List Name) → lacks (λ other. bytes_eq other name || q other) names ≡ true → lacks r names ≡ true → lacks (λ other. bytes_eq other name || r other) names ≡ true
joined q r name [] h k = refl
joined q r name (other ∷ names) h k =
    let parts = and_parts (not (bytes_eq other name || q other)) _ h in
    let here = neither (bytes_eq other name) (q other) parts.0 in
    let more = and_parts (not (r other)) _ k in
    and_from (not (bytes_eq other name || r other)) _ (not_either (bytes_eq other name) (r other) here.0 more.0) (joined q r name names parts.1 more.1)

record Apart (before lines : List Line) : Type 0 where
  imports : are_different (imports_of lines) ≡ true
  labels : are_different (labels_of lines) ≡ true
  apart : are_apart (imports_of lines) (labels_of lines) ≡ true
  fresh_imports : lacks (has_name (defined_in before)) (imports_of lines) ≡ true
  fresh_labels : lacks (has_name (defined_in before)) (labels_of lines) ≡ true

-- past a line that defines nothing
keep : (before after lines more : List Line) → imports_of lines ≡ imports_of more → labels_of lines ≡ labels_of more → defined_in before ≡ defined_in after → Apart after lines → Apart before more
keep before after lines more i l d a = record {
  imports = rw (← i) a.imports;
  labels = rw (← l) a.labels;
  apart = rw (← i, ← l) a.apart;
  fresh_imports = rw (← i, d) a.fresh_imports;
  fresh_labels = rw (← l, d) a.fresh_labels;
}

not_true : (b : Bool) → b ≡ false → not b ≡ true
not_true b h = rw h refl

apart_of : (before lines : List Line) → first line_fault before lines ≡ None → Apart before lines
unfolding imports_of labels_of defined_in
apart_of before [] none = record { imports = refl; labels = refl; apart = refl; fresh_imports = refl; fresh_labels = refl }
apart_of before (Blank ∷ lines) none = keep before (Blank ∷ before) lines (Blank ∷ lines) refl refl refl (apart_of (Blank ∷ before) lines (first_none line_fault before Blank lines none).1)
apart_of before (Import name ∷ lines) none =
    let parts = first_none line_fault before (Import name) lines none in
    let here : has_name (defined_in before) name ≡ false = not_refused _ cause.Twice parts.0 in
    let a = apart_of (Import name ∷ before) lines parts.1 in
    let imports = absent (has_name (defined_in before)) name (imports_of lines) a.fresh_imports in
    let labels = absent (has_name (defined_in before)) name (labels_of lines) a.fresh_labels in
    record {
      imports = and_from (not (has_name (imports_of lines) name)) _ (not_true _ imports.0) a.imports;
      labels = a.labels;
      apart = and_from (not (has_name (labels_of lines) name)) _ (not_true _ labels.0) a.apart;
      fresh_imports = and_from (not (has_name (defined_in before) name)) _ (not_true _ here) imports.1;
      fresh_labels = labels.1;
    }
apart_of before (Export name ∷ lines) none = keep before (Export name ∷ before) lines (Export name ∷ lines) refl refl refl (apart_of (Export name ∷ before) lines (first_none line_fault before (Export name) lines none).1)
apart_of before (Label name ∷ lines) none =
    let parts = first_none line_fault before (Label name) lines none in
    let here : has_name (defined_in before) name ≡ false = not_refused _ cause.Twice (label_ends (list_any may_be_item lines) _ parts.0).1 in
    let a = apart_of (Label name ∷ before) lines parts.1 in
    let imports = absent (has_name (defined_in before)) name (imports_of lines) a.fresh_imports in
    let labels = absent (has_name (defined_in before)) name (labels_of lines) a.fresh_labels in
    record {
      imports = a.imports;
      labels = and_from (not (has_name (labels_of lines) name)) _ (not_true _ labels.0) a.labels;
      apart = joined (has_name (defined_in before)) (has_name (labels_of lines)) name (imports_of lines) a.fresh_imports a.apart;
      fresh_imports = imports.1;
      fresh_labels = and_from (not (has_name (defined_in before) name)) _ (not_true _ here) labels.1;
    }
apart_of before (Instruction operation word ∷ lines) none = keep before (Instruction operation word ∷ before) lines (Instruction operation word ∷ lines) refl refl refl (apart_of (Instruction operation word ∷ before) lines (first_none line_fault before (Instruction operation word) lines none).1)
apart_of before (Next name ∷ lines) none = keep before (Next name ∷ before) lines (Next name ∷ lines) refl refl refl (apart_of (Next name ∷ before) lines (first_none line_fault before (Next name) lines none).1)
apart_of before (Cell t x y z ∷ lines) none = keep before (Cell t x y z ∷ before) lines (Cell t x y z ∷ lines) refl refl refl (apart_of (Cell t x y z ∷ before) lines (first_none line_fault before (Cell t x y z) lines none).1)
apart_of before (Bad why ∷ lines) none = absurd (let e : Some why ≡ None = (first_none line_fault before (Bad why) lines none).0 in cc)

-- ---- names of their form

named : (lines : List Line) → list_all is_formed lines ≡ true → (list_all is_name (imports_of lines) ≡ true) × (list_all is_name (labels_of lines) ≡ true)
unfolding imports_of labels_of
named [] h = (refl, refl)
named (Blank ∷ lines) h = named lines h
named (Import name ∷ lines) h = let parts = and_parts (is_name name) _ h in let more = named lines parts.1 in (and_from (is_name name) _ parts.0 more.0, more.1)
named (Export name ∷ lines) h = named lines h
named (Label name ∷ lines) h = let parts = and_parts (is_name name) _ h in let more = named lines parts.1 in (more.0, and_from (is_name name) _ parts.0 more.1)
named (Instruction operation word ∷ lines) h = named lines (and_parts (is_formed (Instruction operation word)) _ h).1
named (Next name ∷ lines) h = named lines (and_parts (is_formed (Next name)) _ h).1
named (Cell t x y z ∷ lines) h = named lines (and_parts (is_formed (Cell t x y z)) _ h).1
named (Bad why ∷ lines) h = named lines h

pub all_alike : (p q : Name → Bool) → ((name : Name) → p name ≡ q name) → (names : List Name) → list_all p names ≡ true → list_all q names ≡ true
all_alike p q same [] h = refl
all_alike p q same (name ∷ names) h = let parts = and_parts (p name) _ h in and_from (q name) _ (sym (same name) ∙ parts.0) (all_alike p q same names parts.1)

eight : (a b c d e f g h : Bool) → a ≡ true → b ≡ true → c ≡ true → d ≡ true → e ≡ true → f ≡ true → g ≡ true → h ≡ true → (a && b && c && d && e && f && g && h) ≡ true
eight a b c d e f g h ha hb hc hd he hf hg hh = rw (ha, hb, hc, hd, he, hf, hg, hh) refl

lines_sound : (lines : List Line) → list_all is_formed lines ≡ true → refusal lines ≡ None → is_module (module_of lines) ≡ true
unfolding refusal module_of is_module
lines_sound lines formed sound =
    let line = or_none (first line_fault [] lines) _ sound in
    let name = or_none (first (name_unknown lines) [] lines) _ line.1 in
    let same : labels_in (items_of [] lines) ≡ labels_of lines = labels_same [] [] lines line.0 (λ no. refl) in
    let names = named lines formed in
    let a = apart_of [] lines line.0 in
    let known : list_all (has_name (defined_in lines)) (used_in (items_of [] lines)) ≡ true = items_known (has_name (defined_in lines)) [] lines (lines_known lines [] lines name.0) in
    subst (λ ls. (list_all is_name (imports_of lines) && list_all is_name ls && are_different (imports_of lines) && are_different ls && are_apart (imports_of lines) ls
    && list_all (has_name ls) (exports_of lines) && list_all (has_name (ls ++ imports_of lines)) (used_in (items_of [] lines)) && are_items (items_of [] lines)) ≡ true)
    (sym same)
    (eight _ _ _ _ _ _ _ _ names.0 names.1 a.imports a.labels a.apart (exports_known lines [] lines name.0)
    (all_alike (has_name (defined_in lines)) (has_name (labels_of lines ++ imports_of lines)) (defined_same lines) (used_in (items_of [] lines)) known)
    (items_are [] [] lines formed name.1))

pub module_sound : (texts : List Bytes) → refusal (map line_of texts) ≡ None → is_module (module_of (map line_of texts)) ≡ true
module_sound texts sound = lines_sound (map line_of texts) (lines_formed texts) sound
