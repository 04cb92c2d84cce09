-- The lines that a module is written as are not refused, and make that module.
use Rattle.std.proofs.Common.{◌≡◌, ◌+◌, Bool, true, false, List, [], ◌∷◌, ◌++◌, length, map, Option, Some, None, refl, sym, ap, ◌∙◌, append_assoc, append-nil}
use Rattle.std.specs.Prelude.{◌&&◌, not}
use Rattle.std.proofs.lemmas.Bool.{and_parts}
use Rattle.uasm_read.specs.declared.error.UasmCause.{UasmCause}
use Rattle.uasm_read.specs.declared.error.UasmCause.TheVariants as cause
use Rattle.uasm_read.specs.declared.operand.Operand.{Operand}
use Rattle.uasm_read.specs.declared.item.Item.{Item}
use Rattle.uasm_read.specs.declared.line.Line.{Line}
use Rattle.uasm_read.specs.declared.line.Line.TheVariants.{Blank, Import, Export, Label, Instruction, Next, Cell}
use Rattle.uasm_read.specs.Texts.{Name}
use Rattle.uasm_read.specs.Operations.{goes_on}
use Rattle.uasm_read.specs.Modules.{ModuleParts, begins_with_instruction, is_cell, are_items}
use Rattle.uasm_read.specs.Faults.{refused_or, first, fault_if, next_named, instruction_follows, falls_off}
use Rattle.uasm_read.specs.Assembles.{items_of}
use Rattle.uasm_read.specs.Writes.{cell_lines}
use Rattle.uasm_read.proofs.WrittenItems.{Seen, goes, names, ends, plain, seen}

-- the lines of items, and an empty one behind them
abbrev pub lines_behind : List Item → List Line
lines_behind [] = Blank ∷ []
lines_behind (item ∷ items) = map Label item.labels ++ (cell_lines item.cell ++ lines_behind items)

-- the lines of a module, and an empty one behind them
abbrev pub all_lines : ModuleParts → List Line
all_lines m = map Import m.imports ++ (map Export m.exports ++ lines_behind m.items)

-- ---- what goes on

no_ref_seen : (cell : List Operand) (after : List Item) (lines : List Line) → Seen cell after lines → (more : List Line) → next_named (lines ++ more) ≡ None
unfolding next_named
no_ref_seen cell _ lines (goes o y after on fit begins) more = refl
no_ref_seen cell _ lines (names o y name after fit named) more = refl
no_ref_seen cell _ lines (ends o y after stops fit) more = refl
no_ref_seen cell _ lines (plain t x y z after ht hx hy hz) more = refl

no_ref_labels : (labels : List Name) (lines : List Line) → next_named lines ≡ None → next_named (map Label labels ++ lines) ≡ None
unfolding next_named
no_ref_labels [] lines h = h
no_ref_labels (label ∷ labels) lines h = refl

no_ref : (items : List Item) → are_items items ≡ true → next_named (lines_behind items) ≡ None
unfolding next_named
no_ref [] h = refl
no_ref (item ∷ items) h =
    no_ref_labels item.labels _ (no_ref_seen item.cell items (cell_lines item.cell) (seen item.cell items (and_parts (is_cell item.cell items) _ h).0) (lines_behind items))

begins_seen : (cell : List Operand) (after : List Item) (lines : List Line) → Seen cell after lines → (labels : List Name) (items : List Item) (more : List Line)
    → instruction_follows (lines ++ more) ≡ begins_with_instruction (record { labels = labels; cell = cell } ∷ items)
unfolding instruction_follows
begins_seen cell _ lines (goes o y after on fit begins) labels items more = refl
begins_seen cell _ lines (names o y name after fit named) labels items more = refl
begins_seen cell _ lines (ends o y after stops fit) labels items more = refl
begins_seen cell _ lines (plain t x y z after ht hx hy hz) labels items more = refl

begins_labels : (labels : List Name) (lines : List Line) → instruction_follows (map Label labels ++ lines) ≡ instruction_follows lines
unfolding instruction_follows
begins_labels [] lines = refl
begins_labels (label ∷ labels) lines = begins_labels labels lines

begins : (items : List Item) → are_items items ≡ true → instruction_follows (lines_behind items) ≡ begins_with_instruction items
unfolding instruction_follows
begins [] h = refl
begins (item ∷ items) h =
    begins_labels item.labels _
    ∙ begins_seen item.cell items (cell_lines item.cell) (seen item.cell items (and_parts (is_cell item.cell items) _ h).0) item.labels items (lines_behind items)

-- a line that is not refused
pub passed : (test : List Line → Line → List Line → Option UasmCause) (before : List Line) (line : Line) (after : List Line)
    → test before line after ≡ None → first test (line ∷ before) after ≡ None → first test before (line ∷ after) ≡ None
unfolding first
passed test before line after here more = ap (λ o. refused_or (length before + 1) o (first test (line ∷ before) after)) here ∙ more

pub none_left : (test : List Line → Line → List Line → Option UasmCause) (before : List Line) → first test before [] ≡ None
unfolding first
none_left test before = refl

pub does_not : (b : Bool) (why : UasmCause) → b ≡ false → fault_if b why ≡ None
does_not b why h = rw h refl

stays_labels : (labels : List Name) (lines : List Line) → ((before : List Line) → first falls_off before lines ≡ None) → (before : List Line) → first falls_off before (map Label labels ++ lines) ≡ None
stays_labels [] lines h before = h before
stays_labels (label ∷ labels) lines h before = passed falls_off before (Label label) (map Label labels ++ lines) refl (stays_labels labels lines h (Label label ∷ before))

and_no : (a b : Bool) → b ≡ true → (a && (true && not b)) ≡ false
and_no true b h = rw h refl
and_no false b h = refl

and_named : (a b : Bool) → (a && (false && b)) ≡ false
and_named true b = refl
and_named false b = refl

stays_seen : (cell : List Operand) (after : List Item) (lines : List Line) → Seen cell after lines → (more : List Line)
    → next_named more ≡ None → instruction_follows more ≡ begins_with_instruction after
    → ((before : List Line) → first falls_off before more ≡ None) → (before : List Line) → first falls_off before (lines ++ more) ≡ None
unfolding next_named
stays_seen cell _ lines (goes o y after on fit begins) more no_next same h before =
    passed falls_off before (Instruction o y) more
    (does_not _ cause.FallsOff (rw no_next (and_no (goes_on o) (instruction_follows more) (same ∙ begins)))) (h (Instruction o y ∷ before))
stays_seen cell _ lines (names o y name after fit named) more no_next same h before =
    passed falls_off before (Instruction o y) (Next (Some name) ∷ more) (does_not _ cause.FallsOff (and_named (goes_on o) (not (instruction_follows (Next (Some name) ∷ more)))))
    (passed falls_off (Instruction o y ∷ before) (Next (Some name)) more refl (h (Next (Some name) ∷ Instruction o y ∷ before)))
stays_seen cell _ lines (ends o y after stops fit) more no_next same h before =
    passed falls_off before (Instruction o y) more (does_not _ cause.FallsOff (rw stops refl)) (h (Instruction o y ∷ before))
stays_seen cell _ lines (plain t x y z after ht hx hy hz) more no_next same h before =
    passed falls_off before (Cell t x y z) more refl (h (Cell t x y z ∷ before))

stays : (items : List Item) → are_items items ≡ true → (before : List Line) → first falls_off before (lines_behind items) ≡ None
stays [] h before = passed falls_off before Blank [] refl (none_left falls_off (Blank ∷ before))
stays (item ∷ items) h before =
    let parts = and_parts (is_cell item.cell items) _ h in
    stays_labels item.labels _
    (stays_seen item.cell items (cell_lines item.cell) (seen item.cell items parts.0) (lines_behind items) (no_ref items parts.1) (begins items parts.1) (stays items parts.1)) before

stays_imports : (list : List Name) (lines : List Line) → ((before : List Line) → first falls_off before lines ≡ None) → (before : List Line) → first falls_off before (map Import list ++ lines) ≡ None
stays_imports [] lines h before = h before
stays_imports (name ∷ list) lines h before = passed falls_off before (Import name) (map Import list ++ lines) refl (stays_imports list lines h (Import name ∷ before))

stays_exports : (list : List Name) (lines : List Line) → ((before : List Line) → first falls_off before lines ≡ None) → (before : List Line) → first falls_off before (map Export list ++ lines) ≡ None
stays_exports [] lines h before = h before
stays_exports (name ∷ list) lines h before = passed falls_off before (Export name) (map Export list ++ lines) refl (stays_exports list lines h (Export name ∷ before))

pub all_stay : (m : ModuleParts) → are_items m.items ≡ true → first falls_off [] (all_lines m) ≡ None
all_stay m h = stays_imports m.imports _ (stays_exports m.exports _ (stays m.items h)) []

-- ---- the items again

items_labels : (before labels : List Name) (lines : List Line) → items_of before (map Label labels ++ lines) ≡ items_of (before ++ labels) lines
unfolding items_of
items_labels before [] lines = ap (λ ls. items_of ls lines) (sym (append-nil before))
items_labels before (label ∷ labels) lines = items_labels (before ++ label ∷ []) labels lines ∙ ap (λ ls. items_of ls lines) (append_assoc before (label ∷ []) labels)

items_seen : (cell : List Operand) (after : List Item) (lines : List Line) → Seen cell after lines → (labels : List Name) (more : List Line) → next_named more ≡ None
    → items_of labels (lines ++ more) ≡ record { labels = labels; cell = cell } ∷ items_of [] more
unfolding items_of next_named
items_seen cell _ lines (goes o y after on fit begins) labels more no_next = rw (no_next, on) refl
items_seen cell _ lines (names o y name after fit named) labels more no_next = refl
items_seen cell _ lines (ends o y after stops fit) labels more no_next = rw (no_next, stops) refl
items_seen cell _ lines (plain t x y z after ht hx hy hz) labels more no_next = refl

items_again : (items : List Item) → are_items items ≡ true → items_of [] (lines_behind items) ≡ items
unfolding items_of
items_again [] h = refl
items_again (item ∷ items) h =
    let parts = and_parts (is_cell item.cell items) _ h in
    items_labels [] item.labels _
    ∙ items_seen item.cell items (cell_lines item.cell) (seen item.cell items parts.0) item.labels (lines_behind items) (no_ref items parts.1)
    ∙ ap (λ more. item ∷ more) (items_again items parts.1)

items_imports : (list : List Name) (lines : List Line) → items_of [] (map Import list ++ lines) ≡ items_of [] lines
unfolding items_of
items_imports [] lines = refl
items_imports (name ∷ list) lines = items_imports list lines

items_exports : (list : List Name) (lines : List Line) → items_of [] (map Export list ++ lines) ≡ items_of [] lines
unfolding items_of
items_exports [] lines = refl
items_exports (name ∷ list) lines = items_exports list lines

pub all_items : (m : ModuleParts) → are_items m.items ≡ true → items_of [] (all_lines m) ≡ m.items
all_items m h = items_imports m.imports _ ∙ items_exports m.exports _ ∙ items_again m.items h
