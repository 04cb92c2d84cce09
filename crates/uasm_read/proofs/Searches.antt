-- Walks over lines that look for the first one that is refused.
use Rattle.std.proofs.Common.{◌≡◌, ℕ, suc, ◌+◌, ◌-◌, Bool, true, false, List, [], ◌∷◌, length, Option, Some, None, refl, sym, ap, ◌∙◌, arith}
use Rattle.std.specs.Prelude.{◌||◌, nat_lt, if◌then◌else◌}
use Rattle.std.specs.List.{list_any, list_all}
use Rattle.std.specs.Str.{bytes_eq}
use Rattle.uasm_read.specs.declared.error.UasmCause.{UasmCause}
use Rattle.uasm_read.specs.declared.line.Line.{Line}
use Rattle.uasm_read.specs.declared.line.Line.TheVariants.{Blank, Import, Export, Label, Instruction, Next, Cell, Bad}
use Rattle.uasm_read.specs.Texts.{Name, has_name}
use Rattle.uasm_read.specs.Faults.{defined_by, defined_in, used_by, refused_or, first, may_be_item, follows_after, follows_instruction, fault_by, line_fault, unknown_by}
use Rattle.uasm_read.specs.Reading.{items_among}
use Rattle.std.proofs.lemmas.Bool.Decides.{nat_tests}
use Rattle.std.proofs.lemmas.List.Folds.{list_any-append}

abbrev pub Test : Type 0
Test = List Line → Line → List Line → Option UasmCause

-- no line before these is refused
pub record Searched (test : Test) (lines rest : List Line) (at : ℕ) : Type 0 where
  pub before : List Line
  pub same : first test [] lines ≡ first test before rest
  pub place : at ≡ length before

pub begun : (test : Test) (lines : List Line) → Searched test lines lines 0
begun test lines = record { before = []; same = refl; place = refl }

pub ended : (test : Test) (lines : List Line) (at : ℕ) → Searched test lines [] at → first test [] lines ≡ None
unfolding first
ended test lines at s = s.same

pub refused_here : (test : Test) (lines : List Line) (line : Line) (more : List Line) (at : ℕ) (why : UasmCause) (s : Searched test lines (line ∷ more) at)
    → test s.before line more ≡ Some why → first test [] lines ≡ Some (record { line = at + 1; cause = why })
unfolding first
refused_here test lines line more at why s here =
    s.same ∙ ap (λ o. refused_or (length s.before + 1) o (first test (line ∷ s.before) more)) here ∙ ap (λ n. Some (record { line = n + 1; cause = why })) (sym s.place)

pub went_on : (test : Test) (lines : List Line) (line : Line) (more : List Line) (at : ℕ) (s : Searched test lines (line ∷ more) at)
    → test s.before line more ≡ None → Searched test lines more (at + 1)
unfolding first
went_on test lines line more at s here = record {
  before = line ∷ s.before;
  same = s.same ∙ ap (λ o. refused_or (length s.before + 1) o (first test (line ∷ s.before) more)) here;
  place = (let e : at + 1 ≡ suc (length s.before) = omega (arith, s.place) in e);
}

-- the same, with what the lines before say
pub record Checked (lines rest : List Line) (at : ℕ) (stands : Name → Bool) (follows : Bool) (left : ℕ) : Type 0 where
  pub searched : Searched line_fault lines rest at
  pub names : (name : Name) → stands name ≡ has_name (defined_in searched.before) name
  pub instruction : follows ≡ follows_instruction searched.before
  pub counted : left ≡ items_among rest

fault_same : (stands others : Name → Bool) → ((name : Name) → stands name ≡ others name) → (follows more : Bool) (line : Line) → fault_by stands follows more line ≡ fault_by others follows more line
fault_same stands others same follows more Blank = refl
fault_same stands others same follows more (Import name) = rw (same name) refl
fault_same stands others same follows more (Export name) = refl
fault_same stands others same follows more (Label name) = rw (same name) refl
fault_same stands others same follows more (Instruction operation operand) = refl
fault_same stands others same follows more (Next name) = refl
fault_same stands others same follows more (Cell t x y z) = refl
fault_same stands others same follows more (Bad why) = refl

any_cases : (b : Bool) (n : ℕ) (some : Bool) → some ≡ nat_lt 0 n → (b || some) ≡ nat_lt 0 ((if b then 1 else 0) + n)
any_cases true n some e = grind (arith, nat_tests)
any_cases false n some e = e ∙ ap (nat_lt 0) (let z : n ≡ 0 + n = omega arith in z)

-- one stands there exactly where their number is not 0
any_counted : (lines : List Line) → list_any may_be_item lines ≡ nat_lt 0 (items_among lines)
any_counted [] = refl
any_counted (line ∷ lines) = any_cases (may_be_item line) (items_among lines) (list_any may_be_item lines) (any_counted lines)

-- what the walk asks of a line is what the definition asks
pub checked_test : (lines : List Line) (line : Line) (more : List Line) (at : ℕ) (stands : Name → Bool) (follows : Bool) (left : ℕ)
    (k : Checked lines (line ∷ more) at stands follows left)
    → fault_by stands follows (nat_lt 0 (left - (if may_be_item line then 1 else 0))) line ≡ line_fault k.searched.before line more
checked_test lines line more at stands follows left k =
    let counted : left - (if may_be_item line then 1 else 0) ≡ items_among more = omega (arith, k.counted) in
    ap (λ n. fault_by stands follows (nat_lt 0 n) line) counted
    ∙ ap (λ b. fault_by stands follows b line) (sym (any_counted more))
    ∙ ap (λ b. fault_by stands b (list_any may_be_item more) line) k.instruction
    ∙ fault_same stands (has_name (defined_in k.searched.before)) k.names (follows_instruction k.searched.before) (list_any may_be_item more) line

pub checked_on : (lines : List Line) (line : Line) (more : List Line) (at : ℕ) (stands others : Name → Bool) (follows : Bool) (left : ℕ)
    (k : Checked lines (line ∷ more) at stands follows left)
    → line_fault k.searched.before line more ≡ None
    → ((name : Name) → others name ≡ (has_name (defined_by line) name || stands name))
    → Checked lines more (at + 1) others (follows_after line follows) (left - (if may_be_item line then 1 else 0))
unfolding follows_instruction defined_in went_on
checked_on lines line more at stands others follows left k none names = record {
  searched = went_on line_fault lines line more at k.searched none;
  names = λ name. names name ∙ ap (λ b. has_name (defined_by line) name || b) (k.names name) ∙ sym (list_any-append (bytes_eq name) (defined_by line) (defined_in k.searched.before));
  instruction = ap (follows_after line) k.instruction;
  counted = omega (arith, k.counted);
}

pub checked_begun : (lines : List Line) (stands : Name → Bool) (left : ℕ) → ((name : Name) → stands name ≡ false) → left ≡ items_among lines → Checked lines lines 0 stands false left
unfolding follows_instruction defined_in begun
checked_begun lines stands left none counted = record { searched = begun line_fault lines; names = none; instruction = refl; counted = counted }

all_same : (names more : Name → Bool) → ((name : Name) → names name ≡ more name) → (used : List Name) → list_all names used ≡ list_all more used
all_same names more same [] = refl
all_same names more same (name ∷ used) = rw (same name, all_same names more same used) refl

-- names are asked for alone
pub unknown_same : (labels names others more : Name → Bool) → ((name : Name) → labels name ≡ others name) → ((name : Name) → names name ≡ more name) → (line : Line) → unknown_by labels names line ≡ unknown_by others more line
unknown_same labels names others more l n (Export name) = rw (l name) refl
unknown_same labels names others more l n Blank = refl
unknown_same labels names others more l n (Import name) = refl
unknown_same labels names others more l n (Label name) = refl
unknown_same labels names others more l n (Instruction operation operand) = rw (all_same names more n (used_by (Instruction operation operand))) refl
unknown_same labels names others more l n (Next name) = rw (all_same names more n (used_by (Next name))) refl
unknown_same labels names others more l n (Cell t x y z) = rw (all_same names more n (used_by (Cell t x y z))) refl
unknown_same labels names others more l n (Bad why) = refl
