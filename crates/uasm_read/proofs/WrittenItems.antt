-- The lines that a module is written as: they are not refused, and make that module.
use Rattle.std.proofs.Common.{◌≡◌, ℕ, Bool, true, false, List, [], ◌∷◌, Option, Some, None, refl, ap, subst, pos, ℤ}
use Rattle.std.specs.Prelude.{◌&&◌, not, if◌then◌else◌, nat_eq}
use Rattle.std.specs.List.{find}
use Rattle.std.specs.Ordering.{int_eq}
use Rattle.std.proofs.lemmas.Bool.{and_parts, eqb-true}
use Rattle.std.proofs.lemmas.Bool.Decides.{Decides-int_eq}
use Rattle.uasm_read.specs.declared.operand.Operand.{Operand}
use Rattle.uasm_read.specs.declared.operand.Operand.TheVariants as operand
use Rattle.uasm_read.specs.declared.operation.Operation.{Operation}
use Rattle.uasm_read.specs.declared.item.Item.{Item}
use Rattle.uasm_read.specs.declared.line.Line.{Line}
use Rattle.uasm_read.specs.declared.line.Line.TheVariants.{Instruction, Next, Cell}
use Rattle.uasm_read.specs.Texts.{Name, is_name}
use Rattle.uasm_read.specs.Operations.{row_of, operations, goes_on}
use Rattle.uasm_read.specs.Modules.{is_instr_t, is_word, fits, operation_at, numbered, may_go_on, begins_with_instruction, is_cell}
use Rattle.uasm_read.specs.Writes.{line_operation, lines_by, cell_lines}

-- ---- the four words of an item and their lines

-- what an item before these items is written as
pub data Seen : List Operand → List Item → List Line → Type 0 where
  goes : (o : Operation) (y : Operand) (after : List Item) → goes_on o ≡ true → fits (row_of o).operand y ≡ true → begins_with_instruction after ≡ true
      → Seen (operand.Const 9 ∷ operand.Fix (pos (row_of o).number) ∷ y ∷ operand.Following ∷ []) after (Instruction o y ∷ [])
  names : (o : Operation) (y : Operand) (name : Name) (after : List Item) → fits (row_of o).operand y ≡ true → is_name name ≡ true
      → Seen (operand.Const 9 ∷ operand.Fix (pos (row_of o).number) ∷ y ∷ operand.Label name ∷ []) after (Instruction o y ∷ Next (Some name) ∷ [])
  ends : (o : Operation) (y : Operand) (after : List Item) → goes_on o ≡ false → fits (row_of o).operand y ≡ true
      → Seen (operand.Const 9 ∷ operand.Fix (pos (row_of o).number) ∷ y ∷ operand.Const 0 ∷ []) after (Instruction o y ∷ [])
  plain : (t x y z : Operand) (after : List Item) → is_word t ≡ true → is_word x ≡ true → is_word y ≡ true → is_word z ≡ true
      → Seen (t ∷ x ∷ y ∷ z ∷ []) after (Cell t x y z ∷ [])

pub false_true : {X : Type 0} → false ≡ true → X
false_true h = absurd (let e : false ≡ true = h in cc)

pub is_false : (b : Bool) → not b ≡ true → b ≡ false
is_false true h = false_true h
is_false false h = refl

instr_t_is : (t : Operand) → is_instr_t t ≡ true → t ≡ operand.Const 9
instr_t_is (operand.Fix n) h = false_true h
instr_t_is (operand.Const k) h = ap operand.Const (eqb-true k 9 h)
instr_t_is (operand.Label name) h = false_true h
instr_t_is operand.Following h = false_true h

found_passes : (p : Operation → Bool) (list : List Operation) (o : Operation) → find p list ≡ Some o → p o ≡ true
found_passes p [] o h = absurd (let e : None ≡ Some o = h in cc)
found_passes p (other ∷ list) o h = by_case (p other) refl h (found_passes p list o)
  where
    by_case : (b : Bool) → p other ≡ b → (if b then Some other else find p list) ≡ Some o → (find p list ≡ Some o → p o ≡ true) → p o ≡ true
    by_case true e k ih = (let same : Some other ≡ Some o = k in let is : other ≡ o = cc in subst (λ x. p x ≡ true) is e)
    by_case false e k ih = ih k

number_is : (x : Operand) (o : Operation) → numbered x ≡ Some o → x ≡ operand.Fix (pos (row_of o).number)
unfolding operation_at
number_is (operand.Fix n) o h =
    let e : int_eq n (pos (row_of o).number) ≡ true = found_passes (λ operation. int_eq n (pos (row_of operation).number)) operations o h in
    ap operand.Fix ((Decides-int_eq n (pos (row_of o).number)).0 e)
number_is (operand.Const k) o h = absurd (let e : None ≡ Some o = h in cc)
number_is (operand.Label name) o h = absurd (let e : None ≡ Some o = h in cc)
number_is operand.Following o h = absurd (let e : None ≡ Some o = h in cc)

goes_by : (t x y : Operand) (after : List Item) (o : Option Operation) → numbered x ≡ o → is_instr_t t ≡ true → may_go_on o y ≡ true → begins_with_instruction after ≡ true
    → Seen (t ∷ x ∷ y ∷ operand.Following ∷ []) after (lines_by (if is_instr_t t then line_operation o y operand.Following else None) t x y operand.Following)
goes_by t x y after None e it go begins = false_true go
goes_by t x y after (Some o) e it go begins =
    let parts = and_parts (goes_on o) _ go in
    rw (instr_t_is t it, number_is x o e, parts.1) (goes o y after parts.0 parts.1 begins)

-- the lines of words that spell an instruction, or that do not
named_by : (t x y : Operand) (name : Name) (after : List Item) (b : Bool) (o : Option Operation) → is_instr_t t ≡ b → numbered x ≡ o
    → is_word t ≡ true → is_word x ≡ true → is_word y ≡ true → is_name name ≡ true
    → Seen (t ∷ x ∷ y ∷ operand.Label name ∷ []) after (lines_by (if b then line_operation o y (operand.Label name) else None) t x y (operand.Label name))
named_by t x y name after false o it e ht hx hy hn = plain t x y (operand.Label name) after ht hx hy hn
named_by t x y name after true None it e ht hx hy hn = plain t x y (operand.Label name) after ht hx hy hn
named_by t x y name after true (Some o) it e ht hx hy hn = by_fit (fits (row_of o).operand y) refl
  where
    by_fit : (f : Bool) → fits (row_of o).operand y ≡ f
        → Seen (t ∷ x ∷ y ∷ operand.Label name ∷ []) after (lines_by (if f && true then Some o else None) t x y (operand.Label name))
    by_fit true fit = rw (instr_t_is t it, number_is x o e) (names o y name after fit hn)
    by_fit false fit = plain t x y (operand.Label name) after ht hx hy hn

ended_by : (t x y : Operand) (k : ℕ) (after : List Item) (b : Bool) (o : Option Operation) → is_instr_t t ≡ b → numbered x ≡ o
    → is_word t ≡ true → is_word x ≡ true → is_word y ≡ true → is_word (operand.Const k) ≡ true
    → Seen (t ∷ x ∷ y ∷ operand.Const k ∷ []) after (lines_by (if b then line_operation o y (operand.Const k) else None) t x y (operand.Const k))
ended_by t x y k after false o it e ht hx hy hk = plain t x y (operand.Const k) after ht hx hy hk
ended_by t x y k after true None it e ht hx hy hk = plain t x y (operand.Const k) after ht hx hy hk
ended_by t x y k after true (Some o) it e ht hx hy hk = by_fit (fits (row_of o).operand y) (goes_on o) (nat_eq k 0) refl refl refl
  where
    by_fit : (f g z : Bool) → fits (row_of o).operand y ≡ f → goes_on o ≡ g → nat_eq k 0 ≡ z
        → Seen (t ∷ x ∷ y ∷ operand.Const k ∷ []) after (lines_by (if f && (not g && z) then Some o else None) t x y (operand.Const k))
    by_fit true false true fit stops zero = rw (instr_t_is t it, number_is x o e, eqb-true k 0 zero) (ends o y after stops fit)
    by_fit true true z fit stops zero = plain t x y (operand.Const k) after ht hx hy hk
    by_fit true false false fit stops zero = plain t x y (operand.Const k) after ht hx hy hk
    by_fit false g z fit stops zero = plain t x y (operand.Const k) after ht hx hy hk

numbered_by : (t x y : Operand) (n : ℤ) (after : List Item) (b : Bool) (o : Option Operation)
    → is_word t ≡ true → is_word x ≡ true → is_word y ≡ true → is_word (operand.Fix n) ≡ true
    → Seen (t ∷ x ∷ y ∷ operand.Fix n ∷ []) after (lines_by (if b then line_operation o y (operand.Fix n) else None) t x y (operand.Fix n))
numbered_by t x y n after false o ht hx hy hn = plain t x y (operand.Fix n) after ht hx hy hn
numbered_by t x y n after true None ht hx hy hn = plain t x y (operand.Fix n) after ht hx hy hn
numbered_by t x y n after true (Some o) ht hx hy hn = by_fit (fits (row_of o).operand y)
  where
    by_fit : (f : Bool) → Seen (t ∷ x ∷ y ∷ operand.Fix n ∷ []) after (lines_by (if f && false then Some o else None) t x y (operand.Fix n))
    by_fit true = plain t x y (operand.Fix n) after ht hx hy hn
    by_fit false = plain t x y (operand.Fix n) after ht hx hy hn

record Words (t x y z : Operand) : Type 0 where
  type : is_word t ≡ true
  first : is_word x ≡ true
  second : is_word y ≡ true
  next : is_word z ≡ true

words_of : (t x y z : Operand) → is_word t && is_word x && is_word y && is_word z ≡ true → Words t x y z
words_of t x y z h =
    let last = and_parts (is_word t && is_word x && is_word y) _ h in
    let third = and_parts (is_word t && is_word x) _ last.0 in
    let second = and_parts (is_word t) _ third.0 in
    record { type = second.0; first = second.1; second = third.1; next = last.1 }

pub seen : (cell : List Operand) (after : List Item) → is_cell cell after ≡ true → Seen cell after (cell_lines cell)
seen [] after h = false_true h
seen (t ∷ []) after h = false_true h
seen (t ∷ x ∷ []) after h = false_true h
seen (t ∷ x ∷ y ∷ []) after h = false_true h
seen (t ∷ x ∷ y ∷ operand.Following ∷ []) after h =
    let all = and_parts (is_instr_t t && is_word x && may_go_on (numbered x) y) _ h in
    let three = and_parts (is_instr_t t && is_word x) _ all.0 in
    goes_by t x y after (numbered x) refl (and_parts (is_instr_t t) _ three.0).0 three.1 all.1
seen (t ∷ x ∷ y ∷ operand.Label name ∷ []) after h = let w = words_of t x y (operand.Label name) h in named_by t x y name after (is_instr_t t) (numbered x) refl refl w.type w.first w.second w.next
seen (t ∷ x ∷ y ∷ operand.Const k ∷ []) after h = let w = words_of t x y (operand.Const k) h in ended_by t x y k after (is_instr_t t) (numbered x) refl refl w.type w.first w.second w.next
seen (t ∷ x ∷ y ∷ operand.Fix n ∷ []) after h = let w = words_of t x y (operand.Fix n) h in numbered_by t x y n after (is_instr_t t) (numbered x) w.type w.first w.second w.next
seen (t ∷ x ∷ y ∷ operand.Following ∷ w ∷ more) after h = false_true h
seen (t ∷ x ∷ y ∷ operand.Label name ∷ w ∷ more) after h = false_true h
seen (t ∷ x ∷ y ∷ operand.Const k ∷ w ∷ more) after h = false_true h
seen (t ∷ x ∷ y ∷ operand.Fix n ∷ w ∷ more) after h = false_true h
