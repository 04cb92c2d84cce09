-- What each operation on sponsors does.
use Rattle.std.proofs.Common.{◌≡◌, ℕ, ◌+◌, ◌≤◌, List, [], ◌∷◌, ◌++◌, Some, None, Bool, true, false, if◌then◌else◌, nat_lt, Result, Ok, Err, refl, ap, sym, ◌∙◌, subst, arith, length}
use Rattle.std.specs.Prelude.{OnOk}
use Rattle.cap_words.specs.Words.{W, Cap, undef}
use Rattle.cap_words.specs.Store.{used, taken}
use Rattle.cap_words.specs.Seen.{Slot, SponsorSlot, SpentSlot, EventSlot, seen}
use Rattle.cap_words.specs.Frame.{Among}
use Rattle.quad_memory.specs.Memory.{Memory, with_store}
use Rattle.quad_memory.specs.declared.cells.EventCell.{EventCell}
use Rattle.quad_memory.specs.Cells.{event_cells}
use Rattle.instr_table.specs.declared.charge.Quota.{Quota}
use Rattle.instr_table.specs.Types.{is_actor, is_sponsor}
use Rattle.instr_table.specs.Lists.{next_quad, item}
use Rattle.instr_table.specs.Event.{Effect, Nothing, Sponsors, Grants, Reclaims, Starts, Stops}
use Rattle.instr_table.specs.Sheet.{Account, Stopped, Running, held, transfer, reclaim, start, stop, runs}
use Rattle.instr_table.specs.Outcome.{Row, charge, does, goes, faults, not_actor, not_sponsor, is_running}
use Rattle.instr_table.specs.SponsorRows.{most_sponsors, new_row, start_row}
use Rattle.vm_dict.proofs.Taking.{next-used}
use Rattle.vm_sponsor.specs.Totals.{sponsors}
use Rattle.vm_sponsor.specs.Ledger.{Ledger, names}
use Rattle.vm_sponsor.specs.Sheets.{IsThere, quads_of}
use Rattle.vm_sponsor.specs.Keeps.{Keeps}
use Rattle.vm_sponsor.proofs.Rows.{sponsors-sheet_of}
use Rattle.vm_step.specs.declared.lane.Lane.{Lane}
use Rattle.vm_step.specs.declared.lane.StepEnd.{StepEnd}
use Rattle.vm_step.specs.Step.{sheet_in, payer, Stays}
use Rattle.vm_step.specs.Moves.{Ready, Turns, values_of}
use Rattle.vm_step.specs.Paid.{Paid, Acts}
use Rattle.vm_step.proofs.Balances.{held-transferred, held-reclaimed, held-standing}
use Rattle.vm_step.proofs.Going.{ready-paid, turns-act}
use Rattle.vm_step.proofs.Shifting.{Shifts, shifts-paid, shifts-act, keeps-shifts, takes-shifts, shifts-then, of-one, of-two}

-- the room for what comes after
pub shifts-ready : (a b : Memory) (old new : Ledger) (l : Lane) (made : List Slot) (e : Effect) (n left : ℕ) → Paid a old l n → Shifts a b old new l made e left → Ready b l left
shifts-ready a b old new l made e n left h p = ready-paid b new l left (shifts-paid a b old new l made e left h.held p)

-- a fact of one branch of a row
module _ (a c : Memory) (old new : Ledger) (l m : Lane) (end : StepEnd) where
  pub first-branch : (b : Bool) (x y : Row) → b ≡ true → Acts a c old new l m x.outcome end → Acts a c old new l m (if b then x else y).outcome end
  first-branch b x y h k = subst (λ (t : Bool). Acts a c old new l m (if t then x else y).outcome end) (sym h) k

  pub second-branch : (b : Bool) (x y : Row) → b ≡ false → Acts a c old new l m y.outcome end → Acts a c old new l m (if b then x else y).outcome end
  second-branch b x y h k = subst (λ (t : Bool). Acts a c old new l m (if t then x else y).outcome end) (sym h) k

module _ (a : Memory) (old : Ledger) (l : Lane) (n : ℕ) (h : Paid a old l n) where
  pub sponsor-listed : (w : W) → is_sponsor (seen a.store) w ≡ true → Among w (names old.rows)
  sponsor-listed w k = h.books.listed w k

  there : (w : W) → Among w (names old.rows) → IsThere a.store w
  there w i = h.books.belongs.there w i

  in_sheet : (w : W) → Among w (names old.rows) → Among w (sponsors (sheet_in a old))
  in_sheet w i = subst (λ (vs : List W). Among w vs) (sym (sponsors-sheet_of a.store old.rows)) i

  pub payer-listed : (who : W) → who ≡ payer a l → Among who (names old.rows)
  payer-listed who e = subst (λ (w : W). Among w (names old.rows)) (sym e) h.held.sponsor

  pub grant-shifts : (b : Memory) (new : Ledger) (who w : W) (kind : Quota) (k : ℕ) → who ≡ payer a l → is_sponsor (seen a.store) w ≡ true → k ≤ held (sheet_in a old) who kind → sheet_in b new ≡ transfer (sheet_in a old) who w kind k
      → Keeps a b old new (quads_of who ++ quads_of w) → new.transfers ≤ old.transfers + 1 → Shifts a b old new l [] (Grants w kind k) n
  grant-shifts b new who w kind k e is enough sheet keeps transfers =
      let i = sponsor-listed w is in
      keeps-shifts a b old new l (quads_of who ++ quads_of w) (Grants w kind k) n h (of-two a.store who w (there who (payer-listed who e)) (there w i)) keeps (sheet ∙ ap (λ (v : W). transfer (sheet_in a old) v w kind k) e) (λ x. refl)
      (held-transferred (sheet_in a old) (payer a l) w kind k (in_sheet w i) (subst (λ (v : W). k ≤ held (sheet_in a old) v kind) e enough)) (omega (arith, transfers))

  pub reclaim-shifts : (b : Memory) (new : Ledger) (who w : W) → who ≡ payer a l → is_sponsor (seen a.store) w ≡ true → sheet_in b new ≡ reclaim (sheet_in a old) w who → Keeps a b old new (quads_of w ++ quads_of who) → new.transfers ≤ old.transfers + 3
      → Shifts a b old new l [] (Reclaims w) n
  reclaim-shifts b new who w e is sheet keeps transfers =
      let i = sponsor-listed w is in
      keeps-shifts a b old new l (quads_of w ++ quads_of who) (Reclaims w) n h (of-two a.store w who (there w i) (there who (payer-listed who e))) keeps (sheet ∙ ap (reclaim (sheet_in a old) w) e) (λ x. refl)
      (held-reclaimed (sheet_in a old) w (payer a l) (in_sheet (payer a l) h.held.sponsor)) transfers

  pub stop-shifts : (b : Memory) (new : Ledger) (w : W) → is_sponsor (seen a.store) w ≡ true → sheet_in b new ≡ stop (sheet_in a old) w → new ≡ old → Keeps a b old new (quads_of w) → Shifts a b old new l [] (Stops w) n
  stop-shifts b new w is sheet same keeps =
      let t = ap (λ (x : Ledger). x.transfers) same in
      keeps-shifts a b old new l (quads_of w) (Stops w) n h (of-one a.store w (there w (sponsor-listed w is))) keeps sheet (λ x. refl) (held-standing (sheet_in a old) w Stopped) (omega (arith, t))

  pub start-shifts : (b : Memory) (new : Ledger) (w signal : W) → Among w (names old.rows) → sheet_in b new ≡ start (sheet_in a old) w signal → new ≡ old → Keeps a b old new (quads_of w) → Shifts a b old new l [] (Starts w signal) n
  start-shifts b new w signal i sheet same keeps =
      let t = ap (λ (x : Ledger). x.transfers) same in
      keeps-shifts a b old new l (quads_of w) (Starts w signal) n h (of-one a.store w (there w i)) keeps sheet (λ x. refl) (held-standing (sheet_in a old) w (Running (Some signal))) (omega (arith, t))

-- the event of a signal is taken
pub event-shifts : (a b : Memory) (old : Ledger) (l : Lane) (c : EventCell) → Paid a old l 1 → b ≡ with_store a (taken a.store (event_cells c)) → Shifts a b old old l (EventSlot c.sponsor c.target c.message ∷ []) Nothing 0
event-shifts a b old l c h e = takes-shifts a b old l (event_cells c) 0 h (refl, tt) e

-- a start that is no second one
pub started : {E : Type 0} (r : Result (Unit {0}) E) (x : E) (P : Type 0) (b : Bool) → r ≡ (if b then Err x else Ok tt) → b ≡ false → OnOk r P → P
started {E = E} r x P b e f k = let is : r ≡ Ok tt = e ∙ ap (λ (t : Bool). if t then Err x else Ok tt) f in subst (λ (y : Result (Unit {0}) E). OnOk y P) is k

pub not-err : {E : Type 0} (r : Result (Unit {0}) E) (x y : E) (b : Bool) → r ≡ (if b then Err x else Ok tt) → b ≡ false → r ≡ Err y → ⊥
not-err {E = E} r x y b e f k = let is : r ≡ Ok tt = e ∙ ap (λ (t : Bool). if t then Err x else Ok tt) f in cc

-- a sponsor that was made
pub made-word : (w : W) (b : Bool) (n : ℕ) → Some w ≡ (if b then Some (Cap n) else None) → w ≡ Cap n
made-word w true n e = cc
made-word w false n e = cc

pub new-paid : (a : Memory) (old : Ledger) (l : Lane) (next : W) (b : Bool) → nat_lt (length (sheet_in a old)) most_sponsors ≡ b → Paid a old l (new_row (seen a.store) (sheet_in a old) next).charge.quads → Paid a old l (if b then 3 else 1)
new-paid a old l next b e h =
    subst (λ (n : ℕ). Paid a old l n) (quads_are b)
    (subst (λ (t : Bool). Paid a old l (if t then does 0 (SponsorSlot ∷ SpentSlot ∷ []) (Cap (next_quad (seen a.store)) ∷ []) next (Sponsors (Cap (next_quad (seen a.store)))) else goes 0 (undef ∷ []) next).charge.quads) e h)
  where
    quads_are : (t : Bool) → (if t then does 0 (SponsorSlot ∷ SpentSlot ∷ []) (Cap (next_quad (seen a.store)) ∷ []) next (Sponsors (Cap (next_quad (seen a.store)))) else goes 0 (undef ∷ []) next).charge.quads ≡ (if t then 3 else 1)
    quads_are true = refl
    quads_are false = refl

pub full-acts : (a b : Memory) (old : Ledger) (l m : Lane) (next : W) (end : StepEnd) → nat_lt (length (sheet_in a old)) most_sponsors ≡ false → Paid a old l (new_row (seen a.store) (sheet_in a old) next).charge.quads → Turns a b l m (goes 0 (undef ∷ []) next).outcome end
    → Acts a b old old l m (new_row (seen a.store) (sheet_in a old) next).outcome end × Stays a b old old
full-acts a b old l m next end e h t =
    let x = turns-act a b old l m (charge 1 0) next next (goes 0 (undef ∷ []) next).outcome end (new-paid a old l next false e h) (omega arith, omega arith) tt t in
    (second-branch a b old old l m end (nat_lt (length (sheet_in a old)) most_sponsors) (does 0 (SponsorSlot ∷ SpentSlot ∷ []) (Cap (next_quad (seen a.store)) ∷ []) next (Sponsors (Cap (next_quad (seen a.store))))) (goes 0 (undef ∷ []) next) e x.0, x.1)

pub new-acts : (a b c : Memory) (old new : Ledger) (l m : Lane) (w next : W) (end : StepEnd) → nat_lt (length (sheet_in a old)) most_sponsors ≡ true → Paid a old l 3 → w ≡ Cap (used a.store)
    → Shifts a b old new l (SponsorSlot ∷ SpentSlot ∷ []) (Sponsors (Cap (next_quad (seen a.store)))) 1 → Turns b c l m (goes 0 (w ∷ []) next).outcome end
    → Acts a c old new l m (new_row (seen a.store) (sheet_in a old) next).outcome end × Stays a c old new
new-acts a b c old new l m w next end e h word p t =
    let named : w ≡ Cap (next_quad (seen a.store)) = word ∙ ap Cap (sym (next-used a.store)) in
    let x = shifts-act a b old new l (SponsorSlot ∷ SpentSlot ∷ []) (Sponsors (Cap (next_quad (seen a.store)))) 1 h.held p c m 0 (Cap (next_quad (seen a.store)) ∷ []) next end (omega arith)
    (subst (λ (v : W). Turns b c l m (goes 0 (v ∷ []) next).outcome end) named t) in
    (first-branch a c old new l m end (nat_lt (length (sheet_in a old)) most_sponsors) (does 0 (SponsorSlot ∷ SpentSlot ∷ []) (Cap (next_quad (seen a.store)) ∷ []) next (Sponsors (Cap (next_quad (seen a.store))))) (goes 0 (undef ∷ []) next) e x.0, x.1)

pub start-acts : (a c : Memory) (old new : Ledger) (l m : Lane) (who w controller signal next : W) (end : StepEnd) → is_actor (seen a.store) controller ≡ true → is_sponsor (seen a.store) w ≡ true → runs (sheet_in a old) w ≡ false
    → signal ≡ Cap (next_quad (seen a.store)) → controller ≡ item (values_of a l) 1 → w ≡ item (values_of a l) 2 → Acts a c old new l m (does 2 (EventSlot who controller undef ∷ []) [] next (Starts w signal)).outcome end
    → Acts a c old new l m (start_row who (seen a.store) (sheet_in a old) (values_of a l) next).outcome end
start-acts a c old new l m who w controller signal next end actor is off named controller_is w_is k =
    let s = seen a.store in
    let row = does 2 (EventSlot who controller undef ∷ []) [] next (Starts w signal) in
    let one = second-branch a c old new l m end (runs (sheet_in a old) w) (faults 1 1 is_running) row off k in
    let two = first-branch a c old new l m end (is_sponsor s w) (if runs (sheet_in a old) w then faults 1 1 is_running else row) (faults 1 1 not_sponsor) is one in
    let three = first-branch a c old new l m end (is_actor s controller) (if is_sponsor s w then if runs (sheet_in a old) w then faults 1 1 is_running else row else faults 1 1 not_sponsor) (faults 1 1 not_actor) actor two in
    subst (λ (x : Row). Acts a c old new l m x.outcome end)
    (λ i. if is_actor s (controller_is i) then if is_sponsor s (w_is i) then if runs (sheet_in a old) (w_is i) then faults 1 1 is_running else does 2 (EventSlot who (controller_is i) undef ∷ []) [] next (Starts (w_is i) (named i)) else faults 1 1 not_sponsor else faults 1 1 not_actor) three

-- a signal's event is taken, and then its sponsor is started
module _ (a mid b : Memory) (old new : Ledger) (l : Lane) (cell : EventCell) (w signal : W) (h : Paid a old l 1) (event : mid ≡ with_store a (taken a.store (event_cells cell)))
    (is : is_sponsor (seen a.store) w ≡ true) (off : runs (sheet_in a old) w ≡ false) where
  first_shift : Shifts a mid old old l (EventSlot cell.sponsor cell.target cell.message ∷ []) Nothing 0
  first_shift = event-shifts a mid old l cell h event

  pub still-off : runs (sheet_in mid old) w ≡ false
  still-off = ap (λ (rows : List Account). runs rows w) first_shift.sheet_is ∙ off

  pub signal-shifts : sheet_in b new ≡ start (sheet_in mid old) w signal → new ≡ old → Keeps mid b old new (quads_of w) → Shifts a b old new l (EventSlot cell.sponsor cell.target cell.message ∷ []) (Starts w signal) 0
  signal-shifts sheet same keeps =
      shifts-then a mid b old new l (EventSlot cell.sponsor cell.target cell.message ∷ []) (Starts w signal) 0 0 h.held first_shift
      (start-shifts mid old l 0 (shifts-paid a mid old old l (EventSlot cell.sponsor cell.target cell.message ∷ []) Nothing 0 h.held first_shift) b new w signal (h.books.listed w is) sheet same keeps)
