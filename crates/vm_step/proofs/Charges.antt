-- What the charges are that depend on the state.
use Rattle.std.proofs.Common.{◌≡◌, ℕ, suc, zero, List, [], ◌∷◌, length, Option, Some, None, Bool, true, false, if◌then◌else◌, nat_lt, IsTrue, IfSome, refl, ap, sym, ◌∙◌, arith}
use Rattle.std.specs.Prelude.{slice_get, option_map, is_none}
use Rattle.std.proofs.lemmas.Bool.Decides.{nat_tests}
use Rattle.cap_words.specs.Words.{W, Cap, undef}
use Rattle.cap_words.specs.Seen.{Seen, SponsorSlot, SpentSlot, seen}
use Rattle.quad_memory.specs.Memory.{Memory}
use Rattle.instr_table.specs.declared.charge.Charge.{Charge}
use Rattle.instr_table.specs.declared.op.Op.{Op}
use Rattle.instr_table.specs.Spelling.{is_op, charge_of}
use Rattle.instr_table.specs.Lists.{next_quad}
use Rattle.instr_table.specs.Event.{Sponsors}
use Rattle.instr_table.specs.Sheet.{Account}
use Rattle.instr_table.specs.Outcome.{Row, charge, does, goes}
use Rattle.instr_table.specs.SponsorRows.{most_sponsors, new_row}
use Rattle.instr_table.proofs.Charges.{row-charged}
use Rattle.vm_sponsor.specs.Ledger.{Ledger}
use Rattle.vm_effects.specs.Gathered.{effects_of}
use Rattle.vm_step.specs.declared.lane.Lane.{Lane}
use Rattle.vm_step.specs.Flight.{own_at}
use Rattle.vm_step.specs.Step.{sheet_in}
use Rattle.vm_step.specs.Moves.{values_of}
use Rattle.vm_step.specs.Paid.{unpaid_row_in}

stated : (o : Option Charge) (c : Charge) (r : Row) → Some c ≡ o → IfSome o (λ (x : Charge). r.charge ≡ x) → c ≡ r.charge
stated None c r e h = cc
stated (Some x) c r e h = let k : c ≡ x = cc in k ∙ sym h

-- a charge that the table states
pub charged : (m : Memory) (sheet : Ledger) (l : Lane) (op : Op) (c : Charge) (next : W) → IsTrue (is_op op) → Some c ≡ charge_of op → c ≡ (unpaid_row_in m sheet l op next).charge
charged m sheet l op c next h e =
    stated (charge_of op) c (unpaid_row_in m sheet l op next) e (row-charged (own_at (seen m.store) l.event) (seen m.store) (sheet_in m sheet) (effects_of m.store l.effects) (values_of m l) next op h)

-- what a new sponsor costs
pub new-charged : (s : Seen) (sheet : List Account) (k : W) (b : Bool) → b ≡ nat_lt (length sheet) most_sponsors → charge (if b then 3 else 1) 0 ≡ (new_row s sheet k).charge
new-charged s sheet k b e = ap (λ (x : Bool). charge (if x then 3 else 1) 0) e ∙ by (nat_lt (length sheet) most_sponsors)
  where
    by : (x : Bool) → charge (if x then 3 else 1) 0 ≡ (if x then does 0 (SponsorSlot ∷ SpentSlot ∷ []) (Cap (next_quad s) ∷ []) k (Sponsors (Cap (next_quad s))) else goes 0 (undef ∷ []) k).charge
    by true = refl
    by false = refl

-- there is room where the last place is empty
pub grows-until : {A : Type 0} {B : Type 0} (f : A → B) (rows : List A) (n : ℕ) → is_none (option_map f (slice_get rows n)) ≡ nat_lt (length rows) (suc n)
grows-until f [] n = sym (grind (arith, nat_tests))
grows-until f (a ∷ rows) zero = sym (grind (arith, nat_tests))
grows-until f (a ∷ rows) (suc n) = grows-until f rows n ∙ same (length rows) n
  where
    same : (k n : ℕ) → nat_lt k (suc n) ≡ nat_lt (suc k) (suc (suc n))
    same k n = grind (arith, nat_tests)
