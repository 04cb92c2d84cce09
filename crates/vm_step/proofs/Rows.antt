-- Rows before and after the payment, and how an instruction is put together.
use Rattle.std.proofs.Common.{◌≡◌, ℕ, List, [], ◌∷◌, length, Option, Some, None, Bool, true, false, if◌then◌else◌, nat_lt, IsTrue, IfSome, Result, Ok, Err, refl, ap, ap₂, sym, ◌∙◌, subst, suc}
use Rattle.cap_words.specs.Words.{W, same_word}
use Rattle.cap_words.specs.Seen.{Seen, seen}
use Rattle.quad_memory.specs.Memory.{Memory}
use Rattle.instr_table.specs.declared.charge.Charge.{Charge}
use Rattle.instr_table.specs.declared.charge.Quota.{Quota}
use Rattle.instr_table.specs.declared.op.Op.{Op}
use Rattle.instr_table.specs.declared.op.Op.TheVariants.{SponsorNew, SponsorGrant, SponsorReclaim, SponsorStart, SponsorStop}
use Rattle.instr_table.specs.Code.{fetched}
use Rattle.instr_table.specs.Spelling.{is_op, charge_of}
use Rattle.instr_table.specs.Lists.{item, next_quad}
use Rattle.instr_table.specs.Types.{is_actor, is_sponsor}
use Rattle.instr_table.specs.Event.{Own, Effects, Starts}
use Rattle.cap_words.specs.Seen.{EventSlot, SponsorSlot, SpentSlot}
use Rattle.cap_words.specs.Words.{Cap, undef}
use Rattle.instr_table.specs.Sheet.{Account, account, short, spend, paid, runs, runs_in}
use Rattle.instr_table.specs.Outcome.{Row, charge, does, goes, faults, not_actor, not_sponsor, is_running}
use Rattle.instr_table.specs.Event.{Sponsors}
use Rattle.instr_table.specs.SponsorRows.{most_sponsors}
use Rattle.instr_table.specs.Row.{row, row_at}
use Rattle.instr_table.proofs.Charges.{row-charged, row_at-covers}
use Rattle.instr_table.proofs.Makings.{row_at-makes}
use Rattle.vm_sponsor.specs.declared.answer.RanOut.{RanOut}
use Rattle.vm_sponsor.specs.Answers.{spend_answer}
use Rattle.vm_sponsor.specs.Ledger.{Ledger, names}
use Rattle.vm_sponsor.specs.Sheets.{quads_of}
use Rattle.vm_sponsor.specs.Keeps.{Keeps}
use Rattle.vm_effects.specs.Gathered.{effects_of}
use Rattle.vm_step.specs.declared.lane.Lane.{Lane}
use Rattle.vm_step.specs.declared.lane.StepEnd.{StepEnd}
use Rattle.vm_step.specs.declared.lane.StepEnd.TheVariants.{RanOut as Short}
use Rattle.vm_step.specs.declared.group.Group.TheVariants.{Sponsors as OnSponsors}
use Rattle.vm_step.specs.Stack.{items_from}
use Rattle.instr_table.specs.Lane.{values}
use Rattle.vm_step.specs.Flight.{own_at, Held}
use Rattle.vm_step.specs.Books.{Books}
use Rattle.vm_step.specs.Step.{sheet_in, payer, row_in, ActsBy, Steps, StepsBy, Stays}
use Rattle.vm_step.specs.Groups.{group_of}
use Rattle.vm_step.specs.Moves.{Ready, Turns, plain_row, values_of}
use Rattle.vm_step.specs.Paid.{Paid, Acts, paid_row, paid_row_in, unpaid_row_in}
use Rattle.vm_step.proofs.Going.{turns-act, ready-paid, Pays, pays, stays-refl}

-- ---- operations on no sponsor

plain-row : (own : Own) (op : Op) (s : Seen) (sheet : List Account) (e : Effects) (vs : List W) (k : W) → (group_of op ≡ OnSponsors → ⊥) → paid_row own op s sheet e vs k ≡ row own op s [] e vs k
plain-row own SponsorNew s sheet e vs k h = absurd (h refl)
plain-row own (SponsorGrant n) s sheet e vs k h = absurd (h refl)
plain-row own SponsorReclaim s sheet e vs k h = absurd (h refl)
plain-row own SponsorStart s sheet e vs k h = absurd (h refl)
plain-row own SponsorStop s sheet e vs k h = absurd (h refl)
plain-row own op s sheet e vs k h = refl

plain-row_in : (a : Memory) (sheet : Ledger) (l : Lane) (op : Op) (next : W) → (group_of op ≡ OnSponsors → ⊥) → paid_row_in a sheet l op next ≡ plain_row a l op next
plain-row_in a sheet l op next h = plain-row (own_at (seen a.store) l.event) op (seen a.store) (sheet_in a sheet) (effects_of a.store l.effects) (values_of a l) next h

pub plain-ready : (a : Memory) (sheet : Ledger) (l : Lane) (op : Op) (next : W) → (group_of op ≡ OnSponsors → ⊥) → Paid a sheet l (paid_row_in a sheet l op next).charge.quads → Ready a l (plain_row a l op next).charge.quads
plain-ready a sheet l op next h p = ready-paid a sheet l _ (subst (λ (r : Row). Paid a sheet l r.charge.quads) (plain-row_in a sheet l op next h) p)

pub plain-acts : (a b : Memory) (sheet : Ledger) (l m : Lane) (op : Op) (next : W) (end : StepEnd) → (group_of op ≡ OnSponsors → ⊥) → Paid a sheet l (paid_row_in a sheet l op next).charge.quads → Turns a b l m (plain_row a l op next).outcome end
    → Acts a b sheet sheet l m (paid_row_in a sheet l op next).outcome end × Stays a b sheet sheet
plain-acts a b sheet l m op next end h p t =
    let e = plain-row_in a sheet l op next h in
    let r = plain_row a l op next in
    let own = own_at (seen a.store) l.event in
    let vs = values_of a l in
    let x = turns-act a b sheet l m r.charge own.sponsor (item vs 1) r.outcome end (subst (λ (q : Row). Paid a sheet l q.charge.quads) e p)
    (row_at-covers own (Some (op, next)) (seen a.store) [] (effects_of a.store l.effects) vs) (row_at-makes own (Some (op, next)) (seen a.store) [] (effects_of a.store l.effects) vs) t in
    (subst (λ (q : Row). Acts a b sheet sheet l m q.outcome end) (sym e) x.0, x.1)

-- ---- rows after the payment

length-spend : (rows : List Account) (who : W) (c : Charge) → length (spend rows who c) ≡ length rows
length-spend [] who c = refl
length-spend (a ∷ rows) who c = by (same_word a.sponsor who) (length-spend rows who c)
  where
    by : (b : Bool) → length (spend rows who c) ≡ length rows → length (if b then paid c a ∷ rows else a ∷ spend rows who c) ≡ suc (length rows)
    by true e = refl
    by false e = ap suc e

runs-spend : (rows : List Account) (who w : W) (c : Charge) → runs (spend rows who c) w ≡ runs rows w
runs-spend [] who w c = refl
runs-spend (a ∷ rows) who w c = by (same_word a.sponsor who) (runs-spend rows who w c)
  where
    either : (d : Bool) (x y p q : Account) → runs_in x.standing ≡ runs_in p.standing → runs_in y.standing ≡ runs_in q.standing → runs_in (if d then x else y).standing ≡ runs_in (if d then p else q).standing
    either true x y p q e f = e
    either false x y p q e f = f

    by : (b : Bool) → runs (spend rows who c) w ≡ runs rows w → runs (if b then paid c a ∷ rows else a ∷ spend rows who c) w ≡ runs (a ∷ rows) w
    by true e = either (same_word a.sponsor w) (paid c a) (account rows w) a (account rows w) refl refl
    by false e = either (same_word a.sponsor w) a (account (spend rows who c) w) a (account rows w) refl e

paid-row : (own : Own) (op : Op) (s : Seen) (sheet : List Account) (c : Charge) (e : Effects) (vs : List W) (k : W) → IsTrue (is_op op) → c ≡ (row own op s sheet e vs k).charge → paid_row own op s (spend sheet own.sponsor c) e vs k ≡ row own op s sheet e vs k
paid-row own SponsorNew s sheet c e vs k h f =
    ap (λ (n : ℕ). if nat_lt n most_sponsors then does 0 (SponsorSlot ∷ SpentSlot ∷ []) (Cap (next_quad s) ∷ []) k (Sponsors (Cap (next_quad s))) else goes 0 (undef ∷ []) k) (length-spend sheet own.sponsor c)
paid-row own (SponsorGrant n) s sheet c e vs k h f =
    let none : c ≡ charge 0 0 = f ∙ row-charged own s sheet e vs k (SponsorGrant n) h in
    ap (λ (x : Charge). paid_row own (SponsorGrant n) s (spend sheet own.sponsor x) e vs k) none
paid-row own SponsorStart s sheet c e vs k h f =
    ap (λ (b : Bool).
    if is_actor s (item vs 1)
    then if is_sponsor s (item vs 2)
    then if b then faults 1 1 is_running
    else does 2 (EventSlot own.sponsor (item vs 1) undef ∷ []) [] k (Starts (item vs 2) (Cap (next_quad s)))
    else faults 1 1 not_sponsor
    else faults 1 1 not_actor) (runs-spend sheet own.sponsor (item vs 2) c)
paid-row own op s sheet c e vs k h f = refl

pub row-paid : (a b : Memory) (old new : Ledger) (l : Lane) (c : Charge) (op : Op) (next : W) → Pays a b old new l c → IsTrue (is_op op) → c ≡ (unpaid_row_in a old l op next).charge → paid_row_in b new l op next ≡ unpaid_row_in a old l op next
row-paid a b old new l c op next p h f =
    (λ i. paid_row (own_at (p.seen_is i) l.event) op (p.seen_is i) (p.sheet_is i) (p.effects_are i) (values (items_from (p.seen_is i) l.depth l.stack)) next)
    ∙ paid-row (own_at (seen a.store) l.event) op (seen a.store) (sheet_in a old) c (effects_of a.store l.effects) (values_of a l) next h f

-- ---- the whole instruction

-- the row at a code word
pub row-fetched : (a : Memory) (sheet : Ledger) (l : Lane) (o : Option (Op × W)) → o ≡ fetched (seen a.store) l.code → row_in a sheet l ≡ row_at (own_at (seen a.store) l.event) o (seen a.store) (sheet_in a sheet) (effects_of a.store l.effects) (values_of a l)
row-fetched a sheet l o e = ap (λ (x : Option (Op × W)). row_at (own_at (seen a.store) l.event) x (seen a.store) (sheet_in a sheet) (effects_of a.store l.effects) (values_of a l)) (sym e)

answer-ok : (o : Option Quota) → ◌≡◌ {A = Result (Unit {0}) RanOut} (Ok tt) (spend_answer o) → o ≡ None
answer-ok None e = refl
answer-ok (Some kind) e = cc

answer-err : (o : Option Quota) (r : RanOut) → ◌≡◌ {A = Result (Unit {0}) RanOut} (Err r) (spend_answer o) → o ≡ Some r.kind
answer-err None r e = cc
answer-err (Some kind) r e = cc

-- what the call that pays says where it does
pub paid-by : (a b : Memory) (old new : Ledger) (l : Lane) (c : Charge) (who : W) → Books a old → Held a.store (names old.rows) l → who ≡ payer a l
    → ◌≡◌ {A = Result (Unit {0}) RanOut} (Ok tt) (spend_answer (short (account (sheet_in a old) who) c)) → sheet_in b new ≡ spend (sheet_in a old) who c → new ≡ old → Keeps a b old new (quads_of who)
    → (short (account (sheet_in a old) (payer a l)) c ≡ None) × Pays a b old new l c
paid-by a b old new l c who books held e answer sheet same keeps =
    let enough : short (account (sheet_in a old) (payer a l)) c ≡ None = ap (λ (w : W). short (account (sheet_in a old) w) c) (sym e) ∙ answer-ok _ answer in (
      enough,
      pays a b old new l c books held enough (sheet ∙ ap (λ (w : W). spend (sheet_in a old) w c) e) same (subst (λ (w : W). Keeps a b old new (quads_of w)) e keeps),
    )

-- a row whose charge is covered
pub steps-paid : (a b : Memory) (old new : Ledger) (l m : Lane) (r : Row) (end : StepEnd) → row_in a old l ≡ r → short (account (sheet_in a old) (payer a l)) r.charge ≡ None → ActsBy a b old new l m r.charge r.outcome end → Steps a b old new l m end
steps-paid a b old new l m r end e h k = subst (λ (q : Row). StepsBy a b old new l m (short (account (sheet_in a old) (payer a l)) q.charge) q end) (sym e) (subst (λ (o : Option Quota). StepsBy a b old new l m o r end) (sym h) k)

-- a row whose charge is not
pub steps-short : (a b : Memory) (old new : Ledger) (l : Lane) (r : Row) (c : Charge) (who : W) (out : RanOut) → row_in a old l ≡ r → c ≡ r.charge → who ≡ payer a l
    → ◌≡◌ {A = Result (Unit {0}) RanOut} (Err out) (spend_answer (short (account (sheet_in a old) who) c)) → b ≡ a → new ≡ old → Steps a b old new l l (Short out.kind)
steps-short a b old new l r c who out e f w answer after same =
    let h : short (account (sheet_in a old) (payer a l)) r.charge ≡ Some out.kind =
    ap₂ (λ (x : W) (y : Charge). short (account (sheet_in a old) x) y) (sym w) (sym f) ∙ answer-err _ out answer in
    subst (λ (q : Row). StepsBy a b old new l l (short (account (sheet_in a old) (payer a l)) q.charge) q (Short out.kind)) (sym e)
    (subst (λ (o : Option Quota). StepsBy a b old new l l o r (Short out.kind)) (sym h) (refl, after, same, refl))

pub stays-same : (a b : Memory) (old new : Ledger) → Books a old → b ≡ a → new ≡ old → Stays a b old new
stays-same a b old new h e f = subst (λ (x : Memory). Stays a x old new) (sym e) (subst (λ (x : Ledger). Stays a a old x) (sym f) (stays-refl a old h))

-- ---- the room of a charge that the table states

stated-quads : (o : Option Charge) (c : Charge) (r : Row) → Some c ≡ o → IfSome o (λ (x : Charge). r.charge ≡ x) → r.charge ≡ c
stated-quads None c r e h = cc
stated-quads (Some x) c r e h = let k : x ≡ c = cc in h ∙ k

pub stated-ready : (a : Memory) (l : Lane) (op : Op) (next : W) (c : Charge) → IsTrue (is_op op) → Some c ≡ charge_of op → Ready a l (plain_row a l op next).charge.quads → Ready a l c.quads
stated-ready a l op next c h e r =
    subst (λ (x : Charge). Ready a l x.quads)
    (stated-quads (charge_of op) c (plain_row a l op next) e (row-charged (own_at (seen a.store) l.event) (seen a.store) [] (effects_of a.store l.effects) (values_of a l) next op h)) r
