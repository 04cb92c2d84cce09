-- What each call does to the plain sheet, from what it does to a sponsor's quads and row.
use Rattle.std.proofs.Common.{◌≡◌, ℕ, ◌+◌, ◌-◌, ◌*◌, ◌^◌, ◌<◌, ◌≤◌, List, Some, None, Bool, true, false, nat_lt, if◌then◌else◌, refl, ap, sym, ◌∙◌, subst, arith}
use Rattle.std.specs.Prelude.{not, Result, Ok, Err}
use Rattle.std.proofs.lemmas.Bool.Decides.{nat_tests}
use Rattle.cap_words.specs.declared.word.Kind.TheVariants.{Cap as CapKind, Const as ConstKind, Rom as RomKind}
use Rattle.cap_words.specs.Words.{W, Fix, Rom, Ram, Cap, kind_of, same_word, undef, nil}
use Rattle.cap_words.specs.Store.{Store}
use Rattle.cap_words.specs.Frame.{Among}
use Rattle.quad_memory.specs.declared.cells.SponsorCell.{SponsorCell}
use Rattle.quad_memory.specs.Memory.{Memory}
use Rattle.quad_memory.specs.Cells.{sponsor_at}
use Rattle.instr_table.specs.declared.charge.Charge.{Charge}
use Rattle.instr_table.specs.declared.charge.Quota.{Quota}
use Rattle.instr_table.specs.declared.charge.Quota.TheVariants.{Memory as MemoryKind, Events, Cycles}
use Rattle.instr_table.specs.Sheet.{Account, Standing, Stopped, Running, runs, runs_in, account, at_account, amount, at_amount, held, paid, spend, short, passes, receives, stands_as, transfer, reclaim}
use Rattle.vm_sponsor.specs.declared.amounts.Row.{Row}
use Rattle.vm_sponsor.specs.Ledger.{Ledger, names, of_kind, row_of, at_row, row_passing, row_receiving}
use Rattle.vm_sponsor.specs.Totals.{most_held, moved, total}
use Rattle.vm_sponsor.specs.Sheets.{standing_in, account_with, sheet_of, with_held, HasAmounts, Fits, Belongs, quads_of}
use Rattle.vm_sponsor.specs.Keeps.{Keeps}
use Rattle.vm_sponsor.specs.declared.answer.Short.{Short}
use Rattle.vm_sponsor.specs.Answers.{short_answer}
use Rattle.vm_sponsor.proofs.Plain.{kept-total, sound-same, sound-spend, sound-passes, sound-receives, account-balanced, account-bounded, moved-same, held-second, held-third}
use Rattle.vm_sponsor.proofs.Rows.{account-read, sponsors-sheet_of, sheet_set, cell_set, memory_after, ledger_after}

-- a sponsor of the sheet, as a call read it
pub record Read (s : Store) (rows : List Row) (w : W) (c : SponsorCell) : Type 0 where
  pub named : Among w (names rows)
  pub cell : sponsor_at s w ≡ Some c
  pub amounts : HasAmounts c

pub read-account : (s : Store) (rows : List Row) (w : W) (c : SponsorCell) → Read s rows w c → account (sheet_of s rows) w ≡ account_with (row_of w rows) c
read-account s rows w c k = account-read s rows w c k.named k.cell

-- a sponsor runs unless its signal is `#?`
pub runs-standing : (w : W) → runs_in (standing_in w) ≡ not (same_word w undef)
runs-standing w = by (same_word w undef) (same_word w nil)
  where
    by : (a b : Bool) → runs_in (if a then Stopped else if b then Running None else Running (Some w)) ≡ not a
    by true b = refl
    by false true = refl
    by false false = refl

pub read-runs : (s : Store) (rows : List Row) (w : W) (c : SponsorCell) → Read s rows w c → runs (sheet_of s rows) w ≡ not (same_word c.signal undef)
read-runs s rows w c k = ap (λ (a : Account). runs_in a.standing) (read-account s rows w c k) ∙ runs-standing c.signal

-- what is in its quads fits
pub read-fits : (s : Store) (sheet : Ledger) (w : W) (c : SponsorCell) → Belongs s sheet → Read s sheet.rows w c → Fits c
read-fits s sheet w c b k =
    let e = read-account s sheet.rows w c k in
    let rows = sheet_of s sheet.rows in
    let r = row_of w sheet.rows in
    let memory : (amount MemoryKind (account rows w)).spent + (amount MemoryKind (account rows w)).held ≤ most_held = omega (arith, kept-total MemoryKind rows w, b.sound.fits MemoryKind) in
    let events : (amount Events (account rows w)).spent + (amount Events (account rows w)).held ≤ most_held = omega (arith, kept-total Events rows w, b.sound.fits Events) in
    let cycles : (amount Cycles (account rows w)).spent + (amount Cycles (account rows w)).held ≤ most_held = omega (arith, kept-total Cycles rows w, b.sound.fits Cycles) in
    record {
      memory = subst (λ (a : Account). a.memory.spent + a.memory.held ≤ most_held) e memory;
      events = subst (λ (a : Account). a.events.spent + a.events.held ≤ most_held) e events;
      cycles = subst (λ (a : Account). a.cycles.spent + a.cycles.held ≤ most_held) e cycles;
    }

-- what a call read as held is what the sheet says
pub read-held : (s : Store) (rows : List Row) (w : W) (c : SponsorCell) (kind : Quota) (h : ℕ) → Read s rows w c → h ≡ (amount kind (account_with (row_of w rows) c)).held → h ≡ held (sheet_of s rows) w kind
read-held s rows w c kind h k e = e ∙ ap (λ (a : Account). (amount kind a).held) (sym (read-account s rows w c k))

-- and fits
pub held-most : (s : Store) (sheet : Ledger) (w : W) (kind : Quota) → Belongs s sheet → held (sheet_of s sheet.rows) w kind ≤ most_held
held-most s sheet w kind b = omega (arith, kept-total kind (sheet_of s sheet.rows) w, b.sound.fits kind)

-- and with more, where all have room for it
pub held-more : (s : Store) (sheet : Ledger) (w : W) (kind : Quota) (n : ℕ) → total kind (sheet_of s sheet.rows) + moved kind kind n ≤ most_held → held (sheet_of s sheet.rows) w kind + n ≤ most_held
held-more s sheet w kind n f = omega (arith, kept-total kind (sheet_of s sheet.rows) w, moved-same kind n, f)

row-amounts : (kind : Quota) (r : Row) (c : SponsorCell) → ((amount kind (account_with r c)).received ≡ of_kind kind r.received) × ((amount kind (account_with r c)).passed ≡ of_kind kind r.passed)
row-amounts MemoryKind r c = (refl, refl)
row-amounts Events r c = (refl, refl)
row-amounts Cycles r c = (refl, refl)

-- what a sponsor received and passed on has room for one more transfer
pub received-room : (s : Store) (sheet : Ledger) (w : W) (c : SponsorCell) (kind : Quota) (n : ℕ) → Belongs s sheet → Read s sheet.rows w c → sheet.transfers < 2 ^ 32 + 2 → n < 2 ^ 32 → of_kind kind (row_of w sheet.rows).received + n < 2 ^ 64
received-room s sheet w c kind n b k few small =
    let rows = sheet_of s sheet.rows in
    let most = account-bounded ((sheet.transfers + 1) * most_held) rows w b.sound.bounded kind in
    let e = ap (λ (a : Account). (amount kind a).received) (read-account s sheet.rows w c k) in
    omega (arith, most, e, (row-amounts kind (row_of w sheet.rows) c).0, few, small)

pub passed-room : (s : Store) (sheet : Ledger) (w : W) (c : SponsorCell) (kind : Quota) (n : ℕ) → Belongs s sheet → Read s sheet.rows w c → sheet.transfers < 2 ^ 32 + 2 → n < 2 ^ 32 → of_kind kind (row_of w sheet.rows).passed + n < 2 ^ 64
passed-room s sheet w c kind n b k few small =
    let rows = sheet_of s sheet.rows in
    let most = account-bounded ((sheet.transfers + 1) * most_held) rows w b.sound.bounded kind in
    let balance = account-balanced rows w b.sound.balanced kind in
    let e = ap (λ (a : Account). (amount kind a).passed) (read-account s sheet.rows w c k) in
    omega (arith, most, balance, e, (row-amounts kind (row_of w sheet.rows) c).1, few, small)

-- ---- paying

pub spend_step : (m : Memory) (sheet : Ledger) (w : W) (b c : SponsorCell) (charge : Charge) → Belongs m.store sheet → Read m.store sheet.rows w b → HasAmounts c → ((r : Row) → account_with r c ≡ paid charge (account_with r b)) → short (account_with (row_of w sheet.rows) b) charge ≡ None
    → (sheet_of (memory_after m w c).store sheet.rows ≡ spend (sheet_of m.store sheet.rows) w charge) × Keeps m (memory_after m w c) sheet sheet (quads_of w)
spend_step m sheet w b c charge belongs k amounts is none =
    let e = read-account m.store sheet.rows w b k in
    let rows = sheet_of m.store sheet.rows in
    cell_set m sheet w c (paid charge) belongs k.named amounts (is (row_of w sheet.rows) ∙ ap (paid charge) (sym e))
    (sound-spend sheet.transfers rows w charge (ap (λ (a : Account). short a charge) e ∙ none) belongs.sound)

-- ---- starting and stopping

pub signal_step : (m : Memory) (sheet : Ledger) (w : W) (b : SponsorCell) (signal : W) (standing : Standing) → Belongs m.store sheet → Read m.store sheet.rows w b → standing_in signal ≡ standing
    → (sheet_of (memory_after m w (record b { signal = signal })).store sheet.rows ≡ at_account w (stands_as standing) (sheet_of m.store sheet.rows)) × Keeps m (memory_after m w (record b { signal = signal })) sheet sheet (quads_of w)
signal_step m sheet w b signal standing belongs k is =
    let e = read-account m.store sheet.rows w b k in
    let rows = sheet_of m.store sheet.rows in
    let r = row_of w sheet.rows in
    let a = k.amounts in
    cell_set m sheet w (record b { signal = signal }) (stands_as standing) belongs k.named
    (record { memory = a.memory; events = a.events; cycles = a.cycles; memory_spent = a.memory_spent; events_spent = a.events_spent; cycles_spent = a.cycles_spent })
    (ap (λ (x : Standing). stands_as x (account_with r b)) is ∙ ap (stands_as standing) (sym e))
    (sound-same sheet.transfers rows w standing belongs.sound)

no_cap : (b : Bool) → (if b then ConstKind else RomKind) ≡ CapKind → ⊥
no_cap true h = cc
no_cap false h = cc

pub standing-cap : (w : W) → kind_of w ≡ CapKind → standing_in w ≡ Running (Some w)
standing-cap (Fix n) k = cc
standing-cap (Rom n) k = absurd (no_cap (nat_lt n 16) k)
standing-cap (Ram n) k = cc
standing-cap (Cap n) k = refl

-- ---- either half of a transfer

held_amounts : (kind : Quota) (n : ℕ) (c : SponsorCell) → HasAmounts c → HasAmounts (with_held kind n c)
held_amounts MemoryKind n c a = record { memory = refl; events = a.events; cycles = a.cycles; memory_spent = a.memory_spent; events_spent = a.events_spent; cycles_spent = a.cycles_spent }
held_amounts Events n c a = record { memory = a.memory; events = refl; cycles = a.cycles; memory_spent = a.memory_spent; events_spent = a.events_spent; cycles_spent = a.cycles_spent }
held_amounts Cycles n c a = record { memory = a.memory; events = a.events; cycles = refl; memory_spent = a.memory_spent; events_spent = a.events_spent; cycles_spent = a.cycles_spent }

passing_account : (kind : Quota) (n : ℕ) (r : Row) (c : SponsorCell) → account_with (row_passing kind n r) (with_held kind ((amount kind (account_with r c)).held - n) c) ≡ at_amount kind (passes n) (account_with r c)
passing_account MemoryKind n r c = refl
passing_account Events n r c = refl
passing_account Cycles n r c = refl

receiving_account : (kind : Quota) (n : ℕ) (r : Row) (c : SponsorCell) → account_with (row_receiving kind n r) (with_held kind ((amount kind (account_with r c)).held + n) c) ≡ at_amount kind (receives n) (account_with r c)
receiving_account MemoryKind n r c = refl
receiving_account Events n r c = refl
receiving_account Cycles n r c = refl

pub pass_step : (m : Memory) (sheet : Ledger) (w : W) (b : SponsorCell) (kind : Quota) (n h : ℕ) → Belongs m.store sheet → Read m.store sheet.rows w b → n ≤ held (sheet_of m.store sheet.rows) w kind → h ≡ (amount kind (account_with (row_of w sheet.rows) b)).held
    → (sheet_of (memory_after m w (with_held kind (h - n) b)).store (at_row w (row_passing kind n) sheet.rows) ≡ at_account w (at_amount kind (passes n)) (sheet_of m.store sheet.rows)) × Keeps m (memory_after m w (with_held kind (h - n) b)) sheet (ledger_after sheet w (row_passing kind n) sheet.transfers) (quads_of w)
pass_step m sheet w b kind n h belongs k enough is =
    let e = read-account m.store sheet.rows w b k in
    let r = row_of w sheet.rows in
    sheet_set m sheet w (with_held kind (h - n) b) (at_amount kind (passes n)) (row_passing kind n) sheet.transfers belongs k.named (held_amounts kind (h - n) b k.amounts) (λ x. refl)
    (ap (λ (x : ℕ). account_with (row_passing kind n r) (with_held kind (x - n) b)) is ∙ passing_account kind n r b ∙ ap (at_amount kind (passes n)) (sym e))
    (sound-passes sheet.transfers (sheet_of m.store sheet.rows) w kind n enough belongs.sound)

pub receive_step : (m : Memory) (sheet : Ledger) (w : W) (b : SponsorCell) (kind : Quota) (n h : ℕ) → Belongs m.store sheet → Read m.store sheet.rows w b → ((other : Quota) → total other (sheet_of m.store sheet.rows) + moved kind other n ≤ most_held) → h ≡ (amount kind (account_with (row_of w sheet.rows) b)).held
    → (sheet_of (memory_after m w (with_held kind (h + n) b)).store (at_row w (row_receiving kind n) sheet.rows) ≡ at_account w (at_amount kind (receives n)) (sheet_of m.store sheet.rows)) × Keeps m (memory_after m w (with_held kind (h + n) b)) sheet (ledger_after sheet w (row_receiving kind n) (sheet.transfers + 1)) (quads_of w)
receive_step m sheet w b kind n h belongs k fits is =
    let e = read-account m.store sheet.rows w b k in
    let r = row_of w sheet.rows in
    let rows = sheet_of m.store sheet.rows in
    sheet_set m sheet w (with_held kind (h + n) b) (at_amount kind (receives n)) (row_receiving kind n) (sheet.transfers + 1) belongs k.named (held_amounts kind (h + n) b k.amounts) (λ x. refl)
    (ap (λ (x : ℕ). account_with (row_receiving kind n r) (with_held kind (x + n) b)) is ∙ receiving_account kind n r b ∙ ap (at_amount kind (receives n)) (sym e))
    (sound-receives sheet.transfers rows w kind n (subst (λ (vs : List W). Among w vs) (sym (sponsors-sheet_of m.store sheet.rows)) k.named) fits belongs.sound)

-- the same of the values that a call ends with
pub passed : (m after : Memory) (sheet new : Ledger) (w : W) (b : SponsorCell) (kind : Quota) (n h : ℕ) → Belongs m.store sheet → Read m.store sheet.rows w b → n ≤ held (sheet_of m.store sheet.rows) w kind → h ≡ (amount kind (account_with (row_of w sheet.rows) b)).held → after ≡ memory_after m w (with_held kind (h - n) b) → new ≡ ledger_after sheet w (row_passing kind n) sheet.transfers
    → (sheet_of after.store new.rows ≡ at_account w (at_amount kind (passes n)) (sheet_of m.store sheet.rows)) × Keeps m after sheet new (quads_of w)
passed m after sheet new w b kind n h belongs k enough is e f =
    let Ends : Memory → Ledger → Type 0 = λ x y. (sheet_of x.store y.rows ≡ at_account w (at_amount kind (passes n)) (sheet_of m.store sheet.rows)) × Keeps m x sheet y (quads_of w) in
    let step = pass_step m sheet w b kind n h belongs k enough is in
    subst (λ (y : Ledger). Ends after y) (sym f) (subst (λ (x : Memory). Ends x (ledger_after sheet w (row_passing kind n) sheet.transfers)) (sym e) step)

pub received : (m after : Memory) (sheet new : Ledger) (w : W) (b : SponsorCell) (kind : Quota) (n h : ℕ) → Belongs m.store sheet → Read m.store sheet.rows w b → ((other : Quota) → total other (sheet_of m.store sheet.rows) + moved kind other n ≤ most_held) → h ≡ (amount kind (account_with (row_of w sheet.rows) b)).held → after ≡ memory_after m w (with_held kind (h + n) b) → new ≡ ledger_after sheet w (row_receiving kind n) (sheet.transfers + 1)
    → (sheet_of after.store new.rows ≡ at_account w (at_amount kind (receives n)) (sheet_of m.store sheet.rows)) × Keeps m after sheet new (quads_of w)
received m after sheet new w b kind n h belongs k fits is e f =
    let Ends : Memory → Ledger → Type 0 = λ x y. (sheet_of x.store y.rows ≡ at_account w (at_amount kind (receives n)) (sheet_of m.store sheet.rows)) × Keeps m x sheet y (quads_of w) in
    let step = receive_step m sheet w b kind n h belongs k fits is in
    subst (λ (y : Ledger). Ends after y) (sym f) (subst (λ (x : Memory). Ends x (ledger_after sheet w (row_receiving kind n) (sheet.transfers + 1))) (sym e) step)

-- ---- whole transfers

-- the answer of a grant
short_by : (h n : ℕ) (b : Bool) → nat_lt h n ≡ b → h < n → ◌≡◌ {A = Result (Unit {0}) Short} (Err (record { held = h })) (if b then Err (record { held = h }) else Ok tt)
short_by h n true e k = refl
short_by h n false e k = absurd (grind (arith, nat_tests))

enough_by : (h n : ℕ) (b : Bool) → nat_lt h n ≡ b → n ≤ h → ◌≡◌ {A = Result (Unit {0}) Short} (Ok tt) (if b then Err (record { held = h }) else Ok tt)
enough_by h n true e k = absurd (grind (arith, nat_tests))
enough_by h n false e k = refl

pub short-answered : (h n : ℕ) → h < n → ◌≡◌ {A = Result (Unit {0}) Short} (Err (record { held = h })) (short_answer h n)
short-answered h n k = short_by h n (nat_lt h n) refl k

pub enough-answered : (h n : ℕ) → n ≤ h → ◌≡◌ {A = Result (Unit {0}) Short} (Ok tt) (short_answer h n)
enough-answered h n k = enough_by h n (nat_lt h n) refl k

-- a reclaim, from one kind to the next
pub reclaimed : (a b c d : List Account) (from to : W) → b ≡ transfer a from to MemoryKind (held a from MemoryKind) → c ≡ transfer b from to Events (held b from Events) → d ≡ transfer c from to Cycles (held c from Cycles) → d ≡ reclaim a from to
reclaimed a b c d from to e f g =
    let m = held a from MemoryKind in
    let n = held a from Events in
    let one = transfer a from to MemoryKind m in
    let two = transfer one from to Events n in
    let second : c ≡ two = f ∙ ap (λ (x : List Account). transfer x from to Events (held x from Events)) e ∙ ap (λ (k : ℕ). transfer one from to Events k) (held-second a from to from m) in
    g ∙ ap (λ (x : List Account). transfer x from to Cycles (held x from Cycles)) second ∙ ap (λ (k : ℕ). transfer two from to Cycles k) (held-third a from to from m n)
