-- What a new sponsor does to the sheet and the quads.
use Rattle.std.proofs.Common.{◌≡◌, ℕ, ◌+◌, ◌*◌, ◌≤◌, List, [], ◌∷◌, ◌++◌, refl, ap, ap₂, sym, ◌∙◌, subst, inl, inr, arith}
use Rattle.std.proofs.lemmas.List.{map-append}
use Rattle.cap_words.specs.Words.{W, Cap, undef, nil}
use Rattle.cap_words.specs.Store.{Store, Cell, used, taken}
use Rattle.cap_words.specs.declared.word.Tag.TheVariants.{SponsorHeld}
use Rattle.cap_words.specs.Seen.{SponsorSlot, SpentSlot, seen, grown}
use Rattle.cap_words.specs.Frame.{Among, Framed}
use Rattle.cap_words.proofs.Stores.{named}
use Rattle.cap_words.proofs.Erased.{seen-taken}
use Rattle.cap_words.proofs.Frames.{among-split, framed-taken}
use Rattle.quad_memory.specs.Cells.{sponsor_cells}
use Rattle.quad_memory.proofs.Typed.{sponsor-quads, sponsor-taken, sponsor-first}
use Rattle.instr_table.specs.declared.charge.Quota.{Quota}
use Rattle.instr_table.specs.declared.charge.Quota.TheVariants.{Memory, Events, Cycles}
use Rattle.instr_table.specs.Sheet.{Account, with_sponsor}
use Rattle.vm_sponsor.specs.declared.amounts.Amounts.{Amounts}
use Rattle.vm_sponsor.specs.declared.amounts.Row.{Row}
use Rattle.vm_sponsor.specs.Ledger.{Ledger, names, no_amounts}
use Rattle.vm_sponsor.specs.Totals.{IsSound, IsBalanced, ReceivedAtMost, most_held, total}
use Rattle.vm_sponsor.specs.Sheets.{account_with, account_in, cell_or_new, fresh_cell, root_account, sheet_of, HasAmounts, IsThere, Apart, Belongs}
use Rattle.vm_sponsor.proofs.Plain.{sound-new}
use Rattle.vm_sponsor.proofs.Rows.{sheet-same}

-- the row of a new sponsor
abbrev pub fresh_row : W → Amounts → Row
fresh_row w a = record { sponsor = w; received = a; passed = no_amounts }

names-push : (rows : List Row) (r : Row) → names (rows ++ r ∷ []) ≡ names rows ++ r.sponsor ∷ []
names-push [] r = refl
names-push (x ∷ rows) r = ap (λ vs. x.sponsor ∷ vs) (names-push rows r)

apart-push : (ws : List W) (w : W) → Apart ws → (Among w ws → ⊥) → Apart (ws ++ w ∷ [])
apart-push [] w d o = (λ i. i, tt)
apart-push (v ∷ ws) w d o = (λ i. elim (among-split v ws (w ∷ []) i) [ inl k ↦ d.0 k | inr k ↦ elim k [ inl e ↦ o (inl (sym e)) | inr n ↦ n ] ], apart-push ws w d.1 (λ i. o (inr i)))

-- a word that is not taken yet names no sponsor
fresh-word : (s : Store) (rows : List Row) → ((w : W) → Among w (names rows) → IsThere s w) → Among (Cap (used s)) (names rows) → ⊥
fresh-word s rows there i =
    let j = there (Cap (used s)) i in
    let q = sponsor-quads s (Cap (used s)) j.0 j.1 in
    let h = (named s SponsorHeld (Cap (used s)) q.0 q.2).within in
    omega (arith, h)

fresh-amounts : (signal : W) (a : Amounts) → HasAmounts (fresh_cell signal a)
fresh-amounts signal a = record { memory = refl; events = refl; cycles = refl; memory_spent = refl; events_spent = refl; cycles_spent = refl }

-- the account of a new sponsor
account-fresh : (s : Store) (signal : W) (a : Amounts) → account_in (taken s (sponsor_cells (fresh_cell signal a))) (fresh_row (Cap (used s)) a) ≡ account_with (fresh_row (Cap (used s)) a) (fresh_cell signal a)
account-fresh s signal a = ap (λ o. account_with (fresh_row (Cap (used s)) a) (cell_or_new o)) (sponsor-first s (fresh_cell signal a))

pub there-taken : (s : Store) (cells : List Cell) (w : W) → IsThere s w → IsThere (taken s cells) w
there-taken s cells w j = (j.0, sponsor-taken s cells w j.0 j.1, j.2)

pub sheet-taken : (s : Store) (cells : List Cell) (rows : List Row) → ((w : W) → Among w (names rows) → IsThere s w) → sheet_of (taken s cells) rows ≡ sheet_of s rows
sheet-taken s cells rows there = sheet-same s (taken s cells) rows (λ w i. let j = there w i in sponsor-taken s cells w j.0 j.1 ∙ sym j.1)

-- ---- the first sponsor

root-balanced : (w : W) (a : Amounts) → IsBalanced (root_account w a)
root-balanced w a Memory = omega arith
root-balanced w a Events = omega arith
root-balanced w a Cycles = omega arith

root-bounded : (w : W) (a : Amounts) → a.memory ≤ most_held → a.events ≤ most_held → a.cycles ≤ most_held → ReceivedAtMost ((0 + 1) * most_held) (root_account w a)
root-bounded w a m e c Memory = omega (arith, m)
root-bounded w a m e c Events = omega (arith, e)
root-bounded w a m e c Cycles = omega (arith, c)

root-fits : (w : W) (a : Amounts) (kind : Quota) → a.memory ≤ most_held → a.events ≤ most_held → a.cycles ≤ most_held → total kind (root_account w a ∷ []) ≤ most_held
root-fits w a Memory m e c = omega (arith, m)
root-fits w a Events m e c = omega (arith, e)
root-fits w a Cycles m e c = omega (arith, c)

root_step : (s : Store) (room : ℕ) (a : Amounts) → a.memory ≤ most_held → a.events ≤ most_held → a.cycles ≤ most_held
    → (sheet_of (taken s (sponsor_cells (fresh_cell nil a))) (fresh_row (Cap (used s)) a ∷ []) ≡ root_account (Cap (used s)) a ∷ []) × Belongs (taken s (sponsor_cells (fresh_cell nil a))) (record { rows = fresh_row (Cap (used s)) a ∷ []; transfers = 0; room = room })
root_step s room a m e c =
    let w = Cap (used s) in
    let t = taken s (sponsor_cells (fresh_cell nil a)) in
    let is : sheet_of t (fresh_row w a ∷ []) ≡ root_account w a ∷ [] = ap (λ (x : Account). x ∷ []) (account-fresh s nil a) in (
      is,
      record {
        apart = (λ i. i, tt);
        there = λ v i. elim i [ inl k ↦ subst (λ (x : W). IsThere t x) (sym k) (fresh_cell nil a, sponsor-first s (fresh_cell nil a), fresh-amounts nil a) | inr n ↦ absurd n ];
        sound = subst (λ (l : List Account). IsSound 0 l) (sym is) (record { balanced = (root-balanced w a, tt); bounded = (root-bounded w a m e c, tt); fits = λ kind. root-fits w a kind m e c });
      },
    )

-- ---- another one

make_step : (s : Store) (sheet : Ledger) → Belongs s sheet
    → (sheet_of (taken s (sponsor_cells (fresh_cell undef no_amounts))) (sheet.rows ++ fresh_row (Cap (used s)) no_amounts ∷ []) ≡ with_sponsor (sheet_of s sheet.rows) (Cap (used s))) × Belongs (taken s (sponsor_cells (fresh_cell undef no_amounts))) (record { rows = sheet.rows ++ fresh_row (Cap (used s)) no_amounts ∷ []; transfers = sheet.transfers; room = sheet.room })
make_step s sheet b =
    let w = Cap (used s) in
    let cells = sponsor_cells (fresh_cell undef no_amounts) in
    let t = taken s cells in
    let r = fresh_row w no_amounts in
    let is : sheet_of t (sheet.rows ++ r ∷ []) ≡ with_sponsor (sheet_of s sheet.rows) w =
    map-append (account_in t) sheet.rows (r ∷ []) ∙ ap₂ (λ (l : List Account) (x : Account). l ++ x ∷ []) (sheet-taken s cells sheet.rows b.there) (account-fresh s undef no_amounts) in
    let all = names-push sheet.rows r in (
      is,
      record {
        apart = subst Apart (sym all) (apart-push (names sheet.rows) w b.apart (fresh-word s sheet.rows b.there));
        there = λ v i. elim (among-split v (names sheet.rows) (w ∷ []) (subst (λ (vs : List W). Among v vs) all i)) [
          | inl k ↦ there-taken s cells v (b.there v k)
          | inr k ↦ elim k [ inl e ↦ subst (λ (x : W). IsThere t x) (sym e) (fresh_cell undef no_amounts, sponsor-first s (fresh_cell undef no_amounts), fresh-amounts undef no_amounts) | inr n ↦ absurd n ]
        ];
        sound = subst (λ (l : List Account). IsSound sheet.transfers l) (sym is) (sound-new sheet.transfers (sheet_of s sheet.rows) w b.sound);
      },
    )

pub record Made (s t : Store) (old : Ledger) (rows : List Row) (w : W) : Type 0 where
  pub sheet : sheet_of t rows ≡ with_sponsor (sheet_of s old.rows) w
  pub all_names : names rows ≡ names old.rows ++ w ∷ []
  pub belongs : Belongs t (record { rows = rows; transfers = old.transfers; room = old.room })
  pub seen_is : seen t ≡ grown (seen s) (SponsorSlot ∷ SpentSlot ∷ [])
  pub frame : Framed s t []

pub made : (s t : Store) (old : Ledger) (rows : List Row) (w : W) → Belongs s old → w ≡ Cap (used s) → t ≡ taken s (sponsor_cells (fresh_cell undef no_amounts)) → rows ≡ old.rows ++ fresh_row w no_amounts ∷ [] → Made s t old rows w
made s t old rows w b is after pushed =
    let u = taken s (sponsor_cells (fresh_cell undef no_amounts)) in
    let step = make_step s old b in
    let there : Made s u old (old.rows ++ fresh_row (Cap (used s)) no_amounts ∷ []) (Cap (used s)) = record { sheet = step.0; all_names = names-push old.rows (fresh_row (Cap (used s)) no_amounts); belongs = step.1; seen_is = seen-taken s (sponsor_cells (fresh_cell undef no_amounts)); frame = framed-taken s (sponsor_cells (fresh_cell undef no_amounts)) [] } in
    let named : Made s u old (old.rows ++ fresh_row w no_amounts ∷ []) w = subst (λ (v : W). Made s u old (old.rows ++ fresh_row v no_amounts ∷ []) v) (sym is) there in
    subst (λ (x : Store). Made s x old rows w) (sym after) (subst (λ (l : List Row). Made s u old l w) (sym pushed) named)

pub record Rooted (s t : Store) (room : ℕ) (rows : List Row) (grant : Amounts) : Type 0 where
  pub sheet : sheet_of t rows ≡ root_account (Cap (used s)) grant ∷ []
  pub belongs : Belongs t (record { rows = rows; transfers = 0; room = room })
  pub seen_is : seen t ≡ grown (seen s) (SponsorSlot ∷ SpentSlot ∷ [])
  pub frame : Framed s t []

pub rooted : (s t : Store) (room : ℕ) (rows : List Row) (w : W) (grant : Amounts) → grant.memory ≤ most_held → grant.events ≤ most_held → grant.cycles ≤ most_held → w ≡ Cap (used s) → t ≡ taken s (sponsor_cells (fresh_cell nil grant)) → rows ≡ fresh_row w grant ∷ [] → Rooted s t room rows grant
rooted s t room rows w grant m e c is after pushed =
    let u = taken s (sponsor_cells (fresh_cell nil grant)) in
    let step = root_step s room grant m e c in
    let there : Rooted s u room (fresh_row (Cap (used s)) grant ∷ []) grant = record { sheet = step.0; belongs = step.1; seen_is = seen-taken s (sponsor_cells (fresh_cell nil grant)); frame = framed-taken s (sponsor_cells (fresh_cell nil grant)) [] } in
    let rows_are : rows ≡ fresh_row (Cap (used s)) grant ∷ [] = pushed ∙ ap (λ (v : W). fresh_row v grant ∷ []) is in
    subst (λ (x : Store). Rooted s x room rows grant) (sym after) (subst (λ (l : List Row). Rooted s u room l grant) (sym rows_are) there)
