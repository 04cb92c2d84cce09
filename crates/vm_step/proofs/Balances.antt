-- What sponsors hold together after transfers, starts and stops.
use Rattle.std.proofs.Common.{◌≡◌, ℕ, ◌+◌, ◌≤◌, List, [], ◌∷◌, Bool, true, false, if◌then◌else◌, refl, ◌∙◌, arith}
use Rattle.std.specs.List.{sum_by}
use Rattle.std.proofs.lemmas.List.Sums.{sum_by-cons, sum_by_push}
use Rattle.cap_words.specs.Words.{W, same_word}
use Rattle.cap_words.specs.Frame.{Among}
use Rattle.instr_table.specs.declared.charge.Quota.{Quota}
use Rattle.instr_table.specs.declared.charge.Quota.TheVariants.{Memory, Events, Cycles}
use Rattle.instr_table.specs.Sheet.{Account, Standing, no_account, account, at_account, at_amount, held, passes, receives, transfer, reclaim, stands_as, with_sponsor}
use Rattle.vm_sponsor.specs.Totals.{kept, total, sponsors}
use Rattle.vm_sponsor.proofs.Plain.{sum-at_account, transfer-conserves, reclaim-conserves}
use Rattle.vm_step.specs.Books.{held_quads}

-- the quads that all sponsors together have spent
spent_quads : List Account → ℕ
spent_quads rows = sum_by (λ (a : Account). a.memory.spent) rows

kept_quads : (rows : List Account) → total Memory rows ≡ spent_quads rows + held_quads rows
unfolding spent_quads
kept_quads [] = refl
kept_quads (a ∷ rows) =
    omega (arith, sum_by-cons (kept Memory) a rows, sum_by-cons (λ (x : Account). x.memory.spent) a rows, sum_by-cons (λ (x : Account). x.memory.held) a rows, kept_quads rows)

spent-passes : (kind : Quota) (n : ℕ) (a : Account) → (at_amount kind (passes n) a).memory.spent ≡ a.memory.spent
spent-passes Memory n a = refl
spent-passes Events n a = refl
spent-passes Cycles n a = refl

spent-receives : (kind : Quota) (n : ℕ) (a : Account) → (at_amount kind (receives n) a).memory.spent ≡ a.memory.spent
spent-receives Memory n a = refl
spent-receives Events n a = refl
spent-receives Cycles n a = refl

spent-transfer : (rows : List Account) (from to : W) (kind : Quota) (n : ℕ) → spent_quads (transfer rows from to kind n) ≡ spent_quads rows
unfolding spent_quads
spent-transfer rows from to kind n = by (same_word from to)
  where
    by : (b : Bool) → sum_by (λ (a : Account). a.memory.spent) (if b then rows else at_account to (at_amount kind (receives n)) (at_account from (at_amount kind (passes n)) rows)) ≡ sum_by (λ (a : Account). a.memory.spent) rows
    by true = refl
    by false =
        let m = at_account from (at_amount kind (passes n)) rows in
        sum-at_account (λ (a : Account). a.memory.spent) to (at_amount kind (receives n)) m (spent-receives kind n (account m to))
        ∙ sum-at_account (λ (a : Account). a.memory.spent) from (at_amount kind (passes n)) rows (spent-passes kind n (account rows from))

pub held-transferred : (rows : List Account) (from to : W) (kind : Quota) (n : ℕ) → Among to (sponsors rows) → n ≤ held rows from kind → held_quads (transfer rows from to kind n) ≡ held_quads rows
held-transferred rows from to kind n i h =
    let t = (transfer-conserves rows from to kind n i h).same_total Memory in
    omega (arith, t, kept_quads rows, kept_quads (transfer rows from to kind n), spent-transfer rows from to kind n)

pub held-reclaimed : (rows : List Account) (from to : W) → Among to (sponsors rows) → held_quads (reclaim rows from to) ≡ held_quads rows
held-reclaimed rows from to i =
    let t = (reclaim-conserves rows from to i).same_total Memory in
    let one = transfer rows from to Memory (held rows from Memory) in
    let two = transfer one from to Events (held rows from Events) in
    let a = spent-transfer rows from to Memory (held rows from Memory) in
    let b = spent-transfer one from to Events (held rows from Events) in
    let c = spent-transfer two from to Cycles (held rows from Cycles) in
    omega (arith, t, a, b, c, kept_quads rows, kept_quads (reclaim rows from to))

pub held-standing : (rows : List Account) (w : W) (standing : Standing) → held_quads (at_account w (stands_as standing) rows) ≡ held_quads rows
held-standing rows w standing = sum-at_account (λ (a : Account). a.memory.held) w (stands_as standing) rows refl

pub held-new : (rows : List Account) (w : W) → held_quads (with_sponsor rows w) ≡ held_quads rows
held-new rows w = let p = sum_by_push (λ (a : Account). a.memory.held) rows (no_account w) in omega (arith, p)
