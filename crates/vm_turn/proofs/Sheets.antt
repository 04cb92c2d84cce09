-- What paying, passing on, starting and stopping do to a sheet.
use Rattle.std.proofs.Common.{◌≡◌, inl, inr, ℕ, ◌+◌, ◌≤◌, List, [], ◌∷◌, ◌++◌, Some, None, Bool, true, false, if◌then◌else◌, ap, refl, ◌∙◌, sym, arith}
use Rattle.std.specs.List.{sum_by}
use Rattle.std.proofs.lemmas.List.{append-nil}
use Rattle.std.proofs.lemmas.List.Sums.{sum_by-cons, sum_by_push}
use Rattle.cap_words.specs.Words.{W, same_word}
use Rattle.cap_words.specs.Frame.{Among}
use Rattle.cap_words.proofs.Same.{word_same}
use Rattle.instr_table.specs.declared.charge.Charge.{Charge}
use Rattle.instr_table.specs.declared.charge.Quota.{Quota}
use Rattle.instr_table.specs.declared.charge.Quota.TheVariants.{Memory, Events, Cycles}
use Rattle.instr_table.specs.Event.{Effect, Nothing, Sends, Creates, Assigns, Becomes, Sponsors, Grants, Reclaims, Starts, Stops}
use Rattle.instr_table.specs.Sheet.{Account, Amount, Standing, with_sponsor, Stopped, Running, no_account, account, at_account, at_amount, held, paid, spend, short, passes, receives, transfer, reclaim, stands_as, signal_in, stop, prepared, sheet_after}
use Rattle.vm_sponsor.specs.Totals.{kept, total, IsBalanced, Each, sponsors}
use Rattle.vm_sponsor.proofs.Plain.{Each-at_account, Each-push, sum-at_account, sum-less, sum-more, covered, spend-balanced, spend-total, sponsors-at_account, transfer-conserves, reclaim-conserves, account-balanced}
use Rattle.vm_turn.specs.Sound.{spent_of, spent_by_all, as_list, signals_of}
use Rattle.vm_turn.proofs.Sums.{Measure}

-- ---- what a new sheet keeps

-- what an instruction of that charge takes of a kind
abbrev pub due : Charge → Quota → ℕ
due c Memory = c.quads
due c Events = c.events
due c Cycles = 1

abbrev pub nothing_due : Quota → ℕ
nothing_due kind = 0

-- of each kind as much is spent and held as before, and so much more is spent; each account still adds up; no more signals are prepared
-- than before and these; and these sponsors come after those that were there
pub record Moves (old new : List Account) (more : Quota → ℕ) (signals makes : List W) : Type 0 where
  pub same_total : (kind : Quota) → total kind new ≡ total kind old
  pub balanced : Each IsBalanced old → Each IsBalanced new
  pub spent : (kind : Quota) → spent_by_all kind new ≡ spent_by_all kind old + more kind
  pub prepared_of : (m : Measure) → sum_by (λ (a : Account). m.of (signals_of a)) new ≤ sum_by (λ (a : Account). m.of (signals_of a)) old + m.of signals
  pub sponsors_are : sponsors new ≡ sponsors old ++ makes

pub moves-refl : (rows : List Account) → Moves rows rows nothing_due [] []
moves-refl rows = record {
  same_total = λ kind. refl;
  balanced = λ e. e;
  spent = λ kind. omega arith;
  prepared_of = λ m. omega arith;
  sponsors_are = sym (append-nil (sponsors rows));
}

-- the sum is at most n more where the changed account counts at most n more
sum-at_most : (h : Account → ℕ) (w : W) (f : Account → Account) (rows : List Account) (n : ℕ) → h (f (account rows w)) ≤ h (account rows w) + n → sum_by h (at_account w f rows) ≤ sum_by h rows + n
sum-at_most h w f [] n e = omega arith
sum-at_most h w f (a ∷ rows) n e = by (same_word a.sponsor w) e (λ k. sum-at_most h w f rows n k)
  where
    by : (b : Bool) → h (f (if b then a else account rows w)) ≤ h (if b then a else account rows w) + n → (h (f (account rows w)) ≤ h (account rows w) + n → sum_by h (at_account w f rows) ≤ sum_by h rows + n) → sum_by h (if b then f a ∷ rows else a ∷ at_account w f rows) ≤ sum_by h (a ∷ rows) + n
    by true k rest = omega (arith, sum_by-cons h (f a) rows, sum_by-cons h a rows, k)
    by false k rest = omega (arith, sum_by-cons h a (at_account w f rows), sum_by-cons h a rows, rest k)

-- ---- paying

-- who can pay has an account
pub payer-there : (rows : List Account) (w : W) (c : Charge) → short (account rows w) c ≡ None → Among w (sponsors rows)
payer-there [] w c h = let e = (covered (no_account w) c h).cycles in absurd (omega (arith, e))
payer-there (a ∷ rows) w c h = by (same_word a.sponsor w) refl h (λ k. payer-there rows w c k)
  where
    by : (b : Bool) → same_word a.sponsor w ≡ b → short (if b then a else account rows w) c ≡ None → (short (account rows w) c ≡ None → Among w (sponsors rows)) → Among w (a.sponsor ∷ sponsors rows)
    by true e k rest = inl (sym (word_same a.sponsor w e))
    by false e k rest = inr (rest k)

paid-spent : (kind : Quota) (c : Charge) (a : Account) → spent_of kind (paid c a) ≡ spent_of kind a + due c kind
paid-spent Memory c a = refl
paid-spent Events c a = refl
paid-spent Cycles c a = refl

pub spend-moves : (rows : List Account) (w : W) (c : Charge) → short (account rows w) c ≡ None → Moves rows (spend rows w c) (due c) [] []
spend-moves rows w c h = record {
  same_total = λ kind. spend-total rows w c kind h;
  balanced = λ e. spend-balanced rows w c h e;
  spent = λ kind. sum-more (spent_of kind) w (paid c) rows (due c kind) (payer-there rows w c h) (paid-spent kind c (account rows w));
  prepared_of = λ m. sum-at_most (λ (a : Account). m.of (signals_of a)) w (paid c) rows (m.of []) (omega arith);
  sponsors_are = sponsors-at_account w (paid c) rows (λ a. refl) ∙ sym (append-nil (sponsors rows));
}

-- ---- starting and stopping

stands-kept : (kind : Quota) (standing : Standing) (a : Account) → kept kind (stands_as standing a) ≡ kept kind a
stands-kept Memory standing a = refl
stands-kept Events standing a = refl
stands-kept Cycles standing a = refl

stands-spent : (kind : Quota) (standing : Standing) (a : Account) → spent_of kind (stands_as standing a) ≡ spent_of kind a
stands-spent Memory standing a = refl
stands-spent Events standing a = refl
stands-spent Cycles standing a = refl

stands-balanced : (standing : Standing) (a : Account) → IsBalanced a → IsBalanced (stands_as standing a)
stands-balanced standing a b Memory = b Memory
stands-balanced standing a b Events = b Events
stands-balanced standing a b Cycles = b Cycles

-- a sponsor that stands so, with the signal that it then has
pub stands-moves : (rows : List Account) (w : W) (standing : Standing) → Moves rows (at_account w (stands_as standing) rows) nothing_due (as_list (signal_in standing)) []
stands-moves rows w standing = record {
  same_total = λ kind. sum-at_account (kept kind) w (stands_as standing) rows (stands-kept kind standing (account rows w));
  balanced = λ e. Each-at_account IsBalanced w (stands_as standing) rows e (stands-balanced standing (account rows w) (account-balanced rows w e));
  spent = λ kind. let s = sum-at_account (spent_of kind) w (stands_as standing) rows (stands-spent kind standing (account rows w)) in omega (arith, s);
  prepared_of = λ m. sum-at_most (λ (a : Account). m.of (signals_of a)) w (stands_as standing) rows (m.of (as_list (signal_in standing))) (omega arith);
  sponsors_are = sponsors-at_account w (stands_as standing) rows (λ a. refl) ∙ sym (append-nil (sponsors rows));
}

-- a sponsor that is stopped has no signal any more
pub stop-drops : (m : Measure) (rows : List Account) (w : W) → sum_by (λ (a : Account). m.of (signals_of a)) (stop rows w) + m.of (as_list (prepared rows w)) ≡ sum_by (λ (a : Account). m.of (signals_of a)) rows
stop-drops m rows w = sum-less (λ (a : Account). m.of (signals_of a)) w (stands_as Stopped) rows (m.of (as_list (prepared rows w))) m.none (omega (arith, m.none))

-- ---- passing on

amount-spent : (kind other : Quota) (change : Amount → Amount) (a : Account) → ((b : Amount) → (change b).spent ≡ b.spent) → spent_of other (at_amount kind change a) ≡ spent_of other a
amount-spent Memory Memory change a h = h a.memory
amount-spent Memory Events change a h = refl
amount-spent Memory Cycles change a h = refl
amount-spent Events Memory change a h = refl
amount-spent Events Events change a h = h a.events
amount-spent Events Cycles change a h = refl
amount-spent Cycles Memory change a h = refl
amount-spent Cycles Events change a h = refl
amount-spent Cycles Cycles change a h = h a.cycles

amount-signals : (kind : Quota) (change : Amount → Amount) (a : Account) → signals_of (at_amount kind change a) ≡ signals_of a
amount-signals Memory change a = refl
amount-signals Events change a = refl
amount-signals Cycles change a = refl

-- what a transfer leaves of each account it leaves of the sum
transfer-sum : (h : Account → ℕ) (rows : List Account) (from to : W) (kind : Quota) (n : ℕ) → ((a : Account) → h (at_amount kind (passes n) a) ≡ h a) → ((a : Account) → h (at_amount kind (receives n) a) ≡ h a) → sum_by h (transfer rows from to kind n) ≡ sum_by h rows
transfer-sum h rows from to kind n p r = by (same_word from to)
  where
    given : List Account
    given = at_account from (at_amount kind (passes n)) rows

    by : (b : Bool) → sum_by h (if b then rows else at_account to (at_amount kind (receives n)) given) ≡ sum_by h rows
    by true = refl
    by false = sum-at_account h to (at_amount kind (receives n)) given (r (account given to)) ∙ sum-at_account h from (at_amount kind (passes n)) rows (p (account rows from))

transfer-spent : (rows : List Account) (from to : W) (kind other : Quota) (n : ℕ) → spent_by_all other (transfer rows from to kind n) ≡ spent_by_all other rows
transfer-spent rows from to kind other n = transfer-sum (spent_of other) rows from to kind n (λ a. amount-spent kind other (passes n) a (λ b. refl)) (λ a. amount-spent kind other (receives n) a (λ b. refl))

transfer-signals : (m : Measure) (rows : List Account) (from to : W) (kind : Quota) (n : ℕ) → sum_by (λ (a : Account). m.of (signals_of a)) (transfer rows from to kind n) ≡ sum_by (λ (a : Account). m.of (signals_of a)) rows
transfer-signals m rows from to kind n = transfer-sum (λ (a : Account). m.of (signals_of a)) rows from to kind n (λ a. ap m.of (amount-signals kind (passes n) a)) (λ a. ap m.of (amount-signals kind (receives n) a))

pub transfer-moves : (rows : List Account) (from to : W) (kind : Quota) (n : ℕ) → Among to (sponsors rows) → n ≤ held rows from kind → Moves rows (transfer rows from to kind n) nothing_due [] []
transfer-moves rows from to kind n i h =
    let c = transfer-conserves rows from to kind n i h in
    record {
      same_total = c.same_total;
      balanced = c.balanced;
      spent = λ other. let e = transfer-spent rows from to kind other n in omega (arith, e);
      prepared_of = λ m. let e = transfer-signals m rows from to kind n in omega (arith, e);
      sponsors_are = c.same_sponsors ∙ sym (append-nil (sponsors rows));
    }

pub reclaim-moves : (rows : List Account) (from to : W) → Among to (sponsors rows) → Moves rows (reclaim rows from to) nothing_due [] []
reclaim-moves rows from to i =
    let c = reclaim-conserves rows from to i in
    let one = transfer rows from to Memory (held rows from Memory) in
    let two = transfer one from to Events (held rows from Events) in
    record {
      same_total = c.same_total;
      balanced = c.balanced;
      spent = λ other.
          let x = transfer-spent rows from to Memory other (held rows from Memory) in
          let y = transfer-spent one from to Events other (held rows from Events) in
          let z = transfer-spent two from to Cycles other (held rows from Cycles) in
          omega (arith, x, y, z);
      prepared_of = λ m.
          let x = transfer-signals m rows from to Memory (held rows from Memory) in
          let y = transfer-signals m one from to Events (held rows from Events) in
          let z = transfer-signals m two from to Cycles (held rows from Cycles) in
          omega (arith, x, y, z);
      sponsors_are = c.same_sponsors ∙ sym (append-nil (sponsors rows));
    }

-- ---- what an effect does

-- what is granted is held, and goes to a sponsor that has an account; so does what is taken back
abbrev pub Allowed : List Account → W → Effect → Type 0
Allowed rows who Nothing = Unit {0}
Allowed rows who (Sends m) = Unit {0}
Allowed rows who (Creates m) = Unit {0}
Allowed rows who (Assigns m) = Unit {0}
Allowed rows who (Becomes b) = Unit {0}
Allowed rows who (Sponsors w) = Unit {0}
Allowed rows who (Grants w kind n) = (n ≤ held rows who kind) × Among w (sponsors rows)
Allowed rows who (Reclaims w) = Among who (sponsors rows)
Allowed rows who (Starts w signal) = Unit {0}
Allowed rows who (Stops w) = Unit {0}

-- the signal that an effect prepares
abbrev pub prepares : Effect → List W
prepares Nothing = []
prepares (Sends m) = []
prepares (Creates m) = []
prepares (Assigns m) = []
prepares (Becomes b) = []
prepares (Sponsors w) = []
prepares (Grants w kind n) = []
prepares (Reclaims w) = []
prepares (Starts w signal) = signal ∷ []
prepares (Stops w) = []

-- the sponsor that it makes
abbrev pub makes : Effect → List W
makes Nothing = []
makes (Sends m) = []
makes (Creates m) = []
makes (Assigns m) = []
makes (Becomes b) = []
makes (Sponsors w) = w ∷ []
makes (Grants w kind n) = []
makes (Reclaims w) = []
makes (Starts w signal) = []
makes (Stops w) = []

sponsors-push : (rows : List Account) (w : W) → sponsors (rows ++ no_account w ∷ []) ≡ sponsors rows ++ w ∷ []
sponsors-push [] w = refl
sponsors-push (a ∷ rows) w = ap (λ (ws : List W). a.sponsor ∷ ws) (sponsors-push rows w)

none-kept : (kind : Quota) (w : W) → kept kind (no_account w) ≡ 0
none-kept Memory w = refl
none-kept Events w = refl
none-kept Cycles w = refl

none-spent : (kind : Quota) (w : W) → spent_of kind (no_account w) ≡ 0
none-spent Memory w = refl
none-spent Events w = refl
none-spent Cycles w = refl

none-balanced : (w : W) → IsBalanced (no_account w)
none-balanced w Memory = refl
none-balanced w Events = refl
none-balanced w Cycles = refl

sponsor-moves : (rows : List Account) (w : W) → Moves rows (with_sponsor rows w) nothing_due [] (w ∷ [])
sponsor-moves rows w = record {
  same_total = λ kind. omega (arith, sum_by_push (kept kind) rows (no_account w), none-kept kind w);
  balanced = λ e. Each-push IsBalanced rows (no_account w) e (none-balanced w);
  spent = λ kind. omega (arith, sum_by_push (spent_of kind) rows (no_account w), none-spent kind w);
  prepared_of = λ m. omega (arith, sum_by_push (λ (a : Account). m.of (signals_of a)) rows (no_account w));
  sponsors_are = sponsors-push rows w;
}

pub effect-moves : (rows : List Account) (who : W) (x : Effect) → Allowed rows who x → Moves rows (sheet_after rows who x) nothing_due (prepares x) (makes x)
effect-moves rows who Nothing h = moves-refl rows
effect-moves rows who (Sends m) h = moves-refl rows
effect-moves rows who (Creates m) h = moves-refl rows
effect-moves rows who (Assigns m) h = moves-refl rows
effect-moves rows who (Becomes b) h = moves-refl rows
effect-moves rows who (Sponsors w) h = sponsor-moves rows w
effect-moves rows who (Grants w kind n) h = transfer-moves rows who w kind n h.1 h.0
effect-moves rows who (Reclaims w) h = reclaim-moves rows w who h
effect-moves rows who (Starts w signal) h = stands-moves rows w (Running (Some signal))
effect-moves rows who (Stops w) h = stands-moves rows w Stopped
