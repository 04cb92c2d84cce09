-- A plain sheet with one account changed: what it holds of each account, and in all.
use Rattle.std.proofs.Common.{◌≡◌, ℕ, ◌+◌, ◌*◌, ◌≤◌, nat_lt, List, [], ◌∷◌, ◌++◌, Some, None, Bool, true, false, if◌then◌else◌, refl, ap, sym, ◌∙◌, subst, inl, inr, arith}
use Rattle.std.specs.List.{sum_by}
use Rattle.std.proofs.lemmas.List.Sums.{sum_by-cons, sum_by_push}
use Rattle.std.proofs.lemmas.Bool.Decides.{nat_tests}
use Rattle.cap_words.specs.Words.{W, same_word}
use Rattle.cap_words.specs.Frame.{Among}
use Rattle.cap_words.proofs.Same.{word_differs}
use Rattle.instr_table.specs.declared.charge.Charge.{Charge}
use Rattle.instr_table.specs.declared.charge.Quota.{Quota}
use Rattle.instr_table.specs.declared.charge.Quota.TheVariants.{Memory, Events, Cycles}
use Rattle.instr_table.specs.Sheet.{Account, Amount, Balances, no_account, account, at_account, amount, at_amount, held, pays, paid, spend, short, passes, receives, transfer, reclaim, Standing, stands_as, with_sponsor}
use Rattle.vm_sponsor.specs.Totals.{kept, total, IsBalanced, ReceivedAtMost, Each, sponsors, IsSound, most_held, moved}

-- ---- facts of each account

pub Each-account : (P : Account → Type 0) (sheet : List Account) (w : W) → Each P sheet → P (no_account w) → P (account sheet w)
Each-account P [] w e p = p
Each-account P (a ∷ sheet) w e p = by (same_word a.sponsor w) (Each-account P sheet w e.1 p)
  where
    by : (b : Bool) → P (account sheet w) → P (if b then a else account sheet w)
    by true rest = e.0
    by false rest = rest

pub Each-at_account : (P : Account → Type 0) (w : W) (f : Account → Account) (sheet : List Account) → Each P sheet → P (f (account sheet w)) → Each P (at_account w f sheet)
Each-at_account P w f [] e p = tt
Each-at_account P w f (a ∷ sheet) e p = by (same_word a.sponsor w) p (λ q. Each-at_account P w f sheet e.1 q)
  where
    by : (b : Bool) → P (f (if b then a else account sheet w)) → (P (f (account sheet w)) → Each P (at_account w f sheet)) → Each P (if b then f a ∷ sheet else a ∷ at_account w f sheet)
    by true q rest = (q, e.1)
    by false q rest = (e.0, rest q)

pub Each-more : (P Q : Account → Type 0) (sheet : List Account) → ((a : Account) → P a → Q a) → Each P sheet → Each Q sheet
Each-more P Q [] f e = tt
Each-more P Q (a ∷ sheet) f e = (f a e.0, Each-more P Q sheet f e.1)

pub Each-push : (P : Account → Type 0) (sheet : List Account) (a : Account) → Each P sheet → P a → Each P (sheet ++ a ∷ [])
Each-push P [] a e p = (p, tt)
Each-push P (b ∷ sheet) a e p = (e.0, Each-push P sheet a e.1 p)

-- ---- sums over all accounts

-- the sum is the same where the changed account counts the same
pub sum-at_account : (h : Account → ℕ) (w : W) (f : Account → Account) (sheet : List Account) → h (f (account sheet w)) ≡ h (account sheet w) → sum_by h (at_account w f sheet) ≡ sum_by h sheet
sum-at_account h w f [] e = refl
sum-at_account h w f (a ∷ sheet) e = by (same_word a.sponsor w) e (λ k. sum-at_account h w f sheet k)
  where
    by : (b : Bool) → h (f (if b then a else account sheet w)) ≡ h (if b then a else account sheet w) → (h (f (account sheet w)) ≡ h (account sheet w) → sum_by h (at_account w f sheet) ≡ sum_by h sheet) → sum_by h (if b then f a ∷ sheet else a ∷ at_account w f sheet) ≡ sum_by h (a ∷ sheet)
    by true k rest = omega (arith, sum_by-cons h (f a) sheet, sum_by-cons h a sheet, k)
    by false k rest = omega (arith, sum_by-cons h a (at_account w f sheet), sum_by-cons h a sheet, rest k)

-- it is n less where the changed account counts n less
pub sum-less : (h : Account → ℕ) (w : W) (f : Account → Account) (sheet : List Account) (n : ℕ) → h (no_account w) ≡ 0 → h (f (account sheet w)) + n ≡ h (account sheet w) → sum_by h (at_account w f sheet) + n ≡ sum_by h sheet
sum-less h w f [] n z e = let k : n ≡ 0 = omega arith in rw k refl
sum-less h w f (a ∷ sheet) n z e = by (same_word a.sponsor w) e (λ k. sum-less h w f sheet n z k)
  where
    by : (b : Bool) → h (f (if b then a else account sheet w)) + n ≡ h (if b then a else account sheet w) → (h (f (account sheet w)) + n ≡ h (account sheet w) → sum_by h (at_account w f sheet) + n ≡ sum_by h sheet) → sum_by h (if b then f a ∷ sheet else a ∷ at_account w f sheet) + n ≡ sum_by h (a ∷ sheet)
    by true k rest = omega (arith, sum_by-cons h (f a) sheet, sum_by-cons h a sheet, k)
    by false k rest = omega (arith, sum_by-cons h a (at_account w f sheet), sum_by-cons h a sheet, rest k)

-- it is n more where an account that is there counts n more
pub sum-more : (h : Account → ℕ) (w : W) (f : Account → Account) (sheet : List Account) (n : ℕ) → Among w (sponsors sheet) → h (f (account sheet w)) ≡ h (account sheet w) + n → sum_by h (at_account w f sheet) ≡ sum_by h sheet + n
sum-more h w f [] n i e = absurd i
sum-more h w f (a ∷ sheet) n i e = by (same_word a.sponsor w) refl e (λ j k. sum-more h w f sheet n j k)
  where
    there : same_word a.sponsor w ≡ false → Among w (a.sponsor ∷ sponsors sheet) → Among w (sponsors sheet)
    there o (inl k) = absurd (word_differs a.sponsor w o (sym k))
    there o (inr k) = k

    by : (b : Bool) → same_word a.sponsor w ≡ b → h (f (if b then a else account sheet w)) ≡ h (if b then a else account sheet w) + n → (Among w (sponsors sheet) → h (f (account sheet w)) ≡ h (account sheet w) + n → sum_by h (at_account w f sheet) ≡ sum_by h sheet + n) → sum_by h (if b then f a ∷ sheet else a ∷ at_account w f sheet) ≡ sum_by h (a ∷ sheet) + n
    by true s k rest = omega (arith, sum_by-cons h (f a) sheet, sum_by-cons h a sheet, k)
    by false s k rest = omega (arith, sum_by-cons h a (at_account w f sheet), sum_by-cons h a sheet, rest (there s i) k)

-- no account has more than all
pub kept-total : (kind : Quota) (sheet : List Account) (w : W) → kept kind (account sheet w) ≤ total kind sheet
kept-total Memory [] w = omega arith
kept-total Events [] w = omega arith
kept-total Cycles [] w = omega arith
kept-total kind (a ∷ sheet) w = by (same_word a.sponsor w) (kept-total kind sheet w)
  where
    by : (b : Bool) → kept kind (account sheet w) ≤ total kind sheet → kept kind (if b then a else account sheet w) ≤ total kind (a ∷ sheet)
    by true rest = omega (arith, sum_by-cons (kept kind) a sheet)
    by false rest = omega (arith, sum_by-cons (kept kind) a sheet, rest)

-- ---- an account after a payment or a transfer

no_account-balanced : (w : W) → IsBalanced (no_account w)
no_account-balanced w Memory = refl
no_account-balanced w Events = refl
no_account-balanced w Cycles = refl

pub account-balanced : (sheet : List Account) (w : W) → Each IsBalanced sheet → IsBalanced (account sheet w)
account-balanced sheet w e = Each-account IsBalanced sheet w e (no_account-balanced w)

no_account-bounded : (most : ℕ) (w : W) → ReceivedAtMost most (no_account w)
no_account-bounded most w Memory = omega arith
no_account-bounded most w Events = omega arith
no_account-bounded most w Cycles = omega arith

pub account-bounded : (most : ℕ) (sheet : List Account) (w : W) → Each (ReceivedAtMost most) sheet → ReceivedAtMost most (account sheet w)
account-bounded most sheet w e = Each-account (ReceivedAtMost most) sheet w e (no_account-bounded most w)

-- an amount of one kind after another was changed
by_kind : (P : Amount → Type 0) (change : Amount → Amount) (kind other : Quota) (a : Account) → P (change (amount kind a)) → P (amount other a) → P (amount other (at_amount kind change a))
by_kind P change Memory Memory a p q = p
by_kind P change Memory Events a p q = q
by_kind P change Memory Cycles a p q = q
by_kind P change Events Memory a p q = q
by_kind P change Events Events a p q = p
by_kind P change Events Cycles a p q = q
by_kind P change Cycles Memory a p q = q
by_kind P change Cycles Events a p q = q
by_kind P change Cycles Cycles a p q = p

balanced-pays : (n : ℕ) (a : Amount) → n ≤ a.held → Balances a → Balances (pays n a)
balanced-pays n a h b = omega (arith, b)

balanced-passes : (n : ℕ) (a : Amount) → n ≤ a.held → Balances a → Balances (passes n a)
balanced-passes n a h b = omega (arith, b)

balanced-receives : (n : ℕ) (a : Amount) → Balances a → Balances (receives n a)
balanced-receives n a b = omega (arith, b)

pub kept-passes : (kind other : Quota) (n : ℕ) (a : Account) → n ≤ (amount kind a).held → kept other (at_amount kind (passes n) a) + moved kind other n ≡ kept other a
kept-passes Memory Memory n a h = omega arith
kept-passes Memory Events n a h = omega arith
kept-passes Memory Cycles n a h = omega arith
kept-passes Events Memory n a h = omega arith
kept-passes Events Events n a h = omega arith
kept-passes Events Cycles n a h = omega arith
kept-passes Cycles Memory n a h = omega arith
kept-passes Cycles Events n a h = omega arith
kept-passes Cycles Cycles n a h = omega arith

pub kept-receives : (kind other : Quota) (n : ℕ) (a : Account) → kept other (at_amount kind (receives n) a) ≡ kept other a + moved kind other n
kept-receives Memory Memory n a = omega arith
kept-receives Memory Events n a = omega arith
kept-receives Memory Cycles n a = omega arith
kept-receives Events Memory n a = omega arith
kept-receives Events Events n a = omega arith
kept-receives Events Cycles n a = omega arith
kept-receives Cycles Memory n a = omega arith
kept-receives Cycles Events n a = omega arith
kept-receives Cycles Cycles n a = omega arith

no_account-kept : (kind : Quota) (w : W) → kept kind (no_account w) ≡ 0
no_account-kept Memory w = refl
no_account-kept Events w = refl
no_account-kept Cycles w = refl

-- the tests of a charge
tests : (x y z : Bool) → (if x then Some Cycles else if y then Some Memory else if z then Some Events else None) ≡ None → (x ≡ false) × (y ≡ false) × (z ≡ false)
tests true y z h = cc
tests false true z h = cc
tests false false true h = cc
tests false false false h = (refl, refl, refl)

pub record Covers (a : Account) (c : Charge) : Type 0 where
  pub cycles : 1 ≤ a.cycles.held
  pub memory : c.quads ≤ a.memory.held
  pub events : c.events ≤ a.events.held

pub covered : (a : Account) (c : Charge) → short a c ≡ None → Covers a c
covered a c h =
    let t = tests (nat_lt a.cycles.held 1) (nat_lt a.memory.held c.quads) (nat_lt a.events.held c.events) h in
    let t0 = t.0 in
    let t1 = t.1 in
    let t2 = t.2 in
    record { cycles = grind (arith, nat_tests); memory = grind (arith, nat_tests); events = grind (arith, nat_tests) }

paid-balanced : (a : Account) (c : Charge) → Covers a c → IsBalanced a → IsBalanced (paid c a)
paid-balanced a c k b Memory = balanced-pays c.quads a.memory k.memory (b Memory)
paid-balanced a c k b Events = balanced-pays c.events a.events k.events (b Events)
paid-balanced a c k b Cycles = balanced-pays 1 a.cycles k.cycles (b Cycles)

paid-kept : (a : Account) (c : Charge) (kind : Quota) → Covers a c → kept kind (paid c a) ≡ kept kind a
paid-kept a c Memory k = omega (arith, k.memory)
paid-kept a c Events k = omega (arith, k.events)
paid-kept a c Cycles k = omega (arith, k.cycles)

paid-bounded : (most : ℕ) (a : Account) (c : Charge) → ReceivedAtMost most a → ReceivedAtMost most (paid c a)
paid-bounded most a c b Memory = b Memory
paid-bounded most a c b Events = b Events
paid-bounded most a c b Cycles = b Cycles

-- ---- the sheet after a payment, or either half of a transfer

pub spend-balanced : (sheet : List Account) (w : W) (c : Charge) → short (account sheet w) c ≡ None → Each IsBalanced sheet → Each IsBalanced (spend sheet w c)
spend-balanced sheet w c h e = Each-at_account IsBalanced w (paid c) sheet e (paid-balanced (account sheet w) c (covered (account sheet w) c h) (account-balanced sheet w e))

pub spend-total : (sheet : List Account) (w : W) (c : Charge) (kind : Quota) → short (account sheet w) c ≡ None → total kind (spend sheet w c) ≡ total kind sheet
spend-total sheet w c kind h = sum-at_account (kept kind) w (paid c) sheet (paid-kept (account sheet w) c kind (covered (account sheet w) c h))

pub passes-balanced : (sheet : List Account) (w : W) (kind : Quota) (n : ℕ) → n ≤ held sheet w kind → Each IsBalanced sheet → Each IsBalanced (at_account w (at_amount kind (passes n)) sheet)
passes-balanced sheet w kind n h e =
    let a = account sheet w in
    let b = account-balanced sheet w e in
    Each-at_account IsBalanced w (at_amount kind (passes n)) sheet e (λ other. by_kind Balances (passes n) kind other a (balanced-passes n (amount kind a) h (b kind)) (b other))

pub passes-total : (sheet : List Account) (w : W) (kind other : Quota) (n : ℕ) → n ≤ held sheet w kind → total other (at_account w (at_amount kind (passes n)) sheet) + moved kind other n ≡ total other sheet
passes-total sheet w kind other n h = sum-less (kept other) w (at_amount kind (passes n)) sheet (moved kind other n) (no_account-kept other w) (kept-passes kind other n (account sheet w) h)

pub receives-balanced : (sheet : List Account) (w : W) (kind : Quota) (n : ℕ) → Each IsBalanced sheet → Each IsBalanced (at_account w (at_amount kind (receives n)) sheet)
receives-balanced sheet w kind n e =
    let a = account sheet w in
    let b = account-balanced sheet w e in
    Each-at_account IsBalanced w (at_amount kind (receives n)) sheet e (λ other. by_kind Balances (receives n) kind other a (balanced-receives n (amount kind a) (b kind)) (b other))

pub receives-total : (sheet : List Account) (w : W) (kind other : Quota) (n : ℕ) → Among w (sponsors sheet) → total other (at_account w (at_amount kind (receives n)) sheet) ≡ total other sheet + moved kind other n
receives-total sheet w kind other n i = sum-more (kept other) w (at_amount kind (receives n)) sheet (moved kind other n) i (kept-receives kind other n (account sheet w))

-- ---- soundness

pub sound-spend : (t : ℕ) (sheet : List Account) (w : W) (c : Charge) → short (account sheet w) c ≡ None → IsSound t sheet → IsSound t (spend sheet w c)
sound-spend t sheet w c h s = record {
  balanced = spend-balanced sheet w c h s.balanced;
  bounded = Each-at_account (ReceivedAtMost ((t + 1) * most_held)) w (paid c) sheet s.bounded (paid-bounded ((t + 1) * most_held) (account sheet w) c (account-bounded ((t + 1) * most_held) sheet w s.bounded));
  fits = λ kind. omega (arith, spend-total sheet w c kind h, s.fits kind);
}

pub sound-passes : (t : ℕ) (sheet : List Account) (w : W) (kind : Quota) (n : ℕ) → n ≤ held sheet w kind → IsSound t sheet → IsSound t (at_account w (at_amount kind (passes n)) sheet)
sound-passes t sheet w kind n h s =
    let most = (t + 1) * most_held in
    let b = account-bounded most sheet w s.bounded in
    record {
      balanced = passes-balanced sheet w kind n h s.balanced;
      bounded = Each-at_account (ReceivedAtMost most) w (at_amount kind (passes n)) sheet s.bounded (λ other. by_kind (λ (x : Amount). x.received ≤ most) (passes n) kind other (account sheet w) (b kind) (b other));
      fits = λ other. omega (arith, passes-total sheet w kind other n h, s.fits other);
    }

pub moved-same : (kind : Quota) (n : ℕ) → moved kind kind n ≡ n
moved-same Memory n = refl
moved-same Events n = refl
moved-same Cycles n = refl

pub sound-receives : (t : ℕ) (sheet : List Account) (w : W) (kind : Quota) (n : ℕ) → Among w (sponsors sheet) → ((other : Quota) → total other sheet + moved kind other n ≤ most_held) → IsSound t sheet → IsSound (t + 1) (at_account w (at_amount kind (receives n)) sheet)
sound-receives t sheet w kind n i f s =
    let most = (t + 1) * most_held in
    let more = (t + 1 + 1) * most_held in
    let few : n ≤ most_held = omega (arith, f kind, moved-same kind n) in
    let b = account-bounded most sheet w s.bounded in
    let up : (x : ℕ) → x ≤ most → x ≤ more = λ x h. omega arith in
    let up_n : (x : ℕ) → x ≤ most → x + n ≤ more = λ x h. omega arith in
    record {
      balanced = receives-balanced sheet w kind n s.balanced;
      bounded = Each-at_account (ReceivedAtMost more) w (at_amount kind (receives n)) sheet (Each-more (ReceivedAtMost most) (ReceivedAtMost more) sheet (λ a p other. up (amount other a).received (p other)) s.bounded) (λ other. by_kind (λ (x : Amount). x.received ≤ more) (receives n) kind other (account sheet w) (up_n (amount kind (account sheet w)).received (b kind)) (up (amount other (account sheet w)).received (b other)));
      fits = λ other. omega (arith, receives-total sheet w kind other n i, f other);
    }

pub sound-same : (t : ℕ) (sheet : List Account) (w : W) (standing : Standing) → IsSound t sheet → IsSound t (at_account w (stands_as standing) sheet)
sound-same t sheet w standing s =
    let most = (t + 1) * most_held in
    let f = stands_as standing in
    let a = account sheet w in
    record {
      balanced = Each-at_account IsBalanced w f sheet s.balanced (as_before (λ (x : Amount). Balances x) standing a (account-balanced sheet w s.balanced));
      bounded = Each-at_account (ReceivedAtMost most) w f sheet s.bounded (as_before (λ (x : Amount). x.received ≤ most) standing a (account-bounded most sheet w s.bounded));
      fits = λ kind. omega (arith, sum-at_account (kept kind) w f sheet (same_kept standing kind a), s.fits kind);
    }
  where
    as_before : (P : Amount → Type 0) (standing : Standing) (a : Account) → ((kind : Quota) → P (amount kind a)) → (kind : Quota) → P (amount kind (stands_as standing a))
    as_before P standing a h Memory = h Memory
    as_before P standing a h Events = h Events
    as_before P standing a h Cycles = h Cycles

    same_kept : (standing : Standing) (kind : Quota) (a : Account) → kept kind (stands_as standing a) ≡ kept kind a
    same_kept standing Memory a = refl
    same_kept standing Events a = refl
    same_kept standing Cycles a = refl

pub sound-new : (t : ℕ) (sheet : List Account) (w : W) → IsSound t sheet → IsSound t (with_sponsor sheet w)
sound-new t sheet w s = record {
  balanced = Each-push IsBalanced sheet (no_account w) s.balanced (no_account-balanced w);
  bounded = Each-push (ReceivedAtMost ((t + 1) * most_held)) sheet (no_account w) s.bounded (no_account-bounded ((t + 1) * most_held) w);
  fits = λ kind. omega (arith, sum_by_push (kept kind) sheet (no_account w), no_account-kept kind w, s.fits kind);
}

-- ---- the names, and whole transfers

pub sponsors-at_account : (w : W) (f : Account → Account) (sheet : List Account) → ((a : Account) → (f a).sponsor ≡ a.sponsor) → sponsors (at_account w f sheet) ≡ sponsors sheet
sponsors-at_account w f [] k = refl
sponsors-at_account w f (a ∷ sheet) k = by (same_word a.sponsor w) (sponsors-at_account w f sheet k)
  where
    by : (b : Bool) → sponsors (at_account w f sheet) ≡ sponsors sheet → sponsors (if b then f a ∷ sheet else a ∷ at_account w f sheet) ≡ a.sponsor ∷ sponsors sheet
    by true rest = ap (λ v. v ∷ sponsors sheet) (k a)
    by false rest = ap (λ vs. a.sponsor ∷ vs) rest

at_amount-sponsor : (kind : Quota) (change : Amount → Amount) (a : Account) → (at_amount kind change a).sponsor ≡ a.sponsor
at_amount-sponsor Memory change a = refl
at_amount-sponsor Events change a = refl
at_amount-sponsor Cycles change a = refl

-- what a change leaves of each account it leaves of the account that is found
account-at_account : (h : Account → Amount) (w v : W) (f : Account → Account) (sheet : List Account) → ((a : Account) → h (f a) ≡ h a) → ((a : Account) → (f a).sponsor ≡ a.sponsor) → h (account (at_account w f sheet) v) ≡ h (account sheet v)
account-at_account h w v f [] k m = refl
account-at_account h w v f (a ∷ sheet) k m = by (same_word a.sponsor w) (account-at_account h w v f sheet k m)
  where
    here : (b : Bool) → h (if b then f a else account sheet v) ≡ h (if b then a else account sheet v)
    here true = k a
    here false = refl

    there : (b : Bool) → h (account (at_account w f sheet) v) ≡ h (account sheet v) → h (if b then a else account (at_account w f sheet) v) ≡ h (if b then a else account sheet v)
    there true rest = refl
    there false rest = rest

    by : (b : Bool) → h (account (at_account w f sheet) v) ≡ h (account sheet v) → h (account (if b then f a ∷ sheet else a ∷ at_account w f sheet) v) ≡ h (account (a ∷ sheet) v)
    by true rest = ap (λ (x : W). h (if same_word x v then f a else account sheet v)) (m a) ∙ here (same_word a.sponsor v)
    by false rest = there (same_word a.sponsor v) rest

-- a transfer of one kind leaves what is held of another
held-transfer : (sheet : List Account) (from to v : W) (kind other : Quota) (n : ℕ) → ((change : Amount → Amount) (a : Account) → amount other (at_amount kind change a) ≡ amount other a) → held (transfer sheet from to kind n) v other ≡ held sheet v other
held-transfer sheet from to v kind other n k = by (same_word from to)
  where
    half : (w : W) (change : Amount → Amount) (rows : List Account) → held (at_account w (at_amount kind change) rows) v other ≡ held rows v other
    half w change rows = ap (λ (x : Amount). x.held) (account-at_account (amount other) w v (at_amount kind change) rows (k change) (at_amount-sponsor kind change))

    by : (b : Bool) → held (if b then sheet else at_account to (at_amount kind (receives n)) (at_account from (at_amount kind (passes n)) sheet)) v other ≡ held sheet v other
    by true = refl
    by false = half to (receives n) (at_account from (at_amount kind (passes n)) sheet) ∙ half from (passes n) sheet

-- what a transfer keeps
pub record Conserves (old new : List Account) : Type 0 where
  pub balanced : Each IsBalanced old → Each IsBalanced new
  pub same_total : (kind : Quota) → total kind new ≡ total kind old
  pub same_sponsors : sponsors new ≡ sponsors old

conserves-then : (a b c : List Account) → Conserves a b → Conserves b c → Conserves a c
conserves-then a b c f g = record {
  balanced = λ e. g.balanced (f.balanced e);
  same_total = λ kind. g.same_total kind ∙ f.same_total kind;
  same_sponsors = g.same_sponsors ∙ f.same_sponsors;
}

pub transfer-conserves : (sheet : List Account) (from to : W) (kind : Quota) (n : ℕ) → Among to (sponsors sheet) → n ≤ held sheet from kind → Conserves sheet (transfer sheet from to kind n)
transfer-conserves sheet from to kind n i h = by (same_word from to)
  where
    by : (b : Bool) → Conserves sheet (if b then sheet else at_account to (at_amount kind (receives n)) (at_account from (at_amount kind (passes n)) sheet))
    by true = record { balanced = λ e. e; same_total = λ k. refl; same_sponsors = refl }
    by false =
        let m = at_account from (at_amount kind (passes n)) sheet in
        let one = sponsors-at_account from (at_amount kind (passes n)) sheet (at_amount-sponsor kind (passes n)) in
        let j : Among to (sponsors m) = subst (λ (vs : List W). Among to vs) (sym one) i in
        record {
          balanced = λ e. receives-balanced m to kind n (passes-balanced sheet from kind n h e);
          same_total = λ k. receives-total m to kind k n j ∙ passes-total sheet from kind k n h;
          same_sponsors = sponsors-at_account to (at_amount kind (receives n)) m (at_amount-sponsor kind (receives n)) ∙ one;
        }

-- what is held of the other kinds after the first one or two were moved
pub held-second : (sheet : List Account) (from to v : W) (n : ℕ) → held (transfer sheet from to Memory n) v Events ≡ held sheet v Events
held-second sheet from to v n = held-transfer sheet from to v Memory Events n (λ change a. refl)

pub held-third : (sheet : List Account) (from to v : W) (n k : ℕ) → held (transfer (transfer sheet from to Memory n) from to Events k) v Cycles ≡ held sheet v Cycles
held-third sheet from to v n k = held-transfer (transfer sheet from to Memory n) from to v Events Cycles k (λ change a. refl) ∙ held-transfer sheet from to v Memory Cycles n (λ change a. refl)

pub reclaim-conserves : (sheet : List Account) (from to : W) → Among to (sponsors sheet) → Conserves sheet (reclaim sheet from to)
reclaim-conserves sheet from to i =
    let m = held sheet from Memory in
    let e = held sheet from Events in
    let c = held sheet from Cycles in
    let one = transfer sheet from to Memory m in
    let two = transfer one from to Events e in
    let a = transfer-conserves sheet from to Memory m i (omega arith) in
    let i1 : Among to (sponsors one) = subst (λ (vs : List W). Among to vs) (sym a.same_sponsors) i in
    let b = transfer-conserves one from to Events e i1 (omega (arith, held-second sheet from to from m)) in
    let i2 : Among to (sponsors two) = subst (λ (vs : List W). Among to vs) (sym b.same_sponsors) i1 in
    let d = transfer-conserves two from to Cycles c i2 (omega (arith, held-third sheet from to from m e)) in
    conserves-then sheet two (transfer two from to Cycles c) (conserves-then sheet one two a b) d
