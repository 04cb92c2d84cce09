-- What all sponsors have spent is what the events that ended and those in flight have.
use Rattle.std.proofs.Common.{◌≡◌, ◌⊎◌, inl, inr, ℕ, suc, ◌+◌, ◌<◌, ◌%◌, List, [], ◌∷◌, ◌++◌, length, Option, Some, None, refl, ap, sym, subst, ◌∙◌, arith, eq-eqb, ne_eqb, append-nil}
use Rattle.std.specs.Prelude.{slice_get, slice_set, remove}
use Rattle.std.proofs.lemmas.List.Sums.{sum_by-cons, sum_by_push}
use Rattle.cap_words.specs.Words.{W, Cap}
use Rattle.cap_words.specs.Seen.{SponsorSlot}
use Rattle.cap_words.specs.Frame.{Among}
use Rattle.quad_memory.specs.Image.{RomImage}
use Rattle.instr_table.specs.declared.charge.Charge.{Charge}
use Rattle.instr_table.specs.declared.charge.Quota.{Quota}
use Rattle.instr_table.specs.declared.charge.Quota.TheVariants.{Memory, Events, Cycles}
use Rattle.instr_table.specs.Code.{fetched}
use Rattle.instr_table.specs.Event.{Sent, Effects, no_effects}
use Rattle.instr_table.specs.Spent.{Spent, unspent, spent_more, spent_in_kind}
use Rattle.instr_table.specs.Sheet.{Account, Stopped, stop, prepared}
use Rattle.instr_table.specs.Outcome.{Going, Goes}
use Rattle.instr_table.specs.Lane.{Lane, values, begun, gone}
use Rattle.instr_table.specs.Reach.{Every}
use Rattle.instr_table.proofs.GotWords.{every-append, every-map}
use Rattle.vm_sponsor.specs.declared.amounts.Amounts.{Amounts}
use Rattle.vm_sponsor.specs.Sheets.{root_account}
use Rattle.vm_sponsor.specs.Totals.{sponsors}
use Rattle.vm_turn.specs.declared.journal.Entry.{Entry}
use Rattle.vm_turn.specs.declared.journal.Outcome.{Outcome as End}
use Rattle.vm_turn.specs.declared.journal.Outcome.TheVariants.{Committed, Failed, RanOut}
use Rattle.vm_turn.specs.State.{Message, State, root}
use Rattle.vm_turn.specs.Actors.{sent_at}
use Rattle.vm_turn.specs.Boot.{booted}
use Rattle.vm_turn.specs.Turn.{entry, without, numbered_from, own_of, begin, delivered, refused, finish, go_on, released, run_out, turn}
use Rattle.vm_turn.specs.Run.{after}
use Rattle.vm_turn.specs.Sound.{Sound, numbers, Other, Has, spent_by_all}
use Rattle.vm_turn.specs.Spending.{Spending, none_spent, with_spent, with_charge, turn_spending, spending_after, spent_in_flight, spent_by_ended, EventsSpendWhatIsPaid}
use Rattle.vm_turn.proofs.Sums.{sum-removed, sum-set}
use Rattle.vm_turn.proofs.Sheets.{due, Moves, spend-moves, stands-moves, effect-moves, payer-there}
use Rattle.vm_turn.proofs.Numbers.{has-at, rest-other}
use Rattle.vm_turn.proofs.Grants.{HeldBy, row_at-holds}
use Rattle.vm_turn.proofs.Sponsors.{allowed}
use Rattle.vm_turn.proofs.Bound.{dispatchable-chosen, turn-sound}
use Rattle.vm_turn.proofs.Places.{has-place, message-given, flight-message}
use Rattle.vm_turn.proofs.Rights.{has-of, has-left, numbered-above}
use Rattle.vm_turn.proofs.RunsSound.{boot-sound}
use Rattle.vm_turn.proofs.TurnCases.{IsPaid, row_of, paid_for, IsDispatched, turn-spends}

-- ---- one event is charged

pub spent-due : (kind : Quota) (n : Spent) (c : Charge) → spent_in_kind kind (spent_more n c) ≡ spent_in_kind kind n + due c kind
spent-due Memory n c = omega arith
spent-due Events n c = omega arith
spent-due Cycles n c = omega arith

pub nothing-spent : (kind : Quota) → spent_in_kind kind unspent ≡ 0
nothing-spent Memory = refl
nothing-spent Events = refl
nothing-spent Cycles = refl

-- what it has spent then, and what others have
pub with-same : (before : Spending) (n : ℕ) (x : Spent) → with_spent before n x n ≡ x
with-same before n x = rw (eq-eqb n n refl) refl

pub with-other : (before : Spending) (n : ℕ) (x : Spent) (k : ℕ) → (k ≡ n → ⊥) → with_spent before n x k ≡ before k
with-other before n x k d = rw (ne_eqb k n d) refl

module _ (kind : Quota) (before : Spending) where
  abbrev of : Spending → Lane → ℕ
  of spending l = spent_in_kind kind (spending l.number)

  abbrev of_entry : Spending → Entry → ℕ
  of_entry spending e = spent_in_kind kind (spending e.message)

  module _ (n : ℕ) (x : Spent) where
    abbrev now : Spending
    now = with_spent before n x

    pub flight-other : (ls : List Lane) → Other n (numbers ls) → spent_in_flight kind now ls ≡ spent_in_flight kind before ls
    flight-other [] o = refl
    flight-other (k ∷ ls) o =
        let a = ap (spent_in_kind kind) (with-other before n x k.number o.0) in
        let b = flight-other ls o.1 in
        let p = sum_by-cons (of now) k ls in
        let q = sum_by-cons (of before) k ls in
        omega (arith, a, b, p, q)

    pub ended-other : (es : List Entry) → Every (λ (e : Entry). e.message ≡ n → ⊥) es → spent_by_ended kind now es ≡ spent_by_ended kind before es
    ended-other [] o = refl
    ended-other (e ∷ es) o =
        let a = ap (spent_in_kind kind) (with-other before n x e.message o.0) in
        let b = ended-other es o.1 in
        let p = sum_by-cons (of_entry now) e es in
        let q = sum_by-cons (of_entry before) e es in
        omega (arith, a, b, p, q)

    -- one more ends
    pub ended-more : (es : List Entry) (end : End) → Every (λ (e : Entry). e.message ≡ n → ⊥) es → spent_by_ended kind now (es ++ entry n end ∷ []) ≡ spent_by_ended kind before es + spent_in_kind kind x
    ended-more es end o =
        let a = ended-other es o in
        let b = sum_by_push (of_entry now) es (entry n end) in
        let c = ap (spent_in_kind kind) (with-same before n x) in
        omega (arith, a, b, c)

    -- one more begins
    pub flight-more : (ls : List Lane) (new : Lane) → new.number ≡ n → Other n (numbers ls) → spent_in_flight kind now (ls ++ new ∷ []) ≡ spent_in_flight kind before ls + spent_in_kind kind x
    flight-more ls new is o =
        let a = flight-other ls o in
        let b = sum_by_push (of now) ls new in
        let c : of now new ≡ spent_in_kind kind x = ap (λ (k : ℕ). spent_in_kind kind (now k)) is ∙ ap (spent_in_kind kind) (with-same before n x) in
        omega (arith, a, b, c)

  -- one leaves the flight
  pub flight-less : (ls : List Lane) (i : ℕ) (l : Lane) (x : Spent) → slice_get ls i ≡ Some l → Other l.number (numbers (remove ls i))
      → spent_in_flight kind (with_spent before l.number x) (remove ls i) + spent_in_kind kind (before l.number) ≡ spent_in_flight kind before ls
  flight-less ls i l x at o =
      let a = flight-other l.number x (remove ls i) o in
      let b = sum-removed (of before) ls i l at in
      omega (arith, a, b)

  -- one goes on
  pub flight-on : (ls : List Lane) (i : ℕ) (l new : Lane) (x : Spent) → slice_get ls i ≡ Some l → new.number ≡ l.number → Other l.number (numbers (remove ls i))
      → spent_in_flight kind (with_spent before l.number x) (slice_set ls i new) + spent_in_kind kind (before l.number) ≡ spent_in_flight kind before ls + spent_in_kind kind x
  flight-on ls i l new x at is o =
      let n = with_spent before l.number x in
      let a = flight-less ls i l x at o in
      let b = sum-removed (of n) ls i l at in
      let c = sum-set (of n) ls i l new at in
      let d : of n new ≡ spent_in_kind kind x = ap (λ (k : ℕ). spent_in_kind kind (n k)) is ∙ ap (spent_in_kind kind) (with-same before l.number x) in
      omega (arith, a, b, c, d)

-- ---- what every turn keeps

-- the message of an entry was given, and is finished
abbrev IsEnded : ℕ → List Message → Entry → Type 0
IsEnded next ms e = (e.message < next) × (Has ms e.message → ⊥)

-- all sponsors have spent what events have, and each entry is of a message that is finished
record Paid (before : Spending) (s : State) : Type 0 where
  paid : (kind : Quota) → spent_by_all kind s.sheet ≡ spent_by_ended kind before s.journal + spent_in_flight kind before s.flight
  ended : Every (IsEnded s.next_number s.messages) s.journal

-- no entry is of a message that is not finished
not-ended : (next : ℕ) (ms : List Message) (n : ℕ) (es : List Entry) → Has ms n → Every (IsEnded next ms) es → Every (λ (e : Entry). e.message ≡ n → ⊥) es
not-ended next ms n es has h = every-map (IsEnded next ms) (λ (e : Entry). e.message ≡ n → ⊥) es (λ e k same. k.1 (subst (λ (x : ℕ). Has ms x) (sym same) has)) h

-- ended messages stay ended
ended-later : (next : ℕ) (ms : List Message) (n : ℕ) (xs : List Sent) (es : List Entry) → Every (IsEnded next ms) es → Every (IsEnded (next + length xs) (without n ms ++ numbered_from next xs)) es
ended-later next ms n xs es h = every-map (IsEnded next ms) (IsEnded (next + length xs) (without n ms ++ numbered_from next xs)) es each h
  where
    each : (e : Entry) → IsEnded next ms e → IsEnded (next + length xs) (without n ms ++ numbered_from next xs) e
    each e k = ((let a = k.0 in omega (arith, a)), λ has. by (has-of (without n ms) (numbered_from next xs) e.message has))
      where
        by : Has (without n ms) e.message ⊎ Has (numbered_from next xs) e.message → ⊥
        by (inl g) = k.1 (has-left ms n e.message g).1
        by (inr g) = let a = numbered-above next xs e.message g in let b = k.0 in absurd (omega (arith, a, b))

-- and one more is
ended-now : (next : ℕ) (ms : List Message) (n : ℕ) (xs : List Sent) (end : End) → n < next → IsEnded (next + length xs) (without n ms ++ numbered_from next xs) (entry n end)
ended-now next ms n xs end below = (omega (arith, below), λ has. by (has-of (without n ms) (numbered_from next xs) n has))
  where
    by : Has (without n ms) n ⊎ Has (numbered_from next xs) n → ⊥
    by (inl g) = (has-left ms n n g).0 refl
    by (inr g) = let a = numbered-above next xs n g in absurd (omega (arith, a, below))

released-paid : (before : Spending) (o : Option W) (kind : Quota) (u : State) → Paid before u → Paid before (released o kind u)
released-paid before None kind u h = h
released-paid before (Some w) kind u h = record { paid = h.paid; ended = every-map (IsEnded u.next_number u.messages) (IsEnded (suc u.next_number) (u.messages ++ new ∷ [])) u.journal each h.ended }
  where
    new : Message
    new = record { number = u.next_number; event = w }

    each : (e : Entry) → IsEnded u.next_number u.messages e → IsEnded (suc u.next_number) (u.messages ++ new ∷ []) e
    each e k = ((let a = k.0 in omega (arith, a)), λ has. by (has-of u.messages (new ∷ []) e.message has))
      where
        by : Has u.messages e.message ⊎ Has (new ∷ []) e.message → ⊥
        by (inl g) = k.1 g
        by (inr (inl g)) = let a = k.0 in absurd (omega (arith, a, g))
        by (inr (inr g)) = g

out-paid : (before : Spending) (u : State) (kind : Quota) → Paid before u → Paid before (record u { out_of = Some kind })
out-paid before u kind h = record { paid = h.paid; ended = h.ended }

module _ {grant : Amounts} (s : State) (ok : Sound grant s) (before : Spending) (h : Paid before s) where
  -- ---- dispatch

  begun-paid : (m : Message) → IsDispatched s m None → Paid (with_spent before m.number unspent) (begin s m.number (sent_at s.store m.event))
  begun-paid m d =
      let c = dispatchable-chosen s m d.first in
      let new = not-ended s.next_number s.messages m.number s.journal c.has h.ended in
      record {
        paid = λ kind.
            let a = ended-other kind before m.number unspent s.journal new in
            let b = flight-more kind before m.number unspent s.flight (begun m.number (own_of s.store (sent_at s.store m.event))) refl c.other in
            let z = nothing-spent kind in
            let p = h.paid kind in
            omega (arith, a, b, z, p);
        ended = h.ended;
      }

  device-paid : (m : Message) (device : ℕ) (end : End) (bytes : List ℕ) → IsDispatched s m (Some device) → Paid (with_spent before m.number unspent) (delivered s m.number end bytes)
  device-paid m device end bytes d =
      let c = dispatchable-chosen s m d.first in
      let new = not-ended s.next_number s.messages m.number s.journal c.has h.ended in
      let p = has-place s.messages m.number c.has in
      let g = message-given s ok p.0 p.1 p.2 in
      let e = p.3 in
      record {
        paid = λ kind.
            let a = ended-more kind before m.number unspent s.journal end new in
            let b = flight-other kind before m.number unspent s.flight c.other in
            let z = nothing-spent kind in
            let p = h.paid kind in
            omega (arith, a, b, z, p);
        ended = every-append (IsEnded s.next_number (without m.number s.messages)) s.journal (entry m.number end ∷ []) (every-map _ _ s.journal (λ e k. (k.0, λ has. k.1 (has-left s.messages m.number e.message has).1)) h.ended)
            ((omega (arith, g, e), λ has. (has-left s.messages m.number m.number has).0 refl), tt);
      }

  module _ (i : ℕ) (l : Lane) (at : slice_get s.flight i ≡ Some l) where
    has : Has s.messages l.number
    has = has-at s.messages s.flight i l at ok.pending

    others : Other l.number (numbers (remove s.flight i))
    others = rest-other s.flight i l at ok.apart

    given : l.number < s.next_number
    given = let m = flight-message s ok i l at in let g = message-given s ok m.0 m.1 m.2 in let e = m.3 in omega (arith, g, e)

    not_yet : Every (λ (e : Entry). e.message ≡ l.number → ⊥) s.journal
    not_yet = not-ended s.next_number s.messages l.number s.journal has h.ended

    -- the event ends, and its sponsor paid what it spent more
    finish-paid : (x : Spent) (sheet : List Account) (effects : Effects) (end : End) → ((kind : Quota) → spent_by_all kind sheet + spent_in_kind kind (before l.number) ≡ spent_by_all kind s.sheet + spent_in_kind kind x)
        → Paid (with_spent before l.number x) (finish s i l sheet effects end)
    finish-paid x sheet effects end pays = record {
      paid = λ kind.
          let a = ended-more kind before l.number x s.journal end not_yet in
          let b = flight-less kind before s.flight i l x at others in
          let p = h.paid kind in
          let q = pays kind in
          omega (arith, a, b, p, q);
      ended = every-append (IsEnded (s.next_number + length effects.sent) (without l.number s.messages ++ numbered_from s.next_number effects.sent)) s.journal (entry l.number end ∷ [])
          (ended-later s.next_number s.messages l.number effects.sent s.journal h.ended) (ended-now s.next_number s.messages l.number effects.sent end given, tt);
    }

    -- it runs out, and nothing is paid
    run_out-paid : (kind : Quota) → Paid before (run_out s i l kind)
    run_out-paid kind =
        let sheet = stop s.sheet l.own.sponsor in
        let f = stands-moves s.sheet l.own.sponsor Stopped in
        released-paid before (prepared s.sheet l.own.sponsor) kind (finish s i l sheet no_effects (RanOut kind)) (record {
          paid = λ k.
              let a = sum_by_push (λ (e : Entry). spent_in_kind k (before e.message)) s.journal (entry l.number (RanOut kind)) in
              let b = sum-removed (λ (x : Lane). spent_in_kind k (before x.number)) s.flight i l at in
              let p = h.paid k in
              let q = f.spent k in
              omega (arith, a, b, p, q);
          ended = every-append (IsEnded (s.next_number + 0) (without l.number s.messages ++ [])) s.journal (entry l.number (RanOut kind) ∷ [])
              (ended-later s.next_number s.messages l.number [] s.journal h.ended) (ended-now s.next_number s.messages l.number [] (RanOut kind) given, tt);
        })

    module _ (paid : IsPaid s l) where
      abbrev c : Charge
      c = (row_of s l).charge

      pays : Moves s.sheet (paid_for s l) (due c) [] []
      pays = spend-moves s.sheet l.own.sponsor c paid

      charged : (kind : Quota) → spent_by_all kind (paid_for s l) + spent_in_kind kind (before l.number) ≡ spent_by_all kind s.sheet + spent_in_kind kind (spent_more (before l.number) c)
      charged kind = let a = pays.spent kind in let b = spent-due kind (before l.number) c in omega (arith, a, b)

      go_on-paid : (g : Going) → (row_of s l).outcome ≡ Goes g → Paid (with_charge before l.number c) (go_on s i l (paid_for s l) g)
      go_on-paid g is =
          let same : sponsors (paid_for s l) ≡ sponsors s.sheet = pays.sponsors_are ∙ append-nil (sponsors s.sheet) in
          let listed = λ (n : ℕ) (e : slice_get s.store.slots n ≡ Some SponsorSlot). subst (λ (ws : List W). Among (Cap n) ws) (sym same) (ok.listed n e) in
          let payer = subst (λ (ws : List W). Among l.own.sponsor ws) (sym same) (payer-there s.sheet l.own.sponsor c paid) in
          let held = subst (HeldBy s.store (paid_for s l) l.own.sponsor) is (row_at-holds l.own (fetched s.store l.code) s.store s.sheet l.effects (values l.stack)) in
          let x = effect-moves (paid_for s l) l.own.sponsor g.effect (allowed s.store (paid_for s l) l.own.sponsor g.effect listed payer held) in
          record {
            paid = λ kind.
                let a = ended-other kind before l.number (spent_more (before l.number) c) s.journal not_yet in
                let b = flight-on kind before s.flight i l (gone s.store l g) (spent_more (before l.number) c) at refl others in
                let p = h.paid kind in
                let q = charged kind in
                let y = x.spent kind in
                omega (arith, a, b, p, q, y);
            ended = h.ended;
          }

  turn-paid : (pick : ℕ) → Paid (turn_spending before s pick) (turn s pick).0
  turn-paid pick = turn-spends s pick before (λ t a n. Paid n t) (record {
    spent = λ kind out. h;
    rests = λ run waits none. h;
    begins = λ m d. begun-paid m d;
    writes = λ m device bytes d e. device-paid m device Committed bytes d;
    refuses = λ m device d e. device-paid m device refused [] d;
    goes = λ l g at paid is. go_on-paid (pick % length s.flight) l at paid g is;
    fails = λ l w at paid is. finish-paid (pick % length s.flight) l at (spent_more (before l.number) (row_of s l).charge) (paid_for s l) no_effects (Failed w) (charged (pick % length s.flight) l at paid);
    commits = λ l at paid is. finish-paid (pick % length s.flight) l at (spent_more (before l.number) (row_of s l).charge) (paid_for s l) l.effects Committed (charged (pick % length s.flight) l at paid);
    runs_out = λ l kind at lacks other. run_out-paid (pick % length s.flight) l at kind;
    root_runs_out = λ l kind at lacks same run. out-paid before (run_out s (pick % length s.flight) l kind) kind (run_out-paid (pick % length s.flight) l at kind);
  })

-- ---- runs

boot-paid : (image : RomImage) (grant : Amounts) (lanes : ℕ) → Paid none_spent (booted image grant lanes)
boot-paid image grant lanes = record { paid = λ kind. by kind; ended = tt }
  where
    by : (kind : Quota) → spent_by_all kind (root_account root grant ∷ []) ≡ 0
    by Memory = omega arith
    by Events = omega arith
    by Cycles = omega arith

after-paid : {grant : Amounts} (before : Spending) (s : State) (ps : List ℕ) → Sound grant s → Paid before s → Paid (spending_after before s ps) (after s ps)
after-paid before s [] ok h = h
after-paid {grant = grant} before s (p ∷ ps) ok h = after-paid (turn_spending before s p) (turn s p).0 ps (turn-sound grant s ok p) (turn-paid s ok before h p)

pub events-spend_paid : EventsSpendWhatIsPaid
events-spend_paid image grant lanes picks kind = (after-paid none_spent (booted image grant lanes) picks (boot-sound image grant lanes) (boot-paid image grant lanes)).paid kind
