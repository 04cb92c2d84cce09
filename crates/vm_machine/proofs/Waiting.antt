-- Where no message can go, none can after an instruction that starts no sponsor.
use Rattle.std.proofs.Common.{◌≡◌, inl, inr, ℕ, zero, suc, nat_lt, List, [], ◌∷◌, ◌++◌, length, drop, Option, Some, None, Bool, true, false, if◌then◌else◌, ap, refl, sym, ◌∙◌, subst, arith}
use Rattle.std.specs.Prelude.{pos, slice_get, slice_set, not, ◌&&◌}
use Rattle.std.specs.Ordering.{int_eq}
use Rattle.cap_words.specs.Words.{W, Fix, Rom, Ram, Cap, same_word}
use Rattle.cap_words.specs.Seen.{Seen, Slot, OpenSlot, ActorSlot, UnbornSlot, EventSlot, SponsorSlot, SpentSlot, grown}
use Rattle.cap_words.specs.Frame.{Among}
use Rattle.cap_words.proofs.Places.{get-left}
use Rattle.instr_table.specs.declared.op.Op.{Op}
use Rattle.instr_table.specs.declared.op.Op.TheVariants.{Push, Dup, Drop, Pick, Roll, Depth, Pair, Part, Nth, QuadMake, QuadTake, Get, Typeq, Eq, Cmp, AluNot, Alu, If, Jump, Msg, State as StateOf, My, ActorSend, ActorPost, ActorCreate, ActorAssign, ActorBecome, End, DictTest, DictPut, DictDel, DequeNew, DequeTest, DequePut, DequeTake, SponsorNew, SponsorGrant, SponsorReclaim, SponsorStart, SponsorStop, Assert, Debug}
use Rattle.instr_table.specs.declared.charge.Charge.{Charge}
use Rattle.instr_table.specs.declared.charge.Quota.{Quota}
use Rattle.instr_table.specs.declared.charge.Quota.TheVariants.{Memory, Events, Cycles}
use Rattle.instr_table.specs.Code.{fetched}
use Rattle.instr_table.specs.Lists.{item, pair_quad}
use Rattle.instr_table.specs.Types.{is_actor, is_sponsor, is_makeable}
use Rattle.instr_table.specs.Event.{Own, Effects, Behaviour, Effect, Nothing, Sends, Creates, Assigns, Becomes, Sponsors, Grants, Reclaims, Starts, Stops, has_created}
use Rattle.instr_table.specs.Making.{MakesNamed, MadeWith, IsOrdinaryCell}
use Rattle.instr_table.specs.Outcome.{Going, Outcome, Goes, Faults, Commits, Row}
use Rattle.instr_table.specs.Sheet.{Account, Stopped, no_account, account, at_account, at_amount, held, spend, transfer, passes, receives, runs, runs_in, stands_as, sheet_after, with_sponsor, paid}
use Rattle.instr_table.specs.ActorRows.{become_row}
use Rattle.instr_table.specs.SponsorRows.{grant_of, kind_of_grant, most_sponsors}
use Rattle.instr_table.specs.Row.{row, row_at}
use Rattle.instr_table.specs.Lane.{Item, top_at, push_one, push_all, after_going, gone, lane_row, values, Lane as Flying}
use Rattle.instr_table.specs.Reach.{Every}
use Rattle.instr_table.proofs.Makings.{row_at-makes}
use Rattle.vm_turn.specs.State.{State, Message}
use Rattle.vm_turn.specs.Actors.{sent_in, sent_at, is_idle_in, is_idle}
use Rattle.vm_turn.specs.Turn.{is_in_flight, can_go, first_to_go, go_on}
use Rattle.vm_turn.specs.Sound.{Sound, NamesOne, message_words}
use Rattle.vm_turn.proofs.Events.{times-among}
use Rattle.vm_machine.specs.Steps.{is_start, starts}
use Rattle.vm_machine.specs.Whole.{Waits}
use Rattle.vm_machine.proofs.Going.{in_flight-set}
use Rattle.vm_machine.proofs.Growth.{going-grown}

-- ---- which rows start a sponsor

abbrev pub NoStart : Effect → Type 0
NoStart Nothing = Unit {0}
NoStart (Sends m) = Unit {0}
NoStart (Creates m) = Unit {0}
NoStart (Assigns m) = Unit {0}
NoStart (Becomes b) = Unit {0}
NoStart (Sponsors w) = Unit {0}
NoStart (Grants w kind n) = Unit {0}
NoStart (Reclaims w) = Unit {0}
NoStart (Starts w signal) = ⊥
NoStart (Stops w) = Unit {0}

abbrev pub StartsNone : Outcome → Type 0
StartsNone (Goes g) = NoStart g.effect
StartsNone (Faults w) = Unit {0}
StartsNone Commits = Unit {0}

module _ (own : Own) (s : Seen) (sheet : List Account) (e : Effects) (vs : List W) (k : W) where
  abbrev Holds : Row → Type 0
  Holds r = StartsNone r.outcome

  either : (b : Bool) (r q : Row) → Holds r → Holds q → Holds (if b then r else q)
  either true r q h g = h
  either false r q h g = g

  become : (b : Option Behaviour) → Holds (become_row b vs k)
  become None = tt
  become (Some b) = tt

  granting : (o : Option ℕ) (kind : Quota) (w : W) → Holds (grant_of o kind s w k)
  granting None kind w = tt
  granting (Some n) kind w = either (is_sponsor s w) _ _ tt tt

  row-starts : (op : Op) → is_start op ≡ false → Holds (row own op s sheet e vs k)
  row-starts (Push v) n = tt
  row-starts (Dup z) n = tt
  row-starts (Drop z) n = tt
  row-starts (Pick z) n = tt
  row-starts (Roll z) n = tt
  row-starts Depth n = tt
  row-starts (Pair z) n = tt
  row-starts (Part z) n = tt
  row-starts (Nth z) n = tt
  row-starts (QuadMake z) n = either (is_makeable s (item vs 1)) _ _ tt tt
  row-starts (QuadTake z) n = tt
  row-starts (Get z) n = tt
  row-starts (Typeq t) n = tt
  row-starts (Eq v) n = tt
  row-starts (Cmp z) n = tt
  row-starts AluNot n = tt
  row-starts (Alu z) n = tt
  row-starts (If label) n = tt
  row-starts Jump n = tt
  row-starts (Msg z) n = tt
  row-starts (StateOf z) n = tt
  row-starts (My z) n = tt
  row-starts ActorSend n = either (is_actor s (item vs 1)) _ _ tt tt
  row-starts ActorPost n = either (is_sponsor s (item vs 1)) _ _ (either (is_actor s (item vs 2)) _ _ tt tt) tt
  row-starts ActorCreate n = tt
  row-starts ActorAssign n = either (has_created (item vs 1) e.created) _ _ tt tt
  row-starts ActorBecome n = become e.next
  row-starts (End z) n = either (int_eq z (pos 1)) _ _ tt (either (int_eq z (pos 0)) _ _ tt tt)
  row-starts (DictTest z) n = tt
  row-starts (DictPut z) n = tt
  row-starts DictDel n = tt
  row-starts DequeNew n = tt
  row-starts (DequeTest z) n = tt
  row-starts (DequePut z) n = tt
  row-starts (DequeTake z) n = either (int_eq z (pos 3)) _ _ tt tt
  row-starts SponsorNew n = either (nat_lt (length sheet) most_sponsors) _ _ tt tt
  row-starts (SponsorGrant z) n = granting _ (kind_of_grant z) (item vs 2)
  row-starts SponsorReclaim n = either (is_sponsor s (item vs 1)) _ _ tt tt
  row-starts SponsorStart n = cc
  row-starts SponsorStop n = either (is_sponsor s (item vs 1)) _ _ tt tt
  row-starts (Assert v) n = either (same_word (item vs 1) v) _ _ tt tt
  row-starts Debug n = tt

row_at-starts : (own : Own) (o : Option (Op × W)) (s : Seen) (sheet : List Account) (e : Effects) (vs : List W) → starts o ≡ false → StartsNone (row_at own o s sheet e vs).outcome
row_at-starts own None s sheet e vs n = tt
row_at-starts own (Some o) s sheet e vs n = row-starts own s sheet e vs o.1 o.0 n

-- ---- which sponsors run

-- a sheet in which no sponsor runs that did not run
abbrev RunsLess : List Account → List Account → Type 0
RunsLess new old = (w : W) → runs new w ≡ true → runs old w ≡ true

less-at : (v : W) (f : Account → Account) (rows : List Account) → ((a : Account) → ((f a).sponsor ≡ a.sponsor) × (runs_in (f a).standing ≡ true → runs_in a.standing ≡ true)) → RunsLess (at_account v f rows) rows
less-at v f [] h w r = r
less-at v f (a ∷ rows) h w r = by (less-at v f rows h w) (same_word a.sponsor v) r
  where
    here : same_word (f a).sponsor w ≡ same_word a.sponsor w
    here = ap (λ (x : W). same_word x w) (h a).0

    changed : (c : Bool) → runs_in (if c then f a else account rows w).standing ≡ true → runs_in (if c then a else account rows w).standing ≡ true
    changed true g = (h a).1 g
    changed false g = g

    Rest : Type 0
    Rest = runs_in (account (at_account v f rows) w).standing ≡ true → runs_in (account rows w).standing ≡ true

    later : Rest → (c : Bool) → runs_in (if c then a else account (at_account v f rows) w).standing ≡ true → runs_in (if c then a else account rows w).standing ≡ true
    later k true g = g
    later k false g = k g

    by : Rest → (b : Bool) → runs_in (account (if b then f a ∷ rows else a ∷ at_account v f rows) w).standing ≡ true → runs_in (account (a ∷ rows) w).standing ≡ true
    by k true g = changed (same_word a.sponsor w) (subst (λ (c : Bool). runs_in (if c then f a else account rows w).standing ≡ true) here g)
    by k false g = later k (same_word a.sponsor w) g

less-then : (a b c : List Account) → RunsLess b a → RunsLess c b → RunsLess c a
less-then a b c f g w r = f w (g w r)

amount-kind : (kind : Quota) (f : _) (a : Account) → ((at_amount kind f a).sponsor ≡ a.sponsor) × (runs_in (at_amount kind f a).standing ≡ true → runs_in a.standing ≡ true)
amount-kind Memory f a = (refl, λ h. h)
amount-kind Events f a = (refl, λ h. h)
amount-kind Cycles f a = (refl, λ h. h)

transfer-less : (rows : List Account) (from to : W) (kind : Quota) (n : ℕ) → RunsLess (transfer rows from to kind n) rows
transfer-less rows from to kind n = by (same_word from to)
  where
    by : (b : Bool) → RunsLess (if b then rows else at_account to (at_amount kind (receives n)) (at_account from (at_amount kind (passes n)) rows)) rows
    by true = λ w r. r
    by false = less-then rows (at_account from (at_amount kind (passes n)) rows) (at_account to (at_amount kind (receives n)) (at_account from (at_amount kind (passes n)) rows))
        (less-at from (at_amount kind (passes n)) rows (λ a. amount-kind kind (passes n) a))
        (less-at to (at_amount kind (receives n)) (at_account from (at_amount kind (passes n)) rows) (λ a. amount-kind kind (receives n) a))

sponsor-less : (rows : List Account) (v : W) → RunsLess (with_sponsor rows v) rows
sponsor-less [] v w r = by (same_word v w) r
  where
    by : (b : Bool) → runs_in (if b then no_account v else no_account w).standing ≡ true → runs_in Stopped ≡ true
    by true h = h
    by false h = h
sponsor-less (a ∷ rows) v w r = by (sponsor-less rows v w) (same_word a.sponsor w) r
  where
    by : (runs_in (account (with_sponsor rows v) w).standing ≡ true → runs_in (account rows w).standing ≡ true) → (b : Bool) → runs_in (if b then a else account (with_sponsor rows v) w).standing ≡ true → runs_in (if b then a else account rows w).standing ≡ true
    by k true h = h
    by k false h = k h

effect-less : (rows : List Account) (who : W) (x : Effect) → NoStart x → RunsLess (sheet_after rows who x) rows
effect-less rows who Nothing n = λ w r. r
effect-less rows who (Sends m) n = λ w r. r
effect-less rows who (Creates m) n = λ w r. r
effect-less rows who (Assigns m) n = λ w r. r
effect-less rows who (Becomes b) n = λ w r. r
effect-less rows who (Sponsors v) n = sponsor-less rows v
effect-less rows who (Grants v kind z) n = transfer-less rows who v kind z
effect-less rows who (Reclaims v) n =
    let one = transfer rows v who Memory (held rows v Memory) in
    let two = transfer one v who Events (held rows v Events) in
    let three = transfer two v who Cycles (held rows v Cycles) in
    less-then rows one three (transfer-less rows v who Memory (held rows v Memory))
    (less-then one two three (transfer-less one v who Events (held rows v Events)) (transfer-less two v who Cycles (held rows v Cycles)))
effect-less rows who (Starts v signal) n = absurd n
effect-less rows who (Stops v) n = less-at v (stands_as Stopped) rows (λ a. (refl, λ h. let x : false ≡ true = h in cc))

spend-less : (rows : List Account) (who : W) (c : Charge) → RunsLess (spend rows who c) rows
spend-less rows who c = less-at who (paid c) rows (λ a. (refl, λ h. h))

-- ---- which actors are idle

-- a quad that is seen as no idle actor
abbrev NotIdle : Slot → Type 0
NotIdle x = is_idle_in (Some x) ≡ false

ordinary-busy : (s : Seen) (x : Slot) → IsOrdinaryCell s x → NotIdle x
ordinary-busy s (OpenSlot q) h = refl
ordinary-busy s (ActorSlot a b m) h = absurd h
ordinary-busy s UnbornSlot h = absurd h
ordinary-busy s (EventSlot a b m) h = absurd h
ordinary-busy s SponsorSlot h = absurd h
ordinary-busy s SpentSlot h = absurd h

ordinary-all : (s : Seen) (xs : List Slot) → Every (IsOrdinaryCell s) xs → Every NotIdle xs
ordinary-all s [] h = tt
ordinary-all s (x ∷ xs) h = (ordinary-busy s x h.0, ordinary-all s xs h.1)

made-busy : (p c : W) (s : Seen) (made : List Slot) (x : Effect) → MadeWith p c s made x → Every NotIdle made
made-busy p c s made Nothing h = ordinary-all s made h
made-busy p c s made (Sends m) h = subst (λ (xs : List Slot). Every NotIdle xs) (sym h.1) (refl, tt)
made-busy p c s made (Creates m) h = subst (λ (xs : List Slot). Every NotIdle xs) (sym h.1) (refl, tt)
made-busy p c s made (Assigns m) h = ordinary-all s made h
made-busy p c s made (Becomes b) h = ordinary-all s made h
made-busy p c s made (Sponsors w) h = subst (λ (xs : List Slot). Every NotIdle xs) (sym h.1) (refl, (refl, tt))
made-busy p c s made (Grants w kind n) h = ordinary-all s made h
made-busy p c s made (Reclaims w) h = ordinary-all s made h
made-busy p c s made (Starts w z) h = subst (λ (xs : List Slot). Every NotIdle xs) (sym h.1) (refl, tt)
made-busy p c s made (Stops w) h = ordinary-all s made h

-- no more actors are idle where such quads are taken
idle-grown : (xs ys : List Slot) → Every NotIdle ys → (n : ℕ) → is_idle_in (slice_get (xs ++ ys) n) ≡ true → is_idle_in (slice_get xs n) ≡ true
idle-grown [] [] h n e = e
idle-grown [] (y ∷ ys) h zero e = let x : false ≡ true = sym h.0 ∙ e in cc
idle-grown [] (y ∷ ys) h (suc n) e = let r : is_idle_in (slice_get ys n) ≡ true = e in none ys h.1 n r
  where
    none : (zs : List Slot) → Every NotIdle zs → (m : ℕ) → is_idle_in (slice_get zs m) ≡ true → is_idle_in None ≡ true
    none [] k m f = f
    none (z ∷ zs) k zero f = let x : false ≡ true = sym k.0 ∙ f in cc
    none (z ∷ zs) k (suc m) f = none zs k.1 m f
idle-grown (x ∷ xs) ys h zero e = e
idle-grown (x ∷ xs) ys h (suc n) e = idle-grown xs ys h n e

-- a word is no idle actor after quads were taken that it was not before
LessIdle : Seen → Seen → Type 0
LessIdle new old = (w : W) → is_idle new w ≡ true → is_idle old w ≡ true

grown-less : (s : Seen) (ys : List Slot) → Every NotIdle ys → (w : W) → is_idle (grown s ys) w ≡ true → is_idle s w ≡ true
grown-less s ys h (Fix z) e = e
grown-less s ys h (Rom n) e = e
grown-less s ys h (Ram n) e = e
grown-less s ys h (Cap n) e = idle-grown s.slots ys h n e

pushed-less : (p : Seen × List Item) (vs : List W) (w : W) → is_idle (push_all p vs).0 w ≡ true → is_idle p.0 w ≡ true
pushed-less p [] w e = e
pushed-less p (v ∷ vs) w e = grown-less p.0 (OpenSlot (pair_quad v (top_at p.1)) ∷ []) (refl, tt) w (pushed-less (push_one p v) vs w e)

going-less : (s : Seen) (is : List Item) (g : Going) → Every NotIdle g.made → (w : W) → is_idle (after_going s is g).0 w ≡ true → is_idle s w ≡ true
going-less s is g h w e = grown-less s g.made h w (pushed-less (grown s g.made, drop g.pops is) g.pushed w e)

-- ---- messages

-- what is seen of an event that is there stays
event-stays : (s : Seen) (is : List Item) (g : Going) (w : W) → NamesOne (length s.slots) w → sent_at (after_going s is g).0 w ≡ sent_at s w
event-stays s is g (Fix z) h = absurd h
event-stays s is g (Rom n) h = absurd h
event-stays s is g (Ram n) h = absurd h
event-stays s is g (Cap n) h =
    let r = going-grown s is g in
    ap (λ (x : Seen). sent_at x (Cap n)) r.1 ∙ ap (sent_in (Cap n)) (get-left s.slots r.0 n h)

-- if none of these messages could go, none can
none-goes : (s t : Seen) (old new : List Account) (f g : List Flying) (ms : List Message) → ((m : Message) → Among m.event (message_words ms) → can_go t new g m ≡ true → can_go s old f m ≡ true) → first_to_go s old f ms ≡ None → first_to_go t new g ms ≡ None
none-goes s t old new f g [] h e = refl
none-goes s t old new f g (m ∷ ms) h e = by (can_go t new g m) (can_go s old f m) (h m (inl refl)) e (λ k. none-goes s t old new f g ms (λ x a. h x (inr a)) k)
  where
    by : (b c : Bool) → (b ≡ true → c ≡ true) → (if c then Some m else first_to_go s old f ms) ≡ None → (first_to_go s old f ms ≡ None → first_to_go t new g ms ≡ None) → (if b then Some m else first_to_go t new g ms) ≡ None
    by true true i k later = cc
    by true false i k later = let x : false ≡ true = i refl in cc
    by false true i k later = cc
    by false false i k later = later k

and-less : (a a' b b' c c' : Bool) → a' ≡ a → (b' ≡ true → b ≡ true) → (c' ≡ true → c ≡ true) → (not a' && b' && c') ≡ true → (not a && b && c) ≡ true
and-less a true b b' c c' e f g h = cc
and-less a false b true c true e f g h = rw (sym e, f refl, g refl) refl
and-less a false b true c false e f g h = cc
and-less a false b false c c' e f g h = cc

-- the event goes on, and starts no sponsor
pub waits-on : (grant : _) (s : State) → Sound grant s → (i : ℕ) (l : Flying) (g : Going) → slice_get s.flight i ≡ Some l → (lane_row s.store s.sheet l).outcome ≡ Goes g → starts (fetched s.store l.code) ≡ false
    → Waits s → Waits (go_on s i l (spend s.sheet l.own.sponsor (lane_row s.store s.sheet l).charge) g)
waits-on grant s ok i l g at outcome_is quiet w =
    none-goes s.store (after_going s.store l.stack g).0 s.sheet (sheet_after paid_rows l.own.sponsor g.effect) s.flight (slice_set s.flight i (gone s.store l g)) s.messages each w
  where
    paid_rows : List Account
    paid_rows = spend s.sheet l.own.sponsor (lane_row s.store s.sheet l).charge

    quiet_effect : NoStart g.effect
    quiet_effect = subst StartsNone outcome_is (row_at-starts l.own (fetched s.store l.code) s.store s.sheet l.effects (values l.stack) quiet)

    made : Every NotIdle g.made
    made = made-busy l.own.sponsor (item (values l.stack) 1) s.store g.made g.effect
        (subst (MakesNamed l.own.sponsor (item (values l.stack) 1) s.store) outcome_is (row_at-makes l.own (fetched s.store l.code) s.store s.sheet l.effects (values l.stack)))

    less : (v : W) → runs (sheet_after paid_rows l.own.sponsor g.effect) v ≡ true → runs s.sheet v ≡ true
    less v r = spend-less s.sheet l.own.sponsor (lane_row s.store s.sheet l).charge v (effect-less paid_rows l.own.sponsor g.effect quiet_effect v r)

    taken : (v : W) → Among v (message_words s.messages) → NamesOne (length s.store.slots) v
    taken v a = ok.events_taken v (let t = times-among v (message_words s.messages) a in omega (arith, t))

    each : (m : Message) → Among m.event (message_words s.messages) → can_go (after_going s.store l.stack g).0 (sheet_after paid_rows l.own.sponsor g.effect) (slice_set s.flight i (gone s.store l g)) m ≡ true → can_go s.store s.sheet s.flight m ≡ true
    each m a h =
        let same = event-stays s.store l.stack g m.event (taken m.event a) in
        and-less (is_in_flight m.number s.flight) (is_in_flight m.number (slice_set s.flight i (gone s.store l g)))
        (is_idle s.store (sent_at s.store m.event).target) (is_idle (after_going s.store l.stack g).0 (sent_at (after_going s.store l.stack g).0 m.event).target)
        (runs s.sheet (sent_at s.store m.event).sponsor) (runs (sheet_after paid_rows l.own.sponsor g.effect) (sent_at (after_going s.store l.stack g).0 m.event).sponsor)
        (in_flight-set m.number s.flight i l (gone s.store l g) at refl)
        (λ e. going-less s.store l.stack g made (sent_at s.store m.event).target (ap (λ x. is_idle (after_going s.store l.stack g).0 x.target) (sym same) ∙ e))
        (λ e. less (sent_at s.store m.event).sponsor (ap (λ x. runs (sheet_after paid_rows l.own.sponsor g.effect) x.sponsor) (sym same) ∙ e))
        h
