-- What every turn keeps, and how many turns can be completed.
use Rattle.std.proofs.Common.{◌≡◌, inl, inr, ℕ, suc, ◌+◌, ◌*◌, ◌%◌, ◌≤◌, List, [], ◌∷◌, ◌++◌, length, Option, Some, None, Bool, true, false, ap, refl, ◌∙◌, sym, subst, arith, nat_lt, if◌then◌else◌, length-append, append-nil}
use Rattle.std.specs.Prelude.{pos, ◌&&◌, not, remove, slice_get}
use Rattle.std.specs.List.{sum_by}
use Rattle.std.proofs.Math.Nat.{le_trans}
use Rattle.std.proofs.lemmas.List.{map-append}
use Rattle.std.proofs.lemmas.List.Sums.{sum_by_push, sum_by-le-sum_by}
use Rattle.cap_words.specs.Words.{W, Fix, same_word}
use Rattle.cap_words.specs.Seen.{Seen}
use Rattle.cap_words.specs.Frame.{Among}
use Rattle.instr_table.specs.declared.charge.Charge.{Charge}
use Rattle.instr_table.specs.declared.charge.Quota.{Quota}
use Rattle.instr_table.specs.declared.charge.Quota.TheVariants.{Memory, Events, Cycles}
use Rattle.instr_table.specs.Code.{fetched}
use Rattle.instr_table.specs.Lists.{item}
use Rattle.instr_table.specs.Event.{Sent, Effects, no_effects}
use Rattle.instr_table.specs.Sheet.{Account, Stopped, account, short, spend, stop, runs, prepared}
use Rattle.instr_table.specs.Outcome.{Going, Outcome, Goes, Faults, Commits, Row}
use Rattle.instr_table.specs.Lane.{Lane, begun, values, lane_row, gone}
use Rattle.instr_table.specs.Laws.{Covers}
use Rattle.instr_table.specs.Making.{MakesNamed, MadeWith}
use Rattle.instr_table.proofs.Charges.{row_at-covers}
use Rattle.instr_table.proofs.Makings.{row_at-makes}
use Rattle.vm_sponsor.specs.declared.amounts.Amounts.{Amounts}
use Rattle.vm_sponsor.specs.Totals.{kept, sponsors}
use Rattle.vm_effects.specs.Gathered.{sent_words}
use Rattle.vm_turn.specs.declared.journal.Outcome.{Outcome as End}
use Rattle.vm_turn.specs.declared.journal.Outcome.TheVariants.{Committed, Failed, RanOut}
use Rattle.vm_turn.specs.State.{Message, State, root}
use Rattle.vm_turn.specs.Actors.{sent_at, is_idle}
use Rattle.vm_turn.specs.Piece.{piece}
use Rattle.vm_turn.specs.Turn.{signal_number, is_in_flight, first_to_go, dispatchable, entry, without, device_of, own_of, begin, delivered, refused, deliver, dispatch, numbered_from, finish, go_on, act, released, out_by, run_out, charged, step, go, unless_spent, turn}
use Rattle.vm_turn.specs.Sound.{Sound, spent_of, spent_by_all, numbers, Other, Distinct, Has, HasAll, message_words, sent_by, as_list, signals_of, times, places}
use Rattle.vm_turn.specs.Run.{after, completes, completed, not_rest, unless_out}
use Rattle.vm_turn.proofs.Sums.{sum-removed, sum-set, length-removed, length-set, Measure, how_many, how_often}
use Rattle.vm_turn.proofs.Sheets.{due, nothing_due, Moves, payer-there, spend-moves, stands-moves, stop-drops, prepares, effect-moves}
use Rattle.vm_turn.proofs.Grants.{HeldBy, IsHeld, row_at-holds}
use Rattle.vm_turn.proofs.Numbers.{fewer, all-append, all-without, no_more, not_in_flight, apart-end, all-end, numbers-end, numbers-set, apart-removed, rest-other, all-removed, has-at, rising-without, rising-append, rising-numbered, numbered-words, without-words}
use Rattle.vm_turn.proofs.Slots.{Alike, alike-busy, alike-content, alike-settled, length-going, going-sponsors}
use Rattle.vm_turn.proofs.Events.{named, named-cost, sent-named, named-next, Placed, placed-same, placed-named}
use Rattle.vm_turn.proofs.Sponsors.{Listed, listed-alike, makes-next, listed-going, allowed}

-- what each completed turn raises
abbrev pub mass : State → ℕ
mass s = spent_by_all Cycles s.sheet + 2 * length s.journal + length s.flight

-- a turn that keeps it, and raises the mass by n
pub record Good (grant : Amounts) (s t : State) (n : ℕ) : Type 0 where
  pub sound : Sound grant t
  pub rises : mass s + n ≤ mass t

length-numbers : (ls : List Lane) → length (numbers ls) ≡ length ls
length-numbers [] = refl
length-numbers (l ∷ ls) = ap suc (length-numbers ls)

length-numbered : (n : ℕ) (es : List Sent) → length (numbered_from n es) ≡ length es
length-numbered n [] = refl
length-numbered n (m ∷ es) = ap suc (length-numbered (suc n) es)

length-sent : (es : List Sent) → length (sent_words es) ≡ length es
length-sent [] = refl
length-sent (m ∷ es) = ap suc (length-sent es)

-- what is counted of the words that events in flight sent, and of the signals that are prepared
abbrev sends_in : Measure → List Lane → ℕ
sends_in c ls = sum_by (λ (l : Lane). c.of (sent_by l)) ls

abbrev signals_in : Measure → List Account → ℕ
signals_in c rows = sum_by (λ (a : Account). c.of (signals_of a)) rows

-- ---- the message that is dispatched

-- its number is that of a message that is not in flight
pub record Chosen (s : State) (m : Message) : Type 0 where
  pub other : Other m.number (numbers s.flight)
  pub has : Has s.messages m.number

first-chosen : (st : Seen) (sheet : List Account) (flight : List Lane) (ms : List Message) (m : Message) → first_to_go st sheet flight ms ≡ Some m → (is_in_flight m.number flight ≡ false) × Has ms m.number
first-chosen st sheet flight [] m h = cc
first-chosen st sheet flight (k ∷ ms) m h = pick (is_in_flight k.number flight) refl (is_idle st (sent_at st k.event).target) (runs sheet (sent_at st k.event).sponsor) (λ g. first-chosen st sheet flight ms m g) h
  where
    message_or : Option Message → ℕ
    message_or None = 0
    message_or (Some x) = x.number

    later : ((is_in_flight m.number flight ≡ false) × Has ms m.number) → (is_in_flight m.number flight ≡ false) × Has (k ∷ ms) m.number
    later g = (g.0, inr g.1)

    pick : (a : Bool) → is_in_flight k.number flight ≡ a → (b c : Bool) → (first_to_go st sheet flight ms ≡ Some m → (is_in_flight m.number flight ≡ false) × Has ms m.number) → (if (not a && b && c) then Some k else first_to_go st sheet flight ms) ≡ Some m → (is_in_flight m.number flight ≡ false) × Has (k ∷ ms) m.number
    pick true e b c r g = later (r g)
    pick false e false c r g = later (r g)
    pick false e true false r g = later (r g)
    pick false e true true r g = let n : k.number ≡ m.number = ap message_or g in (subst (λ (x : ℕ). is_in_flight x flight ≡ false) n e, inl n)

pub dispatchable-chosen : (s : State) (m : Message) → dispatchable s ≡ Some m → Chosen s m
dispatchable-chosen s m h = pick (nat_lt (length s.flight) s.lanes) h
  where
    pick : (b : Bool) → (if b then first_to_go s.store s.sheet s.flight s.messages else None) ≡ Some m → Chosen s m
    pick true g = let r = first-chosen s.store s.sheet s.flight s.messages m g in record { other = not_in_flight m.number s.flight r.0; has = r.1 }
    pick false g = cc

-- ---- parts of it

-- a bit is at most one
bit_under : (n : ℕ) (b : Bool) → n + (if b then 1 else 0) ≤ n + 1
bit_under n true = omega arith
bit_under n false = omega arith

-- a turn that raises the mass by one, whatever is counted of it
at_most_one : (grant : Amounts) (s t : State) (b : Bool) → Good grant s t 1 → Good grant s t (if b then 1 else 0)
at_most_one grant s t b g = record { sound = g.sound; rises = le_trans (bit_under (mass s) b) g.rises }

-- the events of the state, and the quads that are taken
abbrev EventsOnce : State → Type 0
EventsOnce s = Placed (λ (w : W). places w s) (length s.store.slots)

placed-of : {grant : Amounts} (s : State) → Sound grant s → EventsOnce s
placed-of s ok = record { once = ok.once; taken = ok.events_taken }

listed-of : {grant : Amounts} (s : State) → Sound grant s → Listed s.store (sponsors s.sheet)
listed-of s ok = record { listed = ok.listed; apart = ok.sponsors_apart; taken = ok.sponsors_taken }

-- the store changes alone
listed-still : {grant : Amounts} (s : State) (t : Seen) → Sound grant s → Alike s.store t → Listed t (sponsors s.sheet)
listed-still s t ok a = listed-alike s.store t (sponsors s.sheet) (sponsors s.sheet) a (sym (append-nil (sponsors s.sheet))) (listed-of s ok)

at_most : (m n : ℕ) → n ≡ m → m ≤ n
at_most m n e = omega (arith, e)

-- a prepared signal becomes a message; `before` is the state in which it was prepared
released-good : {grant : Amounts} (before : State) (o : Option W) (kind : Quota) (u : State) → Sound grant u → u.next_number + sends_in how_many u.flight + signals_in how_many u.sheet + length (as_list o) ≤ 1 + spent_by_all Events u.sheet → EventsOnce before → length before.store.slots ≤ length u.store.slots → ((w : W) → places w u + times w (as_list o) ≤ places w before) → Good grant u (released o kind u) 0
released-good before None kind u ok left p up less = record { sound = ok; rises = omega arith }
released-good before (Some w) kind u ok left p up less =
    let signal : Message = record { number = u.next_number; event = w } in
    let t = released (Some w) kind u in
    let q = length-append u.messages (signal ∷ []) in
    let a = alike-content u.store w (Fix (pos (signal_number kind))) in
    let k = a.as_many in
    let l = listed-still u t.store ok a in
    let words : message_words (u.messages ++ signal ∷ []) ≡ message_words u.messages ++ w ∷ [] = map-append (λ (m : Message). m.event) u.messages (signal ∷ []) in
    let places_of : (v : W) → places v t ≤ places v before =
    λ v.
    let e : times v (message_words (u.messages ++ signal ∷ [])) ≡ times v (message_words u.messages ++ w ∷ []) = ap (λ (ws : List W). times v ws) words in
    let d = (how_often v).more (message_words u.messages) (w ∷ []) in
    let g = less v in
    omega (arith, e, d, g) in
    let r = placed-same (λ (v : W). places v before) (λ (v : W). places v t) (length before.store.slots) (length t.store.slots) (omega (arith, up, k)) places_of p in
    record {
      sound = record {
        conserved = ok.conserved;
        balanced = ok.balanced;
        quads = omega (arith, k, ok.quads);
        ended = omega (arith, q, ok.ended);
        paid_for = omega (arith, left);
        rising = rising-append 0 u.next_number t.next_number u.messages (signal ∷ []) ok.rising (omega arith, omega arith);
        apart = ok.apart;
        pending = all-append u.messages _ (numbers u.flight) ok.pending;
        listed = l.listed;
        sponsors_apart = l.apart;
        sponsors_taken = l.taken;
        once = r.once;
        events_taken = r.taken;
      };
      rises = omega arith;
    }

-- that the root ran out is noted
out-good : {grant : Amounts} {s : State} (b : Bool) (kind : Quota) (u : State) → Good grant s u 1 → Good grant s (out_by b kind u) 1
out-good true kind u g = record {
  sound = record {
    conserved = g.sound.conserved;
    balanced = g.sound.balanced;
    quads = g.sound.quads;
    ended = g.sound.ended;
    paid_for = g.sound.paid_for;
    rising = g.sound.rising;
    apart = g.sound.apart;
    pending = g.sound.pending;
    listed = g.sound.listed;
    sponsors_apart = g.sound.sponsors_apart;
    sponsors_taken = g.sound.sponsors_taken;
    once = g.sound.once;
    events_taken = g.sound.events_taken;
  };
  rises = g.rises;
}
out-good false kind u g = g

module _ (grant : Amounts) (s : State) (ok : Sound grant s) where
  still : Good grant s s 0
  still = record { sound = ok; rises = omega arith }

  -- ---- dispatch

  -- an event begins
  pub begin-good : (m : Message) (x : Sent) → Chosen s m → Good grant s (begin s m.number x) 1
  begin-good m x h =
      let l = begun m.number (own_of s.store x) in
      let t = begin s m.number x in
      let p = length-append s.flight (l ∷ []) in
      let sends = sum_by_push (λ (l : Lane). length (sent_by l)) s.flight l in
      let n = numbers-end s.flight l in
      let a = alike-busy s.store x.target m.number in
      let k = a.as_many in
      let li = listed-still s t.store ok a in
      let pl = placed-same (λ (w : W). places w s) (λ (w : W). places w t) (length s.store.slots) (length t.store.slots) (at_most _ _ k) (λ w. let e = sum_by_push (λ (l : Lane). times w (sent_by l)) s.flight l in omega (arith, e)) (placed-of s ok) in
      record {
        sound = record {
          conserved = ok.conserved;
          balanced = ok.balanced;
          quads = omega (arith, k, ok.quads);
          ended = ok.ended;
          paid_for = omega (arith, sends, ok.paid_for);
          rising = ok.rising;
          apart = subst (λ (ks : List ℕ). Distinct ks) (sym n) (apart-end m.number (numbers s.flight) ok.apart h.other);
          pending = subst (λ (ks : List ℕ). HasAll s.messages ks) (sym n) (all-end s.messages m.number (numbers s.flight) ok.pending h.has);
          listed = li.listed;
          sponsors_apart = li.apart;
          sponsors_taken = li.taken;
          once = pl.once;
          events_taken = pl.taken;
        };
        rises = omega (arith, p);
      }

  -- a device's message ends
  pub delivered-good : (m : Message) (end : End) (bytes : List ℕ) → Chosen s m → Good grant s (delivered s m.number end bytes) 1
  delivered-good m end bytes h =
      let t = delivered s m.number end bytes in
      let j = length-append s.journal (entry m.number end ∷ []) in
      let f = fewer s.messages m.number h.has in
      let pl = placed-same (λ (w : W). places w s) (λ (w : W). places w t) (length s.store.slots) (length t.store.slots) (omega arith) (λ w. let e = without-words (how_often w) m.number s.messages in omega (arith, e)) (placed-of s ok) in
      record {
        sound = record {
          conserved = ok.conserved;
          balanced = ok.balanced;
          quads = ok.quads;
          ended = omega (arith, j, f, ok.ended);
          paid_for = ok.paid_for;
          rising = rising-without 0 s.next_number s.messages m.number ok.rising;
          apart = ok.apart;
          pending = all-without s.messages m.number (numbers s.flight) h.other ok.pending;
          listed = ok.listed;
          sponsors_apart = ok.sponsors_apart;
          sponsors_taken = ok.sponsors_taken;
          once = pl.once;
          events_taken = pl.taken;
        };
        rises = omega (arith, j);
      }

  deliver-good : (m : Message) (bytes : Option (List ℕ)) → Chosen s m → Good grant s (deliver s m.number bytes).0 1
  deliver-good m (Some bytes) h = delivered-good m Committed bytes h
  deliver-good m None h = delivered-good m refused [] h

  dispatch-good : (m : Message) (x : Sent) (device : Option ℕ) → Chosen s m → Good grant s (dispatch s m.number x device).0 1
  dispatch-good m x (Some d) h = deliver-good m (piece d s.store x.content) h
  dispatch-good m x None h = begin-good m x h

  -- ---- an event ends

  -- no event comes to a place; n is what the new sheet counts less of its signals
  finish-places : (w : W) (i : ℕ) (l : Lane) (sheet : List Account) (x : Effects) (end : End) (n : ℕ) → slice_get s.flight i ≡ Some l → signals_in (how_often w) sheet + n ≤ signals_in (how_often w) s.sheet → times w (sent_words x.sent) ≤ times w (sent_by l) → places w (finish s i l sheet x end) + n ≤ places w s
  finish-places w i l sheet x end n at drop few =
      let t = sum-removed (λ (l : Lane). times w (sent_by l)) s.flight i l at in
      let old = without l.number s.messages in
      let new = numbered_from s.next_number x.sent in
      let words : message_words (old ++ new) ≡ message_words old ++ sent_words x.sent = map-append (λ (m : Message). m.event) old new ∙ ap (λ (ws : List W). message_words old ++ ws) (numbered-words s.next_number x.sent) in
      let e : times w (message_words (old ++ new)) ≡ times w (message_words old ++ sent_words x.sent) = ap (λ (ws : List W). times w ws) words in
      let d = (how_often w).more (message_words old) (sent_words x.sent) in
      let r = without-words (how_often w) l.number s.messages in
      omega (arith, t, e, d, r, drop, few)

  -- an event ends, over a sheet on which so much more was spent
  pub finish-good : (i : ℕ) (l : Lane) (sheet : List Account) (x : Effects) (end : End) (more : Quota → ℕ) → slice_get s.flight i ≡ Some l → Moves s.sheet sheet more [] [] → ((c : Measure) → c.of (sent_words x.sent) ≤ c.of (sent_by l)) → Good grant s (finish s i l sheet x end) (more Cycles + 1)
  finish-good i l sheet x end more at f few =
      let u = finish s i l sheet x end in
      let n = length-removed s.flight i l at in
      let j = length-append s.journal (entry l.number end ∷ []) in
      let q = length-append (without l.number s.messages) (numbered_from s.next_number x.sent) in
      let p = length-numbered s.next_number x.sent in
      let t = sum-removed (λ (l : Lane). length (sent_by l)) s.flight i l at in
      let has = has-at s.messages s.flight i l at ok.pending in
      let m = fewer s.messages l.number has in
      let a = alike-settled s.store l.own.actor x in
      let k = a.as_many in
      let li = listed-alike s.store u.store (sponsors s.sheet) (sponsors sheet) a f.sponsors_are (listed-of s ok) in
      let y : length (sent_words x.sent) ≡ length x.sent = length-sent x.sent in
      let fm : length (sent_words x.sent) ≤ length (sent_by l) = few how_many in
      let g : signals_in how_many sheet ≤ signals_in how_many s.sheet + 0 = f.prepared_of how_many in
      let es = f.spent Events in
      let ms = f.spent Memory in
      let cs = f.spent Cycles in
      let less : (w : W) → places w u ≤ places w s =
      λ w.
      let b : signals_in (how_often w) sheet ≤ signals_in (how_often w) s.sheet + 0 = f.prepared_of (how_often w) in
      let d = finish-places w i l sheet x end 0 at (omega (arith, b)) (few (how_often w)) in
      omega (arith, d) in
      let pl = placed-same (λ (w : W). places w s) (λ (w : W). places w u) (length s.store.slots) (length u.store.slots) (at_most _ _ k) less (placed-of s ok) in
      record {
        sound = record {
          conserved = λ kind. f.same_total kind ∙ ok.conserved kind;
          balanced = f.balanced ok.balanced;
          quads = omega (arith, k, ms, ok.quads);
          ended = omega (arith, j, q, p, m, ok.ended);
          paid_for = omega (arith, t, y, fm, g, es, ok.paid_for);
          rising = rising-append 0 s.next_number u.next_number (without l.number s.messages) (numbered_from s.next_number x.sent) (rising-without 0 s.next_number s.messages l.number ok.rising) (rising-numbered s.next_number x.sent);
          apart = apart-removed s.flight i ok.apart;
          pending = all-append (without l.number s.messages) (numbered_from s.next_number x.sent) (numbers (remove s.flight i)) (all-without s.messages l.number (numbers (remove s.flight i)) (rest-other s.flight i l at ok.apart) (all-removed s.messages s.flight i ok.pending));
          listed = li.listed;
          sponsors_apart = li.apart;
          sponsors_taken = li.taken;
          once = pl.once;
          events_taken = pl.taken;
        };
        rises = omega (arith, n, j, cs);
      }

  -- ---- an event goes on

  -- an event goes on, over a sheet on which a cycle and its quads and events were spent
  pub go_on-good : (i : ℕ) (l : Lane) (sheet : List Account) (c : Charge) (controller : W) (g : Going) → slice_get s.flight i ≡ Some l → Moves s.sheet sheet (due c) [] [] → Among l.own.sponsor (sponsors sheet) → IsHeld s.store sheet l.own.sponsor g.effect → Covers c (Goes g) → MadeWith l.own.sponsor controller s.store g.made g.effect → Good grant s (go_on s i l sheet g) 1
  go_on-good i l sheet c controller g at f payer held covers made =
      let new = gone s.store l g in
      let u = go_on s i l sheet g in
      let few = covers.1 in
      let taken = covers.0 in
      let cost = named-cost g.effect in
      let same : sponsors sheet ≡ sponsors s.sheet = f.sponsors_are ∙ append-nil (sponsors s.sheet) in
      let old = listed-of s ok in
      let there = subst (λ (ws : List W). Listed s.store ws) (sym same) old in
      let x = effect-moves sheet l.own.sponsor g.effect (allowed s.store sheet l.own.sponsor g.effect there.listed payer held) in
      let n = length-set s.flight i new in
      let t = sum-set (λ (l : Lane). length (sent_by l)) s.flight i l new at in
      let w = sent-named how_many l.effects g.effect in
      let k = numbers-set s.flight i l new at refl in
      let up = length-going s.store l.stack g in
      let higher : length s.store.slots + length g.made ≤ length u.store.slots = omega (arith, up) in
      let f1 : signals_in how_many sheet ≤ signals_in how_many s.sheet + 0 = f.prepared_of how_many in
      let x1 : signals_in how_many u.sheet ≤ signals_in how_many sheet + length (prepares g.effect) = x.prepared_of how_many in
      let fe = f.spent Events in
      let xe = x.spent Events in
      let fm = f.spent Memory in
      let xm = x.spent Memory in
      let fc = f.spent Cycles in
      let xc = x.spent Cycles in
      let li = listed-going s.store u.store (sponsors sheet) there g.effect g.made (sponsors u.sheet) higher (going-sponsors l.own.sponsor controller s.store l.stack g made) (makes-next l.own.sponsor controller s.store g.made g.effect made) x.sponsors_are in
      let less : (w : W) → places w u ≤ places w s + times w (named g.effect) =
      λ w.
      let a = sum-set (λ (l : Lane). times w (sent_by l)) s.flight i l new at in
      let b = sent-named (how_often w) l.effects g.effect in
      let d : signals_in (how_often w) sheet ≤ signals_in (how_often w) s.sheet + 0 = f.prepared_of (how_often w) in
      let e : signals_in (how_often w) u.sheet ≤ signals_in (how_often w) sheet + times w (prepares g.effect) = x.prepared_of (how_often w) in
      omega (arith, a, b, d, e) in
      let pl = placed-named (λ (w : W). places w s) (λ (w : W). places w u) s.store (length u.store.slots) g.made (named g.effect) higher (named-next l.own.sponsor controller s.store g.made g.effect made) less (placed-of s ok) in
      record {
        sound = record {
          conserved = λ kind. x.same_total kind ∙ (f.same_total kind ∙ ok.conserved kind);
          balanced = x.balanced (f.balanced ok.balanced);
          quads = omega (arith, up, taken, fm, xm, ok.quads);
          ended = ok.ended;
          paid_for = omega (arith, t, w, cost, few, f1, x1, fe, xe, ok.paid_for);
          rising = ok.rising;
          apart = subst (λ (ks : List ℕ). Distinct ks) (sym k) ok.apart;
          pending = subst (λ (ks : List ℕ). HasAll s.messages ks) (sym k) ok.pending;
          listed = li.listed;
          sponsors_apart = li.apart;
          sponsors_taken = li.taken;
          once = pl.once;
          events_taken = pl.taken;
        };
        rises = omega (arith, n, fc, xc);
      }

  act-good : (i : ℕ) (l : Lane) (controller : W) (r : Row) → slice_get s.flight i ≡ Some l → short (account s.sheet l.own.sponsor) r.charge ≡ None → HeldBy s.store (spend s.sheet l.own.sponsor r.charge) l.own.sponsor r.outcome → Covers r.charge r.outcome → MakesNamed l.own.sponsor controller s.store r.outcome → Good grant s (act s i l (spend s.sheet l.own.sponsor r.charge) r.outcome).0 1
  act-good i l controller r at paid held covers made = pick r.outcome held covers made
    where
      sheet : List Account
      sheet = spend s.sheet l.own.sponsor r.charge

      f : Moves s.sheet sheet (due r.charge) [] []
      f = spend-moves s.sheet l.own.sponsor r.charge paid

      payer : Among l.own.sponsor (sponsors sheet)
      payer = subst (λ (ws : List W). Among l.own.sponsor ws) (sym (f.sponsors_are ∙ append-nil (sponsors s.sheet))) (payer-there s.sheet l.own.sponsor r.charge paid)

      pick : (o : Outcome) → HeldBy s.store sheet l.own.sponsor o → Covers r.charge o → MakesNamed l.own.sponsor controller s.store o → Good grant s (act s i l sheet o).0 1
      pick (Goes g) held covers made = go_on-good i l sheet r.charge controller g at f payer held covers made
      pick (Faults w) held covers made =
          let g = finish-good i l sheet no_effects (Failed w) (due r.charge) at f (λ c. let z = c.none in omega (arith, z)) in
          record { sound = g.sound; rises = omega (arith, g.rises) }
      pick Commits held covers made =
          let g = finish-good i l sheet l.effects Committed (due r.charge) at f (λ c. omega arith) in
          record { sound = g.sound; rises = omega (arith, g.rises) }

  -- ---- an event's sponsor runs out

  pub run_out-good : (i : ℕ) (l : Lane) (kind : Quota) → slice_get s.flight i ≡ Some l → Good grant s (run_out s i l kind) 1
  run_out-good i l kind at =
      let sheet = stop s.sheet l.own.sponsor in
      let o = prepared s.sheet l.own.sponsor in
      let f = stands-moves s.sheet l.own.sponsor Stopped in
      let u = finish s i l sheet no_effects (RanOut kind) in
      let g = finish-good i l sheet no_effects (RanOut kind) nothing_due at f (λ c. let z = c.none in omega (arith, z)) in
      let t = sum-removed (λ (l : Lane). length (sent_by l)) s.flight i l at in
      let d : signals_in how_many sheet + length (as_list o) ≡ signals_in how_many s.sheet = stop-drops how_many s.sheet l.own.sponsor in
      let e = f.spent Events in
      let k = (alike-settled s.store l.own.actor no_effects).as_many in
      let left : u.next_number + sends_in how_many u.flight + signals_in how_many sheet + length (as_list o) ≤ 1 + spent_by_all Events sheet = omega (arith, t, d, e, ok.paid_for) in
      let less : (w : W) → places w u + times w (as_list o) ≤ places w s =
      λ w.
      let b : signals_in (how_often w) sheet + times w (as_list o) ≡ signals_in (how_often w) s.sheet = stop-drops (how_often w) s.sheet l.own.sponsor in
      finish-places w i l sheet no_effects (RanOut kind) (times w (as_list o)) at (omega (arith, b)) (omega arith) in
      let r = released-good s o kind u g.sound left (placed-of s ok) (at_most _ _ k) less in
      record { sound = r.sound; rises = omega (arith, g.rises, r.rises) }

  -- ---- a turn

  charged-good : (i : ℕ) (l : Lane) (k : Option Quota) → slice_get s.flight i ≡ Some l → short (account s.sheet l.own.sponsor) (lane_row s.store s.sheet l).charge ≡ k → Good grant s (charged s i l (lane_row s.store s.sheet l) k).0 1
  charged-good i l (Some kind) at h = out-good (same_word l.own.sponsor root) kind (run_out s i l kind) (run_out-good i l kind at)
  charged-good i l None at h =
      let vs = values l.stack in
      let o = fetched s.store l.code in
      act-good i l (item vs 1) (lane_row s.store s.sheet l) at h (row_at-holds l.own o s.store s.sheet l.effects vs) (row_at-covers l.own o s.store s.sheet l.effects vs) (row_at-makes l.own o s.store s.sheet l.effects vs)

  step-good : (i : ℕ) (l : Option Lane) → slice_get s.flight i ≡ l → Good grant s (step s i l).0 (if not_rest (step s i l).1 then 1 else 0)
  step-good i None h = still
  step-good i (Some l) h = at_most_one grant s _ _ (charged-good i l _ h refl)

  go-good : (pick : ℕ) (m : Option Message) → dispatchable s ≡ m → Good grant s (go s pick m).0 (if not_rest (go s pick m).1 then 1 else 0)
  go-good pick (Some m) h = at_most_one grant s _ _ (dispatch-good m (sent_at s.store m.event) (device_of (sent_at s.store m.event).target) (dispatchable-chosen s m h))
  go-good pick None h = step-good (pick % length s.flight) _ refl

  unless_spent-good : (pick : ℕ) (o : Option Quota) → Good grant s (unless_spent s pick o).0 (if unless_out o (not_rest (unless_spent s pick o).1) then 1 else 0)
  unless_spent-good pick (Some kind) = still
  unless_spent-good pick None = go-good pick _ refl

  pub turn-good : (pick : ℕ) → Good grant s (turn s pick).0 (if completes s pick then 1 else 0)
  turn-good pick = unless_spent-good pick s.out_of

  pub turn-sound : (pick : ℕ) → Sound grant (turn s pick).0
  turn-sound pick = (turn-good pick).sound

-- ---- runs

-- a run keeps it, and each completed turn raises the mass
pub run-good : (grant : Amounts) (s : State) (ps : List ℕ) → Sound grant s → Good grant s (after s ps) (completed s ps)
run-good grant s [] ok = record { sound = ok; rises = omega arith }
run-good grant s (p ∷ ps) ok =
    let g = turn-good grant s ok p in
    let r = run-good grant (turn s p).0 ps g.sound in
    record { sound = r.sound; rises = omega (arith, g.rises, r.rises) }

-- the mass is under what was granted
pub mass-under : (grant : Amounts) (s : State) → Sound grant s → mass s ≤ grant.cycles + 2 * (grant.events + 1)
mass-under grant s ok =
    let a = sum_by-le-sum_by (spent_of Cycles) (kept Cycles) s.sheet (λ x. omega arith) in
    let b = sum_by-le-sum_by (spent_of Events) (kept Events) s.sheet (λ x. omega arith) in
    let n = no_more (numbers s.flight) s.messages ok.apart ok.pending in
    let k = length-numbers s.flight in
    let c = ok.conserved Cycles in
    let e = ok.conserved Events in
    omega (arith, a, b, n, k, c, e, ok.ended, ok.paid_for)
