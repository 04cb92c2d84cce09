-- What an event gets at is what it had at its dispatch and what it made since.
use Rattle.std.proofs.Common.{◌≡◌, ◌⊎◌, inl, inr, ℕ, zero, suc, ◌+◌, ◌%◌, ◌<◌, ◌≤◌, Bool, true, false, List, [], ◌∷◌, ◌++◌, length, Option, Some, None, refl, sym, ap, subst, ◌∙◌, arith, IsTrue, nat_eq, if◌then◌else◌, append-nil, append_assoc}
use Rattle.std.specs.Prelude.{slice_get, slice_set, remove, pos}
use Rattle.std.proofs.lemmas.Bool.Decides.{nat_tests}
use Rattle.cap_words.specs.Words.{W, Fix, Cap}
use Rattle.cap_words.specs.Seen.{Seen, Slot}
use Rattle.cap_words.specs.Frame.{Among}
use Rattle.instr_table.specs.declared.charge.Quota.{Quota}
use Rattle.instr_table.specs.Lists.{next_quad}
use Rattle.instr_table.specs.Event.{Own, Sent, Effects, no_effects}
use Rattle.instr_table.specs.Sheet.{Account, spend, stop, prepared}
use Rattle.instr_table.specs.Outcome.{Going, Outcome, Goes}
use Rattle.instr_table.specs.Lane.{Lane, begun, lane_row, gone, after_going}
use Rattle.instr_table.specs.Reach.{Reached, given, inside, Reach, is_made}
use Rattle.instr_table.specs.Authority.{lane_words, AllTaken, IsMadeBy}
use Rattle.instr_table.proofs.Authorities.{keeps-authority}
use Rattle.vm_sponsor.specs.declared.amounts.Amounts.{Amounts}
use Rattle.vm_turn.specs.declared.journal.Outcome.{Outcome as End}
use Rattle.vm_turn.specs.declared.journal.Outcome.TheVariants.{Committed, Failed, RanOut}
use Rattle.vm_turn.specs.declared.journal.Turn.TheVariants.{Dispatched, Stepped}
use Rattle.vm_turn.specs.State.{Message, State}
use Rattle.vm_turn.specs.Actors.{sent_at}
use Rattle.vm_turn.specs.Turn.{signal_number, dispatchable, without, own_of, begin, delivered, refused, finish, go_on, released, run_out, turn, numbered_from}
use Rattle.vm_turn.specs.Run.{after, run}
use Rattle.vm_turn.specs.Sound.{Sound, numbers, Other, Has}
use Rattle.vm_turn.specs.Authority.{LaneTaken, WordsTaken, new_words, made_by, made_next, noted_in, noted_at, made_since, had, EventsKeepAuthority}
use Rattle.vm_turn.proofs.Bound.{dispatchable-chosen}
use Rattle.vm_turn.proofs.Numbers.{numbers-set}
use Rattle.vm_turn.proofs.Slots.{Alike, alike-busy, alike-content, alike-settled, alike-then, alike-refl}
use Rattle.vm_turn.proofs.Sponsors.{among-left, among-right}
use Rattle.vm_turn.proofs.Places.{other-at, has-place, message-given}
use Rattle.vm_turn.proofs.RunsSound.{run-sound}
use Rattle.vm_turn.proofs.TurnCases.{IsPicked, turn-by}
use Rattle.vm_turn.proofs.Taken.{Reads, every-get, reached-back, alike-reads, going-reads}
use Rattle.vm_turn.proofs.WordsKept.{begun-taken, turn-taken, run-taken}
use Rattle.vm_turn.proofs.Sums.{some_is}

-- ---- lists

-- what stands in a list after an item was removed, put in or added stood there before, or is the new one
pub at-removed : (ls : List Lane) (i j : ℕ) (k : Lane) → slice_get (remove ls i) j ≡ Some k → (p : ℕ) × (slice_get ls p ≡ Some k)
at-removed [] zero j k h = cc
at-removed [] (suc i) j k h = cc
at-removed (x ∷ ls) zero j k h = (suc j, h)
at-removed (x ∷ ls) (suc i) zero k h = (0, h)
at-removed (x ∷ ls) (suc i) (suc j) k h = let r = at-removed ls i j k h in (suc r.0, r.1)

pub at-set : (ls : List Lane) (i j : ℕ) (new k : Lane) → slice_get (slice_set ls i new) j ≡ Some k → (new ≡ k) ⊎ (slice_get ls j ≡ Some k)
at-set [] i j new k h = inr h
at-set (x ∷ ls) zero zero new k h = inl (some_is h)
at-set (x ∷ ls) zero (suc j) new k h = inr h
at-set (x ∷ ls) (suc i) zero new k h = inr h
at-set (x ∷ ls) (suc i) (suc j) new k h = at-set ls i j new k h

pub at-end : (ls : List Lane) (j : ℕ) (new k : Lane) → slice_get (ls ++ new ∷ []) j ≡ Some k → (new ≡ k) ⊎ (slice_get ls j ≡ Some k)
at-end [] zero new k h = inl (some_is h)
at-end [] (suc j) new k h = cc
at-end (x ∷ ls) zero new k h = inr h
at-end (x ∷ ls) (suc j) new k h = at-end ls j new k h

-- ---- what an instruction makes

made-among : (n i : ℕ) (xs : List Slot) → IsTrue (is_made (slice_get xs i)) → Among (Cap (n + i)) (new_words n xs)
made-among n i [] h = cc
made-among n zero (x ∷ xs) h = by (is_made (Some x)) h
  where
    by : (b : Bool) → b ≡ true → Among (Cap (n + 0)) (if b then Cap n ∷ new_words (suc n) xs else new_words (suc n) xs)
    by true e = let z : n + 0 ≡ n = omega arith in inl (ap Cap z)
    by false e = cc
made-among n (suc i) (x ∷ xs) h =
    let z : suc n + i ≡ n + suc i = omega arith in
    by (is_made (Some x)) (subst (λ (k : ℕ). Among (Cap k) (new_words (suc n) xs)) z (made-among (suc n) i xs h))
  where
    by : (b : Bool) → Among (Cap (n + suc i)) (new_words (suc n) xs) → Among (Cap (n + suc i)) (if b then Cap n ∷ new_words (suc n) xs else new_words (suc n) xs)
    by true later = inr later
    by false later = later

is-made : (s : Seen) (g : Going) (w : W) → IsMadeBy s g w → Among w (new_words (next_quad s) g.made)
is-made s g w m = subst (λ (v : W). Among v (new_words (next_quad s) g.made)) (sym m.1) (made-among (next_quad s) m.0 g.made m.2)

-- ---- reach

-- what is reached from fewer words is reached from more
pub reached-more : (s : Seen) (vs ws : List W) → ((w : W) → Among w vs → Among w ws) → (w : W) → Reached s vs w → Reached s ws w
reached-more s vs ws f w (given a) = given (f w a)
reached-more s vs ws f w (inside {w = u} r e a) = inside (reached-more s vs ws f u r) e a

-- ---- an event's message is given once

-- it was given, and where it is not in flight it has ended
pub record Underway (number : ℕ) (s : State) : Type 0 where
  pub was_given : number < s.next_number
  pub ended : Other number (numbers s.flight) → Has s.messages number → ⊥

other-left : (n : ℕ) (ls : List Lane) (l : Lane) → Other n (numbers (ls ++ l ∷ [])) → Other n (numbers ls)
other-left n [] l h = tt
other-left n (k ∷ ls) l h = (h.0, other-left n ls l h.1)

other-last : (n : ℕ) (ls : List Lane) (l : Lane) → l.number ≡ n → Other n (numbers (ls ++ l ∷ [])) → ⊥
other-last n [] l e h = h.0 e
other-last n (k ∷ ls) l e h = other-last n ls l e h.1

other-whole : (n : ℕ) (ls : List Lane) (i : ℕ) (l : Lane) → slice_get ls i ≡ Some l → (l.number ≡ n → ⊥) → Other n (numbers (remove ls i)) → Other n (numbers ls)
other-whole n [] i l at d h = tt
other-whole n (k ∷ ls) zero l at d h = ((λ e. d (ap (λ (x : Lane). x.number) (sym (some_is at)) ∙ e)), h)
other-whole n (k ∷ ls) (suc i) l at d h = (h.0, other-whole n ls i l at d h.1)

pub has-of : (ms xs : List Message) (n : ℕ) → Has (ms ++ xs) n → Has ms n ⊎ Has xs n
has-of [] xs n h = inr h
has-of (m ∷ ms) xs n (inl e) = inl (inl e)
has-of (m ∷ ms) xs n (inr h) = by (has-of ms xs n h)
  where
    by : Has ms n ⊎ Has xs n → Has (m ∷ ms) n ⊎ Has xs n
    by (inl g) = inl (inr g)
    by (inr g) = inr g

nat-differs : (m n : ℕ) → nat_eq m n ≡ false → m ≡ n → ⊥
nat-differs m n h e = grind (arith, nat_tests)

nat-same : (m n : ℕ) → m ≡ n → nat_eq m n ≡ true
nat-same m n e = grind (arith, nat_tests)

pub has-left : (ms : List Message) (n k : ℕ) → Has (without n ms) k → (n ≡ k → ⊥) × Has ms k
has-left [] n k h = absurd h
has-left (m ∷ ms) n k h = by (nat_eq m.number n) refl (λ g. has-left ms n k g) h
  where
    by : (b : Bool) → nat_eq m.number n ≡ b → (Has (without n ms) k → (n ≡ k → ⊥) × Has ms k) → Has (if b then without n ms else m ∷ without n ms) k → (n ≡ k → ⊥) × Has (m ∷ ms) k
    by true e f g = let r = f g in (r.0, inr r.1)
    by false e f (inl g) = ((λ d. nat-differs m.number n e (g ∙ sym d)), inl g)
    by false e f (inr g) = let r = f g in (r.0, inr r.1)

pub numbered-above : (k : ℕ) (es : List Sent) (n : ℕ) → Has (numbered_from k es) n → k ≤ n
numbered-above k [] n h = absurd h
numbered-above k (e ∷ es) n (inl d) = omega (arith, d)
numbered-above k (e ∷ es) n (inr h) = let u = numbered-above (suc k) es n h in omega (arith, u)

module _ (number : ℕ) (s : State) (u : Underway number s) where
  underway-finish : (i : ℕ) (l : Lane) (sheet : List Account) (x : Effects) (end : End) → slice_get s.flight i ≡ Some l → Underway number (finish s i l sheet x end)
  underway-finish i l sheet x end at = record { was_given = let g = u.was_given in omega (arith, g); ended = λ o h. by o (has-of (without l.number s.messages) (numbered_from s.next_number x.sent) number h) }
    where
      by : Other number (numbers (remove s.flight i)) → Has (without l.number s.messages) number ⊎ Has (numbered_from s.next_number x.sent) number → ⊥
      by o (inl h) = let r = has-left s.messages l.number number h in u.ended (other-whole number s.flight i l at r.0 o) r.1
      by o (inr h) = let a = numbered-above s.next_number x.sent number h in let g = u.was_given in absurd (omega (arith, a, g))

  underway-released : (o : Option W) (kind : Quota) → Underway number (released o kind s)
  underway-released None kind = u
  underway-released (Some w) kind = record { was_given = let g = u.was_given in omega (arith, g); ended = λ o h. by o (has-of s.messages (record { number = s.next_number; event = w } ∷ []) number h) }
    where
      by : Other number (numbers s.flight) → Has s.messages number ⊎ Has (record { number = s.next_number; event = w } ∷ []) number → ⊥
      by o (inl h) = u.ended o h
      by o (inr (inl e)) = let g = u.was_given in absurd (omega (arith, e, g))
      by o (inr (inr h)) = h

  underway-delivered : (m : Message) (end : End) (bytes : List ℕ) → Underway number (delivered s m.number end bytes)
  underway-delivered m end bytes = record { was_given = u.was_given; ended = λ o h. u.ended o (has-left s.messages m.number number h).1 }

  underway-begin : (m : ℕ) (x : Sent) → Underway number (begin s m x)
  underway-begin m x = record { was_given = u.was_given; ended = λ o h. u.ended (other-left number s.flight (begun m (own_of s.store x)) o) h }

  underway-go_on : (i : ℕ) (l : Lane) (sheet : List Account) (g : Going) → slice_get s.flight i ≡ Some l → Underway number (go_on s i l sheet g)
  underway-go_on i l sheet g at = record { was_given = u.was_given; ended = λ o h. u.ended (subst (λ (ks : List ℕ). Other number ks) (numbers-set s.flight i l (gone s.store l g) at refl) o) h }

-- ---- what a turn reads

finish-reads : (s : State) (i : ℕ) (l : Lane) (sheet : List Account) (x : Effects) (end : End) → Reads s.store (finish s i l sheet x end).store
finish-reads s i l sheet x end = alike-reads s.store _ (alike-settled s.store l.own.actor x)

pub released-alike : (o : Option W) (kind : Quota) (u : State) → Alike u.store (released o kind u).store
released-alike None kind u = alike-refl u.store
released-alike (Some w) kind u = alike-content u.store w (Fix (pos (signal_number kind)))

pub released-flight : (o : Option W) (kind : Quota) (u : State) → (released o kind u).flight ≡ u.flight
released-flight None kind u = refl
released-flight (Some w) kind u = refl

run_out-reads : (s : State) (i : ℕ) (l : Lane) (kind : Quota) → Reads s.store (run_out s i l kind).store
run_out-reads s i l kind =
    let t = finish s i l (stop s.sheet l.own.sponsor) no_effects (RanOut kind) in
    alike-reads s.store _ (alike-then s.store t.store (run_out s i l kind).store (alike-settled s.store l.own.actor no_effects) (released-alike (prepared s.sheet l.own.sponsor) kind t))

begin-reads : (s : State) (m : ℕ) (x : Sent) → Reads s.store (begin s m x).store
begin-reads s m x = alike-reads s.store _ (alike-busy s.store x.target m)

-- each readable cell under a word that is taken was there before the turn
pub turn-reads : (s : State) (pick : ℕ) → Reads s.store (turn s pick).0.store
turn-reads s pick = turn-by s pick (λ t a. Reads s.store t.store) (record {
  spent = λ kind out w q k h. h;
  rests = λ run waits none w q k h. h;
  begins = λ m d. begin-reads s m.number (sent_at s.store m.event);
  writes = λ m device bytes d e w q k h. h;
  refuses = λ m device d e w q k h. h;
  goes = λ l g at paid is. going-reads s.store l.stack g;
  fails = λ l w at paid is. finish-reads s (pick % length s.flight) l (spend s.sheet l.own.sponsor (lane_row s.store s.sheet l).charge) no_effects (Failed w);
  commits = λ l at paid is. finish-reads s (pick % length s.flight) l (spend s.sheet l.own.sponsor (lane_row s.store s.sheet l).charge) l.effects Committed;
  runs_out = λ l kind at lacks other. run_out-reads s _ l kind;
  root_runs_out = λ l kind at lacks same run. run_out-reads s _ l kind;
})

-- ---- what an event gets at, turn by turn

module _ (P : W → Type 0) (number : ℕ) where
  -- each event of that number gets at words of which P holds, or that are among the made ones
  abbrev pub Holds : List W → State → Type 0
  Holds made t = (i : ℕ) (l : Lane) → slice_get t.flight i ≡ Some l → l.number ≡ number → (w : W) → Reach t.store (lane_words l) w → P w ⊎ Among w made

  pub widen : (w : W) (made more : List W) → P w ⊎ Among w made → P w ⊎ Among w (made ++ more)
  widen w made more (inl p) = inl p
  widen w made more (inr a) = inr (among-left w made more a)

  module _ (s : State) (taken : WordsTaken s) (made : List W) (h : Holds made s) where
    lane-back : (t : Seen) (i : ℕ) (l : Lane) → Reads s.store t → slice_get s.flight i ≡ Some l → (w : W) → Reach t (lane_words l) w → Reach s.store (lane_words l) w
    lane-back t i l f at w r = (r.0, reached-back s.store taken.image taken.cells t (lane_words l) f (every-get (LaneTaken (next_quad s.store)) s.flight i l taken.flight at).words.1 w r.1)

    -- an event that was in flight, and took no instruction in this turn
    holds-old : (more : List W) (t : Seen) (i : ℕ) (l : Lane) → Reads s.store t → slice_get s.flight i ≡ Some l → l.number ≡ number → (w : W) → Reach t (lane_words l) w → P w ⊎ Among w (made ++ more)
    holds-old more t i l f at e w r = widen w made more (h i l at e w (lane-back t i l f at w r))

    holds-finish : (i : ℕ) (l : Lane) (sheet : List Account) (x : Effects) (end : End) → Holds (made ++ []) (finish s i l sheet x end)
    holds-finish i l sheet x end j k at e w r = let p = at-removed s.flight i j k at in holds-old [] (finish s i l sheet x end).store p.0 k (finish-reads s i l sheet x end) p.1 e w r

    holds-run_out : (i : ℕ) (l : Lane) (kind : Quota) → Holds (made ++ []) (run_out s i l kind)
    holds-run_out i l kind j k at e w r =
        let p = at-removed s.flight i j k (subst (λ (ls : List Lane). slice_get ls j ≡ Some k) (released-flight (prepared s.sheet l.own.sponsor) kind (finish s i l (stop s.sheet l.own.sponsor) no_effects (RanOut kind))) at) in
        holds-old [] (run_out s i l kind).store p.0 k (run_out-reads s i l kind) p.1 e w r

    -- another event begins
    holds-begin : (m : Message) → (m.number ≡ number → ⊥) → Holds (made ++ []) (begin s m.number (sent_at s.store m.event))
    holds-begin m d j k at e w r = by (at-end s.flight j (begun m.number (own_of s.store (sent_at s.store m.event))) k at)
      where
        by : (begun m.number (own_of s.store (sent_at s.store m.event)) ≡ k) ⊎ (slice_get s.flight j ≡ Some k) → P w ⊎ Among w (made ++ [])
        by (inl is) = absurd (d (ap (λ (x : Lane). x.number) is ∙ e))
        by (inr old) = holds-old [] (begin s m.number (sent_at s.store m.event)).store j k (begin-reads s m.number (sent_at s.store m.event)) old e w r

    module _ (pick : ℕ) (l : Lane) (g : Going) (at : IsPicked s pick l) (is : (lane_row s.store s.sheet l).outcome ≡ Goes g) where
      made-is : l.number ≡ number → noted_at made_next number s pick Stepped ≡ new_words (next_quad s.store) g.made
      made-is e =
          ap (λ (o : Option Lane). noted_in made_next number s o) at
          ∙ (ap (λ (b : Bool). if b then made_by s.store (lane_row s.store s.sheet l).outcome else []) (nat-same l.number number e)
          ∙ ap (λ (o : Outcome). made_by s.store o) is)

      -- the event that takes the instruction
      holds-gone : l.number ≡ number → (w : W) → Reach (after_going s.store l.stack g).0 (lane_words (gone s.store l g)) w → P w ⊎ Among w (made ++ noted_at made_next number s pick Stepped)
      holds-gone e w r = by ((keeps-authority s.store s.sheet l g is old).1 w r)
        where
          t : LaneTaken (next_quad s.store) l
          t = every-get (LaneTaken (next_quad s.store)) s.flight (pick % length s.flight) l taken.flight at

          old : AllTaken s.store l
          old = record { image = taken.image; cells = taken.cells; stack = t.stack; words = t.words }

          by : Reach s.store (lane_words l) w ⊎ IsMadeBy s.store g w → P w ⊎ Among w (made ++ noted_at made_next number s pick Stepped)
          by (inl b) = widen w made _ (h (pick % length s.flight) l at e w b)
          by (inr m) = inr (among-right w made (noted_at made_next number s pick Stepped) (subst (λ (ws : List W). Among w ws) (sym (made-is e)) (is-made s.store g w m)))

      holds-go_on : (sheet : List Account) → Holds (made ++ noted_at made_next number s pick Stepped) (go_on s (pick % length s.flight) l sheet g)
      holds-go_on sheet j k there e w r = by (at-set s.flight (pick % length s.flight) j (gone s.store l g) k there)
        where
          by : (gone s.store l g ≡ k) ⊎ (slice_get s.flight j ≡ Some k) → P w ⊎ Among w (made ++ noted_at made_next number s pick Stepped)
          by (inl same) = holds-gone (ap (λ (x : Lane). x.number) same ∙ e) w (subst (λ (x : Lane). Reach (after_going s.store l.stack g).0 (lane_words x) w) (sym same) r)
          by (inr old) = holds-old _ (after_going s.store l.stack g).0 j k (going-reads s.store l.stack g) old e w r

    -- ---- a turn

    pub turn-holds : (pick : ℕ) → Underway number s → Holds (made ++ noted_at made_next number s pick (turn s pick).1) (turn s pick).0 × Underway number (turn s pick).0
    turn-holds pick u = turn-by s pick (λ t a. Holds (made ++ noted_at made_next number s pick a) t × Underway number t) (record {
      spent = λ kind out. (same, u);
      rests = λ run waits none. (same, u);
      begins = λ m d.
          let c = dispatchable-chosen s m d.first in
          (holds-begin m (λ e. u.ended (subst (λ (n : ℕ). Other n (numbers s.flight)) e c.other) (subst (λ (n : ℕ). Has s.messages n) e c.has)), underway-begin number s u m.number (sent_at s.store m.event));
      writes = λ m device bytes d e. (same, underway-delivered number s u m Committed bytes);
      refuses = λ m device d e. (same, underway-delivered number s u m refused []);
      goes = λ l g at paid is. (holds-go_on pick l g at is (paid_by l), underway-go_on number s u (pick % length s.flight) l (paid_by l) g at);
      fails = λ l w at paid is. (holds-finish (pick % length s.flight) l (paid_by l) no_effects (Failed w), underway-finish number s u (pick % length s.flight) l (paid_by l) no_effects (Failed w) at);
      commits = λ l at paid is. (holds-finish (pick % length s.flight) l (paid_by l) l.effects Committed, underway-finish number s u (pick % length s.flight) l (paid_by l) l.effects Committed at);
      runs_out = λ l kind at lacks other. (holds-run_out (pick % length s.flight) l kind, over l kind at);
      root_runs_out = λ l kind at lacks root run. (holds-run_out (pick % length s.flight) l kind, let k = over l kind at in record { was_given = k.was_given; ended = k.ended });
    })
      where
        paid_by : Lane → List Account
        paid_by l = spend s.sheet l.own.sponsor (lane_row s.store s.sheet l).charge

        same : Holds (made ++ []) s
        same i l at e w r = widen w made [] (h i l at e w r)

        over : (l : Lane) (kind : Quota) → IsPicked s pick l → Underway number (run_out s (pick % length s.flight) l kind)
        over l kind at = underway-released number (finish s (pick % length s.flight) l (stop s.sheet l.own.sponsor) no_effects (RanOut kind)) (underway-finish number s u (pick % length s.flight) l (stop s.sheet l.own.sponsor) no_effects (RanOut kind) at) (prepared s.sheet l.own.sponsor) kind

  -- and turns
  holds-since : (s : State) (ps : List ℕ) (made : List W) → WordsTaken s → Holds made s → Underway number s → Holds (made ++ made_since s number ps) (after s ps)
  holds-since s [] made taken h u = subst (λ (ws : List W). Holds ws s) (sym (append-nil made)) h
  holds-since s (p ∷ ps) made taken h u =
      let t = turn-holds s taken made h p u in
      subst (λ (ws : List W). Holds ws (after s (p ∷ ps))) (append_assoc made (noted_at made_next number s p (turn s p).1) (made_since (turn s p).0 number ps)) (holds-since (turn s p).0 ps (made ++ noted_at made_next number s p (turn s p).1) (turn-taken s p taken) t.0 t.1)

-- ---- dispatch

module _ {grant : Amounts} (s : State) (ok : Sound grant s) (taken : WordsTaken s) (m : Message) (chosen : dispatchable s ≡ Some m) where
  -- the turn that dispatches it
  dispatched-is : (pick : ℕ) → (turn s pick).1 ≡ Dispatched → (turn s pick).0 ≡ begin s m.number (sent_at s.store m.event)
  dispatched-is pick h = turn-by s pick (λ t a. a ≡ Dispatched → t ≡ begin s m.number (sent_at s.store m.event)) (record {
    spent = λ kind out e. absurd (cc);
    rests = λ run waits none e. absurd (cc);
    begins = λ k d e. let same : k ≡ m = some_is (sym d.first ∙ chosen) in ap (λ (x : Message). begin s x.number (sent_at s.store x.event)) same;
    writes = λ k device bytes d is e. absurd (cc);
    refuses = λ k device d is e. absurd (cc);
    goes = λ l g at paid is e. absurd (cc);
    fails = λ l w at paid is e. absurd (cc);
    commits = λ l at paid is e. absurd (cc);
    runs_out = λ l kind at lacks other e. absurd (cc);
    root_runs_out = λ l kind at lacks same run e. absurd (cc);
  }) h

  abbrev own : Own
  own = own_of s.store (sent_at s.store m.event)

  abbrev started : State
  started = begin s m.number (sent_at s.store m.event)

  in-had : (w : W) → Among w (lane_words (begun m.number own)) → Among w (had own)
  in-had w (inl e) = inr (inl e)
  in-had w (inr (inl e)) = inl e
  in-had w (inr (inr (inl e))) = inr (inl e)
  in-had w (inr (inr (inr (inl e)))) = inr (inr (inl e))
  in-had w (inr (inr (inr (inr (inl e))))) = inr (inr (inr (inl e)))
  in-had w (inr (inr (inr (inr (inr a))))) = absurd a

  begun-holds : Holds (Reach s.store (had own)) m.number [] started
  begun-holds i l at e w r = by (at-end s.flight i (begun m.number own) l at)
    where
      by : (begun m.number own ≡ l) ⊎ (slice_get s.flight i ≡ Some l) → Reach s.store (had own) w ⊎ Among w []
      by (inl is) =
          let q : Reached started.store (lane_words (begun m.number own)) w = subst (λ (x : Lane). Reached started.store (lane_words x) w) (sym is) r.1 in
          let b = reached-back s.store taken.image taken.cells started.store (lane_words (begun m.number own)) (begin-reads s m.number (sent_at s.store m.event)) (begun-taken s taken m).words.1 w q in
          inl (r.0, reached-more s.store (lane_words (begun m.number own)) (had own) in-had w b)
      by (inr old) = absurd (other-at m.number s.flight i l (dispatchable-chosen s m chosen).other old e)

  begun-underway : Underway m.number started
  begun-underway =
      let p = has-place s.messages m.number (dispatchable-chosen s m chosen).has in
      let g = message-given s ok p.0 p.1 p.2 in
      let e = p.3 in
      record { was_given = omega (arith, g, e); ended = λ o h. other-last m.number s.flight (begun m.number own) refl o }

  -- what holds after the turn that dispatches it
  module _ (pick : ℕ) (begins : (turn s pick).1 ≡ Dispatched) where
    pub dispatched-holds : Holds (Reach s.store (had own)) m.number [] (turn s pick).0
    dispatched-holds = subst (λ (t : State). Holds (Reach s.store (had own)) m.number [] t) (sym (dispatched-is pick begins)) begun-holds

    pub dispatched-underway : Underway m.number (turn s pick).0
    dispatched-underway = subst (λ (t : State). Underway m.number t) (sym (dispatched-is pick begins)) begun-underway

    flight-holds : (ps : List ℕ) → Holds (Reach s.store (had own)) m.number (made_since (turn s pick).0 m.number ps) (after (turn s pick).0 ps)
    flight-holds ps = holds-since (Reach s.store (had own)) m.number (turn s pick).0 ps [] (turn-taken s pick taken) dispatched-holds dispatched-underway

-- ---- laws

pub events-keep_authority : EventsKeepAuthority
events-keep_authority image grant lanes valid e w r =
    let s = run image grant lanes e.before in
    flight-holds s (run-sound image grant lanes e.before) (run-taken image grant lanes e.before valid) e.message e.chosen e.pick e.begins e.since e.place e.lane e.flies e.number_is w r
