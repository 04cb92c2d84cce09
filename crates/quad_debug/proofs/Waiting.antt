-- The ready numbers stand for the messages that are not in flight.
use Rattle.std.proofs.Common.{◌≡◌, ℕ, suc, ◌+◌, ◌<◌, ◌≤◌, nat_eq, List, [], ◌∷◌, length, map, Some, Bool, true, false, if◌then◌else◌, ap, ap₂, refl, sym, ◌∙◌, subst, arith}
use Rattle.std.specs.Prelude.{slice_get, ◌||◌}
use Rattle.std.proofs.lemmas.Bool.Decides.{nat_tests}
use Rattle.std.proofs.lemmas.Option.{get_or_from_slice_get}
use Rattle.cap_words.specs.Words.{W, undef}
use Rattle.instr_table.specs.Lane.{Lane as Flying}
use Rattle.instr_table.specs.Reach.{Every}
use Rattle.vm_turn.specs.State.{Message, State}
use Rattle.vm_turn.specs.Turn.{is_in_flight}
use Rattle.event_queue.specs.Pending.{Pending, event_of, IsAscending}
use Rattle.event_queue.specs.Waiting.{messages_of, waiting, StandsFor}
use Rattle.vm_machine.specs.Messages.{is_among, is_unfinished, kept_from, unfinished}
use Rattle.quad_debug.specs.Obeys.{ready_in}

-- ---- which messages are kept

kept-same : (f g : ℕ → Bool) (n : ℕ) (ws : List W) → ((k : ℕ) → n ≤ k → k < n + length ws → f k ≡ g k) → kept_from f n ws ≡ kept_from g n ws
kept-same f g n [] h = refl
kept-same f g n (w ∷ ws) h =
    ap₂ (λ (b : Bool) (ms : List Message). if b then record { number = n; event = w } ∷ ms else ms)
    (h n (omega arith) (omega arith))
    (kept-same f g (suc n) ws (λ k a b. h k (omega (arith, a)) (omega (arith, b))))

none-kept : (keep : ℕ → Bool) (n : ℕ) (ws : List W) → ((k : ℕ) → keep k ≡ false) → kept_from keep n ws ≡ []
none-kept keep n [] h = refl
none-kept keep n (w ∷ ws) h = rw (h n) (none-kept keep (suc n) ws h)

-- a number below all is none of them
ascending-not : (k low high : ℕ) (ns : List ℕ) → k < low → IsAscending low high ns → is_among k ns ≡ false
ascending-not k low high [] h a = refl
ascending-not k low high (m ∷ ms) h a =
    let e : nat_eq m k ≡ false = (let x = a.0 in grind (arith, nat_tests, h, x)) in
    rw e (ascending-not k (suc m) high ms (let x = a.0 in omega (arith, h, x)) a.2)

ready-kept : (given : List W) (n : ℕ) (ws : List W) (ready : List ℕ) → IsAscending n (n + length ws) ready → ((i : ℕ) (w : W) → slice_get ws i ≡ Some w → event_of given (n + i) ≡ w)
    → kept_from (λ k. is_among k ready) n ws ≡ messages_of given ready
ready-kept given n [] [] a at = refl
ready-kept given n [] (r ∷ rs) a at = absurd (let x = a.0 in let y = a.1 in omega (arith, x, y))
ready-kept given n (w ∷ ws) [] a at = none-kept (λ k. false) n (w ∷ ws) (λ k. refl)
ready-kept given n (w ∷ ws) (r ∷ rs) a at = by (nat_eq r n) refl (λ b. ready-kept given (suc n) ws rs b later) (λ b. ready-kept given (suc n) ws (r ∷ rs) b later)
  where
    here : event_of given n ≡ w
    here = let e : n + 0 ≡ n = omega arith in ap (event_of given) (sym e) ∙ at 0 w refl

    later : (i : ℕ) (v : W) → slice_get ws i ≡ Some v → event_of given (suc n + i) ≡ v
    later i v h = let e : suc n + i ≡ n + suc i = omega arith in ap (event_of given) e ∙ at (suc i) v h

    high : n + length (w ∷ ws) ≡ suc n + length ws
    high = omega arith

    by : (b : Bool) → nat_eq r n ≡ b
        → (IsAscending (suc n) (suc n + length ws) rs → kept_from (λ k. is_among k rs) (suc n) ws ≡ messages_of given rs)
        → (IsAscending (suc n) (suc n + length ws) (r ∷ rs) → kept_from (λ k. is_among k (r ∷ rs)) (suc n) ws ≡ messages_of given (r ∷ rs))
        → (if (if b then true else is_among n rs) then record { number = n; event = w } ∷ kept_from (λ k. is_among k (r ∷ rs)) (suc n) ws else kept_from (λ k. is_among k (r ∷ rs)) (suc n) ws) ≡ messages_of given (r ∷ rs)
    by true e one two =
        let x : r ≡ n = grind (arith, nat_tests) in
        let rest : IsAscending (suc n) (suc n + length ws) rs = subst (λ (m : ℕ). IsAscending (suc n) m rs) high (subst (λ (m : ℕ). IsAscending (suc m) (n + length (w ∷ ws)) rs) x a.2) in
        let same : kept_from (λ k. is_among k (r ∷ rs)) (suc n) ws ≡ kept_from (λ k. is_among k rs) (suc n) ws =
        kept-same (λ k. is_among k (r ∷ rs)) (λ k. is_among k rs) (suc n) ws (λ k l u. (let f : nat_eq r k ≡ false = grind (arith, nat_tests, x, l) in rw f refl)) in
        ap₂ (λ (m : Message) (ms : List Message). m ∷ ms) (ap₂ (λ (j : ℕ) (v : W). record { number = j; event = v }) (sym x) (sym here ∙ ap (event_of given) (sym x))) (same ∙ one rest)
    by false e one two =
        let d : r ≡ n → ⊥ = λ y. grind (arith, nat_tests) in
        let up : suc n ≤ r = (let l = a.0 in grind (arith, l, d)) in
        let no : is_among n rs ≡ false = ascending-not n (suc r) (n + length (w ∷ ws)) rs (omega (arith, up)) a.2 in
        rw no (two (up, (let u = a.1 in omega (arith, u)), subst (λ (m : ℕ). IsAscending (suc r) m rs) high a.2))

-- of the unfinished messages those that are not in flight are the ready ones
waiting-kept : (f g : ℕ → Bool) (flight : List Flying) (n : ℕ) (ws : List W) → ((k : ℕ) → (if is_in_flight k flight then false else f k) ≡ g k) → waiting flight (kept_from f n ws) ≡ kept_from g n ws
waiting-kept f g flight n [] h = refl
waiting-kept f g flight n (w ∷ ws) h = by (f n) (is_in_flight n flight) (g n) refl (h n) (waiting-kept f g flight (suc n) ws h)
  where
    by : (a b c : Bool) → is_in_flight n flight ≡ b → (if b then false else a) ≡ c → waiting flight (kept_from f (suc n) ws) ≡ kept_from g (suc n) ws
        → waiting flight (if a then record { number = n; event = w } ∷ kept_from f (suc n) ws else kept_from f (suc n) ws) ≡ (if c then record { number = n; event = w } ∷ kept_from g (suc n) ws else kept_from g (suc n) ws)
    by true true true e k r = cc
    by true true false e k r = rw e r
    by true false true e k r = rw e (ap (λ (ms : List Message). record { number = n; event = w } ∷ ms) r)
    by true false false e k r = cc
    by false true true e k r = cc
    by false true false e k r = r
    by false false true e k r = cc
    by false false false e k r = r

stands : (q : Pending) (flight : List Flying) → IsAscending 0 (length q.given) q.ready → ((k : ℕ) → is_in_flight k flight ≡ true → is_among k q.ready ≡ false) → StandsFor q flight (unfinished q.given q.ready flight)
stands q flight a apart =
    waiting-kept (is_unfinished q.ready flight) (λ k. is_among k q.ready) flight 0 q.given each
    ∙ ready-kept q.given 0 q.given q.ready (subst (λ (n : ℕ). IsAscending 0 n q.ready) (let e : length q.given ≡ 0 + length q.given = omega arith in e) a) at
  where
    by : (k : ℕ) (b c : Bool) → is_in_flight k flight ≡ b → is_among k q.ready ≡ c → (if b then false else (c || b)) ≡ c
    by k true true e f = absurd (let x = sym (apart k e) ∙ f in no x)
      where
        no : false ≡ true → ⊥
        no y = cc
    by k true false e f = refl
    by k false true e f = refl
    by k false false e f = refl

    each : (k : ℕ) → (if is_in_flight k flight then false else is_unfinished q.ready flight k) ≡ is_among k q.ready
    each k = by k (is_in_flight k flight) (is_among k q.ready) refl refl

    at : (i : ℕ) (w : W) → slice_get q.given i ≡ Some w → event_of q.given (0 + i) ≡ w
    at i w h = let e : 0 + i ≡ i = omega arith in ap (event_of q.given) e ∙ get_or_from_slice_get q.given i w undef h

-- a number in flight is not ready
flying-apart : (ready : List ℕ) (ls : List Flying) → Every (λ (l : Flying). is_among l.number ready ≡ false) ls → (k : ℕ) → is_in_flight k ls ≡ true → is_among k ready ≡ false
flying-apart ready [] h k e = cc
flying-apart ready (l ∷ ls) h k e = by (nat_eq l.number k) refl (λ f. flying-apart ready ls h.1 k f) e
  where
    by : (b : Bool) → nat_eq l.number k ≡ b → (is_in_flight k ls ≡ true → is_among k ready ≡ false) → (if b then true else is_in_flight k ls) ≡ true → is_among k ready ≡ false
    by true e later f = let x : l.number ≡ k = grind (arith, nat_tests) in subst (λ (n : ℕ). is_among n ready ≡ false) x h.0
    by false e later f = later f

-- what a machine tells of its queue, of whatever state
pub record Tells (q : Pending) (s : State) : Type 0 where
  pub messages : unfinished q.given q.ready s.flight ≡ s.messages
  pub ready : Every (λ (l : Flying). is_among l.number q.ready ≡ false) s.flight
  pub ascending : IsAscending 0 (length q.given) q.ready

pub stands-for : (q : Pending) (s : State) → Tells q s → StandsFor q s.flight s.messages
stands-for q s t = subst (StandsFor q s.flight) t.messages (stands q s.flight t.ascending (flying-apart q.ready s.flight t.ready))

numbers-of : (given : List W) (ns : List ℕ) → map (λ (m : Message). m.number) (messages_of given ns) ≡ ns
numbers-of given [] = refl
numbers-of given (n ∷ ns) = ap (λ (l : List ℕ). n ∷ l) (numbers-of given ns)

-- the ready numbers of the queue are those of the state
pub ready-there : (q : Pending) (s : State) → Tells q s → ready_in s ≡ q.ready
ready-there q s t = ap (map (λ (m : Message). m.number)) (stands-for q s t) ∙ numbers-of q.given q.ready
