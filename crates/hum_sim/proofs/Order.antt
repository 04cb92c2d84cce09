-- Messages to one target finish in the order of their numbers; with one lane all do.
use Rattle.std.proofs.Common.{◌≡◌, ⊎_elim, refl, ap, sym, subst, ◌∙◌, ℕ, zero, suc, ◌+◌, ◌≤◌, ◌<◌, List, [], ◌∷◌, ◌++◌, length, Option, Some, None, slice_get, eq-eqb, ne_eqb, arith, append-nil}
use Rattle.std.proofs.lemmas.Option.{none-some, same_Some}
use Rattle.instr_table.specs.Reach.{Every}
use Rattle.instr_table.proofs.GotWords.{every-append, every-map}
use Rattle.hum_meaning.specs.Value.{Parts, Value, Behaviour, Device, Answers}
use Rattle.hum_meaning.specs.Action.{no_effects, Outcome, Gives, Fails, Undecided}
use Rattle.hum_meaning.specs.Language.{Language}
use Rattle.hum_meaning.specs.Piece.{piece}
use Rattle.hum_meaning.specs.Deliver.{Message, Configuration, Delivery, Committed, Failed, Open, without, numbered_from, drop, responded, printed, respond, delivered, deliver}
use Rattle.hum_meaning.specs.After.{Ending, Commits, FailsWith, RunsOut, Entry, message_of, Leads, Follows}
use Rattle.hum_core.specs.Likeness.{IsPending}
use Rattle.hum_sim.specs.Legal.{IsItsTurn, IsLegal, LaterOnesAreGreater, InOrderOfNumbers, NumberedFrom}
use Rattle.hum_sim.proofs.Lists.{tested, every_by}

module _ {L : Parts} where
  -- ---- what a message's end makes of the pending ones

  -- the message goes, and some come with the next numbers
  pub record Moves (c : Configuration L) (m : Message L) (d : Configuration L) : Type 0 where
    pub sent : List (ℕ × Value L)
    pub pending : d.pending ≡ without m.number c.pending ++ numbered_from c.next_number sent
    pub next : d.next_number ≡ c.next_number + length sent

  goes : (c : Configuration L) (m : Message L) (out : List ℕ) → Moves c m (record (drop c m) { output = out })
  goes c m out = record { sent = []; pending = sym (append-nil (without m.number c.pending)); next = omega arith }

  abbrev Has : Configuration L → Message L → Delivery L → Type 0
  Has c m (Committed d) = Moves c m d
  Has c m (Failed code sends d) = Moves c m d
  Has c m Open = Unit {0}

  has_response : (c : Configuration L) (m : Message L) (o : Outcome L (Unit {0})) → Has c m (responded c m o)
  has_response c m (Gives u e left) = record { sent = e.sent; pending = refl; next = refl }
  has_response c m (Fails code sends) = goes c m c.output
  has_response c m Undecided = tt

  has_printed : (c : Configuration L) (m : Message L) (o : Option (List ℕ)) → Has c m (printed c m o)
  has_printed c m (Some bytes) = goes c m (c.output ++ bytes)
  has_printed c m None = goes c m c.output

  module _ (language : Language L) where
    has_delivered : (c : Configuration L) (m : Message L) (s : ℕ) → Has c m (deliver language c m s)
    unfolding deliver
    has_delivered c m s = by (slice_get c.behaviours m.target)
      where
        by : (o : Option (Behaviour L)) → Has c m (delivered language c m s o)
        by None = tt
        by (Some (Device n)) = has_printed c m (piece n m.value)
        by (Some (Answers v)) = has_response c m (respond language m.target (length c.behaviours) s v m.value no_effects s)

    pub moves : (c : Configuration L) (m : Message L) (e : Ending) (d : Configuration L) → Leads language c m e d → Moves c m d
    moves c m Commits d x = subst (Has c m) x.1 (has_delivered c m x.0)
    moves c m (FailsWith code) d x = subst (Has c m) x.2 (has_delivered c m x.0)
    moves c m RunsOut d x = subst (Moves c m) (sym x) (goes c m c.output)

  -- ---- lists

  every_without : (P : Message L → Type 0) (n : ℕ) (ps : List (Message L)) → Every P ps → Every (λ q. P q × (q.number ≡ n → ⊥)) (without n ps)
  every_without P n [] h = tt
  every_without P n (p ∷ ps) h =
      let r = every_without P n ps h.1 in
      ⊎_elim (λ t. rw t.0 r) (λ f. rw f.0 ((h.0, f.1), r)) (tested p.number n)

  every_numbered : (n : ℕ) (xs : List (ℕ × Value L)) → Every (λ (q : Message L). (n ≤ q.number) × (q.number < n + length xs)) (numbered_from n xs)
  every_numbered n [] = tt
  every_numbered n (x ∷ xs) =
      ((omega arith, omega arith), every-map (λ (q : Message L). (suc n ≤ q.number) × (q.number < suc n + length xs)) (λ (q : Message L). (n ≤ q.number) × (q.number < n + suc (length xs))) (numbered_from (suc n) xs) (λ q h. (omega (arith, h.0), omega (arith, h.1))) (every_numbered (suc n) xs))

  pub found_number : (n : ℕ) (ps : List (Message L)) (p : Message L) → message_of n ps ≡ Some p → p.number ≡ n
  found_number n [] p e = absurd (none-some p e)
  found_number n (q ∷ ps) p e =
      ⊎_elim
      (λ t. ap (λ (x : Message L). x.number) (sym (same_Some q p (rw t.0 at e))) ∙ t.1)
      (λ f. found_number n ps p (rw f.0 at e))
      (tested q.number n)

  pub found_every : (P : Message L → Type 0) (n : ℕ) (ps : List (Message L)) (p : Message L) → Every P ps → message_of n ps ≡ Some p → P p
  found_every P n [] p h e = absurd (none-some p e)
  found_every P n (q ∷ ps) p h e =
      ⊎_elim
      (λ t. subst P (same_Some q p (rw t.0 at e)) h.0)
      (λ f. found_every P n ps p h.1 (rw f.0 at e))
      (tested q.number n)

  -- ---- a message that is gone does not come again

  none_without : (k n : ℕ) (ps : List (Message L)) → message_of k ps ≡ None → message_of k (without n ps) ≡ None
  none_without k n [] e = e
  none_without k n (p ∷ ps) e =
      ⊎_elim
      (λ t. absurd (none-some p (sym (rw t.0 at e))))
      (λ f.
      let r = none_without k n ps (rw f.0 at e) in
      ⊎_elim (λ t. rw t.0 r) (λ g. rw (g.0, f.0) r) (tested p.number n))
      (tested p.number k)

  gone_without : (n : ℕ) (ps : List (Message L)) → message_of n (without n ps) ≡ None
  gone_without n [] = refl
  gone_without n (p ∷ ps) = ⊎_elim (λ t. rw t.0 (gone_without n ps)) (λ f. rw (f.0, f.0) (gone_without n ps)) (tested p.number n)

  none_append : (k : ℕ) (ps qs : List (Message L)) → message_of k ps ≡ None → message_of k qs ≡ None → message_of k (ps ++ qs) ≡ None
  none_append k [] qs e f = f
  none_append k (p ∷ ps) qs e f =
      ⊎_elim
      (λ t. absurd (none-some p (sym (rw t.0 at e))))
      (λ g. rw g.0 (none_append k ps qs (rw g.0 at e) f))
      (tested p.number k)

  none_numbered : (k n : ℕ) (xs : List (ℕ × Value L)) → k < n → message_of k (numbered_from n xs) ≡ None
  none_numbered k n [] l = refl
  none_numbered k n (x ∷ xs) l = rw (ne_eqb n k (λ e. absurd (omega (arith, l, e)))) (none_numbered k (suc n) xs (omega (arith, l)))

  -- the number was given, and no message of that number is pending
  pub record Gone (c : Configuration L) (k : ℕ) : Type 0 where
    pub none : message_of k c.pending ≡ None
    pub given : k < c.next_number

  pub gone_next : (c d : Configuration L) (m : Message L) (k : ℕ) → Moves c m d → Gone c k → Gone d k
  gone_next c d m k v g = record {
    none = ap (λ ps. message_of k ps) v.pending ∙ none_append k (without m.number c.pending) (numbered_from c.next_number v.sent) (none_without k m.number c.pending g.none) (none_numbered k c.next_number v.sent g.given);
    given = let n = v.next in let l = g.given in omega (arith, n, l);
  }

  pub gone_now : (c d : Configuration L) (m : Message L) → Moves c m d → m.number < c.next_number → Gone d m.number
  gone_now c d m v l = record {
    none = ap (λ ps. message_of m.number ps) v.pending ∙ none_append m.number (without m.number c.pending) (numbered_from c.next_number v.sent) (gone_without m.number c.pending) (none_numbered m.number c.next_number v.sent l);
    given = let n = v.next in omega (arith, n, l);
  }

  -- ---- all numbers were given

  abbrev pub Given : Configuration L → Type 0
  Given c = Every (λ (q : Message L). q.number < c.next_number) c.pending

  pub given_next : (c d : Configuration L) (m : Message L) → Moves c m d → Given c → Given d
  given_next c d m v g =
      let old = every-map (λ (q : Message L). (q.number < c.next_number) × (q.number ≡ m.number → ⊥)) (λ (q : Message L). q.number < d.next_number) (without m.number c.pending)
      (λ q h. let n = v.next in omega (arith, h.0, n)) (every_without (λ (q : Message L). q.number < c.next_number) m.number c.pending g) in
      let new = every-map (λ (q : Message L). (c.next_number ≤ q.number) × (q.number < c.next_number + length v.sent)) (λ (q : Message L). q.number < d.next_number) (numbered_from c.next_number v.sent)
      (λ q h. let n = v.next in omega (arith, h.1, n)) (every_numbered c.next_number v.sent) in
      subst (Every (λ (q : Message L). q.number < d.next_number)) (sym v.pending) (every-append (λ (q : Message L). q.number < d.next_number) (without m.number c.pending) (numbered_from c.next_number v.sent) old new)

  -- ---- those to one target

  -- all that are pending to that target, and all that come, have numbers above n
  record AllAbove (n t : ℕ) (c : Configuration L) : Type 0 where
    pub pending : Every (λ (q : Message L). q.target ≡ t → n < q.number) c.pending
    pub next : n < c.next_number

  above_next : (n t : ℕ) (c d : Configuration L) (m : Message L) → Moves c m d → AllAbove n t c → AllAbove n t d
  above_next n t c d m v a =
      let old = every-map (λ (q : Message L). (q.target ≡ t → n < q.number) × (q.number ≡ m.number → ⊥)) (λ (q : Message L). q.target ≡ t → n < q.number) (without m.number c.pending)
      (λ q h. h.0) (every_without (λ (q : Message L). q.target ≡ t → n < q.number) m.number c.pending a.pending) in
      let new = every-map (λ (q : Message L). (c.next_number ≤ q.number) × (q.number < c.next_number + length v.sent)) (λ (q : Message L). q.target ≡ t → n < q.number) (numbered_from c.next_number v.sent)
      (λ q h e. let k = a.next in omega (arith, h.0, k)) (every_numbered c.next_number v.sent) in
      record {
        pending = subst (Every (λ (q : Message L). q.target ≡ t → n < q.number)) (sym v.pending) (every-append (λ (q : Message L). q.target ≡ t → n < q.number) (without m.number c.pending) (numbered_from c.next_number v.sent) old new);
        next = let k = a.next in let e = v.next in omega (arith, k, e);
      }

  module _ (language : Language L) (lanes : ℕ) where
    above : (n t : ℕ) (c : Configuration L) (es : List Entry) (d : Configuration L) → (f : Follows language c es d) → AllAbove n t c → LaterOnesAreGreater language n t c es d f
    above n t c [] d f a = tt
    above n t c (e ∷ es) d f a =
        let m = f.1.message in (
          (λ q. let k = found_every (λ (x : Message L). x.target ≡ t → n < x.number) e.message c.pending m a.pending f.1.pending q in let s = found_number e.message c.pending m f.1.pending in omega (arith, k, s)),
          above n t f.0 es d f.2 (above_next n t c f.0 m (moves language c m e.ending f.0 f.1.leads) a),
        )

    begins_above : (c d : Configuration L) (m : Message L) (k : ℕ) → m.number ≡ k → m.number < c.next_number → IsItsTurn lanes c m → Moves c m d → AllAbove k m.target d
    begins_above c d m k e less o v =
        let least : Every (λ (q : Message L). q.target ≡ m.target → m.number ≤ q.number) c.pending = every_by (λ (q : Message L). q.target ≡ m.target → m.number ≤ q.number) c.pending (λ i q at t. o.to_its_target q.number (q, i, at, refl, t)) in
        let old = every-map (λ (q : Message L). (q.target ≡ m.target → m.number ≤ q.number) × (q.number ≡ m.number → ⊥)) (λ (q : Message L). q.target ≡ m.target → k < q.number) (without m.number c.pending)
        (λ q h x. let a = h.0 x in let b : k ≡ q.number → ⊥ = λ y. h.1 (sym y ∙ sym e) in omega (arith, a, b, e)) (every_without (λ (q : Message L). q.target ≡ m.target → m.number ≤ q.number) m.number c.pending least) in
        let new = every-map (λ (q : Message L). (c.next_number ≤ q.number) × (q.number < c.next_number + length v.sent)) (λ (q : Message L). q.target ≡ m.target → k < q.number) (numbered_from c.next_number v.sent)
        (λ q h x. omega (arith, h.0, e, less)) (every_numbered c.next_number v.sent) in
        record {
          pending = subst (Every (λ (q : Message L). q.target ≡ m.target → k < q.number)) (sym v.pending) (every-append (λ (q : Message L). q.target ≡ m.target → k < q.number) (without m.number c.pending) (numbered_from c.next_number v.sent) old new);
          next = let n = v.next in omega (arith, e, less, n);
        }

    pub in_order : (c : Configuration L) (es : List Entry) (d : Configuration L) → (f : Follows language c es d) → IsLegal language lanes c es d f → Given c → InOrderOfNumbers language c es d f
    in_order c [] d f o g = tt
    in_order c (e ∷ es) d f o g =
        let m = f.1.message in
        let v = moves language c m e.ending f.0 f.1.leads in
        let less = found_every (λ (q : Message L). q.number < c.next_number) e.message c.pending m g f.1.pending in
        let same = found_number e.message c.pending m f.1.pending in (
          above e.message m.target f.0 es d f.2 (begins_above c f.0 m e.message same less o.0 v),
          in_order f.0 es d f.2 o.1 (given_next c f.0 m v g),
        )

  -- ---- one lane

  -- the pending messages have the numbers k, k + 1 and so on, up to the next number
  abbrev pub Contiguous : (k next : ℕ) → List (Message L) → Type 0
  Contiguous k next [] = k ≡ next
  Contiguous k next (p ∷ ps) = (p.number ≡ k) × Contiguous (suc k) next ps

  contiguous_from : (k next : ℕ) (ps : List (Message L)) → Contiguous k next ps → Every (λ (q : Message L). k ≤ q.number) ps
  contiguous_from k next [] h = tt
  contiguous_from k next (p ∷ ps) h =
      (let e = h.0 in omega (arith, e), every-map (λ (q : Message L). suc k ≤ q.number) (λ (q : Message L). k ≤ q.number) ps (λ q l. omega (arith, l)) (contiguous_from (suc k) next ps h.1))

  without_none : (n : ℕ) (ps : List (Message L)) → Every (λ (q : Message L). q.number ≡ n → ⊥) ps → without n ps ≡ ps
  without_none n [] h = refl
  without_none n (p ∷ ps) h = rw (ne_eqb p.number n h.0) (ap (λ xs. p ∷ xs) (without_none n ps h.1))

  contiguous_append : (k next : ℕ) (ps : List (Message L)) (xs : List (ℕ × Value L)) → Contiguous k next ps → Contiguous k (next + length xs) (ps ++ numbered_from next xs)
  contiguous_append k next [] xs h = subst (λ n. Contiguous n (next + length xs) (numbered_from next xs)) (sym h) (fresh next xs)
    where
      fresh : (n : ℕ) (ys : List (ℕ × Value L)) → Contiguous n (n + length ys) (numbered_from n ys)
      fresh n [] = omega arith
      fresh n (y ∷ ys) = (refl, let e : suc n + length ys ≡ n + suc (length ys) = omega arith in subst (λ j. Contiguous (suc n) j (numbered_from (suc n) ys)) e (fresh (suc n) ys))
  contiguous_append k next (p ∷ ps) xs h = (h.0, contiguous_append (suc k) next ps xs h.1)

  pub contiguous_next : (k : ℕ) (c d : Configuration L) (m : Message L) (n : ℕ) → m.number ≡ k → message_of n c.pending ≡ Some m → Moves c m d → Contiguous k c.next_number c.pending → Contiguous (suc k) d.next_number d.pending
  contiguous_next k c d m n e found v h =
      subst (λ j. Contiguous (suc k) j d.pending) (sym v.next)
      (subst (Contiguous (suc k) (c.next_number + length v.sent)) (sym v.pending) (by c.pending h found))
    where
      by : (ps : List (Message L)) → Contiguous k c.next_number ps → message_of n ps ≡ Some m → Contiguous (suc k) (c.next_number + length v.sent) (without m.number ps ++ numbered_from c.next_number v.sent)
      by [] x f = absurd (none-some m f)
      by (p ∷ ps) x f =
          let rest = without_none m.number ps (every-map (λ (q : Message L). suc k ≤ q.number) (λ (q : Message L). q.number ≡ m.number → ⊥) ps (λ q l y. absurd (omega (arith, l, y, e))) (contiguous_from (suc k) c.next_number ps x.1)) in
          rw (eq-eqb p.number m.number (x.0 ∙ sym e)) (subst (λ qs. Contiguous (suc k) (c.next_number + length v.sent) (qs ++ numbered_from c.next_number v.sent)) (sym rest) (contiguous_append (suc k) c.next_number ps v.sent x.1))

  pub least_is : (k next : ℕ) (c : Configuration L) (m : Message L) (n : ℕ) → Contiguous k next c.pending → message_of n c.pending ≡ Some m
      → ((number target : ℕ) → IsPending c number target → m.number ≤ number) → m.number ≡ k
  least_is k next c m n h found f = by c.pending h found (λ i q at. f q.number q.target (q, i, at, refl, refl))
    where
      by : (ps : List (Message L)) → Contiguous k next ps → message_of n ps ≡ Some m → ((i : ℕ) (q : Message L) → slice_get ps i ≡ Some q → m.number ≤ q.number) → m.number ≡ k
      by [] x e g = absurd (none-some m e)
      by (p ∷ ps) x e g =
          let a = g zero p refl in
          let b = found_every (λ (q : Message L). k ≤ q.number) n (p ∷ ps) m (contiguous_from k next (p ∷ ps) x) e in
          let y = x.0 in
          omega (arith, a, b, y)

  module _ (language : Language L) (lanes : ℕ) (one : lanes ≡ 1) where
    pub counted : (k : ℕ) (c : Configuration L) (es : List Entry) (d : Configuration L) → (f : Follows language c es d) → IsLegal language lanes c es d f
        → Contiguous k c.next_number c.pending → NumberedFrom k es
    counted k c [] d f o h = tt
    counted k c (e ∷ es) d f o h =
        let m = f.1.message in
        let is = least_is k c.next_number c m e.message h f.1.pending (o.0.of_all one) in (
          sym (found_number e.message c.pending m f.1.pending) ∙ is,
          counted (suc k) f.0 es d f.2 o.1 (contiguous_next k c f.0 m e.message is f.1.pending (moves language c m e.ending f.0 f.1.leads) h),
        )
