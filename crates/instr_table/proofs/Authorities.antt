-- After an instruction an event gets at nothing but what it got at before and what the instruction made.
use Rattle.std.proofs.Common.{◌≡◌, ℕ, zero, suc, ◌+◌, ◌-◌, ◌<◌, ◌≤◌, Bool, true, false, List, [], ◌∷◌, ◌++◌, length, drop, Option, Some, None, refl, sym, ◌∙◌, ap, subst, inl, inr, ◌⊎◌, arith, if◌then◌else◌, IsTrue, length-append, append_assoc, append-nil, nat_lt, slice_get}
use Rattle.std.proofs.lemmas.Option.{slice_get_within}
use Rattle.cap_words.specs.declared.word.Quad.{Quad}
use Rattle.cap_words.specs.Words.{W, Fix, Rom, Ram, Cap, same_word}
use Rattle.cap_words.specs.Store.{rom_cell}
use Rattle.cap_words.specs.Seen.{Seen, Slot, OpenSlot, ActorSlot, UnbornSlot, EventSlot, SponsorSlot, SpentSlot, cell_seen, open_in, grown}
use Rattle.cap_words.proofs.Places.{get-left}
use Rattle.cap_words.proofs.Same.{word_is}
use Rattle.instr_table.specs.declared.op.Op.{Op}
use Rattle.instr_table.specs.Code.{operation, with_next, fetched_in}
use Rattle.instr_table.specs.Spelling.{spelling}
use Rattle.instr_table.specs.Lists.{next_quad, pair_quad}
use Rattle.instr_table.specs.Event.{Own, Made, Sent, Behaviour, Effects, Effect, Nothing, Sends, Creates, Assigns, Becomes, Sponsors, Grants, Reclaims, Starts, Stops, with_effect, reassigned}
use Rattle.instr_table.specs.Sheet.{Account}
use Rattle.instr_table.specs.Outcome.{Going}
use Rattle.instr_table.specs.Row.{row_at}
use Rattle.instr_table.specs.Lane.{Item, Lane, values, top_at, push_one, push_all, after_going, lane_row, gone}
use Rattle.instr_table.specs.Reach.{Every, words_of, Reached, given, inside, IsPlain, IsOpaque, Reach, Got, plain, reached, is_made, Known, got, new, made_now}
use Rattle.instr_table.specs.Laws.{CellKnown, IsUnder, EffectKnown, KeepsTo, HandsOn}
use Rattle.instr_table.specs.Authority.{created_words, sponsor_words, sent_words, behaviour_words, effects_words, lane_words, IsTaken, SlotTaken, ImageCell, ItemTaken, AllTaken, IsMadeBy, KeepsAuthority}
use Rattle.instr_table.proofs.Spellings.{spells}
use Rattle.instr_table.proofs.GotWords.{every-append, every-drop, every-map, every-of, of-every, plain-cell, words-read, got-fix}
use Rattle.instr_table.proofs.KnownWords.{row-hands}

-- ---- lists

some_is : {A : Type 0} {x y : A} → Some x ≡ Some y → x ≡ y
some_is h = cc

pub every-get : {A : Type 0} (P : A → Type 0) (xs : List A) (n : ℕ) (x : A) → Every P xs → slice_get xs n ≡ Some x → P x
every-get P [] n x e h = cc
every-get P (y ∷ xs) zero x e h = subst P (some_is h) e.0
every-get P (y ∷ xs) (suc n) x e h = every-get P xs n x e.1 h

every-left : {A : Type 0} (P : A → Type 0) (xs ys : List A) → Every P (xs ++ ys) → Every P xs
every-left P [] ys e = tt
every-left P (x ∷ xs) ys e = (e.0, every-left P xs ys e.1)

every-right : {A : Type 0} (P : A → Type 0) (xs ys : List A) → Every P (xs ++ ys) → Every P ys
every-right P [] ys e = e
every-right P (x ∷ xs) ys e = every-right P xs ys e.1

get-right : {A : Type 0} (xs ys : List A) (i : ℕ) → slice_get (xs ++ ys) (length xs + i) ≡ slice_get ys i
get-right [] ys i = let e : 0 + i ≡ i = omega arith in ap (λ (k : ℕ). slice_get ys k) e
get-right (x ∷ xs) ys i = let e : suc (length xs) + i ≡ suc (length xs + i) = omega arith in rw e (get-right xs ys i)

-- ---- what a bigger store shows

module _ (s : Seen) (made more : List Slot) (ws : List W) (payer : W) where
  abbrev after : Seen
  after = grown (grown s made) more

  -- a cell that stands is read as before
  cell-before : (w : W) → IsTaken (next_quad s) w → cell_seen after w ≡ cell_seen s w
  cell-before (Fix n) h = refl
  cell-before (Rom n) h = refl
  cell-before (Ram n) h =
      let l = length-append s.slots made in
      ap open_in (get-left (s.slots ++ made) more n (omega arith) ∙ get-left s.slots made n h)
  cell-before (Cap n) h = refl

  open-known : (o : Option Slot) (q : Quad) → ((slot : Slot) → o ≡ Some slot → CellKnown s made ws payer slot) → open_in o ≡ Some q → Every (Known s made ws) (words_of q)
  open-known None q f h = cc
  open-known (Some (OpenSlot p)) q f h = subst (λ (x : Quad). Every (Known s made ws) (words_of x)) (some_is h) (f (OpenSlot p) refl)
  open-known (Some (ActorSlot a b c)) q f h = cc
  open-known (Some UnbornSlot) q f h = cc
  open-known (Some (EventSlot a b c)) q f h = cc
  open-known (Some SponsorSlot) q f h = cc
  open-known (Some SpentSlot) q f h = cc

  module _ (taken : (w : W) → Reached s ws w → IsTaken (next_quad s) w) (cells : Every (CellKnown s made ws payer) made) where
    cell-known : (w : W) (q : Quad) → Known s made ws w → cell_seen after w ≡ Some q → Every (Known s made ws) (words_of q)
    cell-known w q (got (plain h)) e = let n : cell_seen after w ≡ None = plain-cell after w h in absurd cc
    cell-known w q (got (reached r)) e =
        let f : cell_seen s w ≡ Some q = sym (cell-before w (taken w r)) ∙ e in
        every-of (Known s made ws) (words_of q) (λ v a. got (reached (inside r f a)))
    cell-known w q (new {n} low high) e =
        let i = n - next_quad s in
        let l = length-append s.slots made in
        let p : n ≡ next_quad s + i = omega arith in
        let g : slice_get after.slots n ≡ slice_get made i = get-left (s.slots ++ made) more n (omega arith) ∙ (ap (λ (k : ℕ). slice_get (s.slots ++ made) k) p ∙ get-right s.slots made i) in
        open-known (slice_get made i) q (λ slot h. every-get (CellKnown s made ws payer) made i slot cells h) (sym (ap open_in g) ∙ e)
    cell-known w q (made_now i p h) e = cc

    reached-known : (vs : List W) → Every (Known s made ws) vs → (w : W) → Reached after vs w → Known s made ws w
    reached-known vs k w (given a) = of-every (Known s made ws) w vs k a
    reached-known vs k w (inside {w = u} {q = q} r e a) = of-every (Known s made ws) w (words_of q) (cell-known u q (reached-known vs k u r) e) a

plain-opaque : (w : W) → IsPlain w → IsOpaque w → ⊥
plain-opaque (Fix n) p o = o
plain-opaque (Rom n) p o = o
plain-opaque (Ram n) p o = o
plain-opaque (Cap n) p o = p

-- ---- a word that is known before an instruction names a quad that is taken after it

taken-more : (m n : ℕ) (w : W) → m ≤ n → IsTaken m w → IsTaken n w
taken-more m n (Fix z) h t = tt
taken-more m n (Rom k) h t = tt
taken-more m n (Ram k) h t = omega arith
taken-more m n (Cap k) h t = omega arith

slot-more : (m n : ℕ) (slot : Slot) → m ≤ n → SlotTaken m slot → SlotTaken n slot
slot-more m n (OpenSlot q) h t = every-map (IsTaken m) (IsTaken n) (words_of q) (λ w k. taken-more m n w h k) t
slot-more m n (ActorSlot a b c) h t = (taken-more m n a h t.0, taken-more m n b h t.1)
slot-more m n UnbornSlot h t = tt
slot-more m n (EventSlot a b c) h t = (taken-more m n a h t.0, taken-more m n b h t.1, taken-more m n c h t.2)
slot-more m n SponsorSlot h t = tt
slot-more m n SpentSlot h t = tt

item-more : (m n : ℕ) (i : Item) → m ≤ n → ItemTaken m i → ItemTaken n i
item-more m n i h t = (taken-more m n i.value h t.0, taken-more m n i.at h t.1)

rom-taken : (rom : List Quad) (n k : ℕ) (q : Quad) → Every ImageCell rom → rom_cell rom k ≡ Some q → Every (IsTaken n) (words_of q)
rom-taken rom n k q e h = from (nat_lt k 16) h
  where
    from : (b : Bool) → (if b then None else slice_get rom (k - 16)) ≡ Some q → Every (IsTaken n) (words_of q)
    from true g = cc
    from false g = every-map (IsTaken 0) (IsTaken n) (words_of q) (λ w t. taken-more 0 n w (omega arith) t) (every-get ImageCell rom (k - 16) q e g)

slot-words : (n : ℕ) (o : Option Slot) (q : Quad) → ((slot : Slot) → o ≡ Some slot → SlotTaken n slot) → open_in o ≡ Some q → Every (IsTaken n) (words_of q)
slot-words n None q f h = cc
slot-words n (Some (OpenSlot p)) q f h = subst (λ (x : Quad). Every (IsTaken n) (words_of x)) (some_is h) (f (OpenSlot p) refl)
slot-words n (Some (ActorSlot a b c)) q f h = cc
slot-words n (Some UnbornSlot) q f h = cc
slot-words n (Some (EventSlot a b c)) q f h = cc
slot-words n (Some SponsorSlot) q f h = cc
slot-words n (Some SpentSlot) q f h = cc

module _ (s : Seen) (ws : List W) (image : Every ImageCell s.rom) (cells : Every (SlotTaken (next_quad s)) s.slots) (words : Every (IsTaken (next_quad s)) ws) where
  cell-taken : (w : W) (q : Quad) → cell_seen s w ≡ Some q → Every (IsTaken (next_quad s)) (words_of q)
  cell-taken (Fix n) q e = cc
  cell-taken (Rom n) q e = rom-taken s.rom (next_quad s) n q image e
  cell-taken (Ram n) q e = slot-words (next_quad s) (slice_get s.slots n) q (λ slot h. every-get (SlotTaken (next_quad s)) s.slots n slot cells h) e
  cell-taken (Cap n) q e = cc

  reached-taken : (w : W) → Reached s ws w → IsTaken (next_quad s) w
  reached-taken w (given a) = of-every (IsTaken (next_quad s)) w ws words a
  reached-taken w (inside {w = u} {q = q} r e a) = of-every (IsTaken (next_quad s)) w (words_of q) (cell-taken u q e) a

  plain-taken : (n : ℕ) (w : W) → IsPlain w → IsTaken n w
  plain-taken n (Fix z) h = tt
  plain-taken n (Rom k) h = tt
  plain-taken n (Ram k) h = absurd h
  plain-taken n (Cap k) h = absurd h

  made-within : (made : List Slot) (i : ℕ) → IsTrue (is_made (slice_get made i)) → i < length made
  made-within made i h = from (slice_get made i) (λ x e. slice_get_within made i x e) h
    where
      from : (o : Option Slot) → ((x : Slot) → o ≡ Some x → i < length made) → IsTrue (is_made o) → i < length made
      from None f g = cc
      from (Some x) f g = f x refl

  known-taken : (made : List Slot) (w : W) → Known s made ws w → IsTaken (next_quad s + length made) w
  known-taken made w (got (plain h)) = plain-taken _ w h
  known-taken made w (got (reached r)) = taken-more (next_quad s) _ w (omega arith) (reached-taken w r)
  known-taken made w (new low high) = high
  known-taken made w (made_now i p h) = let l = made-within made i h in omega arith

  under-taken : (made : List Slot) (payer w : W) → IsTaken (next_quad s) payer → IsUnder s made ws payer w → IsTaken (next_quad s + length made) w
  under-taken made payer w p (inl e) = subst (IsTaken (next_quad s + length made)) (sym e) (taken-more (next_quad s) _ payer (omega arith) p)
  under-taken made payer w p (inr k) = known-taken made w k

  made-taken : (made : List Slot) (payer : W) → IsTaken (next_quad s) payer → (slot : Slot) → CellKnown s made ws payer slot → SlotTaken (next_quad s + length made) slot
  made-taken made payer p (OpenSlot q) h = every-map (Known s made ws) (IsTaken (next_quad s + length made)) (words_of q) (λ w k. known-taken made w k) h
  made-taken made payer p (ActorSlot a b c) h = absurd h
  made-taken made payer p UnbornSlot h = tt
  made-taken made payer p (EventSlot a b c) h = (under-taken made payer a p h.0, known-taken made b h.1, known-taken made c h.2)
  made-taken made payer p SponsorSlot h = tt
  made-taken made payer p SpentSlot h = tt

-- ---- the record

module _ (P : W → Type 0) (payer : W) where
  sponsor-words : (w : W) → (w ≡ payer) ⊎ P w → Every P (sponsor_words payer w)
  sponsor-words w (inl e) = rw (e, word_is payer) tt
  sponsor-words w (inr p) = from (same_word w payer)
    where
      from : (b : Bool) → Every P (if b then [] else w ∷ [])
      from true = tt
      from false = (p, tt)

  sent-more : (ms : List Sent) (m : Sent) → Every P (sent_words payer ms) → Every P (sent_words payer (m ∷ [])) → Every P (sent_words payer (ms ++ m ∷ []))
  sent-more [] m e f = f
  sent-more (x ∷ ms) m e f =
      (e.0, (e.1.0, every-append P (sponsor_words payer x.sponsor) (sent_words payer (ms ++ m ∷ [])) (every-left P _ _ e.1.1) (sent-more ms m (every-right P (sponsor_words payer x.sponsor) _ e.1.1) f)))

  created-more : (ms : List Made) (m : Made) → Every P (created_words ms) → P m.actor × P m.state × P m.code → Every P (created_words (ms ++ m ∷ []))
  created-more [] m e f = (f.0, (f.1, (f.2, tt)))
  created-more (x ∷ ms) m e f = (e.0, (e.1.0, (e.1.1.0, created-more ms m e.1.1.1 f)))

  reassigned-words : (ms : List Made) (m : Made) → Every P (created_words ms) → P m.actor × P m.state × P m.code → Every P (created_words (reassigned m ms))
  reassigned-words [] m e f = tt
  reassigned-words (x ∷ ms) m e f = from (same_word x.actor m.actor) (reassigned-words ms m e.1.1.1 f)
    where
      from : (b : Bool) → Every P (created_words (reassigned m ms)) → Every P (created_words (if b then m ∷ ms else x ∷ reassigned m ms))
      from true h = (f.0, (f.1, (f.2, e.1.1.1)))
      from false h = (e.0, (e.1.0, (e.1.1.0, h)))

  joined : (e : Effects) → Every P (created_words e.created) → Every P (sent_words payer e.sent) → Every P (behaviour_words e.next) → Every P (effects_words payer e)
  joined e a b c = every-append P (created_words e.created) (sent_words payer e.sent ++ behaviour_words e.next) a (every-append P (sent_words payer e.sent) (behaviour_words e.next) b c)

  module _ (e : Effects) (h : Every P (effects_words payer e)) where
    in_created : Every P (created_words e.created)
    in_created = every-left P _ _ h

    in_sent : Every P (sent_words payer e.sent)
    in_sent = every-left P _ _ (every-right P (created_words e.created) _ h)

    in_next : Every P (behaviour_words e.next)
    in_next = every-right P (sent_words payer e.sent) _ (every-right P (created_words e.created) _ h)

    sends-words : (m : Sent) → (m.sponsor ≡ payer) ⊎ P m.sponsor → P m.target → P m.content → Every P (effects_words payer (with_effect e (Sends m)))
    sends-words m p t c =
        joined (with_effect e (Sends m)) in_created (sent-more e.sent m in_sent (t, (c, every-append P (sponsor_words payer m.sponsor) [] (sponsor-words m.sponsor p) tt))) in_next

    creates-words : (m : Made) → P m.actor × P m.state × P m.code → Every P (effects_words payer (with_effect e (Creates m)))
    creates-words m f = joined (with_effect e (Creates m)) (created-more e.created m in_created f) in_sent in_next

    assigns-words : (m : Made) → P m.actor × P m.state × P m.code → Every P (effects_words payer (with_effect e (Assigns m)))
    assigns-words m f = joined (with_effect e (Assigns m)) (reassigned-words e.created m in_created f) in_sent in_next

    becomes-words : (b : Behaviour) → P b.state → P b.code → Every P (effects_words payer (with_effect e (Becomes b)))
    becomes-words b s c = joined (with_effect e (Becomes b)) in_created in_sent (s, (c, tt))

effect-known : (s : Seen) (made : List Slot) (ws : List W) (payer : W) (e : Effects) (x : Effect) → Every (Known s made ws) (effects_words payer e) → EffectKnown s made ws payer x → Every (Known s made ws) (effects_words payer (with_effect e x))
effect-known s made ws payer e Nothing h k = h
effect-known s made ws payer e (Sends m) h k = sends-words (Known s made ws) payer e h m k.1 k.2 k.3
effect-known s made ws payer e (Creates m) h k = creates-words (Known s made ws) payer e h m k
effect-known s made ws payer e (Assigns m) h k = assigns-words (Known s made ws) payer e h m k
effect-known s made ws payer e (Becomes b) h k = becomes-words (Known s made ws) payer e h b k.0 k.1
effect-known s made ws payer e (Sponsors w) h k = h
effect-known s made ws payer e (Grants w kind n) h k = h
effect-known s made ws payer e (Reclaims w) h k = h
effect-known s made ws payer e (Starts w signal) h k = h
effect-known s made ws payer e (Stops w) h k = h

-- ---- the row of a lane

module _ (s : Seen) (ws : List W) (own : Own) (sheet : List Account) (e : Effects) (vs : List W) where
  module _ (g : Every (Got s ws) vs) (a : Got s ws own.actor) (c : Got s ws own.code) (t : Got s ws own.state) (m : Got s ws own.message) where
    spelled-hands : (q : Quad) (o : Option Op) → operation q ≡ o → Every (Got s ws) (words_of q) → HandsOn s ws own.sponsor (row_at own (with_next o q.z) s sheet e vs).outcome
    spelled-hands q None h w = got (got-fix s ws _)
    spelled-hands q (Some op) h w =
        let y : q.y ≡ (spelling op).1 = ap (λ (x : Quad). x.y) (spells q op h).1 in
        row-hands s ws own.sponsor own sheet e vs q.z g w.1.1.1.0 refl op (subst (Got s ws) y w.1.1.0) a c t m

    fetched-hands : (o : Option Quad) → ((q : Quad) → o ≡ Some q → Every (Got s ws) (words_of q)) → HandsOn s ws own.sponsor (row_at own (fetched_in o) s sheet e vs).outcome
    fetched-hands None w = got (got-fix s ws _)
    fetched-hands (Some q) w = spelled-hands q (operation q) refl (w q refl)

lane-hands : (s : Seen) (sheet : List Account) (l : Lane) → HandsOn s (lane_words l) l.own.sponsor (lane_row s sheet l).outcome
lane-hands s sheet l =
    let ws = lane_words l in
    let all : Every (Got s ws) ws = every-of (Got s ws) ws (λ w a. reached (given a)) in
    let vs = every-left (Got s ws) (values l.stack) (effects_words l.own.sponsor l.effects) all.1.1.1.1.1 in
    fetched-hands s ws l.own sheet l.effects (values l.stack) vs all.1.0 all.1.1.0 all.1.1.1.0 all.1.1.1.1.0 (cell_seen s l.code) (words-read s ws l.code all.0)

-- ---- the stack

pushed-values : (P : W → Type 0) (p : Seen × List Item) (vs : List W) → Every P (values p.1) → Every P vs → Every P (values (push_all p vs).1)
pushed-values P p [] h g = h
pushed-values P p (v ∷ vs) h g = pushed-values P (push_one p v) vs (g.0, h) g.1

dropped-values : (P : W → Type 0) (n : ℕ) (is : List Item) → Every P (values is) → Every P (values (drop n is))
dropped-values P zero is h = h
dropped-values P (suc n) [] h = tt
dropped-values P (suc n) (i ∷ is) h = dropped-values P n is h.1

pub pushed-store : (p : Seen × List Item) (vs : List W) → (cells : List Slot) × ((push_all p vs).0 ≡ grown p.0 cells)
pushed-store p [] = ([], ap (λ (xs : List Slot). record p.0 { slots = xs }) (sym (append-nil p.0.slots)))
pushed-store p (v ∷ vs) =
    let h = pushed-store (push_one p v) vs in
    (OpenSlot (pair_quad v (top_at p.1)) ∷ h.0, h.1 ∙ ap (λ (xs : List Slot). record p.0 { slots = xs }) (append_assoc p.0.slots (OpenSlot (pair_quad v (top_at p.1)) ∷ []) h.0))

-- each RAM word of a store and of a stack names a quad that is taken
record StackTaken (s : Seen) (is : List Item) : Type 0 where
  cells : Every (SlotTaken (next_quad s)) s.slots
  stack : Every (ItemTaken (next_quad s)) is

top-taken : (n : ℕ) (is : List Item) → Every (ItemTaken n) is → IsTaken n (top_at is)
top-taken n [] h = tt
top-taken n (i ∷ is) h = h.0.1

push-taken : (p : Seen × List Item) (v : W) → StackTaken p.0 p.1 → IsTaken (next_quad p.0) v → StackTaken (push_one p v).0 (push_one p v).1
push-taken p v h t =
    let n = next_quad p.0 in
    let m = next_quad (push_one p v).0 in
    let l = length-append p.0.slots (OpenSlot (pair_quad v (top_at p.1)) ∷ []) in
    let more : n ≤ m = omega arith in
    let at : n < m = omega arith in
    let value = taken-more n m v more t in
    record {
      cells = every-append (SlotTaken m) p.0.slots (OpenSlot (pair_quad v (top_at p.1)) ∷ []) (every-map (SlotTaken n) (SlotTaken m) p.0.slots (λ x k. slot-more n m x more k) h.cells) ((tt, (value, (taken-more n m (top_at p.1) more (top-taken n p.1 h.stack), (tt, tt)))), tt);
      stack = ((value, at), every-map (ItemTaken n) (ItemTaken m) p.1 (λ x k. item-more n m x more k) h.stack);
    }

pushed-taken : (p : Seen × List Item) (vs : List W) → StackTaken p.0 p.1 → Every (IsTaken (next_quad p.0)) vs → StackTaken (push_all p vs).0 (push_all p vs).1
pushed-taken p [] h t = h
pushed-taken p (v ∷ vs) h t =
    let n = next_quad p.0 in
    let m = next_quad (push_one p v).0 in
    let l = length-append p.0.slots (OpenSlot (pair_quad v (top_at p.1)) ∷ []) in
    let more : n ≤ m = omega arith in
    pushed-taken (push_one p v) vs (push-taken p v h t.0) (every-map (IsTaken n) (IsTaken m) vs (λ w k. taken-more n m w more k) t.1)

-- ---- one instruction

module _ (s : Seen) (l : Lane) (g : Going) (h : AllTaken s l) (k : KeepsTo s (lane_words l) l.own.sponsor g) where
  abbrev ws : List W
  ws = lane_words l

  abbrev next : Seen
  next = (after_going s l.stack g).0

  abbrev went : Lane
  went = gone s l g

  -- the words that the event has after it
  words-known : Every (Known s g.made ws) (lane_words went)
  words-known =
      let all : Every (Got s ws) ws = every-of (Got s ws) ws (λ w a. reached (given a)) in
      let old : Every (Known s g.made ws) ws = every-map (Got s ws) (Known s g.made ws) ws (λ w x. got x) all in
      let stack = pushed-values (Known s g.made ws) (grown s g.made, drop g.pops l.stack) g.pushed (dropped-values (Known s g.made ws) g.pops l.stack (every-left (Known s g.made ws) (values l.stack) (effects_words l.own.sponsor l.effects) old.1.1.1.1.1)) k.items in
      let record_words = effect-known s g.made ws l.own.sponsor l.effects g.effect (every-right (Known s g.made ws) (values l.stack) (effects_words l.own.sponsor l.effects) old.1.1.1.1.1) k.effect in
      (k.next, (old.1.0, (old.1.1.0, (old.1.1.1.0, (old.1.1.1.1.0, every-append (Known s g.made ws) (values went.stack) (effects_words l.own.sponsor went.effects) stack record_words)))))

  got-at : (w : W) → Reached s ws w → IsTaken (next_quad s) w
  got-at w r = reached-taken s ws h.image h.cells h.words.1 w r

  reach-known : (w : W) → Reached next (lane_words went) w → Known s g.made ws w
  reach-known w r =
      let p = pushed-store (grown s g.made, drop g.pops l.stack) g.pushed in
      reached-known s g.made p.0 ws l.own.sponsor got-at k.cells (lane_words went) words-known w (subst (λ (x : Seen). Reached x (lane_words went) w) p.1 r)

  from-known : (w : W) → IsOpaque w → Known s g.made ws w → Reach s ws w ⊎ IsMadeBy s g w
  from-known w o (got (plain p)) = absurd (plain-opaque w p o)
  from-known w o (got (reached r)) = inl (o, r)
  from-known (Ram n) o (new low high) = absurd o
  from-known (Cap n) o (made_now i e m) = inr (i, ap Cap e, m)

  -- the quads of the result, and then those of the stack
  made-all : StackTaken (grown s g.made) (drop g.pops l.stack)
  made-all =
      let e = length-append s.slots g.made in
      let m = next_quad (grown s g.made) in
      let up : next_quad s ≤ m = omega arith in
      let same : next_quad s + length g.made ≡ m = omega arith in
      record {
        cells = every-append (SlotTaken m) s.slots g.made (every-map (SlotTaken (next_quad s)) (SlotTaken m) s.slots (λ x t. slot-more (next_quad s) m x up t) h.cells) (subst (λ (n : ℕ). Every (SlotTaken n) g.made) same (every-map (CellKnown s g.made ws l.own.sponsor) (SlotTaken (next_quad s + length g.made)) g.made (made-taken s ws h.image h.cells h.words.1 g.made l.own.sponsor h.words.0) k.cells));
        stack = every-map (ItemTaken (next_quad s)) (ItemTaken m) (drop g.pops l.stack) (λ i t. item-more (next_quad s) m i up t) (every-drop (ItemTaken (next_quad s)) g.pops l.stack h.stack);
      }

  known-up : (n : ℕ) (vs : List W) → next_quad s + length g.made ≤ n → Every (Known s g.made ws) vs → Every (IsTaken n) vs
  known-up n vs up e = every-map (Known s g.made ws) (IsTaken n) vs (λ w x. taken-more (next_quad s + length g.made) n w up (known-taken s ws h.image h.cells h.words.1 g.made w x)) e

  taken-all : AllTaken next went
  taken-all =
      let e = length-append s.slots g.made in
      let p = pushed-store (grown s g.made, drop g.pops l.stack) g.pushed in
      let q = pushed-taken (grown s g.made, drop g.pops l.stack) g.pushed made-all (known-up (next_quad (grown s g.made)) g.pushed (omega arith) k.items) in
      let f : next_quad next ≡ length ((s.slots ++ g.made) ++ p.0) = ap next_quad p.1 in
      let d = length-append (s.slots ++ g.made) p.0 in
      let up : next_quad s + length g.made ≤ next_quad next = omega arith in
      record {
        image = subst (λ (x : Seen). Every ImageCell x.rom) (sym p.1) h.image;
        cells = q.cells;
        stack = q.stack;
        words = (taken-more (next_quad s) (next_quad next) l.own.sponsor (omega arith) h.words.0, known-up (next_quad next) (lane_words went) up words-known);
      }

pub keeps-authority : (s : Seen) (sheet : List Account) (l : Lane) → KeepsAuthority s sheet l
keeps-authority s sheet l g e h =
    let k : KeepsTo s (lane_words l) l.own.sponsor g = subst (HandsOn s (lane_words l) l.own.sponsor) e (lane-hands s sheet l) in
    (taken-all s l g h k, λ w r. from-known s l g h k w r.0 (reach-known s l g h k w r.1))
