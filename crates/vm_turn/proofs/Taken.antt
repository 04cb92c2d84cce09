-- Each word names a quad that is taken, and new cells add nothing to what such words reach.
use Rattle.std.proofs.Common.{◌≡◌, ℕ, zero, suc, ◌-◌, ◌≤◌, Bool, true, false, List, [], ◌∷◌, ◌++◌, Option, Some, None, refl, sym, ◌∙◌, ap, subst, arith, if◌then◌else◌, nat_lt, append_assoc, drop}
use Rattle.std.specs.Prelude.{slice_get, slice_set, remove}
use Rattle.cap_words.specs.declared.word.Quad.{Quad}
use Rattle.cap_words.specs.Words.{W, Fix, Rom, Ram, Cap, undef}
use Rattle.cap_words.specs.Store.{rom_cell, cap_place}
use Rattle.cap_words.specs.Seen.{Seen, Slot, OpenSlot, ActorSlot, UnbornSlot, EventSlot, SponsorSlot, SpentSlot, cell_seen, open_in, slot_seen, altered, grown}
use Rattle.cap_words.proofs.Places.{get-left}
use Rattle.instr_table.specs.Lists.{next_quad}
use Rattle.instr_table.specs.Event.{Made, Behaviour, Effects}
use Rattle.instr_table.specs.Outcome.{Going}
use Rattle.instr_table.specs.Lane.{Item, Lane, after_going}
use Rattle.instr_table.specs.Reach.{Every, words_of, Reached, given, inside}
use Rattle.instr_table.specs.Authority.{created_words, sent_words, behaviour_words, effects_words, lane_words, IsTaken, SlotTaken, ImageCell, ItemTaken}
use Rattle.instr_table.proofs.GotWords.{every-map, of-every}
use Rattle.instr_table.proofs.Authorities.{pushed-store}
use Rattle.vm_effects.specs.Actors.{all_idle}
use Rattle.vm_turn.specs.Actors.{sent_at, sent_in, behaviour_in, behaviour_at, at_actor, remade, refilled, with_content, busy, resting, settled}
use Rattle.vm_turn.specs.Authority.{LaneTaken}
use Rattle.vm_turn.proofs.Slots.{Alike}
use Rattle.vm_turn.proofs.Sums.{some_is}

-- ---- lists

pub every-get : {A : Type 0} (P : A → Type 0) (xs : List A) (n : ℕ) (x : A) → Every P xs → slice_get xs n ≡ Some x → P x
every-get P [] n x e h = cc
every-get P (y ∷ xs) zero x e h = subst P (some_is h) e.0
every-get P (y ∷ xs) (suc n) x e h = every-get P xs n x e.1 h

pub every-set : {A : Type 0} (P : A → Type 0) (xs : List A) (n : ℕ) (x : A) → Every P xs → P x → Every P (slice_set xs n x)
every-set P [] n x e p = tt
every-set P (y ∷ xs) zero x e p = (p, e.1)
every-set P (y ∷ xs) (suc n) x e p = (e.0, every-set P xs n x e.1 p)

pub every-removed : {A : Type 0} (P : A → Type 0) (xs : List A) (n : ℕ) → Every P xs → Every P (remove xs n)
every-removed P [] zero e = tt
every-removed P [] (suc n) e = tt
every-removed P (y ∷ xs) zero e = e.1
every-removed P (y ∷ xs) (suc n) e = (e.0, every-removed P xs n e.1)

pub every-left : {A : Type 0} (P : A → Type 0) (xs ys : List A) → Every P (xs ++ ys) → Every P xs
every-left P [] ys e = tt
every-left P (x ∷ xs) ys e = (e.0, every-left P xs ys e.1)

pub every-right : {A : Type 0} (P : A → Type 0) (xs ys : List A) → Every P (xs ++ ys) → Every P ys
every-right P [] ys e = e
every-right P (x ∷ xs) ys e = every-right P xs ys e.1

-- ---- more quads

pub taken-more : (m n : ℕ) (w : W) → m ≤ n → IsTaken m w → IsTaken n w
taken-more m n (Fix z) h t = tt
taken-more m n (Rom k) h t = tt
taken-more m n (Ram k) h t = omega arith
taken-more m n (Cap k) h t = omega arith

pub lane-more : (m n : ℕ) (l : Lane) → m ≤ n → LaneTaken m l → LaneTaken n l
lane-more m n l h t = record {
  stack = every-map (ItemTaken m) (ItemTaken n) l.stack (λ i k. (taken-more m n i.value h k.0, taken-more m n i.at h k.1)) t.stack;
  words = every-map (IsTaken m) (IsTaken n) (l.own.sponsor ∷ lane_words l) (λ w k. taken-more m n w h k) t.words;
}

-- ---- what taken words reach

rom-taken : (rom : List Quad) (n k : ℕ) (q : Quad) → Every ImageCell rom → rom_cell rom k ≡ Some q → Every (IsTaken n) (words_of q)
rom-taken rom n k q e h = from (nat_lt k 16) h
  where
    from : (b : Bool) → (if b then None else slice_get rom (k - 16)) ≡ Some q → Every (IsTaken n) (words_of q)
    from true g = cc
    from false g = every-map (IsTaken 0) (IsTaken n) (words_of q) (λ w t. taken-more 0 n w (omega arith) t) (every-get ImageCell rom (k - 16) q e g)

slot-words : (n : ℕ) (o : Option Slot) (q : Quad) → ((slot : Slot) → o ≡ Some slot → SlotTaken n slot) → open_in o ≡ Some q → Every (IsTaken n) (words_of q)
slot-words n None q f h = cc
slot-words n (Some (OpenSlot p)) q f h = subst (λ (x : Quad). Every (IsTaken n) (words_of x)) (some_is h) (f (OpenSlot p) refl)
slot-words n (Some (ActorSlot a b c)) q f h = cc
slot-words n (Some UnbornSlot) q f h = cc
slot-words n (Some (EventSlot a b c)) q f h = cc
slot-words n (Some SponsorSlot) q f h = cc
slot-words n (Some SpentSlot) q f h = cc

-- each readable cell under a word that is taken before was one before
abbrev pub Reads : Seen → Seen → Type 0
Reads s t = (w : W) (q : Quad) → IsTaken (next_quad s) w → cell_seen t w ≡ Some q → cell_seen s w ≡ Some q

module _ (s : Seen) (image : Every ImageCell s.rom) (cells : Every (SlotTaken (next_quad s)) s.slots) where
  cell-taken : (w : W) (q : Quad) → cell_seen s w ≡ Some q → Every (IsTaken (next_quad s)) (words_of q)
  cell-taken (Fix n) q e = cc
  cell-taken (Rom n) q e = rom-taken s.rom (next_quad s) n q image e
  cell-taken (Ram n) q e = slot-words (next_quad s) (slice_get s.slots n) q (λ slot h. every-get (SlotTaken (next_quad s)) s.slots n slot cells h) e
  cell-taken (Cap n) q e = cc

  reached-taken : (ws : List W) → Every (IsTaken (next_quad s)) ws → (w : W) → Reached s ws w → IsTaken (next_quad s) w
  reached-taken ws words w (given a) = of-every (IsTaken (next_quad s)) w ws words a
  reached-taken ws words w (inside {w = u} {q = q} r e a) = of-every (IsTaken (next_quad s)) w (words_of q) (cell-taken u q e) a

  -- what is reached after such a change was reached before
  pub reached-back : (t : Seen) (ws : List W) → Reads s t → Every (IsTaken (next_quad s)) ws → (w : W) → Reached t ws w → Reached s ws w
  reached-back t ws f words w (given a) = given a
  reached-back t ws f words w (inside {w = u} {q = q} r e a) =
      let b = reached-back t ws f words u r in
      inside b (f u q (reached-taken ws words u b) e) a

pub alike-reads : (s t : Seen) → Alike s t → Reads s t
alike-reads s t a (Fix n) q k h = cc
alike-reads s t a (Rom n) q k h = subst (λ (rom : List Quad). rom_cell rom n ≡ Some q) a.rom_is h
alike-reads s t a (Ram n) q k h = a.cells_of n q h
alike-reads s t a (Cap n) q k h = cc

grown-reads : (s : Seen) (more : List Slot) → Reads s (grown s more)
grown-reads s more (Fix n) q k h = cc
grown-reads s more (Rom n) q k h = h
grown-reads s more (Ram n) q k h = sym (ap open_in (get-left s.slots more n k)) ∙ h
grown-reads s more (Cap n) q k h = cc

-- an instruction takes quads alone
pub going-reads : (s : Seen) (is : List Item) (g : Going) → Reads s (after_going s is g).0
going-reads s is g =
    let p = pushed-store (grown s g.made, drop g.pops is) g.pushed in
    let e : (after_going s is g).0 ≡ grown s (g.made ++ p.0) = p.1 ∙ ap (λ (xs : List Slot). record s { slots = xs }) (append_assoc s.slots g.made p.0) in
    subst (λ (t : Seen). Reads s t) (sym e) (grown-reads s (g.made ++ p.0))

-- ---- quads that are changed

module _ (n : ℕ) where
  abbrev CellsTaken : Seen → Type 0
  CellsTaken s = Every (SlotTaken n) s.slots

  slot-taken : (s : Seen) (w : W) (x : Slot) → CellsTaken s → slot_seen s w ≡ Some x → SlotTaken n x
  slot-taken s (Fix k) x c h = cc
  slot-taken s (Rom k) x c h = cc
  slot-taken s (Ram k) x c h = cc
  slot-taken s (Cap k) x c h = every-get (SlotTaken n) s.slots k x c h

  actor-taken : (s : Seen) (w : W) (change : W → W → Slot) → CellsTaken s → ((code state : W) → IsTaken n code → IsTaken n state → SlotTaken n (change code state)) → CellsTaken (at_actor s w change)
  actor-taken s w change c f = by (slot_seen s w) (λ x h. slot-taken s w x c h)
    where
      by : (o : Option Slot) → ((x : Slot) → o ≡ Some x → SlotTaken n x) → CellsTaken (remade o change w s)
      by None g = c
      by (Some (OpenSlot q)) g = c
      by (Some (ActorSlot code state mark)) g = let k = g (ActorSlot code state mark) refl in every-set (SlotTaken n) s.slots (cap_place w) (change code state) c (f code state k.0 k.1)
      by (Some UnbornSlot) g = c
      by (Some (EventSlot x y m)) g = c
      by (Some SponsorSlot) g = c
      by (Some SpentSlot) g = c

  pub busy-taken : (s : Seen) (w : W) (number : ℕ) → CellsTaken s → CellsTaken (at_actor s w (busy number))
  busy-taken s w number c = actor-taken s w (busy number) c (λ code state a b. (a, b))

  resting-taken : (next : Option Behaviour) → Every (IsTaken n) (behaviour_words next) → (code state : W) → IsTaken n code → IsTaken n state → SlotTaken n (resting next code state)
  resting-taken None k code state a b = (a, b)
  resting-taken (Some x) k code state a b = (k.1.0, k.0)

  idle-taken : (s : Seen) (ms : List Made) → CellsTaken s → Every (IsTaken n) (created_words ms) → CellsTaken (all_idle s ms)
  idle-taken s [] c k = c
  idle-taken s (m ∷ ms) c k = idle-taken (altered s (cap_place m.actor) (ActorSlot m.code m.state undef)) ms (every-set (SlotTaken n) s.slots (cap_place m.actor) (ActorSlot m.code m.state undef) c (k.1.1.0, k.1.0)) k.1.1.1

  pub settled-taken : (s : Seen) (actor payer : W) (x : Effects) → CellsTaken s → Every (IsTaken n) (effects_words payer x) → CellsTaken (settled s actor x)
  settled-taken s actor payer x c k =
      let created = every-left (IsTaken n) (created_words x.created) (sent_words payer x.sent ++ behaviour_words x.next) k in
      let next = every-right (IsTaken n) (sent_words payer x.sent) (behaviour_words x.next) (every-right (IsTaken n) (created_words x.created) (sent_words payer x.sent ++ behaviour_words x.next) k) in
      idle-taken (at_actor s actor (resting x.next)) x.created (actor-taken s actor (resting x.next) c (resting-taken x.next next)) created

  pub content-taken : (s : Seen) (w content : W) → CellsTaken s → IsTaken n content → CellsTaken (with_content s w content)
  content-taken s w content c k = by (slot_seen s w) (λ x h. slot-taken s w x c h)
    where
      by : (o : Option Slot) → ((x : Slot) → o ≡ Some x → SlotTaken n x) → CellsTaken (refilled o w content s)
      by None g = c
      by (Some (OpenSlot q)) g = c
      by (Some (ActorSlot code state mark)) g = c
      by (Some UnbornSlot) g = c
      by (Some (EventSlot x y m)) g = let k' = g (EventSlot x y m) refl in every-set (SlotTaken n) s.slots (cap_place w) (EventSlot x y content) c (k'.0, k'.1, k)
      by (Some SponsorSlot) g = c
      by (Some SpentSlot) g = c

  -- ---- what is read from them

  pub sent-taken : (s : Seen) (w : W) → CellsTaken s → IsTaken n (sent_at s w).sponsor × IsTaken n (sent_at s w).target × IsTaken n (sent_at s w).content
  sent-taken s w c = by (slot_seen s w) (λ x h. slot-taken s w x c h)
    where
      by : (o : Option Slot) → ((x : Slot) → o ≡ Some x → SlotTaken n x) → IsTaken n (sent_in w o).sponsor × IsTaken n (sent_in w o).target × IsTaken n (sent_in w o).content
      by None g = (tt, tt, tt)
      by (Some (OpenSlot q)) g = (tt, tt, tt)
      by (Some (ActorSlot code state mark)) g = (tt, tt, tt)
      by (Some UnbornSlot) g = (tt, tt, tt)
      by (Some (EventSlot x y m)) g = g (EventSlot x y m) refl
      by (Some SponsorSlot) g = (tt, tt, tt)
      by (Some SpentSlot) g = (tt, tt, tt)

  pub behaviour-taken : (s : Seen) (w : W) → CellsTaken s → IsTaken n (behaviour_at s w).code × IsTaken n (behaviour_at s w).state
  behaviour-taken s w c = by (slot_seen s w) (λ x h. slot-taken s w x c h)
    where
      by : (o : Option Slot) → ((x : Slot) → o ≡ Some x → SlotTaken n x) → IsTaken n (behaviour_in o).code × IsTaken n (behaviour_in o).state
      by None g = (tt, tt)
      by (Some (OpenSlot q)) g = (tt, tt)
      by (Some (ActorSlot code state mark)) g = let k = g (ActorSlot code state mark) refl in (k.0, k.1)
      by (Some UnbornSlot) g = (tt, tt)
      by (Some (EventSlot x y m)) g = (tt, tt)
      by (Some SponsorSlot) g = (tt, tt)
      by (Some SpentSlot) g = (tt, tt)
