-- A list that is turned round, item by item.
use Rattle.std.proofs.Common.{◌≡◌, ℕ, suc, ◌+◌, ◌<◌, ◌≤◌, List, [], ◌∷◌, ◌++◌, length, Option, Some, None, refl, ap, ap₂, sym, ◌∙◌, subst, arith, append_assoc, append-nil, length-append}
use Rattle.cap_words.specs.declared.word.Quad.{Quad}
use Rattle.cap_words.specs.Words.{W, Ram, nil, undef}
use Rattle.cap_words.specs.Store.{used}
use Rattle.cap_words.specs.Seen.{Seen, Slot, OpenSlot, seen, cell_seen}
use Rattle.quad_memory.specs.Memory.{Memory}
use Rattle.instr_table.specs.Lists.{next_quad, pair_in, pair_quad, items_to, items, longest}
use Rattle.instr_table.specs.Deque.{Taking, turned, turned_on, taken_from, taking}
use Rattle.instr_table.proofs.Charges.{length-turned}
use Rattle.vm_dict.specs.Made.{Takes, HasRoom}
use Rattle.vm_dict.specs.Calls.{taking_in}
use Rattle.vm_dict.proofs.Taking.{takes-none, takes-append, next-takes, used-takes, room-takes}
use Rattle.vm_dict.proofs.Entries.{one_left}
use Rattle.vm_dict.proofs.Items.{items-zero, items-some, items-whole, items-counted, pair-grown}

-- ---- what is taken from one end

pub taking-some : (s : Seen) (n : ℕ) (near far : W) (q : Quad) → Some q ≡ pair_in (cell_seen s near) → taking s n near far ≡ record { cells = []; value = q.x; near = q.y; far = far }
unfolding taking
taking-some s n near far q h = ap (λ (o : Option Quad). taken_from o n (items s far) far) (sym h)

pub taking-none : (s : Seen) (n : ℕ) (near far : W) → None ≡ pair_in (cell_seen s near) → taking s n near far ≡ turned n (items s far)
unfolding taking
taking-none s n near far h = ap (λ (o : Option Quad). taken_from o n (items s far) far) (sym h)

pub length-taking_some : (s : Seen) (n : ℕ) (near far : W) (q : Quad) → Some q ≡ pair_in (cell_seen s near) → 3 ≡ length (taking s n near far).cells + 3
length-taking_some s n near far q h = sym (ap (λ (t : Taking). length t.cells + 3) (taking-some s n near far q h))

pub length-taking_none : (s : Seen) (n : ℕ) (near far : W) (c : ℕ) → None ≡ pair_in (cell_seen s near) → c ≡ length (items s far) → c + 3 ≡ length (taking s n near far).cells + 3
length-taking_none s n near far c h e =
    let l : length (taking s n near far).cells ≡ length (items s far) = ap (λ (t : Taking). length t.cells) (taking-none s n near far h) ∙ length-turned n (items s far) in
    omega arith

-- ---- the turning

-- what is still to be turned, after some items were
abbrev pub turned_from : ℕ → W → W → W → List W → Taking
turned_from n list near value [] = record { cells = []; value = value; near = near; far = nil }
turned_from n list near value (v ∷ vs) = turned_on n list v vs

abbrev pub joined : List Slot → Taking → Taking
joined made t = record t { cells = made ++ t.cells }

turned-start : (n : ℕ) (vs : List W) → turned_from n nil nil undef vs ≡ turned n vs
turned-start n [] = refl
turned-start n (v ∷ vs) = refl

turned-more : (n : ℕ) (list near value v : W) (vs : List W) → turned_from n list near value (v ∷ vs) ≡ joined (OpenSlot (pair_quad v list) ∷ []) (turned_from (suc n) (Ram n) list v vs)
turned-more n list near value v [] = refl
turned-more n list near value v (w ∷ vs) = refl

joined-append : (xs ys : List Slot) (t : Taking) → joined (xs ++ ys) t ≡ joined xs (joined ys t)
joined-append xs ys t = ap (λ (l : List Slot). record t { cells = l }) (append_assoc xs ys t.cells)

-- so many of the items are turned round
pub record Turning (old now : Memory) (count : ℕ) (far : W) (i : ℕ) (at list near value : W) : Type 0 where
  pub left : ℕ
  pub count_is : i + left ≡ count
  pub whole : length (items_to (seen old.store) left at) ≡ left
  pub made : List Slot
  pub takes : Takes old now made
  pub made_count : length made ≡ i
  pub turned_is : joined made (turned_from (next_quad (seen old.store) + i) list near value (items_to (seen old.store) left at)) ≡ turned (next_quad (seen old.store)) (items (seen old.store) far)

pub turning-start : (old : Memory) (count : ℕ) (far : W) → count ≡ length (items (seen old.store) far) → Turning old old count far 0 far nil nil undef
turning-start old count far e =
    let s = seen old.store in
    let n = next_quad s in
    let same : items_to s count far ≡ items s far = ap (λ (m : ℕ). items_to s m far) e ∙ items-counted s longest far in
    let zero_is : n + 0 ≡ n = omega arith in
    record {
      left = count;
      count_is = omega arith;
      whole = ap length same ∙ sym e;
      made = [];
      takes = takes-none old;
      made_count = refl;
      turned_is = (λ i. turned_from (zero_is i) nil nil undef (same i)) ∙ turned-start n (items s far);
    }

-- the pair that is next
pub record Next (old now : Memory) (count : ℕ) (i : ℕ) (at : W) : Type 0 where
  pub left : ℕ
  pub count_is : i + 1 + left ≡ count
  pub pair : Quad
  pub there : pair_in (cell_seen (seen now.store) at) ≡ Some pair
  pub whole : length (items_to (seen old.store) left pair.y) ≡ left
  pub before : pair_in (cell_seen (seen old.store) at) ≡ Some pair

pub turning-next : (old now : Memory) (count : ℕ) (far : W) (i : ℕ) (at list near value : W) → Turning old now count far i at list near value → i < count → Next old now count i at
turning-next old now count far i at list near value h low =
    let s = seen old.store in
    let k = one_left i h.left count h.count_is low in
    let w : length (items_to s (suc k.0) at) ≡ suc k.0 = subst (λ (n : ℕ). length (items_to s n at) ≡ n) k.1 h.whole in
    let p = items-whole s k.0 at w in
    record {
      left = k.0;
      count_is = omega (arith, h.count_is, k.1);
      pair = p.0;
      there = ap (λ (x : Seen). pair_in (cell_seen x at)) h.takes.seen_is ∙ pair-grown s h.made at p.0 p.1;
      whole = p.2;
      before = p.1;
    }

pub turning-there : (old now : Memory) (count : ℕ) (far : W) (i : ℕ) (at list near value : W) → Turning old now count far i at list near value → i < count → None ≡ pair_in (cell_seen (seen now.store) at) → ⊥
turning-there old now count far i at list near value h low is =
    let n = turning-next old now count far i at list near value h low in
    let e : None ≡ Some n.pair = is ∙ n.there in cc

pub turning-room : (old now : Memory) (count : ℕ) (far : W) (i : ℕ) (at list near value : W) → Turning old now count far i at list near value → i < count → count ≡ length (items (seen old.store) far) → HasRoom old (turned (next_quad (seen old.store)) (items (seen old.store) far)).cells → used now.store < now.room
turning-room old now count far i at list near value h low e r =
    let l = length-turned (next_quad (seen old.store)) (items (seen old.store) far) in
    let u = used-takes old now h.made h.takes in
    let m = room-takes old now h.made h.takes in
    omega (arith, h.made_count)

pub turning-more : (old now new : Memory) (count : ℕ) (far : W) (i : ℕ) (at list near value word : W) (q : Quad) → Turning old now count far i at list near value → i < count → Some q ≡ pair_in (cell_seen (seen now.store) at) → Takes now new (OpenSlot (pair_quad q.x list) ∷ []) → word ≡ Ram (next_quad (seen now.store)) → Turning old new count far (i + 1) q.y word list q.x
turning-more old now new count far i at list near value word q h low is t we =
    let s = seen old.store in
    let n = next_quad s in
    let k = turning-next old now count far i at list near value h low in
    let same : k.pair ≡ q = (let e : Some k.pair ≡ Some q = sym k.there ∙ sym is in cc) in
    let c = OpenSlot (pair_quad q.x list) in
    let ws = items_to s k.left q.y in
    let all : items_to s h.left at ≡ q.x ∷ ws =
    (let l : h.left ≡ suc k.left = omega (arith, h.count_is, k.count_is) in
    ap (λ (m : ℕ). items_to s m at) l ∙ items-some s k.left at q (k.before ∙ ap Some same)) in
    let place : next_quad (seen now.store) ≡ n + i = next-takes old now h.made h.takes ∙ ap (λ (m : ℕ). n + m) h.made_count in
    let next : n + (i + 1) ≡ suc (n + i) = omega arith in
    let step : turned_from (n + (i + 1)) word list q.x ws ≡ turned_from (suc (n + i)) (Ram (n + i)) list q.x ws =
    (λ j. turned_from (next j) ((we ∙ ap Ram place) j) list q.x ws) in
    record {
      left = k.left;
      count_is = k.count_is;
      whole = subst (λ (p : Quad). length (items_to s k.left p.y) ≡ k.left) same k.whole;
      made = h.made ++ c ∷ [];
      takes = takes-append old now new h.made (c ∷ []) h.takes t;
      made_count = length-append h.made (c ∷ []) ∙ ap (λ (m : ℕ). m + 1) h.made_count;
      turned_is =
          joined-append h.made (c ∷ []) (turned_from (n + (i + 1)) word list q.x ws)
          ∙ ap (λ (t : Taking). joined h.made (joined (c ∷ []) t)) step
          ∙ ap (joined h.made) (sym (turned-more (n + i) list near value q.x ws))
          ∙ ap (λ (vs : List W). joined h.made (turned_from (n + i) list near value vs)) (sym all)
          ∙ h.turned_is;
    }

-- all of them are
pub record Turned (old now : Memory) (far near value : W) : Type 0 where
  pub cells : Takes old now (turned (next_quad (seen old.store)) (items (seen old.store) far)).cells
  pub value_is : value ≡ (turned (next_quad (seen old.store)) (items (seen old.store) far)).value
  pub near_is : near ≡ (turned (next_quad (seen old.store)) (items (seen old.store) far)).near
  pub far_is : nil ≡ (turned (next_quad (seen old.store)) (items (seen old.store) far)).far

pub turning-end : (old now : Memory) (count : ℕ) (far : W) (i : ℕ) (at list near value : W) → Turning old now count far i at list near value → count ≤ i → Turned old now far near value
turning-end old now count far i at list near value h high =
    let s = seen old.store in
    let n = next_quad s in
    let none : items_to s h.left at ≡ [] = (let l : h.left ≡ 0 = omega (arith, h.count_is) in ap (λ (m : ℕ). items_to s m at) l ∙ items-zero s at) in
    let all : record { cells = h.made ++ []; value = value; near = near; far = nil } ≡ turned n (items s far) =
    ap (λ (vs : List W). joined h.made (turned_from (n + i) list near value vs)) (sym none) ∙ h.turned_is in
    record {
      cells = subst (λ (l : List Slot). Takes old now l) (sym (append-nil h.made) ∙ ap (λ (t : Taking). t.cells) all) h.takes;
      value_is = ap (λ (t : Taking). t.value) all;
      near_is = ap (λ (t : Taking). t.near) all;
      far_is = ap (λ (t : Taking). t.far) all;
    }

-- a value is taken from one end, and then the deque that is left is made
pub taken-end : (m mid new : Memory) (near far near' far' : W) (f : Taking → Quad) (q : Quad) → near ≡ near' → far ≡ far' → Takes m mid (taking_in m near far).cells → q ≡ f (taking_in m near far) → Takes mid new (OpenSlot q ∷ []) → Takes m new ((taking_in m near' far').cells ++ OpenSlot (f (taking_in m near' far')) ∷ [])
taken-end m mid new near far near' far' f q p r t e u =
    let same : taking_in m near far ≡ taking_in m near' far' = ap₂ (λ (a b : W). taking_in m a b) p r in
    subst (λ (k : Taking). Takes m new (k.cells ++ OpenSlot (f k) ∷ [])) same
    (takes-append m mid new (taking_in m near far).cells (OpenSlot (f (taking_in m near far)) ∷ []) t (subst (λ (c : Quad). Takes mid new (OpenSlot c ∷ [])) e u))
