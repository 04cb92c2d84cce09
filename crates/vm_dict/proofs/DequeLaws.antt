-- Deques as lists of values.
use Rattle.std.proofs.Common.{◌≡◌, ℕ, zero, suc, ◌<◌, ◌≤◌, List, [], ◌∷◌, ◌++◌, length, reverse, drop, refl, ap, sym, ◌∙◌, subst, arith, append-nil, append_assoc, length-append}
use Rattle.std.proofs.lemmas.List.{reverse-reverse, reverse-append, length-reverse}
use Rattle.cap_words.specs.Words.{W, Ram, nil}
use Rattle.cap_words.specs.Seen.{Seen, Slot, OpenSlot, seen, grown}
use Rattle.quad_memory.specs.Memory.{Memory}
use Rattle.instr_table.specs.Lists.{next_quad, longest, pair_in, pair_quad, items_to, items, item}
use Rattle.instr_table.specs.Deque.{Ends, ends, ends_in, deque_quad, deque_after, Taking, turned, turned_on, taking, pushed_front, pushed_back}
use Rattle.instr_table.specs.Authority.{IsTaken}
use Rattle.vm_dict.specs.Made.{Takes}
use Rattle.vm_dict.specs.Calls.{pushed_in, put_in, from_front, from_back, popped_in, pulled_in}
use Rattle.vm_dict.specs.Deques.{IsList, IsDeque, CountsItsValues, BeginsEmpty, PushesInFront, PutsBehind, PopsTheFirst, PullsTheLast, DequesStand}
use Rattle.vm_dict.proofs.Items.{items-none, items-some, pair-grown}
use Rattle.vm_dict.proofs.Turns.{taking-some, taking-none}
use Rattle.vm_dict.proofs.Standing.{grown-append, next-grown, taken-grown, seen-grown, seen-first, taken-first, reverse-cons}

-- ---- lists of pairs

pub list-grown : (s : Seen) (cells : List Slot) (w : W) (vs : List W) → IsList s w vs → IsList (grown s cells) w vs
list-grown s cells w [] h = (ap pair_in (seen-grown s cells w h.1) ∙ h.0, taken-grown s cells w h.1)
list-grown s cells w (v ∷ vs) h = (h.0, pair-grown s cells w h.0 h.1, h.2, list-grown s cells h.0.y vs h.3)

list-cons : (s : Seen) (w v : W) (vs : List W) → IsList s w vs → IsList (grown s (OpenSlot (pair_quad v w) ∷ [])) (Ram (next_quad s)) (v ∷ vs)
list-cons s w v vs h = (pair_quad v w, ap pair_in (seen-first s (pair_quad v w) []), refl, list-grown s (OpenSlot (pair_quad v w) ∷ []) w vs h)

list-nil : (s : Seen) → IsList s nil []
list-nil s = (refl, tt)

items-are : (s : Seen) (m : ℕ) (w : W) (vs : List W) → IsList s w vs → length vs ≤ m → items_to s m w ≡ vs
items-are s m w [] h le = items-none s m w h.0
items-are s zero w (v ∷ vs) h le = absurd (omega arith)
items-are s (suc m) w (v ∷ vs) h le =
    items-some s m w h.0 h.1 ∙ (λ i. h.2 i ∷ items_to s m h.0.y) ∙ ap (λ (l : List W). v ∷ l) (items-are s m h.0.y vs h.3 (omega arith))

-- ---- a value taken from one end

-- the two lists after it, and the value
record Ended (s : Seen) (t : Taking) (vs : List W) : Type 0 where
  near_items : List W
  far_items : List W
  near : IsList (grown s t.cells) t.near near_items
  far : IsList (grown s t.cells) t.far far_items
  value_is : t.value ≡ item vs 1
  rest_is : near_items ++ reverse far_items ≡ drop 1 vs
  near_within : length near_items ≤ longest
  far_within : length far_items ≤ longest

-- a list turned round in front of another one
record Turned (s : Seen) (t : Taking) (vs : List W) : Type 0 where
  rest : List W
  near : IsList (grown s t.cells) t.near rest
  all : t.value ∷ rest ≡ vs
  far_is : t.far ≡ nil

turned-on : (s : Seen) (tail v : W) (ws ts : List W) → IsList s tail ts → Turned s (turned_on (next_quad s) tail v ws) (reverse (v ∷ ws) ++ ts)
turned-on s tail v [] ts h = record {
  rest = ts;
  near = list-grown s (OpenSlot (pair_quad v tail) ∷ []) tail ts h;
  all = refl;
  far_is = refl;
}
turned-on s tail v (w ∷ ws) ts h =
    let n = next_quad s in
    let c = OpenSlot (pair_quad v tail) in
    let mid = grown s (c ∷ []) in
    let next : next_quad mid ≡ suc n = next-grown s (c ∷ []) ∙ omega arith in
    let k = subst (λ (m : ℕ). Turned mid (turned_on m (Ram n) w ws) (reverse (w ∷ ws) ++ v ∷ ts)) next (turned-on mid (Ram n) w ws (v ∷ ts) (list-cons s tail v ts h)) in
    let t = turned_on (suc n) (Ram n) w ws in
    record {
      rest = k.rest;
      near = subst (λ (x : Seen). IsList x t.near k.rest) (grown-append s (c ∷ []) t.cells) k.near;
      all = k.all ∙ sym (reverse-cons v (w ∷ ws) ts);
      far_is = k.far_is;
    }

first-of : (v : W) (rest vs : List W) → v ∷ rest ≡ vs → (v ≡ item vs 1) × (rest ≡ drop 1 vs)
first-of v rest vs e = (ap (λ (l : List W). item l 1) e, ap (λ (l : List W). drop 1 l) e)

ended-turned : (s : Seen) (bs : List W) → length bs ≤ longest → Ended s (turned (next_quad s) bs) (reverse bs)
ended-turned s [] le = record {
  near_items = [];
  far_items = [];
  near = list-nil (grown s []);
  far = list-nil (grown s []);
  value_is = refl;
  rest_is = refl;
  near_within = omega arith;
  far_within = omega arith;
}
ended-turned s (b ∷ bs) le =
    let t = turned_on (next_quad s) nil b bs in
    let k = turned-on s nil b bs [] (list-nil s) in
    let all : t.value ∷ k.rest ≡ reverse (b ∷ bs) = k.all ∙ append-nil (reverse (b ∷ bs)) in
    let f = first-of t.value k.rest (reverse (b ∷ bs)) all in
    let l : suc (length k.rest) ≡ suc (length bs) = ap length all ∙ length-reverse (b ∷ bs) in
    record {
      near_items = k.rest;
      far_items = [];
      near = k.near;
      far = subst (λ (w : W). IsList (grown s t.cells) w []) (sym k.far_is) (list-nil (grown s t.cells));
      value_is = f.0;
      rest_is = append-nil k.rest ∙ f.1;
      near_within = omega arith;
      far_within = omega arith;
    }

ended : (s : Seen) (near far : W) (fs bs : List W) → IsList s near fs → IsList s far bs → length fs ≤ longest → length bs ≤ longest → Ended s (taking s (next_quad s) near far) (fs ++ reverse bs)
ended s near far [] bs h k lf le =
    let e : taking s (next_quad s) near far ≡ turned (next_quad s) bs = taking-none s (next_quad s) near far (sym h.0) ∙ ap (turned (next_quad s)) (items-are s longest far bs k le) in
    subst (λ (t : Taking). Ended s t (reverse bs)) (sym e) (ended-turned s bs le)
ended s near far (v ∷ fs) bs h k lf le =
    let q = h.0 in
    let e = taking-some s (next_quad s) near far q (sym h.1) in
    let r : Ended s (record { cells = []; value = q.x; near = q.y; far = far }) (v ∷ fs ++ reverse bs) = record {
      near_items = fs;
      far_items = bs;
      near = list-grown s [] q.y fs h.3;
      far = list-grown s [] far bs k;
      value_is = h.2;
      rest_is = refl;
      near_within = omega arith;
      far_within = le;
    } in
    subst (λ (t : Taking). Ended s t (v ∷ fs ++ reverse bs)) (sym e) r

-- ---- deques

ends-grown : (s : Seen) (cells : List Slot) (w : W) → IsTaken (next_quad s) w → ends (grown s cells) w ≡ ends s w
ends-grown s cells w t = ap ends_in (seen-grown s cells w t)

deque-grown : (s : Seen) (cells : List Slot) (w : W) (vs : List W) → IsDeque s w vs → IsDeque (grown s cells) w vs
deque-grown s cells w vs h =
    let e : ends s w ≡ ends (grown s cells) w = sym (ends-grown s cells w h.named) in
    record {
      front_items = h.front_items;
      back_items = h.back_items;
      values_are = h.values_are;
      front = subst (λ (d : Ends). IsList (grown s cells) d.front h.front_items) e (list-grown s cells (ends s w).front h.front_items h.front);
      back = subst (λ (d : Ends). IsList (grown s cells) d.back h.back_items) e (list-grown s cells (ends s w).back h.back_items h.back);
      front_within = h.front_within;
      back_within = h.back_within;
      named = taken-grown s cells w h.named;
    }

-- a deque that is made of two lists
deque-made : (s : Seen) (front back : W) (fs bs vs : List W) → IsList s front fs → IsList s back bs → vs ≡ fs ++ reverse bs → length fs ≤ longest → length bs ≤ longest → IsDeque (grown s (OpenSlot (deque_quad front back) ∷ [])) (Ram (next_quad s)) vs
deque-made s front back fs bs vs f b e lf lb =
    let c = OpenSlot (deque_quad front back) ∷ [] in
    let d : record { front = front; back = back } ≡ ends (grown s c) (Ram (next_quad s)) = sym (ap ends_in (seen-first s (deque_quad front back) [])) in
    record {
      front_items = fs;
      back_items = bs;
      values_are = e;
      front = subst (λ (x : Ends). IsList (grown s c) x.front fs) d (list-grown s c front fs f);
      back = subst (λ (x : Ends). IsList (grown s c) x.back bs) d (list-grown s c back bs b);
      front_within = lf;
      back_within = lb;
      named = taken-first s (OpenSlot (deque_quad front back)) [];
    }

-- after some cells
deque-after : (s : Seen) (cells : List Slot) (front back : W) (fs bs vs : List W) → IsList (grown s cells) front fs → IsList (grown s cells) back bs → vs ≡ fs ++ reverse bs → length fs ≤ longest → length bs ≤ longest → IsDeque (grown s (deque_after (next_quad s) cells front back).cells) (deque_after (next_quad s) cells front back).word vs
deque-after s cells front back fs bs vs f b e lf lb =
    let q = OpenSlot (deque_quad front back) ∷ [] in
    let k = deque-made (grown s cells) front back fs bs vs f b e lf lb in
    let k' = subst (λ (x : Seen). IsDeque x (Ram (next_quad (grown s cells))) vs) (grown-append s cells q) k in
    subst (λ (n : ℕ). IsDeque (grown s (cells ++ q)) (Ram n) vs) (next-grown s cells) k'

deque-pushed : (s : Seen) (w v : W) (vs : List W) → IsDeque s w vs → length (items s (ends s w).front) < longest → IsDeque (grown s (pushed_front (next_quad s) (ends s w) v).cells) (pushed_front (next_quad s) (ends s w) v).word (v ∷ vs)
deque-pushed s w v vs h room =
    let c = OpenSlot (pair_quad v (ends s w).front) ∷ [] in
    let l : length (items s (ends s w).front) ≡ length h.front_items = ap length (items-are s longest (ends s w).front h.front_items h.front h.front_within) in
    let few : suc (length h.front_items) ≤ longest = omega arith in
    deque-after s c (Ram (next_quad s)) (ends s w).back (v ∷ h.front_items) h.back_items (v ∷ vs) (list-cons s (ends s w).front v h.front_items h.front) (list-grown s c (ends s w).back h.back_items h.back)
    (ap (λ (l : List W). v ∷ l) h.values_are) few h.back_within

deque-put : (s : Seen) (w v : W) (vs : List W) → IsDeque s w vs → length (items s (ends s w).back) < longest → IsDeque (grown s (pushed_back (next_quad s) (ends s w) v).cells) (pushed_back (next_quad s) (ends s w) v).word (vs ++ v ∷ [])
deque-put s w v vs h room =
    let c = OpenSlot (pair_quad v (ends s w).back) ∷ [] in
    let l : length (items s (ends s w).back) ≡ length h.back_items = ap length (items-are s longest (ends s w).back h.back_items h.back h.back_within) in
    let few : suc (length h.back_items) ≤ longest = omega arith in
    let all : vs ++ v ∷ [] ≡ h.front_items ++ reverse (v ∷ h.back_items) =
    ap (λ (l : List W). l ++ v ∷ []) h.values_are ∙ append_assoc h.front_items (reverse h.back_items) (v ∷ []) ∙ ap (λ (l : List W). h.front_items ++ l) (sym (reverse-append (v ∷ []) h.back_items)) in
    deque-after s c (ends s w).front (Ram (next_quad s)) h.front_items (v ∷ h.back_items) (vs ++ v ∷ []) (list-grown s c (ends s w).front h.front_items h.front) (list-cons s (ends s w).back v h.back_items h.back)
    all h.front_within few

-- ---- the laws of the calls

after : (old new : Memory) (cells : List Slot) (w : W) (vs : List W) → Takes old new cells → IsDeque (grown (seen old.store) cells) w vs → IsDeque (seen new.store) w vs
after old new cells w vs t h = subst (λ (x : Seen). IsDeque x w vs) (sym t.seen_is) h

pub counts_its_values : CountsItsValues
counts_its_values = λ m deque vs h.
    let s = seen m.store in
    let f = ap length (items-are s longest (ends s deque).front h.front_items h.front h.front_within) in
    let b = ap length (items-are s longest (ends s deque).back h.back_items h.back h.back_within) in
    let l = ap length h.values_are ∙ length-append h.front_items (reverse h.back_items) in
    let r = length-reverse h.back_items in
    omega arith

pub begins_empty : BeginsEmpty
begins_empty = λ old new t.
    let s = seen old.store in
    after old new (OpenSlot (deque_quad nil nil) ∷ []) (Ram (next_quad s)) [] t
    (deque-made s nil nil [] [] [] (list-nil s) (list-nil s) refl (omega arith) (omega arith))

pub pushes_in_front : PushesInFront
pushes_in_front = λ old new deque value vs h room t.
    after old new (pushed_in old deque value).cells (pushed_in old deque value).word (value ∷ vs) t (deque-pushed (seen old.store) deque value vs h room)

pub puts_behind : PutsBehind
puts_behind = λ old new deque value vs h room t.
    after old new (put_in old deque value).cells (put_in old deque value).word (vs ++ value ∷ []) t (deque-put (seen old.store) deque value vs h room)

pub pops_the_first : PopsTheFirst
pops_the_first = λ old new deque vs h t.
    let s = seen old.store in
    let k = from_front old deque in
    let e = subst (λ (l : List W). Ended s k l) (sym h.values_are) (ended s (ends s deque).front (ends s deque).back h.front_items h.back_items h.front h.back h.front_within h.back_within) in (
      e.value_is,
      after old new (popped_in old deque).cells (popped_in old deque).word (drop 1 vs) t
          (deque-after s k.cells k.near k.far e.near_items e.far_items (drop 1 vs) e.near e.far (sym e.rest_is) e.near_within e.far_within),
    )

-- two lists from the other end
mirrored : (fs bs : List W) → reverse (fs ++ reverse bs) ≡ bs ++ reverse fs
mirrored fs bs = reverse-append fs (reverse bs) ∙ ap (λ (l : List W). l ++ reverse fs) (reverse-reverse bs)

pub pulls_the_last : PullsTheLast
pulls_the_last = λ old new deque vs h t.
    let s = seen old.store in
    let k = from_back old deque in
    let all : h.back_items ++ reverse h.front_items ≡ reverse vs = sym (ap (λ (l : List W). reverse l) h.values_are ∙ mirrored h.front_items h.back_items) in
    let e = subst (λ (l : List W). Ended s k l) all (ended s (ends s deque).back (ends s deque).front h.back_items h.front_items h.back h.front h.back_within h.front_within) in
    let rest : reverse (drop 1 (reverse vs)) ≡ e.far_items ++ reverse e.near_items = ap (λ (l : List W). reverse l) (sym e.rest_is) ∙ mirrored e.near_items e.far_items in (
      e.value_is,
      after old new (pulled_in old deque).cells (pulled_in old deque).word (reverse (drop 1 (reverse vs))) t
          (deque-after s k.cells k.far k.near e.far_items e.near_items (reverse (drop 1 (reverse vs))) e.far e.near rest e.far_within e.near_within),
    )

pub deques_stand : DequesStand
deques_stand = λ old new cells deque vs h t. after old new cells deque vs t (deque-grown (seen old.store) cells deque vs h)
