-- How moves arise and follow on one another.
use Rattle.std.proofs.Common.{◌≡◌, ℕ, suc, ◌+◌, ◌≤◌, List, [], ◌∷◌, ◌++◌, refl, ap, ap₂, sym, ◌∙◌, subst, arith, drop, length, append-nil, length-append}
use Rattle.cap_words.specs.Words.{W, Ram}
use Rattle.cap_words.specs.Store.{Store, used, taken}
use Rattle.cap_words.specs.Seen.{Seen, Slot, OpenSlot, seen, grown}
use Rattle.cap_words.specs.Frame.{Framed}
use Rattle.cap_words.proofs.Frames.{framed-refl, framed-taken, framed-then}
use Rattle.quad_memory.specs.Memory.{Memory}
use Rattle.instr_table.specs.Lists.{next_quad, pair_quad}
use Rattle.instr_table.specs.Event.{Effect, Nothing, with_effect}
use Rattle.instr_table.specs.Outcome.{Going, goes, does}
use Rattle.instr_table.specs.Lane.{Item, push_one, push_all, top_at}
use Rattle.vm_dict.specs.Made.{Takes, opened}
use Rattle.vm_dict.proofs.Taking.{next-used}
use Rattle.vm_effects.specs.Gathered.{effects_of, IsLinked}
use Rattle.vm_effects.proofs.Apart.{effects-taken, used-grown}
use Rattle.vm_step.specs.declared.lane.Lane.{Lane}
use Rattle.vm_step.specs.declared.lane.StepEnd.{StepEnd}
use Rattle.vm_step.specs.Stack.{items_from, IsStack}
use Rattle.vm_step.specs.Flight.{stack_of, lane_words}
use Rattle.vm_step.specs.Moves.{Ready, Moves, Turns, touched, IsAlone, restacking}
use Rattle.vm_step.proofs.Stacks.{items-grown, stack-grown, top-items, items-pushed, stack-pushed}

-- nothing is taken
pub grown-nil : (s : Seen) → grown s [] ≡ s
grown-nil s = ap (λ (l : List Slot). record s { slots = l }) (append-nil s.slots)

-- items are taken off
pub moves-advance : (a : Memory) (l m : Lane) (pops : ℕ) (next : W) → Ready a l 0 → stack_of a.store m ≡ drop pops (stack_of a.store l) → IsStack (seen a.store) m.depth m.stack → m.depth ≤ l.depth
    → m.code ≡ next → m.number ≡ l.number → m.event ≡ l.event → m.effects ≡ l.effects → Moves a a l m (restacking pops [] next)
moves-advance a l m pops next r rest stacked less code number event effects = record {
  seen_is = ap₂ (λ (s : Seen) (is : List Item). (s, is)) (sym (grown-nil (seen a.store))) rest;
  code_is = code;
  number_is = number;
  event_is = event;
  effects_are = ap (effects_of a.store) effects;
  alone = tt;
  stacked = stacked;
  shallow = omega (arith, r.shallow);
  linked = subst (IsLinked a.store) (sym effects) r.linked;
  frame = framed-refl a.store [];
  room_is = refl;
}

-- a value is pushed
pub moves-push : (a b : Memory) (l m : Lane) (value word : W) → Ready a l 1 → Takes a b (OpenSlot (pair_quad value l.stack) ∷ []) → word ≡ Ram (next_quad (seen a.store)) → m.stack ≡ word → m.depth ≡ suc l.depth
    → m.code ≡ l.code → m.number ≡ l.number → m.event ≡ l.event → m.effects ≡ l.effects → Moves a b l m (restacking 0 (value ∷ []) l.code)
moves-push a b l m value word r t word_is stack depth code number event effects =
    let s = seen a.store in
    let cells = OpenSlot (pair_quad value l.stack) ∷ [] in
    let at : m.stack ≡ Ram (next_quad s) = stack ∙ word_is in
    let taken_is : b.store ≡ taken a.store (opened cells) = ap (λ (x : Memory). x.store) t.memory_is in
    let record_is = effects-taken a.store l.effects r.linked (opened cells) in
    let items : stack_of b.store m ≡ record { value = value; at = Ram (next_quad s) } ∷ stack_of a.store l =
    ap (λ (x : Seen). items_from x m.depth m.stack) t.seen_is
    ∙ ap₂ (items_from (grown s cells)) depth at
    ∙ items-pushed s l.depth l.stack value r.stacked in
    let grew : seen b.store ≡ grown (grown s []) (OpenSlot (pair_quad value (top_at (stack_of a.store l))) ∷ []) =
    t.seen_is ∙ ap₂ (λ (x : Seen) (w : W). grown x (OpenSlot (pair_quad value w) ∷ [])) (sym (grown-nil s)) (sym (top-items s l.depth l.stack r.stacked)) in
    let same : record { value = value; at = Ram (next_quad s) } ∷ stack_of a.store l ≡ record { value = value; at = Ram (next_quad (grown s [])) } ∷ stack_of a.store l =
    ap (λ (x : Seen). record { value = value; at = Ram (next_quad x) } ∷ stack_of a.store l) (sym (grown-nil s)) in
    record {
      seen_is = ap₂ (λ (x : Seen) (is : List Item). (x, is)) grew (items ∙ same);
      code_is = code;
      number_is = number;
      event_is = event;
      effects_are = ap (effects_of b.store) effects ∙ ap (λ (x : Store). effects_of x l.effects) taken_is ∙ record_is.0;
      alone = tt;
      stacked = subst (λ (x : Seen). IsStack x m.depth m.stack) (sym t.seen_is)
          (subst (λ (d : ℕ). IsStack (grown s cells) d m.stack) (sym depth) (subst (λ (w : W). IsStack (grown s cells) (suc l.depth) w) (sym at) (stack-pushed s l.depth l.stack value r.stacked)));
      shallow = let u = used-grown a.store b.store cells t.seen_is in omega (arith, r.shallow, u, depth);
      linked = subst (λ (x : Store). IsLinked x m.effects) (sym taken_is) (subst (IsLinked (taken a.store (opened cells))) (sym effects) record_is.1);
      frame = subst (λ (x : Store). Framed a.store x []) (sym taken_is) (framed-taken a.store (opened cells) []);
      room_is = ap (λ (x : Memory). x.room) t.memory_is;
    }

push_all-append : (p : Seen × List Item) (vs ws : List W) → push_all p (vs ++ ws) ≡ push_all (push_all p vs) ws
push_all-append p [] ws = refl
push_all-append p (v ∷ vs) ws = push_all-append (push_one p v) vs ws

-- more values are pushed
pub moves-then : (a b c : Memory) (l m n : Lane) (g : Going) (vs : List W) → Moves a b l m g → Moves b c m n (restacking 0 vs m.code) → Moves a c l n (record g { pushed = g.pushed ++ vs })
moves-then a b c l m n g vs p q = record {
  seen_is = q.seen_is
      ∙ ap (λ (x : Seen). push_all (x, stack_of b.store m) vs) (grown-nil (seen b.store))
      ∙ ap (λ (x : Seen × List Item). push_all x vs) p.seen_is
      ∙ sym (push_all-append (grown (seen a.store) g.made, drop g.pops (stack_of a.store l)) g.pushed vs);
  code_is = q.code_is ∙ p.code_is;
  number_is = q.number_is ∙ p.number_is;
  event_is = q.event_is ∙ p.event_is;
  effects_are = q.effects_are ∙ p.effects_are;
  alone = p.alone;
  stacked = q.stacked;
  shallow = q.shallow;
  linked = q.linked;
  frame = framed-then a.store b.store c.store (touched g.effect (lane_words a.store l)) [] (touched g.effect (lane_words a.store l)) p.frame q.frame (λ w k. k) (λ w k. absurd k);
  room_is = q.room_is ∙ p.room_is;
}

-- how many quads are taken
length-pushed : (p : Seen × List Item) (vs : List W) → next_quad (push_all p vs).0 ≡ next_quad p.0 + length vs
length-pushed p [] = omega arith
length-pushed p (v ∷ vs) =
    let k = length-pushed (push_one p v) vs in
    let e = length-append p.0.slots (OpenSlot (pair_quad v (top_at p.1)) ∷ []) in
    omega arith

pub used-moves : (a b : Memory) (l m : Lane) (g : Going) → Moves a b l m g → used b.store ≡ used a.store + (length g.made + length g.pushed)
used-moves a b l m g p =
    let k = length-pushed (grown (seen a.store) g.made, drop g.pops (stack_of a.store l)) g.pushed in
    let e = ap (λ (x : Seen × List Item). next_quad x.0) p.seen_is in
    let n = length-append (seen a.store).slots g.made in
    omega (arith, k, e, n, next-used a.store, next-used b.store)

-- where quads are left, the next one fits too
pub ready-moves : (a b : Memory) (l m : Lane) (g : Going) (n k : ℕ) → Ready a l n → Moves a b l m g → length g.made + length g.pushed + k ≤ n → Ready b m k
ready-moves a b l m g n k r p h = record {
  stacked = p.stacked;
  shallow = p.shallow;
  linked = p.linked;
  room = let u = used-moves a b l m g p in omega (arith, r.room, u, p.room_is);
}

-- fewer quads fit too
pub ready-less : (a : Memory) (l : Lane) (n k : ℕ) → Ready a l n → k ≤ n → Ready a l k
ready-less a l n k r h = record { stacked = r.stacked; shallow = r.shallow; linked = r.linked; room = omega (arith, r.room) }

-- ---- what is made before the items move

-- quads are taken and the record is changed, and the stack stays
pub record Makes (a b : Memory) (l m : Lane) (made : List Slot) (e : Effect) : Type 0 where
  pub seen_is : seen b.store ≡ grown (seen a.store) made
  pub stack_is : m.stack ≡ l.stack
  pub depth_is : m.depth ≡ l.depth
  pub number_is : m.number ≡ l.number
  pub event_is : m.event ≡ l.event
  pub effects_are : effects_of b.store m.effects ≡ with_effect (effects_of a.store l.effects) e
  pub alone : IsAlone e
  pub linked : IsLinked b.store m.effects
  pub frame : Framed a.store b.store (touched e (lane_words a.store l))
  pub room_is : b.room ≡ a.room

-- ordinary cells are taken
pub makes-takes : (a b : Memory) (l : Lane) (n : ℕ) (made : List Slot) → Ready a l n → Takes a b made → Makes a b l l made Nothing
makes-takes a b l n made r t =
    let taken_is : b.store ≡ taken a.store (opened made) = ap (λ (x : Memory). x.store) t.memory_is in
    let record_is = effects-taken a.store l.effects r.linked (opened made) in
    record {
      seen_is = t.seen_is;
      stack_is = refl;
      depth_is = refl;
      number_is = refl;
      event_is = refl;
      effects_are = ap (λ (x : Store). effects_of x l.effects) taken_is ∙ record_is.0;
      alone = tt;
      linked = subst (λ (x : Store). IsLinked x l.effects) (sym taken_is) record_is.1;
      frame = subst (λ (x : Store). Framed a.store x []) (sym taken_is) (framed-taken a.store (opened made) []);
      room_is = ap (λ (x : Memory). x.room) t.memory_is;
    }

module _ (a b : Memory) (l m : Lane) (n : ℕ) (made : List Slot) (e : Effect) (r : Ready a l n) (p : Makes a b l m made e) where
  stack_made : stack_of b.store m ≡ stack_of a.store l
  stack_made = ap (λ (x : Seen). items_from x m.depth m.stack) p.seen_is ∙ ap₂ (items_from (grown (seen a.store) made)) p.depth_is p.stack_is ∙ items-grown (seen a.store) made l.depth l.stack r.stacked

  pub stacked-made : IsStack (seen b.store) m.depth m.stack
  stacked-made = subst (λ (x : Seen). IsStack x m.depth m.stack) (sym p.seen_is)
      (subst (λ (d : ℕ). IsStack (grown (seen a.store) made) d m.stack) (sym p.depth_is) (subst (λ (w : W). IsStack (grown (seen a.store) made) l.depth w) (sym p.stack_is) (stack-grown (seen a.store) made l.depth l.stack r.stacked)))

  -- where quads are left, the next one fits too
  pub ready-makes : (k : ℕ) → length made + k ≤ n → Ready b m k
  ready-makes k h = record {
    stacked = stacked-made;
    shallow = let u = used-grown a.store b.store made p.seen_is in let d = p.depth_is in let s = r.shallow in omega (arith, u, d, s);
    linked = p.linked;
    room = let u = used-grown a.store b.store made p.seen_is in let o = p.room_is in let f = r.room in omega (arith, u, o, f, h);
  }

  -- and then items are taken off the stack and others pushed
  pub makes-moves : (c : Memory) (o : Lane) (pops : ℕ) (pushed : List W) (next : W) → Moves b c m o (restacking pops pushed next)
      → Moves a c l o (record { pops = pops; made = made; pushed = pushed; goes_to = next; effect = e })
  makes-moves c o pops pushed next q = record {
    seen_is = q.seen_is
        ∙ ap (λ (x : Seen). push_all (x, drop pops (stack_of b.store m)) pushed) (grown-nil (seen b.store) ∙ p.seen_is)
        ∙ ap (λ (is : List Item). push_all (grown (seen a.store) made, drop pops is) pushed) stack_made;
    code_is = q.code_is;
    number_is = q.number_is ∙ p.number_is;
    event_is = q.event_is ∙ p.event_is;
    effects_are = q.effects_are ∙ p.effects_are;
    alone = p.alone;
    stacked = q.stacked;
    shallow = q.shallow;
    linked = q.linked;
    frame = framed-then a.store b.store c.store (touched e (lane_words a.store l)) [] (touched e (lane_words a.store l)) p.frame q.frame (λ w k. k) (λ w k. absurd k);
    room_is = q.room_is ∙ p.room_is;
  }

  pub makes-turns : (c : Memory) (o : Lane) (pops : ℕ) (pushed : List W) (next : W) (end : StepEnd) → Turns b c m o (goes pops pushed next).outcome end
      → Turns a c l o (does pops made pushed next e).outcome end
  makes-turns c o pops pushed next end t = (t.0, makes-moves c o pops pushed next t.1)

-- the same where ordinary cells alone are taken
pub ready-takes : (a b : Memory) (l : Lane) (n k : ℕ) (made : List Slot) → Ready a l n → Takes a b made → length made + k ≤ n → Ready b l k
ready-takes a b l n k made r t h = ready-makes a b l l n made Nothing r (makes-takes a b l n made r t) k h

pub takes-turns : (a b c : Memory) (l o : Lane) (n : ℕ) (made : List Slot) (pops : ℕ) (pushed : List W) (next : W) (end : StepEnd) → Ready a l n → Takes a b made → Turns b c l o (goes pops pushed next).outcome end
    → Turns a c l o (does pops made pushed next Nothing).outcome end
takes-turns a b c l o n made pops pushed next end r t k = makes-turns a b l l n made Nothing r (makes-takes a b l n made r t) c o pops pushed next end k
