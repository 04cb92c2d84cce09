-- Values that are pushed one after another.
use Rattle.std.proofs.Common.{◌≡◌, ℕ, zero, suc, ◌+◌, ◌-◌, ◌≤◌, ◌<◌, List, [], ◌∷◌, ◌++◌, refl, ap, ap₂, sym, ◌∙◌, subst, arith, take, length, get_or, drop, pos, negsuc}
use Rattle.std.specs.Prelude.{reverse}
use Rattle.std.proofs.lemmas.List.{reverse-append, drop-map}
use Rattle.std.proofs.lemmas.List.{take_more, take_all as take-whole, length-reverse, get_or-reverse}
use Rattle.cap_words.specs.Words.{W, undef}
use Rattle.cap_words.specs.Seen.{Seen, seen, grown}
use Rattle.cap_words.proofs.Frames.{framed-refl}
use Rattle.quad_memory.specs.Memory.{Memory}
use Rattle.instr_table.specs.Lists.{item, top_items, rolled}
use Rattle.instr_table.specs.Lane.{Item, values}
use Rattle.instr_table.proofs.Authorities.{pushed-store}
use Rattle.instr_table.proofs.Charges.{length-top_items}
use Rattle.vm_step.specs.declared.lane.Lane.{Lane}
use Rattle.vm_step.specs.Stack.{items_from, IsStack}
use Rattle.vm_step.specs.declared.lane.Stack.{Stack as Items}
use Rattle.vm_step.specs.Moves.{Ready, Moves, restacking, values_in, values_of}
use Rattle.vm_step.specs.Flight.{stack_of}
use Rattle.vm_step.proofs.Stacks.{items-grown, stack-grown}
use Rattle.vm_step.proofs.Moving.{grown-nil, moves-then, ready-moves}

pub get_or-top_items : (n : ℕ) (vs : List W) (i : ℕ) (d : W) → i < n → get_or (top_items n vs) i d ≡ get_or vs i undef
get_or-top_items zero vs i d h = absurd (omega arith)
get_or-top_items (suc n) [] zero d h = refl
get_or-top_items (suc n) [] (suc i) d h = get_or-top_items n [] i d (omega arith)
get_or-top_items (suc n) (v ∷ vs) zero d h = refl
get_or-top_items (suc n) (v ∷ vs) (suc i) d h = get_or-top_items n vs i d (omega arith)

-- the k-th of the top values, from the lowest one on
pub turned-item : (n k : ℕ) (vs : List W) → k < n → get_or (reverse (top_items n vs)) k undef ≡ item vs (n - k)
turned-item n k vs h =
    let l = length-top_items n vs in
    let f = get_or-reverse (top_items n vs) k undef (omega arith) in
    let j : length (top_items n vs) - 1 - k ≡ n - k - 1 = omega arith in
    f ∙ ap (λ (i : ℕ). get_or (top_items n vs) i undef) j ∙ get_or-top_items n vs (n - k - 1) undef (omega arith)

-- so many of these values have been pushed, and the others fit
pub record Pushing (a b : Memory) (l m : Lane) (vs : List W) (k : ℕ) : Type 0 where
  pub moves : Moves a b l m (restacking 0 (take k vs) l.code)

pub pushing-start : (a : Memory) (l : Lane) (vs : List W) (n : ℕ) → Ready a l n → Pushing a a l l vs 0
pushing-start a l vs n r = record {
  moves = record {
    seen_is = ap (λ (s : Seen). (s, stack_of a.store l)) (sym (grown-nil (seen a.store)));
    code_is = refl;
    number_is = refl;
    event_is = refl;
    effects_are = refl;
    alone = tt;
    stacked = r.stacked;
    shallow = r.shallow;
    linked = r.linked;
    frame = framed-refl a.store [];
    room_is = refl;
  };
}

pub pushing-more : (a b c : Memory) (l m o : Lane) (vs : List W) (k : ℕ) (v : W) → Pushing a b l m vs k → k < length vs → v ≡ get_or vs k undef → Moves b c m o (restacking 0 (v ∷ []) m.code) → Pushing a c l o vs (k + 1)
pushing-more a b c l m o vs k v p h e q =
    let t : take k vs ++ v ∷ [] ≡ take (k + 1) vs = ap (λ (x : W). take k vs ++ x ∷ []) e ∙ sym (take_more vs k undef h) in
    record { moves = subst (λ (ws : List W). Moves a c l o (restacking 0 ws l.code)) t (moves-then a b c l m o (restacking 0 (take k vs) l.code) (v ∷ []) p.moves q) }

pub length-take : (vs : List W) (k : ℕ) → k ≤ length vs → length (take k vs) ≡ k
length-take vs zero h = refl
length-take [] (suc k) h = absurd (omega arith)
length-take (v ∷ vs) (suc k) h = ap suc (length-take vs k (omega arith))

pub pushing-ready : (a b : Memory) (l m : Lane) (vs : List W) (k n : ℕ) → Ready a l n → Pushing a b l m vs k → k < length vs → length vs ≤ n → Ready b m 1
pushing-ready a b l m vs k n r p h most = let t = length-take vs k (omega arith) in ready-moves a b l m (restacking 0 (take k vs) l.code) n 1 r p.moves (omega arith)

pub pushing-end : (a b : Memory) (l m : Lane) (vs : List W) (k : ℕ) → Pushing a b l m vs k → length vs ≤ k → Moves a b l m (restacking 0 vs l.code)
pushing-end a b l m vs k p h = subst (λ (ws : List W). Moves a b l m (restacking 0 ws l.code)) (take-whole k vs h) p.moves

-- another state of the stack stands while values are pushed
pub others-stand : (a b : Memory) (l m : Lane) (pops : ℕ) (vs : List W) (k : W) (d : ℕ) (w : W) → Moves a b l m (restacking pops vs k) → IsStack (seen a.store) d w → (items_from (seen b.store) d w ≡ items_from (seen a.store) d w) × IsStack (seen b.store) d w
others-stand a b l m pops vs k d w p h =
    let q = pushed-store (grown (seen a.store) [], drop pops (stack_of a.store l)) vs in
    let grew : seen b.store ≡ grown (seen a.store) q.0 = ap (λ (x : Seen × List Item). x.0) p.seen_is ∙ q.1 ∙ ap (λ (s : Seen). grown s q.0) (grown-nil (seen a.store)) in (
      ap (λ (s : Seen). items_from s d w) grew ∙ items-grown (seen a.store) q.0 d w h,
      subst (λ (s : Seen). IsStack s d w) (sym grew) (stack-grown (seen a.store) q.0 d w h),
    )

-- ---- rolling

module _ (a : Memory) (l : Lane) (n : ℕ) (next v : W) (st : Items) (is : st ≡ record { word = l.stack; depth = l.depth }) where
  vs_are : values_in (seen a.store) st ≡ values_of a l
  vs_are = ap (values_in (seen a.store)) is

  pub rolled-up : (b c : Memory) (l1 l2 l3 : Lane) → v ≡ item (values_in (seen a.store) st) n → Moves a a l l1 (restacking n [] next)
      → Moves a b l1 l2 (restacking 0 (reverse (top_items (n - 1) (values_in (seen a.store) st))) l1.code) → Moves b c l2 l3 (restacking 0 (v ∷ []) l2.code)
      → Moves a c l l3 (restacking n (reverse (rolled (pos n) (values_of a l))) next)
  rolled-up b c l1 l2 l3 e p q r =
      let top = top_items (n - 1) (values_in (seen a.store) st) in
      let two = moves-then a b c l l2 l3 (restacking n (reverse top) next) (v ∷ []) (moves-then a a b l l1 l2 (restacking n [] next) (reverse top) p q) r in
      let turn : reverse top ++ v ∷ [] ≡ reverse (v ∷ top) = sym (reverse-append (v ∷ []) top) in
      let all : reverse (v ∷ top) ≡ reverse (rolled (pos n) (values_of a l)) = ap₂ (λ (w : W) (vs : List W). reverse (w ∷ top_items (n - 1) vs)) (e ∙ ap (λ (vs : List W). item vs n) vs_are) vs_are in
      subst (λ (ws : List W). Moves a c l l3 (restacking n ws next)) (turn ∙ all) two

  pub rolled-ready : (b : Memory) (l1 l2 : Lane) → 1 ≤ n → Ready a l n → Moves a a l l1 (restacking n [] next)
      → Moves a b l1 l2 (restacking 0 (reverse (top_items (n - 1) (values_in (seen a.store) st))) l1.code) → Ready b l2 1
  rolled-ready b l1 l2 some r p q =
      let top = top_items (n - 1) (values_in (seen a.store) st) in
      let e = length-reverse top in
      let f = length-top_items (n - 1) (values_in (seen a.store) st) in
      ready-moves a b l l2 (restacking n (reverse top) next) n 1 r (moves-then a a b l l1 l2 (restacking n [] next) (reverse top) p q) (omega arith)

  pub rolled-down : (b c : Memory) (l1 l2 l3 : Lane) (rest : Items) → v ≡ item (values_in (seen a.store) st) 1 → items_from (seen a.store) rest.depth rest.word ≡ drop 1 (items_from (seen a.store) st.depth st.word) → IsStack (seen a.store) rest.depth rest.word
      → Moves a a l l1 (restacking n [] next) → Moves a b l1 l2 (restacking 0 (v ∷ []) l1.code) → Moves b c l2 l3 (restacking 0 (reverse (top_items (n - 1) (values_in (seen b.store) rest))) l2.code)
      → Moves a c l l3 (restacking n (reverse (rolled (negsuc (n - 1)) (values_of a l))) next)
  rolled-down b c l1 l2 l3 rest e below stands p q r =
      let stand = others-stand a b l1 l2 0 (v ∷ []) l1.code rest.depth rest.word q stands in
      let vs = values_in (seen b.store) rest in
      let vs-are : vs ≡ drop 1 (values_of a l) =
      ap values (stand.0 ∙ below) ∙ sym (drop-map (λ (i : Item). i.value) 1 (items_from (seen a.store) st.depth st.word)) ∙ ap (drop 1) vs_are in
      let top = top_items (n - 1) vs in
      let two = moves-then a b c l l2 l3 (restacking n (v ∷ []) next) (reverse top) (moves-then a a b l l1 l2 (restacking n [] next) (v ∷ []) p q) r in
      let turn : v ∷ reverse top ≡ reverse (top ++ v ∷ []) = sym (reverse-append top (v ∷ [])) in
      let all : reverse (top ++ v ∷ []) ≡ reverse (rolled (negsuc (n - 1)) (values_of a l)) =
      ap₂ (λ (ws : List W) (w : W). reverse (top_items (n - 1) ws ++ w ∷ [])) vs-are (e ∙ ap (λ (ws : List W). item ws 1) vs_are) in
      subst (λ (ws : List W). Moves a c l l3 (restacking n ws next)) (turn ∙ all) two
