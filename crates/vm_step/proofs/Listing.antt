-- Results that the operations on dictionaries and deques make.
use Rattle.std.proofs.Common.{◌≡◌, ℕ, ◌+◌, List, [], ◌∷◌, ℤ, pos, Bool, true, false, if◌then◌else◌, refl, ap, ap₂, sym, ◌∙◌, subst, arith, length}
use Rattle.std.specs.Ordering.{int_eq}
use Rattle.cap_words.specs.Words.{W}
use Rattle.cap_words.specs.Seen.{seen}
use Rattle.quad_memory.specs.Memory.{Memory}
use Rattle.instr_table.specs.Lists.{next_quad, Built}
use Rattle.instr_table.specs.Deque.{ends, Taking, taking}
use Rattle.instr_table.specs.Event.{Nothing}
use Rattle.instr_table.specs.Outcome.{Row, goes, does, gives}
use Rattle.instr_table.specs.Row.{take_row, popped, pulled}
use Rattle.vm_dict.specs.Made.{Takes}
use Rattle.vm_dict.specs.Calls.{popped_in, pulled_in, from_front, from_back}
use Rattle.vm_step.specs.declared.lane.Lane.{Lane}
use Rattle.vm_step.specs.declared.lane.StepEnd.{StepEnd}
use Rattle.vm_step.specs.declared.lane.StepEnd.TheVariants.{Going as GoingOn}
use Rattle.vm_step.specs.Moves.{Ready, Moves, Turns, restacking}
use Rattle.vm_step.specs.TakenItems.{taken_in, taken_value}
use Rattle.vm_step.proofs.Moving.{moves-then, ready-moves, ready-takes, takes-turns}
use Rattle.vm_step.proofs.Making.{gives-made}

-- one item of a result's cells
pub built-ready : (a b : Memory) (l : Lane) (x y : Built) → y ≡ x → Ready a l (length x.cells + 1) → Takes a b y.cells → Ready b l 1
built-ready a b l x y e r t = ready-takes a b l (length x.cells + 1) 1 x.cells r (subst (λ (z : Built). Takes a b z.cells) e t) (omega arith)

pub built-gives : (a b c : Memory) (l o : Lane) (x y : Built) (pops : ℕ) (word next : W) (end : StepEnd) → y ≡ x → Ready a l (length x.cells + 1) → Takes a b y.cells → word ≡ y.word → Turns b c l o (goes pops (word ∷ []) next).outcome end
    → Turns a c l o (gives pops x next).outcome end
built-gives a b c l o x y pops word next end e r t w k =
    gives-made a b c l o (length x.cells + 1) x pops word next end r (subst (λ (z : Built). Takes a b z.cells) e t) (w ∙ ap (λ (z : Built). z.word) e) k

-- ---- what is taken from a deque

by_end : (b : Bool) (n : ℕ) (front back : Taking) (x y : Built) (v w : W) (k : W) → popped n front k ≡ does 1 x.cells (x.word ∷ v ∷ []) k Nothing → pulled n back k ≡ does 1 y.cells (y.word ∷ w ∷ []) k Nothing
    → (if b then popped n front k else pulled n back k) ≡ does 1 (if b then x else y).cells ((if b then x else y).word ∷ (if b then v else w) ∷ []) k Nothing
by_end true n front back x y v w k e f = e
by_end false n front back x y v w k e f = f

pub take-row : (n : ℤ) (m : Memory) (w k : W) → take_row n (seen m.store) (ends (seen m.store) w) k ≡ does 1 (taken_in n m w).cells ((taken_in n m w).word ∷ taken_value n m w ∷ []) k Nothing
take-row n m w k =
    let s = seen m.store in
    let d = ends s w in
    by_end (int_eq n (pos 3)) (next_quad s) (taking s (next_quad s) d.front d.back) (taking s (next_quad s) d.back d.front) (popped_in m w) (pulled_in m w) (from_front m w).value (from_back m w).value k refl refl

module _ (a b : Memory) (l : Lane) (n : ℤ) (v w next : W) (e : w ≡ v) (r : Ready a l (take_row n (seen a.store) (ends (seen a.store) v) next).charge.quads) (t : Takes a b (taken_in n a w).cells) where
  room : Ready a l (length (taken_in n a v).cells + 2)
  room = subst (λ (x : Row). Ready a l x.charge.quads) (take-row n a v next) r

  took : Takes a b (taken_in n a v).cells
  took = subst (λ (x : W). Takes a b (taken_in n a x).cells) e t

  two : Ready b l 2
  two = ready-takes a b l (length (taken_in n a v).cells + 2) 2 (taken_in n a v).cells room took (omega arith)

  pub taken-ready : Ready b l 0
  taken-ready = ready-takes a b l (length (taken_in n a v).cells + 2) 0 (taken_in n a v).cells room took (omega arith)

  pub taken-first : (l1 : Lane) → Moves b b l l1 (restacking 1 [] next) → Ready b l1 1
  taken-first l1 p = ready-moves b b l l1 (restacking 1 [] next) 2 1 two p (omega arith)

  pub taken-second : (c : Memory) (l1 l2 : Lane) (deque : W) → Moves b b l l1 (restacking 1 [] next) → Moves b c l1 l2 (restacking 0 (deque ∷ []) l1.code) → Ready c l2 1
  taken-second c l1 l2 deque p q = ready-moves b c l l2 (restacking 1 (deque ∷ []) next) 2 1 two (moves-then b b c l l1 l2 (restacking 1 [] next) (deque ∷ []) p q) (omega arith)

  pub taken-turns : (c d : Memory) (l1 l2 l3 : Lane) (deque value : W) → deque ≡ (taken_in n a w).word → value ≡ taken_value n a w → Moves b b l l1 (restacking 1 [] next) → Moves b c l1 l2 (restacking 0 (deque ∷ []) l1.code)
      → Moves c d l2 l3 (restacking 0 (value ∷ []) l2.code) → Turns a d l l3 (take_row n (seen a.store) (ends (seen a.store) v) next).outcome GoingOn
  taken-turns c d l1 l2 l3 deque value f g p q s =
      let all = moves-then b c d l l2 l3 (restacking 1 (deque ∷ []) next) (value ∷ []) (moves-then b b c l l1 l2 (restacking 1 [] next) (deque ∷ []) p q) s in
      let named = ap₂ (λ (x y : W). x ∷ y ∷ []) (f ∙ ap (λ (x : W). (taken_in n a x).word) e) (g ∙ ap (taken_value n a) e) in
      subst (λ (x : Row). Turns a d l l3 x.outcome GoingOn) (sym (take-row n a v next))
      (takes-turns a b d l l3 (length (taken_in n a v).cells + 2) (taken_in n a v).cells 1 ((taken_in n a v).word ∷ taken_value n a v ∷ []) next GoingOn room took
      (refl, subst (λ (ws : List W). Moves b d l l3 (restacking 1 ws next)) named all))
