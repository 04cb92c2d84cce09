-- What the rows charge whose charge depends on the state.
use Rattle.std.proofs.Common.{◌≡◌, ℕ, suc, ◌+◌, ◌<◌, nat_lt, if◌then◌else◌, pos, Bool, true, false, List, [], ◌∷◌, length, reverse, length-append, Option, Some, None, refl, ap, sym, ◌∙◌, cond, not, arith}
use Rattle.std.specs.Ordering.{int_eq}
use Rattle.std.specs.List.{position_or_len}
use Rattle.std.proofs.lemmas.List.{length-reverse}
use Rattle.std.proofs.lemmas.Bool.Decides.{nat_tests}
use Rattle.cap_words.specs.declared.word.Quad.{Quad}
use Rattle.cap_words.specs.Words.{W, same_word, undef}
use Rattle.cap_words.specs.Seen.{Seen, OpenSlot, cell_seen}
use Rattle.instr_table.specs.declared.op.Op.TheVariants.{Push, Dup, Drop, Pick, Roll, Depth, Pair, Part, Nth, QuadMake, QuadTake, Get, Typeq, Eq, Cmp, AluNot, Alu, If, Jump, Msg, State, My, ActorSend, ActorPost, ActorCreate, ActorAssign, ActorBecome, End, DictTest, DictPut, DictDel, DequeNew, DequeTest, DequePut, DequeTake, SponsorNew, SponsorGrant, SponsorReclaim, SponsorStart, SponsorStop, Assert, Debug}
use Rattle.instr_table.specs.Spelling.{costs}
use Rattle.instr_table.specs.Lists.{Built, next_quad, item, items, pair_in}
use Rattle.instr_table.specs.Dictionary.{entry_quad, entries, first_with, before, copy, set_at, del_at, dict_set, dict_added, dict_del}
use Rattle.instr_table.specs.Deque.{ends, Taking, taken_from, taking, deque_quad}
use Rattle.instr_table.specs.Outcome.{Row, charge, gives}
use Rattle.instr_table.specs.SponsorRows.{most_sponsors}
use Rattle.instr_table.specs.Row.{popped, pulled}
use Rattle.instr_table.specs.ByState.{place_of_key, set_quads, del_quads, take_quads, ChargesByState}
use Rattle.instr_table.proofs.Charges.{length-linked, length-turned}

quads_are : (a b : ℕ) → a ≡ b → charge a 0 ≡ charge b 0
quads_are a b h = ap (λ (q : ℕ). charge q 0) h

-- ---- dictionaries

module _ (key : W) where
  abbrev has_key : Quad → Bool
  has_key e = same_word e.x key

  -- as many entries stand before the first one with the key as its place says
  place-before : (es : List Quad) → position_or_len has_key es ≡ length (before key es)
  place-before [] = refl
  place-before (e ∷ es) = by (has_key e) (place-before es)
    where
      by : (b : Bool) → position_or_len has_key es ≡ length (before key es) → cond (not b) (1 + position_or_len has_key es) 0 ≡ length (if b then [] else e ∷ before key es)
      by true r = refl
      by false r = omega arith

  before-within : (es : List Quad) (e : Quad) → first_with key es ≡ Some e → length (before key es) < length es
  before-within [] e h = cc
  before-within (d ∷ es) e h = by (has_key d) (before-within es e) h
    where
      by : (b : Bool) → (first_with key es ≡ Some e → length (before key es) < length es) → (if b then Some d else first_with key es) ≡ Some e → length (if b then [] else d ∷ before key es) < suc (length es)
      by true r g = omega arith
      by false r g = let low = r g in omega arith

  before-all : (es : List Quad) → first_with key es ≡ None → length (before key es) ≡ length es
  before-all [] h = refl
  before-all (d ∷ es) h = by (has_key d) (before-all es) h
    where
      by : (b : Bool) → (first_with key es ≡ None → length (before key es) ≡ length es) → (if b then Some d else first_with key es) ≡ None → length (if b then [] else d ∷ before key es) ≡ suc (length es)
      by true r g = cc
      by false r g = ap suc (r g)

  placed : (es : List Quad) (e : Quad) → first_with key es ≡ Some e → place_of_key key es ≡ Some (length (before key es))
  placed es e h =
      let p = place-before es in
      let low = before-within es e h in
      grind (arith, nat_tests)

  not_placed : (es : List Quad) → first_with key es ≡ None → place_of_key key es ≡ None
  not_placed es h =
      let p = place-before es in
      let all = before-all es h in
      grind (arith, nat_tests)

  module _ (n : ℕ) (es : List Quad) (w : W) where
    set-at_quads : (value : W) (o : Option Quad) → first_with key es ≡ o → length (set_at o n es w key value).cells + 1 ≡ set_quads (place_of_key key es)
    set-at_quads value None h = ap set_quads (sym (not_placed es h))
    set-at_quads value (Some e) h =
        let l = length-linked copy n (entry_quad key value undef ∷ reverse (before key es)) e.z in
        let r = length-reverse (before key es) in
        let sum : length (set_at (Some e) n es w key value).cells + 1 ≡ length (before key es) + 2 = omega arith in
        sum ∙ ap set_quads (sym (placed es e h))

    del-at_quads : (o : Option Quad) → first_with key es ≡ o → length (del_at o n es w key).cells + 1 ≡ del_quads (place_of_key key es)
    del-at_quads None h = ap del_quads (sym (not_placed es h))
    del-at_quads (Some e) h =
        let l = length-linked copy n (reverse (before key es)) e.z in
        let r = length-reverse (before key es) in
        let sum : length (del_at (Some e) n es w key).cells + 1 ≡ length (before key es) + 1 = omega arith in
        sum ∙ ap del_quads (sym (placed es e h))

set-quads : (s : Seen) (n : ℕ) (w key value : W) → length (dict_set s n w key value).cells + 1 ≡ set_quads (place_of_key key (entries s w))
unfolding dict_set
set-quads s n w key value = set-at_quads key n (entries s w) w value (first_with key (entries s w)) refl

del-quads : (s : Seen) (n : ℕ) (w key : W) → length (dict_del s n w key).cells + 1 ≡ del_quads (place_of_key key (entries s w))
unfolding dict_del
del-quads s n w key = del-at_quads key n (entries s w) w (first_with key (entries s w)) refl

put_charged : (b : Bool) (x y : Built) (k : W) (quads : ℕ) → (if b then None else costs 2 0) ≡ None → length x.cells + 1 ≡ quads → (gives 3 (if b then x else y) k).charge ≡ charge quads 0
put_charged true x y k quads h e = quads_are _ _ e
put_charged false x y k quads h e = absurd cc

-- ---- deques

taken-quads : (o : Option Quad) (n : ℕ) (far_items : List W) (far : W) → 3 + length (taken_from o n far_items far).cells ≡ take_quads o far_items
taken-quads (Some q) n far_items far = refl
taken-quads None n far_items far = ap (λ (m : ℕ). 3 + m) (length-turned n far_items)

taking-quads : (s : Seen) (n : ℕ) (near far : W) → 3 + length (taking s n near far).cells ≡ take_quads (pair_in (cell_seen s near)) (items s far)
unfolding taking
taking-quads s n near far = taken-quads (pair_in (cell_seen s near)) n (items s far) far

popped-charged : (n : ℕ) (t : Taking) (k : W) (quads : ℕ) → 3 + length t.cells ≡ quads → (popped n t k).charge ≡ charge quads 0
popped-charged n t k quads h = let l = length-append t.cells (OpenSlot (deque_quad t.near t.far) ∷ []) in quads_are _ _ (omega arith)

pulled-charged : (n : ℕ) (t : Taking) (k : W) (quads : ℕ) → 3 + length t.cells ≡ quads → (pulled n t k).charge ≡ charge quads 0
pulled-charged n t k quads h = let l = length-append t.cells (OpenSlot (deque_quad t.far t.near) ∷ []) in quads_are _ _ (omega arith)

take_charged : (b : Bool) (n : ℕ) (t u : Taking) (k : W) (x y : ℕ) → 3 + length t.cells ≡ x → 3 + length u.cells ≡ y → (if b then popped n t k else pulled n u k).charge ≡ charge (if b then x else y) 0
take_charged true n t u k x y h g = popped-charged n t k x h
take_charged false n t u k x y h g = pulled-charged n u k y g

-- ---- sponsors

new_charged : (b : Bool) (r q : Row) → r.charge ≡ charge 3 0 → q.charge ≡ charge 1 0 → (if b then r else q).charge ≡ charge (if b then 3 else 1) 0
new_charged true r q h g = h
new_charged false r q h g = g

-- ---- the law

pub charges-by_state : ChargesByState
charges-by_state own (Push v) s sheet e vs k h = absurd cc
charges-by_state own (Dup n) s sheet e vs k h = absurd cc
charges-by_state own (Drop n) s sheet e vs k h = absurd cc
charges-by_state own (Pick n) s sheet e vs k h = absurd cc
charges-by_state own (Roll n) s sheet e vs k h = absurd cc
charges-by_state own Depth s sheet e vs k h = absurd cc
charges-by_state own (Pair n) s sheet e vs k h = absurd cc
charges-by_state own (Part n) s sheet e vs k h = absurd cc
charges-by_state own (Nth n) s sheet e vs k h = absurd cc
charges-by_state own (QuadMake n) s sheet e vs k h = absurd cc
charges-by_state own (QuadTake n) s sheet e vs k h = absurd cc
charges-by_state own (Get n) s sheet e vs k h = absurd cc
charges-by_state own (Typeq t) s sheet e vs k h = absurd cc
charges-by_state own (Eq v) s sheet e vs k h = absurd cc
charges-by_state own (Cmp n) s sheet e vs k h = absurd cc
charges-by_state own AluNot s sheet e vs k h = absurd cc
charges-by_state own (Alu n) s sheet e vs k h = absurd cc
charges-by_state own (If label) s sheet e vs k h = absurd cc
charges-by_state own Jump s sheet e vs k h = absurd cc
charges-by_state own (Msg n) s sheet e vs k h = absurd cc
charges-by_state own (State n) s sheet e vs k h = absurd cc
charges-by_state own (My n) s sheet e vs k h = absurd cc
charges-by_state own ActorSend s sheet e vs k h = absurd cc
charges-by_state own ActorPost s sheet e vs k h = absurd cc
charges-by_state own ActorCreate s sheet e vs k h = absurd cc
charges-by_state own ActorAssign s sheet e vs k h = absurd cc
charges-by_state own ActorBecome s sheet e vs k h = absurd cc
charges-by_state own (End n) s sheet e vs k h = absurd cc
charges-by_state own (DictTest n) s sheet e vs k h = absurd cc
charges-by_state own (DictPut n) s sheet e vs k h =
    put_charged (int_eq n (pos 3)) (dict_set s (next_quad s) (item vs 3) (item vs 2) (item vs 1)) (dict_added (next_quad s) (item vs 3) (item vs 2) (item vs 1)) k _ h (set-quads s (next_quad s) (item vs 3) (item vs 2) (item vs 1))
charges-by_state own DictDel s sheet e vs k h = quads_are _ _ (del-quads s (next_quad s) (item vs 2) (item vs 1))
charges-by_state own DequeNew s sheet e vs k h = absurd cc
charges-by_state own (DequeTest n) s sheet e vs k h = absurd cc
charges-by_state own (DequePut n) s sheet e vs k h = absurd cc
charges-by_state own (DequeTake n) s sheet e vs k h =
    let d = ends s (item vs 1) in
    take_charged (int_eq n (pos 3)) (next_quad s) (taking s (next_quad s) d.front d.back) (taking s (next_quad s) d.back d.front) k _ _ (taking-quads s (next_quad s) d.front d.back) (taking-quads s (next_quad s) d.back d.front)
charges-by_state own SponsorNew s sheet e vs k h = new_charged (nat_lt (length sheet) most_sponsors) _ _ refl refl
charges-by_state own (SponsorGrant n) s sheet e vs k h = absurd cc
charges-by_state own SponsorReclaim s sheet e vs k h = absurd cc
charges-by_state own SponsorStart s sheet e vs k h = absurd cc
charges-by_state own SponsorStop s sheet e vs k h = absurd cc
charges-by_state own (Assert v) s sheet e vs k h = absurd cc
charges-by_state own Debug s sheet e vs k h = absurd cc
