-- Dictionaries as lists of keys and values.
use Rattle.std.proofs.Common.{◌≡◌, ℕ, zero, suc, ◌≤◌, Bool, true, false, if◌then◌else◌, List, [], ◌∷◌, ◌++◌, length, reverse, Option, Some, None, refl, ap, sym, ◌∙◌, subst, arith}
use Rattle.std.specs.Prelude.{map, option_map, is_some}
use Rattle.std.proofs.lemmas.List.{reverse-reverse}
use Rattle.cap_words.specs.declared.word.Quad.{Quad}
use Rattle.cap_words.specs.Words.{W, Ram, undef, same_word}
use Rattle.cap_words.specs.Seen.{Seen, Slot, OpenSlot, seen, grown}
use Rattle.cap_words.proofs.Same.{word_is, word_same, word_other}
use Rattle.quad_memory.specs.Memory.{Memory}
use Rattle.instr_table.specs.Lists.{Built, linked, last_linked, next_quad, longest}
use Rattle.instr_table.specs.Dictionary.{entry_in, entry_quad, entries_to, entries, first_with, before, copy, dict_set, dict_del}
use Rattle.vm_dict.specs.Made.{Takes}
use Rattle.vm_dict.specs.Calls.{value_at, set_in, deleted_in, added_in}
use Rattle.vm_dict.specs.Dictionaries.{IsDictionary, looked_up, replaced, assigned, left_out, GetsLookedUp, AddsInFront, SetsAssigned, DeletesLeftOut, DictionariesStand}
use Rattle.vm_dict.proofs.Entries.{entries-none, entries-some}
use Rattle.vm_dict.proofs.Copies.{entry-grown, set-none_with, set-first_with, del-none_with, del-first_with}
use Rattle.vm_dict.proofs.Standing.{grown-none, grown-append, next-grown, taken-grown, seen-grown, seen-first, reverse-cons, map-reversed}

-- an entry's key and value
abbrev pair_of : Quad → W × W
pair_of q = (q.x, q.y)

-- ---- a dictionary stays, and gets entries in front

pub dictionary-grown : (s : Seen) (cells : List Slot) (w : W) (es : List (W × W)) → IsDictionary s w es → IsDictionary (grown s cells) w es
dictionary-grown s cells w [] h = (ap entry_in (seen-grown s cells w h.1) ∙ h.0, taken-grown s cells w h.1)
dictionary-grown s cells w (e ∷ es) h = (h.0, entry-grown s cells w h.0 h.1, h.2, h.3, dictionary-grown s cells h.0.z es h.4)

pub dictionary-added : (s : Seen) (w key value : W) (es : List (W × W)) → IsDictionary s w es → IsDictionary (grown s (OpenSlot (entry_quad key value w) ∷ [])) (Ram (next_quad s)) ((key, value) ∷ es)
dictionary-added s w key value es h =
    (entry_quad key value w, ap entry_in (seen-first s (entry_quad key value w) []), refl, refl, dictionary-grown s (OpenSlot (entry_quad key value w) ∷ []) w es h)

dictionary-linked : (s : Seen) (ps : List Quad) (tail : W) (ts : List (W × W)) → IsDictionary s tail ts → IsDictionary (grown s (linked copy (next_quad s) ps tail)) (last_linked (next_quad s) ps tail) (reverse (map pair_of ps) ++ ts)
dictionary-linked s [] tail ts h = subst (λ (x : Seen). IsDictionary x tail ts) (sym (grown-none s)) h
dictionary-linked s (p ∷ ps) tail ts h =
    let n = next_quad s in
    let c = OpenSlot (copy p tail) in
    let mid = grown s (c ∷ []) in
    let next : next_quad mid ≡ suc n = next-grown s (c ∷ []) ∙ omega arith in
    let k = dictionary-linked mid ps (Ram n) (pair_of p ∷ ts) (dictionary-added s tail p.x p.y ts h) in
    let k' = subst (λ (m : ℕ). IsDictionary (grown mid (linked copy m ps (Ram n))) (last_linked m ps (Ram n)) (reverse (map pair_of ps) ++ pair_of p ∷ ts)) next k in
    let k'' = subst (λ (x : Seen). IsDictionary x (last_linked (suc n) ps (Ram n)) (reverse (map pair_of ps) ++ pair_of p ∷ ts)) (grown-append s (c ∷ []) (linked copy (suc n) ps (Ram n))) k' in
    subst (λ (l : List (W × W)). IsDictionary (grown s (c ∷ linked copy (suc n) ps (Ram n))) (last_linked (suc n) ps (Ram n)) l) (sym (reverse-cons (pair_of p) (map pair_of ps) ts)) k''

-- ---- what a dictionary stands for

entries-are : (s : Seen) (m : ℕ) (w : W) (es : List (W × W)) → IsDictionary s w es → length es ≤ m → map pair_of (entries_to s m w) ≡ es
entries-are s m w [] h le = ap (map pair_of) (entries-none s m w h.0)
entries-are s zero w (e ∷ es) h le = absurd (omega arith)
entries-are s (suc m) w (e ∷ es) h le =
    ap (map pair_of) (entries-some s m w h.0 h.1) ∙ ap (λ (l : List (W × W)). pair_of h.0 ∷ l) (entries-are s m h.0.z es h.4 (omega arith)) ∙ (λ i. (h.2 i, h.3 i) ∷ es)

value-looked_up : (key : W) (qs : List Quad) → option_map (λ (e : Quad). e.y) (first_with key qs) ≡ looked_up key (map pair_of qs)
value-looked_up key [] = refl
value-looked_up key (q ∷ qs) = chosen (same_word q.x key) (value-looked_up key qs)
  where
    chosen : (b : Bool) → option_map (λ (e : Quad). e.y) (first_with key qs) ≡ looked_up key (map pair_of qs) → option_map (λ (e : Quad). e.y) (if b then Some q else first_with key qs) ≡ (if b then Some q.y else looked_up key (map pair_of qs))
    chosen true h = refl
    chosen false h = h

pub value-is : (s : Seen) (w key : W) (es : List (W × W)) → IsDictionary s w es → length es ≤ longest → value_at s w key ≡ looked_up key es
value-is s w key es h le = value-looked_up key (entries s w) ∙ ap (looked_up key) (entries-are s longest w es h le)

-- ---- a dictionary, split at the first entry with a key

record Split (s : Seen) (key : W) (es : List (W × W)) (qs : List Quad) (e : Quad) : Type 0 where
  rest : List (W × W)
  stands : IsDictionary s e.z rest
  without : left_out key es ≡ map pair_of (before key qs) ++ rest
  with_new : (value : W) → replaced key value es ≡ map pair_of (before key qs) ++ (key, value) ∷ rest

-- one entry with another key is in front
split-behind : (s : Seen) (key : W) (a : W × W) (es : List (W × W)) (q : Quad) (qs : List Quad) (e : Quad) → same_word a.0 key ≡ false → same_word q.x key ≡ false → a ≡ pair_of q → Split s key es qs e → Split s key (a ∷ es) (q ∷ qs) e
split-behind s key a es q qs e u t head p = record {
  rest = p.rest;
  stands = p.stands;
  without = rw (u, t) (λ i. head i ∷ p.without i);
  with_new = λ value. rw (u, t) (λ i. head i ∷ p.with_new value i);
}

splits : (s : Seen) (key : W) (m : ℕ) (w : W) (es : List (W × W)) (e : Quad) → IsDictionary s w es → length es ≤ m → first_with key (entries_to s m w) ≡ Some e → Split s key es (entries_to s m w) e
splits s key m w [] e h le f =
    let n : first_with key (entries_to s m w) ≡ None = ap (first_with key) (entries-none s m w h.0) in
    let x : None ≡ Some e = sym n ∙ f in
    absurd (cc)
splits s key zero w (a ∷ es) e h le f = absurd (omega arith)
splits s key (suc m) w (a ∷ es) e h le f =
    let all = entries-some s m w h.0 h.1 in
    subst (λ (qs : List Quad). Split s key (a ∷ es) qs e) (sym all)
    (at (same_word h.0.x key) refl (sym (ap (first_with key) all) ∙ f) (λ g. splits s key m h.0.z es e h.4 (omega arith) g))
  where
    at : (b : Bool) → same_word h.0.x key ≡ b → first_with key (h.0 ∷ entries_to s m h.0.z) ≡ Some e → (first_with key (entries_to s m h.0.z) ≡ Some e → Split s key es (entries_to s m h.0.z) e) → Split s key (a ∷ es) (h.0 ∷ entries_to s m h.0.z) e
    at true t g r =
        let u : same_word a.0 key ≡ true = ap (λ (v : W). same_word v key) (sym h.2) ∙ t in
        let k : Some h.0 ≡ Some e = ap (λ (b : Bool). if b then Some h.0 else first_with key (entries_to s m h.0.z)) (sym t) ∙ g in
        let same : h.0 ≡ e = cc in
        record {
          rest = es;
          stands = subst (λ (q : Quad). IsDictionary s q.z es) same h.4;
          without = rw (u, t);
          with_new = λ value. rw (u, t);
        }
    at false t g r =
        let u : same_word a.0 key ≡ false = ap (λ (v : W). same_word v key) (sym h.2) ∙ t in
        let k : first_with key (entries_to s m h.0.z) ≡ Some e = ap (λ (b : Bool). if b then Some h.0 else first_with key (entries_to s m h.0.z)) (sym t) ∙ g in
        split-behind s key a es h.0 (entries_to s m h.0.z) e u t (λ i. (sym h.2 i, sym h.3 i)) (r k)

-- ---- set and delete

-- keys and values in front again
turned-back : (bs : List Quad) → reverse (map pair_of (reverse bs)) ≡ map pair_of bs
turned-back bs = ap (λ (l : List (W × W)). reverse l) (map-reversed pair_of bs) ∙ reverse-reverse (map pair_of bs)

left-none : (key : W) (es : List (W × W)) → looked_up key es ≡ None → left_out key es ≡ es
left-none key [] h = refl
left-none key (e ∷ es) h = at (same_word e.0 key) h (λ g. left-none key es g)
  where
    at : (b : Bool) → (if b then Some e.1 else looked_up key es) ≡ None → (looked_up key es ≡ None → left_out key es ≡ es) → (if b then es else e ∷ left_out key es) ≡ e ∷ es
    at true g r = cc
    at false g r = ap (λ (l : List (W × W)). e ∷ l) (r g)

module _ (s : Seen) (w key : W) (es : List (W × W)) (h : IsDictionary s w es) (le : length es ≤ longest) where
  looked : (o : Option Quad) → first_with key (entries s w) ≡ o → looked_up key es ≡ option_map (λ (e : Quad). e.y) o
  looked o f = sym (value-is s w key es h le) ∙ ap (option_map (λ (e : Quad). e.y)) f

  abbrev IsBuilt : Built → List (W × W) → Type 0
  IsBuilt b fs = IsDictionary (grown s b.cells) b.word fs

  built-set : (value : W) (o : Option Quad) → first_with key (entries s w) ≡ o → IsBuilt (dict_set s (next_quad s) w key value) (assigned key value es)
  built-set value None f =
      let k : looked_up key es ≡ None = looked None f in
      let l : assigned key value es ≡ (key, value) ∷ es = ap (λ (o : Option W). if is_some o then replaced key value es else (key, value) ∷ es) k in
      subst (IsBuilt (dict_set s (next_quad s) w key value)) (sym l)
      (subst (λ (b : Built). IsBuilt b ((key, value) ∷ es)) (sym (set-none_with s (next_quad s) w key value f)) (dictionary-added s w key value es h))
  built-set value (Some e) f =
      let p = splits s key longest w es e h le f in
      let bs = before key (entries s w) in
      let new = entry_quad key value undef in
      let k : looked_up key es ≡ Some e.y = looked (Some e) f in
      let l : assigned key value es ≡ replaced key value es = ap (λ (o : Option W). if is_some o then replaced key value es else (key, value) ∷ es) k in
      let m : reverse (map pair_of (new ∷ reverse bs)) ++ p.rest ≡ assigned key value es =
      reverse-cons (key, value) (map pair_of (reverse bs)) p.rest ∙ ap (λ (x : List (W × W)). x ++ (key, value) ∷ p.rest) (turned-back bs) ∙ sym (p.with_new value) ∙ sym l in
      subst (IsBuilt (dict_set s (next_quad s) w key value)) m
      (subst (λ (b : Built). IsBuilt b (reverse (map pair_of (new ∷ reverse bs)) ++ p.rest)) (sym (set-first_with s (next_quad s) w key value e f))
      (dictionary-linked s (new ∷ reverse bs) e.z p.rest p.stands))

  built-del : (o : Option Quad) → first_with key (entries s w) ≡ o → IsBuilt (dict_del s (next_quad s) w key) (left_out key es)
  built-del None f =
      let k : looked_up key es ≡ None = looked None f in
      subst (IsBuilt (dict_del s (next_quad s) w key)) (sym (left-none key es k))
      (subst (λ (b : Built). IsBuilt b es) (sym (del-none_with s (next_quad s) w key f)) (dictionary-grown s [] w es h))
  built-del (Some e) f =
      let p = splits s key longest w es e h le f in
      let bs = before key (entries s w) in
      let m : reverse (map pair_of (reverse bs)) ++ p.rest ≡ left_out key es = ap (λ (x : List (W × W)). x ++ p.rest) (turned-back bs) ∙ sym p.without in
      subst (IsBuilt (dict_del s (next_quad s) w key)) m
      (subst (λ (b : Built). IsBuilt b (reverse (map pair_of (reverse bs)) ++ p.rest)) (sym (del-first_with s (next_quad s) w key e f))
      (dictionary-linked s (reverse bs) e.z p.rest p.stands))

-- ---- the laws of the calls

after : (old new : Memory) (cells : List Slot) (w : W) (es : List (W × W)) → Takes old new cells → IsDictionary (grown (seen old.store) cells) w es → IsDictionary (seen new.store) w es
after old new cells w es t h = subst (λ (x : Seen). IsDictionary x w es) (sym t.seen_is) h

pub gets_looked_up : GetsLookedUp
gets_looked_up = λ m dict key es h le. value-is (seen m.store) dict key es h le

pub adds_in_front : AddsInFront
adds_in_front = λ old new dict key value es h t. after old new (added_in old dict key value).cells (added_in old dict key value).word ((key, value) ∷ es) t (dictionary-added (seen old.store) dict key value es h)

pub sets_assigned : SetsAssigned
sets_assigned = λ old new dict key value es h le t. after old new (set_in old dict key value).cells (set_in old dict key value).word (assigned key value es) t (built-set (seen old.store) dict key es h le value (first_with key (entries (seen old.store) dict)) refl)

pub deletes_left_out : DeletesLeftOut
deletes_left_out = λ old new dict key es h le t. after old new (deleted_in old dict key).cells (deleted_in old dict key).word (left_out key es) t (built-del (seen old.store) dict key es h le (first_with key (entries (seen old.store) dict)) refl)

pub dictionaries_stand : DictionariesStand
dictionaries_stand = λ old new cells dict es h t. after old new cells dict es t (dictionary-grown (seen old.store) cells dict es h)

-- ---- the laws of the list's operations

replaced-same : (key value : W) (es : List (W × W)) (v : W) → looked_up key es ≡ Some v → looked_up key (replaced key value es) ≡ Some value
replaced-same key value [] v h = cc
replaced-same key value (e ∷ es) v h = at (same_word e.0 key) refl h (λ g. replaced-same key value es v g)
  where
    at : (b : Bool) → same_word e.0 key ≡ b → (if b then Some e.1 else looked_up key es) ≡ Some v → (looked_up key es ≡ Some v → looked_up key (replaced key value es) ≡ Some value) → looked_up key (if b then (key, value) ∷ es else e ∷ replaced key value es) ≡ Some value
    at true t g r = let k = word_is key in rw k
    at false t g r = rw t (r g)

pub assigned-same : (key value : W) (es : List (W × W)) → looked_up key (assigned key value es) ≡ Some value
assigned-same key value es = at (looked_up key es) refl
  where
    at : (o : Option W) → looked_up key es ≡ o → looked_up key (if is_some o then replaced key value es else (key, value) ∷ es) ≡ Some value
    at None h = let k = word_is key in rw k
    at (Some v) h = replaced-same key value es v h

-- a key in front that is another one
other-front : (key value other : W) (es : List (W × W)) → (key ≡ other → ⊥) → looked_up other ((key, value) ∷ es) ≡ looked_up other es
other-front key value other es f = let k = word_other key other f in rw k

replaced-other : (key value other : W) (es : List (W × W)) → (key ≡ other → ⊥) → looked_up other (replaced key value es) ≡ looked_up other es
replaced-other key value other [] f = refl
replaced-other key value other (e ∷ es) f = at (same_word e.0 key) refl (replaced-other key value other es f)
  where
    at : (b : Bool) → same_word e.0 key ≡ b → looked_up other (replaced key value es) ≡ looked_up other es → looked_up other (if b then (key, value) ∷ es else e ∷ replaced key value es) ≡ looked_up other (e ∷ es)
    at true t r =
        let same : e.0 ≡ key = word_same e.0 key t in
        let u : same_word e.0 other ≡ false = word_other e.0 other (λ x. f (sym same ∙ x)) in
        other-front key value other es f ∙ sym (rw u)
    at false t r = ap (λ (o : Option W). if same_word e.0 other then Some e.1 else o) r

pub assigned-other : (key value other : W) (es : List (W × W)) → (key ≡ other → ⊥) → looked_up other (assigned key value es) ≡ looked_up other es
assigned-other key value other es f = at (is_some (looked_up key es))
  where
    at : (b : Bool) → looked_up other (if b then replaced key value es else (key, value) ∷ es) ≡ looked_up other es
    at true = replaced-other key value other es f
    at false = other-front key value other es f

pub left-other : (key other : W) (es : List (W × W)) → (key ≡ other → ⊥) → looked_up other (left_out key es) ≡ looked_up other es
left-other key other [] f = refl
left-other key other (e ∷ es) f = at (same_word e.0 key) refl (left-other key other es f)
  where
    at : (b : Bool) → same_word e.0 key ≡ b → looked_up other (left_out key es) ≡ looked_up other es → looked_up other (if b then es else e ∷ left_out key es) ≡ looked_up other (e ∷ es)
    at true t r =
        let same : e.0 ≡ key = word_same e.0 key t in
        let u : same_word e.0 other ≡ false = word_other e.0 other (λ x. f (sym same ∙ x)) in
        sym (rw u)
    at false t r = ap (λ (o : Option W). if same_word e.0 other then Some e.1 else o) r
