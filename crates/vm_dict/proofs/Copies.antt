-- Entries that are copied in front of a tail.
use Rattle.std.proofs.Common.{◌≡◌, ℕ, zero, suc, ◌+◌, ◌<◌, ◌≤◌, List, [], ◌∷◌, ◌++◌, length, reverse, Option, Some, None, refl, ap, sym, ◌∙◌, subst, arith, add-one}
use Rattle.std.specs.Prelude.{option_map}
use Rattle.std.proofs.lemmas.List.{length-reverse, reverse-append}
use Rattle.cap_words.specs.declared.word.Quad.{Quad}
use Rattle.cap_words.specs.Words.{W, Ram, undef}
use Rattle.cap_words.specs.Store.{used}
use Rattle.cap_words.specs.Seen.{Seen, Slot, OpenSlot, seen, grown, cell_seen}
use Rattle.quad_memory.specs.Memory.{Memory}
use Rattle.instr_table.specs.Lists.{Built, chained, linked, last_linked, next_quad, longest}
use Rattle.instr_table.specs.Dictionary.{entry_in, entry_quad, entries_to, entries, first_with, before, copy, dict_set, dict_del, dict_added}
use Rattle.instr_table.proofs.Charges.{length-linked}
use Rattle.vm_dict.specs.declared.dict.Found.{Found}
use Rattle.vm_dict.specs.Made.{Takes, HasRoom}
use Rattle.vm_dict.specs.Calls.{copied_in, found, set_in}
use Rattle.vm_dict.proofs.Taking.{cell-grown, takes-none, takes-append, takes-cons, next-takes, used-takes, room-takes}
use Rattle.vm_dict.proofs.Entries.{entries-zero, entries-none, entries-some, entries-whole, before-first}

-- ---- cells that are linked, one more of them

pub linked-more : {A : Type 0} (f : A → W → Quad) (n : ℕ) (xs : List A) (x : A) (tail : W) → linked f n (xs ++ x ∷ []) tail ≡ linked f n xs tail ++ OpenSlot (f x (last_linked n xs tail)) ∷ []
linked-more f n [] x tail = refl
linked-more f n (y ∷ xs) x tail = ap (λ (l : List Slot). OpenSlot (f y tail) ∷ l) (linked-more f (suc n) xs x (Ram n))

pub last-more : {A : Type 0} (n : ℕ) (xs : List A) (x : A) (tail : W) → last_linked n (xs ++ x ∷ []) tail ≡ Ram (n + length xs)
last-more n [] x tail = ap Ram (omega arith)
last-more n (y ∷ xs) x tail = last-more (suc n) xs x (Ram n) ∙ ap Ram (omega arith)

-- ---- a dictionary after cells were taken

pub entry-grown : (s : Seen) (cells : List Slot) (w : W) (e : Quad) → entry_in (cell_seen s w) ≡ Some e → entry_in (cell_seen (grown s cells) w) ≡ Some e
entry-grown s cells w e h = from (cell_seen s w) refl
  where
    from : (o : Option Quad) → cell_seen s w ≡ o → entry_in (cell_seen (grown s cells) w) ≡ Some e
    from None k = let n : entry_in (cell_seen s w) ≡ None = ap entry_in k in cc
    from (Some q) k = ap entry_in (cell-grown s cells w q k ∙ sym k) ∙ h

pub entries-grown : (s : Seen) (cells : List Slot) (n : ℕ) (w : W) → length (entries_to s n w) ≡ n → entries_to (grown s cells) n w ≡ entries_to s n w
entries-grown s cells zero w h = entries-zero (grown s cells) w ∙ sym (entries-zero s w)
entries-grown s cells (suc n) w h =
    let e = entries-whole s n w h in
    entries-some (grown s cells) n w e.0 (entry-grown s cells w e.0 e.1) ∙ ap (λ (l : List Quad). e.0 ∷ l) (entries-grown s cells n e.0.z e.2) ∙ sym (entries-some s n w e.0 e.1)

-- ---- the first entries copied

length-copied : (m : Memory) (count : ℕ) (dict tail : W) → length (entries_to (seen m.store) count dict) ≡ count → length (copied_in m count dict tail).cells ≡ count
length-copied m count dict tail h = length-linked copy (next_quad (seen m.store)) (reverse (entries_to (seen m.store) count dict)) tail ∙ length-reverse (entries_to (seen m.store) count dict) ∙ h

-- no entry
pub copied-none : (m : Memory) (dict tail : W) → Takes m m (copied_in m 0 dict tail).cells × (tail ≡ (copied_in m 0 dict tail).word)
copied-none m dict tail =
    subst (λ (es : List Quad). Takes m m (chained copy (next_quad (seen m.store)) (reverse es) tail).cells × (tail ≡ (chained copy (next_quad (seen m.store)) (reverse es) tail).word))
    (sym (entries-zero (seen m.store) dict)) (takes-none m, refl)

-- one entry, after those behind it
pub record Copied (old new : Memory) (count : ℕ) (dict tail word : W) : Type 0 where
  pub cells : Takes old new (copied_in old count dict tail).cells
  pub word_is : word ≡ (copied_in old count dict tail).word

pub copied-more : (old mid new : Memory) (c k : ℕ) (dict tail next word : W) (e : Quad) → c ≡ suc k → Some e ≡ entry_in (cell_seen (seen old.store) dict) → length (entries_to (seen old.store) k e.z) ≡ k → Copied old mid k e.z tail next → Takes mid new (OpenSlot (entry_quad e.x e.y next) ∷ []) → word ≡ Ram (next_quad (seen mid.store)) → Copied old new c dict tail word
copied-more old mid new c k dict tail next word e ce is whole h t we =
    let s = seen old.store in
    let n = next_quad s in
    let es = entries_to s k e.z in
    let all : reverse (entries_to s c dict) ≡ reverse es ++ e ∷ [] =
    ap (λ (m : ℕ). reverse (entries_to s m dict)) ce ∙ ap (λ (l : List Quad). reverse l) (entries-some s k dict e (sym is)) ∙ reverse-append (e ∷ []) es in
    let cells : (copied_in old k e.z tail).cells ++ OpenSlot (entry_quad e.x e.y next) ∷ [] ≡ (copied_in old c dict tail).cells =
    ap (λ (v : W). linked copy n (reverse es) tail ++ OpenSlot (entry_quad e.x e.y v) ∷ []) h.word_is
    ∙ sym (ap (λ (l : List Quad). linked copy n l tail) all ∙ linked-more copy n (reverse es) e tail) in
    let place : next_quad (seen mid.store) ≡ n + length (reverse es) =
    next-takes old mid (copied_in old k e.z tail).cells h.cells ∙ ap (λ (m : ℕ). n + m) (length-linked copy n (reverse es) tail) in
    record {
      cells = subst (λ (l : List Slot). Takes old new l) cells (takes-append old mid new (copied_in old k e.z tail).cells (OpenSlot (entry_quad e.x e.y next) ∷ []) h.cells t);
      word_is = we ∙ ap Ram place ∙ sym (ap (λ (l : List Quad). last_linked n l tail) all ∙ last-more n (reverse es) e tail);
    }

-- the entries behind the first one are there
pub copied-whole : (s : Seen) (c k : ℕ) (dict : W) (e : Quad) → c ≡ suc k → length (entries_to s c dict) ≡ c → Some e ≡ entry_in (cell_seen s dict) → length (entries_to s k e.z) ≡ k
copied-whole s c k dict e ce whole is =
    let l : length (entries_to s c dict) ≡ suc (length (entries_to s k e.z)) = ap (λ (n : ℕ). length (entries_to s n dict)) ce ∙ ap length (entries-some s k dict e (sym is)) in
    omega arith

pub copied-there : (s : Seen) (c : ℕ) (dict : W) → (c ≡ 0 → ⊥) → length (entries_to s c dict) ≡ c → None ≡ entry_in (cell_seen s dict) → ⊥
copied-there s c dict some whole is = let l : length (entries_to s c dict) ≡ 0 = ap length (entries-none s c dict (sym is)) in some (omega arith)

-- room for one more
pub copied-room : (old mid : Memory) (c k : ℕ) (dict tail : W) → c ≡ suc k → length (entries_to (seen old.store) k dict) ≡ k → Takes old mid (copied_in old k dict tail).cells → used old.store + c ≤ old.room → used mid.store < mid.room
copied-room old mid c k dict tail ce whole t h =
    let l = length-copied old k dict tail whole in
    let u = used-takes old mid (copied_in old k dict tail).cells t in
    let r = room-takes old mid (copied_in old k dict tail).cells t in
    omega arith

-- ---- what a search found

found-parts : (key : W) (es : List Quad) (f : Found) → Some f ≡ found key es → (first_with key es ≡ Some f.entry) × (f.before ≡ length (before key es))
found-parts key es f h = from (first_with key es) refl
  where
    from : (o : Option Quad) → first_with key es ≡ o → (first_with key es ≡ Some f.entry) × (f.before ≡ length (before key es))
    from None k =
        let n : found key es ≡ None = ap (option_map (λ (e : Quad). record { before = length (before key es); entry = e })) k in
        let x : Some f ≡ None = h ∙ n in cc
    from (Some e) k =
        let n : found key es ≡ Some (record { before = length (before key es); entry = e }) = ap (option_map (λ (e : Quad). record { before = length (before key es); entry = e })) k in
        let x : f ≡ record { before = length (before key es); entry = e } = (let y = h ∙ n in cc) in
        (k ∙ ap (λ (g : Found). Some g.entry) (sym x), ap (λ (g : Found). g.before) x)

found-none : (key : W) (es : List Quad) → None ≡ found key es → first_with key es ≡ None
found-none key es h = from (first_with key es) refl
  where
    from : (o : Option Quad) → first_with key es ≡ o → first_with key es ≡ None
    from None k = k
    from (Some e) k =
        let n : found key es ≡ Some (record { before = length (before key es); entry = e }) = ap (option_map (λ (e : Quad). record { before = length (before key es); entry = e })) k in
        let x : found key es ≡ None = sym h in cc

-- the value
pub value-found : (key : W) (es : List Quad) (f : Found) → Some f ≡ found key es → Some f.entry.y ≡ option_map (λ (e : Quad). e.y) (first_with key es)
value-found key es f h = sym (ap (option_map (λ (e : Quad). e.y)) (found-parts key es f h).0)

pub value-none : (key : W) (es : List Quad) → None ≡ found key es → None ≡ option_map (λ (e : Quad). e.y) (first_with key es)
value-none key es h = sym (ap (option_map (λ (e : Quad). e.y)) (found-none key es h))

-- the entries before it are there
pub found-whole : (s : Seen) (dict key : W) (f : Found) → Some f ≡ found key (entries s dict) → length (entries_to s f.before dict) ≡ f.before
found-whole s dict key f h =
    let p = (found-parts key (entries s dict) f h).1 in
    subst (λ (n : ℕ). length (entries_to s n dict) ≡ n) (sym p) (ap length (sym (before-first s longest dict key)))

found-before : (s : Seen) (dict key : W) (f : Found) → Some f ≡ found key (entries s dict) → before key (entries s dict) ≡ entries_to s f.before dict
found-before s dict key f h = before-first s longest dict key ∙ ap (λ (n : ℕ). entries_to s n dict) (sym (found-parts key (entries s dict) f h).1)

-- ---- the results, by the first entry with the key

pub set-none_with : (s : Seen) (n : ℕ) (dict key value : W) → first_with key (entries s dict) ≡ None → dict_set s n dict key value ≡ dict_added n dict key value
unfolding dict_set
set-none_with s n dict key value h = rw h

pub set-first_with : (s : Seen) (n : ℕ) (dict key value : W) (e : Quad) → first_with key (entries s dict) ≡ Some e → dict_set s n dict key value ≡ chained copy n (entry_quad key value undef ∷ reverse (before key (entries s dict))) e.z
unfolding dict_set
set-first_with s n dict key value e h = rw h

pub del-none_with : (s : Seen) (n : ℕ) (dict key : W) → first_with key (entries s dict) ≡ None → dict_del s n dict key ≡ record { cells = []; word = dict }
unfolding dict_del
del-none_with s n dict key h = rw h

pub del-first_with : (s : Seen) (n : ℕ) (dict key : W) (e : Quad) → first_with key (entries s dict) ≡ Some e → dict_del s n dict key ≡ chained copy n (reverse (before key (entries s dict))) e.z
unfolding dict_del
del-first_with s n dict key e h = rw h

-- and by what a search found

pub set-none : (s : Seen) (n : ℕ) (dict key value : W) → None ≡ found key (entries s dict) → dict_set s n dict key value ≡ dict_added n dict key value
set-none s n dict key value h = set-none_with s n dict key value (found-none key (entries s dict) h)

set-some : (s : Seen) (n : ℕ) (dict key value : W) (f : Found) → Some f ≡ found key (entries s dict) → dict_set s n dict key value ≡ chained copy n (entry_quad key value undef ∷ reverse (entries_to s f.before dict)) f.entry.z
set-some s n dict key value f h =
    set-first_with s n dict key value f.entry (found-parts key (entries s dict) f h).0
    ∙ ap (λ (es : List Quad). chained copy n (entry_quad key value undef ∷ reverse es) f.entry.z) (found-before s dict key f h)

pub del-none : (s : Seen) (n : ℕ) (dict key : W) → None ≡ found key (entries s dict) → dict_del s n dict key ≡ record { cells = []; word = dict }
del-none s n dict key h = del-none_with s n dict key (found-none key (entries s dict) h)

pub del-some : (s : Seen) (n : ℕ) (dict key : W) (f : Found) → Some f ≡ found key (entries s dict) → dict_del s n dict key ≡ chained copy n (reverse (entries_to s f.before dict)) f.entry.z
del-some s n dict key f h =
    del-first_with s n dict key f.entry (found-parts key (entries s dict) f h).0 ∙ ap (λ (es : List Quad). chained copy n (reverse es) f.entry.z) (found-before s dict key f h)

-- how many cells
pub length-set : (s : Seen) (n : ℕ) (dict key value : W) (f : Found) → Some f ≡ found key (entries s dict) → length (dict_set s n dict key value).cells ≡ f.before + 1
length-set s n dict key value f h =
    let es = entries_to s f.before dict in
    ap (λ (b : Built). length b.cells) (set-some s n dict key value f h)
    ∙ ap suc (length-linked copy (suc n) (reverse es) (Ram n) ∙ length-reverse es ∙ found-whole s dict key f h)
    ∙ omega arith

pub length-del : (s : Seen) (n : ℕ) (dict key : W) (f : Found) → Some f ≡ found key (entries s dict) → length (dict_del s n dict key).cells ≡ f.before
length-del s n dict key f h =
    let es = entries_to s f.before dict in
    ap (λ (b : Built). length b.cells) (del-some s n dict key f h) ∙ length-linked copy n (reverse es) f.entry.z ∙ length-reverse es ∙ found-whole s dict key f h

pub length-set_none : (s : Seen) (n : ℕ) (dict key value : W) → None ≡ found key (entries s dict) → length (dict_set s n dict key value).cells ≡ 1
length-set_none s n dict key value h = ap (λ (b : Built). length b.cells) (set-none s n dict key value h)

pub length-del_none : (s : Seen) (n : ℕ) (dict key : W) → None ≡ found key (entries s dict) → length (dict_del s n dict key).cells ≡ 0
length-del_none s n dict key h = ap (λ (b : Built). length b.cells) (del-none s n dict key h)

-- ---- an entry replaced: the new one is taken, and then those before the old one are copied

module _ (old mid : Memory) (dict key value tail : W) (f : Found) (h : Some f ≡ found key (entries (seen old.store) dict)) (t : Takes old mid (OpenSlot (entry_quad key value f.entry.z) ∷ [])) where
  pub set-whole : length (entries_to (seen mid.store) f.before dict) ≡ f.before
  set-whole =
      let w = found-whole (seen old.store) dict key f h in
      ap length (ap (λ (s : Seen). entries_to s f.before dict) t.seen_is ∙ entries-grown (seen old.store) (OpenSlot (entry_quad key value f.entry.z) ∷ []) f.before dict w) ∙ w

  pub set-room : HasRoom old (set_in old dict key value).cells → used mid.store + f.before ≤ mid.room
  set-room r =
      let l = length-set (seen old.store) (next_quad (seen old.store)) dict key value f h in
      let u = used-takes old mid (OpenSlot (entry_quad key value f.entry.z) ∷ []) t in
      let e = room-takes old mid (OpenSlot (entry_quad key value f.entry.z) ∷ []) t in
      omega arith

  pub set-made : (new : Memory) (word : W) → tail ≡ Ram (next_quad (seen old.store)) → Copied mid new f.before dict tail word → Takes old new (set_in old dict key value).cells × (word ≡ (set_in old dict key value).word)
  set-made new word te c =
      let s = seen old.store in
      let n = next_quad s in
      let x = OpenSlot (entry_quad key value f.entry.z) in
      let es = entries_to s f.before dict in
      let same : entries_to (seen mid.store) f.before dict ≡ es =
      ap (λ (s : Seen). entries_to s f.before dict) t.seen_is ∙ entries-grown s (x ∷ []) f.before dict (found-whole s dict key f h) in
      let next : next_quad (seen mid.store) ≡ suc n = next-takes old mid (x ∷ []) t ∙ add-one n in
      let all : copied_in mid f.before dict tail ≡ chained copy (suc n) (reverse es) (Ram n) =
      (λ i. chained copy (next i) (reverse (same i)) (te i)) in
      let set : dict_set s n dict key value ≡ record { cells = x ∷ linked copy (suc n) (reverse es) (Ram n); word = last_linked (suc n) (reverse es) (Ram n) } = set-some s n dict key value f h in (
        subst (λ (l : List Slot). Takes old new l) (ap (λ (b : Built). x ∷ b.cells) all ∙ sym (ap (λ (b : Built). b.cells) set))
            (takes-cons old mid new x (copied_in mid f.before dict tail).cells t c.cells),
        c.word_is ∙ ap (λ (b : Built). b.word) all ∙ sym (ap (λ (b : Built). b.word) set),
      )
