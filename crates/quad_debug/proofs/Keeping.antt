-- The entries that a debugger keeps.
use Rattle.std.proofs.Common.{◌≡◌, ℕ, suc, ◌+◌, ◌-◌, ◌<◌, ◌≤◌, List, [], ◌∷◌, ◌++◌, length, drop, refl, sym, ap, ◌∙◌, arith, length-append, length-drop}
use Rattle.std.proofs.lemmas.List.{drop-append-le, drop-drop}
use Rattle.circular_buffer.specs.Buffer.{Buffer, buffer, keep_last}
use Rattle.vm_turn.specs.declared.journal.Entry.{Entry}
use Rattle.vm_machine.specs.Machine.{Machine}
use Rattle.quad_debug.specs.Kept.{most_kept, kept_since, Keeps}

-- the last of the last ones and more are the last of all
keep-more : (n : ℕ) (xs ys : List Entry) → keep_last n (keep_last n xs ++ ys) ≡ keep_last n (xs ++ ys)
keep-more n xs ys =
    let d = length xs - n in
    let all = xs ++ ys in
    let front : drop d xs ++ ys ≡ drop d all = sym (drop-append-le d xs ys (omega arith)) in
    let size : length (drop d all) ≡ length all - d = length-drop d all in
    let total : length all ≡ length xs + length ys = length-append xs ys in
    let far : d + (length (drop d all) - n) ≡ length all - n = omega (arith, size, total) in
    ap (keep_last n) front ∙ drop-drop (length (drop d all) - n) d all ∙ ap (λ (k : ℕ). drop k all) far

-- what a turn adds is kept too
pub keeps-more : (old new : Machine) (began : ℕ) (entries : Buffer Entry) (added : List Entry) → Keeps old began entries → new.state.journal ≡ old.state.journal ++ added → Keeps new began (buffer (keep_last entries.capacity (entries.items ++ added)) entries.capacity)
keeps-more old new began entries added k journal =
    let before : drop began (old.state.journal ++ added) ≡ drop began old.state.journal ++ added = drop-append-le began old.state.journal added k.earlier in
    record {
      items =
          ap (λ (n : ℕ). keep_last n (entries.items ++ added)) k.capacity
          ∙ ap (λ (xs : List Entry). keep_last most_kept (xs ++ added)) k.items
          ∙ keep-more most_kept (drop began old.state.journal) added
          ∙ ap (keep_last most_kept) (sym before)
          ∙ ap (kept_since began) (sym journal);
      capacity = k.capacity;
      earlier = (let n = ap length journal in let m = length-append old.state.journal added in let e = k.earlier in omega (arith, n, m, e));
    }

drop-all : (xs : List Entry) → drop (length xs) xs ≡ []
drop-all [] = refl
drop-all (x ∷ xs) = drop-all xs

-- none are kept at the start
pub keeps-none : (m : Machine) (began : ℕ) (entries : Buffer Entry) → began ≡ length m.state.journal → entries ≡ buffer [] most_kept → Keeps m began entries
keeps-none m began entries start none = record {
  items = ap (λ (b : Buffer Entry). b.items) none ∙ sym (ap (keep_last most_kept) (ap (λ (n : ℕ). drop n m.state.journal) start ∙ drop-all m.state.journal));
  capacity = ap (λ (b : Buffer Entry). b.capacity) none;
  earlier = omega (arith, start);
}

-- ---- the last entries of two runs of them

drop-over : (xs ys : List Entry) (k : ℕ) → drop (length xs + k) (xs ++ ys) ≡ drop k ys
drop-over [] ys k = let e : 0 + k ≡ k = omega arith in ap (λ (n : ℕ). drop n ys) e
drop-over (x ∷ xs) ys k = let e : suc (length xs) + k ≡ suc (length xs + k) = omega arith in ap (λ (n : ℕ). drop n (x ∷ (xs ++ ys))) e ∙ drop-over xs ys k

module _ (earlier later items : List Entry) (n left : ℕ) (both : earlier ++ later ≡ items) (is : left ≡ length earlier + length later - n) where
  last-is : drop left (earlier ++ later) ≡ keep_last n items
  last-is =
      let size : length (earlier ++ later) ≡ length earlier + length later = length-append earlier later in
      let e : left ≡ length (earlier ++ later) - n = omega (arith, is, size) in
      ap (λ (k : ℕ). drop k (earlier ++ later)) e ∙ ap (keep_last n) both

  -- they all are later ones
  pub last-later : length earlier < left → drop (left - length earlier) later ≡ keep_last n items
  last-later h =
      let e : length earlier + (left - length earlier) ≡ left = omega (arith, h) in
      sym (drop-over earlier later (left - length earlier)) ∙ ap (λ (k : ℕ). drop k (earlier ++ later)) e ∙ last-is

  pub last-both : left ≤ length earlier → drop left earlier ++ later ≡ keep_last n items
  last-both h = sym (drop-append-le left earlier later h) ∙ last-is
