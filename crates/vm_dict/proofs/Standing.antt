-- What stays when cells are taken, and what the first new cell is.
use Rattle.std.proofs.Common.{◌≡◌, ℕ, ◌+◌, ◌≤◌, List, [], ◌∷◌, ◌++◌, length, Some, refl, ap, sym, ◌∙◌, arith, append-nil, append_assoc, length-append}
use Rattle.std.specs.Prelude.{map, reverse}
use Rattle.std.proofs.lemmas.List.{reverse-append, map-append}
use Rattle.cap_words.specs.declared.word.Quad.{Quad}
use Rattle.cap_words.specs.Words.{W, Fix, Rom, Ram, Cap}
use Rattle.cap_words.specs.Seen.{Seen, Slot, OpenSlot, grown, open_in, cell_seen}
use Rattle.cap_words.proofs.Places.{get-left, get-seam}
use Rattle.instr_table.specs.Lists.{next_quad}
use Rattle.instr_table.specs.Authority.{IsTaken}

-- ---- what is seen grows

pub grown-none : (s : Seen) → grown s [] ≡ s
grown-none s = λ i. record { rom = s.rom; slots = append-nil s.slots i }

pub grown-append : (s : Seen) (xs ys : List Slot) → grown (grown s xs) ys ≡ grown s (xs ++ ys)
grown-append s xs ys = λ i. record { rom = s.rom; slots = append_assoc s.slots xs ys i }

pub next-grown : (s : Seen) (cells : List Slot) → next_quad (grown s cells) ≡ next_quad s + length cells
next-grown s cells = length-append s.slots cells

-- a word that names no quad which is still to be taken
pub taken-more : (m n : ℕ) (w : W) → m ≤ n → IsTaken m w → IsTaken n w
taken-more m n (Fix z) h t = t
taken-more m n (Rom k) h t = t
taken-more m n (Ram k) h t = omega arith
taken-more m n (Cap k) h t = omega arith

pub taken-grown : (s : Seen) (cells : List Slot) (w : W) → IsTaken (next_quad s) w → IsTaken (next_quad (grown s cells)) w
taken-grown s cells w t = let e = next-grown s cells in taken-more (next_quad s) (next_quad (grown s cells)) w (omega arith) t

-- reads the same cell, or none
pub seen-grown : (s : Seen) (cells : List Slot) (w : W) → IsTaken (next_quad s) w → cell_seen (grown s cells) w ≡ cell_seen s w
seen-grown s cells (Fix z) t = refl
seen-grown s cells (Rom k) t = refl
seen-grown s cells (Ram k) t = ap open_in (get-left s.slots cells k t)
seen-grown s cells (Cap k) t = refl

-- the first new cell
pub seen-first : (s : Seen) (q : Quad) (cells : List Slot) → cell_seen (grown s (OpenSlot q ∷ cells)) (Ram (next_quad s)) ≡ Some q
seen-first s q cells = ap open_in (get-seam s.slots cells (OpenSlot q))

pub taken-first : (s : Seen) (c : Slot) (cells : List Slot) → IsTaken (next_quad (grown s (c ∷ cells))) (Ram (next_quad s))
taken-first s c cells = let e = next-grown s (c ∷ cells) in omega arith

-- ---- lists turned round

pub reverse-cons : {A : Type 0} (x : A) (xs ys : List A) → reverse (x ∷ xs) ++ ys ≡ reverse xs ++ x ∷ ys
reverse-cons x xs ys = ap (λ l. l ++ ys) (reverse-append (x ∷ []) xs) ∙ append_assoc (reverse xs) (x ∷ []) ys

pub map-reversed : {A B : Type 0} (f : A → B) (xs : List A) → map f (reverse xs) ≡ reverse (map f xs)
map-reversed f [] = refl
map-reversed f (x ∷ xs) =
    ap (map f) (reverse-append (x ∷ []) xs) ∙ map-append f (reverse xs) (x ∷ []) ∙ ap (λ l. l ++ f x ∷ []) (map-reversed f xs) ∙ sym (reverse-append (f x ∷ []) (map f xs))
