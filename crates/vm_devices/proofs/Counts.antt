-- A walk over a tree that counts its leaves: the word in hand, the words that wait on a stack, and how many leaves there are at least.
use Rattle.std.proofs.Common.{◌≡◌, ℕ, ◌+◌, ◌-◌, ◌<◌, ◌≤◌, List, [], ◌∷◌, ◌++◌, length, take, sum_by, Some, None, refl, sym, ap, ◌∙◌, subst, arith, length-append}
use Rattle.std.proofs.lemmas.List.Sums.{sum_by-append, sum_by-cons}
use Rattle.cap_words.specs.declared.word.Quad.{Quad}
use Rattle.cap_words.specs.Words.{W}
use Rattle.cap_words.specs.Seen.{Seen, cell_seen}
use Rattle.instr_table.specs.Lists.{pair_in}
use Rattle.vm_turn.specs.Piece.{Leaf, most_leaves, tree}
use Rattle.vm_devices.specs.Texts.{IsSmall, leaves_of}
use Rattle.vm_devices.proofs.Trees.{small_is, leaf_small, leaf_leaves, leaves_of-few, leaves_of-some, forked_of, joined, no_tree}

-- a stack with nothing to pop is empty
pub popped_none : (old new : List W) (n : ℕ) → old ≡ new ++ [] → new ≡ take (n - 1) old → n ≡ 0 → old ≡ []
popped_none old new n items rest none = items ∙ ap (λ (ws : List W). ws ++ []) (rest ∙ ap (λ k. take (k - 1) old) none)

-- each of the words has a small tree
abbrev pub AreSmall : Seen → List W → Type 0
AreSmall s [] = Unit {0}
AreSmall s (w ∷ ws) = IsSmall s w × AreSmall s ws

pub small_push : (s : Seen) (ws : List W) (v : W) → AreSmall s ws → IsSmall s v → AreSmall s (ws ++ v ∷ [])
small_push s [] v all is = (is, tt)
small_push s (w ∷ ws) v all is = (all.0, small_push s ws v all.1 is)

pub small_pop : (s : Seen) (ws : List W) (v : W) → AreSmall s (ws ++ v ∷ []) → AreSmall s ws × IsSmall s v
small_pop s [] v all = (tt, all.0)
small_pop s (w ∷ ws) v all = let rest = small_pop s ws v all.1 in ((all.0, rest.0), rest.1)

-- the leaves of all the words on a stack
unfoldable pub leaves_on : Seen → List W → ℕ
leaves_on s ws = sum_by (leaves_of s) ws

pub leaves_on-push : (s : Seen) (ws : List W) (v : W) → leaves_on s (ws ++ v ∷ []) ≡ leaves_on s ws + leaves_of s v
unfolding leaves_on
leaves_on-push s ws v = let e = sum_by-append (leaves_of s) ws (v ∷ []) in omega (arith, e)

pub leaves_on-none : (s : Seen) → leaves_on s [] ≡ 0
unfolding leaves_on
leaves_on-none s = refl

leaves_on-first : (s : Seen) (w : W) (ws : List W) → leaves_on s (w ∷ ws) ≡ leaves_of s w + leaves_on s ws
unfolding leaves_on
leaves_on-first s w ws = sum_by-cons (leaves_of s) w ws

pub leaves_on-more : (s : Seen) (ws : List W) → length ws ≤ leaves_on s ws
leaves_on-more s [] = omega arith
leaves_on-more s (w ∷ ws) = omega (arith, leaves_of-some s w, leaves_on-first s w ws, leaves_on-more s ws)

-- what is left is not too large: each tree, and all of them beside the leaves that were found
pub record Fits (s : Seen) (w : W) (ws : List W) (count : ℕ) : Type 0 where
  pub head : IsSmall s w
  pub rest : AreSmall s ws
  pub few : count + (leaves_of s w + leaves_on s ws) ≤ most_leaves + 1 + length ws

pub length_push : (ws : List W) (v : W) → length (ws ++ v ∷ []) ≡ length ws + 1
length_push ws v = length-append ws (v ∷ [])

module _ (s : Seen) (w : W) (ws : List W) (count : ℕ) where
  -- at a pair its tail waits, and there is one leaf more
  module _ (q : Quad) (pair : pair_in (cell_seen s w) ≡ Some q) where
    pub fits_parts : Fits s w ws count → Fits s q.x (ws ++ q.y ∷ []) (count + 1)
    fits_parts fits =
        let f = forked_of s w q pair fits.head in
        record { head = f.head; rest = small_push s ws q.y fits.rest f.tail; few = omega (arith, fits.few, f.leaves_are, leaves_on-push s ws q.y, length_push ws q.y) }

    pub fits_whole : 0 < count → Fits s q.x (ws ++ q.y ∷ []) (count + 1) → Fits s w ws count
    fits_whole some fits =
        let rest = small_pop s ws q.y fits.rest in
        let is : IsSmall s w = joined s w q pair fits.head rest.1 (omega (arith, fits.few, leaves_on-push s ws q.y, length_push ws q.y, leaves_on-more s ws)) in
        record { head = is; rest = rest.0; few = omega (arith, fits.few, (forked_of s w q pair is).leaves_are, leaves_on-push s ws q.y, length_push ws q.y) }

    pub fits_not : count ≡ most_leaves → Fits s w ws count → ⊥
    fits_not full fits = absurd (omega (arith, fits.few, (forked_of s w q pair fits.head).leaves_are, leaves_of-some s q.x, leaves_of-some s q.y, leaves_on-more s ws))

  -- at another word the one that waited last is next
  module _ (leaf : pair_in (cell_seen s w) ≡ None) where
    pub fits_next : (v : W) → Fits s w (ws ++ v ∷ []) count → Fits s v ws count
    fits_next v fits =
        let rest = small_pop s ws v fits.rest in
        record { head = rest.1; rest = rest.0; few = omega (arith, fits.few, leaf_leaves s w leaf, leaves_on-push s ws v, length_push ws v) }

    pub fits_before : (v : W) → Fits s v ws count → Fits s w (ws ++ v ∷ []) count
    fits_before v fits = record { head = small_is s w (Leaf w) (leaf_small s w leaf); rest = small_push s ws v fits.rest fits.head; few = omega (arith, fits.few, leaf_leaves s w leaf, leaves_on-push s ws v, length_push ws v) }

-- the last word
pub fits_last : (s : Seen) (w : W) (count : ℕ) → pair_in (cell_seen s w) ≡ None → count ≤ most_leaves → Fits s w [] count
fits_last s w count leaf few = record { head = small_is s w (Leaf w) (leaf_small s w leaf); rest = tt; few = omega (arith, leaf_leaves s w leaf, leaves_on-none s) }

pub fits_first : (s : Seen) (w : W) → IsSmall s w → Fits s w [] 1
fits_first s w is = record { head = is; rest = tt; few = omega (arith, leaves_of-few s w is, leaves_on-none s) }

-- a walk from the word `from`, as far as it has come
pub record Counting (s : Seen) (from next : W) (stack : List W) (count : ℕ) : Type 0 where
  pub depth : length stack < count
  pub few : count ≤ most_leaves
  pub forth : IsSmall s from → Fits s next stack count
  pub back : Fits s next stack count → IsSmall s from

pub counting_first : (s : Seen) (w : W) (stack : List W) → stack ≡ [] → Counting s w w stack 1
counting_first s w stack none = subst (λ (ws : List W). Counting s w w ws 1) (sym none) (record { depth = omega arith; few = omega arith; forth = fits_first s w; back = λ fits. fits.head })

module _ (s : Seen) (from w : W) (stack rest : List W) (count : ℕ) (so_far : Counting s from w stack count) where
  pub counting_pair : (q : Quad) → pair_in (cell_seen s w) ≡ Some q → (count ≡ most_leaves → ⊥) → rest ≡ stack ++ q.y ∷ [] → Counting s from q.x rest (count + 1)
  counting_pair q pair more push = subst (λ (ws : List W). Counting s from q.x ws (count + 1)) (sym push) (record {
    depth = omega (arith, so_far.depth, length_push stack q.y);
    few = omega (arith, so_far.few, more);
    forth = λ is. fits_parts s w stack count q pair (so_far.forth is);
    back = λ fits. so_far.back (fits_whole s w stack count q pair (omega (arith, so_far.depth)) fits);
  })

  pub counting_leaf : (v : W) → pair_in (cell_seen s w) ≡ None → stack ≡ rest ++ v ∷ [] → Counting s from v rest count
  counting_leaf v leaf pop =
      let same : length stack ≡ length (rest ++ v ∷ []) = ap length pop in
      record {
        depth = omega (arith, so_far.depth, same, length_push rest v);
        few = so_far.few;
        forth = λ is. fits_next s w rest count leaf v (subst (λ (ws : List W). Fits s w ws count) pop (so_far.forth is));
        back = λ fits. so_far.back (subst (λ (ws : List W). Fits s w ws count) (sym pop) (fits_before s w rest count leaf v fits));
      }

  pub counting_full : (q : Quad) → pair_in (cell_seen s w) ≡ Some q → count ≡ most_leaves → tree s from ≡ None
  counting_full q pair full = no_tree s from (λ is. fits_not s w stack count q pair full (so_far.forth is))

  pub counting_last : pair_in (cell_seen s w) ≡ None → stack ≡ [] → IsSmall s from
  counting_last leaf none = so_far.back (subst (λ (ws : List W). Fits s w ws count) (sym none) (fits_last s w count leaf so_far.few))
