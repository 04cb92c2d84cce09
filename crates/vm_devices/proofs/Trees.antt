-- Trees of words: what a word's pair, or its lack, says of its tree.
use Rattle.std.proofs.Common.{◌≡◌, ℕ, zero, suc, ◌+◌, ◌<◌, ◌≤◌, Bool, true, false, if◌then◌else◌, Option, Some, None, is_some, nat_le, refl, sym, ap, ◌∙◌, subst, arith}
use Rattle.std.proofs.lemmas.Bool.Decides.{nat_tests}
use Rattle.cap_words.specs.declared.word.Quad.{Quad}
use Rattle.cap_words.specs.Words.{W}
use Rattle.cap_words.specs.Seen.{Seen, cell_seen}
use Rattle.instr_table.specs.Lists.{pair_in}
use Rattle.vm_turn.specs.Piece.{Tree, Leaf, Fork, leaves, most_leaves, forked, tree_to, small, tree}
use Rattle.vm_devices.specs.Laws.{Unfolds, TreesAreUnfoldings}
use Rattle.vm_devices.specs.Texts.{tree_or_leaf, tree_of, IsSmall, leaves_of}

leaves_some : (t : Tree) → 0 < leaves t
leaves_some (Leaf w) = omega arith
leaves_some (Fork a b) = omega (arith, leaves_some a)

-- ---- one level of a tree

tree_to-none : (s : Seen) (n : ℕ) (w : W) → pair_in (cell_seen s w) ≡ None → tree_to s (suc n) w ≡ Some (Leaf w)
unfolding tree_to
tree_to-none s n w h = rw (h, tree_to) refl

tree_to-pair : (s : Seen) (n : ℕ) (w : W) (q : Quad) → pair_in (cell_seen s w) ≡ Some q → tree_to s (suc n) w ≡ forked (tree_to s n q.x) (tree_to s n q.y)
unfolding tree_to
tree_to-pair s n w q h = rw (h, tree_to) refl

tree_to-zero : (s : Seen) (w : W) → tree_to s zero w ≡ None
unfolding tree_to
tree_to-zero s w = refl

-- ---- a tree has no more levels than leaves

unfolds_fork : (s : Seen) (w : W) (q : Quad) (t : Tree) (a b : Option Tree) → pair_in (cell_seen s w) ≡ Some q → ((u : Tree) → a ≡ Some u → Unfolds s q.x u) → ((u : Tree) → b ≡ Some u → Unfolds s q.y u) → forked a b ≡ Some t → Unfolds s w t
unfolds_fork s w q t None b h x y e = cc
unfolds_fork s w q t (Some u) None h x y e = cc
unfolds_fork s w q t (Some u) (Some v) h x y e =
    let is : Fork u v ≡ t = cc in
    subst (Unfolds s w) is (q, h, x u refl, y v refl)

-- whatever is found in some levels is what the word unfolds to
unfolds : (s : Seen) (n : ℕ) (w : W) (t : Tree) → tree_to s n w ≡ Some t → Unfolds s w t
unfolds s zero w t e = let z = tree_to-zero s w in cc
unfolds s (suc n) w t e = at_cell (pair_in (cell_seen s w)) refl (unfolds s n)
  where
    at_cell : (o : Option Quad) → pair_in (cell_seen s w) ≡ o → ((v : W) (u : Tree) → tree_to s n v ≡ Some u → Unfolds s v u) → Unfolds s w t
    at_cell None h up =
        let is : Leaf w ≡ t = let leaf = tree_to-none s n w h in cc in
        subst (Unfolds s w) is (refl, h)
    at_cell (Some q) h up = unfolds_fork s w q t (tree_to s n q.x) (tree_to s n q.y) h (up q.x) (up q.y) (sym (tree_to-pair s n w q h) ∙ e)

-- and it is found in as many levels as it has leaves
found : (s : Seen) (n : ℕ) (w : W) (t : Tree) → Unfolds s w t → leaves t ≤ n → tree_to s n w ≡ Some t
found s zero w t is few = absurd (omega (arith, leaves_some t))
found s (suc n) w (Leaf v) is few = tree_to-none s n w is.1 ∙ ap (λ (u : W). Some (Leaf u)) (sym is.0)
found s (suc n) w (Fork a b) is few =
    let x : tree_to s n is.0.x ≡ Some a = found s n is.0.x a is.2 (omega (arith, leaves_some b)) in
    let y : tree_to s n is.0.y ≡ Some b = found s n is.0.y b is.3 (omega (arith, leaves_some a)) in
    tree_to-pair s n w is.0 is.1 ∙ (λ i. forked (x i) (y i))

climbs : (s : Seen) (n m : ℕ) (w : W) (t : Tree) → tree_to s n w ≡ Some t → leaves t ≤ m → tree_to s m w ≡ Some t
climbs s n m w t e few = found s m w t (unfolds s n w t e) few

-- ---- trees that are not too large

record Few (o : Option Tree) (t : Tree) : Type 0 where
  is : o ≡ Some t
  few : leaves t ≤ most_leaves

few_if : (u t : Tree) (b : Bool) → nat_le (leaves u) most_leaves ≡ b → (if b then Some u else None) ≡ Some t → Few (Some u) t
few_if u t true n e =
    let is : u ≡ t = cc in
    let le : leaves u ≤ most_leaves = grind (arith, nat_tests) in
    let same : leaves u ≡ leaves t = ap leaves is in
    record { is = e; few = omega arith }
few_if u t false n e = cc

few_of : (o : Option Tree) (t : Tree) → small o ≡ Some t → Few o t
few_of None t e = cc
few_of (Some u) t e = few_if u t (nat_le (leaves u) most_leaves) refl e

small_of : (o : Option Tree) (t : Tree) → o ≡ Some t → leaves t ≤ most_leaves → small o ≡ Some t
small_of None t e few = cc
small_of (Some u) t e few =
    let is : u ≡ t = cc in
    let same : leaves u ≡ leaves t = ap leaves is in
    let le : nat_le (leaves u) most_leaves ≡ true = grind (arith, nat_tests) in
    rw le e

-- the tree that is there
tree_of-is : (s : Seen) (w : W) (t : Tree) → tree s w ≡ Some t → tree_of s w ≡ t
unfolding tree_of
tree_of-is s w t e = ap (λ (o : Option Tree). tree_or_leaf o w) e

pub small_is : (s : Seen) (w : W) (t : Tree) → tree s w ≡ Some t → IsSmall s w
small_is s w t e = record { tree_is = e ∙ ap Some (sym (tree_of-is s w t e)) }

pub leaves_of-few : (s : Seen) (w : W) → IsSmall s w → leaves_of s w ≤ most_leaves
unfolding leaves_of
leaves_of-few s w h = (few_of (tree_to s most_leaves w) (tree_of s w) h.tree_is).few

pub leaves_of-some : (s : Seen) (w : W) → 0 < leaves_of s w
unfolding leaves_of
leaves_of-some s w = leaves_some (tree_of s w)

-- ---- a word that names no pair

pub leaf_small : (s : Seen) (w : W) → pair_in (cell_seen s w) ≡ None → tree s w ≡ Some (Leaf w)
leaf_small s w h = small_of (tree_to s most_leaves w) (Leaf w) (tree_to-none s 65535 w h) (omega arith)

pub leaf_tree : (s : Seen) (w : W) → pair_in (cell_seen s w) ≡ None → tree_of s w ≡ Leaf w
leaf_tree s w h = tree_of-is s w (Leaf w) (leaf_small s w h)

pub leaf_leaves : (s : Seen) (w : W) → pair_in (cell_seen s w) ≡ None → leaves_of s w ≡ 1
unfolding leaves_of
leaf_leaves s w h = ap leaves (leaf_tree s w h)

-- ---- a pair

pub record IsForked (s : Seen) (w : W) (q : Quad) : Type 0 where
  pub head : IsSmall s q.x
  pub tail : IsSmall s q.y
  pub tree_is : tree_of s w ≡ Fork (tree_of s q.x) (tree_of s q.y)
  pub leaves_are : leaves_of s w ≡ leaves_of s q.x + leaves_of s q.y

same_small : (s : Seen) (w : W) (t : Tree) → tree_to s 65535 w ≡ Some t → leaves t ≤ most_leaves → tree s w ≡ Some t
same_small s w t e few = small_of (tree_to s most_leaves w) t (climbs s 65535 most_leaves w t e few) few

forked_as : (s : Seen) (w : W) (q : Quad) (t : Tree) (a b : Option Tree) → tree s w ≡ Some t → tree_to s 65535 q.x ≡ a → tree_to s 65535 q.y ≡ b → forked a b ≡ Some t → leaves t ≤ most_leaves → IsForked s w q
unfolding leaves_of
forked_as s w q t None b h ea eb e few = cc
forked_as s w q t (Some u) None h ea eb e few = cc
forked_as s w q t (Some u) (Some v) h ea eb e few =
    let is : Fork u v ≡ t = cc in
    let sum : leaves u + leaves v ≡ leaves t = ap leaves is in
    let x : tree s q.x ≡ Some u = same_small s q.x u ea (omega arith) in
    let y : tree s q.y ≡ Some v = same_small s q.y v eb (omega arith) in
    let tx : tree_of s q.x ≡ u = tree_of-is s q.x u x in
    let ty : tree_of s q.y ≡ v = tree_of-is s q.y v y in
    let tw : tree_of s w ≡ Fork (tree_of s q.x) (tree_of s q.y) = tree_of-is s w t h ∙ sym is ∙ (λ i. Fork (sym tx i) (sym ty i)) in
    record { head = small_is s q.x u x; tail = small_is s q.y v y; tree_is = tw; leaves_are = ap leaves tw }

-- the parts of a tree that is not too large are none too
pub forked_of : (s : Seen) (w : W) (q : Quad) → pair_in (cell_seen s w) ≡ Some q → IsSmall s w → IsForked s w q
forked_of s w q h is =
    let few = few_of (tree_to s most_leaves w) (tree_of s w) is.tree_is in
    forked_as s w q (tree_of s w) (tree_to s 65535 q.x) (tree_to s 65535 q.y) is.tree_is refl refl (sym (tree_to-pair s 65535 w q h) ∙ few.is) few.few

-- two trees that are together not too large
pub joined : (s : Seen) (w : W) (q : Quad) → pair_in (cell_seen s w) ≡ Some q → IsSmall s q.x → IsSmall s q.y → leaves_of s q.x + leaves_of s q.y ≤ most_leaves → IsSmall s w
unfolding leaves_of
joined s w q h x y few =
    let ex = few_of (tree_to s most_leaves q.x) (tree_of s q.x) x.tree_is in
    let ey = few_of (tree_to s most_leaves q.y) (tree_of s q.y) y.tree_is in
    let u : tree_to s 65535 q.x ≡ Some (tree_of s q.x) = climbs s most_leaves 65535 q.x (tree_of s q.x) ex.is (omega (arith, leaves_some (tree_of s q.y))) in
    let v : tree_to s 65535 q.y ≡ Some (tree_of s q.y) = climbs s most_leaves 65535 q.y (tree_of s q.y) ey.is (omega (arith, leaves_some (tree_of s q.x))) in
    let t : Tree = Fork (tree_of s q.x) (tree_of s q.y) in
    small_is s w t (small_of (tree_to s most_leaves w) t (tree_to-pair s 65535 w q h ∙ (λ i. forked (u i) (v i))) few)

-- ---- where there is no tree

pub no_tree : (s : Seen) (w : W) → (IsSmall s w → ⊥) → tree s w ≡ None
no_tree s w f = none (tree s w) refl
  where
    none : (o : Option Tree) → tree s w ≡ o → o ≡ None
    none None e = refl
    none (Some t) e = absurd (f (small_is s w t e))

pub small_there : (s : Seen) (w : W) → is_some (tree s w) ≡ true → IsSmall s w
small_there s w h = there (tree s w) refl
  where
    there : (o : Option Tree) → tree s w ≡ o → IsSmall s w
    there None e = let none : is_some (tree s w) ≡ false = ap (λ (o : Option Tree). is_some o) e in cc
    there (Some t) e = small_is s w t e

pub none_there : (s : Seen) (w : W) → is_some (tree s w) ≡ false → tree s w ≡ None
none_there s w h = there (tree s w) h
  where
    there : (o : Option Tree) → is_some o ≡ false → o ≡ None
    there None e = refl
    there (Some t) e = cc

-- ---- which trees there are

pub trees_are : TreesAreUnfoldings
trees_are s w t = (there, back)
  where
    there : tree s w ≡ Some t → Unfolds s w t × (leaves t ≤ most_leaves)
    there e = let few = few_of (tree_to s most_leaves w) t e in (unfolds s most_leaves w t few.is, few.few)

    back : Unfolds s w t × (leaves t ≤ most_leaves) → tree s w ≡ Some t
    back h = small_of (tree_to s most_leaves w) t (found s most_leaves w t h.0 h.1) h.1
