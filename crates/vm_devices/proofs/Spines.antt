-- What is left to write of a tree: the word in hand, and the tails that wait on a stack.
use Rattle.std.proofs.Common.{◌≡◌, ℕ, ◌+◌, ◌-◌, ◌*◌, ◌<◌, ◌≤◌, Bool, true, false, List, [], ◌∷◌, ◌++◌, length, codes, Option, Some, None, refl, sym, ap, ◌∙◌, subst, arith, append_assoc}
use Rattle.std.proofs.lemmas.List.{append-nil}
use Rattle.hum_outside.specs.Outside.{appended, AppendsFront}
use Rattle.cap_words.specs.declared.word.Quad.{Quad}
use Rattle.cap_words.specs.Words.{W}
use Rattle.cap_words.specs.Seen.{Seen, cell_seen}
use Rattle.instr_table.specs.Lists.{pair_in}
use Rattle.vm_turn.specs.Piece.{Tree, Leaf, Fork, most_leaves, tree_text}
use Rattle.vm_devices.specs.Texts.{IsSmall, tree_of, leaves_of, leaf_text, text_of, opening, closing, item_text}
use Rattle.vm_devices.proofs.Trees.{leaf_tree, leaf_leaves, leaves_of-few, leaves_of-some, forked_of}
use Rattle.vm_devices.proofs.Counts.{AreSmall, small_push, small_pop, leaves_on, leaves_on-push, leaves_on-none, leaves_on-more, length_push}
use Rattle.vm_devices.proofs.Writings.{Writing, writing_first, writing_more, writing_front, writing_all}

-- the tail of a pair that is open, and what closes the pair
tail_text : Seen → W → List ℕ
tail_text s w = codes ", " ++ tree_text s true (tree_of s w) ++ codes ")"

-- the tails on a stack, whose top is last
tails_text : Seen → List W → List ℕ
tails_text s [] = []
tails_text s (w ∷ ws) = tails_text s ws ++ tail_text s w

tails_text-push : (s : Seen) (ws : List W) (v : W) → tails_text s (ws ++ v ∷ []) ≡ tail_text s v ++ tails_text s ws
unfolding tails_text
tails_text-push s [] v = sym (append-nil (tail_text s v))
tails_text-push s (w ∷ ws) v = ap (λ l. l ++ tail_text s w) (tails_text-push s ws v) ∙ append_assoc (tail_text s v) (tails_text s ws) (tail_text s w)

pub rest_text : Seen → (inside : Bool) → W → List W → List ℕ
rest_text s inside w ws = tree_text s inside (tree_of s w) ++ (closing inside ++ tails_text s ws)

fork_text : (s : Seen) (inside : Bool) (a b : Tree) (rest : List ℕ) → tree_text s inside (Fork a b) ++ (closing inside ++ rest) ≡ opening inside ++ (tree_text s false a ++ ((codes ", " ++ tree_text s true b ++ codes ")") ++ rest))
fork_text s true a b rest = simp append_assoc
fork_text s false a b rest = simp append_assoc

leaf_is : (s : Seen) (inside : Bool) (w : W) → tree_text s inside (Leaf w) ≡ leaf_text s w
unfolding leaf_text
leaf_is s true w = refl
leaf_is s false w = refl

rest_text-pair : (s : Seen) (inside : Bool) (w : W) (ws : List W) (q : Quad) → tree_of s w ≡ Fork (tree_of s q.x) (tree_of s q.y) → rest_text s inside w ws ≡ opening inside ++ rest_text s false q.x (ws ++ q.y ∷ [])
unfolding rest_text tail_text
rest_text-pair s inside w ws q tree_is =
    ap (λ t. tree_text s inside t ++ (closing inside ++ tails_text s ws)) tree_is
    ∙ fork_text s inside (tree_of s q.x) (tree_of s q.y) (tails_text s ws)
    ∙ ap (λ l. opening inside ++ (tree_text s false (tree_of s q.x) ++ l)) (sym (tails_text-push s ws q.y))

rest_text-item : (s : Seen) (inside : Bool) (w : W) (ws : List W) → pair_in (cell_seen s w) ≡ None → rest_text s inside w ws ≡ item_text s inside w ++ tails_text s ws
unfolding rest_text
rest_text-item s inside w ws leaf =
    ap (λ t. tree_text s inside t ++ (closing inside ++ tails_text s ws)) (leaf_tree s w leaf)
    ∙ ap (λ l. l ++ (closing inside ++ tails_text s ws)) (leaf_is s inside w)
    ∙ sym (append_assoc (leaf_text s w) (closing inside) (tails_text s ws))

tails_text-next : (s : Seen) (ws : List W) (v : W) → tails_text s (ws ++ v ∷ []) ≡ codes ", " ++ rest_text s true v ws
unfolding rest_text tail_text
tails_text-next s ws v = tails_text-push s ws v ∙ simp append_assoc

tails_text-none : (s : Seen) → tails_text s [] ≡ []
unfolding tails_text
tails_text-none s = refl

-- a walk that writes, as far as it has come
pub record Printing (s : Seen) (old now : Option (List ℕ)) (from next : W) (inside : Bool) (stack : List W) : Type 0 where
  pub writing : Writing old now (text_of s from) (rest_text s inside next stack)
  pub head : IsSmall s next
  pub rest : AreSmall s stack
  pub few : leaves_of s next + leaves_on s stack ≤ most_leaves

-- how many words of the tree are left
pub words_left : Seen → W → List W → ℕ
words_left s w ws = 2 * (leaves_of s w + leaves_on s ws) - length ws

first_text : (s : Seen) (w : W) → text_of s w ≡ rest_text s false w []
unfolding text_of rest_text
first_text s w = sym (ap (λ l. tree_text s false (tree_of s w) ++ l) (tails_text-none s) ∙ append-nil (tree_text s false (tree_of s w)))

pub printing_first : (s : Seen) (old : Option (List ℕ)) (w : W) (stack : List W) → IsSmall s w → stack ≡ [] → Printing s old old w w false stack
printing_first s old w stack is none = subst (λ (ws : List W). Printing s old old w w false ws) (sym none) (record {
  writing = subst (Writing old old (text_of s w)) (first_text s w) (writing_first old (text_of s w));
  head = is;
  rest = tt;
  few = omega (arith, leaves_of-few s w is, leaves_on-none s);
})

module _ (s : Seen) (old mid : Option (List ℕ)) (from w : W) (inside : Bool) (stack : List W) (so_far : Printing s old mid from w inside stack) where
  -- the stack has room
  pub printing_room : (q : Quad) → pair_in (cell_seen s w) ≡ Some q → length stack < most_leaves
  printing_room q pair = omega (arith, so_far.few, leaves_of-some s w, leaves_on-more s stack)

  module _ (new : Option (List ℕ)) (rest : List W) where
    pub printing_pair : (q : Quad) → pair_in (cell_seen s w) ≡ Some q → rest ≡ stack ++ q.y ∷ [] → new ≡ appended mid (opening inside) → Printing s old new from q.x false rest
    printing_pair q pair push next =
        let f = forked_of s w q pair so_far.head in
        subst (λ (ws : List W). Printing s old new from q.x false ws) (sym push) (record {
          writing = writing_more old mid new (text_of s from) (rest_text s inside w stack) (opening inside) (rest_text s false q.x (stack ++ q.y ∷ [])) so_far.writing (rest_text-pair s inside w stack q f.tree_is) next;
          head = f.head;
          rest = small_push s stack q.y so_far.rest f.tail;
          few = omega (arith, so_far.few, f.leaves_are, leaves_on-push s stack q.y);
        })

    pub left_pair : (q : Quad) → pair_in (cell_seen s w) ≡ Some q → rest ≡ stack ++ q.y ∷ [] → words_left s q.x rest < words_left s w stack
    unfolding words_left
    left_pair q pair push =
        let f = forked_of s w q pair so_far.head in
        subst (λ (ws : List W). 2 * (leaves_of s q.x + leaves_on s ws) - length ws < 2 * (leaves_of s w + leaves_on s stack) - length stack) (sym push) (omega (arith, f.leaves_are, leaves_on-push s stack q.y, length_push stack q.y, leaves_on-more s stack, leaves_of-some s q.x, leaves_of-some s q.y))

    -- the item, and then what stands between two of them
    pub printing_next : (between : Option (List ℕ)) (v : W) → pair_in (cell_seen s w) ≡ None → stack ≡ rest ++ v ∷ [] → between ≡ appended mid (item_text s inside w) → new ≡ appended between (codes ", ") → Printing s old new from v true rest
    printing_next between v leaf pop item next =
        let small = small_pop s rest v (subst (AreSmall s) pop so_far.rest) in
        let sum : leaves_on s stack ≡ leaves_on s (rest ++ v ∷ []) = ap (leaves_on s) pop in
        let first = writing_more old mid between (text_of s from) (rest_text s inside w stack) (item_text s inside w) (tails_text s stack) so_far.writing (rest_text-item s inside w stack leaf) item in
        record {
          writing = writing_more old between new (text_of s from) (tails_text s stack) (codes ", ") (rest_text s true v rest) first (ap (tails_text s) pop ∙ tails_text-next s rest v) next;
          head = small.1;
          rest = small.0;
          few = omega (arith, so_far.few, sum, leaves_on-push s rest v);
        }

    pub left_next : (v : W) → pair_in (cell_seen s w) ≡ None → stack ≡ rest ++ v ∷ [] → words_left s v rest < words_left s w stack
    unfolding words_left
    left_next v leaf pop =
        let sum : leaves_on s stack ≡ leaves_on s (rest ++ v ∷ []) = ap (leaves_on s) pop in
        let len : length stack ≡ length (rest ++ v ∷ []) = ap length pop in
        omega (arith, leaf_leaves s w leaf, sum, len, leaves_on-push s rest v, length_push rest v, leaves_on-more s rest, leaves_of-some s v)

    -- ---- a write that fails, or the last one

    pub front_opening : (q : Quad) → pair_in (cell_seen s w) ≡ Some q → AppendsFront mid new (opening inside) → AppendsFront old new (text_of s from)
    front_opening q pair front =
        let f = forked_of s w q pair so_far.head in
        writing_front old mid new (text_of s from) (rest_text s inside w stack) (opening inside) (rest_text s false q.x (stack ++ q.y ∷ [])) so_far.writing (rest_text-pair s inside w stack q f.tree_is) front

    pub front_item : pair_in (cell_seen s w) ≡ None → AppendsFront mid new (item_text s inside w) → AppendsFront old new (text_of s from)
    front_item leaf front = writing_front old mid new (text_of s from) (rest_text s inside w stack) (item_text s inside w) (tails_text s stack) so_far.writing (rest_text-item s inside w stack leaf) front

    pub front_next : (between : Option (List ℕ)) (v : W) → pair_in (cell_seen s w) ≡ None → stack ≡ rest ++ v ∷ [] → between ≡ appended mid (item_text s inside w) → AppendsFront between new (codes ", ") → AppendsFront old new (text_of s from)
    front_next between v leaf pop item front =
        let first = writing_more old mid between (text_of s from) (rest_text s inside w stack) (item_text s inside w) (tails_text s stack) so_far.writing (rest_text-item s inside w stack leaf) item in
        writing_front old between new (text_of s from) (tails_text s stack) (codes ", ") (rest_text s true v rest) first (ap (tails_text s) pop ∙ tails_text-next s rest v) front

    pub printing_all : pair_in (cell_seen s w) ≡ None → stack ≡ [] → new ≡ appended mid (item_text s inside w) → new ≡ appended old (text_of s from)
    printing_all leaf none item =
        let first = writing_more old mid new (text_of s from) (rest_text s inside w stack) (item_text s inside w) (tails_text s stack) so_far.writing (rest_text-item s inside w stack leaf) item in
        writing_all old new (text_of s from) (tails_text s stack) first (ap (tails_text s) none ∙ tails_text-none s)
