-- A device writes the same for a word as for the value that it stands for.
use Rattle.std.proofs.Common.{◌≡◌, ◌⊎◌, inl, inr, refl, ap, sym, subst, ◌∙◌, ℕ, zero, suc, ◌≤◌, Bool, true, false, List, [], ◌∷◌, ◌++◌, length, Option, Some, None, arith, if◌then◌else◌, nat_le}
use Rattle.std.specs.Prelude.{pos, negsuc, option_map, codes, encode_utf8, nat_lt, ◌&&◌, ◌||◌}
use Rattle.std.specs.List.{list_all}
use Rattle.std.proofs.lemmas.Bool.Decides.{nat_tests}
use Rattle.std.proofs.lemmas.Option.{none-some, same_Some}
use lib.Utf8.{scalar}
use Rattle.cap_words.specs.declared.word.Quad.{Quad}
use Rattle.cap_words.specs.Words.{W, Fix, Rom, Ram, Cap, same_word, undef, nil, truth, func_t, block_t, symbol_t}
use Rattle.cap_words.specs.Seen.{Seen, cell_seen}
use Rattle.cap_words.specs.Text.{is_run, is_run_byte}
use Rattle.cap_words.proofs.Same.{word_other}
use Rattle.instr_table.specs.Lists.{pair_in, pair_quad}
use Rattle.instr_table.specs.Types.{Shown, Readable, AnActor, look_up}
use Rattle.instr_table.proofs.ShownWords.{shown-read}
use Rattle.vm_turn.specs.Piece as machine
use Rattle.vm_turn.specs.Piece.{Tree, Leaf, Fork, most_leaves, tree, tree_text, shown_text, numbers_to, before}
use Rattle.vm_devices.specs.Laws.{Unfolds}
use Rattle.vm_devices.proofs.Trees.{trees_are}
use Rattle.hum_meaning.specs.Value.{Atom, Undefined, Nil, Truth, Number, Symbol, Actor, Value, Plain, Pair, Function, Block, Primitive, text_value}
use Rattle.hum_meaning.specs.Piece as meaning
use Rattle.hum_core.specs.Numbered.{Opening, Of}
use Rattle.hum_core.specs.TestLists.{Tests}
use Rattle.hum_code.specs.Layout.{Layout}
use Rattle.hum_code.specs.Stands.{Shows, three_quad, AtomStands, Stands, DataStand}

-- ---- what shows something

-- a word that shows a cell or an actor is no fixnum and no constant
shows_nothing : (s : Seen) (n : _) → look_up s (Fix n) ≡ None
unfolding look_up
shows_nothing s n = refl

constant_shows : (s : Seen) → (look_up s (Rom 0) ≡ None) × (look_up s (Rom 1) ≡ None) × (look_up s (Rom 2) ≡ None) × (look_up s (Rom 3) ≡ None)
unfolding look_up
constant_shows s = (refl, refl, refl, refl)

-- an actor's word has no cell
actor_cell : (s : Seen) (w : W) → look_up s w ≡ Some AnActor → cell_seen s w ≡ None
unfolding look_up
actor_cell s (Fix n) h = refl
actor_cell s (Rom n) h = by (cell_seen s (Rom n)) h
  where
    by : (o : Option Quad) → option_map Readable o ≡ Some AnActor → o ≡ None
    by None e = refl
    by (Some q) e = cc
actor_cell s (Ram n) h = by (cell_seen s (Ram n)) h
  where
    by : (o : Option Quad) → option_map Readable o ≡ Some AnActor → o ≡ None
    by None e = refl
    by (Some q) e = cc
actor_cell s (Cap n) h = refl

-- no character is a word that shows something
silent : (s : Seen) (w : W) (x : Shown) (o : Option (List ℕ)) → look_up s w ≡ Some x → machine.spoken w o ≡ None
silent s (Fix n) x o h = let z = shows_nothing s n in cc
silent s (Rom n) x o h = refl
silent s (Ram n) x o h = refl
silent s (Cap n) x o h = refl

not_nil : (s : Seen) (w : W) (x : Shown) → look_up s w ≡ Some x → same_word w nil ≡ false
not_nil s w x h = word_other w nil (λ e. let z = (constant_shows s).1 in let q : look_up s w ≡ look_up s (Rom 1) = ap (λ (v : W). look_up s v) e in absurd cc)

-- ---- trees are unique

unique : (s : Seen) (w : W) (t u : Tree) → Unfolds s w t → Unfolds s w u → t ≡ u
unique s w (Leaf a) (Leaf b) p q = ap Leaf (p.0 ∙ sym q.0)
unique s w (Leaf a) (Fork b d) p q = let x = p.1 in let y = q.1 in absurd (none-some q.0 (sym x ∙ y))
unique s w (Fork a b) (Leaf d) p q = let x = p.1 in let y = q.1 in absurd (none-some p.0 (sym y ∙ x))
unique s w (Fork a b) (Fork d e) p q =
    let same : q.0 ≡ p.0 = same_Some q.0 p.0 (sym q.1 ∙ p.1) in
    let x = unique s p.0.x a d p.2 (subst (λ (k : Quad). Unfolds s k.x d) same q.2) in
    let y = unique s p.0.y b e p.3 (subst (λ (k : Quad). Unfolds s k.y e) same q.3) in
    ap (λ (t : Tree). Fork t b) x ∙ ap (λ (t : Tree). Fork d t) y

-- ---- characters

same_either : (a b : Bool) → (a || b) ≡ (if a then true else b)
same_either true b = refl
same_either false b = refl

same_scalar : (n : ℕ) → machine.is_scalar n ≡ scalar n
same_scalar n = same_either (nat_lt n 55296) (nat_le 57344 n && nat_lt n 1114112)

second_of : (a b c : Bool) → (a && b && c) ≡ true → b ≡ true
second_of a true c e = refl
second_of true false c e = cc
second_of false false c e = cc

-- ---- lists of numbers

numbers_to_pair : (s : Seen) (n : ℕ) (w : W) (q : Quad) → pair_in (cell_seen s w) ≡ Some q → numbers_to s (suc n) w ≡ before q.x (numbers_to s n q.y)
unfolding numbers_to
numbers_to_pair s n w q h = rw (h, numbers_to) refl

numbers_to_nil : (s : Seen) (n : ℕ) → numbers_to s n nil ≡ Some []
unfolding numbers_to
numbers_to_nil s zero = refl
numbers_to_nil s (suc n) = refl

-- ---- a value's tree

-- what a word unfolds to, which is written as the value is
record Unfolded (s : Seen) (w : W) (v : Value Tests) : Type 0 where
  pub tree : Tree
  pub unfolds : Unfolds s w tree
  pub leaves : machine.leaves tree ≡ meaning.leaves v
  pub alone : tree_text s false tree ≡ meaning.text_of false v
  pub inside : tree_text s true tree ≡ meaning.text_of true v
  pub said : machine.speech tree ≡ meaning.speech v
  pub begins : (t : Tree) (o : Option (List ℕ)) → machine.speech t ≡ o → machine.speech (Fork tree t) ≡ meaning.spoken v o

-- a word that names no pair
leaf : (s : Seen) (w : W) (v : Value Tests) → pair_in (cell_seen s w) ≡ None → meaning.leaves v ≡ 1 → shown_text s (look_up s w) w ≡ meaning.text_of false v
    → shown_text s (look_up s w) w ≡ meaning.text_of true v → machine.speech (Leaf w) ≡ meaning.speech v → ((o : Option (List ℕ)) → machine.spoken w o ≡ meaning.spoken v o) → Unfolded s w v
leaf s w v bare one a b c d = record {
  tree = Leaf w;
  unfolds = (refl, bare);
  leaves = sym one;
  alone = a;
  inside = b;
  said = c;
  begins = λ t o e. ap (λ x. machine.spoken w x) e ∙ d o;
}

module _ (lay : Layout) (s : Seen) (roll : List W) (stand : DataStand lay s) (names : (name : List ℕ) (w : W) → lay.symbol name ≡ Some w → is_run name ≡ true) where
  -- the list of a name
  name_read : (r : List W) (n : ℕ) (w : W) (name : List ℕ) → length name ≤ n → Stands lay s r w (text_value name) → numbers_to s n w ≡ Some name
  unfolding Stands
  name_read r n w [] le h = ap (λ (v : W). numbers_to s n v) h ∙ numbers_to_nil s n
  name_read r zero w (k ∷ name) le h = absurd (omega (arith, le))
  name_read r (suc n) w (k ∷ name) le h =
      let cell = ap pair_in (shown-read s w _ h.2) in
      let rest = name_read r n h.1 name (omega (arith, le)) h.4 in
      numbers_to_pair s n w (pair_quad h.0 h.1) cell ∙ (ap (λ (v : W). before v (numbers_to s n h.1)) h.3 ∙ ap (λ (o : Option (List ℕ)). before (Fix (pos k)) o) rest)

  symbol_name : (w : W) (name : List ℕ) → lay.symbol name ≡ Some w → (q : Quad) × (look_up s w ≡ Some (Readable q)) × (q.t ≡ symbol_t) × (numbers_to s 128 q.x ≡ Some name)
  symbol_name w name h =
      let x = stand.symbols name w h in
      let run = second_of (nat_le 1 (length name)) (nat_le (length name) 128) (list_all is_run_byte name) (names name w h) in
      let le : length name ≤ 128 = grind (arith, nat_tests, run) in
      (three_quad symbol_t x.0 undef, x.1, refl, name_read [] 128 x.0 name le x.2)

  shown_leaf : (w : W) (x : Shown) (v : Value Tests) → look_up s w ≡ Some x → pair_in (cell_seen s w) ≡ None → meaning.leaves v ≡ 1 → shown_text s (Some x) w ≡ meaning.text_of false v
      → shown_text s (Some x) w ≡ meaning.text_of true v → meaning.speech v ≡ None → ((o : Option (List ℕ)) → meaning.spoken v o ≡ None) → Unfolded s w v
  shown_leaf w x v h bare one a b c d =
      leaf s w v bare one (ap (λ (o : Option Shown). shown_text s o w) h ∙ a) (ap (λ (o : Option Shown). shown_text s o w) h ∙ b)
      (rw (not_nil s w x h) (sym c)) (λ o. silent s w x o h ∙ sym (d o))

  plain_leaf : (w u : W) (v : Value Tests) → w ≡ u → Unfolded s u v → Unfolded s w v
  plain_leaf w u v e x = subst (λ (k : W). Unfolded s k v) (sym e) x

  atom_unfolded : (w : W) (a : Atom) → AtomStands lay s roll w a → Unfolded s w (Plain a)
  unfolding look_up
  atom_unfolded w Undefined h = plain_leaf w undef (Plain Undefined) h (leaf s undef (Plain Undefined) refl refl refl refl refl (λ o. refl))
  atom_unfolded w Nil h = plain_leaf w nil (Plain Nil) h (leaf s nil (Plain Nil) refl refl refl refl refl (λ o. refl))
  atom_unfolded w (Truth true) h = plain_leaf w (truth true) (Plain (Truth true)) h (leaf s (truth true) (Plain (Truth true)) refl refl refl refl refl (λ o. refl))
  atom_unfolded w (Truth false) h = plain_leaf w (truth false) (Plain (Truth false)) h (leaf s (truth false) (Plain (Truth false)) refl refl refl refl refl (λ o. refl))
  atom_unfolded w (Number (pos n)) h = plain_leaf w (Fix (pos n)) (Plain (Number (pos n))) h (leaf s (Fix (pos n)) (Plain (Number (pos n))) refl refl refl refl refl (λ o. ap (λ b. if b then option_map (λ bytes. encode_utf8 n ++ bytes) o else None) (same_scalar n)))
  atom_unfolded w (Number (negsuc n)) h = plain_leaf w (Fix (negsuc n)) (Plain (Number (negsuc n))) h (leaf s (Fix (negsuc n)) (Plain (Number (negsuc n))) refl refl refl refl refl (λ o. refl))
  atom_unfolded w (Symbol name) h =
      let x = symbol_name w name h in
      let text : shown_text s (Some (Readable x.0)) w ≡ codes "#" ++ name = rw x.2 (rw x.3 (rw (names name w h) refl)) in
      shown_leaf w (Readable x.0) (Plain (Symbol name)) x.1 (ap pair_in (shown-read s w x.0 x.1) ∙ rw x.2 refl) refl text text refl (λ o. refl)
  atom_unfolded w (Actor n) h = shown_leaf w AnActor (Plain (Actor n)) h.1 (ap pair_in (actor_cell s w h.1)) refl refl refl refl (λ o. refl)

  cell_leaf : (w t x y : W) (v : Value Tests) → Shows s w (three_quad t x y) → pair_in (Some (three_quad t x y)) ≡ None → meaning.leaves v ≡ 1
      → shown_text s (Some (Readable (three_quad t x y))) w ≡ meaning.text_of false v → shown_text s (Some (Readable (three_quad t x y))) w ≡ meaning.text_of true v
      → meaning.speech v ≡ None → ((o : Option (List ℕ)) → meaning.spoken v o ≡ None) → Unfolded s w v
  cell_leaf w t x y v h bare one a b c d = shown_leaf w (Readable (three_quad t x y)) v h (ap pair_in (shown-read s w _ h) ∙ bare) one a b c d

  unfolded : (w : W) (v : Value Tests) → Stands lay s roll w v → Unfolded s w v
  unfolding Stands
  unfolded w (Plain a) h = atom_unfolded w a h
  unfolded w (Pair a b) h =
      let x = unfolded h.0 a h.3 in
      let y = unfolded h.1 b h.4 in
      record {
        tree = Fork x.tree y.tree;
        unfolds = (pair_quad h.0 h.1, ap pair_in (shown-read s w _ h.2), x.unfolds, y.unfolds);
        leaves = omega (arith, x.leaves, y.leaves);
        alone = ap (λ k. codes "(" ++ k ++ codes ", " ++ tree_text s true y.tree ++ codes ")") x.alone ∙ ap (λ k. codes "(" ++ meaning.text_of false a ++ codes ", " ++ k ++ codes ")") y.inside;
        inside = ap (λ k. k ++ codes ", " ++ tree_text s true y.tree) x.alone ∙ ap (λ k. meaning.text_of false a ++ codes ", " ++ k) y.inside;
        said = x.begins y.tree (meaning.speech b) y.said;
        begins = λ t o e. refl;
      }
  unfolded w (Function Opening env) h = absurd h
  unfolded w (Function (Of k) env) h = cell_leaf w func_t (lay.place k) h.0 (Function (Of k) env) h.1 refl refl refl refl refl (λ o. refl)
  unfolded w (Block k env) h = cell_leaf w block_t (lay.place k) h.0 (Block k env) h.1 refl refl refl refl refl (λ o. refl)
  unfolded w (Primitive b) h =
      cell_leaf w func_t (lay.routine b) _ (Primitive b) (ap (λ (v : W). look_up s v) h ∙ stand.primitives b) refl refl refl refl refl (λ o. refl)

  -- ---- devices

  has_tree : (w : W) (v : Value Tests) → (u : Unfolded s w v) → meaning.leaves v ≤ most_leaves → tree s w ≡ Some u.tree
  has_tree w v u few = (trees_are s w u.tree).1 (u.unfolds, omega (arith, few, u.leaves))

  no_tree : (w : W) (v : Value Tests) → (u : Unfolded s w v) → (meaning.leaves v ≤ most_leaves → ⊥) → tree s w ≡ None
  no_tree w v u many = by (tree s w) refl
    where
      by : (o : Option Tree) → tree s w ≡ o → o ≡ None
      by None e = refl
      by (Some t) e =
          let x = (trees_are s w t).0 e in
          let same : t ≡ u.tree = unique s w t u.tree x.0 u.unfolds in
          let n = ap machine.leaves same in
          absurd (many (omega (arith, n, x.1, u.leaves)))

  pub writes_same : (device : ℕ) → (device ≡ 0) ⊎ (device ≡ 1) → (w : W) (v : Value Tests) → Stands lay s roll w v → machine.piece device s w ≡ meaning.piece device v
  unfolding machine.piece meaning.piece
  writes_same device (inl e) w v h = rw e (by (nat_le (meaning.leaves v) meaning.most_leaves) refl)
    where
      by : (b : Bool) → nat_le (meaning.leaves v) meaning.most_leaves ≡ b → machine.printed s (tree s w) ≡ (if b then option_map meaning.line (meaning.device_text 0 v) else None)
      by true q =
          let few : meaning.leaves v ≤ most_leaves = grind (arith, nat_tests, q) in
          let u = unfolded w v h in
          ap (machine.printed s) (has_tree w v u few) ∙ ap (λ k. Some (machine.line k)) u.alone
      by false q =
          let many : meaning.leaves v ≤ most_leaves → ⊥ = λ few. let z : nat_le (meaning.leaves v) meaning.most_leaves ≡ true = grind (arith, nat_tests, few) in absurd cc in
          ap (machine.printed s) (no_tree w v (unfolded w v h) many)
  writes_same device (inr e) w v h = rw e (by (nat_le (meaning.leaves v) meaning.most_leaves) refl)
    where
      by : (b : Bool) → nat_le (meaning.leaves v) meaning.most_leaves ≡ b → machine.said (tree s w) ≡ (if b then option_map meaning.line (meaning.device_text 1 v) else None)
      by true q =
          let few : meaning.leaves v ≤ most_leaves = grind (arith, nat_tests, q) in
          let u = unfolded w v h in
          ap machine.said (has_tree w v u few) ∙ ap (λ k. option_map machine.line k) u.said
      by false q =
          let many : meaning.leaves v ≤ most_leaves → ⊥ = λ few. let z : nat_le (meaning.leaves v) meaning.most_leaves ≡ true = grind (arith, nat_tests, few) in absurd cc in
          ap machine.said (no_tree w v (unfolded w v h) many)
