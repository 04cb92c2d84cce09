-- Which trees a device takes.
use Rattle.std.specs.Prelude.{◌≡◌, ◌≤◌, ◌↔◌, Some, None}
use Rattle.cap_words.specs.declared.word.Quad.{Quad}
use Rattle.cap_words.specs.Words.{W}
use Rattle.cap_words.specs.Seen.{Seen, cell_seen}
use Rattle.instr_table.specs.Lists.{pair_in}
use Rattle.vm_turn.specs.Piece.{Tree, Leaf, Fork, leaves, most_leaves, tree}

-- a word unfolds to a tree: to itself where it names no pair, and else to a fork of what the pair's words unfold to
abbrev pub Unfolds : Seen → W → Tree → Type 0
Unfolds s w (Leaf v) = (v ≡ w) × (pair_in (cell_seen s w) ≡ None)
Unfolds s w (Fork a b) = (q : Quad) × (pair_in (cell_seen s w) ≡ Some q) × Unfolds s q.x a × Unfolds s q.y b

-- the tree of a word is the finite one that it unfolds to, where that has at most 65,536 leaves
abbrev pub TreesAreUnfoldings : Type 0
TreesAreUnfoldings = (s : Seen) (w : W) (t : Tree) → (tree s w ≡ Some t) ↔ (Unfolds s w t × (leaves t ≤ most_leaves))
