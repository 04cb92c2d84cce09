use Rattle.std.proofs.Common.{◌≡◌, ◌≤◌, drop}
use Rattle.cap_words.specs.Seen.{seen}
use Rattle.vm_step.specs.Stack.{items_from, IsStack}
use Rattle.vm_step.proofs.lane.Stack.skip.Given as goal

abbrev pub invariant-loop-i : goal.invariant-loop-i
invariant-loop-i l =
    (items_from (seen l.quads.store) l.self.depth l.self.word ≡ drop l.i (items_from (seen l.quads.store) l.fn.self.depth l.fn.self.word))
    × IsStack (seen l.quads.store) l.self.depth l.self.word
    × (l.self.depth ≤ l.fn.self.depth)
