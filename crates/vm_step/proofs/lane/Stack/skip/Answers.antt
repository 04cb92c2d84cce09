use Rattle.std.proofs.Common.{◌≡◌, ◌+◌, ◌∙◌, List, ap, arith, drop}
use Rattle.std.proofs.lemmas.List.{drop-drop}
use Rattle.cap_words.specs.Seen.{seen}
use Rattle.instr_table.specs.Lane.{Item}
use Rattle.vm_step.specs.Stack.{items_from}
use Rattle.vm_step.proofs.lane.Stack.skip.Goals as goal

pub loop-i-preserved : goal.loop-i-preserved
loop-i-preserved c =
    let i = c.loop-i.invariant in
    let e = c.pop-value.ensures in
    let all = items_from (seen c.args.quads.now.store) c.args.self.now.depth c.args.self.now.word in
    let d : drop 1 (drop c.loop-i.i all) ≡ drop (c.loop-i.i + 1) all = drop-drop 1 c.loop-i.i all in
    (e.rest ∙ ap (λ (is : List Item). drop 1 is) i.0 ∙ d, e.stacked, omega (arith, e.depth))
