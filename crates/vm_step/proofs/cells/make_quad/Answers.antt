use Rattle.std.proofs.Common.{ap, sym, ◌∙◌, arith}
use Rattle.cap_words.specs.Seen.{seen}
use Rattle.instr_table.specs.Types.{is_makeable}
use Rattle.vm_step.proofs.Making.{quad-made}
use Rattle.vm_step.proofs.Moving.{ready-takes}
use Rattle.vm_step.proofs.cells.make_quad.Goals as goal

pub gives-requires-2 : goal.gives-requires-2
gives-requires-2 c = ready-takes c.args.quads.now c.take-made.new.quads c.args.lane.now 2 1 _ c.requires c.take-made.ensures.cells (omega arith)

pub returns : goal.returns
returns c =
    quad-made c.args.quads.now c.take-made.new.quads c.gives-2.new.quads c.args.lane.now c.gives-2.new.self c.args.n 2 _ c.take-made.result c.args.next c.gives-2.result c.requires c.take-made.ensures.cells c.take-made.ensures.word
    (λ i. record { t = c.at-t.ensures i; x = c.item_of.ensures i; y = c.item_of-2.ensures i; z = c.item_of-3.ensures i })
    (ap (is_makeable (seen c.args.quads.now.store)) (sym c.at-t.ensures) ∙ sym c.is_makeable.ensures ∙ c.if-not-is_makeable.false) c.gives-2.ensures
