use Rattle.std.proofs.Common.{◌∙◌, sym}
use Rattle.cap_words.specs.declared.word.Tag.TheVariants.{Ordinary}
use Rattle.cap_words.specs.Words.{undef}
use Rattle.quad_memory.proofs.Columns.{found, found_other, found_none}
use Rattle.quad_memory.proofs.quads.cell_in.Goals as goal
use Rattle.quad_memory.proofs.quads.cell_in.Goals.{else-at-quads-via-then-at-quads+else-is_same_tag, else-at-quads-via-else-at-quads}

pub returns-then-is_same_tag : goal.returns-then-is_same_tag
returns-then-is_same_tag c =
    found c.args.tag Ordinary c.args.tags.now c.args.quads.now c.args.place c.index-quads-at.result c.requires c.if-at-quads.true
    (sym c.is_same_tag.ensures ∙ c.if-is_same_tag.true) c.index-quads-at.is

pub returns-else-at-quads : goal.returns-else-at-quads
returns-else-at-quads c = elim c.else-at-quads.branch [
  | else-at-quads-via-then-at-quads+else-is_same_tag w ↦
      found_other c.args.tag Ordinary c.args.tags.now c.args.quads.now c.args.place (record { t = undef; x = undef; y = undef; z = undef }) c.requires w.if-at-quads.true
      (sym w.is_same_tag.ensures ∙ w.if-is_same_tag.false)
  | else-at-quads-via-else-at-quads w ↦ found_none c.args.tag c.args.tags.now c.args.quads.now c.args.place c.requires w.if-at-quads.false
]
