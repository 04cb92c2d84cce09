use Rattle.std.proofs.Common.{◌-◌, arith}
use Rattle.cap_words.specs.Seen.{seen}
use Rattle.vm_dict.proofs.Copies.{copied-whole, copied-there, copied-room, copied-more}
use Rattle.vm_dict.proofs.dict.+copy_first.Goals as goal

pub copy_first-next-requires : goal.copy_first-next-requires
copy_first-next-requires t c = (
  omega arith,
  (
    copied-whole (seen c.args.quads.now.store) c.args.count (c.args.count - 1) c.args.dict c.in-Some.e (omega arith) c.requires.whole c.in-Some.ensures,
    omega arith,
  ),
)

pub take_entry-requires : goal.take_entry-requires
take_entry-requires t c =
    copied-room c.args.quads.now c.copy_first-next.new.quads c.args.count (c.args.count - 1) c.in-Some.e.z c.args.tail (omega arith)
    (copied-whole (seen c.args.quads.now.store) c.args.count (c.args.count - 1) c.args.dict c.in-Some.e (omega arith) c.requires.whole c.in-Some.ensures)
    c.copy_first-next.ensures.cells c.requires.room

pub unreachable-requires : goal.unreachable-requires
unreachable-requires t c = copied-there (seen c.args.quads.now.store) c.args.count c.args.dict c.if-count-eq0.false c.requires.whole c.in-None.ensures

pub returns-clause-cells : goal.returns-clause-cells
returns-clause-cells t c =
    (copied-more c.args.quads.now c.copy_first-next.new.quads c.take_entry.new.quads c.args.count (c.args.count - 1) c.args.dict c.args.tail c.copy_first-next.result c.take_entry.result c.in-Some.e (omega arith) c.in-Some.ensures
    (copied-whole (seen c.args.quads.now.store) c.args.count (c.args.count - 1) c.args.dict c.in-Some.e (omega arith) c.requires.whole c.in-Some.ensures)
    (record { cells = c.copy_first-next.ensures.cells; word_is = c.copy_first-next.ensures.word })
    c.take_entry.ensures.cells c.take_entry.ensures.word).cells

pub returns-clause-word : goal.returns-clause-word
returns-clause-word t c =
    (copied-more c.args.quads.now c.copy_first-next.new.quads c.take_entry.new.quads c.args.count (c.args.count - 1) c.args.dict c.args.tail c.copy_first-next.result c.take_entry.result c.in-Some.e (omega arith) c.in-Some.ensures
    (copied-whole (seen c.args.quads.now.store) c.args.count (c.args.count - 1) c.args.dict c.in-Some.e (omega arith) c.requires.whole c.in-Some.ensures)
    (record { cells = c.copy_first-next.ensures.cells; word_is = c.copy_first-next.ensures.word })
    c.take_entry.ensures.cells c.take_entry.ensures.word).word_is
