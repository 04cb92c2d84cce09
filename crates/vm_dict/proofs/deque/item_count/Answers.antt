use Rattle.cap_words.specs.Seen.{seen}
use Rattle.instr_table.specs.Lists.{longest}
use Rattle.vm_dict.proofs.Items.{counting-start, counting-more, counting-none, counting-end}
use Rattle.vm_dict.proofs.deque.item_count.Goals as goal

pub loop-count-init : goal.loop-count-init
loop-count-init c = counting-start (seen c.args.quads.now.store) longest c.args.list

pub loop-count-preserved : goal.loop-count-preserved
loop-count-preserved c = counting-more (seen c.args.quads.now.store) longest c.args.list c.loop-count.count c.loop-count.at c.in-Some.q c.loop-count.invariant c.loop-count-test.true c.in-Some.ensures

pub returns-in-None-clause-count : goal.returns-in-None-clause-count
returns-in-None-clause-count c = counting-none (seen c.args.quads.now.store) longest c.args.list c.loop-count.count c.loop-count.at c.loop-count.invariant c.in-None.ensures

pub returns-clause-count : goal.returns-clause-count
returns-clause-count c = counting-end (seen c.args.quads.now.store) longest c.args.list c.loop-count.count c.loop-count.at c.loop-count.invariant c.loop-count-test.false c.loop-count.auto.count-end
