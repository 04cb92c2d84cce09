use Rattle.std.proofs.Common.{sym, ◌∙◌}
use Rattle.cap_words.specs.Seen.{seen}
use Rattle.instr_table.specs.Lists.{longest}
use Rattle.vm_dict.proofs.Entries.{searching-start, searching-more, searching-found, searching-none, searching-end}
use Rattle.vm_dict.proofs.dict.find.Goals as goal

pub loop-before-init : goal.loop-before-init
loop-before-init c = searching-start (seen c.args.quads.now.store) longest c.args.dict c.args.key

pub loop-before-preserved : goal.loop-before-preserved
loop-before-preserved c =
    searching-more (seen c.args.quads.now.store) longest c.args.dict c.args.key c.loop-before.before c.loop-before.at c.in-Some.e
    c.loop-before.invariant c.loop-before-test.true c.in-Some.ensures (sym c.is_same.ensures ∙ c.if-is_same.false)

pub returns-then-is_same-clause-found : goal.returns-then-is_same-clause-found
returns-then-is_same-clause-found c =
    searching-found (seen c.args.quads.now.store) longest c.args.dict c.args.key c.loop-before.before c.loop-before.at c.in-Some.e
    c.loop-before.invariant c.loop-before-test.true c.in-Some.ensures (sym c.is_same.ensures ∙ c.if-is_same.true)

pub returns-in-None-clause-found : goal.returns-in-None-clause-found
returns-in-None-clause-found c =
    searching-none (seen c.args.quads.now.store) longest c.args.dict c.args.key c.loop-before.before c.loop-before.at c.loop-before.invariant c.in-None.ensures

pub returns-clause-found : goal.returns-clause-found
returns-clause-found c =
    searching-end (seen c.args.quads.now.store) longest c.args.dict c.args.key c.loop-before.before c.loop-before.at c.loop-before.invariant c.loop-before-test.false
