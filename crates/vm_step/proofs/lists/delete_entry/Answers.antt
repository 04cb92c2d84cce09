use Rattle.cap_words.specs.Seen.{seen}
use Rattle.instr_table.specs.Lists.{next_quad}
use Rattle.instr_table.specs.Dictionary.{dict_del}
use Rattle.vm_step.proofs.Listing.{built-ready, built-gives}
use Rattle.vm_step.proofs.lists.delete_entry.Goals as goal

pub gives-requires : goal.gives-requires
gives-requires c =
    let s = seen c.args.quads.now.store in
    built-ready c.args.quads.now c.dict_del-made.new.quads c.args.lane.now _ _ (λ i. dict_del s (next_quad s) (c.at-dict.ensures i) (c.at-key.ensures i)) c.requires c.dict_del-made.ensures.cells

pub returns : goal.returns
returns c =
    let s = seen c.args.quads.now.store in
    built-gives c.args.quads.now c.dict_del-made.new.quads c.gives.new.quads c.args.lane.now c.gives.new.self _ _ 2 c.dict_del-made.result c.args.next c.gives.result
    (λ i. dict_del s (next_quad s) (c.at-dict.ensures i) (c.at-key.ensures i)) c.requires c.dict_del-made.ensures.cells c.dict_del-made.ensures.word c.gives.ensures
