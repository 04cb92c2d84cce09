use Rattle.std.proofs.Common.{sym, ap, ◌∙◌, subst, arith}
use Rattle.cap_words.specs.Seen.{seen}
use Rattle.instr_table.specs.Lists.{Built, next_quad}
use Rattle.vm_dict.specs.Made.{Takes}
use Rattle.vm_dict.proofs.Copies.{length-set, length-set_none, set-none, set-whole, set-room, set-made}
use Rattle.vm_dict.proofs.dict.dict_set.Goals as goal

pub take_entry-tail-requires : goal.take_entry-tail-requires
take_entry-tail-requires c =
    let s = seen c.args.quads.now.store in
    let l = length-set s (next_quad s) c.args.dict c.args.key c.args.value c.in-Some.f c.in-Some.ensures.found in
    omega arith

pub copy_first-requires-clause-whole : goal.copy_first-requires-clause-whole
copy_first-requires-clause-whole c =
    set-whole c.args.quads.now c.take_entry-tail.new.quads c.args.dict c.args.key c.args.value c.take_entry-tail.result c.in-Some.f c.in-Some.ensures.found c.take_entry-tail.ensures.cells

pub copy_first-requires-clause-room : goal.copy_first-requires-clause-room
copy_first-requires-clause-room c =
    set-room c.args.quads.now c.take_entry-tail.new.quads c.args.dict c.args.key c.args.value c.take_entry-tail.result c.in-Some.f c.in-Some.ensures.found c.take_entry-tail.ensures.cells c.requires

pub take_entry-requires : goal.take_entry-requires
take_entry-requires c =
    let s = seen c.args.quads.now.store in
    let l = length-set_none s (next_quad s) c.args.dict c.args.key c.args.value c.in-None.ensures.found in
    omega arith

pub returns-in-Some-clause-cells : goal.returns-in-Some-clause-cells
returns-in-Some-clause-cells c =
    (set-made c.args.quads.now c.take_entry-tail.new.quads c.args.dict c.args.key c.args.value c.take_entry-tail.result c.in-Some.f c.in-Some.ensures.found c.take_entry-tail.ensures.cells
    c.copy_first.new.quads c.copy_first.result c.take_entry-tail.ensures.word (record { cells = c.copy_first.ensures.cells; word_is = c.copy_first.ensures.word })).0

pub returns-in-Some-clause-word : goal.returns-in-Some-clause-word
returns-in-Some-clause-word c =
    (set-made c.args.quads.now c.take_entry-tail.new.quads c.args.dict c.args.key c.args.value c.take_entry-tail.result c.in-Some.f c.in-Some.ensures.found c.take_entry-tail.ensures.cells
    c.copy_first.new.quads c.copy_first.result c.take_entry-tail.ensures.word (record { cells = c.copy_first.ensures.cells; word_is = c.copy_first.ensures.word })).1

pub returns-in-None-clause-cells : goal.returns-in-None-clause-cells
returns-in-None-clause-cells c =
    let s = seen c.args.quads.now.store in
    subst (λ (b : Built). Takes c.args.quads.now c.take_entry.new.quads b.cells) (sym (set-none s (next_quad s) c.args.dict c.args.key c.args.value c.in-None.ensures.found)) c.take_entry.ensures.cells

pub returns-in-None-clause-word : goal.returns-in-None-clause-word
returns-in-None-clause-word c =
    let s = seen c.args.quads.now.store in
    c.take_entry.ensures.word ∙ sym (ap (λ (b : Built). b.word) (set-none s (next_quad s) c.args.dict c.args.key c.args.value c.in-None.ensures.found))
