use Rattle.std.proofs.Common.{sym, ap, ◌∙◌, subst, arith}
use Rattle.cap_words.specs.Seen.{seen}
use Rattle.instr_table.specs.Lists.{Built, next_quad}
use Rattle.vm_dict.specs.Made.{Takes}
use Rattle.vm_dict.proofs.Taking.{takes-none}
use Rattle.vm_dict.proofs.Copies.{found-whole, length-del, del-some, del-none}
use Rattle.vm_dict.proofs.dict.dict_del.Goals as goal

pub copy_first-requires-clause-whole : goal.copy_first-requires-clause-whole
copy_first-requires-clause-whole c = found-whole (seen c.args.quads.now.store) c.args.dict c.args.key c.in-Some.f c.in-Some.ensures.found

pub copy_first-requires-clause-room : goal.copy_first-requires-clause-room
copy_first-requires-clause-room c =
    let s = seen c.args.quads.now.store in
    let l = length-del s (next_quad s) c.args.dict c.args.key c.in-Some.f c.in-Some.ensures.found in
    omega arith

pub returns-in-Some-clause-cells : goal.returns-in-Some-clause-cells
returns-in-Some-clause-cells c =
    let s = seen c.args.quads.now.store in
    subst (λ (b : Built). Takes c.args.quads.now c.copy_first.new.quads b.cells) (sym (del-some s (next_quad s) c.args.dict c.args.key c.in-Some.f c.in-Some.ensures.found)) c.copy_first.ensures.cells

pub returns-in-Some-clause-word : goal.returns-in-Some-clause-word
returns-in-Some-clause-word c =
    let s = seen c.args.quads.now.store in
    c.copy_first.ensures.word ∙ sym (ap (λ (b : Built). b.word) (del-some s (next_quad s) c.args.dict c.args.key c.in-Some.f c.in-Some.ensures.found))

pub returns-in-None-clause-cells : goal.returns-in-None-clause-cells
returns-in-None-clause-cells c =
    let s = seen c.args.quads.now.store in
    subst (λ (b : Built). Takes c.args.quads.now c.args.quads.now b.cells) (sym (del-none s (next_quad s) c.args.dict c.args.key c.in-None.ensures.found)) (takes-none c.args.quads.now)

pub returns-in-None-clause-word : goal.returns-in-None-clause-word
returns-in-None-clause-word c =
    let s = seen c.args.quads.now.store in
    sym (ap (λ (b : Built). b.word) (del-none s (next_quad s) c.args.dict c.args.key c.in-None.ensures.found))
