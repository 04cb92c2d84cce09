use Rattle.std.proofs.Common.{ap, sym, subst, ◌∙◌}
use Rattle.cap_words.specs.Seen.{seen}
use Rattle.instr_table.specs.Lists.{next_quad}
use Rattle.instr_table.specs.Deque.{Taking}
use Rattle.vm_dict.specs.Made.{Takes, HasRoom}
use Rattle.vm_dict.proofs.Taking.{takes-none}
use Rattle.vm_dict.proofs.Turns.{taking-some, taking-none}
use Rattle.vm_dict.proofs.deque.take_end.Goals as goal

pub turn-requires : goal.turn-requires
turn-requires c =
    let s = seen c.args.quads.now.store in
    subst (λ (t : Taking). HasRoom c.args.quads.now t.cells) (taking-none s (next_quad s) c.args.near c.args.far c.in-None.ensures) c.requires

pub returns-in-Some-clause-cells : goal.returns-in-Some-clause-cells
returns-in-Some-clause-cells c =
    let s = seen c.args.quads.now.store in
    subst (λ (t : Taking). Takes c.args.quads.now c.args.quads.now t.cells) (sym (taking-some s (next_quad s) c.args.near c.args.far c.in-Some.q c.in-Some.ensures)) (takes-none c.args.quads.now)

pub returns-in-Some-clause-rest : goal.returns-in-Some-clause-rest
returns-in-Some-clause-rest c =
    let s = seen c.args.quads.now.store in
    let e = taking-some s (next_quad s) c.args.near c.args.far c.in-Some.q c.in-Some.ensures in
    (sym (ap (λ (t : Taking). t.value) e), sym (ap (λ (t : Taking). t.near) e), sym (ap (λ (t : Taking). t.far) e))

pub returns-in-None-clause-cells : goal.returns-in-None-clause-cells
returns-in-None-clause-cells c =
    let s = seen c.args.quads.now.store in
    subst (λ (t : Taking). Takes c.args.quads.now c.turn.new.quads t.cells) (sym (taking-none s (next_quad s) c.args.near c.args.far c.in-None.ensures)) c.turn.ensures.cells

pub returns-in-None-clause-rest : goal.returns-in-None-clause-rest
returns-in-None-clause-rest c =
    let s = seen c.args.quads.now.store in
    let e = sym (taking-none s (next_quad s) c.args.near c.args.far c.in-None.ensures) in
    let r = c.turn.ensures.rest in
    (r.0 ∙ ap (λ (t : Taking). t.value) e, r.1 ∙ ap (λ (t : Taking). t.near) e, r.2 ∙ ap (λ (t : Taking). t.far) e)
