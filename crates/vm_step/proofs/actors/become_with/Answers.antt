use Rattle.vm_step.proofs.Recording.{became}
use Rattle.vm_step.proofs.actors.become_with.Goals as goal

pub returns-in-Ok : goal.returns-in-Ok
returns-in-Ok c =
    let a = c.args.quads.now in
    let l = c.args.lane.now in
    let e = c.in-Ok.ensures in
    became a a l c.goes.new.self c.become_with.new.self c.at-code.result c.at-state.result c.args.next c.goes.result c.requires e.first (e.effects a.store) (e.linked a.store c.requires.linked) c.at-code.ensures c.at-state.ensures c.goes.ensures
