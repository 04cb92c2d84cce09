use Rattle.std.proofs.Common.{arith}
use Rattle.vm_step.proofs.Moving.{ready-makes}
use Rattle.vm_step.proofs.Recording.{makes-creates, created}
use Rattle.vm_step.proofs.actors.create.Goals as goal

pub gives-requires : goal.gives-requires
gives-requires c =
    let e = c.create-actor.ensures in
    let p = makes-creates c.args.quads.now c.create-actor.new.quads c.args.lane.now c.create-actor.new.self e.linked e.frame e.room c.at-state.result c.at-code.result e.effects e.seen in
    ready-makes c.args.quads.now c.create-actor.new.quads c.args.lane.now _ 2 _ _ c.requires p 1 (omega arith)

pub returns : goal.returns
returns c =
    let a = c.args.quads.now in
    let l = c.args.lane.now in
    let e = c.create-actor.ensures in
    let p = makes-creates a c.create-actor.new.quads l c.create-actor.new.self e.linked e.frame e.room c.at-state.result c.at-code.result e.effects e.seen in
    created a c.create-actor.new.quads c.gives.new.quads l c.gives.new.self c.create-actor.new.self c.at-code.result c.at-state.result c.create-actor.result c.args.next c.gives.result c.requires p e.word c.at-code.ensures c.at-state.ensures c.gives.ensures
