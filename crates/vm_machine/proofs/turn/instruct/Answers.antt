use Rattle.std.proofs.Common.{refl, arith}
use Rattle.std.specs.Vec.{with_item}
use Rattle.vm_machine.proofs.Ended.{lane-at, flies-at}
use Rattle.vm_machine.proofs.Instructed.{instructed-is, instructed-at, few-transfers}
use Rattle.vm_machine.proofs.turn.instruct.Goals as goal

pub step-requires-clause-held : goal.step-requires-clause-held
step-requires-clause-held c =
    let p = c.args.parts.now in
    let lane = c.index_mut.result.now in
    (flies-at p c.args.place lane (lane-at p.flight.items c.args.place lane c.requires.place c.index_mut.ensures.value) c.requires.whole.kept).held

pub step-requires-clause-transfers : goal.step-requires-clause-transfers
step-requires-clause-transfers c = few-transfers c.args.parts.now c.requires.whole

pub returns-clause-kept : goal.returns-clause-kept
returns-clause-kept c =
    let p = c.args.parts.now in
    let lane = c.index_mut.result.now in
    let e = lane-at p.flight.items c.args.place lane c.requires.place c.index_mut.ensures.value in
    (instructed-is p c.requires.whole c.args.place lane c.step.new.lane e c.step.new.quads c.step.new.sheet (with_item p.flight c.args.place c.step.new.lane) p.stuck refl refl (omega arith) c.step.ensures.stays c.step.result c.step.ensures.steps).0

pub returns-clause-state : goal.returns-clause-state
returns-clause-state c = λ l h.
    let p = c.args.parts.now in
    let lane = c.index_mut.result.now in
    let e = lane-at p.flight.items c.args.place lane c.requires.place c.index_mut.ensures.value in
    instructed-at p c.requires.whole c.args.place lane c.step.new.lane e c.step.new.quads c.step.new.sheet (with_item p.flight c.args.place c.step.new.lane) p.stuck refl refl (omega arith) c.step.ensures.stays c.step.result c.step.ensures.steps l h
