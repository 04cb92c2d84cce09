use Rattle.std.proofs.Common.{[], ◌∷◌, arith}
use Rattle.cap_words.specs.Words.{Cap}
use Rattle.cap_words.specs.Seen.{EventSlot, seen}
use Rattle.instr_table.specs.Lists.{next_quad}
use Rattle.instr_table.specs.Event.{Sends}
use Rattle.vm_step.proofs.Moving.{makes-turns, ready-makes}
use Rattle.vm_step.proofs.Recording.{makes-sends}
use Rattle.vm_step.proofs.actors.send_under.Goals as goal

pub goes-requires : goal.goes-requires
goes-requires c =
    let e = c.send.ensures in
    let p = makes-sends c.args.quads.now c.send.new.quads c.args.lane.now c.send.new.self e.linked e.frame e.room c.args.sponsor c.args.target c.args.message e.effects e.seen in
    ready-makes c.args.quads.now c.send.new.quads c.args.lane.now _ 1 _ _ c.requires p 0 (omega arith)

pub returns : goal.returns
returns c =
    let a = c.args.quads.now in
    let l = c.args.lane.now in
    let e = c.send.ensures in
    let p = makes-sends a c.send.new.quads l c.send.new.self e.linked e.frame e.room c.args.sponsor c.args.target c.args.message e.effects e.seen in
    makes-turns a c.send.new.quads l (record l { effects = c.send.new.self }) 1 (EventSlot c.args.sponsor c.args.target c.args.message ∷ [])
    (Sends (record { event = Cap (next_quad (seen a.store)); sponsor = c.args.sponsor; target = c.args.target; content = c.args.message })) c.requires p c.send.new.quads c.goes.new.self c.args.pops [] c.args.next c.goes.result c.goes.ensures
