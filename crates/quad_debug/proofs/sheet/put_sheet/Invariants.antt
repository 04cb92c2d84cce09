use Rattle.std.proofs.Common.{◌≡◌, ◌≤◌, ◌-◌, take}
use Rattle.cap_words.specs.Store.{used}
use Rattle.hum_outside.specs.Outside.{appended}
use Rattle.quad_debug.specs.Texts.{sheet_lines}
use Rattle.quad_debug.proofs.sheet.put_sheet.Given as goal

abbrev pub invariant-rows : goal.invariant-rows
invariant-rows g l = record {
  so_far : g.K.Sink.written l.out ≡ appended (g.K.Sink.written l.fn.out) (sheet_lines 0 (take l.number l.machine.state.sheet));
  later : g.K.Sink.faults l.fn.out ≤ g.K.Sink.faults l.out;
}

abbrev pub decreases-rows : goal.decreases-rows
decreases-rows g l = used l.quads.store - l.number
