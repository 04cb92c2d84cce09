use Rattle.std.proofs.Common.{sym, ◌∙◌, arith}
use Rattle.cap_words.specs.Seen.{seen}
use Rattle.vm_devices.proofs.Names.{reading_first, reading_full, reading_stop, reading_more, reading_last, reading_none, reading_cut}
use Rattle.vm_devices.proofs.name.read_name.Goals as goal
use Rattle.vm_devices.proofs.name.read_name.Goals.{else-len-gt0-via-then-len-gt0+else-is_same, else-len-gt0-via-else-len-gt0}

pub loop-q-init : goal.loop-q-init
loop-q-init c = reading_first (seen c.args.quads.now.store) c.args.list c.args.name.now c.requires

pub returns-then-len-eq-MOST_BYTES-clause-name : goal.returns-then-len-eq-MOST_BYTES-clause-name
returns-then-len-eq-MOST_BYTES-clause-name c = sym (reading_full (seen c.args.quads.now.store) c.args.list c.loop-q.rest c.loop-q.name c.loop-q.len c.loop-q.invariant c.in-Some.q (sym c.pair.ensures ∙ c.in-Some.is) c.if-len-eq-MOST_BYTES.true)

pub returns-in_err-byte-clause-name : goal.returns-in_err-byte-clause-name
returns-in_err-byte-clause-name c =
    let stop = reading_stop (seen c.args.quads.now.store) c.args.list c.loop-q.rest c.loop-q.name c.loop-q.len c.loop-q.invariant c.in-Some.q (sym c.pair.ensures ∙ c.in-Some.is) c.if-len-eq-MOST_BYTES.false (sym c.run_byte.ensures ∙ c.in_err-byte.was) in
    rw c.from_residual.ensures (sym stop)

pub loop-q-preserved : goal.loop-q-preserved
loop-q-preserved c = reading_more (seen c.args.quads.now.store) c.args.list c.loop-q.rest c.loop-q.name c.loop-q.len c.loop-q.invariant c.in-Some.q (sym c.pair.ensures ∙ c.in-Some.is) c.in_ok-byte.byte c.if-len-eq-MOST_BYTES.false (sym c.run_byte.ensures ∙ c.in_ok-byte.was)

pub returns-then-is_same-clause-name : goal.returns-then-is_same-clause-name
returns-then-is_same-clause-name c =
    sym (reading_last (seen c.args.quads.now.store) c.args.list c.loop-q.rest c.loop-q.name c.loop-q.len c.loop-q.invariant (sym c.pair.ensures ∙ c.in_default.is) (sym c.is_same.ensures ∙ c.if-is_same.true) (omega arith))

pub returns-else-len-gt0-clause-name : goal.returns-else-len-gt0-clause-name
returns-else-len-gt0-clause-name c = elim c.else-len-gt0.branch [
  | else-len-gt0-via-then-len-gt0+else-is_same w ↦ sym (reading_cut (seen c.args.quads.now.store) c.args.list c.loop-q.rest c.loop-q.name c.loop-q.len c.loop-q.invariant (sym c.pair.ensures ∙ c.in_default.is) (sym w.is_same.ensures ∙ w.if-is_same.false))
  | else-len-gt0-via-else-len-gt0 w ↦ sym (reading_none (seen c.args.quads.now.store) c.args.list c.loop-q.rest c.loop-q.name c.loop-q.len c.loop-q.invariant (sym c.pair.ensures ∙ c.in_default.is) (omega (arith, w.if-len-gt0.false)))
]
