use Rattle.uasm_read.proofs.faults.unknown_by.Goals as goal

pub returns-in-Export : goal.returns-in-Export
returns-in-Export c = rw (c.in-Export.is, ← c.bytes.ensures.value, ← c.contains.ensures) c.fault_if.ensures
