use Rattle.uasm_read.proofs.faults.fault_by.Goals as goal

pub returns-in-Import : goal.returns-in-Import
returns-in-Import c = rw (c.in-Import.is, ← c.bytes-in-Import.ensures.value, ← c.contains-in-Import.ensures) c.fault_if-in-Import.ensures
