use Rattle.std.proofs.Common.{arith}
use Rattle.hum_run.proofs.Counts.{counts-add_up}
use Rattle.hum_run.proofs.report.report_of.Goals as goal

pub overflow_cast-result-2 : goal.overflow_cast-result-2
overflow_cast-result-2 c = omega (arith, counts-add_up c.journal-journal.result.now, c.journal-journal.ensures.few, c.count_committed.ensures)

pub overflow_cast-result-3 : goal.overflow_cast-result-3
overflow_cast-result-3 c = omega (arith, counts-add_up c.journal-journal.result.now, c.journal-journal.ensures.few, c.count_failed.ensures)

pub overflow_cast-result-4 : goal.overflow_cast-result-4
overflow_cast-result-4 c = omega (arith, counts-add_up c.journal-journal.result.now, c.journal-journal.ensures.few, c.count_ran_out.ensures)

pub returns-clause-finished : goal.returns-clause-finished
returns-clause-finished c =
    omega (arith, counts-add_up c.journal-journal.result.now, c.count_committed.ensures, c.count_failed.ensures, c.count_ran_out.ensures)
