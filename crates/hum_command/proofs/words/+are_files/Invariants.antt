use Rattle.std.proofs.Common.{length}
use Rattle.hum_command.proofs.words.+are_files.Given as goal

abbrev pub decreases-are_files : goal.decreases-are_files
decreases-are_files l = length l.words.now
