use Rattle.std.proofs.Common.{◌≡◌, ◌≤◌, length, map, string_bytes}
use Rattle.hum_command.specs.LinkParts.{gathered}
use Rattle.hum_command.proofs.Gathers.{Gathers}
use Rattle.hum_command.proofs.link.read_files.Given as goal

abbrev pub invariant-loop-rest : goal.invariant-loop-rest
invariant-loop-rest g l = record {
  gathers : Gathers (g.F.Folder.files l.fn.files) (map string_bytes l.names) (map string_bytes l.rest) (gathered l.all);
  files : g.F.Folder.files l.files ≡ g.F.Folder.files l.fn.files;
  later : g.F.Folder.faults l.fn.files ≤ g.F.Folder.faults l.files;
}

abbrev pub decreases-loop-rest : goal.decreases-loop-rest
decreases-loop-rest g l = length l.rest
