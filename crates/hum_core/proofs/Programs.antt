-- The program of a file means what the file means.
use Rattle.std.proofs.Common.{List}
use Rattle.hum_syntax.specs.declared.tree.Stmt.{Stmt}
use Rattle.hum_meaning.specs.After as after
use Rattle.hum_meaning.specs.Written.{humus}
use Rattle.hum_core.specs.Agreement.{Resolution}
use Rattle.hum_core.specs.CoreTrees.{core_language}
use Rattle.hum_core.specs.Likeness.{MeansTheSame}
use Rattle.hum_core.specs.Lowering.{Lowered}
use Rattle.hum_core.specs.Openings.{opening}
use Rattle.hum_core.specs.Programs.{program, program_language, by_reading, FileAs, ProgramsMeanTheirFiles}
use Rattle.hum_core.specs.Units.{resolved}
use Rattle.hum_core.proofs.Meant.{resolved_means, lowered_means}
use Rattle.hum_core.proofs.Opened.{resolved_opening, tested_opening}
use Rattle.hum_core.proofs.ResolvedFormed.{resolved-trees-are-formed}
use Rattle.hum_core.proofs.ScopedFiles.{scoped-files-stand}
use Rattle.hum_core.proofs.Likenesses.{means_by}
use Rattle.hum_core.proofs.Through.{means_through}

pub program_means : (file : List Stmt) → MeansTheSame (FileAs file) humus (program_language file)
program_means file =
    let units = resolved file in
    let first = Resolution units in
    let second = Lowered units (program file) in
    means_through (by_reading first) (by_reading second) humus (core_language units) (program_language file)
    (means_by first humus (core_language units) (resolved_means units).deliveries)
    (means_by second (core_language units) (program_language file) (lowered_means units (program file)).deliveries)

pub programs_mean : ProgramsMeanTheirFiles
programs_mean file formed scoped =
    let means = program_means file in
    let opens : (FileAs file).Configurations (after.opening file) opening = (
      opening,
      resolved_opening (resolved file) file (scoped-files-stand file scoped).body,
      tested_opening (resolved file) (resolved-trees-are-formed file formed),
    ) in
    record {
      opens = opens;
      means = means;
      forth = λ journal c f. means.journals.forth journal (after.opening file) c opening opens f;
      back = λ journal d f. means.journals.back journal (after.opening file) opening d opens f;
    }
