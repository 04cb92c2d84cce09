use Rattle.hum_core.proofs.ScopedFiles.{scoped-files-stand}
use Rattle.hum_core.proofs.laws.scoped_files_stand.Goals as goal

pub returns : goal.returns
returns c = scoped-files-stand
