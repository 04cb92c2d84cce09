use Rattle.vm_turn.proofs.Commits.{commits-keep_authority}
use Rattle.vm_turn.proofs.laws.commits_keep_authority.Goals as goal

pub returns : goal.returns
returns c = commits-keep_authority
