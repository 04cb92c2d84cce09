use Rattle.vm_turn.proofs.Posted.{posts-keep_authority}
use Rattle.vm_turn.proofs.laws.posts_keep_authority.Goals as goal

pub returns : goal.returns
returns c = posts-keep_authority
