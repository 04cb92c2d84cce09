use Rattle.hum_meaning.proofs.JudgedNames.{each-name-is-judged}
use Rattle.hum_meaning.proofs.laws.each_name_is_judged.Goals as goal

pub returns : goal.returns
returns c = each-name-is-judged
