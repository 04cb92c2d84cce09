use Rattle.hum_code.proofs.Standing.{longer_by, stands_later, env_later}
use Rattle.hum_code.proofs.laws.standing_stays.Goals as goal

pub returns : goal.returns
returns c = λ lay s t roll more g. record {
  values = stands_later lay s t roll _ g (longer_by roll more);
  environments = env_later lay s t roll _ g (longer_by roll more);
}
