use Rattle.vm_turn.proofs.Images.{flights-fit}
use Rattle.vm_turn.proofs.laws.flights_fit_lanes.Goals as goal

pub returns : goal.returns
returns c = flights-fit
