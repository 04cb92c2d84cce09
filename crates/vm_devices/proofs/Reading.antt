-- What programs read, as it is seen.
use Rattle.cap_words.proofs.Erased.{cell-seen}

pub ruleset reading = (cell-seen)
