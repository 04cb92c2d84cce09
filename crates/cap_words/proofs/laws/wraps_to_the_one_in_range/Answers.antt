use Rattle.cap_words.proofs.Wrapping.{wraps-to_the_one}
use Rattle.cap_words.proofs.laws.wraps_to_the_one_in_range.Goals as goal

pub returns : goal.returns
returns c = wraps-to_the_one
