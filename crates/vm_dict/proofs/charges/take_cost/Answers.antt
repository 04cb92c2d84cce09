use Rattle.cap_words.specs.Seen.{seen}
use Rattle.vm_dict.proofs.Turns.{length-taking_some, length-taking_none}
use Rattle.vm_dict.proofs.charges.take_cost.Goals as goal

pub returns-in-Some : goal.returns-in-Some
returns-in-Some c = λ n. length-taking_some (seen c.args.quads.now.store) n c.args.near c.args.far c.in-Some.field-0 c.in-Some.ensures

pub returns-in-None : goal.returns-in-None
returns-in-None c = λ n. length-taking_none (seen c.args.quads.now.store) n c.args.near c.args.far c.item_count.result c.in-None.ensures c.item_count.ensures.count
