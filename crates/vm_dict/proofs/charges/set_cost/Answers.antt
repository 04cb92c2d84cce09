use Rattle.std.proofs.Common.{arith}
use Rattle.cap_words.specs.Seen.{seen}
use Rattle.vm_dict.proofs.Copies.{length-set, length-set_none}
use Rattle.vm_dict.proofs.charges.set_cost.Goals as goal

pub returns-in-Some : goal.returns-in-Some
returns-in-Some c = λ n value. let l = length-set (seen c.args.quads.now.store) n c.args.dict c.args.key value c.in-Some.f c.in-Some.ensures.found in omega arith

pub returns-in-None : goal.returns-in-None
returns-in-None c = λ n value. let l = length-set_none (seen c.args.quads.now.store) n c.args.dict c.args.key value c.in-None.ensures.found in omega arith
