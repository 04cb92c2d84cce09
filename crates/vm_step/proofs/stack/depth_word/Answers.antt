use Rattle.std.proofs.Common.{◌∙◌, sym, ap, ℕ, pos}
use Rattle.cap_words.specs.Words.{Fix}
use Rattle.cap_words.specs.Seen.{seen}
use Rattle.vm_step.proofs.Stacks.{length-values}
use Rattle.vm_step.proofs.stack.depth_word.Goals as goal

pub returns : goal.returns
returns c = c.count_word.ensures ∙ ap (λ (n : ℕ). Fix (pos n)) (sym (length-values (seen c.args.quads.now.store) c.args.lane.now.depth c.args.lane.now.stack))
