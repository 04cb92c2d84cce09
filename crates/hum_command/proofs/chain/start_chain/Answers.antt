use Rattle.std.proofs.Common.{◌∙◌, IfOk, IfErr, ℕ, List, subst}
use Rattle.hum_command.specs.TextRuns.{StartsText}
use Rattle.hum_command.specs.TextRefusals.{TextFails}
use Rattle.hum_command.proofs.chain.start_chain.Goals as goal

pub returns-in-Ok-clause-starts : goal.returns-in-Ok-clause-starts
returns-in-Ok-clause-starts c =
    subst (λ (t : List ℕ). IfOk c.start_text.result (StartsText t c.args.keys)) (c.deref.ensures.value ∙ c.in-Ok.ensures.value) c.start_text.ensures.starts

pub returns-in-Ok-clause-fails : goal.returns-in-Ok-clause-fails
returns-in-Ok-clause-fails c =
    subst (λ (t : List ℕ). IfErr c.start_text.result (TextFails t)) (c.deref.ensures.value ∙ c.in-Ok.ensures.value) c.start_text.ensures.fails
