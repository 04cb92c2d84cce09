use Rattle.std.proofs.Common.{arith, subst, sym, ◌-◌}
use Rattle.hum_parse.specs.declared.grammar.Form.TheVariants as form
use Rattle.hum_parse.specs.Input.{Reads}
use Rattle.hum_parse.proofs.Inside.{inside_term}
use Rattle.hum_parse.proofs.grammar.Grammar.inner_term.Goals as goal

pub returns : goal.returns
returns g c =
    subst (λ rule. Reads (rule c.args.tokens.now) c.below.result c.below.new.arg3) (sym (inside_term c.args.n c.requires.level))
    (c.requires.nests.reads _ _ _ (c.args.n - 1) form.Term _ (omega arith) c.below.ensures)
