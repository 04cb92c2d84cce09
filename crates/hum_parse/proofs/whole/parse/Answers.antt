use Rattle.std.proofs.Common.{◌≡◌, ◌≤◌, ◌-◌, arith, length, ap, sym, ◌∙◌, subst, inl, Ok, Err}
use Rattle.hum_syntax.specs.Spells.{IsStmts, deepest, kinds}
use Rattle.hum_syntax.proofs.FormedTrees.{spelled_formed, carried_kinds}
use Rattle.hum_parse.specs.Begins.{RefusedAt}
use Rattle.hum_parse.specs.Rules.{program}
use Rattle.hum_parse.proofs.Answered.{shorter_whole, refused_whole, only_tree, no_tree, found_whole, kinds_length}
use Rattle.hum_parse.proofs.whole.parse.Goals as goal

refused : (c : goal.After-len) → program deepest (kinds c.args.tokens.now) ≡ Err c.program.new.tokens
refused c = ap (program deepest) (sym c.new-rest.ensures) ∙ (rw c.in-Err-Refused.field-0-is at c.in-Err-Refused.ensures)

pub overflow_sub-result : goal.overflow_sub-result
overflow_sub-result c =
    let short : length c.program.new.tokens ≤ length (kinds c.args.tokens.now) =
    shorter_whole (kinds c.args.tokens.now) c.program.new.tokens (refused c) in
    omega (arith, c.len.ensures, kinds_length c.args.tokens.now)

pub invariant_of-result : goal.invariant_of-result
invariant_of-result c = record {
  formed = spelled_formed deepest (kinds c.args.tokens.now) c.in-Ok.statements
      (found_whole (kinds c.args.tokens.now) c.in-Ok.statements c.program.new.tokens
      (ap (program deepest) (sym c.new-rest.ensures) ∙ c.in-Ok.ensures)) (carried_kinds c.args.tokens.now);
}

pub returns-in-Ok-clause-found : goal.returns-in-Ok-clause-found
returns-in-Ok-clause-found c = found_whole (kinds c.args.tokens.now) c.in-Ok.statements c.program.new.tokens
    (ap (program deepest) (sym c.new-rest.ensures) ∙ c.in-Ok.ensures)

pub returns-in-Ok-clause-only : goal.returns-in-Ok-clause-only
returns-in-Ok-clause-only c = λ other h. inl
    (ap (λ z. Ok z) (only_tree (kinds c.args.tokens.now) _ c.program.new.tokens
    (ap (program deepest) (sym c.new-rest.ensures) ∙ c.in-Ok.ensures) other h))

pub returns-in-Err-Refused-clause-refused : goal.returns-in-Err-Refused-clause-refused
returns-in-Err-Refused-clause-refused c = λ at e.
    let place : length c.args.tokens.now - c.len.result ≡ at = cc in
    let size : length (kinds c.args.tokens.now) - length c.program.new.tokens ≡ at = omega (arith, c.len.ensures, kinds_length c.args.tokens.now)
    in subst (RefusedAt (IsStmts deepest) (kinds c.args.tokens.now)) size (refused_whole (kinds c.args.tokens.now) c.program.new.tokens (refused c))

pub returns-in-Err-Refused-clause-only : goal.returns-in-Err-Refused-clause-only
returns-in-Err-Refused-clause-only c = λ tree h. absurd (no_tree (kinds c.args.tokens.now) c.program.new.tokens (refused c) tree h)
