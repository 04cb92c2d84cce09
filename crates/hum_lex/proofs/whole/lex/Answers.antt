use Rattle.std.proofs.Common.{false, sym, subst, ◌+◌, arith}
use Rattle.hum_syntax.specs.Tokens.{all_placed}
use Rattle.hum_lex.specs.Fronts.{IsGap, IsToken, IsFault}
use Rattle.hum_lex.proofs.Insides.{rest_is}
use Rattle.hum_lex.proofs.Wholes.{IsReached, reached_start, reached_gap, reached_token, reached_end, refused_fault, refused_only, refused_told, heavy_only, heavy_told, one_list}
use Rattle.hum_lex.proofs.whole.lex.Goals as goal

pub loop-at-init : goal.loop-at-init
loop-at-init c = subst (λ ts. IsReached c.args.bytes.now false 0 0 (all_placed ts)) (sym c.new-tokens.ensures.items) (reached_start c.args.bytes.now)

pub loop-at-preserved-in-Gap : goal.loop-at-preserved-in-Gap
loop-at-preserved-in-Gap c =
    reached_gap c.args.bytes.now c.loop-at.called c.loop-at.at c.loop-at.weighed c.in-Gap.len (all_placed c.loop-at.tokens.items) c.loop-at.invariant
    (subst (λ xs. IsGap c.loop-at.called xs c.in-Gap.len) (rest_is c.args.bytes.now c.loop-at.at) (rw c.in-Gap.is at c.in_ok-len.ensures))

pub returns-in-Fault-clause-only : goal.returns-in-Fault-clause-only
returns-in-Fault-clause-only c ts tokens =
    refused_only c.args.bytes.now (c.loop-at.at + c.in-Fault.len) c.in-Fault.cause
    (refused_fault c.args.bytes.now c.loop-at.called c.loop-at.at c.loop-at.weighed c.in-Fault.len c.in-Fault.cause (all_placed c.loop-at.tokens.items) c.loop-at.invariant c.loop-at-test.true
    (subst (λ xs. IsFault c.loop-at.called xs c.in-Fault.len c.in-Fault.cause) (rest_is c.args.bytes.now c.loop-at.at) (rw c.in-Fault.is at c.in_ok-len.ensures)))
    _ ts tokens

pub returns-in-Fault-clause-refused : goal.returns-in-Fault-clause-refused
returns-in-Fault-clause-refused c at why same =
    refused_told c.args.bytes.now (c.loop-at.at + c.in-Fault.len) c.in-Fault.cause
    (refused_fault c.args.bytes.now c.loop-at.called c.loop-at.at c.loop-at.weighed c.in-Fault.len c.in-Fault.cause (all_placed c.loop-at.tokens.items) c.loop-at.invariant c.loop-at-test.true
    (subst (λ xs. IsFault c.loop-at.called xs c.in-Fault.len c.in-Fault.cause) (rest_is c.args.bytes.now c.loop-at.at) (rw c.in-Fault.is at c.in_ok-len.ensures)))
    at why cc

pub returns-clause-only : goal.returns-clause-only
returns-clause-only c ts tokens = one_list c.args.bytes.now (all_placed c.loop-at.tokens.items) ts
    (reached_end c.args.bytes.now c.loop-at.called c.loop-at.at c.loop-at.weighed (all_placed c.loop-at.tokens.items) c.loop-at.invariant c.loop-at-test.false).lexes tokens.lexes

pub returns-in-Err-clause-only : goal.returns-in-Err-clause-only
returns-in-Err-clause-only c ts tokens =
    heavy_only c.args.bytes.now c.loop-at.called c.loop-at.at c.loop-at.weighed c.in-Token.len c.in-Token.kind (all_placed c.loop-at.tokens.items) c.loop-at.invariant c.loop-at-test.true
    (subst (λ xs. IsToken c.loop-at.called xs c.in-Token.len c.in-Token.kind) (rest_is c.args.bytes.now c.loop-at.at) (rw c.in-Token.is at c.in_ok-len.ensures))
    c.in-Err.e c.in-Err.ensures.heavy ts tokens

pub returns-in-Err-clause-refused : goal.returns-in-Err-clause-refused
returns-in-Err-clause-refused c at why same =
    heavy_told c.args.bytes.now c.loop-at.called c.loop-at.at c.loop-at.weighed c.in-Token.len c.in-Token.kind (all_placed c.loop-at.tokens.items) c.loop-at.invariant c.loop-at-test.true
    (subst (λ xs. IsToken c.loop-at.called xs c.in-Token.len c.in-Token.kind) (rest_is c.args.bytes.now c.loop-at.at) (rw c.in-Token.is at c.in_ok-len.ensures))
    c.in-Err.e c.in-Err.ensures.heavy at why cc

pub loop-at-preserved : goal.loop-at-preserved
loop-at-preserved c =
    let bytes = c.args.bytes.now in
    let to = c.loop-at.at + c.in-Token.len in
    rw (c.is_callee-called.ensures, c.in-Ok.ensures.weight.0, c.in-Ok.ensures.pushed)
    (reached_token bytes c.loop-at.called c.loop-at.at c.loop-at.weighed c.in-Token.len c.in-Token.kind (all_placed c.loop-at.tokens.items) c.loop-at.invariant
    (subst (λ xs. IsToken c.loop-at.called xs c.in-Token.len c.in-Token.kind) (rest_is bytes c.loop-at.at) (rw c.in-Token.is at c.in_ok-len.ensures))
    (let w = c.in-Ok.ensures.weight in omega arith))
