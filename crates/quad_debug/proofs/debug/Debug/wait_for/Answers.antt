use Rattle.std.proofs.Common.{◌≡◌, ◌∙◌, ◌+◌, ap, subst, nat_eq, ℕ, Bool}
use Rattle.std.specs.Prelude.{◌||◌, not}
use Rattle.vm_machine.specs.Machine.{Machine}
use Rattle.hum_outside.specs.Outside.{AppendsFront, appended}
use Rattle.hum_outside.proofs.Fronts.{on_err}
use Rattle.quad_debug.specs.Obeys.{state_at, told_at, met_at, is_met, ending, ending_at, tells_rest}
use Rattle.quad_debug.proofs.Counting.{none-taken}
use Rattle.quad_debug.proofs.Going.{broke-last, broke-more, took-last, told-holds}
use Rattle.quad_debug.proofs.debug.Debug.wait_for.Goals as goal

pub returns-in_err-met-clause-breaks : goal.returns-in_err-met-clause-breaks
returns-in_err-met-clause-breaks g c =
    let w = g.K.Sink.written in
    let m = c.args.self.now.machine in
    on_err c.from_residual.result
    (broke-more (met_at m c.args.wait) (told_at m) (ending_at m c.args.wait) c.args.self.now c.walk.new.self (w c.args.out.now) (w c.walk.new.out) (told-holds m) c.in_err-met.ensures.breaks)

pub returns-in_err-put_ending-clause-breaks : goal.returns-in_err-put_ending-clause-breaks
returns-in_err-put_ending-clause-breaks g c =
    let w = g.K.Sink.written in
    let old = c.args.self.now in
    let m = old.machine in
    let new = c.walk.new.self in
    let took = c.in_ok-met.ensures.runs in
    let k = took.turns in
    let s = state_at m (m.turns + k) in
    let met : c.in_ok-met.met ≡ is_met c.args.wait s = c.in_ok-met.ensures.met ∙ ap (is_met c.args.wait) took.machine.state in
    let before : c.turns-turns.result ≡ m.turns = c.turns-turns.ensures.value ∙ ap (λ (x : Machine). x.turns) c.machine.ensures in
    let after : c.turns.result ≡ m.turns + k = c.turns.ensures.value ∙ ap (λ (x : Machine). x.turns) c.machine-2.ensures ∙ took.machine.turns_are in
    let count : nat_eq c.turns.result c.turns-turns.result ≡ nat_eq k 0 = ap (λ (n : ℕ). nat_eq c.turns.result n) before ∙ none-taken m.turns c.turns.result k after in
    let rests : c.is_rest_told-rests.result ≡ tells_rest c.args.wait k s = c.is_rest_told-rests.ensures ∙ ap (λ (b : Bool). b || not c.in_ok-met.met) count ∙ ap (λ (b : Bool). nat_eq k 0 || not b) met in
    let here : c.machine-3.result.now.state ≡ s = ap (λ (x : Machine). x.state) c.machine-3.ensures ∙ took.machine.state in
    let text : ending c.args.wait c.is_rest_told-rests.result c.machine-3.result.now.state ≡ ending_at m c.args.wait k = ap (λ (b : Bool). ending c.args.wait b c.machine-3.result.now.state) rests ∙ ap (ending c.args.wait (tells_rest c.args.wait k s)) here in
    on_err c.from_residual-in_err-put_ending.result
    (broke-last (met_at m c.args.wait) (told_at m) (ending_at m c.args.wait) old new (w c.args.out.now) (w c.walk.new.out) (told-holds m) took (w c.put_ending.new.out)
    (subst (AppendsFront (w c.walk.new.out) (w c.put_ending.new.out)) text c.in_err-put_ending.ensures.front))

pub returns-clause-waits : goal.returns-clause-waits
returns-clause-waits g c =
    let w = g.K.Sink.written in
    let old = c.args.self.now in
    let m = old.machine in
    let new = c.walk.new.self in
    let took = c.in_ok-met.ensures.runs in
    let k = took.turns in
    let s = state_at m (m.turns + k) in
    let met : c.in_ok-met.met ≡ is_met c.args.wait s = c.in_ok-met.ensures.met ∙ ap (is_met c.args.wait) took.machine.state in
    let before : c.turns-turns.result ≡ m.turns = c.turns-turns.ensures.value ∙ ap (λ (x : Machine). x.turns) c.machine.ensures in
    let after : c.turns.result ≡ m.turns + k = c.turns.ensures.value ∙ ap (λ (x : Machine). x.turns) c.machine-2.ensures ∙ took.machine.turns_are in
    let count : nat_eq c.turns.result c.turns-turns.result ≡ nat_eq k 0 = ap (λ (n : ℕ). nat_eq c.turns.result n) before ∙ none-taken m.turns c.turns.result k after in
    let rests : c.is_rest_told-rests.result ≡ tells_rest c.args.wait k s = c.is_rest_told-rests.ensures ∙ ap (λ (b : Bool). b || not c.in_ok-met.met) count ∙ ap (λ (b : Bool). nat_eq k 0 || not b) met in
    let here : c.machine-3.result.now.state ≡ s = ap (λ (x : Machine). x.state) c.machine-3.ensures ∙ took.machine.state in
    let text : ending c.args.wait c.is_rest_told-rests.result c.machine-3.result.now.state ≡ ending_at m c.args.wait k = ap (λ (b : Bool). ending c.args.wait b c.machine-3.result.now.state) rests ∙ ap (ending c.args.wait (tells_rest c.args.wait k s)) here in
    took-last (met_at m c.args.wait) (told_at m) (ending_at m c.args.wait) old new (w c.args.out.now) (w c.walk.new.out) (told-holds m) took (w c.put_ending.new.out)
    (c.in_ok-put_ending.ensures.all ∙ ap (appended (w c.walk.new.out)) text)
