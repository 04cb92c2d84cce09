use Rattle.std.proofs.Common.{ℤ, ◌∙◌, ap, ap₂}
use Rattle.cap_words.specs.Words.{truth}
use Rattle.cap_words.proofs.Ranges.{in_range-cast}
use Rattle.instr_table.specs.Arithmetic.{order}
use Rattle.vm_step.proofs.Casts.{numbers-are}
use Rattle.vm_step.proofs.arithmetic.ordered.Goals as goal

pub returns-in-Some-Some : goal.returns-in-Some-Some
returns-in-Some-Some c =
    let k = c.args.k.now in
    let a = c.in-Some-Some.ensures in
    let b = c.in-Some-Some.ensures' in
    c.truth.ensures
    ∙ ap truth (c.in_order.ensures ∙ ap₂ (order k) (in_range-cast c.in-Some-Some.n a.in_range) (in_range-cast c.in-Some-Some.m b.in_range))
    ∙ numbers-are (λ (n m : ℤ). truth (order k n m)) c.args.v c.args.w c.in-Some-Some.n c.in-Some-Some.m a.value b.value
