use Rattle.std.proofs.Common.{ℤ, ◌∙◌, ap, ap₂}
use Rattle.cap_words.specs.Words.{Fix}
use Rattle.cap_words.proofs.Ranges.{in_range-cast}
use Rattle.instr_table.specs.Arithmetic.{calculated}
use Rattle.vm_step.proofs.Casts.{numbers-are}
use Rattle.vm_step.proofs.arithmetic.alu.Goals as goal

pub returns-in-Some-Some : goal.returns-in-Some-Some
returns-in-Some-Some c =
    let k = c.args.k.now in
    let a = c.in-Some-Some.ensures in
    let b = c.in-Some-Some.ensures' in
    let r = c.calculated.ensures in
    c.number_word.ensures
    ∙ ap Fix (in_range-cast c.calculated.result r.in_range ∙ r.value ∙ ap₂ (calculated k) (in_range-cast c.in-Some-Some.n a.in_range) (in_range-cast c.in-Some-Some.m b.in_range))
    ∙ numbers-are (λ (n m : ℤ). Fix (calculated k n m)) c.args.v c.args.w c.in-Some-Some.n c.in-Some-Some.m a.value b.value
