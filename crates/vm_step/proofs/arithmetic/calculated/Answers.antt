use Rattle.std.proofs.Common.{◌≡◌, ℤ, pos, ◌*ℤ◌, ◌∙◌, ap₂}
use Rattle.cap_words.specs.Fixnums.{wrap}
use Rattle.cap_words.proofs.Ranges.{in_range-cast}
use Rattle.std.proofs.lemmas.Nat.{or_lt, xor_lt}
use Rattle.vm_step.proofs.Casts.{int-differs, product-last}
use Rattle.vm_step.proofs.arithmetic.calculated.Goals as goal

pub of_low_bits-requires-then-k-eq2 : goal.of_low_bits-requires-then-k-eq2
of_low_bits-requires-then-k-eq2 c = or_lt 31 c.low_bits-then-k-eq2.result c.low_bits-then-k-eq2-2.result c.low_bits-then-k-eq2.ensures.below c.low_bits-then-k-eq2-2.ensures.below

pub of_low_bits-requires-then-k-eq3 : goal.of_low_bits-requires-then-k-eq3
of_low_bits-requires-then-k-eq3 c = xor_lt 31 c.low_bits-then-k-eq3.result c.low_bits-then-k-eq3-2.result c.low_bits-then-k-eq3.ensures.below c.low_bits-then-k-eq3-2.ensures.below

pub returns-else-k-eq5-clause-value : goal.returns-else-k-eq5-clause-value
returns-else-k-eq5-clause-value c =
    let x = in_range-cast c.wrap_mul.result c.wrap_mul.ensures.in_range in
    let n = in_range-cast c.args.n c.requires.n_in in
    let m = in_range-cast c.args.m c.requires.m_in in
    let v : c.wrap_mul.result ≡ wrap (c.args.n *ℤ c.args.m) = c.wrap_mul.ensures.value ∙ ap₂ (λ (a b : ℤ). wrap (a *ℤ b)) n m in
    let k = c.args.k.now in
    x ∙ v ∙ product-last k c.args.n c.args.m (int-differs k (pos 1) c.if-k-eq1.false) (int-differs k (pos 2) c.if-k-eq2.false) (int-differs k (pos 3) c.if-k-eq3.false) (int-differs k (pos 4) c.if-k-eq4.false) (int-differs k (pos 5) c.if-k-eq5.false)
