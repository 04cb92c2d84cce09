use Rattle.std.proofs.Common.{Bool, ◌≤◌, IfSome, length, subst, ap, arith}
use Rattle.hum_command.specs.DebugParts.{code_limit}
use Rattle.hum_command.proofs.debug.boot_code.Goals as goal

pub boot_image-requires-clause-short : goal.boot_image-requires-clause-short
boot_image-requires-clause-short c =
    let of_file = subst (λ (b : Bool). IfSome c.args.code (λ v. length v.items ≤ code_limit b)) c.in-false-Some.is-0 c.requires.short in
    let short = subst (λ o. IfSome o (λ v. length v.items ≤ 16776972)) c.in-false-Some.is-1 of_file in
    omega (arith, ap length c.deref-in-false-Some.ensures.value, short)
