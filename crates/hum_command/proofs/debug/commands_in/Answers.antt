use Rattle.std.proofs.Common.{◌≤◌, IfSome, length, subst, ap, arith}
use Rattle.hum_command.proofs.debug.commands_in.Goals as goal

pub read_script-requires : goal.read_script-requires
read_script-requires c =
    let short = subst (λ o. IfSome o (λ v. length v.items ≤ 1048576)) c.in-Some.is c.requires in
    omega (arith, ap length c.deref.ensures.value, short)
