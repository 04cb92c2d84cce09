use Rattle.std.proofs.Common.{◌≤◌, length, subst, sym}
use Rattle.hum_scope.proofs.NameLists.{truncated}
use Rattle.hum_scope.proofs.names.Names.truncate.Goals as goal

pub returns : goal.returns
returns c =
    let e = truncated (λ x. x.now) c.self.inside.names.items c.args.len (subst (λ names. c.args.len ≤ length names) (sym c.self.view_is) c.requires) in
    cc (e, c.truncate.ensures.items, c.self.view_is)
