use Rattle.std.proofs.Common.{◌≤◌, length, subst, sym}
use Rattle.hum_scope.specs.Entries.{marked}
use Rattle.hum_scope.proofs.NameLists.{truncated}
use Rattle.hum_scope.proofs.sight.Sight.truncate.Goals as goal

pub returns : goal.returns
returns c =
    let e = truncated marked c.self.inside.entries.items c.args.len (subst (λ entries. c.args.len ≤ length entries) (sym c.self.view_is) c.requires) in
    cc (e, c.truncate.ensures.items, c.self.view_is)
