use Rattle.std.proofs.Common.{◌≤◌, length, subst, sym}
use Rattle.std.proofs.lemmas.Result.{on_ok_weaker}
use Rattle.hum_scope.proofs.NameLists.{extended, all_behind, where_ok}
use Rattle.hum_scope.proofs.names.Names.extend.Goals as goal

pub returns : goal.returns
returns c =
    let xs = c.self.inside.names.items in
    let e = extended (λ x. x.now) xs c.names.inside.names.items c.args.from (subst (λ names. c.args.from ≤ length names) (sym c.names.view_is) c.requires) in
    on_ok_weaker c.extend_from_slice.result (λ items. cc (e, all_behind c.names.inside.names.items c.args.from, items, c.deref.ensures.value, c.self.view_is, c.names.view_is)) (where_ok _ _ _ c.extend_from_slice.result c.extend_from_slice.ensures.items)
