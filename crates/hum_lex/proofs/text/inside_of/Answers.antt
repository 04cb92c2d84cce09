use Rattle.std.proofs.Common.{subst, sym, arith, drop, ◌+◌}
use Rattle.hum_lex.specs.Fronts.{IsPointAt}
use Rattle.hum_lex.proofs.Insides.{IsInsideAt, inside_more, inside_within, rest_is}
use Rattle.hum_lex.proofs.Points.{point_len}
use Rattle.hum_lex.proofs.text.inside_of.Goals as goal

pub loop-at-smaller : goal.loop-at-smaller
loop-at-smaller c = let some = point_len _ _ _ c.in-Some.ensures in omega arith

pub loop-at-preserved : goal.loop-at-preserved
loop-at-preserved c =
    let bytes = c.args.bytes.now in
    let at = c.loop-at.at in
    let point : IsPointAt (drop at bytes) c.in-Some.c c.in-Some.len = subst (λ xs. IsPointAt xs c.in-Some.c c.in-Some.len) (rest_is bytes at) c.in-Some.ensures in
    record {
      read = subst (IsInsideAt bytes (at + c.in-Some.len)) (sym c.in_ok-push-in-Some.ensures.items) (inside_more bytes at c.loop-at.points.items c.in-Some.c c.in-Some.len c.loop-at.invariant.read point);
      within = inside_within bytes at c.in-Some.c c.in-Some.len c.loop-at.invariant.within point;
    }
