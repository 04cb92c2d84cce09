use Rattle.std.proofs.Common.{◌≡◌, ap, sym, subst, [], ◌∷◌, None}
use Rattle.std.specs.Prelude.{IfSome}
use Rattle.cap_words.specs.Store.{Store, cap_place}
use Rattle.cap_words.specs.Seen.{seen, altered}
use Rattle.cap_words.specs.Frame.{Framed}
use Rattle.quad_memory.specs.Memory.{Memory}
use Rattle.quad_memory.specs.Cells.{actor_at}
use Rattle.vm_effects.specs.Actors.{idle_cell, actor_slot}
use Rattle.vm_effects.proofs.Ends.{end-seen, end-framed}
use Rattle.vm_effects.proofs.effects.Effects.drop_all.Goals as goal

pub returns : goal.returns
returns c =
    let s = c.args.quads.now.store in
    let actor = c.args.actor in
    let is = sym (ap (λ (m : Memory). m.store) c.end_event.ensures) in
    record {
      seen = subst (λ (t : Store). IfSome (actor_at s actor) (λ b. seen t ≡ altered (seen s) (cap_place actor) (actor_slot (idle_cell None b)))) is (end-seen s None actor);
      frame = subst (λ (t : Store). Framed s t (actor ∷ [])) is (end-framed s None actor);
      room = ap (λ (m : Memory). m.room) c.end_event.ensures;
    }
