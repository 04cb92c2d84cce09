use Rattle.std.proofs.Common.{◌≡◌, ap, sym, subst, [], ◌∷◌}
use Rattle.std.specs.Prelude.{IfSome}
use Rattle.cap_words.specs.Store.{Store, cap_place}
use Rattle.cap_words.specs.Seen.{seen, altered}
use Rattle.cap_words.specs.Frame.{Framed}
use Rattle.quad_memory.specs.Memory.{Memory}
use Rattle.quad_memory.specs.Cells.{actor_at}
use Rattle.instr_table.specs.Event.{Effects}
use Rattle.vm_effects.specs.Actors.{idle_cell, actor_slot}
use Rattle.vm_effects.specs.Gathered.{next_of}
use Rattle.vm_effects.proofs.Ends.{end-seen, end-framed, end-kept}
use Rattle.vm_effects.proofs.effects.Effects.commit.Goals as goal

pub returns : goal.returns
returns c =
    let s = c.args.quads.now.store in
    let actor = c.args.actor in
    let next = next_of c.args.self in
    let after = ap (λ (m : Memory). m.store) c.end_event.ensures in
    let kept = end-kept s c.end_event.new.quads.store c.args.self next actor c.requires.linked c.requires.actor c.requires.other after in
    record {
      seen = subst (λ (t : Store). IfSome (actor_at s actor) (λ b. seen t ≡ altered (seen s) (cap_place actor) (actor_slot (idle_cell next b)))) (sym after) (end-seen s next actor);
      sent = ap (λ (e : Effects). e.sent) kept.0;
      created = ap (λ (e : Effects). e.created) kept.0;
      sent_linked = kept.1.sent.listed;
      created_linked = kept.1.created.listed;
      frame = subst (λ (t : Store). Framed s t (actor ∷ [])) (sym after) (end-framed s next actor);
      room = ap (λ (m : Memory). m.room) c.end_event.ensures;
    }
