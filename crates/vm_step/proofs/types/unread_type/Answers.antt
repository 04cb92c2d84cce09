use Rattle.std.proofs.Common.{sym, ◌∙◌}
use Rattle.cap_words.specs.Seen.{seen}
use Rattle.vm_step.proofs.Typing.{type-actor, type-sponsor, type-plain}
use Rattle.vm_step.proofs.types.unread_type.Goals as goal

pub returns-then-is_actor : goal.returns-then-is_actor
returns-then-is_actor c = sym (type-actor (seen c.args.quads.now.store) c.args.w (sym c.is_actor.ensures ∙ c.if-is_actor.true))

pub returns-then-is_sponsor : goal.returns-then-is_sponsor
returns-then-is_sponsor c = sym (type-sponsor (seen c.args.quads.now.store) c.args.w (sym c.is_sponsor.ensures ∙ c.if-is_sponsor.true))

pub returns : goal.returns
returns c =
    c.plain_type.ensures
    ∙ sym (type-plain (seen c.args.quads.now.store) c.args.w c.requires.unread (sym c.is_actor.ensures ∙ c.if-is_actor.false) (sym c.is_sponsor.ensures ∙ c.if-is_sponsor.false))
