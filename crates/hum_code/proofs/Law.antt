-- Each event follows its delivery.
use Rattle.std.proofs.Common.{sym, subst, []}
use Rattle.hum_meaning.specs.Value.{Function}
use Rattle.hum_core.specs.Numbered.{Opening}
use Rattle.cap_words.specs.Words.{W}
use Rattle.instr_table.specs.Event.{no_effects}
use Rattle.hum_code.specs.Bounds.{limits}
use Rattle.hum_code.specs.Comes.{point}
use Rattle.hum_core.specs.Openings.{outermost}
use Rattle.hum_code.specs.Laws.{delivery, EventsFollow, OpeningsFollow}
use Rattle.hum_code.proofs.Results.{Gets}
use Rattle.hum_code.proofs.Committing.{Committed}
use Rattle.hum_code.proofs.Deliveries.{delivery_comes, opening_comes}
use Rattle.hum_code.proofs.Following.{follows_delivery}

pub events_follow : EventsFollow
events_follow em behaviour v code bs vs =
    follows_delivery em (delivery em behaviour v) (λ s.
    subst (λ (a : W). Gets em (limits s) (Committed em (limits s)) (delivery em behaviour v s) em.setting.base (point a [] no_effects 0 0))
    (sym code)
    (delivery_comes em behaviour v bs vs s))

pub openings_follow : OpeningsFollow
openings_follow em v code opens =
    follows_delivery em (delivery em (Function Opening outermost) v) (λ s.
    subst (λ (a : W). Gets em (limits s) (Committed em (limits s)) (delivery em (Function Opening outermost) v s) em.setting.base
    (point a [] no_effects 0 0)) (sym code)
    (opening_comes em v opens s))
