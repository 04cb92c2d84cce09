use Rattle.parts_tests.proofs.effects.a_dropped_event_changes_its_actors_mark_alone.Goals as goal

pub send-requires : goal.send-requires
send-requires g c = c.with_behaviour-effects.ensures c.in_ok-quads.quads.store
