use Rattle.parts_tests.proofs.effects.a_commit_hands_out_both_lists.Goals as goal

pub send-requires : goal.send-requires
send-requires g c = c.with_behaviour-effects.ensures c.in_ok-quads.quads.store
