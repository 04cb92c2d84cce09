use Rattle.parts_tests.proofs.effects.with_behaviour.Goals as goal

pub returns : goal.returns
returns g c = λ s. c.become_with-second.ensures.linked s (c.become_with-first.ensures.linked s (c.begin-effects.ensures.linked s))
