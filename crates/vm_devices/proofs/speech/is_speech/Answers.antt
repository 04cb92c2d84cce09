use Rattle.std.proofs.Common.{◌≡◌, ℕ, true, false, not, Option, Some, None, is_some, refl, sym, ap, ◌∙◌}
use Rattle.cap_words.specs.Seen.{seen}
use Rattle.vm_devices.proofs.Speeches.{hearing_more, hearing_stop, hearing_left, hearing_last}
use Rattle.vm_devices.proofs.speech.is_speech.Goals as goal

none_is : (o : Option ℕ) → is_some o ≡ false → o ≡ None
none_is None h = refl
none_is (Some c) h = cc

some_is : (o : Option ℕ) → is_some o ≡ true → (c : ℕ) × (o ≡ Some c)
some_is None h = cc
some_is (Some c) h = (c, refl)

pub loop-q-init : goal.loop-q-init
loop-q-init c = record { small = c.requires; same = refl }

pub returns-then-is_none : goal.returns-then-is_none
returns-then-is_none c =
    let none = none_is c.character.result (c.is_none.ensures ∙ ap not c.if-is_none.true) in
    sym (hearing_stop (seen c.args.quads.now.store) c.args.word c.loop-q.rest c.loop-q.invariant c.in-Some.q (sym c.pair.ensures ∙ c.in-Some.is) (sym c.character.ensures ∙ none))

pub loop-q-smaller : goal.loop-q-smaller
loop-q-smaller c = hearing_left (seen c.args.quads.now.store) c.args.word c.loop-q.rest c.loop-q.invariant c.in-Some.q (sym c.pair.ensures ∙ c.in-Some.is)

pub loop-q-preserved : goal.loop-q-preserved
loop-q-preserved c =
    let some = some_is c.character.result (c.is_none.ensures ∙ ap not c.if-is_none.false) in
    hearing_more (seen c.args.quads.now.store) c.args.word c.loop-q.rest c.loop-q.invariant c.in-Some.q (sym c.pair.ensures ∙ c.in-Some.is) some.0 (sym c.character.ensures ∙ some.1)

pub returns : goal.returns
returns c = c.is_same.ensures ∙ hearing_last (seen c.args.quads.now.store) c.args.word c.loop-q.rest c.loop-q.invariant (sym c.pair.ensures ∙ c.in_default.is)
